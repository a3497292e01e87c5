-- Which slots a group owns is moved by its own claims and releases alone.
use Rattle.std.specs.Prelude.{◌≡◌, Bool, cond, ◌&&◌, List, ℕ, zero, suc, ◌+◌, ◌-◌, ◌≤◌, ◌<◌, eqb, ltb}
use Rattle.std.proofs.Math.Path.{refl}
use Rattle.std.proofs.Common.{◌∙◌, sym, ap, true≢false, arith}
use Rattle.std.proofs.Math.Bool.{true, false}
use Rattle.std.proofs.lemmas.Bool.{eqb-false}
use Rattle.sender.specs.Epochs.{SenderCall, sender_outcome_of}
use Rattle.cards.specs.Alone.{own_in}
use Rattle.cards.specs.Calls.Call.{Claim, Release, AddSlot, RemoveSlot, Report, Lapse, StartEpoch}
use Rattle.cards.specs.Commands.{command_of, group_call_of, sent_of}
use Rattle.cards.specs.Answers.{Answer as A}
use Rattle.cards.specs.declared.card.Card.{Card}
use Rattle.cards.specs.Answers.{CardOutcome}
use Rattle.cards.specs.Laws.Seeing.{own_is, owners_outcome}
use Rattle.cards.specs.Owners.{mark_of, owner_in}
use Rattle.cards.specs.Parts.{is_slot, owns, refused, sender_of}
use Rattle.cards.specs.Theorems.Apart.{others_keep}
use Rattle.cards.specs.Views.{Asked, Made, View, card_after, view_of}
use Rattle.cards.specs.Views.Asked.{Do, Packet, Payload, Board, Outgoing, Ranks, Owned}
use Rattle.groups.specs.Cards.{CardHistory, card_at}
use Rattle.groups.specs.Projected.{claims_or_releases, is_move}
use Rattle.groups.specs.Proofs.Running.{card_next}

module _ (c : Card) (g : ℕ) where
  sent_owners : (k : SenderCall) → (sent_of c g k).card.owners ≡ c.owners
  sent_owners k = owners_outcome c g (sender_outcome_of (sender_of c g) k)

  command_owners : (i : ℕ) (k : SenderCall) → (command_of c g i k).card.owners ≡ c.owners
  unfolding command_of
  command_owners i k = go (is_slot c g i) (owns c g i)
    where
      go : (s o : Bool) → (cond {A = CardOutcome} s (cond o (sent_of c g k) (refused c A.Owned)) (refused c A.NoSlot)).card.owners ≡ c.owners
      go true true = sent_owners k
      go true false = refl
      go false o = refl

  group_owners : (k : SenderCall) → (group_call_of c g k).card.owners ≡ c.owners
  unfolding group_call_of
  group_owners k = go (ltb g 2)
    where
      go : (b : Bool) → (cond {A = CardOutcome} b (sent_of c g k) (refused c A.NoSlot)).card.owners ≡ c.owners
      go true = sent_owners k
      go false = refl

  owners_kept : (a : Asked) → claims_or_releases a ≡ false → (card_after c g a).owners ≡ c.owners
  owners_kept (Do (Claim i)) e = absurd (true≢false e)
  owners_kept (Do (Release i)) e = absurd (true≢false e)
  owners_kept (Do (AddSlot i)) e = command_owners i _
  owners_kept (Do (RemoveSlot i)) e = command_owners i _
  owners_kept (Do (Report n mst ack)) e = group_owners _
  owners_kept (Do Lapse) e = group_owners _
  owners_kept (Do (StartEpoch gid mst ack)) e = group_owners _
  owners_kept (Packet i h4) e = refl
  owners_kept (Payload i p frame member) e = refl
  owners_kept Board e = refl
  owners_kept Outgoing e = refl
  owners_kept Ranks e = refl
  owners_kept Owned e = refl

by_owners : (c d : Card) (g slot : ℕ) → c.owners ≡ d.owners → owns c g slot ≡ owns d g slot
unfolding owns
by_owners c d g slot e = ap (λ (row : List ℕ). eqb (owner_in row slot) (mark_of g)) e

by_view : (c d : Card) (g slot : ℕ) → slot < 64 → view_of g c ≡ view_of g d → owns c g slot ≡ owns d g slot
by_view c d g slot low e = own_is c g slot low ∙ ap (λ (v : View). own_in v slot) e ∙ sym (own_is d g slot low)

one_kept : (c : Card) (g : ℕ) → g < 2 → (m : Made) (slot : ℕ) → slot < 64 → is_move g m ≡ false → owns (card_after c m.group m.asked) g slot ≡ owns c g slot
one_kept c g hg m slot low still = go (eqb m.group g) refl still
  where
    go : (b : Bool) → eqb m.group g ≡ b → (b && claims_or_releases m.asked) ≡ false → owns (card_after c m.group m.asked) g slot ≡ owns c g slot
    go true same f = by_owners (card_after c m.group m.asked) c g slot (owners_kept c m.group m.asked f)
    go false other f = by_view (card_after c m.group m.asked) c g slot low (others_keep c g m.group m.asked hg (eqb-false m.group g other))

module _ (h : CardHistory) (g : ℕ) (hg : g < 2) (from : ℕ) (none : (n : ℕ) → from ≤ n → is_move g (h.made n) ≡ false) where
  stays_on : (k slot : ℕ) → slot < 64 → owns (card_at h (k + from)) g slot ≡ owns (card_at h from) g slot
  stays_on zero slot low = let e : zero + from ≡ from = omega arith in ap (λ (n : ℕ). owns (card_at h n) g slot) e
  stays_on (suc k) slot low =
      let e : suc k + from ≡ suc (k + from) = omega arith in
      ap (λ (n : ℕ). owns (card_at h n) g slot) e
      ∙ ap (λ (c : Card). owns c g slot) (card_next h (k + from))
      ∙ one_kept (card_at h (k + from)) g hg (h.made (k + from)) slot low (none (k + from) (omega arith))
      ∙ stays_on k slot low

  pub stays : (n slot : ℕ) → from ≤ n → slot < 64 → owns (card_at h n) g slot ≡ owns (card_at h from) g slot
  stays n slot le low = let e : n ≡ n - from + from = omega arith in ap (λ (j : ℕ). owns (card_at h j) g slot) e ∙ stays_on (n - from) slot low
