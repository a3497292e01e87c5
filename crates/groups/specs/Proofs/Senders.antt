-- A group's sender as its own history has it: between two starts of its epochs only its own calls reach it, and of these those on its table.
use Rattle.std.specs.Prelude.{◌≡◌, ◌≢◌, Bool, ◌&&◌, List, [], ◌∷◌, ◌++◌, eqb}
use Rattle.std.proofs.Math.Path.{refl, ap}
use Rattle.std.proofs.Common.{◌∙◌, sym, arith, eqb-true, lt-ltb}
use Rattle.std.proofs.Math.Bool.{true, false, cond}
use Prim.Native.Nat.{ℕ, zero, suc, ◌+◌, ◌-◌, ◌≤◌, ◌<◌}
use Rattle.std.proofs.lemmas.Bool.{eqb-false}
use Rattle.ground.specs.Table.{tabulate}
use Rattle.sender.specs.Epochs.{SenderCall, begin_of, on_table, sender_outcome_of, sender_run}
use Rattle.sender.specs.Theorems.Epochs.{refused_start}
use Rattle.sender.specs.declared.epochs.Sender.{Sender}
use Rattle.sender.specs.Calls.{Call as T}
use Rattle.sender.specs.Epochs.{SenderCall as E}
use Rattle.cards.specs.Calls.Call.{Claim, Release, AddSlot, RemoveSlot, Report, Lapse, StartEpoch}
use Rattle.cards.specs.Commands.{claim_of, command_of, group_call_of, release_of, sent_of, start_of}
use Rattle.cards.specs.Answers.{Answer as A}
use Rattle.cards.specs.declared.card.Card.{Card}
use Rattle.cards.specs.Answers.{CardOutcome}
use Rattle.cards.specs.Laws.Seeing.{sender_marked, sender_outcome}
use Rattle.cards.specs.Owners.{has_owner, mark_of}
use Rattle.cards.specs.Parts.{is_slot, is_used, marked, owns, refused, sender_of}
use Rattle.cards.specs.Theorems.Apart.{others_keep}
use Rattle.cards.specs.Views.{Asked, Made, View, card_after, run, view_of}
use Rattle.cards.specs.Views.Asked.{Do, Packet, Payload, Board, Outgoing, Ranks, Owned}
use Rattle.link.specs.History.{sender_at}
use Rattle.groups.specs.Cards.{CardHistory, card_at}
use Rattle.groups.specs.Projected.{Starts, begins, between, history_of, is_start, on_own, reaching, table_call, table_calls}
use Rattle.groups.specs.Proofs.Running.{card_from_lem, card_next}

module _ (c : Card) (g : ℕ) (hg : g < 2) where
  own_claim : (i : ℕ) → sender_of (claim_of c g i).card g ≡ sender_of c g
  unfolding claim_of
  own_claim i = go (is_slot c g i) (has_owner c.owners i)
    where
      go : (s o : Bool) → sender_of (cond s (cond o (refused c A.Owned) (marked c i (mark_of g))) (refused c A.NoSlot)).card g ≡ sender_of c g
      go true true = refl
      go true false = sender_marked c g i (mark_of g)
      go false o = refl

  own_release : (i : ℕ) → sender_of (release_of c g i).card g ≡ sender_of c g
  unfolding release_of
  own_release i = go (is_slot c g i) (owns c g i) (is_used c g i)
    where
      go : (s o u : Bool) → sender_of (cond s (cond o (cond u (refused c A.Used) (marked c i 0)) (refused c A.Owned)) (refused c A.NoSlot)).card g ≡ sender_of c g
      go true true true = refl
      go true true false = sender_marked c g i 0
      go true false u = refl
      go false o u = refl

  own_command : (i : ℕ) (t : T) → sender_of (command_of c g i (E.OnTable t)).card g ≡ sender_run (sender_of c g) (on_table (on_own c g i t))
  unfolding command_of
  own_command i t = go (is_slot c g i) (owns c g i)
    where
      go : (s o : Bool)
          → sender_of (cond s (cond o (sent_of c g (E.OnTable t)) (refused c A.Owned)) (refused c A.NoSlot)).card g
          ≡ sender_run (sender_of c g) (on_table (cond (s && o) (t ∷ []) []))
      go true true = sender_outcome c g (sender_outcome_of (sender_of c g) (E.OnTable t))
      go true false = refl
      go false o = refl

  -- a call on the whole group is its sender's call
  own_group : (k : SenderCall) → sender_of (group_call_of c g k).card g ≡ (sender_outcome_of (sender_of c g) k).sender
  unfolding group_call_of
  own_group k =
      ap (λ (b : Bool). sender_of (cond {A = CardOutcome} b (sent_of c g k) (refused c A.NoSlot)).card g) (lt-ltb g 2 hg)
      ∙ sender_outcome c g (sender_outcome_of (sender_of c g) k)

  own_call : (a : Asked) → begins a ≡ false → sender_of (card_after c g a) g ≡ sender_run (sender_of c g) (on_table (table_call c g a))
  own_call (Do (Claim i)) e = own_claim i
  own_call (Do (Release i)) e = own_release i
  own_call (Do (AddSlot i)) e = own_command i (T.AddSlot i)
  own_call (Do (RemoveSlot i)) e = own_command i (T.RemoveSlot i)
  own_call (Do (Report n mst ack)) e = own_group (E.OnTable (T.Report n mst ack))
  own_call (Do Lapse) e = own_group (E.OnTable T.Lapse)
  own_call (Do (StartEpoch gid mst ack)) e = own_group (E.StartEpoch gid mst ack) ∙ refused_start (sender_of c g) gid mst ack e
  own_call (Packet i h4) e = refl
  own_call (Payload i p frame member) e = refl
  own_call Board e = refl
  own_call Outgoing e = refl
  own_call Ranks e = refl
  own_call Owned e = refl

  other_call : (h : ℕ) (a : Asked) → h ≢ g → sender_of (card_after c h a) g ≡ sender_of c g
  unfolding view_of
  other_call h a n = ap (λ (v : View). v.sender) (others_keep c g h a hg n)

  call_on : (m : Made) → is_start g m ≡ false → sender_of (card_after c m.group m.asked) g ≡ sender_run (sender_of c g) (on_table (reaching g c m))
  call_on m none = go (eqb m.group g) refl none
    where
      go : (b : Bool) → eqb m.group g ≡ b → (b && begins m.asked) ≡ false
          → sender_of (card_after c m.group m.asked) g ≡ sender_run (sender_of c g) (on_table (cond b (table_call c g m.asked) []))
      go true same f = ap (λ (h : ℕ). sender_of (card_after c h m.asked) g) (eqb-true m.group g same) ∙ own_call m.asked f
      go false other f = other_call m.group m.asked (eqb-false m.group g other)

run_two : (s : Sender) (a b : List T) → sender_run s (on_table (a ++ b)) ≡ sender_run (sender_run s (on_table a)) (on_table b)
run_two s [] b = refl
run_two s (t ∷ a) b = run_two (sender_outcome_of s (E.OnTable t)).sender a b

run_on_lem : (g : ℕ) → g < 2 → (k : ℕ) (f : ℕ → Made) (c : Card) → ((j : ℕ) → j < k → is_start g (f j) ≡ false)
    → sender_of (run c (tabulate k f)) g ≡ sender_run (sender_of c g) (on_table (table_calls g c (tabulate k f)))
run_on_lem g hg zero f c none = refl
run_on_lem g hg (suc k) f c none =
    let d : Card = card_after c (f zero).group (f zero).asked in
    let rest : List T = table_calls g d (tabulate k (λ j. f (suc j))) in
    run_on_lem g hg k (λ j. f (suc j)) d (λ j b. none (suc j) (omega arith))
    ∙ ap (λ (s : Sender). sender_run s (on_table rest)) (call_on c g hg (f zero) (none zero (omega arith)))
    ∙ sym (run_two (sender_of c g) (reaching g c (f zero)) rest)

module _ (h : CardHistory) (g : ℕ) (hg : g < 2) where
  -- from the m-th call to before the n-th, of which none starts an epoch of the group
  pub sender_from : (m n : ℕ) → m ≤ n → ((j : ℕ) → m ≤ j → j < n → is_start g (h.made j) ≡ false)
      → sender_of (card_at h n) g ≡ sender_run (sender_of (card_at h m) g) (on_table (between h g m n))
  sender_from m n le none =
      ap (λ (c : Card). sender_of c g) (card_from_lem h m n le)
      ∙ run_on_lem g hg (n - m) (λ j. h.made (m + j)) (card_at h m) (λ j b. none (m + j) (omega arith) (omega arith))

  at_first : sender_of (card_at h zero) g ≡ (begin_of h.kind h.slots (h.first g)).sender
  unfolding card_at start_of sender_of
  at_first = go g hg
    where
      go : (j : ℕ) → j < 2 → cond (eqb j 0) (begin_of h.kind h.slots (h.first 0)).sender (begin_of h.kind h.slots (h.first 1)).sender ≡ (begin_of h.kind h.slots (h.first j)).sender
      go zero l = refl
      go (suc zero) l = refl
      go (suc (suc j)) l = absurd (omega arith)

  module _ (s : Starts h g) where
    pub at_start_lem : (i : ℕ) → sender_of (card_at h (suc (s.at i))) g ≡ (sender_outcome_of (sender_of (card_at h (s.at i)) g) (E.StartEpoch (s.gid i) (s.mst i) (s.ack i))).sender
    at_start_lem i =
        ap (λ (c : Card). sender_of c g) (card_next h (s.at i))
        ∙ ap (λ (m : Made). sender_of (card_after (card_at h (s.at i)) m.group m.asked) g) (s.is i)
        ∙ own_group (card_at h (s.at i)) g hg (E.StartEpoch (s.gid i) (s.mst i) (s.ack i))

    -- after the start of the i-th epoch
    pub sender_is : (i : ℕ) → sender_of (card_at h (suc (s.at i))) g ≡ sender_at (history_of h g s) i
    unfolding sender_at
    sender_is zero =
        at_start_lem zero
        ∙ ap (λ (r : Sender). (sender_outcome_of r (E.StartEpoch (s.gid zero) (s.mst zero) (s.ack zero))).sender)
        (sender_from zero (s.at zero) (omega arith) (λ j from b. s.none_before j b)
        ∙ ap (λ (r : Sender). sender_run r (on_table (between h g zero (s.at zero)))) at_first)
    sender_is (suc i) =
        at_start_lem (suc i)
        ∙ ap (λ (r : Sender). (sender_outcome_of r (E.StartEpoch (s.gid (suc i)) (s.mst (suc i)) (s.ack (suc i)))).sender)
        (sender_from (suc (s.at i)) (s.at (suc i)) (s.rising i) (λ j from b. s.none_between i j from b)
        ∙ ap (λ (r : Sender). sender_run r (on_table (between h g (suc (s.at i)) (s.at (suc i))))) (sender_is i))
