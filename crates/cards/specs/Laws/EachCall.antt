-- Each call of a group, as its view has it; and each call of any other, which leaves that view.
use Rattle.std.specs.Prelude.{◌≡◌, ◌≢◌, Bool, ◌||◌, ℕ, ◌-◌, ◌<◌, ltb}
use Rattle.std.proofs.Math.Path.{refl, ap}
use Rattle.std.proofs.Common.{◌∙◌, sym, eq-eqb, eqb-true, lt-ltb, ltb-true}
use Rattle.std.proofs.Math.Bool.{true, false, cond}
use Rattle.std.proofs.Math.Dec.{eqb}
use Rattle.ground.specs.Truth.{and_left, neither}
use Rattle.sender.specs.Epochs.{SenderCall, sender_outcome_of}
use Rattle.cards.specs.Answers.Answer.{Done, NoSlot, Owned, Used}
use Rattle.cards.specs.declared.card.Card.{Card}
use Rattle.cards.specs.Answers.{CardOutcome}
use Rattle.cards.specs.Alone.{Seen, claim_seen, own_in, own_seen, release_seen, seen, sent_seen, slot_in, with_own}
use Rattle.cards.specs.Commands.{claim_of, command_of, group_call_of, of_own, release_of, sent_of}
use Rattle.cards.specs.Laws.Seeing.{mark_some, marks_apart, own_is, owner_is, owners_outcome, owns_marked, sender_marked, sender_other, slot_is, slot_low, view_marked, view_outcome, view_same}
use Rattle.cards.specs.Owners.{has_owner, mark_of, owner_in}
use Rattle.cards.specs.Parts.{group_outcome, is_slot, is_used, marked, owns, refused, sender_of}
use Rattle.cards.specs.Views.{View, view_of}

module _ {A : Type 0} where
  -- two choices by one test
  pub choice : (b d : Bool) (x x' y y' : A) → b ≡ d → (b ≡ true → x ≡ x') → y ≡ y' → cond b x y ≡ cond d x' y'
  choice true d x x' y y' e hx hy = hx refl ∙ ap (λ (t : Bool). cond t x' y') e
  choice false d x x' y y' e hx hy = hy ∙ ap (λ (t : Bool). cond t x' y') e

-- an outcome as the group sees it
abbrev pub see : ℕ → CardOutcome → Seen
see g r = seen (view_of g r.card) r.answer

see_cond : (g : ℕ) (b : Bool) (x y : CardOutcome) → see g (cond b x y) ≡ cond b (see g x) (see g y)
see_cond g true x y = refl
see_cond g false x y = refl

answer_marked : (c : Card) (i m : ℕ) → (marked c i m).answer ≡ Done
unfolding marked
answer_marked c i m = refl

sent : (c : Card) (g : ℕ) (k : SenderCall) → see g (sent_of c g k) ≡ sent_seen (view_of g c) k
unfolding group_outcome view_of
sent c g k =
    let r = sender_outcome_of (sender_of c g) k in
    ap (λ (w : View). seen w (group_outcome c g r).answer) (view_outcome c g r) ∙ answers c g k
  where
    answers : (c : Card) (g : ℕ) (k : SenderCall)
        → seen (record { sender = (sender_outcome_of (sender_of c g) k).sender; owned = (view_of g c).owned }) (group_outcome c g (sender_outcome_of (sender_of c g) k)).answer ≡ sent_seen (view_of g c) k
    answers c g k = refl

pub slot_group : (c : Card) (g i : ℕ) → is_slot c g i ≡ true → g < 2
unfolding is_slot
slot_group c g i s = ltb-true g 2 (and_left (ltb g 2) _ s)

module _ (c : Card) (g : ℕ) (hg : g < 2) where
  abbrev v : View
  v = view_of g c

  see_marked : (i m : ℕ) (b : Bool) → eqb m (mark_of g) ≡ b → see g (marked c i m) ≡ seen (with_own v i b) Done
  see_marked i m b e = ap (λ (w : View). seen w (marked c i m).answer) (view_marked c g i m ∙ ap (λ (t : Bool). with_own v i t) e) ∙ done
    where
      done : seen (with_own v i b) (marked c i m).answer ≡ seen (with_own v i b) Done
      done = ap (λ a. seen (with_own v i b) a) (answer_marked c i m)

  see_sent : (k : SenderCall) → see g (sent_of c g k) ≡ sent_seen v k
  see_sent k = sent c g k

  pub see_claim : (i : ℕ) → see g (claim_of c g i) ≡ claim_seen v i (owns c (1 - g) i)
  unfolding claim_of
  see_claim i =
      see_cond g (is_slot c g i) _ (refused c NoSlot)
      ∙ choice (is_slot c g i) (slot_in v i) _ _ _ _ (slot_is c g i hg)
      (λ s.
      see_cond g (has_owner c.owners i) (refused c Owned) (marked c i (mark_of g))
      ∙ choice (has_owner c.owners i) (own_in v i || owns c (1 - g) i) _ _ _ _
      (owner_is c g i hg ∙ ap (λ (b : Bool). b || owns c (1 - g) i) (own_is c g i (slot_low c g i s)))
      (λ o. refl) (see_marked i (mark_of g) true (eq-eqb (mark_of g) (mark_of g) refl)))
      refl

  see_own : (i : ℕ) (r : CardOutcome) (q : Seen) → see g r ≡ q → see g (of_own c g i r) ≡ own_seen v i q
  see_own i r q e =
      see_cond g (is_slot c g i) _ (refused c NoSlot)
      ∙ choice (is_slot c g i) (slot_in v i) _ _ _ _ (slot_is c g i hg)
      (λ s.
      see_cond g (owns c g i) r (refused c Owned)
      ∙ choice (owns c g i) (own_in v i) _ _ _ _ (own_is c g i (slot_low c g i s)) (λ o. e) refl)
      refl

  pub see_release : (i : ℕ) → see g (release_of c g i) ≡ release_seen v i
  unfolding release_of is_used view_of
  see_release i =
      see_own i _ _ (see_cond g (is_used c g i) (refused c Used) (marked c i 0)
      ∙ choice (is_used c g i) _ _ _ _ _ refl (λ u. refl) (see_marked i 0 false (mark_some g)))

  pub see_command : (i : ℕ) (k : SenderCall) → see g (command_of c g i k) ≡ own_seen v i (sent_seen v k)
  unfolding command_of
  see_command i k = see_own i _ _ (see_sent k)

  pub see_group_call : (k : SenderCall) → see g (group_call_of c g k) ≡ sent_seen v k
  unfolding group_call_of
  see_group_call k = see_cond g (ltb g 2) _ _ ∙ ap (λ (b : Bool). cond b (see g (sent_of c g k)) (see g (refused c NoSlot))) (lt-ltb g 2 hg) ∙ see_sent k

-- calls of another group h, or of no group
module _ (c : Card) (g h : ℕ) (hg : g < 2) (n : h ≢ g) where
  abbrev pub Kept : CardOutcome → Type 0
  Kept r = view_of g r.card ≡ view_of g c

  kept_cond : (b : Bool) (x y : CardOutcome) → (b ≡ true → Kept x) → (b ≡ false → Kept y) → Kept (cond b x y)
  kept_cond true x y k l = k refl
  kept_cond false x y k l = l refl

  -- slot i is not the group's, before and after
  kept_marked : (i m : ℕ) → eqb m (mark_of g) ≡ false → owns c g i ≡ false → Kept (marked c i m)
  kept_marked i m em eo =
      view_same g (marked c i m).card c (sender_marked c g i m)
      (λ j b. owns_marked c g i m j b ∙ at j (eqb j i) refl)
    where
      at : (j : ℕ) (b : Bool) → eqb j i ≡ b → cond b (eqb m (mark_of g)) (owns c g j) ≡ owns c g j
      at j true e = em ∙ sym (ap (λ (k : ℕ). owns c g k) (eqb-true j i e) ∙ eo)
      at j false e = refl

  kept_sent : (k : SenderCall) → h < 2 → Kept (sent_of c h k)
  unfolding owns
  kept_sent k l =
      view_same g (sent_of c h k).card c (sender_other c g h _ hg l n)
      (λ i b. ap (λ row. eqb (owner_in row i) (mark_of g)) (owners_outcome c h (sender_outcome_of (sender_of c h) k)))

  below : (i : ℕ) → is_slot c h i ≡ true → h < 2
  below i s = slot_group c h i s

  not_owned : (i : ℕ) → has_owner c.owners i ≡ false → owns c g i ≡ false
  not_owned i e = (neither (owns c g i) (owns c (1 - g) i) (sym (owner_is c g i hg) ∙ e)).0

  not_both : (i : ℕ) → h < 2 → owns c h i ≡ true → owns c g i ≡ false
  unfolding owns
  not_both i l e = ap (λ (o : ℕ). eqb o (mark_of g)) (eqb-true (owner_in c.owners i) (mark_of h) e) ∙ marks_apart g h hg l n

  pub kept_claim : (i : ℕ) → Kept (claim_of c h i)
  unfolding claim_of
  kept_claim i =
      kept_cond (is_slot c h i) _ _
      (λ s. kept_cond (has_owner c.owners i) _ _ (λ o. refl) (λ o. kept_marked i (mark_of h) (marks_apart g h hg (below i s) n) (not_owned i o)))
      (λ s. refl)

  pub kept_release : (i : ℕ) → Kept (release_of c h i)
  unfolding release_of
  kept_release i =
      kept_cond (is_slot c h i) _ _
      (λ s.
      kept_cond (owns c h i) _ _
      (λ o. kept_cond (is_used c h i) _ _ (λ u. refl) (λ u. kept_marked i 0 (mark_some g) (not_both i (below i s) o)))
      (λ o. refl))
      (λ s. refl)

  pub kept_command : (i : ℕ) (k : SenderCall) → Kept (command_of c h i k)
  unfolding command_of
  kept_command i k =
      kept_cond (is_slot c h i) _ _ (λ s. kept_cond (owns c h i) _ _ (λ o. kept_sent k (below i s)) (λ o. refl)) (λ s. refl)

  pub kept_group_call : (k : SenderCall) → Kept (group_call_of c h k)
  unfolding group_call_of
  kept_group_call k = kept_cond (ltb h 2) _ _ (λ l. kept_sent k (ltb-true h 2 l)) (λ l. refl)
