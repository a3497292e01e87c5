-- 'A released slot can be claimed again by either.' (02, 2026-06) On any card on which the claiming group has such a slot.
use Rattle.std.specs.Prelude.{◌≡◌, refl, Bool, true, false, cond, ◌||◌, List, ℕ, ◌<◌, eqb}
use Rattle.std.proofs.Common.{◌∙◌, sym, ap, arith, eq-eqb, lt-ltb}
use Rattle.ground.specs.Table.{get_or_tabulate}
use Rattle.cards.specs.Theorems.Owned.{counts}
use Rattle.cards.specs.Views.{Made, card_from}
use Rattle.cards.specs.Answers.Answer.{Done, NoSlot, Owned, Used}
use Rattle.cards.specs.declared.card.Card.{Card}
use Rattle.cards.specs.Answers.{CardOutcome, answer_number}
use Rattle.cards.specs.Commands.{claim_of, release_of}
use Rattle.cards.specs.Laws.Seeing.{slot_low}
use Rattle.cards.specs.Owners.{has_owner, mark_of, owner_in, with_owner}
use Rattle.cards.specs.Parts.{is_slot, is_used, marked, owns, refused, sender_of}

release_done : (c : Card) (g i : ℕ) → (release_of c g i).answer ≡ Done → release_of c g i ≡ marked c i 0
unfolding release_of
release_done c g i = go (is_slot c g i) (owns c g i) (is_used c g i)
  where
    go : (s o u : Bool) → (cond s (cond o (cond u (refused c Used) (marked c i 0)) (refused c Owned)) (refused c NoSlot)).answer ≡ Done
        → cond s (cond o (cond u (refused c Used) (marked c i 0)) (refused c Owned)) (refused c NoSlot) ≡ marked c i 0
    go true true false e = refl
    go true true true e = let n : answer_number Used ≡ answer_number Done = ap answer_number e in absurd (omega arith)
    go true false u e = let n : answer_number Owned ≡ answer_number Done = ap answer_number e in absurd (omega arith)
    go false o u e = let n : answer_number NoSlot ≡ answer_number Done = ap answer_number e in absurd (omega arith)

freed : (c : Card) (i : ℕ) → i < 64 → has_owner (marked c i 0).card.owners i ≡ false
unfolding marked with_owner
freed c i h =
    let e : owner_in (with_owner c.owners i 0) i ≡ 0 =
    get_or_tabulate 64 (λ j. cond (eqb j i) 0 (owner_in c.owners j)) i 0 h ∙ ap (λ (b : Bool). cond b 0 (owner_in c.owners i)) (eq-eqb i i refl) in
    ap (λ (o : ℕ). eqb o 1 || eqb o 2) e

answer_marked : (c : Card) (i m : ℕ) → (marked c i m).answer ≡ Done
unfolding marked
answer_marked c i m = refl

claims : (c : Card) (g i : ℕ) → is_slot c g i ≡ true → has_owner c.owners i ≡ false → (claim_of c g i).answer ≡ Done
unfolding claim_of
claims c g i s o = rw (s, o) (answer_marked c i (mark_of g))

pub claimed_again : (c : Card) (g h i : ℕ) → (release_of c g i).answer ≡ Done → is_slot (release_of c g i).card h i ≡ true → (claim_of (release_of c g i).card h i).answer ≡ Done
claimed_again c g h i d s =
    let low : i < 64 = slot_low (release_of c g i).card h i s in
    claims (release_of c g i).card h i s (ap (λ (r : CardOutcome). has_owner r.card.owners i) (release_done c g i d) ∙ freed c i low)

slot_marked : (c : Card) (h i m : ℕ) → is_slot (marked c i m).card h i ≡ is_slot c h i
unfolding is_slot marked sender_of
slot_marked c h i m = refl

done_slot : (c : Card) (g i : ℕ) → (release_of c g i).answer ≡ Done → is_slot c g i ≡ true
unfolding release_of
done_slot c g i = go (is_slot c g i)
  where
    go : (s : Bool) → (cond s (cond (owns c g i) (cond (is_used c g i) (refused c Used) (marked c i 0)) (refused c Owned)) (refused c NoSlot)).answer ≡ Done → s ≡ true
    go true e = refl
    go false e = let n : answer_number NoSlot ≡ answer_number Done = ap answer_number e in absurd (omega arith)

slot_of_both : (c : Card) (g h i : ℕ) → g < 2 → h < 2 → (sender_of c g).table.count ≡ (sender_of c h).table.count → is_slot c g i ≡ is_slot c h i
unfolding is_slot
slot_of_both c g h i hg hh e = rw (lt-ltb g 2 hg, lt-ltb h 2 hh, e)

-- and after any calls from a start either group has it
pub claimed_by_either : (kind count e₀ e₁ : ℕ) (ms : List Made) (g h i : ℕ) → g < 2 → h < 2
    → let c = card_from kind count e₀ e₁ ms in (release_of c g i).answer ≡ Done → (claim_of (release_of c g i).card h i).answer ≡ Done
claimed_by_either kind count e₀ e₁ ms g h i hg hh d =
    let c : Card = card_from kind count e₀ e₁ ms in
    claimed_again c g h i d
    (ap (λ (r : CardOutcome). is_slot r.card h i) (release_done c g i d)
    ∙ slot_marked c h i 0
    ∙ sym (slot_of_both c g h i hg hh (counts kind count e₀ e₁ ms g hg ∙ sym (counts kind count e₀ e₁ ms h hh)))
    ∙ done_slot c g i d)
