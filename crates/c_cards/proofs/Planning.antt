-- A plan written piece by piece is its bytes, and each way out of the calls of the planner and of the check.
use Rattle.std.proofs.Common.{◌≡◌, refl, ◌∙◌, ap, List, [], ◌∷◌, ◌++◌, ℕ, suc, ◌-◌, length, append-nil, arith, eq-eqb, ne_eqb}
use Rattle.std.proofs.Math.ListN.{set}
use Rattle.std.proofs.lemmas.List.{drop_all}
use borrow.Rule.Slice.PartMut.{put_mid}
use Rattle.c_cards.specs.Plans.{lent_answer, lent_bytes}

-- the count, and behind it the paths
pub plan_whole : (out paths new : List ℕ) (count : ℕ) → length out ≡ 65 → new ≡ paths
    → put_mid 1 (length (set out 0 count) - 1) (set out 0 count) new ≡ count ∷ paths
plan_whole [] paths new count l e = absurd (omega arith)
plan_whole (x ∷ rest) paths new count l e =
    ap (λ (r : List ℕ). count ∷ (new ++ r)) (drop_all (suc (length rest) - 1) rest (omega arith)) ∙ ap (λ (r : List ℕ). count ∷ r) (append-nil new ∙ e)

module _ (m number size : ℕ) (new out : List ℕ) (e : m ≡ number) where
  pub lent_refused : (m ≡ 0 → ⊥) → (m ≡ lent_answer number size out) × (out ≡ lent_bytes number size new out)
  unfolding lent_answer lent_bytes
  lent_refused d = rw (← e, ne_eqb m 0 d) (refl, refl)

module _ (number size : ℕ) (new out : List ℕ) (z : number ≡ 0) where
  pub lent_short : (length out ≡ size → ⊥) → (9 ≡ lent_answer number size out) × (out ≡ lent_bytes number size new out)
  unfolding lent_answer lent_bytes
  lent_short d = rw (eq-eqb number 0 z, ne_eqb (length out) size d) (refl, refl)

  pub lent_done : length out ≡ size → (left : List ℕ) → left ≡ new → (0 ≡ lent_answer number size out) × (left ≡ lent_bytes number size new out)
  unfolding lent_answer lent_bytes
  lent_done l left f = rw (eq-eqb number 0 z, eq-eqb (length out) size l) (refl, f)

-- a buffer of one byte, written
pub one_byte : (out : List ℕ) (v w : ℕ) → length out ≡ 1 → v ≡ w → set out 0 v ≡ w ∷ []
one_byte [] v w l e = absurd (omega arith)
one_byte (x ∷ []) v w l e = rw e
one_byte (x ∷ y ∷ r) v w l e = absurd (omega arith)
