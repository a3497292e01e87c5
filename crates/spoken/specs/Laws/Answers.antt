-- What a call gives, and the answer that it stands for.
use Rattle.std.specs.Prelude.{◌≡◌, ◌<◌, ℕ, refl, Ok, Err}
use Rattle.std.proofs.Common.{◌∙◌, arith, sym}
use Rattle.spoken.specs.Answers.{Answer, refusal_number, told_by}
use Rattle.spoken.specs.Answers.Answer.{Done, Unfit, Counts, Length}
use Rattle.spoken.specs.Changes.{answer_number}
use Rattle.spoken.specs.declared.lists.Refusal.{Refusal}
use Rattle.spoken.specs.declared.lists.Refusal.TheVariants as R

-- a refusal is told apart from a call that is done
pub refusal_above : (refusal : Refusal) → 0 < refusal_number refusal
refusal_above R.Unfit = omega arith
refusal_above R.Counts = omega arith
refusal_above R.Length = omega arith

module _ {T : Type 0} where
  pub told_done : (a : Answer) (given x : T) → Ok x ≡ told_by a given → (a ≡ Done) × (given ≡ x)
  told_done Done given x e = (refl, cc)
  told_done Unfit given x e = cc
  told_done Counts given x e = cc
  told_done Length given x e = cc

  pub told_refused : (a : Answer) (given : T) (refusal : Refusal) → Err refusal ≡ told_by a given → answer_number a ≡ refusal_number refusal
  told_refused Done given refusal e = cc
  told_refused Unfit given refusal e = let q : refusal ≡ R.Unfit = cc in rw q
  told_refused Counts given refusal e = let q : refusal ≡ R.Counts = cc in rw q
  told_refused Length given refusal e = let q : refusal ≡ R.Length = cc in rw q

-- the number that stands for it
module _ {T : Type 0} (a : Answer) (given : T) where
  pub done_number : (x : T) → Ok x ≡ told_by a given → 0 ≡ answer_number a
  done_number x e = rw (told_done a given x e).0

  pub refused_number : (refusal : Refusal) (n : ℕ) → Err refusal ≡ told_by a given → n ≡ refusal_number refusal → (n ≡ answer_number a) × (n ≡ 0 → ⊥)
  refused_number refusal n e f =
      let h = refusal_above refusal in
      (f ∙ sym (told_refused a given refusal e), λ z. omega arith)
