-- What the change of a wait says of the two waits.
use Rattle.std.specs.Prelude.{◌≡◌, refl, Bool, true, false}
use Rattle.std.proofs.Common.{sym, ap, arith}
use Rattle.std.proofs.lemmas.Bool.{false≢true, not-true}
use Rattle.spoken.specs.declared.lists.WaitChange.{WaitChange}
use Rattle.spoken.specs.declared.lists.WaitChange.TheVariants.{Same, Opened, Closed}
use Rattle.spoken.specs.Applying.{wait_after, wait_fits}
use Rattle.spoken.specs.Changes.{wait_change}
use Rattle.spoken.specs.Shown.{wait_code}

apart : (v w : WaitChange) → (wait_code v ≡ wait_code w → ⊥) → v ≡ w → ⊥
apart v w d e = d (ap wait_code e)

pub same_opened : Same ≡ Opened → ⊥
same_opened e = apart Same Opened (λ d. omega arith) e

pub same_closed : Same ≡ Closed → ⊥
same_closed e = apart Same Closed (λ d. omega arith) e

pub opened_closed : Opened ≡ Closed → ⊥
opened_closed e = apart Opened Closed (λ d. omega arith) e

pub wait_said : (wait : Bool) (w : WaitChange) → wait_fits wait w ≡ true → (w ≡ Opened → wait ≡ false) × (w ≡ Closed → wait ≡ true)
wait_said wait Same e = (λ s. absurd (same_opened s), λ s. absurd (same_closed s))
wait_said wait Opened e = (λ s. not-true wait e, λ s. absurd (opened_closed s))
wait_said wait Closed e = (λ s. absurd (opened_closed (sym s)), λ s. e)

pub wait_fits_lem : (wait : Bool) (w : WaitChange) → (w ≡ Opened → wait ≡ false) → (w ≡ Closed → wait ≡ true) → wait_fits wait w ≡ true
wait_fits_lem wait Same o c = refl
wait_fits_lem wait Opened o c = rw (o refl)
wait_fits_lem wait Closed o c = c refl

pub wait_right : (old new : Bool) → (wait_fits old (wait_change old new) ≡ true) × (wait_after old (wait_change old new) ≡ new)
wait_right true true = (refl, refl)
wait_right true false = (refl, refl)
wait_right false true = (refl, refl)
wait_right false false = (refl, refl)

-- what fits the old wait and gives the new one is the change between them
pub wait_only : (old new : Bool) (w : WaitChange) → wait_fits old w ≡ true → wait_after old w ≡ new → w ≡ wait_change old new
wait_only true new Same f a = rw (← a)
wait_only false new Same f a = rw (← a)
wait_only true new Opened f a = absurd (false≢true f)
wait_only false new Opened f a = rw (← a)
wait_only true new Closed f a = rw (← a)
wait_only false new Closed f a = absurd (false≢true f)
