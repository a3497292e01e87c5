-- What `is_none` says.
use Rattle.std.proofs.Common.{◌≡◌, refl, Bool, true, false, not, Option, Some, None, is_none, is_some}

pub none_told : {A : Type 0} (o : Option A) (b : Bool) → is_some o ≡ not b → is_none o ≡ b
none_told (Some x) true e = cc
none_told (Some x) false e = refl
none_told None true e = refl
none_told None false e = cc
