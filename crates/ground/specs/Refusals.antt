-- The number of an answer: 0 where a call is done, and the refusal's own where it is not.
use Rattle.std.specs.Prelude.{ℕ, Result, Ok, Err}

abbrev pub number_told : {T E : Type 0} → (E → ℕ) → Result T E → ℕ
number_told number_of (Ok _) = 0
number_told number_of (Err refusal) = number_of refusal
