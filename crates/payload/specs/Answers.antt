-- What spreading and joining answer (01, 'Answer numbers'): 4, then 9.
use Rattle.std.specs.Prelude.{Bool, ◌&&◌, ℕ, ◌≤◌, if◌then◌else◌}
use Rattle.ground.specs.Plain.{◌≤?◌}
pub use Rattle.ground.specs.Sizes.{PAYLOAD-MOST}
use Rattle.payload.specs.declared.answer.Answer.{Answer}
use Rattle.payload.specs.declared.answer.Answer.TheVariants.{Done, Range, Length}

-- 01's number for each answer
abbrev pub number_of : Answer → ℕ
number_of Done = 0
number_of Range = 4
number_of Length = 9

-- 'Lent bytes change only under 0.'
module _ {A : Type 0} where
  abbrev pub under_done : (answer : Answer) (new old : A) → A
  under_done Done new old = new
  under_done Range new old = old
  under_done Length new old = old

-- 4 is for 'X above 64, or P'.
abbrev pub sized : ℕ → ℕ → Bool
sized X P = X ≤? 64 && 1 ≤? P && P ≤? PAYLOAD-MOST

-- The order of 01's numbers: first the sizes, then the lengths.
abbrev pub answer_by : Bool → Bool → Answer
answer_by sizes lengths = if sizes then (if lengths then Done else Length) else Range

-- what these bounds say of a group frame: at most 64 members, each with P bytes
pub record Sizes (X P : ℕ) : Type 0 where
  pub ranks : X ≤ 64
  pub least : 1 ≤ P
  pub most : P ≤ PAYLOAD-MOST
