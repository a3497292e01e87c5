-- The payload's C calls in terms of the payload's own: any 32 bits may come as X or P.
use Rattle.std.specs.Prelude.{ℕ, length}
use Rattle.ground.specs.Types.{Bytes}
use Rattle.payload.specs.Answers.{number_of}
use Rattle.payload.specs.Joining.{joined, whole_answer}
use Rattle.payload.specs.Spreading.{spread_all}

abbrev pub spread_answer_c : (x p : ℕ) (frame members : Bytes) → ℕ
spread_answer_c x p frame members = number_of (whole_answer x p (length frame) (length members))

abbrev pub spread_members_c : (x p : ℕ) (frame members : Bytes) → Bytes
spread_members_c x p frame members = spread_all x p frame members

abbrev pub join_answer_c : (x p : ℕ) (members frame : Bytes) → ℕ
join_answer_c x p members frame = number_of (whole_answer x p (length members) (length frame))

abbrev pub join_frame_c : (x p : ℕ) (members frame : Bytes) → Bytes
join_frame_c x p members frame = joined x p members frame
