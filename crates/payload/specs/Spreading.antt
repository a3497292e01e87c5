-- A group frame spread over its members (01, 'Payload order').
use Rattle.std.specs.Prelude.{◌&&◌, ℕ, ◌*◌, ◌/◌, ◌%◌, length, ◌==◌}
use Rattle.ground.specs.Table.{tabulate}
use Rattle.ground.specs.Types.{Bytes}
use Rattle.payload.specs.declared.answer.Answer.{Answer}
use Rattle.payload.specs.Answers.{sized, answer_by, under_done}
use Rattle.payload.specs.Joining.{whole_answer}
use Rattle.payload.specs.Order.{member_byte, member_frame}

-- all members one after the other, the one ranked r at r x P
abbrev pub all_members : (X P : ℕ) (frame : Bytes) → Bytes
all_members X P frame = tabulate (X * P) (λ k. member_byte X frame (k / P) (k % P))

abbrev pub spread_all : (X P : ℕ) (frame members : Bytes) → Bytes
spread_all X P frame members = under_done (whole_answer X P (length frame) (length members)) (all_members X P frame) members

-- One member: the group frame has exactly X x P bytes and the member P.
abbrev pub one_answer : (X P frame member : ℕ) → Answer
one_answer X P frame member = answer_by (sized X P) (frame == X * P && member == P)

abbrev pub spread_one : (X P r : ℕ) (frame member : Bytes) → Bytes
spread_one X P r frame member = under_done (one_answer X P (length frame) (length member)) (member_frame X P frame r) member
