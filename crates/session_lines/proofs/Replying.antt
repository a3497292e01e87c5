-- What a call of the sender leaves, as a reply has it.
use Rattle.std.specs.Prelude.{◌≡◌, refl, ℕ, Result, if◌then◌else◌, ◌==◌}
use Rattle.std.specs.Result.{result_unwrap_or}
use Rattle.std.proofs.Common.{◌∙◌}
use Rattle.ground.specs.Refusals.{number_told}
use Rattle.sender.specs.declared.refusals.Refusal.{Refusal}
use Rattle.sender.specs.declared.table.Table.{Table}
use Rattle.sender.specs.Answers.{Answer, given, refusal_number, told}
use Rattle.sender.specs.Answers.Answer.{Done, NoSlot, NotAllowed, WaitOpen, OutOfRange, Field, Length}
use Rattle.sender.specs.Calls.{Call, outcome_of}
use Rattle.sender.specs.Commands.{start_of}
use Rattle.sender.specs.Table.{answer_number}
use Rattle.sender.specs.Theorems.Told.{table_kept, told_number}
use Rattle.session_lines.specs.declared.replies.Reply.{Reply}
use Rattle.session_lines.specs.Replies.{replied, replied_of, size_reply}

pub replied_as : (t : Table) (k : Call) {a : Result Table Refusal} {r : Reply} → a ≡ told (outcome_of t k) → r ≡ replied (result_unwrap_or a t) (number_told refusal_number a)
    → r ≡ replied_of (outcome_of t k)
replied_as t k e h = h ∙ rw (e, table_kept t k, told_number (outcome_of t k).answer (outcome_of t k).table) refl

size_case : (t u : Table) (a : Answer) → replied (result_unwrap_or (given a u) t) (number_told refusal_number (given a u)) ≡ (if answer_number a == 0 then replied u (answer_number a) else replied t (answer_number a))
size_case t u Done = refl
size_case t u NoSlot = refl
size_case t u NotAllowed = refl
size_case t u WaitOpen = refl
size_case t u OutOfRange = refl
size_case t u Field = refl
size_case t u Length = refl

pub size_as : (t : Table) (n : ℕ) {a : Result Table Refusal} {r : Reply} → a ≡ told (start_of t.kind n) → r ≡ replied (result_unwrap_or a t) (number_told refusal_number a) → r ≡ size_reply t n
unfolding size_reply
size_as t n e h = h ∙ rw e (size_case t (start_of t.kind n).table (start_of t.kind n).answer)
