-- The refusals of the session: feeding and finishing 9; a line 13 where it is malformed, and else what its command is answered.
use Rattle.std.specs.Prelude.{refl, true, ◌||◌, List, [], ◌∷◌, ℕ, length, ◌==◌}
use Rattle.std.proofs.Common.{true≢false}
use Rattle.ground.specs.Plain.{◌<?◌}
use Rattle.session_lines.specs.declared.line.Line.{Line}
use Rattle.session_lines.specs.declared.line.Line.TheVariants.{Size, Add, Remove, Report, Lapse, Board, Malformed}
use Rattle.session_lines.specs.declared.session.Session.{Session}
use Rattle.session_lines.specs.Replies.{reply_of, size_reply}
use Rattle.session_lines.specs.Session.{feed_bytes, feed_of, finish_bytes, finish_of}
use Rattle.conformance.specs.Refusals.Entries.{Call, Copes, If, Refusal, copes, done, stateful}
use Rattle.conformance.specs.Refusals.Tables.{add, add_copes, lapse, lapse_copes, remove, remove_copes, report_copes}
use Rattle.sender.specs.declared.table.Table.{Table}
use Rattle.sender.specs.Commands.{start_of}

-- 9 where the output has less room than the longest board's 1,095 bytes
abbrev pub feed : Session × List ℕ × List ℕ → Call
feed (session, input, out) =
    stateful (If 9 (length out <? 1095) ∷ [])
    (feed_of session input out).answer (out ∷ []) (feed_bytes session input out ∷ []) session (feed_of session input out).session session

pub feed_copes : (x : Session × List ℕ × List ℕ) → Copes (feed x)
unfolding feed_of feed_bytes
feed_copes (session, input, out) = copes _ (λ s. rw s (refl, refl, refl), λ s. rw s)

abbrev pub finish : Session × List ℕ → Call
finish (session, out) =
    stateful (If 9 (length out <? 1095) ∷ [])
    (finish_of session out).answer (out ∷ []) (finish_bytes session out ∷ []) session (finish_of session out).session session

pub finish_copes : (x : Session × List ℕ) → Copes (finish x)
unfolding finish_of finish_bytes
finish_copes (session, out) = copes _ (λ s. rw s (refl, refl, refl), λ s. rw s)

abbrev line_refusals : Table → Line → List Refusal
line_refusals t (Size n) = If 4 (n == 0 || 64 <? n) ∷ []
line_refusals t (Add i) = (add (t, i)).refusals
line_refusals t (Remove i) = (remove (t, i)).refusals
line_refusals t (Report e m a) = []
line_refusals t Lapse = (lapse t).refusals
line_refusals t Board = []
line_refusals t Malformed = If 13 true ∷ []

-- A refused size 'leaves the board as it stood', so the table as given stands for the empty one.
abbrev pub reply : Table × Line → Call
reply (table, line) = stateful (line_refusals table line) (reply_of table line).number [] [] table (reply_of table line).table table

replies : (t : Table) (l : Line) → Copes (reply (t, l))
unfolding reply_of size_reply start_of
replies t (Size n) = copes _ (λ o. rw o (refl, refl, refl), λ o. rw o)
replies t (Add i) = add_copes (t, i)
replies t (Remove i) = remove_copes (t, i)
replies t (Report e m a) = report_copes (t, e, m, a)
replies t Lapse = lapse_copes t
replies t Board = done _ refl
replies t Malformed = copes _ (λ m. (refl, refl, refl), λ m. absurd (true≢false m))

pub reply_copes : (x : Table × Line) → Copes (reply x)
reply_copes (table, line) = replies table line
