-- What the lines of a session have told the sender (01, 'Session'), apart from what they are answered.
use Rattle.std.specs.Prelude.{Bool, false, ◌&&◌, ◌||◌, List, [], ◌∷◌, ◌++◌, ℕ, take, if◌then◌else◌, ◌==◌}
use Rattle.ground.specs.Plain.{◌≤?◌}
use Rattle.sender.specs.declared.table.Table.{Table}
use Rattle.sender.specs.Calls.{Call, run}
use Rattle.sender.specs.Calls.{Call as C}
use Rattle.sender.specs.Commands.{start_of}
use Rattle.session_lines.specs.declared.line.Line.{Line}
use Rattle.session_lines.specs.declared.line.Line.TheVariants.{Size, Add, Remove, Report, Lapse, Board, Malformed}
use Rattle.session_lines.specs.declared.session.Session.{Session}
use Rattle.session_lines.specs.Line.{line_of}
use Rattle.session_lines.specs.Session.{feed_of}
use Rattle.text.specs.Text.{LINE-END}

-- a size of 1 to 64 slots is accepted
abbrev pub is_size : Line → Bool
is_size (Size n) = 1 ≤? n && n ≤? 64
is_size (Add i) = false
is_size (Remove i) = false
is_size (Report epoch mst ack) = false
is_size Lapse = false
is_size Board = false
is_size Malformed = false

abbrev pub has_size : List Line → Bool
has_size [] = false
has_size (l ∷ ls) = is_size l || has_size ls

abbrev pub accepted_size : Line → ℕ
accepted_size (Size n) = if is_size (Size n) then n else 0
accepted_size (Add i) = 0
accepted_size (Remove i) = 0
accepted_size (Report epoch mst ack) = 0
accepted_size Lapse = 0
accepted_size Board = 0
accepted_size Malformed = 0

-- the slots of the last size that was accepted; 'Before any size, the count is 0.'
abbrev pub last_size : List Line → ℕ
last_size [] = 0
last_size (l ∷ ls) = if has_size ls then last_size ls else accepted_size l

-- the lines behind that size, or all where there is none
abbrev pub since_size : List Line → List Line
since_size [] = []
since_size (l ∷ ls) = if has_size ls then since_size ls else if is_size l then ls else l ∷ ls

-- the sender's call that a line names, if it names one
abbrev pub call_of : Line → List Call
call_of (Size n) = []
call_of (Add i) = C.AddSlot i ∷ []
call_of (Remove i) = C.RemoveSlot i ∷ []
call_of (Report epoch mst ack) = C.Report epoch mst ack ∷ []
call_of Lapse = C.Lapse ∷ []
call_of Board = []
call_of Malformed = []

abbrev pub calls_in : List Line → List Call
calls_in [] = []
calls_in (l ∷ ls) = call_of l ++ calls_in ls

abbrev pub meant : List (List ℕ) → List Line
meant [] = []
meant (l ∷ ls) = line_of l ∷ meant ls

-- 'A second size starts afresh': the table of the last size, and behind it the sender's run of what was called since
unfoldable pub told_table : List (List ℕ) → Table
told_table lines = run (start_of 0 (last_size (meant lines))).table (calls_in (since_size (meant lines)))

-- the lines of an input whose end has come, where `line` has begun
abbrev pub ended_from : List ℕ → List ℕ → List (List ℕ)
ended_from line [] = []
ended_from line (b ∷ input) = if b == LINE-END then line ∷ ended_from [] input else ended_from (line ++ (b ∷ [])) input

abbrev pub ended_in : List ℕ → List (List ℕ)
ended_in input = ended_from [] input

-- a call of feed: the part of the input and the buffer that are lent to it
pub record Feed : Type 0 where
  pub part : List ℕ
  pub out : List ℕ

-- call after call, whatever is lent to each
abbrev pub fed_by : Session → List Feed → Session
fed_by s [] = s
fed_by s (f ∷ fs) = fed_by (feed_of s f.part f.out).session fs

-- the input that the calls have used
abbrev pub used_by : Session → List Feed → List ℕ
used_by s [] = []
used_by s (f ∷ fs) = take (feed_of s f.part f.out).used f.part ++ used_by (feed_of s f.part f.out).session fs
