-- The lines that are printed (2026-05): 'each epoch's report with mark and byte count, and each change of port state, in the order they arise'.
-- Behind mark and byte count a held or doubtful report names why, and the port.
use Rattle.std.specs.Prelude.{ℕ, zero, suc, ◌+◌, ◌*◌, ◌/◌, ◌%◌, ◌||◌, List, [], ◌++◌, slice_index, if◌then◌else◌, ◌==◌}
use Rattle.ground.specs.Table.{tabulate}
use Rattle.ground.specs.Types.{Bytes, Epoch, Rows}
use Rattle.receiver.specs.Shown.{shown_number}
use Rattle.rows.specs.Member.{member_at}
use Rattle.text.specs.Ascii.{ascii}
use Rattle.text.specs.Output.{decimal_text, ended, number_text}
use Rattle.text.specs.Text.{LINE-END, TAB}

-- held 1, doubtful 2, sure 3
unfoldable pub mark_text : ℕ → Bytes
mark_text mark = if mark == 1 then ascii "held" else if mark == 2 then ascii "doubtful" else ascii "sure"

-- IDLE 0, FAIL 1, OK 2
unfoldable pub state_text : ℕ → Bytes
state_text state = if state == 0 then ascii "IDLE" else if state == 1 then ascii "FAIL" else ascii "OK"

-- a refusal 'is printed with its line number'
unfoldable pub answer_text : ℕ → ℕ → Bytes
answer_text number line = ended (ascii "answer") TAB ++ ended (decimal_text number) TAB ++ ended (ascii "line") TAB ++ ended (number_text line) LINE-END

-- the clauses 1 to 7 of crates/judge/specs/Cause.antt
unfoldable pub cause_text : ℕ → Bytes
cause_text cause =
    if cause == 1 then ascii "a ruling packet was refused"
    else if cause == 2 then ascii "an active port lacks a frame"
    else if cause == 3 then ascii "numbers of active and DNU ports repeat"
    else if cause == 4 then ascii "GID differs among ports that are not IDLE"
    else if cause == 5 then ascii "EOS is not on the highest active port alone"
    else if cause == 6 then ascii "a port has no whole ruling packet"
    else ascii "the numbers are not 0 to n - 1"

-- the lowest port to which a cause applies; 255: it is no one port's
unfoldable pub blamed_text : ℕ → Bytes
blamed_text port = if port == 255 then ascii "\n" else ascii "\tport\t" ++ ended (decimal_text port) LINE-END

unfoldable pub why_text : (cause port : ℕ) → Bytes
why_text cause port = ended (ascii "cause") TAB ++ cause_text cause ++ blamed_text port

-- a line's number, and behind it why a report is held or doubtful
unfoldable pub place_text : (mark line cause port : ℕ) → Bytes
place_text mark line cause port = if mark == 1 || mark == 2 then ended (number_text line) TAB ++ why_text cause port else ended (number_text line) LINE-END

unfoldable pub epoch_text : (epoch : Epoch) (mark bytes line cause port : ℕ) → Bytes
epoch_text epoch mark bytes line cause port =
    ended (ascii "epoch") TAB ++ ended (decimal_text epoch) TAB ++ ended (mark_text mark) TAB ++ ended (ascii "bytes") TAB ++ ended (number_text bytes) TAB ++ ended (ascii "line") TAB ++ place_text mark line cause port

unfoldable pub port_text : (port state number : ℕ) → Bytes
port_text port state number = ended (ascii "port") TAB ++ ended (decimal_text port) TAB ++ ended (state_text state) TAB ++ ended (decimal_text number) LINE-END

-- a port's member state and its number, as one
unfoldable pub state_at : (kind : ℕ) (rows : Rows) (port : ℕ) → ℕ
state_at kind rows i = (member_at rows i).state * 256 + shown_number kind (member_at rows i)

unfoldable pub states_in : ℕ → Rows → List ℕ
states_in kind rows = tabulate 64 (state_at kind rows)

unfoldable pub state_line : ℕ → ℕ → List ℕ
state_line port state = port_text port (state / 256) (state % 256)

-- nothing for a port whose state stayed
abbrev pub change_text : (port old new : ℕ) → Bytes
change_text port old new = if old == new then [] else state_line port new

-- a line for each of the first n ports whose state is another, in order
abbrev pub changes_text : (before after : List ℕ) (n : ℕ) → Bytes
changes_text before after zero = []
changes_text before after (suc n) = changes_text before after n ++ change_text n (slice_index before n) (slice_index after n)

-- how many bytes a report says
unfoldable pub count_in : List ℕ → ℕ
count_in rec = slice_index rec 4 * 16777216 + slice_index rec 5 * 65536 + slice_index rec 6 * 256 + slice_index rec 7

-- a report with the port to which its cause applies, and then the states that it changed
unfoldable pub report_text : (rec : List ℕ) (blamed line : ℕ) (before after : List ℕ) (ports : ℕ) → Bytes
report_text rec blamed line before after ports =
    epoch_text (slice_index rec 1) (slice_index rec 0) (count_in rec) line (slice_index rec 3) blamed ++ changes_text before after ports

-- room for what one call writes: a report of at most 131 bytes and 64 ports of at most 17
abbrev pub ROOM : ℕ
ROOM = 1219
