-- Examples of request 2026-05, a recording run again, worked out apart: one port, P 1, 72 frames of IDLE packets from MFI1 0 and MFI2 0 on, to the first report. And three wrong
-- readings, which this run breaks.
use Rattle.std.specs.Prelude.{true, ◌≡◌, refl, List, [], ◌∷◌, ◌++◌, ℕ, drop, replicate, take, if◌then◌else◌}
use Rattle.recording.specs.declared.record.Record.{Record}
use Rattle.recording.specs.declared.record.Record.TheVariants as R
use Rattle.replay_lines.specs.declared.replay.Phase.{Phase}
use Rattle.replay_lines.specs.declared.replay.Phase.TheVariants as P
use Rattle.replay_lines.specs.Output.{report_text, states_in}
use Rattle.replay_lines.specs.Replay.{beginning}
use Rattle.replay_lines.specs.Runs.{Desk, desk_after, framed, line_in, reported, said_to, standing}
use Rattle.replay_lines.specs.Turn.{blamed_in, fetch_record_by, fetch_rows_by, is_due}
use Rattle.rows.specs.Rows.{rows_for}
use Rattle.text.specs.Ascii.{ascii}
use Rattle.text.specs.Text.{lines_of}
use Rattle.tables.specs.Rows.{Equal, Row, equal_rows, row, same}
use Rattle.conformance.specs.Opened.{all_open}

-- what is lent: rows of one port, its store for P 1 and W 16, and the output
abbrev out : List ℕ
out = replicate 32 0

abbrev lent_for : ℕ → Desk
lent_for store = record { replay = beginning; rows = replicate 6 (replicate 16 0); store = replicate store 0 }

-- a host that cuts the recording behind each line and forgets that reports may be due
abbrev forgetful_record : (d : Desk) (l : List ℕ) (read : Record) → Desk
forgetful_record d l (R.Frame port h4 flag place next) = framed out d l port h4 flag place
forgetful_record d l (R.Malformed next) = standing out d P.Reading
forgetful_record d l R.Long = d
forgetful_record d l R.Unfinished = d
forgetful_record d l R.End = d

abbrev forgetful : (phase : Phase) (d : Desk) (l : List ℕ) → Desk
forgetful P.Settings d l = desk_after out d l
forgetful P.Reading d l = forgetful_record d l (line_in out d l)
forgetful P.Fetching d l = d
forgetful P.Skipping d l = d
forgetful P.Ended d l = d

-- a malformed line handed to port 0 as a flagged frame
abbrev flagged_record : (d : Desk) (l : List ℕ) (read : Record) → Desk
flagged_record d l (R.Frame port h4 flag place next) = desk_after out d l
flagged_record d l (R.Malformed next) = reported out d.replay.window (framed out d l 0 0 true 0)
flagged_record d l R.Long = d
flagged_record d l R.Unfinished = d
flagged_record d l R.End = d

abbrev flagged_line : (phase : Phase) (d : Desk) (l : List ℕ) → Desk
flagged_line P.Settings d l = desk_after out d l
flagged_line P.Reading d l = flagged_record d l (line_in out d l)
flagged_line P.Fetching d l = d
flagged_line P.Skipping d l = d
flagged_line P.Ended d l = d

-- the port read behind the fetch, when the next epoch is the oldest
abbrev late_report : Desk → List ℕ
late_report d =
    let after = fetch_rows_by d.replay d.rows d.store out in
    if is_due d.replay d.rows d.store out
    then report_text (fetch_record_by d.replay d.rows d.store out) (blamed_in (take (rows_for d.replay.ports) after)) d.replay.line (states_in d.replay.kind d.rows) (states_in d.replay.kind after) d.replay.ports
    else []

abbrev late_record : (d : Desk) (l : List ℕ) (read : Record) → List ℕ
late_record d l (R.Frame port h4 flag place next) = late_report (framed out d l port h4 flag place)
late_record d l (R.Malformed next) = said_to out d l
late_record d l R.Long = []
late_record d l R.Unfinished = []
late_record d l R.End = []

abbrev late_line : (phase : Phase) (d : Desk) (l : List ℕ) → List ℕ
late_line P.Settings d l = said_to out d l
late_line P.Reading d l = late_record d l (line_in out d l)
late_line P.Fetching d l = []
late_line P.Skipping d l = []
late_line P.Ended d l = []

-- how a line is taken
pub data Taking : Type 0 where
  Right : Taking
  Forgetful : Taking
  Flagging : Taking
  Late : Taking

abbrev said : (taking : Taking) (d : Desk) (l : List ℕ) → List ℕ
said Right d l = said_to out d l
said Forgetful d l = []
said Flagging d l = said_to out d l
said Late d l = late_line d.replay.phase d l

abbrev next : (taking : Taking) (d : Desk) (l : List ℕ) → Desk
next Right d l = desk_after out d l
next Forgetful d l = forgetful d.replay.phase d l
next Flagging d l = flagged_line d.replay.phase d l
next Late d l = desk_after out d l

abbrev output : (t : Taking) (d : Desk) (ls : List (List ℕ)) → List ℕ
output t d [] = []
output t d (l ∷ ls) = said t d l ++ output t (next t d l) ls

abbrev left : (t : Taking) (d : Desk) (ls : List (List ℕ)) → Desk
left t d [] = d
left t d (l ∷ ls) = left t (next t d l) ls

-- Lines in two parts, the state carried over. Everything that a run is made of is opened here, for the checker to compute.
unfoldable pub replayed : (t : Taking) (store : ℕ) (first second : List (List ℕ)) → List ℕ
unfolding all_open
replayed t store first second = output t (lent_for store) first ++ output t (left t (lent_for store) first) second

abbrev lines : List (List ℕ)
lines = lines_of (ascii "1\t1\t16\n0\t00\t0\tAB\n0\t01\t0\tAB\n0\t52\t0\tAB\n0\t03\t0\tAB\n0\t04\t0\tAB\n0\t05\t0\tAB\n0\t96\t0\tAB\n0\t97\t0\tAB\n0\tF8\t0\tAB\n0\tF9\t0\tAB\n0\t0A\t0\tAB\n0\t0B\t0\tAB\n0\t0C\t0\tAB\n0\t0D\t0\tAB\n0\tFE\t0\tAB\n0\tFF\t0\tAB\n0\t00\t0\tAB\n0\t11\t0\tAB\n0\t52\t0\tAB\n0\t03\t0\tAB\n0\t04\t0\tAB\n0\t05\t0\tAB\n0\tF6\t0\tAB\n0\t27\t0\tAB\n0\tF8\t0\tAB\n0\tF9\t0\tAB\n0\t0A\t0\tAB\n0\t0B\t0\tAB\n0\t0C\t0\tAB\n0\t0D\t0\tAB\n0\tFE\t0\tAB\n0\tFF\t0\tAB\n0\t00\t0\tAB\n0\t21\t0\tAB\n0\t52\t0\tAB\n0\t03\t0\tAB\n0\t04\t0\tAB\n0\t05\t0\tAB\n0\t46\t0\tAB\n0\tF7\t0\tAB\n0\tF8\t0\tAB\n0\tF9\t0\tAB\n0\t0A\t0\tAB\n0\t0B\t0\tAB\n0\t0C\t0\tAB\n0\t0D\t0\tAB\n0\tFE\t0\tAB\n0\tFF\t0\tAB\n0\t00\t0\tAB\n0\t31\t0\tAB\n0\t52\t0\tAB\n0\t03\t0\tAB\n0\t04\t0\tAB\n0\t05\t0\tAB\n0\t26\t0\tAB\n0\t47\t0\tAB\n0\tF8\t0\tAB\n0\tF9\t0\tAB\n0\t0A\t0\tAB\n0\t0B\t0\tAB\n0\t0C\t0\tAB\n0\t0D\t0\tAB\n0\tFE\t0\tAB\n0\tFF\t0\tAB\n0\t00\t0\tAB\n0\t41\t0\tAB\n0\t52\t0\tAB\n0\t03\t0\tAB\n0\t04\t0\tAB\n0\t05\t0\tAB\n0\t36\t0\tAB\n0\t27\t0\tAB\n")

-- the same count with zeros beside it, which is a fixed group's packets with SQ 0 (request 2026-12)
abbrev fixed_lines : List (List ℕ)
fixed_lines = lines_of (ascii "1\t1\t16\tkind\tFIXED\n0\t00\t0\tAB\n0\t01\t0\tAB\n0\t02\t0\tAB\n0\t03\t0\tAB\n0\t04\t0\tAB\n0\t05\t0\tAB\n0\t06\t0\tAB\n0\t07\t0\tAB\n0\t08\t0\tAB\n0\t09\t0\tAB\n0\t0A\t0\tAB\n0\t0B\t0\tAB\n0\t0C\t0\tAB\n0\t0D\t0\tAB\n0\t0E\t0\tAB\n0\t0F\t0\tAB\n0\t00\t0\tAB\n0\t11\t0\tAB\n0\t02\t0\tAB\n0\t03\t0\tAB\n0\t04\t0\tAB\n0\t05\t0\tAB\n0\t06\t0\tAB\n0\t07\t0\tAB\n0\t08\t0\tAB\n0\t09\t0\tAB\n0\t0A\t0\tAB\n0\t0B\t0\tAB\n0\t0C\t0\tAB\n0\t0D\t0\tAB\n0\t0E\t0\tAB\n0\t0F\t0\tAB\n0\t00\t0\tAB\n0\t21\t0\tAB\n0\t02\t0\tAB\n0\t03\t0\tAB\n0\t04\t0\tAB\n0\t05\t0\tAB\n0\t06\t0\tAB\n0\t07\t0\tAB\n0\t08\t0\tAB\n0\t09\t0\tAB\n0\t0A\t0\tAB\n0\t0B\t0\tAB\n0\t0C\t0\tAB\n0\t0D\t0\tAB\n0\t0E\t0\tAB\n0\t0F\t0\tAB\n0\t00\t0\tAB\n0\t31\t0\tAB\n0\t02\t0\tAB\n0\t03\t0\tAB\n0\t04\t0\tAB\n0\t05\t0\tAB\n0\t06\t0\tAB\n0\t07\t0\tAB\n0\t08\t0\tAB\n0\t09\t0\tAB\n0\t0A\t0\tAB\n0\t0B\t0\tAB\n0\t0C\t0\tAB\n0\t0D\t0\tAB\n0\t0E\t0\tAB\n0\t0F\t0\tAB\n0\t00\t0\tAB\n0\t41\t0\tAB\n0\t02\t0\tAB\n0\t03\t0\tAB\n0\t04\t0\tAB\n0\t05\t0\tAB\n0\t06\t0\tAB\n0\t07\t0\tAB\n")

-- 72 frames of packets with EOS and SQ 1
abbrev second : List (List ℕ)
second = lines_of (ascii "1\t1\t16\n0\t00\t0\tAB\n0\t01\t0\tAB\n0\t32\t0\tAB\n0\t03\t0\tAB\n0\t04\t0\tAB\n0\t05\t0\tAB\n0\tA6\t0\tAB\n0\tB7\t0\tAB\n0\tF8\t0\tAB\n0\tF9\t0\tAB\n0\t0A\t0\tAB\n0\t0B\t0\tAB\n0\t0C\t0\tAB\n0\t0D\t0\tAB\n0\t0E\t0\tAB\n0\t1F\t0\tAB\n0\t00\t0\tAB\n0\t11\t0\tAB\n0\t32\t0\tAB\n0\t03\t0\tAB\n0\t04\t0\tAB\n0\t05\t0\tAB\n0\tC6\t0\tAB\n0\t07\t0\tAB\n0\tF8\t0\tAB\n0\tF9\t0\tAB\n0\t0A\t0\tAB\n0\t0B\t0\tAB\n0\t0C\t0\tAB\n0\t0D\t0\tAB\n0\t0E\t0\tAB\n0\t1F\t0\tAB\n0\t00\t0\tAB\n0\t21\t0\tAB\n0\t32\t0\tAB\n0\t03\t0\tAB\n0\t04\t0\tAB\n0\t05\t0\tAB\n0\t76\t0\tAB\n0\tD7\t0\tAB\n0\tF8\t0\tAB\n0\tF9\t0\tAB\n0\t0A\t0\tAB\n0\t0B\t0\tAB\n0\t0C\t0\tAB\n0\t0D\t0\tAB\n0\t0E\t0\tAB\n0\t1F\t0\tAB\n0\t00\t0\tAB\n0\t31\t0\tAB\n0\t32\t0\tAB\n0\t03\t0\tAB\n0\t04\t0\tAB\n0\t05\t0\tAB\n0\t16\t0\tAB\n0\t67\t0\tAB\n0\tF8\t0\tAB\n0\tF9\t0\tAB\n0\t0A\t0\tAB\n0\t0B\t0\tAB\n0\t0C\t0\tAB\n0\t0D\t0\tAB\n0\t0E\t0\tAB\n0\t1F\t0\tAB\n0\t00\t0\tAB\n0\t41\t0\tAB\n0\t32\t0\tAB\n0\t03\t0\tAB\n0\t04\t0\tAB\n0\t05\t0\tAB\n0\t06\t0\tAB\n0\t07\t0\tAB\n")

-- with a line that is none behind line 41
abbrev torn : List (List ℕ)
torn = take 41 lines ++ (ascii "0\t0" ∷ drop 41 lines)

pub table : List Row
unfolding all_open replayed
table =
    row "72 frames to the first report, all IDLE" (replayed Right 32 lines []) (ascii "epoch\t4\tsure\tbytes\t0\tline\t73\n") same
    ∷ row "the same cut after line 40" (replayed Right 32 (take 40 lines) (drop 40 lines)) (ascii "epoch\t4\tsure\tbytes\t0\tline\t73\n") same
    ∷ row "one frame less" (replayed Right 32 (take 72 lines) []) [] same
    ∷ row "with a torn line put in" (replayed Right 32 torn []) (ascii "answer\t13\tline\t42\nepoch\t4\tsure\tbytes\t0\tline\t74\n") same
    ∷ row "no ports: 4, and the rest is swallowed" (replayed Right 32 (ascii "0\t1\t16" ∷ drop 1 torn) []) (ascii "answer\t4\tline\t1\n") same
    ∷ row "a store of one byte less than is asked: 4" (replayed Right 31 lines []) (ascii "answer\t4\tline\t1\n") same
    ∷ row "a first line that is none: 13, whatever follows" (replayed Right 32 (ascii "x" ∷ lines) []) (ascii "answer\t13\tline\t1\n") same
    ∷ row "a hold-off of 5,001: 4" (replayed Right 32 (ascii "1\t1\t16\thold-off\t5001" ∷ drop 1 lines) []) (ascii "answer\t4\tline\t1\n") same
    ∷ row "numbers for two ports where there is one: 13" (replayed Right 32 (ascii "1\t1\t16\thold-off\t5\t5" ∷ drop 1 lines) []) (ascii "answer\t13\tline\t1\n") same
    ∷ row "a hold-off of 5,001 and a kind that is none: 13 before 4" (replayed Right 32 (ascii "1\t1\t16\thold-off\t5001\tkind\tK4" ∷ drop 1 lines) []) (ascii "answer\t13\tline\t1\n") same
    ∷ row "the 72 frames with both times: an IDLE port waits for nothing" (replayed Right 32 (ascii "1\t1\t16\twait-to-restore\t2\tkind\tH4\thold-off\t5" ∷ drop 1 lines) []) (ascii "epoch\t4\tsure\tbytes\t0\tline\t73\n") same
    ∷ row "the 72 frames as those of a fixed group: no word is FIXED, and it is held" (replayed Right 32 (ascii "1\t1\t16\tkind\tFIXED" ∷ drop 1 lines) []) (ascii "epoch\t4\theld\tbytes\t0\tline\t73\tcause\ta ruling packet was refused\tport\t0\n") same
    ∷ row "72 frames of a fixed group of one: sure, and its port is OK" (replayed Right 32 fixed_lines []) (ascii "epoch\t4\tsure\tbytes\t16\tline\t73\nport\t0\tOK\t0\n") same
    ∷ row "72 frames of the one member with SQ 1: doubtful, and no one port's" (replayed Right 32 second []) (ascii "epoch\t4\tdoubtful\tbytes\t16\tline\t73\tcause\tthe numbers are not 0 to n - 1\nport\t0\tOK\t1\n") same
    ∷ []

pub examples : Equal table
examples = equal_rows table

-- 'with the state carried over': a report that is due at the cut is part of it
forgetful_breaks : (replayed Forgetful 32 lines [] ≡ []) × (replayed Right 32 lines [] ≡ ascii "epoch\t4\tsure\tbytes\t0\tline\t73\n")
unfolding all_open replayed
forgetful_breaks = (refl, refl)

-- 'and changes nothing else': a flagged frame would lose the port's step, and no report comes
flagging_breaks : (replayed Flagging 32 torn [] ≡ ascii "answer\t13\tline\t42\n") × (replayed Right 32 torn [] ≡ ascii "answer\t13\tline\t42\nepoch\t4\tsure\tbytes\t0\tline\t74\n")
unfolding all_open replayed
flagging_breaks = (refl, refl)

-- the port is that of the report: behind the fetch the rows speak of the next epoch, whose packet is not whole
late_breaks :
    (replayed Late 32 second [] ≡ ascii "epoch\t4\tdoubtful\tbytes\t16\tline\t73\tcause\tthe numbers are not 0 to n - 1\tport\t0\nport\t0\tOK\t1\n")
    × (replayed Right 32 second [] ≡ ascii "epoch\t4\tdoubtful\tbytes\t16\tline\t73\tcause\tthe numbers are not 0 to n - 1\nport\t0\tOK\t1\n")
unfolding all_open replayed
late_breaks = (refl, refl)
