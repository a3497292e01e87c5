-- The lines of a torn recording, each with what became of it (2026-11).
use Rattle.std.specs.Prelude.{Bool, List, [], ◌∷◌, ◌++◌, ℕ, suc, ◌+◌, ◌-◌, ◌%◌, drop, get_or, length, set, take, if◌then◌else◌, ◌==◌}
use Rattle.ground.specs.Plain.{◌<?◌}
use Rattle.ground.specs.Types.{Bytes}
use Rattle.mending.specs.Following.{followed_if}
use Rattle.recording.specs.declared.record.Record.{Record}
use Rattle.recording.specs.declared.record.Record.TheVariants.{Frame, Malformed, Long, Unfinished, End}
use Rattle.recording.specs.Record.{line_record}
use Rattle.text.specs.Text.{lines_of}

-- a line and its end, which the last one may lack
pub record Line : Type 0 where
  pub bytes : Bytes
  pub end : Bytes

abbrev pub lines_in : List (List ℕ) → Bytes → List Line
lines_in [] text = []
lines_in (l ∷ ls) text = record { bytes = l; end = take 1 (drop (length l) text) } ∷ lines_in ls (drop (suc (length l)) text)

unfoldable pub lines_with : Bytes → List Line
lines_with text = lines_in (lines_of text) text

abbrev pub line_text : Line → Bytes
line_text l = l.bytes ++ l.end

abbrev pub text_of : List Line → Bytes
text_of [] = []
text_of (l ∷ ls) = line_text l ++ text_of ls

-- old, new: the second digit of H4, as text
pub data Fate : Type 0 where
  Kept : Fate
  Restored : ℕ → ℕ → Fate
  Dropped : Fate

pub record Judged : Type 0 where
  pub line : Line
  pub fate : Fate

-- a digit as a capital
unfoldable pub capital : ℕ → ℕ
capital n = if n <? 10 then 48 + n else 55 + n

-- 'the H4 count' is MFI1, the second digit of H4
abbrev pub count_by : (port : ℕ) (read : Record) (counts : List ℕ) → List ℕ
count_by port (Frame p h4 flag place next) counts = if p == port then h4 % 16 ∷ counts else counts
count_by port (Malformed next) counts = counts
count_by port Long counts = counts
count_by port Unfinished counts = counts
count_by port End counts = counts

-- the counts that a port has left behind a line
abbrev pub left_by : (left : ℕ → List ℕ) (read : Record) (port : ℕ) → List ℕ
left_by left (Frame p h4 flag place next) port = if p == port then drop 1 (left port) else left port
left_by left (Malformed next) port = left port
left_by left Long port = left port
left_by left Unfinished port = left port
left_by left End port = left port

module _ (size : ℕ) where
  -- where the digit lies: the fourth byte before the payload, which has two digits a byte
  unfoldable pub digit_place : Line → ℕ
  digit_place l = length l.bytes - (size + size + 4)

  abbrev pub digit_in : Line → ℕ
  digit_in l = get_or l.bytes (digit_place l) 0

  abbrev pub with_digit : Line → ℕ → Line
  with_digit l digit = record { bytes = set l.bytes (digit_place l) digit; end = l.end }

  -- a broken line gets its count restored
  abbrev pub fate_to : (l : Line) (old new : ℕ) → Fate
  fate_to l old new = if old == new then Kept else Restored (digit_in l) (capital new)

  -- 'drops malformed lines'; a port's line gets the next of the counts that its port has left
  abbrev pub fate_by : (left : ℕ → List ℕ) (l : Line) (read : Record) → Fate
  fate_by left l (Frame port h4 flag place next) = fate_to l (h4 % 16) (get_or (left port) 0 0)
  fate_by left l (Malformed next) = Dropped
  fate_by left l Long = Dropped
  fate_by left l Unfinished = Dropped
  fate_by left l End = Dropped

  -- what comes out of a line
  abbrev pub out_by : Line → Fate → List Line
  out_by l Kept = l ∷ []
  out_by l (Restored old new) = with_digit l new ∷ []
  out_by l Dropped = []

  abbrev pub mended_lines : List Judged → List Line
  mended_lines [] = []
  mended_lines (j ∷ js) = out_by j.line j.fate ++ mended_lines js

module _ (ports size : ℕ) where
  -- 'malformed' is 2026-05's 13
  unfoldable pub record_of : Line → Record
  record_of l = line_record ports size 0 0 l.bytes

  -- the counts of a port's lines; a malformed line is no port's
  abbrev pub counts_of : ℕ → List Line → List ℕ
  counts_of port [] = []
  counts_of port (l ∷ ls) = count_by port (record_of l) (counts_of port ls)

  abbrev pub judged_by : (ℕ → List ℕ) → List Line → List Judged
  judged_by left [] = []
  judged_by left (l ∷ ls) = record { line = l; fate = fate_by size left l (record_of l) } ∷ judged_by (left_by left (record_of l)) ls

-- the counts of each port are followed, where lines have counts
unfoldable pub judged : (has : Bool) (ports size : ℕ) (ls : List Line) → List Judged
judged has ports size ls = judged_by ports size (λ port. followed_if has (counts_of ports size port ls)) ls
