-- What the code does, line by line on lists: a sweep that copies the lines of frames and restores counts at their places in what is written already, one that
-- counts how much would come out, and one that walks the recording and the mended one side by side and writes the notes.
use Rattle.std.specs.Prelude.{Bool, cond, List, [], ◌∷◌, ◌++◌, ℕ, zero, suc, ◌+◌, ◌%◌, eqb, get_or, length, set}
use Rattle.mending.specs.declared.follow.Follow.{Follow}
use Rattle.mending.specs.declared.follow.Keys.{Keys}
use Rattle.mending.specs.Follow.{beginning, count_back, fed_if, restores_first, restores_last, restores_second, restores_third}
use Rattle.mending.specs.Lines.{Line, capital, digit_in, digit_place, line_text, record_of}
use Rattle.mending.specs.Mending.{h4_with, note_text}
use Rattle.recording.specs.declared.record.Record.{Record}
use Rattle.recording.specs.declared.record.Record.TheVariants.{Frame, Malformed, Long, Unfinished, End}
use Rattle.text.specs.Ascii.{ascii}

-- what is remembered of a port's last three lines: the places of their digits, or their numbers
abbrev pub no_keys : Keys
no_keys = record { first = 0; second = 0; third = 0 }

abbrev pub with_key : Keys → ℕ → Keys
with_key k key = record { first = k.second; second = k.third; third = key }

-- what a port has, where one of them gets another
abbrev pub given {ℓ} : {A : Type ℓ} → (ℕ → A) → ℕ → A → ℕ → A
given f p x q = cond (eqb p q) x (f q)

-- a byte set at its place, if it is to be
abbrev pub set_if : Bool → ℕ → ℕ → List ℕ → List ℕ
set_if b place byte text = cond b (set text place byte) text

-- the counts that a port's next line lets be restored, at the places of their digits
unfoldable pub restored_in : Follow → Follow → Keys → List ℕ → List ℕ
restored_in f g k text =
    set_if (restores_third f g) k.third (capital (count_back f g.v 1))
    (set_if (restores_second f g) k.second (capital (count_back f g.v 2)) (set_if (restores_first f g) k.first (capital (count_back f g.v 3)) text))

-- The first sweep.

pub record Sweep : Type 0 where
  pub follows : ℕ → Follow
  pub keys : ℕ → Keys
  pub written : List ℕ

abbrev pub sweep_start : List ℕ → Sweep
sweep_start first = record { follows = λ p. beginning; keys = λ p. no_keys; written = first }

-- has: whether lines have a count
module _ (has : Bool) (size : ℕ) where
  abbrev pub sweep_frame : Sweep → Line → ℕ → ℕ → Sweep
  sweep_frame s l p count =
      record {
        follows = given s.follows p (fed_if has (s.follows p) count);
        keys = given s.keys p (with_key (s.keys p) (length s.written + digit_place size l));
        written = restored_in (s.follows p) (fed_if has (s.follows p) count) (s.keys p) s.written ++ line_text l;
      }

  abbrev pub sweep_by : Sweep → Line → Record → Sweep
  sweep_by s l (Frame p h4 flag place next) = sweep_frame s l p (h4 % 16)
  sweep_by s l (Malformed next) = s
  sweep_by s l Long = s
  sweep_by s l Unfinished = s
  sweep_by s l End = s

module _ (has : Bool) (ports size : ℕ) where
  abbrev pub swept : Sweep → List Line → Sweep
  swept s [] = s
  swept s (l ∷ ls) = swept (sweep_by has size s l (record_of ports size l)) ls

-- at the end, for the ports below n
abbrev pub sweep_end : ℕ → Sweep → List ℕ
sweep_end zero s = s.written
sweep_end (suc n) s =
    let written = sweep_end n s in
    set_if (restores_last (s.follows n)) (s.keys n).second (capital (count_back (s.follows n) (s.follows n).first 2)) written

-- How much would come out.

pub record Count : Type 0 where
  pub follows : ℕ → Follow
  pub keys : ℕ → Keys
  pub number : ℕ

abbrev pub count_start : Count
count_start = record { follows = λ p. beginning; keys = λ p. no_keys; number = 2 }

-- the note of a restored line of this number, and of a dropped one of so many bytes, in bytes
unfoldable pub restored_length : Bool → ℕ → ℕ
restored_length b n = cond b (length (note_text n (ascii "H4") (0 ∷ 0 ∷ []) (0 ∷ 0 ∷ []))) 0

unfoldable pub dropped_length : ℕ → ℕ → ℕ
dropped_length n bytes = length (note_text n (ascii "line") [] []) + bytes

unfoldable pub restored_lengths : Follow → Follow → Keys → ℕ
restored_lengths f g k =
    restored_length (restores_first f g) k.first + restored_length (restores_second f g) k.second + restored_length (restores_third f g) k.third

abbrev pub count_frame : Bool → Count → ℕ → ℕ → Count
count_frame has s p count =
    record { follows = given s.follows p (fed_if has (s.follows p) count); keys = given s.keys p (with_key (s.keys p) s.number); number = suc s.number }

abbrev pub count_dropped : Count → Count
count_dropped s = record { follows = s.follows; keys = s.keys; number = suc s.number }

abbrev pub count_with : Bool → Count → Record → Count
count_with has s (Frame p h4 flag place next) = count_frame has s p (h4 % 16)
count_with has s (Malformed next) = count_dropped s
count_with has s Long = count_dropped s
count_with has s Unfinished = count_dropped s
count_with has s End = count_dropped s

-- the bytes of notes that a line brings: of lines before it that are restored now, or its own
abbrev pub length_by : Bool → Count → Line → Record → ℕ
length_by has s l (Frame p h4 flag place next) = restored_lengths (s.follows p) (fed_if has (s.follows p) (h4 % 16)) (s.keys p)
length_by has s l (Malformed next) = dropped_length s.number (length l.bytes)
length_by has s l Long = dropped_length s.number (length l.bytes)
length_by has s l Unfinished = dropped_length s.number (length l.bytes)
length_by has s l End = dropped_length s.number (length l.bytes)

-- at the end, for the ports below n
abbrev pub length_end : ℕ → Count → ℕ
length_end zero s = 0
length_end (suc n) s = let notes = length_end n s in notes + restored_length (restores_last (s.follows n)) (s.keys n).second

abbrev pub kept_by : Line → Record → ℕ
kept_by l (Frame p h4 flag place next) = length (line_text l)
kept_by l (Malformed next) = 0
kept_by l Long = 0
kept_by l Unfinished = 0
kept_by l End = 0

module _ (ports size : ℕ) where
  abbrev pub kept_length : List Line → ℕ
  kept_length [] = 0
  kept_length (l ∷ ls) = kept_by l (record_of ports size l) + kept_length ls

module _ (has : Bool) (ports size : ℕ) where
  abbrev pub notes_length : Count → List Line → ℕ
  notes_length s [] = length_end 64 s
  notes_length s (l ∷ ls) = length_by has s l (record_of ports size l) + notes_length (count_with has s (record_of ports size l)) ls

-- The notes, beside the mended recording, in which the next line lies from `to` on.

module _ (ports size : ℕ) (mended : List ℕ) where
  abbrev pub note_frame : ℕ → Line → ℕ → List ℕ
  note_frame n l new = cond (eqb (digit_in size l) new) [] (note_text n (ascii "H4") (h4_with size l (digit_in size l)) (h4_with size l new))

  abbrev pub note_swept : ℕ → ℕ → Line → Record → List ℕ
  note_swept n to l (Frame p h4 flag place next) = note_frame n l (get_or mended (to + digit_place size l) 0)
  note_swept n to l (Malformed next) = note_text n (ascii "line") l.bytes []
  note_swept n to l Long = note_text n (ascii "line") l.bytes []
  note_swept n to l Unfinished = note_text n (ascii "line") l.bytes []
  note_swept n to l End = note_text n (ascii "line") l.bytes []

  abbrev pub to_swept : ℕ → Line → Record → ℕ
  to_swept to l (Frame p h4 flag place next) = to + length (line_text l)
  to_swept to l (Malformed next) = to
  to_swept to l Long = to
  to_swept to l Unfinished = to
  to_swept to l End = to

  abbrev pub notes_swept : ℕ → ℕ → List Line → List ℕ
  notes_swept n to [] = []
  notes_swept n to (l ∷ ls) = note_swept n to l (record_of ports size l) ++ notes_swept (suc n) (to_swept to l (record_of ports size l)) ls
