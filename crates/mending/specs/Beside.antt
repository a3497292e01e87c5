-- A torn recording's lines beside the mended ones (2026-11), for the theorems: what must be the same, and which lines a note must name.
use Rattle.std.specs.Prelude.{◌≡◌, Bool, false, List, [], ◌∷◌, ◌++◌, ◌≢◌, ℕ, suc, ◌-◌, get_or, length, if◌then◌else◌, ◌==◌}
use Rattle.ground.specs.Finite.{same_bytes}
use Rattle.ground.specs.Types.{Bytes}
use Rattle.mending.specs.Lines.{Line, digit_place, record_of}
use Rattle.mending.specs.Mending.{note_text}
use Rattle.recording.specs.Record.{is_frame}
use Rattle.recording.specs.declared.record.Record.{Record}
use Rattle.recording.specs.declared.record.Record.TheVariants.{Frame, Malformed, Long, Unfinished, End}
use Rattle.text.specs.Ascii.{ascii}

-- whether a record is a port's
abbrev pub is_port : ℕ → Record → Bool
is_port port (Frame p h4 flag place next) = p == port
is_port port (Malformed next) = false
is_port port Long = false
is_port port Unfinished = false
is_port port End = false

module _ (size : ℕ) where
  -- the same end, the same length, and each byte but for the fourth before the payload
  pub record Alike (l m : Line) : Type 0 where
    pub end : m.end ≡ l.end
    pub long : length m.bytes ≡ length l.bytes
    pub bytes : (i : ℕ) → i ≢ digit_place size l → get_or m.bytes i 0 ≡ get_or l.bytes i 0

  -- line by line
  abbrev pub AllAlike : List Line → List Line → Type 0
  AllAlike [] [] = Unit {0}
  AllAlike [] (m ∷ ms) = ⊥
  AllAlike (l ∷ ls) [] = ⊥
  AllAlike (l ∷ ls) (m ∷ ms) = Alike l m × AllAlike ls ms

  -- H4 as it stands in a line
  abbrev pub h4_in : Line → Bytes
  h4_in l = get_or l.bytes (digit_place size l - 1) 0 ∷ get_or l.bytes (digit_place size l) 0 ∷ []

  -- a note exactly if the line is another one now, with the old text and the new
  abbrev pub altered_note : (n : ℕ) (torn mended : Line) → Bytes
  altered_note n l m = if same_bytes l.bytes m.bytes then [] else note_text n (ascii "H4") (h4_in l) (h4_in m)

module _ (ports size : ℕ) where
  -- the lines that are not malformed
  abbrev pub well_formed : List Line → List Line
  well_formed [] = []
  well_formed (l ∷ ls) = if is_frame (record_of ports size l) then l ∷ well_formed ls else well_formed ls

  -- the notes of lines numbered from n, by the lines alone, torn and mended: a malformed line has been dropped
  abbrev pub notes_beside : (n : ℕ) (torn mended : List Line) → Bytes
  notes_beside n [] ms = []
  notes_beside n (l ∷ ls) [] = if is_frame (record_of ports size l) then [] else note_text n (ascii "line") l.bytes [] ++ notes_beside (suc n) ls []
  notes_beside n (l ∷ ls) (m ∷ ms) =
      if is_frame (record_of ports size l) then altered_note size n l m ++ notes_beside (suc n) ls ms
      else note_text n (ascii "line") l.bytes [] ++ notes_beside (suc n) ls (m ∷ ms)

  -- the lines of one port
  abbrev pub port_lines : ℕ → List Line → List Line
  port_lines port [] = []
  port_lines port (l ∷ ls) = if is_port port (record_of ports size l) then l ∷ port_lines port ls else port_lines port ls
