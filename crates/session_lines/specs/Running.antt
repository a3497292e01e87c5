-- A run over a whole input: its parts, each fed whole, one behind the other, and then its end.
use Rattle.std.specs.Prelude.{List, [], ◌∷◌, ℕ, zero, suc, ◌<◌, ◌≤◌, drop, length, Option, Result, Ok, Err, if◌then◌else◌}
use Rattle.std.specs.Io.KnownBytes.{Consumes}
use Rattle.ground.specs.Plain.{◌<?◌}
use Rattle.ground.specs.Types.{Bytes}
use Rattle.session_lines.specs.Consoles.{left_at_end, left_by_part}
use Rattle.session_lines.specs.declared.console.Refusal.{Refusal}
use Rattle.session_lines.specs.declared.console.Refusal.TheVariants.{Length}
use Rattle.session_lines.specs.declared.kept.Kept.{Kept}
use Rattle.session_lines.specs.Runs.{joined}
use Rattle.session_lines.specs.Session.{used_of}

module _ {C : Type 0} (room : ℕ) (kept_of : C → Kept) (keeping : C → Kept → C) (left_by : C → Bytes → C) (said_by : C → Bytes → Bytes) where
  -- line by line, at most n of them
  abbrev pub left_up_to : (n : ℕ) → C → Bytes → C
  left_up_to zero c input = c
  left_up_to (suc n) c [] = c
  left_up_to (suc n) c (b ∷ input) =
      left_up_to n (left_by_part room kept_of keeping left_by said_by c (b ∷ input)) (drop (used_of (b ∷ input)) (b ∷ input))

  -- a part to its last byte; it has no more lines than bytes
  unfoldable pub left_by_whole : C → Bytes → C
  left_by_whole c input = left_up_to (length input) c input

  -- part after part
  abbrev pub left_by_parts : C → (parts : List Bytes) → C
  left_by_parts c [] = c
  left_by_parts c (part ∷ parts) = left_by_parts (left_by_whole c part) parts

  -- A console that has come from another by parts of an input alone, which one behind the other are what a reader gave: before it had `more`
  -- to give, and then `rest`, as far as the reader says what it has.
  pub data FedParts (from : C) : (to : C) (more rest : Option Bytes) → Type 0 where
    ByParts : {more rest : Option Bytes} (parts : List Bytes) → Consumes more rest (joined parts) → FedParts from (left_by_parts from parts) more rest

  -- the end of the input
  unfoldable pub ended_by : C → (out : Bytes) → Result C Refusal
  ended_by c out = if length out <? room then Err Length else Ok (left_at_end room kept_of left_by said_by c)

  -- what a run gives: 9 for a buffer without room, and else the console as such parts and the end of the input leave it
  pub data Ran (from : C) (out : Bytes) (more rest : Option Bytes) : Result C Refusal → Type 0 where
    Refused : length out < room → Ran from out more rest (Err Length)
    Ended : room ≤ length out → (parts : List Bytes) → Consumes more rest (joined parts)
        → Ran from out more rest (Ok (left_at_end room kept_of left_by said_by (left_by_parts from parts)))
