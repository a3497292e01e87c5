-- The whole output of a session (01, 'Session'), and a host's run that feeds the input in parts.
use Rattle.std.specs.Prelude.{List, [], ◌∷◌, ◌++◌, ℕ, zero, suc, drop, length, take}
use Rattle.ground.specs.Types.{Bytes}
use Rattle.sender.specs.declared.table.Table.{Table}
use Rattle.session_lines.specs.declared.session.Session.{Session}
use Rattle.session_lines.specs.Session.{beginning, feed_bytes, feed_of, finish_bytes, finish_of, said_to, table_after}
use Rattle.text.specs.Text.{lines_of}

-- what lines are answered, one behind the other
abbrev pub answers_to : Table → List (List ℕ) → List ℕ
answers_to t [] = []
answers_to t (l ∷ ls) = said_to t l ++ answers_to (table_after t l) ls

-- 'Whole output'
unfoldable pub whole_output : Bytes → Bytes
whole_output input = answers_to beginning.table (lines_of input)

-- a host with a session, the buffer that it lends to each call, and what it has written
pub record Host : Type 0 where
  pub session : Session
  pub buffer : List ℕ
  pub said : List ℕ

-- one call on a part of the input; what the call has written is written on
unfoldable pub fed_once : Host → Bytes → Host
fed_once h part =
    record {
      session = (feed_of h.session part h.buffer).session;
      buffer = feed_bytes h.session part h.buffer;
      said = h.said ++ take (feed_of h.session part h.buffer).written (feed_bytes h.session part h.buffer);
    }

unfoldable pub left_of : Host → Bytes → Bytes
left_of h part = drop (feed_of h.session part h.buffer).used part

-- calls on what is left of a part, at most n of them
abbrev pub fed_up_to : (n : ℕ) (h : Host) (part : Bytes) → Host
fed_up_to zero h part = h
fed_up_to (suc n) h [] = h
fed_up_to (suc n) h (b ∷ part) = fed_up_to n (fed_once h (b ∷ part)) (left_of h (b ∷ part))

-- part after part, each until it is used up
abbrev pub fed_parts : Host → List (List ℕ) → Host
fed_parts h [] = h
fed_parts h (p ∷ ps) = fed_parts (fed_up_to (length p) h p) ps

-- and the end of the input
unfoldable pub ended_run : Host → List ℕ
ended_run h = h.said ++ take (finish_of h.session h.buffer).written (finish_bytes h.session h.buffer)

-- the output of a host that reads these parts
unfoldable pub host_output : List ℕ → List (List ℕ) → List ℕ
host_output buffer parts = ended_run (fed_parts (record { session = beginning; buffer = buffer; said = [] }) parts)

-- the parts one behind the other
abbrev pub joined : List (List ℕ) → Bytes
joined [] = []
joined (p ∷ ps) = p ++ joined ps
