-- The whole output of a session told to a listener, and a host's run that feeds the input in parts.
use Rattle.std.specs.Prelude.{Bool, List, [], ◌∷◌, ◌++◌, ℕ, zero, suc, drop, length, take}
use Rattle.ground.specs.Types.{Bytes}
use Rattle.text.specs.Text.{lines_of}
use Rattle.speak_lines.specs.declared.listening.Listener.{Listener}
use Rattle.speak_lines.specs.Listening.{after_line, beginning, feed_bytes, feed_of, finish_bytes, finish_of, text_of}

-- what lines print, one behind the other
abbrev pub printed : (listener : Listener) (lines : List Bytes) → Bytes
printed l [] = []
printed l (line ∷ lines) = text_of l line ++ printed (after_line l line) lines

unfoldable pub whole_output : (runs : Bool) (input : Bytes) → Bytes
whole_output runs input = printed (beginning runs) (lines_of input)

-- a host with a listener, the buffer that it lends to each call, and what it has written
pub record Host : Type 0 where
  pub listener : Listener
  pub buffer : List ℕ
  pub said : List ℕ

-- one call on a part of the input; what the call has written is written on
unfoldable pub fed_once : (h : Host) (part : Bytes) → Host
fed_once h part =
    record {
      listener = (feed_of h.listener part h.buffer).listener;
      buffer = feed_bytes h.listener part h.buffer;
      said = h.said ++ take (feed_of h.listener part h.buffer).written (feed_bytes h.listener part h.buffer);
    }

unfoldable pub left_of : (h : Host) (part : Bytes) → Bytes
left_of h part = drop (feed_of h.listener part h.buffer).used part

-- calls on what is left of a part, at most n of them
abbrev pub fed_up_to : (n : ℕ) (h : Host) (part : Bytes) → Host
fed_up_to zero h part = h
fed_up_to (suc n) h [] = h
fed_up_to (suc n) h (b ∷ part) = fed_up_to n (fed_once h (b ∷ part)) (left_of h (b ∷ part))

-- part after part, each until it is used up
abbrev pub fed_parts : (h : Host) (parts : List Bytes) → Host
fed_parts h [] = h
fed_parts h (p ∷ ps) = fed_parts (fed_up_to (length p) h p) ps

-- and the end of the input
unfoldable pub ended_run : (h : Host) → Bytes
ended_run h = h.said ++ take (finish_of h.listener h.buffer).written (finish_bytes h.listener h.buffer)

-- the output of a host that reads these parts
unfoldable pub host_output : (runs : Bool) (buffer : Bytes) (parts : List Bytes) → Bytes
host_output runs buffer parts = ended_run (fed_parts (record { listener = beginning runs; buffer = buffer; said = [] }) parts)
