-- What the lines of a session are to the sender, with its epochs, and what lines leave.
use Rattle.std.specs.Prelude.{◌≡◌, List, [], ◌∷◌, ◌++◌, if◌then◌else◌}
use Rattle.ground.specs.Types.{Bytes}
use Rattle.session_lines.specs.Line.{line_of}
use Rattle.session_lines.specs.Told.{call_of, has_size, is_size, meant}
use Rattle.sender.specs.Calls.{Call}
use Rattle.sender.specs.declared.epochs.Sender.{Sender}
use Rattle.sender.specs.Epochs.{SenderCall}
use Rattle.sender.specs.Epochs.SenderCall.{OnTable, StartEpoch}
use Rattle.spoken.specs.Taking.{taken_of}
use Rattle.speak_lines.specs.declared.listening.Listener.{Listener}
use Rattle.speak_lines.specs.Listening.{after_line, is_epoch, with_kept}

-- a listener behind lines
abbrev pub behind : (listener : Listener) (lines : List Bytes) → Listener
behind l [] = l
behind l (line ∷ lines) = behind (after_line l line) lines

-- two listeners alike but for the line that has begun
abbrev pub same_but_kept : (one other : Listener) → Type 0
same_but_kept one other = one ≡ with_kept other one.kept

abbrev pub on_table : (calls : List Call) → List SenderCall
on_table [] = []
on_table (c ∷ cs) = OnTable c ∷ on_table cs

-- the calls of a sender that a line names: `epoch` starts one, with the fields that packets carry beside the board at rest
abbrev pub calls_of : (line : Bytes) → List SenderCall
calls_of line = if is_epoch line then StartEpoch 0 0xFF 0 ∷ [] else on_table (call_of (line_of line))

abbrev pub calls_in : (lines : List Bytes) → List SenderCall
calls_in [] = []
calls_in (line ∷ lines) = calls_of line ++ calls_in lines

-- the lines behind the last size that was accepted, or all where there is none
abbrev pub since_size : (lines : List Bytes) → List Bytes
since_size [] = []
since_size (line ∷ lines) = if has_size (meant lines) then since_size lines else if is_size (line_of line) then lines else line ∷ lines

-- a listener whose table is the sender's, and who holds the board that it sends
pub record Follows (l : Listener) (s : Sender) : Type 0 where
  pub table : l.table ≡ s.table
  pub heard : l.heard ≡ taken_of s
