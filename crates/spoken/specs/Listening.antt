-- Someone who listens (item 1 of the minutes): she holds a board, and at the start of an epoch she is told the changes to the board that goes out.
use Rattle.std.specs.Prelude.{Bool, List, [], ◌∷◌, if◌then◌else◌}
use Rattle.sender.specs.declared.board.Board.{Board}
use Rattle.sender.specs.declared.epochs.Sender.{Sender}
use Rattle.sender.specs.Epochs.{SenderCall, sender_outcome_of}
use Rattle.sender.specs.Epochs.SenderCall.{OnTable, StartEpoch}
use Rattle.spoken.specs.Answers.{Applied}
use Rattle.spoken.specs.Applying.{applied_of}
use Rattle.spoken.specs.Changes.{compared_of}
use Rattle.spoken.specs.Taking.{taken_of}

-- what she does with the changes from one board to another
abbrev pub told_from : (known old new : Board) → Applied
told_from known old new = applied_of known (compared_of old new).changes

-- At each start of an epoch: the changes from the board going out before to the one going out now. Other calls are not spoken.
abbrev pub hears_call : (known : Board) (s : Sender) (call : SenderCall) → Board
hears_call known s (OnTable c) = known
hears_call known s (StartEpoch gid mst ack) = (told_from known (taken_of s) (taken_of (sender_outcome_of s (StartEpoch gid mst ack)).sender)).board

abbrev pub known_after : (known : Board) (s : Sender) (cs : List SenderCall) → Board
known_after known s [] = known
known_after known s (c ∷ cs) = known_after (hears_call known s c) (sender_outcome_of s c).sender cs

-- One who is not always there. Where she hears, one list is told from the last board that she heard to the one going out now.
pub record Moment : Type 0 where
  pub call : SenderCall
  pub hears : Bool

abbrev pub calls_in : List Moment → List SenderCall
calls_in [] = []
calls_in (m ∷ ms) = m.call ∷ calls_in ms

abbrev pub known_now : (known : Board) (s : Sender) (hears : Bool) → Board
known_now known s hears = if hears then (told_from known known (taken_of s)).board else known

abbrev pub known_with : (known : Board) (s : Sender) (ms : List Moment) → Board
known_with known s [] = known
known_with known s (m ∷ ms) = known_with (known_now known (sender_outcome_of s m.call).sender m.hears) (sender_outcome_of s m.call).sender ms
