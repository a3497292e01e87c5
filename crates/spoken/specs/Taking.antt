-- 'A board is taken only at an epoch's start, so no list ever mixes two orders.' (02, 2026-10)
use Rattle.sender.specs.declared.board.Board.{Board}
use Rattle.sender.specs.declared.epochs.Sender.{Sender}

-- the board going out, which the start of the epoch fixed; not the table now
abbrev pub taken_of : Sender → Board
taken_of s = s.outgoing
