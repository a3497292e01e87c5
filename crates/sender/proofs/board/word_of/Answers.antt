-- `word_of` meets its contract: a state a case, and of an active one whether its number is the highest.
use Rattle.sender.proofs.board.word_of.Goals as goal

pub returns-in-Idle : goal.returns-in-Idle
returns-in-Idle c = rw c.in-Idle.is

pub returns-in-Add : goal.returns-in-Add
returns-in-Add c = rw c.in-Add.is

pub returns-then-last : goal.returns-then-last
returns-then-last c = rw (c.in-Active.is, c.if-last.true)

pub returns-else-last : goal.returns-else-last
returns-else-last c = rw (c.in-Active.is, c.if-last.false)

pub returns-in-Dnu : goal.returns-in-Dnu
returns-in-Dnu c = rw c.in-Dnu.is
