-- The lines of the changes so far stand at the front of the output, and the next begins behind them.
use Rattle.text.specs.Output.{Put}
use Rattle.spoken.specs.Speaking.{change_lines}
use Rattle.spoken.proofs.speaking.put_changes.Given as goal

abbrev pub invariant-loop-change : goal.invariant-loop-change
invariant-loop-change l = Put (change_lines l.changes l.change-index) 0 l.initial.out l.at l.out
