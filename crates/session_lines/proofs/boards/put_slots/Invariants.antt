-- After i turns the lines of the first i slots stand at the front of the output, and the next begins behind them.
use Rattle.text.specs.Output.{Put}
use Rattle.session_lines.specs.Output.{slots_text}
use Rattle.session_lines.proofs.boards.put_slots.Given as goal

abbrev pub invariant-loop-i : goal.invariant-loop-i
invariant-loop-i l = Put (slots_text l.rows l.i) 0 l.initial.out l.at l.out
