-- Each turn uses at least one byte of what is left, and what is left of the part leaves what the whole part does.
use Rattle.std.proofs.Common.{◌≡◌, length}
use Rattle.session_lines.specs.Running.{left_by_whole}
use Rattle.session_lines.proofs.running.feed_all.Given as goal

abbrev pub decreases-loop-rest : goal.decreases-loop-rest
decreases-loop-rest g l = length l.rest

abbrev pub invariant-loop-rest : goal.invariant-loop-rest
invariant-loop-rest g l =
    left_by_whole g.C.Console.ROOM g.C.Console.kept_of g.C.Console.keeping g.C.Console.left_by g.C.Console.said_by l.fn.console l.fn.input
    ≡ left_by_whole g.C.Console.ROOM g.C.Console.kept_of g.C.Console.keeping g.C.Console.left_by g.C.Console.said_by l.console l.rest
