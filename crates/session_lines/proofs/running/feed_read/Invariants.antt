-- The console has come from the one that was lent by what the reader gave alone.
use Rattle.session_lines.specs.Running.{FedParts}
use Rattle.session_lines.proofs.running.feed_read.Given as goal

abbrev pub invariant-loop : goal.invariant-loop
invariant-loop g l =
    FedParts g.C.Console.ROOM g.C.Console.kept_of g.C.Console.keeping g.C.Console.left_by g.C.Console.said_by l.fn.console l.console (g.R.Read.remaining l.fn.from) (g.R.Read.remaining l.from)
