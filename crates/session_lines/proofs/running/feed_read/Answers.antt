-- What is read is fed whole, and where nothing is read nothing is fed.
use Rattle.std.specs.Io.KnownBytes.{Consumes}
use Rattle.std.specs.Prelude.{[]}
use Rattle.session_lines.specs.Laws.Running.{fed_more, fed_none, fed_same, keeps_none}
use Rattle.session_lines.proofs.running.feed_read.Goals as goal

pub loop-init : goal.loop-init
loop-init g c = fed_none g.C.Console.ROOM g.C.Console.kept_of g.C.Console.keeping g.C.Console.left_by g.C.Console.said_by c.args.console.now (g.R.Read.remaining c.args.from.now)

pub loop-preserved : goal.loop-preserved
loop-preserved g c =
    fed_more g.C.Console.ROOM g.C.Console.kept_of g.C.Console.keeping g.C.Console.left_by g.C.Console.said_by c.args.console.now c.loop.console c.feed_all.new.console _
    (g.R.Read.remaining c.args.from.now) (g.R.Read.remaining c.loop.from) (g.R.Read.remaining c.read.new.self) c.loop.invariant c.in-Ok.ensures.bytes.0 c.in_ok-feed_all.ensures.left

pub returns-then-not-branch-clause-fed : goal.returns-then-not-branch-clause-fed
returns-then-not-branch-clause-fed g c =
    fed_more g.C.Console.ROOM g.C.Console.kept_of g.C.Console.keeping g.C.Console.left_by g.C.Console.said_by c.args.console.now c.loop.console c.feed_all.new.console _
    (g.R.Read.remaining c.args.from.now) (g.R.Read.remaining c.loop.from) (g.R.Read.remaining c.read.new.self) c.loop.invariant c.in-Ok.ensures.bytes.0 c.in_ok-feed_all.ensures.left

pub returns-then-n-eq0-clause-fed : goal.returns-then-n-eq0-clause-fed
returns-then-n-eq0-clause-fed g c =
    let nothing : Consumes (g.R.Read.remaining c.loop.from) (g.R.Read.remaining c.read.new.self) [] = rw c.if-n-eq0.true at c.in-Ok.ensures.bytes.0 in
    fed_same g.C.Console.ROOM g.C.Console.kept_of g.C.Console.keeping g.C.Console.left_by g.C.Console.said_by c.args.console.now c.loop.console
    (g.R.Read.remaining c.args.from.now) (g.R.Read.remaining c.loop.from) (g.R.Read.remaining c.read.new.self) c.loop.invariant nothing

pub returns-in_default-clause-fed : goal.returns-in_default-clause-fed
returns-in_default-clause-fed g c =
    let nothing = keeps_none (g.R.Read.remaining c.loop.from) (g.R.Read.remaining c.read.new.self) c.in_default.ensures.bytes in
    fed_same g.C.Console.ROOM g.C.Console.kept_of g.C.Console.keeping g.C.Console.left_by g.C.Console.said_by c.args.console.now c.loop.console
    (g.R.Read.remaining c.args.from.now) (g.R.Read.remaining c.loop.from) (g.R.Read.remaining c.read.new.self) c.loop.invariant nothing
