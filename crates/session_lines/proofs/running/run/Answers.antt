use Rattle.std.proofs.Common.{◌≡◌, ◌≤◌, length}
use Rattle.session_lines.specs.Laws.Running.{ended, ran}
use Rattle.session_lines.specs.Running.Ran.{Refused}
use Rattle.session_lines.proofs.running.run.Goals as goal

pub returns-then-out-ROOM-clause-ran : goal.returns-then-out-ROOM-clause-ran
returns-then-out-ROOM-clause-ran g c = Refused (rw c.ROOM.ensures at c.if-out-ROOM.true)

pub returns-clause-ran : goal.returns-clause-ran
returns-clause-ran g c =
    let h : g.C.Console.ROOM ≤ length c.args.out.now = rw c.ROOM.ensures at c.if-out-ROOM.false in
    ran g.C.Console.ROOM g.C.Console.kept_of g.C.Console.keeping g.C.Console.left_by g.C.Console.said_by c.args.console c.feed_read.new.console c.args.out.now c.feed_read.new.out (g.R.Read.remaining c.args.from.now) (g.R.Read.remaining c.feed_read.new.from) c.end.result h c.feed_read.auto.out c.in_ok-feed_read.ensures.fed c.end.ensures

pub returns-clause-unread : goal.returns-clause-unread
returns-clause-unread g c =
    let h : g.C.Console.ROOM ≤ length c.args.out.now = rw c.ROOM.ensures at c.if-out-ROOM.false in
    ended g.C.Console.ROOM g.C.Console.kept_of g.C.Console.keeping g.C.Console.left_by g.C.Console.said_by c.feed_read.new.console c.args.out.now c.feed_read.new.out c.end.result (c.feed_read.new.from ≡ c.args.from.now) h c.feed_read.auto.out c.end.ensures
