-- Each exit is one case of the definition: no room, a line that ends in the part, or one that goes on.
use Rattle.std.proofs.Common.{◌<◌, ◌≤◌, length, le-ltb, lt-ltb}
use Rattle.session_lines.specs.Consoles.{fed_by, fed_bytes_by}
use Rattle.session_lines.proofs.Gathers.{is_ended, is_open}
use Rattle.session_lines.proofs.console.feed_any.Goals as goal

pub returns-then-out-ROOM-clause-fed : goal.returns-then-out-ROOM-clause-fed
unfolding fed_by
returns-then-out-ROOM-clause-fed g c =
    let h : length c.args.out.now < g.C.Console.ROOM = rw c.ROOM.ensures at c.if-out-ROOM.true in
    rw (lt-ltb (length c.args.out.now) g.C.Console.ROOM h)

pub returns-then-out-ROOM-clause-bytes : goal.returns-then-out-ROOM-clause-bytes
unfolding fed_bytes_by
returns-then-out-ROOM-clause-bytes g c =
    let h : length c.args.out.now < g.C.Console.ROOM = rw c.ROOM.ensures at c.if-out-ROOM.true in
    rw (lt-ltb (length c.args.out.now) g.C.Console.ROOM h)

pub returns-in-Ended-clause-fed : goal.returns-in-Ended-clause-fed
unfolding fed_by
returns-in-Ended-clause-fed g c =
    let h : g.C.Console.ROOM ≤ length c.args.out.now = rw c.ROOM.ensures at c.if-out-ROOM.false in
    let t = is_ended c.kept.result c.args.input.now c.in-Ended.line c.in-Ended.used c.in-Ended.ensures in
    rw (le-ltb (length c.args.out.now) g.C.Console.ROOM h, t.ends, c.answer-console.ensures.left, c.answer-console.ensures.written, t.line_is, t.used_is, c.kept.ensures)

pub returns-in-Ended-clause-bytes : goal.returns-in-Ended-clause-bytes
unfolding fed_bytes_by
returns-in-Ended-clause-bytes g c =
    let h : g.C.Console.ROOM ≤ length c.args.out.now = rw c.ROOM.ensures at c.if-out-ROOM.false in
    let t = is_ended c.kept.result c.args.input.now c.in-Ended.line c.in-Ended.used c.in-Ended.ensures in
    rw (le-ltb (length c.args.out.now) g.C.Console.ROOM h, t.ends, c.answer-console.ensures.said, t.line_is, c.kept.ensures)

pub returns-in-Open-clause-fed : goal.returns-in-Open-clause-fed
unfolding fed_by
returns-in-Open-clause-fed g c =
    let h : g.C.Console.ROOM ≤ length c.args.out.now = rw c.ROOM.ensures at c.if-out-ROOM.false in
    let t = is_open c.kept.result c.args.input.now c.in-Open.kept c.in-Open.ensures in
    rw (le-ltb (length c.args.out.now) g.C.Console.ROOM h, t.goes_on, c.with_kept.ensures, t.kept_is, c.kept.ensures, t.used_is)

pub returns-in-Open-clause-bytes : goal.returns-in-Open-clause-bytes
unfolding fed_bytes_by
returns-in-Open-clause-bytes g c =
    let h : g.C.Console.ROOM ≤ length c.args.out.now = rw c.ROOM.ensures at c.if-out-ROOM.false in
    let t = is_open c.kept.result c.args.input.now c.in-Open.kept c.in-Open.ensures in
    rw (le-ltb (length c.args.out.now) g.C.Console.ROOM h, t.goes_on)
