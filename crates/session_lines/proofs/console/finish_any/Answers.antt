-- Each exit is one case of the definition: no room, nothing kept, or a line kept.
use Rattle.std.proofs.Common.{arith, eqb-true, sym, ◌<◌, ◌≤◌, length, le-ltb, lt-ltb}
use Rattle.std.proofs.lemmas.Bool.{eqb-false}
use Rattle.session_lines.specs.Consoles.{finished_by, finished_bytes_by}
use Rattle.session_lines.proofs.console.finish_any.Goals as goal

pub returns-then-out-ROOM-clause-fed : goal.returns-then-out-ROOM-clause-fed
unfolding finished_by
returns-then-out-ROOM-clause-fed g c =
    let h : length c.args.out.now < g.C.Console.ROOM = rw c.ROOM.ensures at c.if-out-ROOM.true in
    rw (lt-ltb (length c.args.out.now) g.C.Console.ROOM h)

pub returns-then-out-ROOM-clause-bytes : goal.returns-then-out-ROOM-clause-bytes
unfolding finished_bytes_by
returns-then-out-ROOM-clause-bytes g c =
    let h : length c.args.out.now < g.C.Console.ROOM = rw c.ROOM.ensures at c.if-out-ROOM.true in
    rw (lt-ltb (length c.args.out.now) g.C.Console.ROOM h)

pub returns-then-is_empty-clause-fed : goal.returns-then-is_empty-clause-fed
unfolding finished_by
returns-then-is_empty-clause-fed g c =
    let h : g.C.Console.ROOM ≤ length c.args.out.now = rw c.ROOM.ensures at c.if-out-ROOM.false in
    let n : (g.C.Console.kept_of c.args.console).count ≤ 0 = rw c.kept-line.ensures at (let z = eqb-true c.kept-line.result.count 0 (sym c.if-is_empty.ensures) in let y : c.kept-line.result.count ≤ 0 = omega arith in y) in
    rw (le-ltb (length c.args.out.now) g.C.Console.ROOM h, le-ltb 0 (g.C.Console.kept_of c.args.console).count n)

pub returns-then-is_empty-clause-bytes : goal.returns-then-is_empty-clause-bytes
unfolding finished_bytes_by
returns-then-is_empty-clause-bytes g c =
    let h : g.C.Console.ROOM ≤ length c.args.out.now = rw c.ROOM.ensures at c.if-out-ROOM.false in
    let n : (g.C.Console.kept_of c.args.console).count ≤ 0 = rw c.kept-line.ensures at (let z = eqb-true c.kept-line.result.count 0 (sym c.if-is_empty.ensures) in let y : c.kept-line.result.count ≤ 0 = omega arith in y) in
    rw (le-ltb (length c.args.out.now) g.C.Console.ROOM h, le-ltb 0 (g.C.Console.kept_of c.args.console).count n)

pub returns-clause-fed : goal.returns-clause-fed
unfolding finished_by
returns-clause-fed g c =
    let h : g.C.Console.ROOM ≤ length c.args.out.now = rw c.ROOM.ensures at c.if-out-ROOM.false in
    let n : 0 < (g.C.Console.kept_of c.args.console).count = rw c.kept-line.ensures at (let z = eqb-false c.kept-line.result.count 0 (sym c.if-is_empty.ensures) in let y : 0 < c.kept-line.result.count = omega arith in y) in
    rw (le-ltb (length c.args.out.now) g.C.Console.ROOM h, lt-ltb 0 (g.C.Console.kept_of c.args.console).count n, c.answer-console.ensures.left, c.answer-console.ensures.written, c.kept-line.ensures)

pub returns-clause-bytes : goal.returns-clause-bytes
unfolding finished_bytes_by
returns-clause-bytes g c =
    let h : g.C.Console.ROOM ≤ length c.args.out.now = rw c.ROOM.ensures at c.if-out-ROOM.false in
    let n : 0 < (g.C.Console.kept_of c.args.console).count = rw c.kept-line.ensures at (let z = eqb-false c.kept-line.result.count 0 (sym c.if-is_empty.ensures) in let y : 0 < c.kept-line.result.count = omega arith in y) in
    rw (le-ltb (length c.args.out.now) g.C.Console.ROOM h, lt-ltb 0 (g.C.Console.kept_of c.args.console).count n, c.answer-console.ensures.said, c.kept-line.ensures)
