-- What is written lies in the buffer.
use Rattle.std.proofs.Common.{rules, ◌≤◌, length, length-take-le, sym}
use Rattle.session_lines.specs.Laws.Consoles.{ended_within}
use Rattle.session_lines.specs.Laws.Running.{end_done, end_refused}
use Rattle.session_lines.proofs.running.end.Goals as goal
use Rattle.session_lines.proofs.running.end.Goals.{In_ok-fed}

within : (g : _) (c : In_ok-fed g) → c.in_ok-fed.fed.written ≤ length c.finish_any.new.out
within g c =
    let e = c.in_ok-fed.ensures in
    rw e.bytes (ended_within g.C.Console.ROOM g.C.Console.kept_of g.C.Console.keeping g.C.Console.left_by g.C.Console.said_by c.args.console c.args.out.now c.in_ok-fed.fed e.fed)

pub slice_bounds-write_all-end : goal.slice_bounds-write_all-end
slice_bounds-write_all-end g c = within g c

pub slice_bounds-write_all-end-2 : goal.slice_bounds-write_all-end-2
slice_bounds-write_all-end-2 g c = sym (length-take-le _ _ (within g c))

pub returns : goal.returns
returns g c = end_done g.C.Console.ROOM g.C.Console.kept_of g.C.Console.keeping g.C.Console.left_by g.C.Console.said_by c.args.console c.args.out.now c.in_ok-fed.fed c.in_ok-fed.ensures.fed

pub returns-in_err-fed : goal.returns-in_err-fed
returns-in_err-fed g c =
    let n = end_refused g.C.Console.ROOM g.C.Console.kept_of g.C.Console.keeping g.C.Console.left_by g.C.Console.said_by c.args.console c.args.out.now c.in_err-fed.field-0.0 c.in_err-fed.ensures.fed in
    search rules
