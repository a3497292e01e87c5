-- What is written lies in the buffer, and what is used is some of what is left and no more.
use Rattle.std.proofs.Common.{rules, ◌≡◌, ◌<◌, ◌≤◌, ◌-◌, List, ℕ, drop, length, length-drop, length-take-le, sym, take}
use Rattle.std.proofs.Math.Seq.{take-length}
use Rattle.session_lines.specs.Laws.Consoles.{fed_on, fed_within}
use Rattle.session_lines.specs.Laws.Running.{feed_refused, whole_done, whole_on}
use Rattle.session_lines.proofs.running.feed_all.Goals as goal
use Rattle.session_lines.proofs.running.feed_all.Goals.{In_ok-fed}

within : (g : _) (c : In_ok-fed g) → c.in_ok-fed.fed.written ≤ length c.feed_any.new.out
within g c =
    let e = c.in_ok-fed.ensures in
    rw e.bytes (fed_within g.C.Console.ROOM g.C.Console.kept_of g.C.Console.keeping g.C.Console.left_by g.C.Console.said_by c.loop-rest.console c.loop-rest.out c.in_ok-fed.fed c.loop-rest.rest.now e.fed)

some : (g : _) (c : In_ok-fed g) → (0 < c.in_ok-fed.fed.used) × (c.in_ok-fed.fed.used ≤ length c.loop-rest.rest.now)
some g c =
    let e = c.in_ok-fed.ensures in
    let h : 0 < length c.loop-rest.rest.now = search rules in
    fed_on g.C.Console.ROOM g.C.Console.kept_of g.C.Console.keeping g.C.Console.left_by g.C.Console.said_by c.loop-rest.console c.loop-rest.out c.in_ok-fed.fed c.loop-rest.rest.now e.fed h

pub slice_bounds-write_all-end : goal.slice_bounds-write_all-end
slice_bounds-write_all-end g c = within g c

pub slice_bounds-write_all-end-in-loop-rest : goal.slice_bounds-write_all-end-in-loop-rest
slice_bounds-write_all-end-in-loop-rest g c = sym (length-take-le _ _ (within g c))

pub slice_bounds-rest-count : goal.slice_bounds-rest-count
slice_bounds-rest-count g c = (some g (goal.at.slice_bounds-rest-count g c).In_ok-fed).1

pub slice_bounds-rest-start : goal.slice_bounds-rest-start
slice_bounds-rest-start g c = let s = (some g (goal.at.slice_bounds-rest-start g c).In_ok-fed).1 in search rules

pub loop-rest-smaller : goal.loop-rest-smaller
loop-rest-smaller g c = let s = some g (goal.at.loop-rest-smaller g c).In_ok-fed in search rules

behind : (n : ℕ) (l : List ℕ) → take (length l - n) (drop n l) ≡ drop n l
behind n l = rw (← length-drop n l) (take-length (drop n l))

pub loop-rest-preserved : goal.loop-rest-preserved
loop-rest-preserved g c =
    let e = c.in_ok-fed.ensures in
    let h : 0 < length c.loop-rest.rest.now = search rules in
    whole_on g.C.Console.ROOM g.C.Console.kept_of g.C.Console.keeping g.C.Console.left_by g.C.Console.said_by _ c.loop-rest.console c.loop-rest.rest.now c.loop-rest.out _ c.in_ok-fed.fed c.loop-rest.invariant e.fed h
    (behind c.in_ok-fed.fed.used c.loop-rest.rest.now)

pub returns-clause-left : goal.returns-clause-left
returns-clause-left g c =
    let h : length c.loop-rest.rest.now ≤ 0 = search rules in
    whole_done g.C.Console.ROOM g.C.Console.kept_of g.C.Console.keeping g.C.Console.left_by g.C.Console.said_by _ c.loop-rest.console c.loop-rest.rest.now c.loop-rest.invariant h

pub returns-in_err-fed-clause-refused : goal.returns-in_err-fed-clause-refused
returns-in_err-fed-clause-refused g c =
    let e = c.in_err-fed.ensures in
    let n : length c.loop-rest.out < g.C.Console.ROOM = feed_refused g.C.Console.ROOM g.C.Console.kept_of g.C.Console.keeping g.C.Console.left_by g.C.Console.said_by c.loop-rest.console c.loop-rest.rest.now c.loop-rest.out c.in_err-fed.field-0.0 e.fed in
    let m : length c.args.out.now < g.C.Console.ROOM = rw c.loop-rest.auto.out at n in
    search rules
