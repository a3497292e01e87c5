-- With one member a group frame is that member's frame, a run of the store laid down as it is (`alone_run`).
-- Where the payload or the store does not allow it, the definition joins nothing either (`alone_short`).
use mathlib.Core.Path.{◌≡◌, ◌∙◌, ap}
use mathlib.Core.Bool.{◌&&◌}
use Prim.Native.Nat.{ℕ, ◌+◌, ◌-◌, ◌≤◌}
use native.Mathlib.Omega.{arith}
use lib.Dec.{leb}
use lib.ListN.{length}
use borrow.Author.Tests.{leb-true}
use Rattle.ground.specs.Truth.{and_right}
use Rattle.payload.specs.Answers.{PAYLOAD-MOST}
use Rattle.rows.specs.declared.group.Group.{Group}
use Rattle.store.specs.Frames.{place_in}
use Rattle.store.specs.Laws.Places.{place_fits}
use Rattle.receiver.proofs.Alone.{alone_run, alone_short}
use Rattle.receiver.proofs.Numbers.{pair_fits}
use Rattle.receiver.proofs.joining.alone_into.Goals as goal

alone_fits : (g : Group) (port d start : ℕ) → port ≤ 255 → g.window ≤ 65535 → g.origin ≤ 65535 → d ≤ 65535 → g.payload ≤ 65535 → start ≡ place_in g port d → start + g.payload ≤ 1103789883855
alone_fits g port d start hp hw ho hd hl e = omega (arith, e, place_fits g port d hp hw ho hd hl)

pub overflow_add-start : goal.overflow_add-start
overflow_add-start c = omega (arith, alone_fits c.args.group c.args.port c.args.k c.place-start.result (omega arith) (omega arith) (omega arith) (omega arith) (omega arith) c.place-start.ensures)

pub overflow_add-start-then-p-start : goal.overflow_add-start-then-p-start
overflow_add-start-then-p-start c = omega (arith, alone_fits c.args.group c.args.port c.args.k c.place-start.result (omega arith) (omega arith) (omega arith) (omega arith) (omega arith) c.place-start.ensures)

pub slice_bounds-lay-end : goal.slice_bounds-lay-end
slice_bounds-lay-end c =
    leb-true (c.place-start.result + c.args.group.payload) (length c.args.store.now)
    (and_right (leb 1 c.args.group.payload && leb c.args.group.payload PAYLOAD-MOST) (leb (c.place-start.result + c.args.group.payload) (length c.args.store.now)) c.if-p-start.true)

pub overflow_mul-k : goal.overflow_mul-k
overflow_mul-k c = let a = c.args in omega (arith, pair_fits a.k a.group.payload (omega arith) (omega arith))

pub returns-then-p-start : goal.returns-then-p-start
returns-then-p-start c =
    let n : ℕ = c.place-start.result + c.args.group.payload - c.place-start.result in
    let all : n ≡ c.args.group.payload = omega arith in
    alone_run c.args.group c.args.order c.args.k c.args.store.now c.args.out.now c.requires.0 c.place-start.result (c.place-start.ensures ∙ ap (λ (p : ℕ). place_in c.args.group p c.args.k) c.requires.1) n _ all
    c.if-p-start.true c.lay.ensures

pub returns-else-p-start : goal.returns-else-p-start
returns-else-p-start c =
    alone_short c.args.group c.args.order c.args.k c.args.store.now c.args.out.now c.requires.0 c.place-start.result (c.place-start.ensures ∙ ap (λ (p : ℕ). place_in c.args.group p c.args.k) c.requires.1) c.if-p-start.false
