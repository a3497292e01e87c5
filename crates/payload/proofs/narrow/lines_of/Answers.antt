-- One shuffle turns two rows of 64, two turn four of 32, three turn eight of 16: no other sizes can be given (`even_two`, `even_four`, `even_eight`).
use mathlib.Core.Path.{sym, ap₂, ◌∙◌}
use Prim.Native.Nat.{ℕ}
use Rattle.payload.specs.Inner.Block.{turned}
use Rattle.payload.proofs.Evens.{even_two, even_four, even_eight}
use Rattle.payload.proofs.narrow.lines_of.Goals as goal

pub returns-then-x-eq2 : goal.returns-then-x-eq2
returns-then-x-eq2 c =
    let e = c.if-x-eq2.true in
    c.turned.ensures ∙ sym (ap₂ (λ (h w : ℕ). turned h w c.args.q) e (even_two c.args.x c.args.w c.requires e))

pub returns-then-x-eq4 : goal.returns-then-x-eq4
returns-then-x-eq4 c =
    let e = c.if-x-eq4.true in
    c.turned-then-x-eq4.ensures ∙ sym (ap₂ (λ (h w : ℕ). turned h w c.args.q) e (even_four c.args.x c.args.w c.requires e))

pub returns-else-x-eq4 : goal.returns-else-x-eq4
returns-else-x-eq4 c =
    let e = even_eight c.args.x c.args.w c.requires c.if-x-eq2.false c.if-x-eq4.false in
    c.turned-else-x-eq4.ensures ∙ sym (ap₂ (λ (h w : ℕ). turned h w c.args.q) e.0 e.1)
