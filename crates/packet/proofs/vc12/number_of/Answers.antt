use Rattle.std.proofs.Common.{◌≡◌, ℕ, get_or, refl, ap, ◌∙◌, arith}
use Rattle.ground.specs.Bits.{odd}
use Rattle.ground.specs.Bits.{number as spelt}
use Rattle.ground.specs.Table.{tabulate}
use Rattle.packet.specs.Vc12.{lowest_of}
use Rattle.packet.proofs.OneNumber.{spelt_lt, spelt_more}
use Rattle.packet.proofs.vc12.number_of.Goals as goal

pub overflow_mul-number : goal.overflow_mul-number
overflow_mul-number c = let low = spelt_lt (λ i. odd (get_or c.args.frames.now i 0)) c.loop-frame.number c.loop-frame.frame-index 31 c.loop-frame.invariant (omega arith) in omega arith

pub overflow_add-number : goal.overflow_add-number
overflow_add-number c = let low = spelt_lt (λ i. odd (get_or c.args.frames.now i 0)) c.loop-frame.number c.loop-frame.frame-index 31 c.loop-frame.invariant (omega arith) in omega arith

pub loop-frame-preserved : goal.loop-frame-preserved
loop-frame-preserved c =
    let s = c.args.frames.now in
    spelt_more (λ i. odd (get_or s i 0)) c.loop-frame.number c.loop-frame.frame-index (get_or s c.loop-frame.frame-index 0) c.loop-frame.invariant refl

pub returns : goal.returns
unfolding lowest_of
returns c =
    let e : c.loop-frame.frame-index ≡ 32 = omega arith in
    c.loop-frame.invariant ∙ ap (λ (m : ℕ). spelt (tabulate m (λ i. odd (get_or c.args.frames.now i 0)))) e
