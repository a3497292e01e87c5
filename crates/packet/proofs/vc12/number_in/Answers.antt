use Rattle.std.proofs.Common.{◌≡◌, ℕ, ◌*◌, ap, ◌∙◌, arith}
use Rattle.ground.specs.Bits.{number as spelt}
use Rattle.ground.specs.Table.{tabulate}
use Rattle.packet.specs.Vc12.{row_bits}
use Rattle.packet.proofs.OneNumber.{entry_more, entry_bit, spelt_lt}
use Rattle.packet.proofs.vc12.number_in.Goals as goal

pub overflow_mul-number : goal.overflow_mul-number
overflow_mul-number c = let low = spelt_lt (entry_bit c.args.row) c.loop-entry.number (c.loop-entry.entry-index * 2) 30 c.loop-entry.invariant (omega arith) in omega arith

pub overflow_add-number : goal.overflow_add-number
overflow_add-number c = let low = spelt_lt (entry_bit c.args.row) c.loop-entry.number (c.loop-entry.entry-index * 2) 30 c.loop-entry.invariant (omega arith) in omega arith

pub loop-entry-preserved : goal.loop-entry-preserved
loop-entry-preserved c = entry_more c.args.row c.loop-entry.number c.loop-entry.entry-index c.loop-entry.invariant

pub returns : goal.returns
unfolding row_bits
returns c =
    let e : c.loop-entry.entry-index * 2 ≡ 32 = omega arith in
    c.loop-entry.invariant ∙ ap (λ (m : ℕ). spelt (tabulate m (entry_bit c.args.row))) e
