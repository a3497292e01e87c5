-- `write_vc12` meets its contract: 9, 8, and under 0 the bytes of 32 frames.
use Rattle.std.proofs.Common.{sym, ◌∙◌}
use Rattle.packet.specs.Laws.Bounds.{vc12_bounds}
use Rattle.packet.specs.Vc12.{vc12_fits}
use Rattle.packet.proofs.OneNumber.{write_done, write_field, write_length}
use Rattle.packet.proofs.vc12.write_vc12.Goals as goal

pub returns-then-frames-ne32 : goal.returns-then-frames-ne32
returns-then-frames-ne32 c = write_length _ _ c.if-frames-ne32.true

pub returns-then-not-fits_within : goal.returns-then-not-fits_within
unfolding vc12_fits
returns-then-not-fits_within c = write_field _ _ c.if-frames-ne32.false (sym c.fits_within.ensures ∙ c.if-not-fits_within.true)

pub packet_of-requires : goal.packet_of-requires
unfolding vc12_fits
packet_of-requires c = vc12_bounds _ (sym c.fits_within.ensures ∙ c.if-not-fits_within.false)

pub returns : goal.returns
unfolding vc12_fits
returns c =
    write_done _ _ c.if-frames-ne32.false (sym c.fits_within.ensures ∙ c.if-not-fits_within.false) c.packet_of.result _ c.packet_of.ensures c.put_bytes.ensures
