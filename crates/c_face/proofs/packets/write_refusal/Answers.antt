use mathlib.Core.Path.{refl, sym, ◌∙◌}
use borrow.Author.Tests.{eq-eqb, ne_eqb}
use Rattle.packet.specs.Kinds.{frames}
use Rattle.c_face.proofs.packets.write_refusal.Goals as goal

pub returns-then-length-frames : goal.returns-then-length-frames
returns-then-length-frames c = rw (eq-eqb _ (frames c.args.kind) (c.if-length-frames.true ∙ c.epoch_frames-frames.ensures)) refl

pub returns-else-length-frames : goal.returns-else-length-frames
returns-else-length-frames c = rw (ne_eqb _ (frames c.args.kind) (λ e. c.if-length-frames.false (e ∙ sym c.epoch_frames-frames.ensures))) refl
