-- A held epoch leaves the output as given, any other gets as many frames as an epoch of its kind has: the two cases of the definition.
use Rattle.std.specs.Prelude.{◌≡◌, refl, eqb}
use denote.Enum.Bare.{sameb}
use Rattle.judge.specs.contracts.named.Mark.{the_type}
use Rattle.judge.specs.declared.named.Mark.{Mark}
use Rattle.judge.specs.declared.named.Mark.TheVariants.{Held, Doubtful, Sure}
use Rattle.judge.specs.Named.{mark_number}
use Rattle.judge.specs.Verdict.{HELD}
use Rattle.receiver.specs.Report.{output_by}
use Rattle.receiver.proofs.joining.output_by.Goals as goal

held_is : (mark : Mark) → eqb (mark_number mark) HELD ≡ sameb the_type mark Held
held_is Held = refl
held_is Doubtful = refl
held_is Sure = refl

pub returns-then-eq : goal.returns-then-eq
unfolding output_by
returns-then-eq c = rw (held_is c.args.mark, ← c.eq.ensures, c.if-eq.true) refl

pub returns : goal.returns
unfolding output_by
returns c = rw (held_is c.args.mark, ← c.eq.ensures, c.if-eq.false, ← c.epoch_frames-count.ensures) c.frames_into.ensures
