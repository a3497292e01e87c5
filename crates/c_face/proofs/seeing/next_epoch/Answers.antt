use Rattle.sender.specs.Epochs.{started_epoch}
use mathlib.Core.Path.{refl}
use Rattle.c_face.proofs.seeing.next_epoch.Goals as goal

pub returns-then-sender : goal.returns-then-sender
unfolding started_epoch
returns-then-sender c = rw c.if-sender.true c.next_epoch.ensures

pub returns : goal.returns
unfolding started_epoch
returns c = rw c.if-sender.false refl
