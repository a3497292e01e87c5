use Rattle.std.proofs.Common.{refl}
use Rattle.judge.specs.Cause.{applies}
use Rattle.judge.proofs.First.{gid_unlike_below, takes_below}
use Rattle.judge.proofs.seen.Ports.is_applied.Goals as goal

pub returns-in-Refused : goal.returns-in-Refused
unfolding applies
returns-in-Refused c = rw (c.in-Refused.is, c.is_refused.ensures, c.self.view_is) refl

pub returns-in-Lacking : goal.returns-in-Lacking
unfolding applies
returns-in-Lacking c = rw (c.in-Lacking.is, c.is_lacking.ensures, c.self.view_is) refl

pub returns-in-Repeated : goal.returns-in-Repeated
unfolding applies
returns-in-Repeated c =
    rw (c.in-Repeated.is, c.is_numbered.ensures, c.is_taken.ensures, takes_below c.args.self.now c.below.result c.args.i c.below.ensures.first c.below.ensures.many _, c.self.view_is) refl

pub returns-in-Gid : goal.returns-in-Gid
unfolding applies
returns-in-Gid c =
    rw (c.in-Gid.is, c.is_unidle.ensures, c.is_gid_unlike.ensures, gid_unlike_below c.args.self.now c.below-in-Gid.result c.args.i c.below-in-Gid.ensures.first c.below-in-Gid.ensures.many _, c.self.view_is) refl

pub returns-in-Eos : goal.returns-in-Eos
unfolding applies
returns-in-Eos c = rw (c.in-Eos.is, c.is_eos_wrong.ensures, c.self.view_is) refl

pub returns-in-Unseen : goal.returns-in-Unseen
unfolding applies
returns-in-Unseen c = rw (c.in-Unseen.is, c.self.view_is) refl

pub returns-in-Numbers : goal.returns-in-Numbers
unfolding applies
returns-in-Numbers c = rw c.in-Numbers.is refl
