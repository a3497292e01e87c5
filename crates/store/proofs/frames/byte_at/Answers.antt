use mathlib.Core.Path.{refl, sym}
use native.Mathlib.Omega.{arith}
use lib.ListN.{get_or-eq_default}
use Rattle.store.specs.Frames.{byte_at}
use Rattle.store.proofs.frames.byte_at.Goals as goal

pub returns-then-place-store : goal.returns-then-place-store
unfolding byte_at
returns-then-place-store c = refl

pub returns-else-place-store : goal.returns-else-place-store
unfolding byte_at
returns-else-place-store c = sym (get_or-eq_default c.args.store.now 0 {n = c.args.place} (omega arith))
