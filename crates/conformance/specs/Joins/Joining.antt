-- What a plan of paths is for: over a good set demand 3's spread holds, so that a group over it can be joined.
use Rattle.std.specs.Prelude.{◌≡◌, List, ℕ, ◌+◌, ◌≤◌, ◌<◌}
use Rattle.std.proofs.Common.{arith}
use Rattle.link.specs.Link.{Lines, Link, epoch_frames}
use Rattle.paths.specs.Paths.{Good, delay_at, path_at}

-- what demand 3 assumes of a link's delays
abbrev pub Spread : Link → Type 0
Spread l = (p q : ℕ) → p < l.ports → q < l.ports → l.delay p + epoch_frames l ≤ l.delay q + l.window

assumed_spread : (l : Link) → Lines l → Spread l
assumed_spread l a = a.spread

-- each port's delay is that of one path of the set, and an epoch has sixteen frames
pub good_spread : (l : Link) (delays set : List ℕ) → Good delays l.ports l.window set → 16 ≤ l.window → epoch_frames l ≡ 16
    → ((p : ℕ) → p < l.ports → l.delay p ≡ delay_at delays (path_at set p)) → Spread l
good_spread l delays set g low sixteen by p q hp hq =
    let near = g.near p q (rw g.many hp) (rw g.many hq) in
    rw (by p hp, by q hq, sixteen) (omega arith)
