-- The symbols of the first k frames are read.
use Rattle.std.proofs.Common.{◌≡◌}
use Rattle.packet.specs.Kinds.{frames}
use Rattle.store.proofs.Packets.{Read}
use Rattle.store.proofs.frames.packet_by.Given as goal

abbrev pub invariant-loop-k : goal.invariant-loop-k
invariant-loop-k l = (l.frames ≡ frames l.kind) × Read l.kind l.group l.port l.store l.k l.row
