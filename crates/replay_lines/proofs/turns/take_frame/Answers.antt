-- The room that is lent is zeros, as many as the payload has bytes, whichever of the two arrays it is the front of.
use Rattle.std.proofs.Common.{arith}
use Rattle.replay_lines.proofs.Deciding.{front_is, front_there}
use Rattle.replay_lines.proofs.turns.take_frame.Goals as goal

pub slice_bounds-hand-end : goal.slice_bounds-hand-end
slice_bounds-hand-end c = front_there c.args.replay.size 64 (omega arith) c.few_zeros-few.result c.few_zeros-few.ensures

pub hand-requires : goal.hand-requires
hand-requires c =
    (c.requires.0, front_is c.args.replay.size 64 (omega arith) c.few_zeros-few.result c.few_zeros-few.ensures, c.requires.1, c.requires.2)

pub slice_bounds-hand-end-2 : goal.slice_bounds-hand-end-2
slice_bounds-hand-end-2 c = front_there c.args.replay.size 2340 c.requires.0 c.zeros-payload.result c.zeros-payload.ensures

pub hand-requires-2 : goal.hand-requires-2
hand-requires-2 c =
    (c.requires.0, front_is c.args.replay.size 2340 c.requires.0 c.zeros-payload.result c.zeros-payload.ensures, c.requires.1, c.requires.2)
