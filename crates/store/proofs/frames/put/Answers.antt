-- Payload and then H4 are one run from the place on (`put_frame`); a frame that would go beyond the store's end is dropped (`put_none`).
-- The two tests together are the definition's one, asked so that no sum can overflow.
use native.Mathlib.Omega.{arith}
use Rattle.store.proofs.Putting.{put_frame, put_none}
use Rattle.store.proofs.frames.put.Goals as goal

pub returns-then-place-store : goal.returns-then-place-store
returns-then-place-store c =
    put_frame c.args.store.now c.args.payload.now _ c.args.place c.args.h4 (omega arith) c.lay.ensures

pub returns-else-n-store : goal.returns-else-n-store
returns-else-n-store c = let a = c.args in put_none a.store.now a.payload.now a.place a.h4 (omega arith)
