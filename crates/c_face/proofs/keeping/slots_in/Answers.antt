use Rattle.std.proofs.Common.{rules, tests}
use Rattle.c_face.specs.Keeping.{slot_in, slots_in}
use Rattle.c_face.proofs.Wholes.{made_each}
use Rattle.c_face.proofs.keeping.slots_in.Goals as goal

pub returns : goal.returns
unfolding slots_in
returns c = made_each _ (slot_in c.args.state.now) _ (λ x y q k. search (rules, tests)) c.from_fn.result 64 c.from_fn.ensures.items
