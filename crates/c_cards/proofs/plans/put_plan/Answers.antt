-- The count and then the 64 paths fill the whole buffer, so that nothing of the old one is left (`plan_whole`).
use Rattle.c_cards.proofs.Planning.{plan_whole}
use Rattle.c_cards.proofs.plans.put_plan.Goals as goal

pub returns : goal.returns
returns c = plan_whole c.args.out.now c.args.plan.now.paths c.copy_from_slice.new.self c.args.plan.now.count c.requires c.copy_from_slice.ensures.after
