use Rattle.std.proofs.Common.{rules, tests}
use Rattle.c_face.specs.Keeping.{row_in, rows_in}
use Rattle.c_face.proofs.Wholes.{made_each}
use Rattle.c_face.proofs.keeping.rows_in.Goals as goal

pub returns : goal.returns
unfolding rows_in
returns c = made_each _ (row_in c.args.state.now c.args.at) _ (λ x y q k. search (rules, tests)) c.from_fn.result 64 c.from_fn.ensures.items
