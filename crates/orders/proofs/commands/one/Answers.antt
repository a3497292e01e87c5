use Rattle.std.specs.Prelude.{ℕ, set}
use Rattle.std.proofs.Common.{◌∙◌, ap}
use Rattle.ground.specs.Refusals.{number_told}
use Rattle.std.specs.Result.{result_unwrap_or}
use Rattle.cards.specs.Answers.{refusal_number}
use Rattle.cards.specs.Theorems.Told.{card_kept, told_number}
use Rattle.orders.specs.Orders.{outcome_by}
use Rattle.orders.proofs.commands.one.Goals as goal

pub returns : goal.returns
unfolding outcome_by
returns c = (
  c.unwrap_or.ensures ∙ ap (λ r. result_unwrap_or r c.args.card) c.outcome_of-outcome.ensures ∙ card_kept _ _ _,
  ap (λ (n : ℕ). set c.args.answers.now c.args.i n) (c.number_told.ensures ∙ ap (number_told refusal_number) c.outcome_of-outcome.ensures ∙ told_number _ _),
)
