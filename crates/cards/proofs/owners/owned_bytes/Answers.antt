use Rattle.std.specs.Prelude.{◌&&◌, ◌==◌, ℕ}
use Rattle.std.proofs.Common.{◌∙◌, ap, arith}
use Rattle.ground.specs.Counting.Each.{done_none, done_more, done_next, done_table}
use Rattle.ground.specs.FlagBytes.{byte_of_flag}
use Rattle.ground.specs.Flags.{one_if}
use Rattle.ground.specs.Plain.{◌<?◌}
use Rattle.cards.specs.Owners.{mark_of, owned_bytes}
use Rattle.cards.proofs.owners.owned_bytes.Goals as goal

pub loop-owner-init : goal.loop-owner-init
loop-owner-init c = done_none _ _

pub loop-owner-preserved : goal.loop-owner-preserved
loop-owner-preserved c =
    done_more _ c.loop-owner.invariant (c.from.ensures ∙ byte_of_flag _ ∙ ap one_if (c.is_of.ensures ∙ ap (λ (o : ℕ). c.args.group <? 2 && o == mark_of c.args.group) (done_next 0 c.loop-owner.invariant)))

pub returns : goal.returns
unfolding owned_bytes
returns c = done_table {n = 64} c.loop-owner.invariant (omega arith) (omega arith)
