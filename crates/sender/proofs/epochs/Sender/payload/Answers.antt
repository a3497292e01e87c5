-- X and the rank in it are the ruling board's.
use Rattle.std.proofs.Common.{arith, ◌∙◌, sym}
use Rattle.std.proofs.lemmas.Bool.{not-true, not-false}
use Rattle.std.proofs.lemmas.Grind.{common_steps}
use Rattle.sender.specs.Epochs.{payload_answer, payload_bytes}
use Rattle.sender.proofs.Firsts.{carriers_first}
use Rattle.sender.proofs.Sending.{payload_early, payload_sent_lem, x_is, rank_is}
use Rattle.sender.proofs.epochs.Sender.payload.Goals as goal

pub returns-then-at-size : goal.returns-then-at-size
unfolding payload_answer payload_bytes
returns-then-at-size c = grind (arith, common_steps)

pub returns-then-not-is_payload : goal.returns-then-not-is_payload
unfolding payload_answer payload_bytes
returns-then-not-is_payload c = grind (arith, common_steps)

pub returns-then-not-self : goal.returns-then-not-self
returns-then-not-self c =
    payload_early c.args.self _ _ c.args.frame.now c.args.member.now c.size.ensures.value c.if-at-size.false (sym c.is_payload.ensures ∙ c.if-not-is_payload.false)
    (x_is c.args.self c.size-n.ensures.value (carriers_first c.args.self.ruling.rows (omega arith) c.carriers-x.ensures)) c.one_answer-answer.ensures (not-true _ c.if-not-self.true) c.spread_early.ensures

pub returns : goal.returns
returns c =
    payload_sent_lem c.args.self _ _ c.args.frame.now c.args.member.now c.size.ensures.value c.if-at-size.false (sym c.is_payload.ensures ∙ c.if-not-is_payload.false)
    (x_is c.args.self c.size-n.ensures.value (carriers_first c.args.self.ruling.rows (omega arith) c.carriers-x.ensures)) c.spread_one.ensures.0 (not-false _ c.if-not-self.false)
    (rank_is c.args.self _ c.size-n.ensures.value c.rank_at-rank.ensures) c.spread_one.ensures.1 c.spread_told.ensures
