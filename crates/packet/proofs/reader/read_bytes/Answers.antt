-- `read_bytes` meets its contract: 5, or what the fields of its eight bytes' halves say. That the joined shares are the CRC of those halves is `sum_of`.
use Rattle.std.proofs.Common.{ap, ◌∙◌, arith}
use Rattle.packet.specs.Layout.{fields_of}
use Rattle.packet.proofs.Answers.{read_crc, read_good}
use Rattle.packet.proofs.Eight.{carried_of, sum_of}
use Rattle.packet.proofs.reader.read_bytes.Goals as goal

pub returns-then-sum-carried : goal.returns-then-sum-carried
returns-then-sum-carried c = read_crc _ _ _ _ (sum_of c.args.at_0 c.args.at_1 c.args.at_2 c.args.at_3 c.args.at_4 c.args.at_5 c.args.at_6 c.args.carried (omega arith) (omega arith) (omega arith) (omega arith) (omega arith) (omega arith) (omega arith) (omega arith) _ _ c.join-sum.ensures) (carried_of c.args.at_0 c.args.at_1 c.args.at_2 c.args.at_3 c.args.at_4 c.args.at_5 c.args.at_6 c.args.carried (omega arith) (omega arith) (omega arith) (omega arith) (omega arith) (omega arith) (omega arith) (omega arith)) c.if-sum-carried.true

pub returns : goal.returns
returns c =
    read_good _ _ _ _ (sum_of c.args.at_0 c.args.at_1 c.args.at_2 c.args.at_3 c.args.at_4 c.args.at_5 c.args.at_6 c.args.carried (omega arith) (omega arith) (omega arith) (omega arith) (omega arith) (omega arith) (omega arith) (omega arith) _ _ c.join-sum.ensures) (carried_of c.args.at_0 c.args.at_1 c.args.at_2 c.args.at_3 c.args.at_4 c.args.at_5 c.args.at_6 c.args.carried (omega arith) (omega arith) (omega arith) (omega arith) (omega arith) (omega arith) (omega arith) (omega arith)) c.if-sum-carried.false _ _ (c.fields_of.ensures ∙ ap fields_of c.halves_of-nibbles.ensures) c.by_word.ensures
