-- `mst_from` meets its contract: eight bits, from the first number on, each by a call; the lowest number's bit is the first.
use mathlib.Core.Path.{◌∙◌}
use Rattle.reply.specs.Telling.{mst_from}
use Rattle.reply.proofs.members.Ports.mst_from.Goals as goal

pub returns : goal.returns
unfolding mst_from
returns c =
    c.eight_bits.ensures ∙ rw (c.fail_bit.ensures.0, c.fail_bit-2.ensures.0, c.fail_bit-3.ensures.0, c.fail_bit-4.ensures.0, c.fail_bit-5.ensures.0, c.fail_bit-6.ensures.0, c.fail_bit-7.ensures.0, c.fail_bit-8.ensures.0)
