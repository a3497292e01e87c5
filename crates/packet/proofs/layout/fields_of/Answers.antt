-- `fields_of` meets its contract: each field of the nibbles at its places; what is asked for is that places lie in the row and sums fit.
use Rattle.std.proofs.Common.{◌%◌, get_or}
use Rattle.packet.specs.Layout.{fields_of}
use Rattle.packet.proofs.layout.fields_of.Goals as goal

pub returns : goal.returns
unfolding fields_of
returns c =
    λ i. record {
      epoch = c.byte_of.ensures i;
      word = c.from_nibble.ensures i;
      gid = get_or c.args.nibbles 11 0 % 2;
      mst = c.byte_of-2.ensures i;
      rs_ack = get_or c.args.nibbles 2 0 % 2;
      sq = c.byte_of-3.ensures i;
      reserved = c.reserved_of.ensures i;
    }
