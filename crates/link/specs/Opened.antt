-- All that this crate and those below it define, opened under one name for examples that are computed. A new definition is named here, and nowhere else.
use Rattle.std.specs.Prelude.{ℕ}
use Rattle.receiver.specs.Opened.{receiver_open}
use Rattle.sender.specs.Opened.{sender_open}
use Rattle.link.specs.FixedGroup.{fixed_sent}
use Rattle.link.specs.Heard.{expected_heard, some_as_sent}
use Rattle.link.specs.History.{has_rank, packet_sent, payload_sent, sender_at}
use Rattle.link.specs.Link.{all_as_sent, expected, frames_of, road_of}
use Rattle.link.specs.Moments.{coming, next_at}
use Rattle.link.specs.Running.{drained, fetched, framed, fresh, through, turn, turns}
use Rattle.link.specs.Sending.{epoch_number}

unfoldable pub link_open : ℕ
unfolding receiver_open sender_open fixed_sent has_rank packet_sent payload_sent sender_at all_as_sent expected frames_of road_of coming next_at drained fetched
    framed fresh through turn turns epoch_number some_as_sent expected_heard
link_open = 0
