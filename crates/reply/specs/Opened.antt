-- All that this crate and those below it define, opened under one name for examples that are computed. A new definition is named here, and nowhere else.
use Rattle.std.specs.Prelude.{ℕ}
use Rattle.packet.specs.Opened.{packet_open}
use Rattle.reply.specs.Choosing.{claims, grant, granted, holders}
use Rattle.reply.specs.Telling.{ack_of, mst_from, mst_of, ok_holds, turns_over}
use Rattle.reply.specs.Waiting.{chosen_of, kept_numbers, more_kept, rounds, some_join, standing_by, standings_of}
use Rattle.reply.specs.Zero.{plain_claims, plain_holders, state_by, states_of}

unfoldable pub reply_open : ℕ
unfolding packet_open claims grant granted holders ack_of mst_from mst_of ok_holds turns_over chosen_of kept_numbers more_kept rounds some_join standing_by
    standings_of plain_claims plain_holders state_by states_of
reply_open = 0
