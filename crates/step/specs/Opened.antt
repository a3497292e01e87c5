-- All that this crate and those below it define, opened under one name for examples that are computed. A new definition is named here, and nowhere else.
use Rattle.std.specs.Prelude.{ℕ}
use Rattle.rows.specs.Opened.{rows_open}
use Rattle.packet.specs.Opened.{packet_open}
use Rattle.step.specs.Arrival.{arrives, by_start, by_window, counts_on, distance_in, flagged, frame_dropped, in_step, joining, keeps, outside, readable, taken_of}
use Rattle.step.specs.Carried.{other_number, reading_in}
use Rattle.step.specs.OwnCount.{ends_odd, odd_packet, own_number, own_ruling, right_crc, ruling_in}
use Rattle.step.specs.Run.{begun_run, breaks_after, ends_packet, further_run, gained_run, h4_run_on, in_step_at, loses, odd_after, run_on, second_run, stayed_run}
use Rattle.step.specs.RunKept.{tag_by_first}
use Rattle.step.specs.SentRuns.{h4_run_at, most_breaks, run_at, start_from, vc12_run_at}
use Rattle.step.specs.Starts.{begun_packet, bits_after, count_after, fifth_bit, first_of_two, goes_on, starts_run}
use Rattle.step.specs.Steady.{mid_epoch, steady, steady_taken}
use Rattle.step.specs.ByTable.{own_ruling_with, ruling_in_with}
use Rattle.step.specs.Words.{run_after}

unfoldable pub step_open : ℕ
unfolding rows_open packet_open arrives by_start by_window counts_on distance_in flagged frame_dropped in_step joining keeps outside readable taken_of ends_odd
    odd_packet own_number own_ruling right_crc ruling_in begun_run breaks_after ends_packet further_run gained_run h4_run_on in_step_at loses odd_after run_on
    second_run stayed_run tag_by_first begun_packet bits_after count_after fifth_bit first_of_two goes_on starts_run mid_epoch steady steady_taken ruling_in_with
    own_ruling_with reading_in other_number start_from h4_run_at vc12_run_at run_at most_breaks run_after
step_open = 0
