-- All that this crate and those below it define, opened under one name for examples that are computed. A new definition is named here, and nowhere else.
use Rattle.std.specs.Prelude.{ℕ}
use Rattle.phases.specs.Opened.{phases_open}
use Rattle.judge.specs.Opened.{judge_open}
use Rattle.reply.specs.Opened.{reply_open}
use Rattle.receiver.specs.Anew.{anew_answer, anew_fits, anew_rows, flagged_rows}
use Rattle.receiver.specs.Behind.{behind_answer, behind_by, behind_in, behind_out}
use Rattle.receiver.specs.Cause.{cause_answer, cause_fit, cause_in, cause_out}
use Rattle.receiver.specs.Fetch.{due_in, fetch_of, lent_fits, out_if_due, record_of, report_if_due, rows_if_due}
use Rattle.receiver.specs.Frame.{frame_of, gathered_by, marks_by, port_rows, refusal_by, settled_by, steady_rows, store_by, taken_frame}
use Rattle.receiver.specs.Heard.{heard_answer, heard_fit, heard_of, heard_out, said_at}
use Rattle.receiver.specs.Lengths.{fetch_fits, frame_fits, output_for, rows_fit}
use Rattle.receiver.specs.Report.{frame_into, frames_into, output_by, output_of, reply_port, reply_ports, report_by, epoch_report, reported_of, ruling_epoch, seen_all, seen_of, starts_of, state_put, states_put, states_worked_out, with_state}
use Rattle.receiver.specs.Seen.{carried_at, seen_answer, seen_in, seen_out, seen_row}
use Rattle.receiver.specs.Settings.{settings_answer, settings_fit, settings_of, settings_out}
use Rattle.receiver.specs.Shown.{port_in, port_shown, ports_answer, ports_out, reply_answer, reply_fit, reply_of, reply_out, shown_fit}
use Rattle.receiver.specs.Starting.{fresh_port, fresh_ports, sized_answer, sized_fits, sized_rows, start_as_answer, start_as_rows, start_fits, start_right, times_within}

unfoldable pub receiver_open : ℕ
unfolding phases_open judge_open reply_open cause_answer cause_fit cause_in cause_out due_in fetch_of lent_fits out_if_due record_of report_if_due rows_if_due frame_of gathered_by marks_by port_rows refusal_by settled_by steady_rows store_by taken_frame fetch_fits frame_fits output_for rows_fit
    frame_into frames_into output_by output_of reply_port reply_ports report_by epoch_report reported_of ruling_epoch seen_all seen_of starts_of state_put states_put
    states_worked_out with_state port_in port_shown ports_answer ports_out reply_answer reply_fit reply_of reply_out shown_fit fresh_port fresh_ports sized_answer
    sized_fits sized_rows start_as_answer start_as_rows start_fits start_right times_within flagged_rows anew_fits anew_answer anew_rows behind_by behind_in
    behind_answer behind_out said_at heard_of heard_fit heard_answer heard_out carried_at seen_row seen_in seen_answer seen_out settings_of settings_fit
    settings_answer settings_out
receiver_open = 0
