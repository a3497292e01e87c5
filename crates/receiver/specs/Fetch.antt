-- A report fetched (01, 'Report of an epoch'; 'For fetching: 9 first').
use Rattle.std.specs.Prelude.{Bool, ◌&&◌, List, [], ◌∷◌, ℕ, ◌/◌, ◌%◌, length, if◌then◌else◌}
use Rattle.ground.specs.Plain.{◌<?◌}
use Rattle.ground.specs.Types.{Bytes, Rows}
use Rattle.phases.specs.Due.{brought}
use Rattle.phases.specs.Sizes.{ports_in}
use Rattle.receiver.specs.declared.report.Report.{Report}
use Rattle.receiver.specs.Lengths.{fetch_fits}
use Rattle.receiver.specs.Report.{output_of, epoch_report, reported_of, seen_all}
use Rattle.rows.specs.declared.group.Group.{Group}
use Rattle.rows.specs.Group.{group_at}
use Rattle.step.specs.Arrival.{flag_of}

-- a report is due
unfoldable pub due_in : (g : Group) (ports : ℕ) (s : Rows) → Bool
due_in g n s = 0 <? n && flag_of g.begun && flag_of g.gathered && brought g s n

abbrev pub none_due : Report
none_due = record { mark = 0; epoch = 0; x = 0; cause = 0; bytes = 0 }

-- the record's eight bytes: mark, epoch, X, the cause of the mark, and the byte count, highest byte first
unfoldable pub record_of : Report → Bytes
record_of r =
    r.mark
    ∷ r.epoch
    ∷ r.x
    ∷ r.cause
    ∷ (r.bytes / 16777216 % 256)
    ∷ (r.bytes / 65536 % 256)
    ∷ (r.bytes / 256 % 256)
    ∷ (r.bytes % 256)
    ∷ []

-- 'A fetch with none due answers 0, says so, and changes nothing.'

unfoldable pub report_if_due : (g : Group) (ports : ℕ) (s : Rows) → Report
report_if_due g n s = if due_in g n s then epoch_report g (seen_all g s n) n else none_due

unfoldable pub rows_if_due : (g : Group) (ports : ℕ) (s : Rows) (store : Bytes) → Rows
rows_if_due g n s store = if due_in g n s then reported_of g store n s else s

unfoldable pub out_if_due : (g : Group) (ports : ℕ) (s : Rows) (store out : Bytes) → Bytes
out_if_due g n s store out = if due_in g n s then output_of g (seen_all g s n) n store out else out

-- what a fetch leaves
pub record FetchOutcome : Type 0 where
  pub answer : ℕ
  pub rows : Rows
  pub out : Bytes
  pub report : Bytes

module _ (s : List (List ℕ)) (store out report : List ℕ) where
  unfoldable pub lent_fits : Bool
  lent_fits = fetch_fits (group_at s) (ports_in (group_at s)) (length s) (length store) (length out) (length report)

  unfoldable pub fetch_of : FetchOutcome
  fetch_of =
      if lent_fits
      then (record {
        answer = 0;
        rows = rows_if_due (group_at s) (ports_in (group_at s)) s store;
        out = out_if_due (group_at s) (ports_in (group_at s)) s store out;
        report = record_of (report_if_due (group_at s) (ports_in (group_at s)) s);
      })
      else (record { answer = 9; rows = s; out = out; report = report })
