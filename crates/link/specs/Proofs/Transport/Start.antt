-- A fresh receiver.
use Rattle.std.specs.Prelude.{◌≡◌, List, [], ℕ, ◌+◌, ◌*◌, ◌<◌, length}
use Rattle.std.proofs.Math.Path.{refl, ap}
use Rattle.std.proofs.Common.{◌∙◌, arith}
use Rattle.std.proofs.Math.Bool.{false}
use Rattle.std.proofs.Math.Dec.{ltb}
use borrow.Author.Tests.{eq-eqb, le-ltb}
use Rattle.packet.specs.Theorems.Tags.{frames_some}
use Rattle.receiver.specs.Laws.Fresh.{length_started, started_group, started_port, started_step, waits_for}
use Rattle.receiver.specs.Starting.{fresh_ports, fresh_step, group_with, sized_fits, sized_rows, start_as_rows, start_fits, start_right, zero_row}
use Rattle.rows.specs.declared.group.Group.{Group}
use Rattle.rows.specs.Group.{group_at, put_group}
use Rattle.rows.specs.Port.{Port, port_at}
use Rattle.rows.specs.Rows.{rows_for}
use Rattle.rows.specs.Step.{step_at}
use Rattle.link.specs.Demand3.{Times}
use Rattle.link.specs.Road.{Road}
use Rattle.link.specs.Proofs.Fair.{Fair, sizes_in}
use Rattle.link.specs.Running.{fresh}
use Rattle.link.specs.Proofs.Standing.{Before, Heard, heard_run}
use Rattle.link.specs.Proofs.Transport.Heard.{from_first}

module _ (r : Road) (f : Fair r) (hold restore : List ℕ) (hold_times : Times hold r.ports) (restore_times : Times restore r.ports) (rows : List (List ℕ)) (store : List ℕ)
    (rows_long : length rows ≡ rows_for r.ports) (store_long : length store ≡ r.ports * r.window * (r.payload + 1)) where
  group : Group
  group = group_with r.kind r.ports r.payload r.window

  started : List (List ℕ)
  started = put_group (fresh_ports r.kind hold restore r.ports rows) group

  start_is : start_as_rows r.kind r.ports r.payload r.window (length store) hold restore rows ≡ started
  unfolding start_as_rows start_right sized_rows sized_fits start_fits started group
  start_is =
      rw (hold_times.within, restore_times.within, f.sizes, hold_times.fits, restore_times.fits, eq-eqb (length rows) (rows_for r.ports) rows_long, eq-eqb (length store) (r.ports * r.window * (r.payload + 1)) store_long) refl

  group_is : group_at started ≡ group
  unfolding started
  group_is = started_group r.kind r.ports hold restore rows group (omega arith)

  step_is : (p : ℕ) → p < r.ports → step_at started p ≡ fresh_step
  unfolding started
  step_is p b = started_step r.kind r.ports hold restore rows group p b (omega arith)

  gathering_is : (p : ℕ) → p < r.ports → (port_at started p).gathering ≡ zero_row
  unfolding started
  gathering_is p b = ap (λ (q : Port). q.gathering) (started_port r.kind r.ports hold restore rows group p b (omega arith))

  started_heard : (p : ℕ) → Heard r p (r.first p) fresh_step
  unfolding heard_run
  started_heard p =
      let none : ltb (r.first p) (r.first p) ≡ false = le-ltb (r.first p) (r.first p) (omega arith) in
      record { from = omega arith; heard = rw none refl; failed = refl; run = rw none refl }

  started_before : Before r (record { rows = started; store = store; answers = []; told = [] }) r.first
  unfolding started group
  started_before =
      let o = sizes_in r f in
      let some = frames_some r.kind in
      record {
        lined =
            record {
              rows_long = length_started r.kind r.ports hold restore rows group ∙ rows_long;
              store_long = store_long;
              kind_is = ap (λ (g : Group). g.kind) group_is;
              count_is = ap (λ (g : Group). g.count) group_is;
              payload_is = ap (λ (g : Group). g.payload) group_is;
              window_is = ap (λ (g : Group). g.window) group_is;
              origin_in = rw group_is (omega arith);
            };
        heard = λ p b. rw (step_is p b) (started_heard p);
        live = λ p b. rw (gathering_is p b) (record { long = refl; holds = λ y from upto near. absurd (let first = from_first r p in omega arith) });
        begun = ap (λ (g : Group). g.begun) group_is;
        unfit = waits_for (group_at started) started r.ports 0 (omega arith) (rw (step_is 0 (omega arith)) refl);
        told = refl;
      }

  pub start : Before r (fresh r hold restore rows store) r.first
  unfolding fresh
  start = rw start_is started_before
