-- What holds after a start.
use Rattle.std.specs.Prelude.{◌≡◌, Bool, true, false, cond, ◌&&◌, List, ℕ, ◌+◌, ◌*◌, ◌<◌, eqb, length}
use Rattle.std.proofs.Math.Path.{refl}
use Rattle.std.proofs.Common.{sym, ◌∙◌, arith, eqb-true}
use Rattle.std.proofs.lemmas.Bool.{false≢true}
use Rattle.invariant.specs.Kept.Group.{Kept, Lasting}
use Rattle.invariant.specs.Kept.Port.{PortKept}
use Rattle.step.specs.Laws.RunKept.{none_kept}
use Rattle.ground.specs.Truth.{and_left, and_right, cond_by}
use Rattle.packet.specs.Kinds.{fixed_kind}
use Rattle.packet.specs.Theorems.Tags.{epochs_some, frames_two}
use Rattle.phases.specs.Sizes.{sized}
use Rattle.receiver.specs.Laws.Fresh.{fresh_on, length_started, started_group, started_port, started_step, waits_for}
use Rattle.receiver.specs.Laws.Sizes.{Sizes, right_sized, sizes_of, start_sized_lem}
use Rattle.receiver.specs.Starting.{fresh_ports, fresh_step, group_with, list_fits, sized_answer, sized_fits, sized_rows, start_as_answer, start_as_rows, start_fits, start_right, time_of, zero_row}
use Rattle.reply.specs.Members.{idle_state, ok_state}
use Rattle.rows.specs.declared.group.Group.{Group}
use Rattle.rows.specs.Group.{group_at, put_group}
use Rattle.rows.specs.Port.{port_at}
use Rattle.rows.specs.Rows.{rows_for}
use Rattle.store.specs.Laws.Marks.{mark_none, sixteen_none}

fresh_kept : (g : Group) → PortKept g fresh_step zero_row
fresh_kept g =
    record {
      row = sixteen_none;
      run = none_kept g.kind;
      heard = omega arith;
      failed = omega arith;
      joined = omega arith;
      ever_since = omega arith;
      whole = omega arith;
      joined_step = λ e. absurd (false≢true e);
      since_step = λ e. absurd (false≢true e);
      failed_none = λ e. refl;
      failed_had = λ e. absurd (false≢true e);
      count_had = λ l. absurd (omega arith);
      idle = λ b. record { joined = refl; ever_since = refl; joined_at = refl; whole = refl; empty = mark_none };
      goes = λ e. absurd (false≢true e);
      inside = λ i m. absurd (false≢true (sym (mark_none i) ∙ m));
      at_once = λ e. refl;
      waits = λ e j. absurd (false≢true e);
      early = λ e. refl;
    }

module _ (kind count P W : ℕ) (hold restore : List ℕ) (s : List (List ℕ)) (right : sized kind count P W ≡ true) (rows : length s ≡ rows_for count) where
  abbrev started : List (List ℕ)
  started = put_group (fresh_ports kind hold restore count s) (group_with kind count P W)

  group : group_at started ≡ group_with kind count P W
  group = started_group kind count hold restore s (group_with kind count P W) (omega arith)

  port : (i : ℕ) → i < count → port_at started i ≡ fresh_on kind (time_of hold i) (time_of restore i)
  port i b = started_port kind count hold restore s (group_with kind count P W) i b (omega arith)

  sizes : Sizes kind count P W
  sizes = sizes_of kind count P W right

  lasting_start : Lasting started
  lasting_start =
      record {
        rows = rw group (length_started kind count hold restore s (group_with kind count P W) ∙ rows);
        group =
            rw group
            (record {
              sizes = right;
              origin = let w = sizes.wide in let some = frames_two kind in omega arith;
              oldest = epochs_some kind;
              begun = omega arith;
              gathered = omega arith;
              ack = omega arith;
              idle_gathered = λ b. refl;
              idle_oldest = λ b. refl;
            });
        ports = λ i c.
            let b : i < count = rw group at c in
            rw (group, port i b) (record { kept = fresh_kept (group_with kind count P W); unruled = λ f. refl; word = cond_by (λ (b : Bool). b ≡ true) (eqb kind fixed_kind) true true (λ e. refl) (λ e. refl) });
        members =
            rw group
            (record {
              below = λ i b o. absurd (let z : ◌≡◌ {A = ℕ} idle_state ok_state = rw (port i b) at o in omega arith);
              apart = λ i j bi bj oi oj e. absurd (let z : ◌≡◌ {A = ℕ} idle_state ok_state = rw (port i bi) at oi in omega arith);
            });
      }

  kept_start : Kept started
  kept_start =
      record {
        lasting = lasting_start;
        settled =
            rw group
            (record {
              heard = λ e. absurd (false≢true (rw group at e));
              gathers = λ e f. absurd (false≢true (rw group at e));
              waits = λ e.
                  waits_for (group_at started) started count 0 sizes.some_ports
                  (rw (started_step kind count hold restore s (group_with kind count P W) 0 sizes.some_ports (omega arith)) refl);
            });
      }

fits_rows : (count P W store rows : ℕ) → start_fits count P W store rows ≡ true → rows ≡ rows_for count
unfolding start_fits
fits_rows count P W store rows e = eqb-true rows (rows_for count) (and_left (eqb rows (rows_for count)) (eqb store (count * W * (P + 1))) e)

pub sized_rows_lem : (count P W store : ℕ) (hold restore : List ℕ) (rows : ℕ) → sized_fits count P W store hold restore rows ≡ true → rows ≡ rows_for count
unfolding sized_fits
sized_rows_lem count P W store hold restore rows e =
    fits_rows count P W store rows (and_right (list_fits hold count && list_fits restore count) (start_fits count P W store rows) e)

-- a start that is answered 0
module _ (kind count P W store : ℕ) (hold restore : List ℕ) (s : List (List ℕ)) where
  abbrev Answered : Bool → Bool → Type 0
  Answered a b = ◌≡◌ {A = ℕ} (cond a (cond b 0 9) 4) 0

  abbrev left : Bool → Bool → List (List ℕ)
  left a b = cond a (cond b (put_group (fresh_ports kind hold restore count s) (group_with kind count P W)) s) (put_group s (group_with kind 0 0 0))

  abbrev right : Bool
  right = start_right kind count P W hold restore

  abbrev fit : Bool
  fit = sized_fits count P W store hold restore (length s)

  by_kept : (a b : Bool) → right ≡ a → fit ≡ b → Answered a b → Kept (left a b)
  by_kept true true e f z =
      kept_start kind count P W hold restore s (start_sized_lem kind count P W (right_sized kind count P W hold restore e)) (sized_rows_lem count P W store hold restore (length s) f)
  by_kept true false e f z = absurd (omega arith)
  by_kept false b e f z = absurd (omega arith)

  by_group : (a b : Bool) → right ≡ a → fit ≡ b → Answered a b → group_at (left a b) ≡ group_with kind count P W
  by_group true true e f z =
      group kind count P W hold restore s (start_sized_lem kind count P W (right_sized kind count P W hold restore e)) (sized_rows_lem count P W store hold restore (length s) f)
  by_group true false e f z = absurd (omega arith)
  by_group false b e f z = absurd (omega arith)

  pub started_kept : start_as_answer kind count P W store hold restore (length s) ≡ 0 → Kept (start_as_rows kind count P W store hold restore s)
  unfolding start_as_answer start_as_rows sized_answer sized_rows
  started_kept z = by_kept right fit refl refl z

  pub started_with_lem : start_as_answer kind count P W store hold restore (length s) ≡ 0
      → group_at (start_as_rows kind count P W store hold restore s) ≡ group_with kind count P W
  unfolding start_as_answer start_as_rows sized_answer sized_rows
  started_with_lem z = by_group right fit refl refl z
