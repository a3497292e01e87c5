-- What is kept as a report's states and RS-Ack are worked out.
use Rattle.std.specs.Prelude.{◌≡◌, refl, List, ℕ, ◌≤◌, ◌<◌, get_or, length}
use Rattle.std.proofs.Common.{sym, ◌∙◌, arith}
use Rattle.invariant.specs.Kept.Group.{GroupKept, OkApart, PortIn, Lasting}
use Rattle.invariant.specs.Kept.Port.{PortKept}
use Rattle.judge.specs.Seen.{size_of}
use Rattle.receiver.specs.Laws.Sizes.{size_is, sizes_of}
use Rattle.receiver.specs.Laws.Told.{ack_le, length_told, states_in, told_group, told_of_port, told_on, with_ack}
use Rattle.receiver.specs.Report.{reply_ports, with_state, states_worked_out}
use Rattle.reply.specs.Telling.{ack_of}
use Rattle.reply.specs.Theorems.States.{ok_apart, ok_below}
use Rattle.reply.specs.Waiting.{no_standing, standing_at}
use Rattle.reply.specs.declared.waiting.Standing.{Standing}
use Rattle.rows.specs.declared.group.Group.{Group}
use Rattle.rows.specs.declared.member.Member.{Member}
use Rattle.rows.specs.declared.step.Step.{Step}
use Rattle.rows.specs.Group.{group_at}
use Rattle.rows.specs.Port.{Port, port_at}
use Rattle.rows.specs.Rows.{rows_for}
use Rattle.step.specs.Arrival.{distance_in, in_step}

-- no port looks at it
ack_kept : (g : Group) (ack : ℕ) (s : Step) (marks : List ℕ) → PortKept g s marks → PortKept (with_ack g ack) s marks
unfolding distance_in in_step
ack_kept g ack s marks k =
    record {
      row = k.row;
      run = k.run;
      heard = k.heard;
      failed = k.failed;
      joined = k.joined;
      ever_since = k.ever_since;
      whole = k.whole;
      joined_step = k.joined_step;
      since_step = k.since_step;
      failed_none = k.failed_none;
      failed_had = k.failed_had;
      count_had = k.count_had;
      idle = k.idle;
      goes = λ e. let o = k.goes e in record { reach = o.reach; within = o.within; passed = o.passed; marked = o.marked };
      inside = k.inside;
      at_once = k.at_once;
      waits = λ e j. let o = k.waits e j in record { gathered = o.gathered; short = o.short; empty = o.empty };
      early = k.early;
    }

told_in : (g : Group) (ack : ℕ) (p : Port) (left : Standing) → PortIn g p → PortIn (with_ack g ack) (told_on p left)
unfolding with_state
told_in g ack p left o = record { kept = ack_kept g ack p.step p.marks o.kept; unruled = o.unruled; word = o.word }

told_state : (m : Member) (left : Standing) → ((with_state m left).state ≡ left.state) × ((with_state m left).state_number ≡ left.number)
unfolding with_state
told_state m left = (refl, refl)

module _ (s : List (List ℕ)) (k : Lasting s) where
  abbrev g : Group
  g = group_at s

  abbrev n : ℕ
  n = (group_at s).count

  few : n ≤ 64
  few = (sizes_of g.kind n g.payload g.window k.group.sizes).few_ports

  -- What lasts does so when the states have been worked out: of the group RS-Ack alone is another, of a port its member alone, and OK ports have different numbers after every report (`ok_below`, `ok_apart` of reply).
  pub lasting_told : Lasting (states_worked_out g n s)
  lasting_told =
      record {
        rows = rw group (length_told g n s ∙ k.rows);
        group = rw group with_ack_lem;
        ports = λ i c.
            let b : i < n = rw group at c in
            rw (group, told_of_port g n s i b enough) (told_in g ack (port_at s i) (get_or (states_in g n s) i no_standing) (k.ports i b));
        members = rw group apart;
      }
    where
      enough : rows_for n ≤ length s
      enough = let e = k.rows in omega arith

      ack : ℕ
      ack = ack_of (reply_ports g s n) (size_of n) g.rs_ack

      group : group_at (states_worked_out g n s) ≡ with_ack g ack
      group = told_group g n s (let e = k.rows in omega arith)

      with_ack_lem : GroupKept (with_ack g ack)
      with_ack_lem =
          record {
            sizes = k.group.sizes;
            origin = k.group.origin;
            oldest = k.group.oldest;
            begun = k.group.begun;
            gathered = k.group.gathered;
            ack = ack_le (reply_ports g s n) (size_of n) g.rs_ack k.group.ack;
            idle_gathered = k.group.idle_gathered;
            idle_oldest = k.group.idle_oldest;
          }

      state : (i : ℕ) → i < n → ((port_at (states_worked_out g n s) i).member.state ≡ (standing_at (reply_ports g s n) n i).state) × ((port_at (states_worked_out g n s) i).member.state_number ≡ (standing_at (reply_ports g s n) n i).number)
      state i b =
          rw (told_of_port g n s i b enough)
          (let t = told_state (port_at s i).member (get_or (states_in g n s) i no_standing) in (t.0 ∙ rw (size_is n few) refl, t.1 ∙ rw (size_is n few) refl))

      apart : OkApart n (λ i. (port_at (states_worked_out g n s) i).member)
      apart =
          record {
            below = λ i b o.
                rw (state i b).1 (ok_below (reply_ports g s n) n i few b (sym (state i b).0 ∙ o));
            apart = λ i j bi bj oi oj e.
                ok_apart (reply_ports g s n) n i j few bi bj (sym (state i bi).0 ∙ oi) (sym (state j bj).0 ∙ oj)
                (sym (state i bi).1 ∙ e ∙ (state j bj).1);
          }
