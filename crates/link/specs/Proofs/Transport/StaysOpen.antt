-- An open window stays open as member states and RS-Ack are worked out: it looks at neither, nor at answers and reports.
use Rattle.std.specs.Prelude.{◌≡◌, refl, [], ℕ, ◌≤◌, ◌<◌, get_or, length}
use Rattle.std.proofs.Common.{ap, ◌∙◌, arith}
use Rattle.judge.specs.Seen.{size_of}
use Rattle.receiver.specs.Laws.Told.{length_told, told_group, told_marks, told_of_port, told_step, with_ack}
use Rattle.receiver.specs.Report.{reply_ports, states_worked_out}
use Rattle.reply.specs.Telling.{ack_of}
use Rattle.rows.specs.declared.group.Group.{Group}
use Rattle.rows.specs.Group.{group_at}
use Rattle.rows.specs.Packets.{marks_at, packets_at}
use Rattle.rows.specs.Port.{Port, port_at}
use Rattle.rows.specs.Rows.{rows_for}
use Rattle.rows.specs.Step.{step_at}
use Rattle.store.specs.Laws.Stands.{stands_same}
use Rattle.link.specs.Road.{Road}
use Rattle.link.specs.Running.{Moment}
use Rattle.link.specs.Proofs.Standing.{Open}

module _ (r : Road) where
  pub record SameWindow (m m' : Moment) : Type 0 where
    pub rows_long : length m'.rows ≡ length m.rows
    pub stores : m'.store ≡ m.store
    pub kinds : (group_at m'.rows).kind ≡ (group_at m.rows).kind
    pub counts : (group_at m'.rows).count ≡ (group_at m.rows).count
    pub payloads : (group_at m'.rows).payload ≡ (group_at m.rows).payload
    pub windows : (group_at m'.rows).window ≡ (group_at m.rows).window
    pub origins : (group_at m'.rows).origin ≡ (group_at m.rows).origin
    pub beguns : (group_at m'.rows).begun ≡ (group_at m.rows).begun
    pub oldests : (group_at m'.rows).oldest ≡ (group_at m.rows).oldest
    pub steps : (p : ℕ) → p < r.ports → step_at m'.rows p ≡ step_at m.rows p
    pub marks : (p : ℕ) → p < r.ports → marks_at m'.rows p ≡ marks_at m.rows p
    pub gathering : (p : ℕ) → p < r.ports → (port_at m'.rows p).gathering ≡ (port_at m.rows p).gathering

  pub open_stays : (m m' : Moment) (coming : ℕ → ℕ) (i : ℕ) → SameWindow m m' → Open r m coming i → Open r m' coming i
  open_stays m m' coming i a o =
      let l = o.lined in
      record {
        lined = record {
          rows_long = a.rows_long ∙ l.rows_long;
          store_long = rw a.stores l.store_long;
          kind_is = a.kinds ∙ l.kind_is;
          count_is = a.counts ∙ l.count_is;
          payload_is = a.payloads ∙ l.payload_is;
          window_is = a.windows ∙ l.window_is;
          origin_in = rw a.origins l.origin_in;
        };
        begun = a.beguns ∙ o.begun;
        oldest = rw a.oldests o.oldest;
        oldest_small = rw a.oldests o.oldest_small;
        in_step_lem = o.in_step_lem;
        stepped = λ p b. rw (a.steps p b) (o.stepped p b);
        live = λ p b. rw (a.gathering p b) (o.live p b);
        ever_since = λ p b. rw (a.steps p b) (o.ever_since p b);
        joined_at = λ p b. rw (a.steps p b) (o.joined_at p b);
        behind = o.behind;
        ahead = o.ahead;
        marks_row = λ p b. rw (a.marks p b) (o.marks_row p b);
        marks = λ p k b c. rw (a.marks p b) (o.marks p k b c);
        stands = λ p x b low high.
            rw a.stores
            (stands_same (group_at m.rows) (group_at m'.rows) p _ (r.bytes p x) (r.h4 p x) m.store a.payloads a.windows a.origins (o.stands p x b low high));
      }

module _ (r : Road) (m m' : Moment) (long : rows_for r.ports ≤ length m.rows) (is : m'.rows ≡ states_worked_out (group_at m.rows) r.ports m.rows) (stores : m'.store ≡ m.store) where
  abbrev g : Group
  g = group_at m.rows

  group_told : group_at m'.rows ≡ with_ack g (ack_of (reply_ports g m.rows r.ports) (size_of r.ports) g.rs_ack)
  group_told = rw is (told_group g r.ports m.rows (omega arith))

  pub window_told : SameWindow r m m'
  window_told =
      record {
        rows_long = rw is (length_told g r.ports m.rows);
        stores = stores;
        kinds = rw group_told refl;
        counts = rw group_told refl;
        payloads = rw group_told refl;
        windows = rw group_told refl;
        origins = rw group_told refl;
        beguns = rw group_told refl;
        oldests = rw group_told refl;
        steps = λ p b. rw is (told_step g r.ports m.rows p b long);
        marks = λ p b. rw is (told_marks g r.ports m.rows p b long);
        gathering = λ p b. rw is (ap (λ (q : Port). q.gathering) (told_of_port g r.ports m.rows p b long));
      }

  pub gathered_told : (group_at m'.rows).gathered ≡ g.gathered
  gathered_told = rw group_told refl

  pub ruling_told : (p : ℕ) → p < r.ports → get_or (packets_at m'.rows p) 1 [] ≡ get_or (packets_at m.rows p) 1 []
  unfolding port_at
  ruling_told p b = rw is (ap (λ (q : Port). q.ruling) (told_of_port g r.ports m.rows p b long))
