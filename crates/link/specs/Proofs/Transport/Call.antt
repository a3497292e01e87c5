-- A frame handed over, where the lengths are right: it is not refused, and what follows for all ports follows from the port's own rows.
use Rattle.std.specs.Prelude.{◌≡◌, ◌≢◌, false, [], ◌∷◌, ◌++◌, ℕ, ◌+◌, ◌*◌, ◌<◌, length}
use Rattle.std.proofs.Math.Path.{refl}
use Rattle.std.proofs.Common.{◌∙◌, sym}
use borrow.Author.Tests.{ne_eqb}
use Rattle.receiver.specs.Laws.Sizes.{start_sized_lem}
use Rattle.phases.specs.Sizes.{ports_in, store_for}
use Rattle.receiver.specs.Frame.{frame_of, frame_refusal, port_rows, settled_by, store_by, taken_frame, taken_in}
use Rattle.receiver.specs.Laws.Answers.{fitting_none}
use Rattle.rows.specs.Group.{group_at}
use Rattle.step.specs.declared.arrival.Taken.{Taken}
use Rattle.link.specs.Road.{Road}
use Rattle.link.specs.Proofs.Fair.{Fair}
use Rattle.link.specs.Running.{Moment, framed}
use Rattle.link.specs.Proofs.Standing.{Lined}

module _ (r : Road) (f : Fair r) where
  module _ (m : Moment) (o : Lined r m) where
    pub ports_are : ports_in (group_at m.rows) ≡ r.ports
    unfolding ports_in
    ports_are = rw (o.kind_is, o.count_is, o.payload_is, o.window_is, start_sized_lem r.kind r.ports r.payload r.window f.sizes) refl

    store_is : store_for (group_at m.rows) r.ports ≡ r.ports * r.window * (r.payload + 1)
    unfolding store_for
    store_is = rw (o.payload_is, o.window_is) refl

    -- neither 1 nor 9
    pub unrefused : (p x : ℕ) → p < r.ports → frame_refusal m.rows p (length (r.bytes p x)) (length m.store) ≡ 0
    unrefused p x b =
        rw ports_are
        (fitting_none (group_at m.rows) r.ports p (length m.rows) (length (r.bytes p x)) (length m.store)
        (record { port = b; whole = o.rows_long; bytes = f.long p x b ∙ sym o.payload_is; stored = o.store_long ∙ sym store_is }))

    -- what the frame does
    abbrev pub taken_at : ℕ → ℕ → Taken
    taken_at p x = taken_in m.rows p false (r.h4 p x)

    -- all of it, where it is not outside the window
    pub framed_is : (p x : ℕ) → p < r.ports → (taken_at p x).answer ≢ 11
        → framed r p x m ≡ record {
          rows =
              settled_by (taken_at p x).settles r.ports (store_by (group_at m.rows) p (taken_at p x) (r.h4 p x) (r.bytes p x) m.store)
              (port_rows r.kind m.rows p (taken_at p x) (r.h4 p x));
          store = store_by (group_at m.rows) p (taken_at p x) (r.h4 p x) (r.bytes p x) m.store;
          answers = m.answers ++ ((taken_at p x).answer ∷ []);
          told = m.told;
        }
    unfolding framed frame_of taken_frame
    framed_is p x b d =
        rw (unrefused p x b, ports_are, ne_eqb (taken_at p x).answer 11 d, ← o.kind_is) refl
