-- The receiver on a road: its own definitions, called frame by frame, each with the state and the store that the last call left.
use Rattle.std.specs.Prelude.{false, List, [], ◌∷◌, ◌++◌, ℕ, zero, suc, ◌+◌, ◌-◌, ◌*◌, drop, get_or, length, take, if◌then◌else◌, ◌==◌}
use Rattle.ground.specs.Plain.{◌≤?◌}
use Rattle.ground.specs.Types.{Bytes, Rows}
use Rattle.receiver.specs.Fetch.{fetch_of}
use Rattle.receiver.specs.Frame.{frame_of}
use Rattle.receiver.specs.Starting.{start_as_rows}
use Rattle.rows.specs.Group.{group_at}
use Rattle.link.specs.Road.{Road}
use Rattle.link.specs.Told.{Told}

-- what stands after some calls: the lent rows and store, the answers of all frames, and all reports so far
pub record Moment : Type 0 where
  pub rows : List (List ℕ)
  pub store : List ℕ
  pub answers : List ℕ
  pub told : List Told

-- 1 where receiving has begun
abbrev pub has_begun : Moment → ℕ
has_begun m = (group_at m.rows).begun

module _ (r : Road) where
  -- 'A fresh receiver', started with any times, over any rows and any store
  unfoldable pub fresh : (hold restore : List ℕ) (rows : Rows) (store : Bytes) → Moment
  fresh hold restore rows store =
      record {
        rows = start_as_rows r.kind r.ports r.payload r.window (length store) hold restore rows;
        store = store;
        answers = [];
        told = [];
      }

  -- a frame handed over
  unfoldable pub framed : (port x : ℕ) (m : Moment) → Moment
  framed p x m =
      record {
        rows = (frame_of m.rows p false (r.h4 p x) (r.bytes p x) m.store).rows;
        store = (frame_of m.rows p false (r.h4 p x) (r.bytes p x) m.store).store;
        answers = m.answers ++ ((frame_of m.rows p false (r.h4 p x) (r.bytes p x) m.store).answer ∷ []);
        told = m.told;
      }

  -- the output and the record that a fetch is lent
  abbrev pub output_at : Moment → List ℕ
  output_at m = r.output (length m.told)

  abbrev pub lent_at : Moment → List ℕ
  lent_at m = r.lent (length m.answers) (length m.told)

  -- the record that it writes
  abbrev pub record_at : Moment → List ℕ
  record_at m = (fetch_of m.rows m.store (output_at m) (lent_at m)).report

  -- how many bytes a record says
  abbrev pub bytes_in : List ℕ → ℕ
  bytes_in rec = get_or rec 4 0 * 16777216 + get_or rec 5 0 * 65536 + get_or rec 6 0 * 256 + get_or rec 7 0

  abbrev pub told_by : List ℕ → Bytes → Told
  told_by rec out = record { epoch = get_or rec 1 0; mark = get_or rec 0 0; bytes = take (bytes_in rec) out; rest = drop (bytes_in rec) out }

  -- one fetch that gives a report
  unfoldable pub fetched : Moment → Moment
  fetched m =
      record {
        rows = (fetch_of m.rows m.store (output_at m) (lent_at m)).rows;
        store = m.store;
        answers = m.answers;
        told = m.told ++ (told_by (record_at m) (fetch_of m.rows m.store (output_at m) (lent_at m)).out ∷ []);
      }

  -- 'reports fetched after each frame until none is due': at most k of them (the theorem says that none is due then)
  unfoldable pub drained : ℕ → Moment → Moment
  drained zero m = m
  drained (suc k) m = if get_or (record_at m) 0 0 == 0 then m else drained k (fetched m)

  -- port p's turn in frame time t: its frame, if its first one is not still to come, and then the reports
  unfoldable pub turn : (t port : ℕ) (m : Moment) → Moment
  turn t p m = if r.delay p + r.first p ≤? t then drained r.window (framed p (t - r.delay p) m) else m

  unfoldable pub turns : (t : ℕ) (ports : List ℕ) (m : Moment) → Moment
  turns t [] m = m
  turns t (p ∷ ps) m = turns t ps (turn t p m)

  -- all frame times before t
  unfoldable pub through : ℕ → Moment → Moment
  through zero m = m
  through (suc t) m = turns t (r.order t) (through t m)
