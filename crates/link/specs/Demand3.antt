-- Demand 3 (the minutes, item 3), as one statement. A link (Link) with what the minutes let be so (Assumed; over any sending side, AssumedOver) and a receiver started with any times, over any rows and any store; its run (Running)
-- calls the receiver's own definitions frame by frame and fetches reports after each frame.
use Rattle.std.specs.Prelude.{◌≡◌, ◌⊎◌, true, List, [], ◌++◌, ℕ, suc, ◌+◌, ◌-◌, ◌*◌, ◌/◌, ◌≤◌, ◌<◌, get_or, length}
use Rattle.ground.specs.Table.{tabulate}
use Rattle.judge.specs.Verdict.{SURE}
use Rattle.receiver.specs.Fetch.{fetch_of}
use Rattle.receiver.specs.Starting.{list_fits, times_within}
use Rattle.rows.specs.Rows.{rows_for}
use Rattle.link.specs.Link.{Alike, AssumedOver, Link, SameIn, epoch_frames, expected, road_of}
use Rattle.link.specs.Moments.{Beginning, Run, Unready, coming, reached, says, says_through}
use Rattle.link.specs.Running.{Moment, fresh, has_begun, lent_at, output_at, record_at}
use Rattle.link.specs.Told.{SaySame, Told}

-- a moment: frame time t, in which the ports of `done` have been served and those of `rest` are still to come
pub record Time (k : Link) : Type 0 where
  pub t : ℕ
  pub done : List ℕ
  pub rest : List ℕ
  pub is_order : k.order t ≡ done ++ rest

-- all frames of the i-th epoch have come to every port
abbrev pub FullyArrived : (k : Link) → Time k → ℕ → Type 0
FullyArrived k at i = (p : ℕ) → p < k.ports → suc i * epoch_frames k ≤ coming (road_of k) at.t at.rest p

-- Of any run, so that other receivers can be held to it.
module _ (k : Link) (run : Run) where
  -- what stands at a moment
  abbrev pub standing : Time k → Moment
  standing at = run at.t at.done

  -- 'From the second epoch to start after the foremost tag at that moment, each one that has fully arrived is reported once and in order': the first epoch to start after position F is the one
  -- numbered F / 16 + 1 from the stream's start on, and the report of epoch i + 1 is `expected k i`, into the output that was lent for it. So n reports have been made, of the n epochs that follow it, each as expected; they have fully arrived, and the next has not.
  pub record Reported (at : Time k) : Type 0 where
    pub F : ℕ
    pub beginning : Beginning (road_of k) run F
    pub many : ℕ
    pub are : (standing at).told ≡ tabulate many (λ j. expected k (suc (F / epoch_frames k) + j) (k.output j))
    pub arrived : (j : ℕ) → j < many → FullyArrived k at (suc (suc (F / epoch_frames k) + j))
    pub not_yet : FullyArrived k at (suc (suc (F / epoch_frames k) + many)) → ⊥

  pub data Stands (at : Time k) : Type 0 where
    none_yet : has_begun (standing at) ≡ 0 → Unready (road_of k) at.t at.done → (standing at).told ≡ [] → Stands at
    reporting : has_begun (standing at) ≡ 1 → Reported at → Stands at

  pub record Promised : Type 0 where
    -- 'A fresh receiver begins within 48 frames of the last port's first': T is the frame time of the last port's first frame, and before frame time T + 47 it has had 47 frames. Of VC-12 '96 frames', 95 here: three epochs less one frame.
    pub begins_within : (T : ℕ) → ((p : ℕ) → p < k.ports → k.delay p + k.first p ≤ T) → has_begun (run (T + (epoch_frames k * 3 - 1)) []) ≡ 1
    -- at every moment of the run, for ever: nothing is reported before the beginning, and then each epoch as it has fully arrived
    pub always : (at : Time k) → Stands at
    -- every frame is answered 0 or 12, 12 only before its port is in step
    pub answered : (at : Time k) → (standing at).answers ≡ says_through (road_of k) at.t ++ says (road_of k) at.t at.done

-- the receiver's own run
abbrev pub own_run : Link → Moment → Run
own_run k m₀ = reached (road_of k) m₀

-- a list of counts that a start takes: none above 5,000, and one for each port or none at all
pub record Times (counts : List ℕ) (ports : ℕ) : Type 0 where
  pub within : times_within counts ≡ true
  pub fits : list_fits counts ports ≡ true

-- a receiver started with any times, over any rows and any store of the right lengths
pub record Started (k : Link) (m : Moment) : Type 0 where
  pub hold : List ℕ
  pub restore : List ℕ
  pub hold_times : Times hold k.ports
  pub restore_times : Times restore k.ports
  pub rows : List (List ℕ)
  pub store : List ℕ
  pub rows_long : length rows ≡ rows_for k.ports
  pub store_long : length store ≡ k.ports * k.window * (k.payload + 1)
  pub is : m ≡ fresh (road_of k) hold restore rows store

-- a fetch is answered 0 and says that none is due
abbrev pub NoneDue : Link → Moment → Type 0
NoneDue k m = ((fetch_of m.rows m.store (output_at (road_of k) m) (lent_at (road_of k) m)).answer ≡ 0) × (get_or (record_at (road_of k) m) 0 0 ≡ 0)

-- the m-th report of a moment, counted from 0
abbrev pub no_report : Told
no_report = record { epoch = 0; mark = 0; bytes = []; rest = [] }

abbrev pub report_at : Moment → ℕ → Told
report_at at m = get_or at.told m no_report

-- two moments at which the m-th report has been made, and the two differ in mark or bytes
pub record ToldApart (a b : Moment) (m : ℕ) : Type 0 where
  pub here : m < length a.told
  pub there : m < length b.told
  pub differ : SaySame (report_at a m) (report_at b m) → ⊥

-- 'So, over the same tags, delays, first frames and port orders, client streams that differ in an epoch reported sure never come out alike': of two such runs at the same moment, where either's m-th report
-- is sure and its epoch has different client bytes, it is the m-th reports that differ.
pub record NeverAlike (k j : Link) : Type 0 where
  pub never : (mk mj : Moment) → Started k mk → Started j mj → (at : Time k) (bt : Time j) → at.t ≡ bt.t → at.rest ≡ bt.rest
      → (ok : Reported k (own_run k mk) at) (m : ℕ) → m < ok.many
      → ((report_at (standing k (own_run k mk) at) m).mark ≡ SURE) ⊎ ((report_at (standing j (own_run j mj) bt) m).mark ≡ SURE)
      → (SameIn (suc (suc (ok.F / epoch_frames k) + m)) k j → ⊥)
      → ToldApart (standing k (own_run k mk) at) (standing j (own_run j mj) bt) m

pub record Demand3 (k : Link) : Type 0 where
  pub promised : (m₀ : Moment) → Started k m₀ → Promised k (own_run k m₀)
  -- the fetches of every turn have ended by themselves
  pub fetched_out : (m₀ : Moment) → Started k m₀ → (at : Time k) → NoneDue k (standing k (own_run k m₀) at)
  pub never_alike : (j : Link) → AssumedOver j → Alike k j → NeverAlike k j

-- Which frames demand 3 spares the multiframe number in is said by the lines alone (Lines, `spared`). They are those that are handed before receiving has begun in the receiver's own run, and the one with which it begins: at every
-- moment receiving has not begun if and only if up to it not all ports were ready.
pub record UntilBegun (k : Link) (run : Run) (at : Time k) : Type 0 where
  pub unready : has_begun (standing k run at) ≡ 0 → Unready (road_of k) at.t at.done
  pub not_begun : Unready (road_of k) at.t at.done → has_begun (standing k run at) ≡ 0
