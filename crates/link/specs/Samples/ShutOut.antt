-- 'Shut out by name' (01, 'What the promises have to say'): on the sample, no receiver that never begins, holds all epochs or gives constant bytes has what demand 3 promises. Nor has one that begins before or after its moment, reports
-- before it, or answers every frame with 12.
use Rattle.std.proofs.Math.Path.{◌≡◌, refl, sym, ap, subst}
use Rattle.std.proofs.Common.{◌∙◌, arith}
use Rattle.std.proofs.Math.Logic.{⊎_elim, inl, inr}
use Rattle.std.specs.Prelude.{◌≢◌, ℕ, zero, suc, ◌+◌, ◌-◌, ◌*◌, ◌/◌, ◌≤◌, ◌<◌}
use mathlib.Core.List.{List, [], ◌∷◌, ◌++◌}
use Rattle.std.proofs.Math.ListN.{get_or, length, replicate}
use Rattle.ground.specs.Truth.{eq_or_ne, le_or_lt}
use Rattle.judge.specs.Verdict.{HELD, SURE}
use Rattle.packet.specs.Kinds.{first_tag, frames, lead, tags}
use Rattle.step.specs.SentRuns.{start_from}
use Rattle.link.specs.Demand3.{FullyArrived, Promised, Reported, Stands, Started, Time, own_run}
use Rattle.link.specs.Demand3.Stands.{none_yet, reporting}
use Rattle.link.specs.Moments.{Beginning, NotAfter, Ready, Run, Unready, next_at, coming, reached, says, says_through}
use Rattle.link.specs.Link.{road_of}
use Rattle.link.specs.Theorems.{demand3, spared_until}
use Rattle.link.specs.Running.{fresh, has_begun, lent_at, output_at, record_at}
use Rattle.receiver.specs.Fetch.{fetch_of}
use Rattle.link.specs.Told.{Told}
use Rattle.link.specs.Road.{times}
use Rattle.link.specs.Proofs.Histories.Ours.{ours}
use Rattle.link.specs.Proofs.Transport.Times.{coming_is}
use Rattle.link.specs.Samples.Computing.{no_times, some_times, started}
use Rattle.link.specs.Samples.Members.{link}
use Rattle.link.specs.Samples.Met.{met}
use Rattle.link.specs.Samples.Reports.{as_expected, reports}

-- how far each port has come

next_0 : (t : ℕ) (rest : List ℕ) → coming (road_of link) t rest 0 ≡ 3 + (t + 1 - times 0 rest - 7)
unfolding road_of next_at
next_0 t rest = coming_is (road_of link) t rest 0 (omega arith)

next_1 : (t : ℕ) (rest : List ℕ) → coming (road_of link) t rest 1 ≡ 21 + (t + 1 - times 1 rest - 21)
unfolding road_of next_at
next_1 t rest = coming_is (road_of link) t rest 1 (omega arith)

-- the positions from which the ports count: the first ones with MFI1 0

counts_0 : start_from 0 (first_tag 0 249) 3 ≡ 8
unfolding start_from first_tag frames lead tags
counts_0 = refl

counts_1 : start_from 0 (first_tag 0 249) 21 ≡ 24
unfolding start_from first_tag frames lead tags
counts_1 = refl

-- after frame time 55 all are in step and near enough
ready_then : Ready (road_of link) (coming (road_of link) 56 (link.order 56))
unfolding road_of frames
ready_then = record { stepped = stepped; near = near }
  where
    at_0 : coming (road_of link) 56 (link.order 56) 0 ≡ 52
    at_0 = next_0 56 (link.order 56)

    at_1 : coming (road_of link) 56 (link.order 56) 1 ≡ 56
    at_1 = next_1 56 (link.order 56)

    stepped : (q : ℕ) → q < 2 → start_from 0 (first_tag 0 249) (link.first q) + 16 * 2 ≤ coming (road_of link) 56 (link.order 56) q
    stepped zero h = rw (counts_0, at_0) (omega arith)
    stepped (suc zero) h = rw (counts_1, at_1) (omega arith)
    stepped (suc (suc q)) h = absurd (omega arith)

    near : (p q : ℕ) → p < 2 → q < 2 → coming (road_of link) 56 (link.order 56) p + 16 ≤ coming (road_of link) 56 (link.order 56) q + 20
    near zero zero hp hq = omega arith
    near zero (suc zero) hp hq = rw (at_0, at_1) (omega arith)
    near (suc zero) zero hp hq = rw (at_0, at_1) (omega arith)
    near (suc zero) (suc zero) hp hq = omega arith
    near zero (suc (suc q)) hp hq = absurd (omega arith)
    near (suc zero) (suc (suc q)) hp hq = absurd (omega arith)
    near (suc (suc p)) zero hp hq = absurd (omega arith)
    near (suc (suc p)) (suc q) hp hq = absurd (omega arith)

-- the moment after frame time 179
abbrev pub at_180 : Time link
at_180 = record { t = 180; done = []; rest = link.order 180; is_order = refl }

come_0 : coming (road_of link) 180 (link.order 180) 0 ≡ 176
come_0 = next_0 180 (link.order 180)

come_1 : coming (road_of link) 180 (link.order 180) 1 ≡ 180
come_1 = next_1 180 (link.order 180)

all_first : (p : ℕ) → p < 2 → link.delay p + link.first p ≤ 133
all_first zero h = omega arith
all_first (suc zero) h = omega arith
all_first (suc (suc p)) h = absurd (omega arith)

-- before frame times 41, 56 and 44
abbrev early : Time link
early = record { t = 41; done = []; rest = link.order 41; is_order = refl }

abbrev ready_at : Time link
ready_at = record { t = 56; done = []; rest = link.order 56; is_order = refl }

abbrev first_in_step : Time link
first_in_step = record { t = 44; done = []; rest = link.order 44; is_order = refl }

-- Port 0's first frame comes in frame time 7 and port 1's in 21. Port 0 counts from position 8 on: the 32nd frame from there comes in frame time 43, after port 1's. So 14 frames of one port, 22 of each and one more are answered 12, and that one 0.
answers_early : says_through (road_of link) 44 ++ says (road_of link) 44 [] ≡ replicate 59 12 ++ (0 ∷ [])
unfolding road_of start_from first_tag frames lead tags
answers_early = refl

-- the last port's first frame comes in frame time 21
all_soon : (p : ℕ) → p < 2 → link.delay p + link.first p ≤ 21
all_soon zero h = omega arith
all_soon (suc zero) h = omega arith
all_soon (suc (suc p)) h = absurd (omega arith)

-- a property of each of some reports
abbrev pub Each : (Told → Type 0) → List Told → Type 0
Each P [] = Unit {0}
Each P (r ∷ rs) = P r × Each P rs

-- Any run of which demand 3's words hold on the sample.
module _ (run : Run) (d : Promised link run) where
  -- It began when all ports were in step for the first time: the foremost position was 55.
  pub began : (F : ℕ) → Beginning (road_of link) run F → F ≡ 55
  unfolding road_of frames
  began F b = omega (arith, front, low)
    where
      soon : b.time ≤ 55
      soon = ⊎_elim (λ (h : b.time ≤ 55). h) (λ (h : 55 < b.time). absurd (b.unready 56 [] (link.order 56) refl (after h) ready_then)) (le_or_lt b.time 55)
        where
          after : 55 < b.time → NotAfter (road_of link) 56 [] b.time b.done
          after h = ⊎_elim (λ (e : 56 ≡ b.time). inr (e, omega arith)) (λ (e : 56 ≢ b.time). inl (omega arith)) (eq_or_ne 56 b.time)

      low : 55 ≤ F
      low =
          let w = b.ready.stepped 1 (omega arith) in
          let v : 24 + 32 ≤ coming (road_of link) b.time b.rest 1 = rw counts_1 at w in
          let m = b.foremost.most 1 (omega arith) in
          omega arith

      front : F ≤ 55
      front = go b.foremost.port b.foremost.below b.foremost.is
        where
          go : (p : ℕ) → p < 2 → coming (road_of link) b.time b.rest p ≡ F + 1 → F ≤ 55
          go zero h e = let n = next_0 b.time b.rest in omega (arith, soon)
          go (suc zero) h e = let n = next_1 b.time b.rest in omega (arith, soon)
          go (suc (suc p)) h e = absurd (omega arith)

  reported : Reported link run at_180 → (run 180 []).told ≡ reports
  unfolding frames
  reported r = rw (six, fore) at r.are ∙ as_expected
    where
      fore : r.F ≡ 55
      fore = began r.F r.beginning

      few : r.many ≤ 6
      few =
          ⊎_elim (λ (h : r.many ≤ 6). h)
          (λ (h : 6 < r.many). let w = r.arrived 6 h 0 (omega arith) in absurd (omega (arith, fore, come_0))) (le_or_lt r.many 6)

      all : r.many < 6 → FullyArrived link at_180 (suc (suc (r.F / 16) + r.many))
      all h zero b = omega (arith, fore, come_0)
      all h (suc zero) b = omega (arith, fore, come_1)
      all h (suc (suc p)) b = absurd (omega arith)

      six : r.many ≡ 6
      six = ⊎_elim (λ (h : 6 ≤ r.many). omega (arith, few)) (λ (h : r.many < 6). absurd (r.not_yet (all h))) (le_or_lt 6 r.many)

  pub has_begun_lem : has_begun (run 180 []) ≡ 1
  unfolding frames
  has_begun_lem = d.begins_within 133 all_first

  -- '48 frames of the last port's first'
  pub begins_soon : has_begun (run 68 []) ≡ 1
  unfolding frames
  begins_soon = d.begins_within 21 all_soon

  -- Its reports are then these six, whatever receiver it is.
  pub told_then : (run 180 []).told ≡ reports
  told_then = go (d.always at_180)
    where
      go : Stands link run at_180 → (run 180 []).told ≡ reports
      go (none_yet e un t) = absurd (omega (arith, has_begun_lem))
      go (reporting e r) = reported r

  -- 'a receiver that never begins'
  pub never_begins : ((t : ℕ) (done : List ℕ) → has_begun (run t done) ≡ 0) → ⊥
  never_begins h = let e = h 180 [] in absurd (omega (arith, has_begun_lem))

  pub never_reports : ((t : ℕ) (done : List ℕ) → (run t done).told ≡ []) → ⊥
  unfolding reports
  never_reports h = let e : length reports ≡ 0 = ap length (sym told_then ∙ h 180 []) in absurd (omega arith)

  -- 'or holds all epochs'
  pub holds_all : ((t : ℕ) (done : List ℕ) → Each (λ r. r.mark ≡ HELD) (run t done).told) → ⊥
  unfolding reports
  holds_all h = let e = subst (Each (λ r. r.mark ≡ HELD)) told_then (h 180 []) in let m = e.0 in absurd (omega arith)

  -- 'one that gives constant bytes': the same ones for every epoch, or one byte over and over
  pub constant_bytes : (c : List ℕ) → ((t : ℕ) (done : List ℕ) → Each (λ r. r.mark ≡ SURE → r.bytes ≡ c) (run t done).told) → ⊥
  unfolding reports
  constant_bytes c h =
      let e = subst (Each (λ r. r.mark ≡ SURE → r.bytes ≡ c)) told_then (h 180 []) in
      let b : ◌≡◌ {A = ℕ} 160 192 = ap (λ (l : List ℕ). get_or l 0 0) (e.0 refl ∙ sym (e.1.0 refl)) in
      absurd (omega arith)

  pub constant_byte : (c : ℕ) → ((t : ℕ) (done : List ℕ) → Each (λ r. r.bytes ≡ replicate (length r.bytes) c) (run t done).told) → ⊥
  unfolding reports
  constant_byte c h =
      let e = subst (Each (λ r. r.bytes ≡ replicate (length r.bytes) c)) told_then (h 180 []) in
      let a : ◌≡◌ {A = ℕ} 160 c = ap (λ (l : List ℕ). get_or l 0 0) e.0 in
      let b : ◌≡◌ {A = ℕ} 162 c = ap (λ (l : List ℕ). get_or l 1 0) e.0 in
      absurd (omega arith)

  -- one that reports before it begins
  pub reports_early : ((run 41 []).told ≡ [] → ⊥) → ⊥
  unfolding frames
  reports_early h = h (go (d.always early))
    where
      go : Stands link run early → (run 41 []).told ≡ []
      go (none_yet e un t) = t
      go (reporting e r) = rw none at r.are
        where
          fore : r.F ≡ 55
          fore = began r.F r.beginning

          none : r.many ≡ 0
          none =
              ⊎_elim (λ (l : r.many ≤ 0). omega arith)
              (λ (l : 0 < r.many). let w = r.arrived 0 l 0 (omega arith) in absurd (omega (arith, fore, next_0 41 (link.order 41))))
              (le_or_lt r.many 0)

  -- one that begins before all ports are ready
  pub begins_early : ((at : Time link) → has_begun (run at.t at.done) ≡ 1) → ⊥
  unfolding road_of
  begins_early h = go (d.always at_180)
    where
      go : Stands link run at_180 → ⊥
      go (none_yet e un t) = absurd (let b = h at_180 in omega arith)
      go (reporting e r) =
          let b = r.beginning in
          let w = h (record { t = b.time; done = b.done; rest = b.port ∷ b.rest; is_order = b.is_order }) in
          let n = b.not_yet in
          absurd (omega arith)

  -- or when they have been ready for a while
  pub begins_late : has_begun (run 56 []) ≡ 0 → ⊥
  unfolding road_of
  begins_late h = go (d.always ready_at)
    where
      go : Stands link run ready_at → ⊥
      go (none_yet e un t) = un 56 [] (link.order 56) refl (inr (refl, omega arith)) ready_then
      go (reporting e r) = absurd (omega arith)

  -- one that answers every frame with 12
  pub never_in_step : ((t : ℕ) (done : List ℕ) → (run t done).answers ≡ replicate (length (run t done).answers) 12) → ⊥
  never_in_step h =
      let e = subst (λ (l : List ℕ). l ≡ replicate (length l) 12) (d.answered first_in_step ∙ answers_early) (h 44 []) in
      let a : ◌≡◌ {A = ℕ} 0 12 = ap (λ (l : List ℕ). get_or l 59 0) e in
      absurd (omega arith)

-- The receiver itself is held to it, and by the theorem alone its reports are the six that its run was computed to.
pub starts : Started link (started link)
starts =
    record {
      hold = [];
      restore = [];
      hold_times = no_times 2;
      restore_times = no_times 2;
      rows = replicate 11 (replicate 16 0xFF);
      store = replicate 80 0xFF;
      rows_long = refl;
      store_long = refl;
      is = refl;
    }

pub itself : Promised link (reached (road_of link) (started link))
itself = (demand3 link met).promised (started link) starts

-- so is one started with times
pub with_times : Promised link (reached (road_of link) (fresh (road_of link) (0 ∷ 5000 ∷ []) (0 ∷ 5000 ∷ []) (replicate 11 (replicate 16 0xFF)) (replicate 80 0xFF)))
with_times =
    (demand3 link met).promised _
    (record {
      hold = 0 ∷ 5000 ∷ [];
      restore = 0 ∷ 5000 ∷ [];
      hold_times = some_times;
      restore_times = some_times;
      rows = replicate 11 (replicate 16 0xFF);
      store = replicate 80 0xFF;
      rows_long = refl;
      store_long = refl;
      is = refl;
    })

pub by_theorem : (reached (road_of link) (started link) 180 []).told ≡ reports
by_theorem = told_then (reached (road_of link) (started link)) itself

-- After each turn its fetches have ended: one more is answered 0 and says that none is due.
fetched_out :
    (let m = own_run link (started link) 180 [] in (fetch_of m.rows m.store (output_at (road_of link) m) (lent_at (road_of link) m)).answer ≡ 0)
    × (get_or (record_at (road_of link) (own_run link (started link) 180 [])) 0 0 ≡ 0)
fetched_out = (demand3 link met).fetched_out (started link) starts at_180

-- The multiframe number is spared before frame time 41, when the ports have never been ready and receiving has not begun, and no longer from frame time 56 on (request 2026-04).

unready_then : Unready (road_of link) 41 []
unfolding road_of frames
unready_then u earlier rest e na y =
    let w : start_from 0 (first_tag 0 249) 21 + 16 * 2 ≤ coming (road_of link) u rest 1 = y.stepped 1 (omega arith) in
    let at = next_1 u rest in
    let from = counts_1 in
    ⊎_elim (λ (h : u < 41). absurd (omega arith)) (λ (h : (u ≡ 41) × (length earlier ≤ 0)). (let same = h.0 in absurd (omega arith))) na

not_begun : has_begun (own_run link (started link) 41 []) ≡ 0
not_begun = (spared_until link (ours link met) (started link) starts early).not_begun unready_then

spared_no_longer : has_begun (own_run link (started link) 56 []) ≡ 0 → ⊥
unfolding road_of
spared_no_longer e = (spared_until link (ours link met) (started link) starts ready_at).unready e 56 [] (link.order 56) refl (inr (refl, omega arith)) ready_then
