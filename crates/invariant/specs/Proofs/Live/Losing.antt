-- What a port's run says of the frames heard, with a frame more.
-- The idea: in step `breaks` and `odd` go with the frames one by one. As the step is gained no frame has broken the count, so the packet that ended within the run has its own number.
use Rattle.std.specs.Prelude.{◌≡◌, Bool, not, ◌&&◌, List, ◌∷◌, eqb, drop, get_or}
use Rattle.std.proofs.Math.Path.{refl, sym}
use Rattle.std.proofs.Common.{ap, subst, ◌∙◌, get_or-drop}
use Rattle.std.proofs.Math.Logic.{⊎_elim}
use Rattle.std.proofs.Math.Bool.{true, false, cond}
use Prim.Native.Nat.{ℕ, zero, suc, ◌+◌, ◌-◌, ◌*◌, ◌%◌, ◌≤◌, ◌<◌}
use Rattle.std.proofs.Math.Nat.{mul-mod_right}
use native.Mathlib.Omega.{arith}
use Rattle.std.proofs.Math.Dec.{leb}
use borrow.Author.Tests.{eq-eqb, eqb-false, le-leb, leb-true}
use Rattle.ground.specs.Truth.{clash, cond_by, le_or_lt}
use Rattle.invariant.specs.Heard.{broken, ended_odd}
use Rattle.invariant.specs.Kept.Run.{RunKept}
use Rattle.invariant.specs.Live.{LiveRow, packet_heard}
use Rattle.invariant.specs.Proofs.Live.Rows.{packet_judged}
use Rattle.invariant.specs.Proofs.Live.Runs.{Went}
use Rattle.packet.specs.Counts.{carries_low, counts, h4_counts, starts_count, tag_by_high, tag_by_low}
use Rattle.packet.specs.Kinds.{epoch_of, first_tag, frames, place_of, tag_after, tag_back, tag_before, tag_of}
use Rattle.packet.specs.Theorems.Tags.{epoch_lt}
use Rattle.packet.specs.declared.layout.Fields.{Fields}
use Rattle.packet.specs.Laws.Back.{anew_early, back_after, before_after, ended_back, ends_starts, place_further, starts_place}
use Rattle.packet.specs.Laws.Counting.{counts_h4}
use Rattle.packet.specs.Laws.Distances.{place_on}
use Rattle.packet.specs.Laws.OwnBits.{h4_fields, own_counted}
use Rattle.packet.specs.Layout.{fields_of}
use Rattle.rows.specs.declared.group.Group.{Group}
use Rattle.rows.specs.declared.step.Step.{Step}
use Rattle.step.specs.Arrival.{flag_of, run_of}
use Rattle.step.specs.Theorems.Lost.{two_not_in_step}
use Rattle.step.specs.declared.arrival.Taken.{Taken}
use Rattle.step.specs.declared.run.Run.{Run}
use Rattle.step.specs.Laws.Arrival.{ran_on}
use Rattle.step.specs.OwnCount.{ends_odd, odd_packet, own_number, right_crc, without_mfi2}
use Rattle.step.specs.Run.{begun_run, breaks_after, ends_packet, further_run, gained_run, h4_run_on, in_step_at, loses, no_run, odd_after, run_on, second_run, stayed_run, with_bits}

place_ended : (kind x : ℕ) → ends_packet kind x ≡ true → place_of kind (tag_after kind x) ≡ 0
unfolding ends_packet
place_ended kind x e = starts_place kind (tag_after kind x) (ends_starts kind x e)

further_on : (kind x : ℕ) → ends_packet kind x ≡ false → place_of kind (tag_after kind x) ≡ suc (place_of kind x)
unfolding ends_packet
further_on kind x e = place_further kind x e

-- A packet all of whose frames count by the own count has its epoch's number.
own_epoch : (kind y : ℕ) (heard : List ℕ) → without_mfi2 kind ≡ false → y % frames kind ≡ 0
    → ((d : ℕ) → suc (suc d) < frames kind * 2 → counts kind (tag_back kind y d) (get_or heard d 0) ≡ true)
    → (fields_of (packet_heard kind (drop (place_of kind y) heard))).epoch ≡ epoch_of kind (tag_back kind y (place_of kind y))
own_epoch kind y heard clock z all =
    ap (λ (f : Fields). f.epoch) (sym (h4_fields kind (packet_heard kind (drop (place_of kind y) heard)) clock))
    ∙ own_counted kind (λ k. get_or (drop (place_of kind y) heard) (frames kind - 1 - k) 0) (epoch_of kind (tag_back kind y (place_of kind y))) (epoch_lt kind (tag_back kind y (place_of kind y))) counted
  where
    counted : (k : ℕ) → k < frames kind
        → counts kind (tag_of kind (first_tag kind (epoch_of kind (tag_back kind y (place_of kind y))) + k)) (get_or (drop (place_of kind y) heard) (frames kind - 1 - k) 0) ≡ true
    counted k l =
        let early = anew_early kind y z in
        rw (← ended_back kind y k l, get_or-drop (place_of kind y) heard (frames kind - 1 - k) 0) (all (place_of kind y + (frames kind - 1 - k)) (omega arith))

-- so it is not odd
own_even : (kind epoch : ℕ) (row : List ℕ) → (fields_of row).epoch ≡ epoch → odd_packet kind epoch row ≡ false
unfolding odd_packet own_number
own_even kind epoch row e = rw (eq-eqb (fields_of row).epoch epoch e) (go (not (without_mfi2 kind) && right_crc kind row))
  where
    go : (b : Bool) → (b && not true) ≡ false
    go true = refl
    go false = refl

-- What a run says of the frames heard.
pub record HeardRun (kind count next breaks odd : ℕ) (heard : List ℕ) : Type 0 where
  -- before the step all but the first two of the run count
  pub gains : in_step_at kind count ≡ false → (d : ℕ) → suc (suc d) < count → counts kind (tag_back kind next d) (get_or heard d 0) ≡ true
  pub breaks_are : in_step_at kind count ≡ true → breaks ≡ broken kind next heard
  pub odd_is : in_step_at kind count ≡ true → flag_of odd ≡ ended_odd kind next heard

abbrev pub HeardBy : ℕ → Run → List ℕ → Type 0
HeardBy kind run heard = HeardRun kind run.count run.next run.breaks run.odd heard

pub heard_short : (kind count next breaks odd : ℕ) (heard : List ℕ) → count ≤ 2 → HeardRun kind count next breaks odd heard
heard_short kind count next breaks odd heard few =
    record {
      gains = λ e d l. absurd (omega arith);
      breaks_are = λ e. absurd (two_not_in_step kind count few e);
      odd_is = λ e. absurd (two_not_in_step kind count few e);
    }

flag_of_lem : (b : Bool) → flag_of (cond b 1 0) ≡ b
flag_of_lem true = refl
flag_of_lem false = refl

module _ (kind : ℕ) (run : Run) (row heard : List ℕ) (h : ℕ) (clock : without_mfi2 kind ≡ false) (k : RunKept kind run) (live : LiveRow kind run.count run.next row heard) (o : HeardBy kind run heard) where
  abbrev odd : Bool
  odd = ends_odd kind row run.next h

  abbrev now : List ℕ
  now = h ∷ heard

  abbrev After : Run → Type 0
  After r = HeardBy kind r (h ∷ heard)

  begun : After (begun_run kind h)
  unfolding begun_run
  begun =
      cond_by After (starts_count kind h) (record { count = 1; next = tag_by_high kind h; breaks = 0; odd = 0; bits = 0 }) no_run
      (λ e. heard_short kind 1 (tag_by_high kind h) 0 0 now (omega arith)) (λ e. heard_short kind 0 0 0 0 now (omega arith))

  second : After (second_run kind run h)
  unfolding second_run
  second =
      cond_by After (carries_low kind h) (record { count = 2; next = tag_by_low kind run.next h; breaks = 0; odd = 0; bits = 0 }) (begun_run kind h)
      (λ e. heard_short kind 2 (tag_by_low kind run.next h) 0 0 now (omega arith)) (λ e. begun)

  latest : counts kind (tag_before kind (tag_after kind run.next)) h ≡ h4_counts run.next h
  latest = ap (λ (t : ℕ). counts kind t h) (before_after kind run.next k.tag) ∙ counts_h4 kind run.next h clock

  module _ (out : in_step_at kind run.count ≡ false) (c : h4_counts run.next h ≡ true) where
    all : (d : ℕ) → suc (suc d) < run.count + 1 → counts kind (tag_back kind (tag_after kind run.next) d) (get_or (h ∷ heard) d 0) ≡ true
    all zero l = latest ∙ c
    all (suc d) l = ap (λ (t : ℕ). counts kind t (get_or heard d 0)) (back_after kind run.next d k.tag) ∙ o.gains out d (omega arith)

    even : 0 < run.count → in_step_at kind (run.count + 1) ≡ true → ended_odd kind (tag_after kind run.next) (h ∷ heard) ≡ false
    unfolding in_step_at
    even some e =
        let y : ℕ = tag_after kind run.next in
        let enough = leb-true (frames kind * 2) (run.count + 1) e in
        let few : run.count < frames kind * 2 = short out in
        let full : run.count + 1 ≡ frames kind * 2 = omega arith in
        let start : y % frames kind ≡ 0 = place_on kind run.next run.count (k.goes some few) ∙ rw full (mul-mod_right (frames kind) 2) in
        own_even kind (epoch_of kind (tag_back kind y (place_of kind y))) (packet_heard kind (drop (place_of kind y) now))
        (own_epoch kind y now clock start (λ d l. all d (omega arith)))
      where
        short : leb (frames kind * 2) run.count ≡ false → run.count < frames kind * 2
        short e =
            ⊎_elim (λ (l : frames kind * 2 ≤ run.count). clash (leb (frames kind * 2) run.count) (le-leb (frames kind * 2) run.count l) e)
            (λ (l : run.count < frames kind * 2). l)
            (le_or_lt (frames kind * 2) run.count)

  further : in_step_at kind run.count ≡ false → 0 < run.count → After (further_run kind run h)
  unfolding further_run
  further out some =
      cond_by After (h4_counts run.next h) (record { count = run.count + 1; next = tag_after kind run.next; breaks = 0; odd = 0; bits = 0 }) (begun_run kind h)
      (λ c.
      record {
        gains = λ e d l. all out c d l;
        breaks_are = λ e. rw (latest, c) refl;
        odd_is = λ e. sym (even out c some e);
      })
      (λ c. begun)

  gained : in_step_at kind run.count ≡ false → After (gained_run kind run h)
  unfolding gained_run
  gained out =
      cond_by After (eqb run.count 0) (begun_run kind h) (cond (eqb run.count 1) (second_run kind run h) (further_run kind run h)) (λ e. begun)
      (λ e.
      let some : 0 < run.count = let z : run.count ≡ 0 → ⊥ = eqb-false run.count 0 e in omega arith in
      cond_by After (eqb run.count 1) (second_run kind run h) (further_run kind run h) (λ f. second) (λ f. further out some))

  module _ (on : in_step_at kind run.count ≡ true) where
    breaks_on : breaks_after (h4_counts run.next h) run.breaks ≡ broken kind (tag_after kind run.next) (h ∷ heard)
    unfolding breaks_after
    breaks_on = rw (latest, before_after kind run.next k.tag, o.breaks_are on) (go (h4_counts run.next h))
      where
        go : (b : Bool) → cond b 0 (broken kind run.next heard + 1) ≡ cond b 0 (suc (broken kind run.next heard))
        go true = refl
        go false = omega arith

    -- the packet that this frame ends
    pub odd_now : ends_packet kind run.next ≡ true → ended_odd kind (tag_after kind run.next) (h ∷ heard) ≡ ends_odd kind row run.next h
    unfolding ends_odd
    odd_now e =
        rw (place_ended kind run.next e, before_after kind run.next k.tag, e, packet_judged kind run.count run.next row heard live on e h) refl

    odd_further : ends_packet kind run.next ≡ false → ended_odd kind (tag_after kind run.next) (h ∷ heard) ≡ ended_odd kind run.next heard
    odd_further e =
        rw (further_on kind run.next e)
        (ap (λ (t : ℕ). odd_packet kind (epoch_of kind t) (packet_heard kind (drop (place_of kind run.next) heard))) (back_after kind run.next (place_of kind run.next) k.tag))

    odd_on : flag_of (odd_after kind run odd) ≡ ended_odd kind (tag_after kind run.next) (h ∷ heard)
    unfolding odd_after
    odd_on =
        cond_by (λ (v : ℕ). flag_of v ≡ ended_odd kind (tag_after kind run.next) now) (ends_packet kind run.next) (cond odd 1 0) run.odd
        (λ e. flag_of_lem odd ∙ sym (odd_now e)) (λ e. o.odd_is on ∙ sym (odd_further e))

    stayed : After (stayed_run kind run odd h)
    unfolding stayed_run
    stayed =
        cond_by After (loses (h4_counts run.next h) run odd) (begun_run kind h)
        (record {
          count = run.count;
          next = tag_after kind run.next;
          breaks = breaks_after (h4_counts run.next h) run.breaks;
          odd = odd_after kind run odd;
          bits = run.bits;
        })
        (λ l. begun) (λ l. record { gains = λ e. clash (in_step_at kind run.count) on e; breaks_are = λ e. breaks_on; odd_is = λ e. odd_on })

  pub heard_on : After (run_on kind run odd h)
  unfolding run_on h4_run_on
  heard_on = rw clock (cond_by After (in_step_at kind run.count) (stayed_run kind run odd h) (gained_run kind run h) (λ e. stayed e) (λ e. gained e))

abbrev pub HeardStep : (kind : ℕ) (s : Step) (heard : List ℕ) → Type 0
HeardStep kind s heard = HeardRun kind s.count s.next s.breaks s.odd heard

-- What a frame that is one to the step record does to it.
pub heard_went : (g : Group) (s : Step) (row heard : List ℕ) (flag : Bool) (h : ℕ) (t : Taken) → without_mfi2 g.kind ≡ false → RunKept g.kind (run_of s)
    → Went g s flag (ends_odd g.kind row s.next h) h t → LiveRow g.kind s.count s.next row heard → HeardStep g.kind s heard → HeardStep g.kind t.step (h ∷ heard)
heard_went g s row heard flag h t clock k w live o =
    subst After (sym w.run)
    (cond_by After flag (with_bits s.bits no_run) (ran_on g s (ends_odd g.kind row s.next h) h) (λ f. heard_short g.kind 0 0 0 0 (h ∷ heard) (omega arith))
    (λ f. heard_on g.kind (run_of s) row heard h clock k live o))
  where
    After : Run → Type 0
    After run = HeardBy g.kind run (h ∷ heard)
