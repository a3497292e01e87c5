-- What a frame leaves, by what the parts of the code leave.
use mathlib.Core.Path.{◌≡◌, refl, sym, subst, ap, ◌∙◌}
use mathlib.Core.Bool.{Bool, true, false, cond, ◌&&◌, ◌||◌, true≢false}
use mathlib.Core.List.{List, [], ◌∷◌}
use Prim.Native.Nat.{ℕ, ◌+◌, ◌*◌}
use lib.Dec.{eqb}
use lib.ListN.{get_or, replicate, set}
use lib.Seq.{set-get_or}
use Rattle.packet.specs.Kinds.{ends_epoch, epochs_in, place_of, tag_after, vc12_kind}
use Rattle.packet.specs.Laws.Distances.{place_back}
use Rattle.packet.specs.Symbols.{entry_at, entry_with}
use Rattle.packet.specs.Theorems.Symbols.{with_parts}
use Rattle.receiver.specs.Frame.{decided_frame, gathered_by, marks_by, own_tag, port_rows, settled_by, steady_rows, store_by, taken_frame}
use Rattle.rows.specs.declared.group.Group.{Group}
use Rattle.rows.specs.declared.step.Step.{Step}
use Rattle.rows.specs.Group.{group_at}
use Rattle.rows.specs.Laws.Port.{port_put_part}
use Rattle.rows.specs.Packets.{marks_at, packets_at, put_marks, put_packets, entry_in, with_entry}
use Rattle.rows.specs.Part.{ThePackets, TheStep}
use Rattle.rows.specs.Port.{Port, port_at}
use Rattle.rows.specs.Rows.{put_row, row_in}
use Rattle.rows.specs.Step.{put_step, step_at, with_next}
use Rattle.step.specs.Theorems.Steady.{mid_epoch_goes_on, mid_even, steady_taken_lem}
use Rattle.step.specs.declared.arrival.Taken.{Taken}
use Rattle.step.specs.Arrival.{distance_in, flagged, taken_of, is_kept, kept_at}
use Rattle.step.specs.OwnCount.{ends_odd}
use Rattle.step.specs.Steady.{mid_epoch, steady, steady_taken}
use Rattle.store.specs.Frames.{place_in, stored_at}
use Rattle.store.specs.Marks.{cut_from, marked_at}

module _ (s : List (List ℕ)) (i : ℕ) where
  pub packets_after_step : (q : Step) → packets_at (put_step s i q) i ≡ packets_at s i
  unfolding port_at packets_at
  packets_after_step q = ap (λ (p : Port). p.gathering ∷ p.ruling ∷ []) (port_put_part s i (TheStep q))

  marks_after_step : (q : Step) → marks_at (put_step s i q) i ≡ marks_at s i
  unfolding port_at
  marks_after_step q = ap (λ (p : Port). p.marks) (port_put_part s i (TheStep q))

  marks_after_packets : (pair : List (List ℕ)) → marks_at (put_packets s i pair) i ≡ marks_at s i
  unfolding port_at
  marks_after_packets pair = ap (λ (p : Port). p.marks) (port_put_part s i (ThePackets pair))

-- What is put back as it was changes nothing.
module _ (s : List (List ℕ)) (i : ℕ) where
  pub same_marks : (rows : List (List ℕ)) → marks_at rows i ≡ marks_at s i → put_marks rows i (marks_at s i) ≡ rows
  unfolding put_marks put_row marks_at row_in
  same_marks rows e = rw (← e) (set-get_or rows (i * 5 + 5) (replicate 16 0))

  pub same_packets : s ≡ put_packets s i (packets_at s i)
  unfolding put_packets put_row packets_at row_in
  same_packets = sym (rw (set-get_or s (i * 5 + 3) (replicate 16 0)) (set-get_or s (i * 5 + 4) (replicate 16 0)))

-- Gathering: a symbol put by its entry; a frame that is not counted leaves the packets.
pub symbol_put : (kind : ℕ) (s : List (List ℕ)) (i tag h place at old entry : ℕ) (rows : List (List ℕ)) → place ≡ place_of kind tag → at ≡ entry_at kind place
    → old ≡ entry_in (packets_at s i) at → entry ≡ entry_with kind old place h → rows ≡ put_packets s i (with_entry (packets_at s i) at entry)
    → rows ≡ put_packets s i (gathered_by kind (packets_at s i) true tag h)
unfolding gathered_by with_entry entry_in
symbol_put kind s i tag h place at old entry rows ep ea eo en er =
    er ∙ ap (λ (row : List ℕ). put_packets s i (set (packets_at s i) 0 row)) (with_parts kind (get_or (packets_at s i) 0 []) place h at old entry ea eo en) ∙ rw ep refl

pub gather_none : (kind : ℕ) (s : List (List ℕ)) (i : ℕ) (counted : Bool) (tag h : ℕ) → counted ≡ false → s ≡ put_packets s i (gathered_by kind (packets_at s i) counted tag h)
unfolding gathered_by
gather_none kind s i counted tag h e = rw e (same_packets s i)

-- Marking: a frame that neither joins nor ends an epoch leaves the marks.
marks_stay : (kind : ℕ) (row : List ℕ) (t : Taken) → (t.joins || (is_kept t) && ends_epoch kind (kept_at t)) ≡ false → marks_by kind row t ≡ row
unfolding marks_by
marks_stay kind row t e = go t.joins (is_kept t) (ends_epoch kind (kept_at t)) e
  where
    go : (a b c : Bool) → (a || b && c) ≡ false → cond a (cut_from row t.step.joined_at) (cond b (cond c (marked_at row (epochs_in kind (kept_at t))) row) row) ≡ row
    go true b c e = absurd (true≢false e)
    go false true true e = absurd (true≢false e)
    go false true false e = refl
    go false false c e = refl

pub mark_none : (kind : ℕ) (s : List (List ℕ)) (i : ℕ) (t : Taken) (ends : Bool) → ends ≡ ends_epoch kind (kept_at t) → (t.joins || (is_kept t) && ends) ≡ false
    → s ≡ put_marks s i (marks_by kind (marks_at s i) t)
mark_none kind s i t ends ee e = rw (marks_stay kind (marks_at s i) t (rw (← ee) e)) (sym (same_marks s i s refl))

pub port_rows_lem : (kind : ℕ) (s : List (List ℕ)) (i : ℕ) (t : Taken) (h : ℕ) (tag : ℕ) (stepped gathered marked : List (List ℕ)) → tag ≡ own_tag kind t
    → stepped ≡ put_step s i t.step → gathered ≡ put_packets stepped i (gathered_by kind (packets_at stepped i) t.counted tag h)
    → marked ≡ put_marks gathered i (marks_by kind (marks_at gathered i) t) → marked ≡ port_rows kind s i t h
unfolding port_rows
port_rows_lem kind s i t h tag stepped gathered marked e0 e1 e2 e3 =
    let p : packets_at stepped i ≡ packets_at s i = rw e1 (packets_after_step s i t.step) in
    let same : marks_at stepped i ≡ marks_at s i = rw e1 (marks_after_step s i t.step) in
    let m : marks_at gathered i ≡ marks_at s i = rw e2 (marks_after_packets stepped i (gathered_by kind (packets_at stepped i) t.counted tag h) ∙ same) in
    e3 ∙ rw (m, e2, p, e1, e0) refl

-- A flagged frame: packets and marks are put back as they were.
pub flagged_step_lem : (kind : ℕ) (s : List (List ℕ)) (i : ℕ) (g : Group) (q : Step) → port_rows kind s i (taken_of g q true false 0) 0 ≡ put_step s i (taken_of g q true false 0).step
unfolding port_rows taken_of flagged gathered_by marks_by
flagged_step_lem kind s i g q =
    let now : Step = (taken_of g q true false 0).step in
    let stepped : List (List ℕ) = put_step s i now in
    same_marks s i (put_packets stepped i (packets_at s i)) (marks_after_packets stepped i (packets_at s i) ∙ marks_after_step s i now)
    ∙ ap (λ (pair : List (List ℕ)). put_packets stepped i pair) (sym (packets_after_step s i now))
    ∙ sym (same_packets stepped i)

-- A steady frame in mid-epoch: the marks are put back as they were.
module _ (s : List (List ℕ)) (i h : ℕ) (g : Group) where
  steady_marks : marks_at (steady_rows g.kind (step_at s i).next h i s) i ≡ marks_at s i
  unfolding steady_rows
  steady_marks =
      let low : List (List ℕ) = put_step s i (with_next (step_at s i) (tag_after g.kind (step_at s i).next)) in
      marks_after_packets low i (gathered_by g.kind (packets_at s i) true (step_at s i).next h)
      ∙ marks_after_step s i (with_next (step_at s i) (tag_after g.kind (step_at s i).next))

  steady_parts : ends_epoch g.kind (distance_in g (step_at s i).next) ≡ false
      → port_rows g.kind s i (steady_taken g (step_at s i)) h ≡ put_marks (steady_rows g.kind (step_at s i).next h i s) i (marks_at s i)
  unfolding port_rows steady_taken marks_by gathered_by with_next steady_rows
  steady_parts e = rw (e, place_back g.kind (step_at s i).next) refl

  pub steady_rows_lem : mid_epoch g (distance_in g (step_at s i).next) ≡ true → port_rows g.kind s i (steady_taken g (step_at s i)) h ≡ steady_rows g.kind (step_at s i).next h i s
  steady_rows_lem w = steady_parts (mid_epoch_goes_on g (distance_in g (step_at s i).next) w) ∙ same_marks s i (steady_rows g.kind (step_at s i).next h i s) steady_marks

module _ (s : List (List ℕ)) (i : ℕ) (failed : Bool) (h : ℕ) (payload store : List ℕ) (g : Group) (eg : g ≡ group_at s) where
  steady_arrives : (rows : List (List ℕ)) (kept : List ℕ) → eqb g.kind vc12_kind ≡ false → steady g (step_at s i) failed h ≡ true → mid_epoch g (distance_in g (step_at s i).next) ≡ true
      → rows ≡ steady_rows g.kind (step_at s i).next h i s → kept ≡ stored_at store (place_in g i (distance_in g (step_at s i).next)) payload h
      → (0 ≡ (decided_frame s i failed h payload store).answer)
      × (rows ≡ (decided_frame s i failed h payload store).rows)
      × (kept ≡ (decided_frame s i failed h payload store).store)
  unfolding taken_frame store_by settled_by steady_taken
  steady_arrives rows kept clock st w er ek =
      rw (← eg, steady_taken_lem g (step_at s i) failed (ends_odd g.kind (get_or (packets_at s i) 0 []) (step_at s i).next h) h clock st w (mid_even g (step_at s i) (get_or (packets_at s i) 0 []) h w))
      (refl, er ∙ sym (steady_rows_lem s i h g w), ek)

  pub arrive_steady : (step : Step) (at : ℕ) (rows : List (List ℕ)) (kept : List ℕ) → eqb g.kind vc12_kind ≡ false → step ≡ step_at s i → steady g step failed h ≡ true → at ≡ distance_in g step.next → mid_epoch g at ≡ true
      → rows ≡ steady_rows g.kind step.next h i s → kept ≡ stored_at store (place_in g i at) payload h
      → (0 ≡ (decided_frame s i failed h payload store).answer)
      × (rows ≡ (decided_frame s i failed h payload store).rows)
      × (kept ≡ (decided_frame s i failed h payload store).store)
  arrive_steady step at rows kept clock es st ea w er ek =
      steady_arrives rows kept clock (subst (λ q. steady g q failed h ≡ true) es st) (subst (λ q. mid_epoch g (distance_in g q.next) ≡ true) es (subst (λ d. mid_epoch g d ≡ true) ea w))
      (subst (λ q. rows ≡ steady_rows g.kind q.next h i s) es er)
      (subst (λ q. kept ≡ stored_at store (place_in g i (distance_in g q.next)) payload h) es (subst (λ d. kept ≡ stored_at store (place_in g i d) payload h) ea ek))
