-- What a steady frame does, of a kind with H4's step rule.
use Rattle.std.specs.Prelude.{◌≡◌, Bool, true, false, not, ◌&&◌, List, eqb, ltb}
use Rattle.std.proofs.Math.Path.{refl, ap}
use Rattle.std.proofs.Common.{◌∙◌, sym, eqb-true}
use Prim.Native.Nat.{ℕ}
use Rattle.std.proofs.lemmas.Bool.{not-true}
use Rattle.ground.specs.Truth.{and_left, and_right}
use Rattle.packet.specs.Counts.{h4_counts}
use Rattle.packet.specs.Kinds.{ends_epoch, epochs_in, place_of, tag_after, vc12_kind}
use Rattle.packet.specs.Laws.Distances.{place_after}
use Rattle.packet.specs.Laws.Epochs.{ends_alike}
use Rattle.rows.specs.Step.{with_next}
use Rattle.rows.specs.declared.group.Group.{Group}
use Rattle.rows.specs.declared.step.Step.{Step}
use Rattle.step.specs.Arrival.{advanced, distance_in, flag_of, in_step, keeps, run_of, taken_of}
use Rattle.step.specs.Laws.Arrival.{ran_on, stepped, taken_keeps}
use Rattle.step.specs.Laws.H4Run.{run_on_lem}
use Rattle.step.specs.OwnCount.{ends_odd}
use Rattle.step.specs.Run.{ends_packet, odd_after, with_bits}
use Rattle.step.specs.Steady.{mid_epoch, steady, steady_taken}
use Rattle.step.specs.Theorems.Run.{on_h4}

quiet : (a b c : Bool) → b ≡ false → (a && b && c) ≡ false
quiet true b c e = rw e
quiet false b c e = refl

module _ (g : Group) (s : Step) (odd : Bool) (h : ℕ) (had : s.heard ≡ 1) (failed : s.failed ≡ 0) (unbroken : s.breaks ≡ 0) (stands : in_step g s ≡ true) (sent : h4_counts s.next h ≡ true)
    (even : odd ≡ false) (mid : ends_packet g.kind s.next ≡ false) (clock : eqb g.kind vc12_kind ≡ false) where
  ran : ran_on g s odd h ≡ record { count = s.count; next = tag_after g.kind s.next; breaks = 0; odd = s.odd; bits = s.bits }
  unfolding in_step odd_after
  ran = on_h4 g.kind (run_of s) odd h clock ∙ ap (with_bits s.bits) (run_on_lem g.kind (run_of s) odd h stands sent even) ∙ rw mid refl

  steps : stepped g s odd h ≡ true
  unfolding in_step
  steps = rw ran stands

  only_next : advanced s (ran_on g s odd h) ≡ with_next s (tag_after g.kind s.next)
  unfolding with_next
  only_next = rw (ran, had, failed, unbroken) refl

  only_kept : ends_epoch g.kind (distance_in g s.next) ≡ false → keeps g s (ran_on g s odd h) (distance_in g s.next) ≡ steady_taken g s
  unfolding keeps steady_taken
  only_kept e =
      let d : ℕ = distance_in g s.next in
      rw (quiet (not (flag_of g.gathered)) (ends_epoch g.kind d) (eqb (epochs_in g.kind d) 0) e, only_next) refl

pub mid_epoch_goes_on : (g : Group) (d : ℕ) → mid_epoch g d ≡ true → ends_epoch g.kind d ≡ false
unfolding mid_epoch
mid_epoch_goes_on g d w = not-true (ends_epoch g.kind d) (and_right (ltb d g.window) (not (ends_epoch g.kind d)) w)

mid_epoch_inside : (g : Group) (d : ℕ) → mid_epoch g d ≡ true → ltb d g.window ≡ true
unfolding mid_epoch
mid_epoch_inside g d w = and_left (ltb d g.window) (not (ends_epoch g.kind d)) w

mid_packet : (g : Group) (s : Step) → mid_epoch g (distance_in g s.next) ≡ true → ends_packet g.kind s.next ≡ false
unfolding ends_packet distance_in
mid_packet g s w =
    ends_alike g.kind (place_of g.kind s.next) (distance_in g s.next) (sym (place_after g.kind g.oldest s.next)) ∙ mid_epoch_goes_on g (distance_in g s.next) w

-- in mid-epoch no packet ends
pub mid_even : (g : Group) (s : Step) (row : List ℕ) (h : ℕ) → mid_epoch g (distance_in g s.next) ≡ true → ends_odd g.kind row s.next h ≡ false
unfolding ends_odd
mid_even g s row h w = rw (mid_packet g s w) refl

pub steady_taken_lem : (g : Group) (s : Step) (flag odd : Bool) (h : ℕ) → eqb g.kind vc12_kind ≡ false → steady g s flag h ≡ true → mid_epoch g (distance_in g s.next) ≡ true → odd ≡ false → taken_of g s flag odd h ≡ steady_taken g s
unfolding steady
steady_taken_lem g s flag odd h clock t w even =
    let d : ℕ = distance_in g s.next in
    let b1 : Bool = not flag in
    let b2 : Bool = b1 && eqb s.heard 1 in
    let b3 : Bool = b2 && eqb s.failed 0 in
    let b4 : Bool = b3 && eqb s.breaks 0 in
    let b5 : Bool = b4 && in_step g s in
    let b6 : Bool = b5 && h4_counts s.next h in
    let b7 : Bool = b6 && flag_of g.begun in
    let t7 : b7 ≡ true = and_left b7 (flag_of s.joined) t in
    let t6 : b6 ≡ true = and_left b6 (flag_of g.begun) t7 in
    let t5 : b5 ≡ true = and_left b5 (h4_counts s.next h) t6 in
    let t4 : b4 ≡ true = and_left b4 (in_step g s) t5 in
    let t3 : b3 ≡ true = and_left b3 (eqb s.breaks 0) t4 in
    let t2 : b2 ≡ true = and_left b2 (eqb s.failed 0) t3 in
    let had : s.heard ≡ 1 = eqb-true s.heard 1 (and_right b1 (eqb s.heard 1) t2) in
    let failed : s.failed ≡ 0 = eqb-true s.failed 0 (and_right b2 (eqb s.failed 0) t3) in
    let unbroken : s.breaks ≡ 0 = eqb-true s.breaks 0 (and_right b3 (eqb s.breaks 0) t4) in
    let stands : in_step g s ≡ true = and_right b4 (in_step g s) t5 in
    let sent : h4_counts s.next h ≡ true = and_right b5 (h4_counts s.next h) t6 in
    let mid : ends_packet g.kind s.next ≡ false = mid_packet g s w in
    taken_keeps g s flag odd h (not-true flag (and_left b1 (eqb s.heard 1) t2)) (steps g s odd h had failed unbroken stands sent even mid clock)
    (and_right b6 (flag_of g.begun) t7) (and_right b7 (flag_of s.joined) t) (mid_epoch_inside g d w)
    ∙ only_kept g s odd h had failed unbroken stands sent even mid clock (mid_epoch_goes_on g d w)
