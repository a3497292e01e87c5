-- What a group's sizes say (01, 'Numbers that bound the work').
use Rattle.std.specs.Prelude.{◌≡◌, refl, Bool, true, false, cond, ◌&&◌, List, ℕ, ◌*◌, ◌/◌, ◌≤◌, ◌<◌, leb}
use Rattle.std.proofs.Common.{⊎_elim, arith, le-ltb, leb-true, lt-ltb}
use Rattle.ground.specs.Truth.{and_left, and_right, le_or_lt}
use Rattle.judge.specs.Seen.{size_of}
use Rattle.packet.specs.Kinds.{frames, payload_right, tags}
use Rattle.packet.specs.Theorems.Tags.{frames_some}
use Rattle.payload.specs.Answers.{PAYLOAD-MOST}
use Rattle.phases.specs.Sizes.{known_kind, ports_in, sized, start_sized}
use Rattle.receiver.specs.Starting.{start_right, times_within}
use Rattle.rows.specs.declared.group.Group.{Group}

pub record Sizes (kind count P W : ℕ) : Type 0 where
  pub known : known_kind kind ≡ true
  pub some_ports : 1 ≤ count
  pub few_ports : count ≤ 64
  pub some_bytes : 1 ≤ P
  pub few_bytes : P ≤ PAYLOAD-MOST
  pub wide : frames kind ≤ W
  pub narrow : W ≤ tags kind / 2
  pub round : W * 2 ≤ tags kind

half_round : (kind W : ℕ) → W ≤ tags kind / 2 → W * 2 ≤ tags kind
half_round kind W h = omega arith

pub sizes_of : (kind count P W : ℕ) → sized kind count P W ≡ true → Sizes kind count P W
unfolding sized
sizes_of kind count P W e =
    let k : Bool = known_kind kind in
    let a : Bool = leb 1 count in
    let b : Bool = leb count 64 in
    let c : Bool = leb 1 P in
    let d : Bool = leb P PAYLOAD-MOST in
    let f : Bool = leb (frames kind) W in
    let g : Bool = leb W (tags kind / 2) in
    let e6 = and_left (k && a && b && c && d && f) g e in
    let e5 = and_left (k && a && b && c && d) f e6 in
    let e4 = and_left (k && a && b && c) d e5 in
    let e3 = and_left (k && a && b) c e4 in
    let e2 = and_left (k && a) b e3 in
    let narrow : W ≤ tags kind / 2 = leb-true W (tags kind / 2) (and_right (k && a && b && c && d && f) g e) in
    record {
      known = and_left k a e2;
      some_ports = leb-true 1 count (and_right k a e2);
      few_ports = leb-true count 64 (and_right (k && a) b e3);
      some_bytes = leb-true 1 P (and_right (k && a && b) c e4);
      few_bytes = leb-true P PAYLOAD-MOST (and_right (k && a && b && c) d e5);
      wide = leb-true (frames kind) W (and_right (k && a && b && c && d) f e6);
      narrow = narrow;
      round = half_round kind W narrow;
    }

-- a window has frames
pub window_some : (kind count P W : ℕ) → Sizes kind count P W → 0 < W
window_some kind count P W z = let w = z.wide in let n = frames_some kind in omega arith

-- a group within its sizes has its count of ports
pub ports_are : (g : Group) → sized g.kind g.count g.payload g.window ≡ true → ports_in g ≡ g.count
unfolding ports_in
ports_are g e = rw e refl

-- a group that has ports is within its sizes
pub some_sized : (g : Group) → 0 < ports_in g → (sized g.kind g.count g.payload g.window ≡ true) × (ports_in g ≡ g.count)
unfolding ports_in
some_sized g h = go (sized g.kind g.count g.payload g.window) refl h
  where
    go : (b : Bool) → sized g.kind g.count g.payload g.window ≡ b → 0 < cond b g.count 0
        → (sized g.kind g.count g.payload g.window ≡ true) × (cond b g.count 0 ≡ g.count)
    go true e l = (e, refl)
    go false e l = absurd (omega arith)

-- of 64 ports at most
pub size_is : (n : ℕ) → n ≤ 64 → size_of n ≡ n
size_is n h = ⊎_elim (λ (g : 64 ≤ n). rw (le-ltb n 64 g) (omega arith)) (λ (g : n < 64). rw (lt-ltb n 64 g) refl) (le_or_lt 64 n)

-- those of a group that a start takes, and that a start asks for them
pub start_sized_lem : (kind count P W : ℕ) → start_sized kind count P W ≡ true → sized kind count P W ≡ true
unfolding start_sized
start_sized_lem kind count P W e = and_left (sized kind count P W) (payload_right kind P) e

pub start_sizes_of : (kind count P W : ℕ) → start_sized kind count P W ≡ true → Sizes kind count P W
start_sizes_of kind count P W e = sizes_of kind count P W (start_sized_lem kind count P W e)

pub right_sized : (kind count P W : ℕ) (hold restore : List ℕ) → start_right kind count P W hold restore ≡ true → start_sized kind count P W ≡ true
unfolding start_right
right_sized kind count P W hold restore e = and_right (times_within hold && times_within restore) (start_sized kind count P W) e
