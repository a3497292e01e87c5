-- How far tags lie after an epoch's first frame, and before it, over the kind of packet.
use Rattle.std.specs.Prelude.{◌≡◌, ℕ, ◌+◌, ◌-◌, ◌*◌, ◌/◌, ◌%◌, ◌<◌, ◌≤◌, true, refl}
use Rattle.std.proofs.Common.{◌∙◌, sym, ap, mod-eq_of_lt, mod-lt, eq-eqb, eqb-true}
use Rattle.std.proofs.Math.Nat.{mod-add-mod}
use native.Mathlib.Omega.{arith}
use Rattle.ground.specs.Arcs.{after_none, after_nearer, after_on, arc_on, farther_behind, forth_and_back, nearer_behind, none_after}
use Rattle.ground.specs.Circle.{after, after_leads}
use Rattle.packet.specs.Kinds.{distance_of, epoch_after, epoch_of, first_tag, frames, lead, place_of, starts_epoch, tag_after, tag_before, tags}
use Rattle.packet.specs.Laws.Clock.{by}
use Rattle.packet.specs.Theorems.Tags.{frames_some, tags_some}

pub tag_before_lt : (kind t : ℕ) → tag_before kind t < tags kind
unfolding tag_before
tag_before_lt kind t = mod-lt (t + (tags kind - 1)) (tags_some kind)

pub tag_after_lt : (kind t : ℕ) → tag_after kind t < tags kind
unfolding tag_after
tag_after_lt kind t = mod-lt (t + 1) (tags_some kind)

-- a count that goes with the tags goes on with them
pub place_on : (kind t count : ℕ) → t % frames kind ≡ count % frames kind → tag_after kind t % frames kind ≡ (count + 1) % frames kind
unfolding tag_after
place_on kind t count = by (λ L E N l. t % L ≡ count % L → (t + 1) % N % L ≡ (count + 1) % L) (λ q. omega arith) (λ q. omega arith) kind

-- the place of the tag before the one after
pub place_back : (kind t : ℕ) → place_of kind (tag_before kind (tag_after kind t)) ≡ place_of kind t
unfolding place_of tag_before tag_after
place_back kind t = by (λ L E N l. ((((t + 1) % N + (N - 1)) % N) + l) % L ≡ (t + l) % L) (omega arith) (omega arith) kind

-- Any two tags.

pub distance_same : (kind a : ℕ) → distance_of kind a a ≡ 0
unfolding distance_of
distance_same kind a = none_after (tags kind) a a (tags_some kind) refl

pub distance_none : (kind a b : ℕ) → a < tags kind → b < tags kind → distance_of kind a b ≡ 0 → a ≡ b
unfolding distance_of
distance_none kind a b ha hb e = sym (mod-eq_of_lt ha) ∙ sym (after_none (tags kind) a b (tags_some kind) e) ∙ mod-eq_of_lt hb

-- going on from b by so many frames leads to t
pub distance_leads : (kind t b : ℕ) → t < tags kind → (b + distance_of kind t b) % tags kind ≡ t
unfolding distance_of
distance_leads kind t b h = after_leads (tags kind) t b (tags_some kind) ∙ mod-eq_of_lt h

-- the tag after t lies one further on
pub distance_on : (kind t b : ℕ) → distance_of kind t b + 1 < tags kind → distance_of kind (tag_after kind t) b ≡ distance_of kind t b + 1
unfolding distance_of tag_after
distance_on kind t b h = after_on (tags kind) t b 1 h

-- and a tag ahead one frame nearer
pub ahead_nearer : (kind b t : ℕ) → 0 < distance_of kind b t → distance_of kind b (tag_after kind t) + 1 ≡ distance_of kind b t
unfolding distance_of tag_after
ahead_nearer kind b t h = after_nearer (tags kind) b t 1 (tags_some kind) h

-- two distances, forth and back, of less than half a round each, are none
pub no_distance : (kind t b W : ℕ) → W + W ≤ tags kind → distance_of kind t b < W → distance_of kind b t < W → distance_of kind t b ≡ 0
unfolding distance_of
no_distance kind t b W w forth back = forth_and_back (tags kind) t b W (tags_some kind) w forth back

-- Of two tags less than half a round behind a third: the one nearer to it lies less than half a round after the other, and the other does not after that one.
module _ (kind far a t : ℕ) (near-a : distance_of kind far a < tags kind / 2) (near-t : distance_of kind far t < tags kind / 2) where
  pub nearer_after : distance_of kind far t ≤ distance_of kind far a → distance_of kind t a < tags kind / 2
  unfolding distance_of
  nearer_after h =
      let e : distance_of kind t a ≡ distance_of kind far a - distance_of kind far t = nearer_behind (tags kind) far a t (tags_some kind) h in
      omega arith

  pub farther_not_after : distance_of kind far a < distance_of kind far t → tags kind / 2 ≤ distance_of kind t a
  unfolding distance_of
  farther_not_after h =
      let e : distance_of kind t a ≡ tags kind - (distance_of kind far t - distance_of kind far a) = farther_behind (tags kind) far a t (tags_some kind) h in
      omega arith

-- From an epoch's first frame.

-- a tag that starts an epoch lies a number of epochs after it
pub start_multiple : (kind e t : ℕ) → starts_epoch kind t ≡ true → distance_of kind t (first_tag kind e) % frames kind ≡ 0
unfolding distance_of after first_tag starts_epoch place_of
start_multiple kind e t s =
    by (λ L E N l. (t + l) % L ≡ 0 → (t + (N - (e * L + (N - l)) % N % N)) % N % L ≡ 0) (λ z. omega arith) (λ z. omega arith) kind
    (eqb-true ((t + lead kind) % frames kind) 0 s)

-- any tag lies as far after it as its place says, but for whole epochs
pub place_after : (kind e t : ℕ) → distance_of kind t (first_tag kind e) % frames kind ≡ place_of kind t % frames kind
unfolding distance_of after first_tag place_of
place_after kind e t = by (λ L E N l. (t + (N - (e * L + (N - l)) % N % N)) % N % L ≡ (t + l) % L % L) (omega arith) (omega arith) kind

-- no distance back: the tag is that of the first frame itself
pub at_start_lem : (kind e t : ℕ) → distance_of kind (first_tag kind e) t ≡ 0 → (starts_epoch kind t ≡ true) × (distance_of kind t (first_tag kind e) ≡ 0)
unfolding distance_of first_tag starts_epoch place_of
at_start_lem kind e t z =
    let same : t % tags kind ≡ (e * frames kind + (tags kind - lead kind)) % tags kind % tags kind = after_none (tags kind) (first_tag kind e) t (tags_some kind) z in (
      eq-eqb ((t + lead kind) % frames kind) 0
          (by (λ L E N l. t % N ≡ (e * L + (N - l)) % N % N → (t + l) % L ≡ 0) (λ q. omega arith) (λ q. omega arith) kind same),
      none_after (tags kind) t (first_tag kind e) (tags_some kind) (sym same),
    )

-- the next epoch's first tag
pub next_first : (kind e : ℕ) → first_tag kind (epoch_after kind e) ≡ (first_tag kind e + frames kind) % tags kind
unfolding first_tag epoch_after
next_first kind e = by (λ L E N l. ((e + 1) % E * L + (N - l)) % N ≡ ((e * L + (N - l)) % N + L) % N) (omega arith) (omega arith) kind

-- As the window passes an epoch, each tag that lies an epoch or more after its first frame comes nearer by an epoch's frames.
pub distance_nearer : (kind e t : ℕ) → frames kind ≤ distance_of kind t (first_tag kind e)
    → distance_of kind t (first_tag kind (epoch_after kind e)) + frames kind ≡ distance_of kind t (first_tag kind e)
unfolding distance_of
distance_nearer kind e t h = rw (next_first kind e) (after_nearer (tags kind) t (first_tag kind e) (frames kind) (tags_some kind) h)

-- and the frame that lies d after the new first frame lay d and an epoch's frames after the old one
pub first_on : (kind e d : ℕ) → (first_tag kind (epoch_after kind e) + d) % tags kind ≡ (first_tag kind e + (d + frames kind)) % tags kind
first_on kind e d =
    let sum : first_tag kind e + frames kind + d ≡ first_tag kind e + (d + frames kind) = omega arith in
    rw (next_first kind e) (mod-add-mod (first_tag kind e + frames kind) (tags kind) d ∙ ap (λ (n : ℕ). n % tags kind) sum)

-- The next epoch to start after the foremost tag starts less than W frames after the tag to come of each port that lies at most W less an epoch's frames behind.

-- it starts that much after the foremost tag which its place in its epoch leaves
next_start : (kind f : ℕ) → first_tag kind (epoch_after kind (epoch_of kind f)) ≡ (f + (frames kind - place_of kind f)) % tags kind
unfolding first_tag epoch_after epoch_of place_of
next_start kind f =
    by (λ L E N l. (((f + l) % N / L + 1) % E * L + (N - l)) % N ≡ (f + (L - (f + l) % L)) % N) (omega arith) (omega arith) kind

pub place_below : (kind f : ℕ) → place_of kind f < frames kind
unfolding place_of
place_below kind f = mod-lt (f + lead kind) (frames_some kind)

pub arc_short : (kind fore next W : ℕ) → W + W ≤ tags kind → distance_of kind fore (tag_before kind next) + frames kind ≤ W
    → distance_of kind (first_tag kind (epoch_after kind (epoch_of kind fore))) next < W
unfolding distance_of tag_before
arc_short kind fore next W w h =
    let r : ℕ = frames kind - place_of kind fore in
    let place = place_below kind fore in
    let some = tags_some kind in
    let on = arc_on (tags kind) fore next r (omega arith) (omega arith) in
    rw (next_start kind fore) (omega arith)
