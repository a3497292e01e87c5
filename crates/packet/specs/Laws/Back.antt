-- Tags counted back, over the kind of packet: of the frames that came before a tag, their places, and the packet of the last epoch that ended.
use Rattle.std.specs.Prelude.{◌≡◌, ℕ, zero, suc, ◌+◌, ◌-◌, ◌*◌, ◌/◌, ◌%◌, ◌<◌, true, false, ◌≢◌, refl}
use Rattle.std.proofs.Common.{ap, arith, eq-eqb, eqb-true}
use Rattle.std.proofs.lemmas.Bool.{eqb-false}
use Rattle.packet.specs.Kinds.{ends_epoch, epoch_of, first_tag, frames, lead, place_of, starts_epoch, tag_after, tag_back, tag_before, tag_of, tags}
use Rattle.packet.specs.Laws.Clock.{by}
use Rattle.packet.specs.Laws.Distances.{tag_before_lt}

-- The tag after one.

pub before_after : (kind t : ℕ) → t < tags kind → tag_before kind (tag_after kind t) ≡ t
unfolding tag_before tag_after
before_after kind t = by (λ L E N l. t < N → ((t + 1) % N + (N - 1)) % N ≡ t) (λ b. omega arith) (λ b. omega arith) kind

pub after_mod : (kind t : ℕ) → tag_after kind t % frames kind ≡ (t + 1) % frames kind
unfolding tag_after
after_mod kind t = by (λ L E N l. (t + 1) % N % L ≡ (t + 1) % L) (omega arith) (omega arith) kind

pub starts_place : (kind t : ℕ) → starts_epoch kind t ≡ true → place_of kind t ≡ 0
unfolding starts_epoch
starts_place kind t e = eqb-true (place_of kind t) 0 e

-- after the last frame of an epoch it starts the next one, after any other it is at the next place
pub ends_starts : (kind t : ℕ) → ends_epoch kind (place_of kind t) ≡ true → starts_epoch kind (tag_after kind t) ≡ true
unfolding ends_epoch starts_epoch place_of tag_after
ends_starts kind t e =
    eq-eqb ((tag_after kind t + lead kind) % frames kind) 0
    (by (λ L E N l. (t + l) % L % L ≡ L - 1 → ((t + 1) % N + l) % L ≡ 0) (λ q. omega arith) (λ q. omega arith) kind
    (eqb-true ((t + lead kind) % frames kind % frames kind) (frames kind - 1) e))

pub place_further : (kind t : ℕ) → ends_epoch kind (place_of kind t) ≡ false → place_of kind (tag_after kind t) ≡ suc (place_of kind t)
unfolding ends_epoch place_of tag_after
place_further kind t e =
    by (λ L E N l. ((t + l) % L % L ≢ L - 1) → ((t + 1) % N + l) % L ≡ suc ((t + l) % L)) (λ q. omega arith) (λ q. omega arith) kind
    (eqb-false ((t + lead kind) % frames kind % frames kind) (frames kind - 1) e)

-- as the count starts anew, the epoch is at neither of its last two frames
pub anew_early : (kind t : ℕ) → t % frames kind ≡ 0 → place_of kind t + 1 < frames kind
unfolding place_of
anew_early kind t = by (λ L E N l. t % L ≡ 0 → (t + l) % L + 1 < L) (λ z. omega arith) (λ z. omega arith) kind

-- The tags before one.

pub back_lt : (kind t d : ℕ) → tag_back kind t d < tags kind
back_lt kind t zero = tag_before_lt kind t
back_lt kind t (suc d) = tag_before_lt kind (tag_back kind t d)

pub back_after : (kind t d : ℕ) → t < tags kind → tag_back kind (tag_after kind t) (suc d) ≡ tag_back kind t d
back_after kind t zero b = ap (tag_before kind) (before_after kind t b)
back_after kind t (suc d) b = ap (tag_before kind) (back_after kind t d b)

one_on : (kind t : ℕ) → (tag_before kind t + 1) % tags kind ≡ t % tags kind
unfolding tag_before
one_on kind t = by (λ L E N l. ((t + (N - 1)) % N + 1) % N ≡ t % N) (omega arith) (omega arith) kind

one_back : (kind a u t d : ℕ) → (a + 1) % tags kind ≡ u % tags kind → (u + (d + 1)) % tags kind ≡ t % tags kind → (a + (suc d + 1)) % tags kind ≡ t % tags kind
one_back kind a u t d =
    by (λ L E N l. (a + 1) % N ≡ u % N → (u + (d + 1)) % N ≡ t % N → (a + (suc d + 1)) % N ≡ t % N) (λ e f. omega arith) (λ e f. omega arith) kind

-- going on from it by as many frames leads to the tag
back_sum : (kind t d : ℕ) → (tag_back kind t d + (d + 1)) % tags kind ≡ t % tags kind
back_sum kind t zero = one_on kind t
back_sum kind t (suc d) = let rest = back_sum kind t d in one_back kind (tag_back kind t (suc d)) (tag_back kind t d) t d (one_on kind (tag_back kind t d)) rest

back_frames : (kind t d : ℕ) → (tag_back kind t d + (d + 1)) % frames kind ≡ t % frames kind
back_frames kind t d =
    let sum : ℕ = tag_back kind t d + (d + 1) in
    by (λ L E N l. sum % N ≡ t % N → sum % L ≡ t % L) (λ e. omega arith) (λ e. omega arith) kind (back_sum kind t d)

-- with a frame more, every frame is one further back, at its place as before
pub place_stays : (kind t u d : ℕ) → u % frames kind ≡ (t + 1) % frames kind → place_of kind (tag_back kind u (suc d)) ≡ place_of kind (tag_back kind t d)
unfolding place_of
place_stays kind t u d e =
    let a : ℕ = tag_back kind u (suc d) in
    let b : ℕ = tag_back kind t d in
    by (λ L E N l. (a + (suc d + 1)) % L ≡ u % L → (b + (d + 1)) % L ≡ t % L → u % L ≡ (t + 1) % L → (a + l) % L ≡ (b + l) % L) (λ p q r. omega arith) (λ p q r. omega arith) kind
    (back_frames kind u (suc d)) (back_frames kind t d) e

-- and the latest is at another
pub place_apart : (kind t d : ℕ) → suc d < frames kind → place_of kind (tag_back kind t (suc d)) ≢ place_of kind (tag_before kind t)
unfolding place_of
place_apart kind t d m =
    let a : ℕ = tag_back kind t (suc d) in
    let b : ℕ = tag_before kind t in
    by (λ L E N l. (a + (suc d + 1)) % L ≡ t % L → (b + 1) % L ≡ t % L → suc d < L → (a + l) % L ≢ (b + l) % L) (λ p q r e. omega arith) (λ p q r e. omega arith) kind
    (back_frames kind t (suc d)) (back_frames kind t 0) m

-- at an epoch's end the last frames lie in the order of their places
pub place_end : (kind t k : ℕ) → starts_epoch kind t ≡ true → k < frames kind → place_of kind (tag_back kind t (frames kind - 1 - k)) ≡ k
unfolding place_of starts_epoch
place_end kind t k s b =
    let a : ℕ = tag_back kind t (frames kind - 1 - k) in
    by (λ L E N l. (a + (L - 1 - k + 1)) % L ≡ t % L → (t + l) % L ≡ 0 → k < L → (a + l) % L ≡ k) (λ p q r. omega arith) (λ p q r. omega arith) kind
    (back_frames kind t (frames kind - 1 - k)) (eqb-true ((t + lead kind) % frames kind) 0 s) b

-- The last epoch that ended before a tag: as many frames back as the tag's place says.

-- that frame was the last of its epoch
ended_place : (kind t : ℕ) → place_of kind (tag_back kind t (place_of kind t)) ≡ frames kind - 1
unfolding place_of
ended_place kind t =
    let d : ℕ = place_of kind t in
    let a : ℕ = tag_back kind t (place_of kind t) in
    by (λ L E N l. (a + (d + 1)) % L ≡ t % L → d ≡ (t + l) % L → (a + l) % L ≡ L - 1) (λ p q. omega arith) (λ p q. omega arith) kind (back_frames kind t (place_of kind t)) refl

-- a tag by its epoch's first one and its place
from_first : (kind t : ℕ) → t < tags kind → tag_of kind (first_tag kind (epoch_of kind t) + place_of kind t) ≡ t
unfolding first_tag epoch_of place_of
from_first kind t = by (λ L E N l. t < N → (((t + l) % N / L * L + (N - l)) % N + (t + l) % L) % N ≡ t) (λ b. omega arith) (λ b. omega arith) kind

-- so the tags of that epoch, place by place, are those of the frames from it back
pub ended_back : (kind t k : ℕ) → k < frames kind
    → tag_back kind t (place_of kind t + (frames kind - 1 - k)) ≡ tag_of kind (first_tag kind (epoch_of kind (tag_back kind t (place_of kind t))) + k)
ended_back kind t k b =
    let d : ℕ = place_of kind t in
    let a : ℕ = tag_back kind t (place_of kind t + (frames kind - 1 - k)) in
    let last : ℕ = tag_back kind t (place_of kind t) in
    let first : ℕ = first_tag kind (epoch_of kind (tag_back kind t (place_of kind t))) in
    let whole : (first + (frames kind - 1)) % tags kind ≡ last = rw (ended_place kind t) at (from_first kind last (back_lt kind t d)) in
    by (λ L E N l. a < N → k < L → (first + (L - 1)) % N ≡ last → (a + (d + (L - 1 - k) + 1)) % N ≡ t % N → (last + (d + 1)) % N ≡ t % N → a ≡ (first + k) % N)
    (λ low m w p q. omega arith) (λ low m w p q. omega arith) kind
    (back_lt kind t (place_of kind t + (frames kind - 1 - k))) b whole (back_sum kind t (place_of kind t + (frames kind - 1 - k))) (back_sum kind t d)
