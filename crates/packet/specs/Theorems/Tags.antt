-- Tags of positions in an endless count of frames. What stands above cites these laws, and not a kind's numbers: they are stated over the kind, and proved for its two clocks (Clock).
use Rattle.std.specs.Prelude.{◌≡◌, ℕ, suc, ◌+◌, ◌-◌, ◌*◌, ◌/◌, ◌%◌, ◌^◌, ◌<◌, ◌≤◌, Bool, true, false, cond, List, ◌==◌, slice_index, refl}
use Rattle.std.proofs.Math.Nat.{add-mod_right, mod-add-mod}
use Rattle.std.proofs.Common.{mod-lt, arith, eq-eqb, eqb-true}
use Rattle.ground.specs.Bits.{odd}
use Rattle.ground.specs.Circle.{after_of, after_lt}
use Rattle.ground.specs.Table.{get_or_tabulate}
use Rattle.packet.specs.Kinds.{distance_of, ends_epoch, epoch_after, epoch_of, epochs, epochs_in, first_tag, frames, idle_number, lead, mst_epochs, mst_fails, mst_first, mst_numbers, place_of, starts_epoch, tag_after, tag_before, tag_of, tags, vc12_kind}
use Rattle.packet.specs.Laws.Clock.{by, h4_clock}
use Rattle.packet.specs.Layout.{h4_of}

-- an epoch has frames, and more than one
pub frames_some : (kind : ℕ) → 0 < frames kind
frames_some kind = by (λ L E N l. 0 < L) (omega arith) (omega arith) kind

pub frames_two : (kind : ℕ) → 2 ≤ frames kind
frames_two kind = by (λ L E N l. 2 ≤ L) (omega arith) (omega arith) kind

pub epochs_some : (kind : ℕ) → 0 < epochs kind
epochs_some kind = by (λ L E N l. 0 < E) (omega arith) (omega arith) kind

pub tags_some : (kind : ℕ) → 0 < tags kind
tags_some kind = by (λ L E N l. 0 < N) (omega arith) (omega arith) kind

pub tags_are : (kind : ℕ) → epochs kind * frames kind ≡ tags kind
tags_are kind = by (λ L E N l. E * L ≡ N) refl refl kind

pub next_tag : (kind x : ℕ) → tag_after kind (tag_of kind x) ≡ tag_of kind (x + 1)
unfolding tag_after
next_tag kind x = mod-add-mod x (tags kind) 1

pub tag_before_lem : (kind x : ℕ) → tag_before kind (tag_of kind (x + 1)) ≡ tag_of kind x
unfolding tag_before
tag_before_lem kind x = by (λ L E N l. ((x + 1) % N + (N - 1)) % N ≡ x % N) (omega arith) (omega arith) kind

pub distance_lt : (kind a b : ℕ) → distance_of kind a b < tags kind
unfolding distance_of
distance_lt kind a b = after_lt (tags kind) a b (tags_some kind)

-- less than a round apart, the tags' distance is the positions'
pub distance_of_lem : (kind x y : ℕ) → y ≤ x → x < y + tags kind → distance_of kind (tag_of kind x) (tag_of kind y) ≡ x - y
unfolding distance_of
distance_of_lem kind x y low high = after_of (tags kind) x y low high

-- a tag less than the window behind lies beyond the window
pub behind_far : (kind x y w : ℕ) → x < y → y < x + w → w * 2 ≤ tags kind → w ≤ distance_of kind (tag_of kind x) (tag_of kind y)
behind_far kind x y w late near half =
    let around = distance_of_lem kind (x + tags kind) y (omega arith) (omega arith) in
    let e : distance_of kind (tag_of kind x) (tag_of kind y) ≡ x + tags kind - y = rw (add-mod_right x (tags kind)) at around in
    omega arith

pub place_of_lem : (kind x : ℕ) → place_of kind (tag_of kind x) ≡ (x + lead kind) % frames kind
unfolding place_of
place_of_lem kind x = by (λ L E N l. (x % N + l) % L ≡ (x + l) % L) (omega arith) (omega arith) kind

pub epoch_of_lem : (kind x : ℕ) → epoch_of kind (tag_of kind x) ≡ (x + lead kind) / frames kind % epochs kind
unfolding epoch_of
epoch_of_lem kind x = by (λ L E N l. (x % N + l) % N / L ≡ (x + l) / L % E) (omega arith) (omega arith) kind

pub epoch_lt : (kind t : ℕ) → epoch_of kind t < epochs kind
unfolding epoch_of
epoch_lt kind t = by (λ L E N l. (t + l) % N / L < E) (omega arith) (omega arith) kind

-- an epoch's first tag is of that epoch and stands at its first place
pub first_of : (kind e : ℕ) → e < epochs kind → (epoch_of kind (first_tag kind e) ≡ e) × (place_of kind (first_tag kind e) ≡ 0)
unfolding epoch_of place_of first_tag
first_of kind e =
    by (λ L E N l. e < E → (((e * L + (N - l)) % N + l) % N / L ≡ e) × (((e * L + (N - l)) % N + l) % L ≡ 0)) (λ h. (omega arith, omega arith)) (λ h. (omega arith, omega arith)) kind

pub first_starts : (kind e : ℕ) → e < epochs kind → starts_epoch kind (first_tag kind e) ≡ true
unfolding starts_epoch
first_starts kind e b = eq-eqb (place_of kind (first_tag kind e)) 0 (first_of kind e b).1

-- after the last frame of an epoch comes the next epoch
pub next_epoch : (kind x : ℕ) → epoch_of kind (tag_of kind (x + frames kind)) ≡ epoch_after kind (epoch_of kind (tag_of kind x))
unfolding epoch_of epoch_after
next_epoch kind x = by (λ L E N l. ((x + L) % N + l) % N / L ≡ ((x % N + l) % N / L + 1) % E) (omega arith) (omega arith) kind

-- whose first frame comes so many frames later
pub first_after : (kind e x : ℕ) → e < epochs kind → first_tag kind e ≡ tag_of kind x → first_tag kind (epoch_after kind e) ≡ tag_of kind (x + frames kind)
unfolding first_tag epoch_after
first_after kind e x =
    by (λ L E N l. e < E → (e * L + (N - l)) % N ≡ x % N → ((e + 1) % E * L + (N - l)) % N ≡ (x + L) % N) (λ h q. omega arith) (λ h q. omega arith) kind

-- epochs counted from one of them
pub epoch_from : (kind e : ℕ) → e < epochs kind → (e + 0) % epochs kind ≡ e
epoch_from kind e = by (λ L E N l. e < E → (e + 0) % E ≡ e) (λ h. omega arith) (λ h. omega arith) kind

pub epoch_on : (kind e i : ℕ) → epoch_after kind ((e + i) % epochs kind) ≡ (e + suc i) % epochs kind
unfolding epoch_after
epoch_on kind e i = by (λ L E N l. ((e + i) % E + 1) % E ≡ (e + suc i) % E) (omega arith) (omega arith) kind

-- Positions counted from one that starts an epoch.

starts_at : (kind c : ℕ) → starts_epoch kind c ≡ true → (c + lead kind) % frames kind ≡ 0
unfolding starts_epoch place_of
starts_at kind c e = eqb-true ((c + lead kind) % frames kind) 0 e

pub place_counted : (kind c x : ℕ) → starts_epoch kind c ≡ true → place_of kind (tag_of kind (c + x)) ≡ x % frames kind
unfolding place_of
place_counted kind c x e = by (λ L E N l. (c + l) % L ≡ 0 → ((c + x) % N + l) % L ≡ x % L) (λ z. omega arith) (λ z. omega arith) kind (starts_at kind c e)

pub epoch_counted : (kind c i k : ℕ) → starts_epoch kind c ≡ true → k < frames kind → epoch_of kind (tag_of kind (c + (i * frames kind + k))) ≡ epoch_of kind (tag_of kind (c + i * frames kind))
unfolding epoch_of
epoch_counted kind c i k e =
    by (λ L E N l. (c + l) % L ≡ 0 → k < L → ((c + (i * L + k)) % N + l) % N / L ≡ ((c + i * L) % N + l) % N / L) (λ z b. omega arith) (λ z b. omega arith) kind (starts_at kind c e)

-- each epoch starts so many frames after the one before
pub starts_each : (kind c i : ℕ) → starts_epoch kind c ≡ true → starts_epoch kind (tag_of kind (c + i * frames kind)) ≡ true
unfolding starts_epoch place_of
starts_each kind c i e =
    eq-eqb (((c + i * frames kind) % tags kind + lead kind) % frames kind) 0
    (by (λ L E N l. (c + l) % L ≡ 0 → ((c + i * L) % N + l) % L ≡ 0) (λ z. omega arith) (λ z. omega arith) kind (starts_at kind c e))

-- the tag of the first epoch to start after a position
pub epoch_after_tag : (kind c x : ℕ) → starts_epoch kind c ≡ true
    → first_tag kind (epoch_after kind (epoch_of kind (tag_of kind (c + x)))) ≡ tag_of kind (c + suc (x / frames kind) * frames kind)
unfolding first_tag epoch_after epoch_of
epoch_after_tag kind c x e =
    by (λ L E N l. (c + l) % L ≡ 0 → ((((c + x) % N + l) % N / L + 1) % E * L + (N - l)) % N ≡ (c + suc (x / L) * L) % N) (λ z. omega arith) (λ z. omega arith) kind
    (starts_at kind c e)

-- the tag before an epoch's first is of the epoch before
pub epoch_before : (kind c i : ℕ) → starts_epoch kind c ≡ true
    → epoch_of kind (tag_before kind (tag_of kind (c + suc i * frames kind))) ≡ epoch_of kind (tag_of kind (c + i * frames kind))
unfolding epoch_of tag_before
epoch_before kind c i e =
    by (λ L E N l. (c + l) % L ≡ 0 → (((c + suc i * L) % N + (N - 1)) % N + l) % N / L ≡ ((c + i * L) % N + l) % N / L) (λ z. omega arith) (λ z. omega arith) kind
    (starts_at kind c e)

pub before_first : (kind e : ℕ) → e < epochs kind → epoch_of kind (tag_before kind (first_tag kind (epoch_after kind e))) ≡ e
unfolding epoch_of tag_before first_tag epoch_after
before_first kind e = by (λ L E N l. e < E → ((((e + 1) % E * L + (N - l)) % N + (N - 1)) % N + l) % N / L ≡ e) (λ h. omega arith) (λ h. omega arith) kind

-- the frame at place k of the i-th epoch
pub place_each : (kind e i k : ℕ) → k < frames kind → place_of kind (tag_of kind (first_tag kind e + (i * frames kind + k))) ≡ k
unfolding place_of first_tag
place_each kind e i k =
    by (λ L E N l. k < L → (((e * L + (N - l)) % N + (i * L + k)) % N + l) % L ≡ k) (λ h. omega arith) (λ h. omega arith) kind

pub epoch_each : (kind e i k : ℕ) → k < frames kind → epoch_of kind (tag_of kind (first_tag kind e + (i * frames kind + k))) ≡ (e + i) % epochs kind
unfolding epoch_of first_tag
epoch_each kind e i k =
    by (λ L E N l. k < L → (((e * L + (N - l)) % N + (i * L + k)) % N + l) % N / L ≡ (e + i) % E) (λ h. omega arith) (λ h. omega arith) kind

-- 'A frame's tag is 16 x MFI2 + MFI1': multiframe m begins with tag 16 m, in the epoch that m names
pub multiframe : (kind m : ℕ) → m < epochs kind → epoch_of kind (frames kind * m) ≡ m
unfolding epoch_of
multiframe kind m = by (λ L E N l. m < E → (L * m + l) % N / L ≡ m) (λ h. omega arith) (λ h. omega arith) kind

-- the nibble of an H4 packet that stands at a tag's place is sent with that tag's MFI1
pub place_sent : (ns : List ℕ) (kind t : ℕ) → (kind == vc12_kind) ≡ false → slice_index (h4_of ns) (place_of kind t) % 16 ≡ t % 16
unfolding place_of h4_of
place_sent ns kind t clock =
    h4_clock (λ L E N l. slice_index (h4_of ns) ((t + l) % L) % 16 ≡ t % 16)
    (rw (get_or_tabulate 16 (λ i. slice_index ns i % 16 * 16 + (i + 8) % 16) ((t + 8) % 16) 0 (omega arith)) (omega arith)) kind clock

-- how many numbers MST speaks of in an epoch, and which bit speaks of each
pub mst_eight : (kind : ℕ) → mst_numbers kind ≡ 8
unfolding mst_numbers
mst_eight kind = refl

pub mst_bit : (kind e k mst : ℕ) → k < 8 → mst_fails mst (mst_first kind e + k) ≡ odd (mst / 2 ^ (7 - k))
unfolding mst_fails mst_first
mst_bit kind e k mst b = let at : (8 * (e % mst_epochs kind) + k) % 8 ≡ k = omega arith in rw at refl

-- the numbers that MST speaks of fit a byte
pub mst_fits : (kind e : ℕ) → mst_first kind e + mst_numbers kind ≤ 256
unfolding mst_first mst_numbers mst_epochs
mst_fits kind e = go (kind == vc12_kind)
  where
    go : (b : Bool) → 8 * (e % cond b 8 32) + 8 ≤ 256
    go true = omega arith
    go false = omega arith

-- and so does the idle number
pub idle_fits : (kind : ℕ) → idle_number kind < 256
unfolding idle_number
idle_fits kind = go (kind == vc12_kind)
  where
    go : (b : Bool) → cond b 63 255 < 256
    go true = omega arith
    go false = omega arith

-- a byte holds an epoch's number
pub epochs_fit : (kind : ℕ) → epochs kind ≤ 256
epochs_fit kind = by (λ L E N l. E ≤ 256) (omega arith) (omega arith) kind

pub epoch_after_lt : (kind e : ℕ) → epoch_after kind e < epochs kind
unfolding epoch_after
epoch_after_lt kind e = mod-lt (e + 1) (epochs_some kind)

pub epoch_fits : (kind e : ℕ) → epoch_after kind e < 256
epoch_fits kind e = let l = epoch_after_lt kind e in let m = epochs_fit kind in omega arith

-- a distance is below a round, so it holds no more epochs than there are
pub epochs_in_lem : (kind d : ℕ) → d < tags kind → epochs_in kind d ≡ d / frames kind
unfolding epochs_in
epochs_in_lem kind d = by (λ L E N l. d < N → d / L % E ≡ d / L) (λ h. omega arith) (λ h. omega arith) kind

pub ends_epoch_lem : (kind i : ℕ) → ends_epoch kind (i * frames kind + (frames kind - 1)) ≡ true
unfolding ends_epoch
ends_epoch_lem kind i =
    eq-eqb ((i * frames kind + (frames kind - 1)) % frames kind) (frames kind - 1) (by (λ L E N l. (i * L + (L - 1)) % L ≡ L - 1) (omega arith) (omega arith) kind)
