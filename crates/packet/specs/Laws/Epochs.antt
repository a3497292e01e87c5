-- Epochs counted by their frames, over the kind of packet.
use Rattle.std.specs.Prelude.{◌≡◌, ℕ, suc, ◌+◌, ◌-◌, ◌*◌, ◌/◌, ◌%◌, ◌<◌, ◌≤◌, true, false, ◌||◌, ◌≢◌, ◌==◌, nat_eq, nat_le, refl}
use Rattle.std.proofs.Common.{sym, ap, ◌∙◌, ⊎_elim, mod-lt, mul-le-mul, arith, eq-eqb, eqb-true, le-leb, leb-true, ne_eqb}
use Rattle.std.proofs.lemmas.Bool.{eqb-false, lt-leb}
use Rattle.ground.specs.Truth.{eq_or_ne, le_or_lt}
use Rattle.packet.specs.Kinds.{ends_epoch, epochs_in, frames, tags}
use Rattle.packet.specs.Laws.Clock.{by}
use Rattle.packet.specs.Theorems.Tags.{frames_some}

-- How many there are.

-- so many epochs have at least one epoch's frames
pub frames_many : (kind k : ℕ) → frames kind ≤ (k + 1) * frames kind
frames_many kind k = by (λ L E N l. L ≤ (k + 1) * L) (omega arith) (omega arith) kind

-- a byte counts two epochs' frames
pub run_fits : (kind : ℕ) → frames kind * 2 ≤ 255
run_fits kind = by (λ L E N l. L * 2 ≤ 255) (omega arith) (omega arith) kind

-- two bytes count the frames of half a round
pub half_fits : (kind : ℕ) → tags kind / 2 ≤ 2048
half_fits kind = by (λ L E N l. N / 2 ≤ 2048) (omega arith) (omega arith) kind

-- four bytes hold a report's byte count
pub count_fits : (kind x P : ℕ) → x ≤ 64 → P ≤ 2340 → x * frames kind * P < 4294967296
count_fits kind x P hx hp =
    let m : x * frames kind ≤ 2048 = by (λ L E N l. x * L ≤ 2048) (omega arith) (omega arith) kind in
    omega (arith, mul-le-mul m hp)

-- Positions by epoch and place.

-- one epoch further
pub one_epoch : (i L : ℕ) → suc i * L ≡ i * L + L
one_epoch i L = omega arith

pub place_lt : (kind x : ℕ) → x % frames kind < frames kind
place_lt kind x = mod-lt x (frames_some kind)

pub position_is : (kind x : ℕ) → x / frames kind * frames kind + x % frames kind ≡ x
position_is kind x = by (λ L E N l. x / L * L + x % L ≡ x) (omega arith) (omega arith) kind

-- the epoch and the place of the frame at place j of epoch i
pub epoch_in : (kind i j : ℕ) → j < frames kind → (i * frames kind + j) / frames kind ≡ i
epoch_in kind i j = by (λ L E N l. j < L → (i * L + j) / L ≡ i) (λ b. omega arith) (λ b. omega arith) kind

pub place_in : (kind i j : ℕ) → j < frames kind → (i * frames kind + j) % frames kind ≡ j
place_in kind i j = by (λ L E N l. j < L → (i * L + j) % L ≡ j) (λ b. omega arith) (λ b. omega arith) kind

pub first_epoch : (kind d : ℕ) → d < frames kind → d / frames kind ≡ 0
first_epoch kind d = by (λ L E N l. d < L → d / L ≡ 0) (λ h. omega arith) (λ h. omega arith) kind

pub epoch_more : (kind d : ℕ) → (d + frames kind) / frames kind ≡ d / frames kind + 1
epoch_more kind d = by (λ L E N l. (d + L) / L ≡ d / L + 1) (omega arith) (omega arith) kind

-- two frames less than an epoch apart are at places apart
pub places_apart : (kind x y : ℕ) → y < x → x < y + frames kind → y % frames kind ≢ x % frames kind
places_apart kind x y = by (λ L E N l. y < x → x < y + L → y % L ≢ x % L) (λ h g e. omega arith) (λ h g e. omega arith) kind

-- as many in all frames of an epoch, as many in each
pub frames_cancel : (kind a b : ℕ) → frames kind * a ≡ frames kind * b → a ≡ b
frames_cancel kind a b = by (λ L E N l. L * a ≡ L * b → a ≡ b) (λ e. omega arith) (λ e. omega arith) kind

-- two multiples of an epoch's frames
pub same_epoch : (kind j k : ℕ) → (j + 1) * frames kind ≡ (k + 1) * frames kind → j ≡ k
same_epoch kind j k = by (λ L E N l. (j + 1) * L ≡ (k + 1) * L → j ≡ k) (λ e. omega arith) (λ e. omega arith) kind

-- the first epoch to start after a position: where it starts
pub start_after_lt : (kind x : ℕ) → x < suc (x / frames kind) * frames kind
start_after_lt kind x = by (λ L E N l. x < suc (x / L) * L) (omega arith) (omega arith) kind

pub start_after_le : (kind x : ℕ) → suc (x / frames kind) * frames kind ≤ x + frames kind
start_after_le kind x = by (λ L E N l. suc (x / L) * L ≤ x + L) (omega arith) (omega arith) kind

-- the first position from one on that is a number of epochs
pub to_start_lt : (kind x : ℕ) → (frames kind - x % frames kind) % frames kind < frames kind
to_start_lt kind x = mod-lt (frames kind - x % frames kind) (frames_some kind)

pub to_start : (kind x : ℕ) → (x + (frames kind - x % frames kind) % frames kind) % frames kind ≡ 0
to_start kind x = by (λ L E N l. (x + (L - x % L) % L) % L ≡ 0) (omega arith) (omega arith) kind

-- and none before it is
pub start_least : (kind x k j : ℕ) → k < frames kind → (x + k) % frames kind ≡ 0 → j < k → (x + j) % frames kind ≢ 0
start_least kind x k j =
    by (λ L E N l. k < L → (x + k) % L ≡ 0 → j < k → (x + j) % L ≢ 0) (λ h z b n. omega arith) (λ h z b n. omega arith) kind

-- Which epoch a frame ends, by how far it lies after an epoch's first.

pub none_in : (kind : ℕ) → epochs_in kind 0 ≡ 0
unfolding epochs_in
none_in kind = by (λ L E N l. 0 / L % E ≡ 0) refl refl kind

pub first_in : (kind : ℕ) → epochs_in kind (frames kind - 1) ≡ 0
unfolding epochs_in
first_in kind = by (λ L E N l. (L - 1) / L % E ≡ 0) refl refl kind

pub ends_first : (kind : ℕ) → ends_epoch kind (frames kind - 1) ≡ true
unfolding ends_epoch
ends_first kind = by (λ L E N l. ((L - 1) % L == L - 1) ≡ true) refl refl kind

pub last_place : (kind d : ℕ) → ends_epoch kind d ≡ true → d % frames kind ≡ frames kind - 1
unfolding ends_epoch
last_place kind d e = eqb-true (d % frames kind) (frames kind - 1) e

not_last : (kind d : ℕ) → ends_epoch kind d ≡ false → d % frames kind ≢ frames kind - 1
unfolding ends_epoch
not_last kind d e = eqb-false (d % frames kind) (frames kind - 1) e

pub ends_alike : (kind c d : ℕ) → c % frames kind ≡ d % frames kind → ends_epoch kind c ≡ ends_epoch kind d
unfolding ends_epoch
ends_alike kind c d e = ap (λ (n : ℕ). nat_eq n (frames kind - 1)) e

-- the last frame of the k-th epoch, and no other, ends it
pub ends_last : (kind d : ℕ) → d < tags kind → ends_epoch kind d ≡ true → (epochs_in kind d + 1) * frames kind ≡ d + 1
unfolding epochs_in
ends_last kind d h e =
    by (λ L E N l. d < N → d % L ≡ L - 1 → (d / L % E + 1) * L ≡ d + 1) (λ h z. omega arith) (λ h z. omega arith) kind h (last_place kind d e)

pub ends_else : (kind d k : ℕ) → ends_epoch kind d ≡ false → (k + 1) * frames kind ≢ d + 1
ends_else kind d k e =
    by (λ L E N l. d % L ≢ L - 1 → (k + 1) * L ≢ d + 1) (λ n q. n (omega arith)) (λ n q. n (omega arith)) kind (not_last kind d e)

-- an epoch ends within d + 1 frames exactly if it did within d, or the frame at d is its last one
pub ends_more : (kind i d : ℕ) → d < tags kind → ends_epoch kind d ≡ true
    → nat_le (frames kind * i + frames kind) (d + 1) ≡ (nat_le (frames kind * i + frames kind) d || i == epochs_in kind d)
ends_more kind i d h e =
    ⊎_elim (λ (a : frames kind * i + frames kind ≤ d). rw (le-leb (frames kind * i + frames kind) (d + 1) (omega arith), le-leb (frames kind * i + frames kind) d a))
    (λ (a : d < frames kind * i + frames kind).
    rw (lt-leb (frames kind * i + frames kind) d a)
    (⊎_elim
    (λ (b : frames kind * i + frames kind ≤ d + 1).
    le-leb (frames kind * i + frames kind) (d + 1) b ∙ sym (eq-eqb i (epochs_in kind d) (same_epoch kind i (epochs_in kind d) (omega (arith, last)))))
    (λ (b : d + 1 < frames kind * i + frames kind).
    lt-leb (frames kind * i + frames kind) (d + 1) b ∙ sym (ne_eqb i (epochs_in kind d) (λ (z : i ≡ epochs_in kind d). other z b)))
    (le_or_lt (frames kind * i + frames kind) (d + 1))))
    (le_or_lt (frames kind * i + frames kind) d)
  where
    last : (epochs_in kind d + 1) * frames kind ≡ d + 1
    last = ends_last kind d h e

    other : i ≡ epochs_in kind d → d + 1 < frames kind * i + frames kind → ⊥
    other z b = let c : d + 1 < frames kind * epochs_in kind d + frames kind = rw z at b in omega (arith, last)

pub ends_same : (kind i d : ℕ) → ends_epoch kind d ≡ false → nat_le (frames kind * i + frames kind) (d + 1) ≡ nat_le (frames kind * i + frames kind) d
ends_same kind i d e =
    ⊎_elim (λ (a : frames kind * i + frames kind ≤ d). le-leb (frames kind * i + frames kind) (d + 1) (omega arith) ∙ sym (le-leb (frames kind * i + frames kind) d a))
    (λ (a : d < frames kind * i + frames kind).
    lt-leb (frames kind * i + frames kind) (d + 1) (let n = ends_else kind d i e in omega arith) ∙ sym (lt-leb (frames kind * i + frames kind) d a))
    (le_or_lt (frames kind * i + frames kind) d)

-- an epoch that a frame ends: every other frame of it comes before
pub epoch_ended : (kind d e : ℕ) → e < tags kind → ends_epoch kind e ≡ true → d ≢ e → d / frames kind ≡ epochs_in kind e → (frames kind * (e / frames kind) ≤ d) × (d < e)
unfolding epochs_in
epoch_ended kind d e h t =
    by (λ L E N l. e < N → e % L ≡ L - 1 → d ≢ e → d / L ≡ e / L % E → (L * (e / L) ≤ d) × (d < e)) (λ h z n q. (omega arith, omega arith)) (λ h z n q. (omega arith, omega arith)) kind h
    (last_place kind e t)

-- a whole number of epochs
pub whole_epochs : (kind d : ℕ) → d < tags kind → d % frames kind ≡ 0 → frames kind * epochs_in kind d ≡ d
unfolding epochs_in
whole_epochs kind d = by (λ L E N l. d < N → d % L ≡ 0 → L * (d / L % E) ≡ d) (λ h z. omega arith) (λ h z. omega arith) kind

-- no epoch from that on ends within it and one frame more
pub none_ended : (kind i d : ℕ) → d < tags kind → d % frames kind ≡ 0 → epochs_in kind d ≤ i → nat_le (frames kind * i + frames kind) (d + 1) ≡ false
unfolding epochs_in
none_ended kind i d h z l =
    lt-leb (frames kind * i + frames kind) (d + 1)
    (by (λ L E N l. d < N → d % L ≡ 0 → d / L % E ≤ i → d + 1 < L * i + L) (λ h z l. omega arith) (λ h z l. omega arith) kind h z l)

-- a frame of an epoch before another's is not that other
pub epoch_cut : (kind d e : ℕ) → e < tags kind → d / frames kind < epochs_in kind e → d ≢ e
unfolding epochs_in
epoch_cut kind d e = by (λ L E N l. e < N → d / L < e / L % E → d ≢ e) (λ h l q. omega arith) (λ h l q. omega arith) kind

-- Epochs of a window: no more than half a round, so that a row of 128 marks has one for each.

pub marks_enough : (kind i w : ℕ) → w + w ≤ tags kind → 128 ≤ i → w ≤ frames kind * i
marks_enough kind i w = by (λ L E N l. w + w ≤ N → 128 ≤ i → w ≤ L * i) (λ h b. omega arith) (λ h b. omega arith) kind

pub beyond_marks : (kind i w : ℕ) → w + w ≤ tags kind → 128 ≤ i → nat_le (frames kind * i + frames kind) w ≡ false
beyond_marks kind i w h b =
    let m = marks_enough kind i w h b in
    let n = frames_some kind in
    lt-leb (frames kind * i + frames kind) w (omega arith)

pub one_ahead : (kind later d : ℕ) → later ≢ 0 → frames kind * later < d → frames kind ≤ d
one_ahead kind later d = by (λ L E N l. later ≢ 0 → L * later < d → L ≤ d) (λ n l. omega arith) (λ n l. omega arith) kind

pub first_ended : (kind d : ℕ) → nat_le (frames kind * 0 + frames kind) d ≡ true → frames kind ≤ d
first_ended kind d e = let l = leb-true (frames kind * 0 + frames kind) d e in omega arith

pub less_later : (kind later W : ℕ) → frames kind * later < W → frames kind * (later - 1) < W
less_later kind later W = by (λ L E N l. L * later < W → L * (later - 1) < W) (λ h. omega arith) (λ h. omega arith) kind

pub later_nearer : (kind later d e : ℕ) → later - 1 ≢ 0 → frames kind * later < d → e + frames kind ≡ d → frames kind * (later - 1) < e
later_nearer kind later d e =
    by (λ L E N l. later - 1 ≢ 0 → L * later < d → e + L ≡ d → L * (later - 1) < e) (λ n l q. omega arith) (λ n l q. omega arith) kind

pub end_nearer : (kind i d e : ℕ) → e + frames kind ≡ d → nat_le (frames kind * (i + 1) + frames kind) d ≡ nat_le (frames kind * i + frames kind) e
end_nearer kind i d e q =
    ⊎_elim (λ (l : frames kind * i + frames kind ≤ e). le-leb (frames kind * (i + 1) + frames kind) d (omega arith) ∙ sym (le-leb (frames kind * i + frames kind) e l))
    (λ (l : e < frames kind * i + frames kind). lt-leb (frames kind * (i + 1) + frames kind) d (omega arith) ∙ sym (lt-leb (frames kind * i + frames kind) e l))
    (le_or_lt (frames kind * i + frames kind) e)

pub end_before : (kind i W : ℕ) → frames kind * (i + 1) + frames kind ≤ W → frames kind * i + frames kind ≤ W
end_before kind i W l = omega arith

pub in_epoch : (kind d W : ℕ) → frames kind * (d / frames kind) + frames kind ≤ W → d < W
in_epoch kind d W = by (λ L E N l. L * (d / L) + L ≤ W → d < W) (λ h. omega arith) (λ h. omega arith) kind

pub later_back : (kind later d : ℕ) → frames kind * (later - 1) ≤ d → frames kind * later ≤ d + frames kind
later_back kind later d = by (λ L E N l. L * (later - 1) ≤ d → L * later ≤ d + L) (λ h. omega arith) (λ h. omega arith) kind

pub later_part : (kind later d e : ℕ) → (later ≢ 0 → frames kind * later < e) → frames kind * (e / frames kind) ≤ d → frames kind * later ≤ d
later_part kind later d e h p =
    ⊎_elim (λ (z : later ≡ 0). rw z (omega arith))
    (λ (n : later ≢ 0). by (λ L E N l. L * later < e → L * (e / L) ≤ d → L * later ≤ d) (λ h p. omega arith) (λ h p. omega arith) kind (h n) p) (eq_or_ne later 0)

pub part_back : (kind d e f : ℕ) → f + frames kind ≡ e → frames kind * (f / frames kind) ≤ d → frames kind * (e / frames kind) ≤ d + frames kind
part_back kind d e f = by (λ L E N l. f + L ≡ e → L * (f / L) ≤ d → L * (e / L) ≤ d + L) (λ q h. omega arith) (λ q h. omega arith) kind

pub part_before : (kind d e : ℕ) → frames kind * ((e + 1) / frames kind) ≤ d → frames kind * (e / frames kind) ≤ d
part_before kind d e = by (λ L E N l. L * ((e + 1) / L) ≤ d → L * (e / L) ≤ d) (λ h. omega arith) (λ h. omega arith) kind

-- an epoch of which a frame is still to come has not ended
pub still_comes : (kind x : ℕ) → nat_le (frames kind * (x / frames kind) + frames kind) x ≡ false
still_comes kind x = lt-leb (frames kind * (x / frames kind) + frames kind) x (by (λ L E N l. x < L * (x / L) + L) (omega arith) (omega arith) kind)

pub later_reached : (kind later x : ℕ) → (later ≢ 0 → frames kind * later < x) → later ≤ x / frames kind
later_reached kind later x h =
    ⊎_elim (λ (z : later ≡ 0). let l : later ≤ x / frames kind = omega arith in l)
    (λ (some : later ≢ 0). by (λ L E N l. L * later < x → later ≤ x / L) (λ m. omega arith) (λ m. omega arith) kind (h some)) (eq_or_ne later 0)

-- an earlier frame of the epoch of another
pub same_epoch_before : (kind d x : ℕ) → frames kind * (x / frames kind) ≤ d → d < x → (d / frames kind ≡ x / frames kind) × (d % frames kind < x % frames kind)
same_epoch_before kind d x = by (λ L E N l. L * (x / L) ≤ d → d < x → (d / L ≡ x / L) × (d % L < x % L)) (λ f u. (omega arith, omega arith)) (λ f u. (omega arith, omega arith)) kind
