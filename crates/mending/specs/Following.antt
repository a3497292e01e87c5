-- The H4 count of one port followed (2026-11), on the counts of its lines one behind the other.
use Rattle.std.specs.Prelude.{Bool, false, not, ◌||◌, List, [], ◌∷◌, ℕ, zero, suc, ◌+◌, ◌-◌, ◌%◌, ◌<◌, if◌then◌else◌, ◌==◌}
use Rattle.packet.specs.Kinds.{vc12_kind}

-- a count is one hex digit
abbrev pub Counts : List ℕ → Type 0
Counts [] = Unit {0}
Counts (c ∷ cs) = (c < 16) × Counts cs

-- 'the last good one plus the lines of that port since, modulo 16'
abbrev pub count_due : ℕ → ℕ → ℕ
count_due last since = (last + since) % 16

-- 'A line is good when its count is' that
abbrev pub is_good : (last since count : ℕ) → Bool
is_good last since count = count == count_due last since

-- whether one of the next n lines is good, the first of which is so many lines since the last good one
abbrev pub good_among : (n last since : ℕ) (counts : List ℕ) → Bool
good_among zero last since counts = false
good_among (suc n) last since [] = false
good_among (suc n) last since (c ∷ cs) = is_good last since c || good_among n last (suc since) cs

-- Lines of which the first is so many lines since the last good one; all between are broken.
-- 'One to three broken lines followed by a good one get their counts restored': this is the broken one of number `since`, so that a good one is
-- among the next 4 - since. 'After four broken lines in a row, or at the end of the recording, nothing is restored and the following starts afresh
-- at the first broken line, now taken as good': where no good one follows, this is the first.
abbrev pub followed_from : (last since : ℕ) (counts : List ℕ) → List ℕ
followed_from last since [] = []
followed_from last since (c ∷ cs) =
    if is_good last since c then c ∷ followed_from c 1 cs
    else if good_among (4 - since) last (suc since) cs then count_due last since ∷ followed_from last (suc since) cs
    else c ∷ followed_from c 1 cs

-- 'follows the H4 count of each port from its first line'
unfoldable pub followed : List ℕ → List ℕ
followed [] = []
followed (c ∷ cs) = c ∷ followed_from c 1 cs

-- 'the H4 count' is MFI1, which the frames of H4 and of a fixed group (request 2026-12) have. Those of VC-12 (request 2026-01) have none: a bit of a count in five frames of 32.
abbrev pub has_count : ℕ → Bool
has_count kind = not (kind == vc12_kind)

-- nothing is restored where lines have no count
abbrev pub followed_if : Bool → List ℕ → List ℕ
followed_if has counts = if has then followed counts else counts
