-- The following by count less place, modulo 16, which has no sums in it: good is to have that of the last good line, restored is to get it.
-- Where it was followed once, the lines that were good or restored have it; those of a fresh start have another one, and are only ever set to that of one
-- of themselves, so that they break again at the same places.
use Rattle.std.specs.Prelude.{◌≡◌, refl, Bool, true, false, cond, ◌||◌, List, [], ◌∷◌, ◌⊎◌, ℕ, zero, suc, ◌+◌, ◌-◌, ◌%◌, ◌≤◌, ◌<◌, eqb, length}
use Rattle.std.proofs.Common.{sym, ap, ap₂, ◌∙◌, inl, inr, arith, eq-eqb, eqb-true}
use Rattle.std.proofs.lemmas.Bool.{false≢true}
use Rattle.ground.specs.Truth.{le_or_lt, neither, or_left, or_right, same_test}
use Rattle.mending.specs.Follow.{less_place}
pub use Rattle.mending.specs.Following.{Counts}
use Rattle.mending.specs.Following.{count_due, followed, followed_from, followed_if, good_among, is_good}

-- counts less their places, the first of which is k, and back
abbrev pub offsets : ℕ → List ℕ → List ℕ
offsets k [] = []
offsets k (c ∷ cs) = less_place c k ∷ offsets (suc k) cs

abbrev pub placed : ℕ → List ℕ → List ℕ
placed k [] = []
placed k (o ∷ os) = (o + k) % 16 ∷ placed (suc k) os

-- whether v is among the first n
abbrev pub among : ℕ → ℕ → List ℕ → Bool
among zero v os = false
among (suc n) v [] = false
among (suc n) v (o ∷ os) = eqb o v || among n v os

abbrev pub settle : ℕ → List ℕ → List ℕ
settle v [] = []
settle v (o ∷ os) = cond (among 4 v (o ∷ os)) (v ∷ settle v os) (o ∷ settle o os)

abbrev pub settled : List ℕ → List ℕ
settled [] = []
settled (o ∷ os) = o ∷ settle o os

among_more : (n : ℕ) (v : ℕ) (os : List ℕ) → among n v os ≡ true → among (suc n) v os ≡ true
among_more zero v os t = absurd (false≢true t)
among_more (suc n) v [] t = t
among_more (suc n) v (o ∷ os) t = go (eqb o v) t (among_more n v os)
  where
    go : (b : Bool) → (b || among n v os) ≡ true → (among n v os ≡ true → among (suc n) v os ≡ true) → (b || among (suc n) v os) ≡ true
    go true u r = refl
    go false u r = r u

-- the count of its own place, and its count less place
pub back_at : (c k : ℕ) → c < 16 → (less_place c k + k) % 16 ≡ c
back_at c k h = omega arith

placed_back : (o k : ℕ) → o < 16 → less_place ((o + k) % 16) k ≡ o
placed_back o k h = omega arith

due_at_lem : (last g since : ℕ) → (less_place last g + (g + since)) % 16 ≡ count_due last since
due_at_lem last g since = omega arith

-- a line behind so many since the last good one has its count less place
good_is : (last g since c : ℕ) → c < 16 → is_good last since c ≡ eqb (less_place c (g + since)) (less_place last g)
good_is last g since c h =
    same_test (is_good last since c) (eqb (less_place c (g + since)) (less_place last g))
    (λ t. eq-eqb (less_place c (g + since)) (less_place last g)
    (ap (λ (n : ℕ). less_place n (g + since)) (eqb-true c (count_due last since) t ∙ sym (due_at_lem last g since)) ∙ placed_back (less_place last g) (g + since) (omega arith)))
    (λ t. eq-eqb c (count_due last since)
    (sym (back_at c (g + since) h) ∙ (ap (λ (n : ℕ). (n + (g + since)) % 16) (eqb-true (less_place c (g + since)) (less_place last g) t) ∙ due_at_lem last g since)))

among_is : (n last g since : ℕ) (cs : List ℕ) → Counts cs → good_among n last since cs ≡ among n (less_place last g) (offsets (g + since) cs)
among_is zero last g since cs h = refl
among_is (suc n) last g since [] h = refl
among_is (suc n) last g since (c ∷ cs) h =
    let e : g + suc since ≡ suc (g + since) = omega arith in
    let r : good_among n last (suc since) cs ≡ among n (less_place last g) (offsets (suc (g + since)) cs) = rw e at (among_is n last g (suc since) cs h.1) in
    ap₂ ◌||◌ (good_is last g since c h.0) r

-- the first of the lines is the one behind a good one, or a good one follows within four from that
abbrev Near : ℕ → ℕ → List ℕ → Type 0
Near last since cs = 1 < since → (since < 5) × (good_among (5 - since) last since cs ≡ true)

-- the two ways of the first line
pub settle_in : (v o : ℕ) (os : List ℕ) → among 4 v (o ∷ os) ≡ true → settle v (o ∷ os) ≡ v ∷ settle v os
settle_in v o os t = rw t

pub settle_out : (v o : ℕ) (os : List ℕ) → among 4 v (o ∷ os) ≡ false → settle v (o ∷ os) ≡ o ∷ settle o os
settle_out v o os t = rw t

among_up : (n v : ℕ) (os : List ℕ) → n ≤ 3 → among n v os ≡ true → among 3 v os ≡ true
among_up zero v os l t = absurd (false≢true t)
among_up (suc zero) v os l t = among_more 2 v os (among_more 1 v os t)
among_up (suc (suc zero)) v os l t = among_more 2 v os t
among_up (suc (suc (suc zero))) v os l t = t
among_up (suc (suc (suc (suc n)))) v os l t = absurd (omega arith)

among_some : (n v : ℕ) (os : List ℕ) → among n v os ≡ true → 0 < n
among_some zero v os t = absurd (false≢true t)
among_some (suc n) v os t = omega arith

module _ (c : ℕ) (cs : List ℕ) (h : c < 16) (hs : Counts cs) (last g since : ℕ) (pos : 0 < since) where
  abbrev O : ℕ
  O = less_place c (g + since)

  abbrev W : ℕ
  W = less_place last g

  abbrev Os : List ℕ
  Os = offsets (suc (g + since)) cs

  next : g + suc since ≡ suc (g + since)
  next = omega arith

  behind : good_among (4 - since) last (suc since) cs ≡ among (4 - since) W Os
  behind = rw next at (among_is (4 - since) last g (suc since) cs hs)

  -- a line that stays
  stays : followed_from c 1 cs ≡ placed (suc (g + since)) (settle O Os) → (w : ℕ) → O ≡ w → c ∷ followed_from c 1 cs ≡ placed (g + since) (w ∷ settle w Os)
  stays r w e = rw (← e) (ap₂ ◌∷◌ (sym (back_at c (g + since) h)) r)

  module _ (r : followed_from c 1 cs ≡ placed (suc (g + since)) (settle O Os)) where
    good : is_good last since c ≡ true → c ∷ followed_from c 1 cs ≡ placed (g + since) (settle W (O ∷ Os))
    good t =
        let e : eqb O W ≡ true = sym (good_is last g since c h) ∙ t in
        stays r W (eqb-true O W e) ∙ ap (placed (g + since)) (sym (settle_in W O Os (or_left (eqb O W) (among 3 W Os) e)))

    afresh : is_good last since c ≡ false → good_among (4 - since) last (suc since) cs ≡ false → since ≡ 1 → c ∷ followed_from c 1 cs ≡ placed (g + since) (settle W (O ∷ Os))
    afresh t u e =
        let x : eqb O W ≡ false = sym (good_is last g since c h) ∙ t in
        let n : 4 - since ≡ 3 = omega arith in
        let y : among 3 W Os ≡ false = ap (λ (m : ℕ). among m W Os) (sym n) ∙ (sym behind ∙ u) in
        stays r O refl ∙ ap (placed (g + since)) (sym (settle_out W O Os (rw (x, y))))

  restored : good_among (4 - since) last (suc since) cs ≡ true → (Near last (suc since) cs → followed_from last (suc since) cs ≡ placed (suc (g + since)) (settle W Os))
      → count_due last since ∷ followed_from last (suc since) cs ≡ placed (g + since) (settle W (O ∷ Os))
  restored t r =
      let a : among (4 - since) W Os ≡ true = sym behind ∙ t in
      let l = among_some (4 - since) W Os a in
      let m : among 3 W Os ≡ true = among_up (4 - since) W Os (omega arith) a in
      let e : 5 - suc since ≡ 4 - since = omega arith in
      ap₂ ◌∷◌ (sym (due_at_lem last g since)) (r (λ b. (omega arith, ap (λ (n : ℕ). good_among n last (suc since) cs) e ∙ t)))
      ∙ ap (placed (g + since)) (sym (settle_in W O Os (or_right (eqb O W) (among 3 W Os) m)))

near_one : (last : ℕ) (cs : List ℕ) → Near last 1 cs
near_one last cs l = absurd (omega arith)

from_is : (cs : List ℕ) → Counts cs → (last g since : ℕ) → 0 < since → Near last since cs
    → followed_from last since cs ≡ placed (g + since) (settle (less_place last g) (offsets (g + since) cs))
from_is [] h last g since pos near = refl
from_is (c ∷ cs) h last g since pos near =
    let one : g + since + 1 ≡ suc (g + since) = omega arith in
    go (is_good last since c) (good_among (4 - since) last (suc since) cs) refl refl
    (rw one at (from_is cs h.1 c (g + since) 1 (omega arith) (near_one c cs)))
    (λ n. rw (next c cs h.0 h.1 last g since pos) at (from_is cs h.1 last g (suc since) (omega arith) n))
  where
    go : (a b : Bool) → is_good last since c ≡ a → good_among (4 - since) last (suc since) cs ≡ b
        → followed_from c 1 cs ≡ placed (suc (g + since)) (settle (less_place c (g + since)) (offsets (suc (g + since)) cs))
        → (Near last (suc since) cs → followed_from last (suc since) cs ≡ placed (suc (g + since)) (settle (less_place last g) (offsets (suc (g + since)) cs)))
        → cond a (c ∷ followed_from c 1 cs) (cond b (count_due last since ∷ followed_from last (suc since) cs) (c ∷ followed_from c 1 cs))
        ≡ placed (g + since) (settle (less_place last g) (offsets (g + since) (c ∷ cs)))
    go true b ea eb r s = good c cs h.0 h.1 last g since pos r ea
    go false true ea eb r s = restored c cs h.0 h.1 last g since pos eb s
    go false false ea eb r s = afresh c cs h.0 h.1 last g since pos r ea eb (first (le_or_lt since 1))
      where
        first : (since ≤ 1) ⊎ (1 < since) → since ≡ 1
        first (inl l) = omega arith
        first (inr l) =
            let n : 5 - since ≡ suc (4 - since) = (let k = (near l).0 in omega arith) in
            let t : (is_good last since c || good_among (4 - since) last (suc since) cs) ≡ true = ap (λ (m : ℕ). good_among m last since (c ∷ cs)) (sym n) ∙ (near l).1 in
            absurd (false≢true (rw (ea, eb) at t))

-- followed by count less place
pub followed_is : (cs : List ℕ) → Counts cs → followed cs ≡ placed 0 (settled (offsets 0 cs))
unfolding followed
followed_is [] h = refl
followed_is (c ∷ cs) h = ap₂ ◌∷◌ (sym (back_at c 0 h.0)) (from_is cs h.1 c 0 1 (omega arith) (near_one c cs))

-- Followed twice

or-false : (b c : Bool) → b ≡ false → c ≡ false → (b || c) ≡ false
or-false b c e f = rw (e, f)

-- what is set among lines is that of one of them, or the last good one's
among_settle : (n v w : ℕ) (os : List ℕ) → eqb w v ≡ false → among n v os ≡ false → among n v (settle w os) ≡ false
among_settle zero v w os e f = refl
among_settle (suc n) v w [] e f = refl
among_settle (suc n) v w (o ∷ os) e f =
    let p = neither (eqb o v) (among n v os) f in
    go (among 4 w (o ∷ os)) p.0 (among_settle n v w os e p.1) (among_settle n v o os p.0 p.1)
  where
    go : (b : Bool) → eqb o v ≡ false → among n v (settle w os) ≡ false → among n v (settle o os) ≡ false → among (suc n) v (cond b (w ∷ settle w os) (o ∷ settle o os)) ≡ false
    go true t x y = or-false (eqb w v) (among n v (settle w os)) e x
    go false t x y = or-false (eqb o v) (among n v (settle o os)) t y

settle_twice : (v : ℕ) (os : List ℕ) → settle v (settle v os) ≡ settle v os
settle_twice v [] = refl
settle_twice v (o ∷ os) = go (among 4 v (o ∷ os)) refl (settle_twice v os) (settle_twice o os)
  where
    go : (b : Bool) → among 4 v (o ∷ os) ≡ b → settle v (settle v os) ≡ settle v os → settle o (settle o os) ≡ settle o os
        → settle v (cond b (v ∷ settle v os) (o ∷ settle o os)) ≡ cond b (v ∷ settle v os) (o ∷ settle o os)
    go true e r s = settle_in v v (settle v os) (or_left (eqb v v) (among 3 v (settle v os)) (eq-eqb v v refl)) ∙ ap (λ (l : List ℕ). v ∷ l) r
    go false e r s =
        let p = neither (eqb o v) (among 3 v os) e in
        settle_out v o (settle o os) (or-false (eqb o v) (among 3 v (settle o os)) p.0 (among_settle 3 v o os p.0 p.1)) ∙ ap (λ (l : List ℕ). o ∷ l) s

settled_twice : (os : List ℕ) → settled (settled os) ≡ settled os
settled_twice [] = refl
settled_twice (o ∷ os) = ap (λ (l : List ℕ). o ∷ l) (settle_twice o os)

-- counts less their places are counts, and so is what is placed
pub offsets_counts : (k : ℕ) (cs : List ℕ) → Counts (offsets k cs)
offsets_counts k [] = tt
offsets_counts k (c ∷ cs) = (omega arith, offsets_counts (suc k) cs)

pub placed_counts : (k : ℕ) (os : List ℕ) → Counts (placed k os)
placed_counts k [] = tt
placed_counts k (o ∷ os) = (omega arith, placed_counts (suc k) os)

settle_counts : (v : ℕ) (os : List ℕ) → v < 16 → Counts os → Counts (settle v os)
settle_counts v [] l h = tt
settle_counts v (o ∷ os) l h = go (among 4 v (o ∷ os)) (settle_counts v os l h.1) (settle_counts o os h.0 h.1)
  where
    go : (b : Bool) → Counts (settle v os) → Counts (settle o os) → Counts (cond b (v ∷ settle v os) (o ∷ settle o os))
    go true x y = (l, x)
    go false x y = (h.0, y)

settled_counts : (os : List ℕ) → Counts os → Counts (settled os)
settled_counts [] h = tt
settled_counts (o ∷ os) h = (h.0, settle_counts o os h.0 h.1)

offsets_placed : (k : ℕ) (os : List ℕ) → Counts os → offsets k (placed k os) ≡ os
offsets_placed k [] h = refl
offsets_placed k (o ∷ os) h = ap₂ ◌∷◌ (placed_back o k h.0) (offsets_placed (suc k) os h.1)

pub followed_counts : (cs : List ℕ) → Counts cs → Counts (followed cs)
followed_counts cs h = rw (followed_is cs h) (placed_counts 0 (settled (offsets 0 cs)))

-- 'Mending a mended recording changes nothing', of the counts of a port
pub followed_twice : (cs : List ℕ) → Counts cs → followed (followed cs) ≡ followed cs
followed_twice cs h =
    followed_is (followed cs) (followed_counts cs h)
    ∙ rw (followed_is cs h, offsets_placed 0 (settled (offsets 0 cs)) (settled_counts (offsets 0 cs) (offsets_counts 0 cs)), settled_twice (offsets 0 cs))

from_length : (last since : ℕ) (cs : List ℕ) → length (followed_from last since cs) ≡ length cs
from_length last since [] = refl
from_length last since (c ∷ cs) = go (is_good last since c) (good_among (4 - since) last (suc since) cs) (from_length c 1 cs) (from_length last (suc since) cs)
  where
    go : (a b : Bool) → length (followed_from c 1 cs) ≡ length cs → length (followed_from last (suc since) cs) ≡ length cs
        → length (cond a (c ∷ followed_from c 1 cs) (cond b (count_due last since ∷ followed_from last (suc since) cs) (c ∷ followed_from c 1 cs))) ≡ suc (length cs)
    go true b x y = ap suc x
    go false true x y = ap suc y
    go false false x y = ap suc x

-- a count for each line
pub followed_length : (cs : List ℕ) → length (followed cs) ≡ length cs
unfolding followed
followed_length [] = refl
followed_length (c ∷ cs) = ap suc (from_length c 1 cs)

-- the same where lines have no counts

pub if_length : (has : Bool) (cs : List ℕ) → length (followed_if has cs) ≡ length cs
if_length true cs = followed_length cs
if_length false cs = refl

pub if_counts : (has : Bool) (cs : List ℕ) → Counts cs → Counts (followed_if has cs)
if_counts true cs h = followed_counts cs h
if_counts false cs h = h

pub if_twice : (has : Bool) (cs : List ℕ) → Counts cs → followed_if has (followed_if has cs) ≡ followed_if has cs
if_twice true cs h = followed_twice cs h
if_twice false cs h = refl
