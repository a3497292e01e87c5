-- The frames' lines that a sweep has come by, the latest first, and their counts as they are now. What the sweep knows of a port (its Follow, the keys of its last
-- three lines) is read off the lines, and a count restored is one count set.
use Rattle.std.specs.Prelude.{◌≡◌, refl, Bool, true, false, cond, not, ◌&&◌, List, [], ◌∷◌, ℕ, zero, suc, ◌+◌, ◌-◌, ◌%◌, ◌≤◌, ◌<◌, eqb, leb, ltb}
use Rattle.std.proofs.Common.{sym, ap, ◌∙◌, ⊎_elim, le_of_suc-le-suc, not-suc-le-zero, arith}
use borrow.Author.Tests.{eqb-false, leb-true, ltb-false, ltb-true, not-true}
use Rattle.ground.specs.Truth.{and_left, and_right, cond_by, le_or_lt}
use Rattle.mending.specs.declared.follow.Follow.{Follow}
use Rattle.mending.specs.declared.follow.Keys.{Keys}
use Rattle.mending.specs.Follow.{afresh, beginning, count_back, fed, fed_if, going, less_place, restores, restores_first, restores_last, restores_second, restores_third}
use Rattle.mending.specs.Laws.Sweeps.{no_keys, with_key}
use Rattle.mending.specs.Lines.{Line}

pub record Seen : Type 0 where
  pub port : ℕ
  pub line : Line
  pub old : ℕ
  pub number : ℕ

-- of the lines of one port: how many there are, what the following has come to, and the keys of the last three

abbrev pub many_in : ℕ → List Seen → ℕ
many_in p [] = 0
many_in p (e ∷ es) = cond (eqb e.port p) (suc (many_in e.port es)) (many_in p es)

abbrev pub follow_in : Bool → ℕ → List Seen → Follow
follow_in has p [] = beginning
follow_in has p (e ∷ es) = cond (eqb e.port p) (fed_if has (follow_in has e.port es) e.old) (follow_in has p es)

-- a key by a line and those before it
abbrev pub keys_in : (List Seen → Seen → ℕ) → ℕ → List Seen → Keys
keys_in key p [] = no_keys
keys_in key p (e ∷ es) = cond (eqb e.port p) (with_key (keys_in key e.port es) (key es e)) (keys_in key p es)

-- the key of the line that lies b lines of the port behind its latest
abbrev pub back : (List Seen → Seen → ℕ) → ℕ → List Seen → ℕ → ℕ
back key p [] b = 0
back key p (e ∷ es) zero = cond (eqb e.port p) (key es e) (back key p es zero)
back key p (e ∷ es) (suc b) = cond (eqb e.port p) (back key e.port es b) (back key p es (suc b))

-- and its place in the list
abbrev pub index_back : ℕ → List Seen → ℕ → ℕ
index_back p [] b = 0
index_back p (e ∷ es) zero = cond (eqb e.port p) 0 (suc (index_back p es zero))
index_back p (e ∷ es) (suc b) = cond (eqb e.port p) (suc (index_back e.port es b)) (suc (index_back p es (suc b)))

abbrev pub old_key : List Seen → Seen → ℕ
old_key es e = e.old

abbrev pub number_key : List Seen → Seen → ℕ
number_key es e = e.number

abbrev pub offset_key : List Seen → Seen → ℕ
offset_key es e = less_place e.old (many_in e.port es)

-- the keys are those of the last three
pub record Keyed (key : List Seen → Seen → ℕ) (p : ℕ) (es : List Seen) (k : Keys) : Type 0 where
  pub third_is : k.third ≡ back key p es 0
  pub second_is : k.second ≡ back key p es 1
  pub first_is : k.first ≡ back key p es 2

pub keyed : (key : List Seen → Seen → ℕ) (p : ℕ) (es : List Seen) → Keyed key p es (keys_in key p es)
keyed key p [] = record { third_is = refl; second_is = refl; first_is = refl }
keyed key p (e ∷ es) = go (eqb e.port p) refl (keyed key e.port es) (keyed key p es)
  where
    go : (t : Bool) → eqb e.port p ≡ t → Keyed key e.port es (keys_in key e.port es) → Keyed key p es (keys_in key p es) → Keyed key p (e ∷ es) (keys_in key p (e ∷ es))
    go true t a b = record { third_is = rw t refl; second_is = rw t a.third_is; first_is = rw t a.second_is }
    go false t a b = record { third_is = rw t b.third_is; second_is = rw t b.second_is; first_is = rw t b.first_is }

-- What the following knows of its port's lines.

pub record Known (p : ℕ) (es : List Seen) (f : Follow) : Type 0 where
  pub place_is : f.place ≡ many_in p es % 16
  pub pending_few : f.pending ≤ 3
  pub pending_in : f.pending ≤ many_in p es
  pub v_small : f.v < 16
  pub first_small : f.first < 16
  pub second_small : f.second < 16
  pub third_small : f.third < 16
  pub third_is : f.third ≡ back offset_key p es 0
  pub second_is : f.second ≡ back offset_key p es 1
  pub first_is : f.first ≡ back offset_key p es 2

less_small : (count place : ℕ) → less_place count place < 16
less_small count place = omega arith

pub afresh_most : (f : Follow) (o : ℕ) → afresh f o ≤ 3
afresh_most f o = few (eqb o f.first) (eqb f.third f.first) (eqb f.second f.first)
  where
    few : (a b c : Bool) → cond {A = ℕ} a 0 (cond b 1 (cond c 2 3)) ≤ 3
    few true b c = omega arith
    few false true c = omega arith
    few false false true = omega arith
    few false false false = omega arith

module _ (p : ℕ) (e : Seen) (es : List Seen) (f : Follow) (k : Known e.port es f) (t : eqb e.port p ≡ true) where
  abbrev offset : ℕ
  offset = less_place e.old f.place

  offset_is : offset ≡ less_place e.old (many_in e.port es)
  offset_is = let q = k.place_is in omega arith

  known_going : (v pending : ℕ) → v < 16 → pending ≤ 3 → pending ≤ suc (many_in e.port es) → Known p (e ∷ es) (going f v pending offset)
  known_going v pending vs few ins =
      record {
        place_is = rw t (let q = k.place_is in omega arith);
        pending_few = few;
        pending_in = rw t ins;
        v_small = vs;
        first_small = k.second_small;
        second_small = k.third_small;
        third_small = less_small e.old f.place;
        third_is = rw t offset_is;
        second_is = rw t k.third_is;
        first_is = rw t k.second_is;
      }

  known_on : Known p (e ∷ es) (fed f e.old)
  unfolding fed
  known_on =
      let few = k.pending_few in
      let ins = k.pending_in in
      cond_by (Known p (e ∷ es)) f.begun
      (cond (eqb offset f.v) (going f f.v 0 offset) (cond (ltb f.pending 3) (going f f.v (f.pending + 1) offset) (going f f.first (afresh f offset) offset)))
      (going f offset 0 offset)
      (λ b. cond_by (Known p (e ∷ es)) (eqb offset f.v) (going f f.v 0 offset)
      (cond (ltb f.pending 3) (going f f.v (f.pending + 1) offset) (going f f.first (afresh f offset) offset))
      (λ g. known_going f.v 0 k.v_small (omega arith) (omega arith))
      (λ g. cond_by (Known p (e ∷ es)) (ltb f.pending 3) (going f f.v (f.pending + 1) offset) (going f f.first (afresh f offset) offset)
      (λ l. let less = ltb-true f.pending 3 l in known_going f.v (f.pending + 1) k.v_small (omega arith) (omega arith))
      (λ l. let more = ltb-false f.pending 3 l in let a = afresh_most f offset in known_going f.first (afresh f offset) k.first_small a (omega arith))))
      (λ b. known_going offset 0 (less_small e.old f.place) (omega arith) (omega arith))

  known_fed : (has : Bool) → Known p (e ∷ es) (fed_if has f e.old)
  known_fed true = known_on
  known_fed false = known_going offset 0 (less_small e.old f.place) (omega arith) (omega arith)

known_other : (p : ℕ) (e : Seen) (es : List Seen) (f : Follow) → eqb e.port p ≡ false → Known p es f → Known p (e ∷ es) f
known_other p e es f t k =
    record {
      place_is = rw t k.place_is;
      pending_few = k.pending_few;
      pending_in = rw t k.pending_in;
      v_small = k.v_small;
      first_small = k.first_small;
      second_small = k.second_small;
      third_small = k.third_small;
      third_is = rw t k.third_is;
      second_is = rw t k.second_is;
      first_is = rw t k.first_is;
    }

pub known : (has : Bool) (p : ℕ) (es : List Seen) → Known p es (follow_in has p es)
known has p [] =
    record {
      place_is = refl;
      pending_few = omega arith;
      pending_in = omega arith;
      v_small = omega arith;
      first_small = omega arith;
      second_small = omega arith;
      third_small = omega arith;
      third_is = refl;
      second_is = refl;
      first_is = refl;
    }
known has p (e ∷ es) = go (eqb e.port p) refl (known has e.port es) (known has p es)
  where
    go : (t : Bool) → eqb e.port p ≡ t → Known e.port es (follow_in has e.port es) → Known p es (follow_in has p es) → Known p (e ∷ es) (follow_in has p (e ∷ es))
    go true t a b = rw t (known_fed p e es (follow_in has e.port es) a t has)
    go false t a b = rw t (known_other p e es (follow_in has p es) t b)

-- the offset of a line that is there goes by its count and its place
offset_back : (p : ℕ) (es : List Seen) (b : ℕ) → b < many_in p es → back offset_key p es b ≡ less_place (back old_key p es b) (many_in p es - suc b)
offset_back p [] b h = absurd (not-suc-le-zero h)
offset_back p (e ∷ es) zero h = go (eqb e.port p) refl (offset_back p es zero) h
  where
    go : (t : Bool) → eqb e.port p ≡ t → (0 < many_in p es → back offset_key p es 0 ≡ less_place (back old_key p es 0) (many_in p es - 1)) → 0 < many_in p (e ∷ es)
        → back offset_key p (e ∷ es) 0 ≡ less_place (back old_key p (e ∷ es) 0) (many_in p (e ∷ es) - 1)
    go true t r h = let z : suc (many_in e.port es) - 1 ≡ many_in e.port es = omega arith in rw (t, z) refl
    go false t r h = rw t (r (rw t at h))
offset_back p (e ∷ es) (suc b) h = go (eqb e.port p) refl (offset_back e.port es b) (offset_back p es (suc b)) h
  where
    go : (t : Bool) → eqb e.port p ≡ t → (b < many_in e.port es → back offset_key e.port es b ≡ less_place (back old_key e.port es b) (many_in e.port es - suc b))
        → (suc b < many_in p es → back offset_key p es (suc b) ≡ less_place (back old_key p es (suc b)) (many_in p es - suc (suc b))) → suc b < many_in p (e ∷ es)
        → back offset_key p (e ∷ es) (suc b) ≡ less_place (back old_key p (e ∷ es) (suc b)) (many_in p (e ∷ es) - suc (suc b))
    go true t r q h =
        let l : suc b < suc (many_in e.port es) = rw t at h in
        let z : suc (many_in e.port es) - suc (suc b) ≡ many_in e.port es - suc b = omega arith in
        rw (t, z) (r (le_of_suc-le-suc l))
    go false t r q h = rw t (q (rw t at h))

-- a line whose offset is another than v gets another count than it had
-- in two steps: the count is v and the place, and less the place it is v again
sums : (m s : ℕ) → (m + s) % 16 ≡ (m % 16 + s) % 16
sums m s = omega arith

sum_small : (v a s : ℕ) → v < 16 → a + s < 16 → (v % 16 + 16 + (a + s) % 16 % 16 - s) % 16 ≡ (v + a) % 16
sum_small v a s vs h =
    let e : v % 16 ≡ v = omega arith in
    let y : (a + s) % 16 % 16 ≡ a + s = omega arith in
    let z : v + 16 + (a + s) - s ≡ v + a + 16 = omega arith in
    rw (e, y, z) (omega arith)

sum_great : (v a s : ℕ) → v < 16 → a < 16 → s ≤ 3 → 16 ≤ a + s → (v % 16 + 16 + (a + s) % 16 % 16 - s) % 16 ≡ (v + a) % 16
sum_great v a s vs below few h =
    let e : v % 16 ≡ v = omega arith in
    let y : (a + s) % 16 % 16 ≡ a + s - 16 = omega arith in
    let z : v + 16 + (a + s - 16) - s ≡ v + a = omega arith in
    rw (e, y, z) refl

placed : (v m s : ℕ) → v < 16 → s ≤ 3 → (v % 16 + 16 + (m + s) % 16 % 16 - s) % 16 ≡ (v + m % 16) % 16
placed v m s vs few =
    rw (sums m s)
    (⊎_elim (λ (h : 16 ≤ m % 16 + s). sum_great v (m % 16) s vs (omega arith) few h) (λ (h : m % 16 + s < 16). sum_small v (m % 16) s vs h) (le_or_lt 16 (m % 16 + s)))

unplaced : (v m : ℕ) → v < 16 → less_place ((v + m % 16) % 16) m ≡ v
unplaced v m vs = omega arith

differs : (v n b x : ℕ) → v < 16 → b < n → b ≤ 2 → (v % 16 + 16 + n % 16 % 16 - suc b) % 16 ≡ x → less_place x (n - suc b) ≡ v
differs v n b x vs h few e =
    let z : n - suc b + suc b ≡ n = omega arith in
    let a : (v + (n - suc b) % 16) % 16 ≡ x = sym (rw z at (placed v (n - suc b) (suc b) vs (omega arith))) ∙ e in
    ap (λ (y : ℕ). less_place y (n - suc b)) (sym a) ∙ unplaced v (n - suc b) vs

pub record Altered (p : ℕ) (es : List Seen) (b c : ℕ) : Type 0 where
  pub there : b < many_in p es
  pub other : c ≡ back old_key p es b → ⊥

altered : (p : ℕ) (es : List Seen) (f : Follow) → Known p es f → (v b : ℕ) → v < 16 → b < many_in p es → b ≤ 2 → eqb (back offset_key p es b) v ≡ false → Altered p es b (count_back f v (suc b))
unfolding count_back
altered p es f k v b vs h few n =
    record {
      there = h;
      other = λ (e : (v % 16 + 16 + f.place % 16 - suc b) % 16 ≡ back old_key p es b).
          eqb-false (back offset_key p es b) v n
          (offset_back p es b h ∙ differs v (many_in p es) b (back old_key p es b) vs h few (rw k.place_is at e));
    }

pub restores_said : (before after : Follow) (n o : ℕ) → restores before after n o ≡ true → (n ≤ before.pending) × (after.pending ≤ n) × (eqb o after.v ≡ false)
restores_said before after n o t =
    let u = and_left (leb n before.pending && leb after.pending n) (not (eqb o after.v)) t in (
      leb-true n before.pending (and_left (leb n before.pending) (leb after.pending n) u),
      leb-true after.pending n (and_right (leb n before.pending) (leb after.pending n) u),
      not-true (eqb o after.v) (and_right (leb n before.pending && leb after.pending n) (not (eqb o after.v)) t),
    )

module _ (p : ℕ) (es : List Seen) (f g : Follow) (k : Known p es f) (small : g.v < 16) where
  pub altered_third : restores_third f g ≡ true → Altered p es 0 (count_back f g.v 1)
  unfolding restores_third
  altered_third t =
      let s = restores_said f g 1 f.third t in
      let a = s.0 in
      let q = k.pending_in in
      altered p es f k g.v 0 small (omega arith) (omega arith) (rw k.third_is at s.2)

  pub altered_second : restores_second f g ≡ true → Altered p es 1 (count_back f g.v 2)
  unfolding restores_second
  altered_second t =
      let s = restores_said f g 2 f.second t in
      let a = s.0 in
      let q = k.pending_in in
      altered p es f k g.v 1 small (omega arith) (omega arith) (rw k.second_is at s.2)

  pub altered_first : restores_first f g ≡ true → Altered p es 2 (count_back f g.v 3)
  unfolding restores_first
  altered_first t =
      let s = restores_said f g 3 f.first t in
      let a = s.0 in
      let q = k.pending_in in
      altered p es f k g.v 2 small (omega arith) (omega arith) (rw k.first_is at s.2)

pub altered_last : (p : ℕ) (es : List Seen) (f : Follow) → Known p es f → restores_last f ≡ true → Altered p es 1 (count_back f f.first 2)
unfolding restores_last
altered_last p es f k t =
    let u = and_left (leb 3 f.pending && eqb f.third f.first) (not (eqb f.second f.first)) t in
    let a = leb-true 3 f.pending (and_left (leb 3 f.pending) (eqb f.third f.first) u) in
    let n = not-true (eqb f.second f.first) (and_right (leb 3 f.pending && eqb f.third f.first) (not (eqb f.second f.first)) t) in
    let q = k.pending_in in
    altered p es f k f.first 1 k.first_small (omega arith) (omega arith) (rw k.second_is at n)
