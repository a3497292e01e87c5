-- The automaton gives what the request's sentences give. The lines that a step takes out of the pending ones all get the same count less place, the
-- automaton's v; those that stay pending are broken by it.
use Rattle.std.specs.Prelude.{◌≡◌, Bool, true, false, cond, not, ◌&&◌, ◌||◌, List, [], ◌∷◌, ◌++◌, ℕ, zero, suc, ◌+◌, ◌-◌, ◌*◌, ◌/◌, ◌%◌, ◌≤◌, ◌<◌, eqb, leb, get_or, length, set}
use Rattle.std.proofs.Math.Path.{refl, ap}
use Rattle.std.proofs.Common.{sym, ap₂, ◌∙◌, append_assoc, append-nil, length-append, length-set, eqb-true, leb-true, lt-ltb}
use native.Mathlib.Omega.{arith}
use Rattle.std.proofs.lemmas.List.{set-get_or}
use Rattle.ground.specs.Truth.{and_left, or_left, or_right}
use Rattle.mending.specs.declared.follow.Follow.{Follow}
use Rattle.mending.specs.Follow.{afresh, beginning, count_back, fed, fed_by, fed_if, finished, following, following_if, going, less_place, restored_back, restores, restores_first, restores_last, restores_second, restores_third, set_back}
use Rattle.mending.specs.Following.{followed, followed_if}
use Rattle.mending.specs.Laws.Counts.{Counts, among, back_at, followed_is, offsets, placed, settle, settle_in, settle_out}

-- a port that has begun, k lines behind its first, n of them pending
abbrev at : ℕ → ℕ → ℕ → ℕ → ℕ → ℕ → Follow
at v k n a b c = record { begun = true; v = v; place = k % 16; pending = n; first = a; second = b; third = c }

abbrev pend : ℕ → ℕ → ℕ → ℕ → List ℕ
pend zero a b c = []
pend (suc zero) a b c = c ∷ []
pend (suc (suc zero)) a b c = b ∷ c ∷ []
pend (suc (suc (suc n))) a b c = a ∷ b ∷ c ∷ []

-- n lines behind the one at q
abbrev up : ℕ → ℕ → ℕ
up zero q = q
up (suc n) q = suc (up n q)

-- none of them good by v
abbrev Broken : ℕ → List ℕ → Type 0
Broken v [] = Unit {0}
Broken v (o ∷ os) = (eqb o v ≡ false) × Broken v os

-- Setting counts behind others

pub set_behind : (s xs : List ℕ) (i y : ℕ) → set (s ++ xs) (length s + i) y ≡ s ++ set xs i y
set_behind [] xs i y = let e : 0 + i ≡ i = omega arith in rw e
set_behind (x ∷ s) xs i y = let e : suc (length s) + i ≡ suc (length s + i) = omega arith in rw e (ap (λ (l : List ℕ). x ∷ l) (set_behind s xs i y))

back_behind : (b : Bool) (back y : ℕ) (s xs : List ℕ) → (b ≡ true → back ≤ length xs) → set_back b back y (s ++ xs) ≡ s ++ set_back b back y xs
back_behind false back y s xs h = refl
back_behind true back y s xs h =
    let n = length-append s xs in
    let l = h refl in
    let e : length (s ++ xs) - back ≡ length s + (length xs - back) = omega arith in
    rw e (set_behind s xs (length xs - back) y)

pub back_length : (b : Bool) (back y : ℕ) (xs : List ℕ) → length (set_back b back y xs) ≡ length xs
back_length true back y xs = length-set xs (length xs - back) y
back_length false back y xs = refl

restores_bound : (f g : Follow) (back o : ℕ) → restores f g back o ≡ true → back ≤ f.pending
restores_bound f g back o t =
    leb-true back f.pending
    (and_left (leb back f.pending) (leb g.pending back) (and_left (leb back f.pending && leb g.pending back) (not (eqb o g.v)) t))

restored_behind : (f g : Follow) (s xs : List ℕ) → f.pending ≤ length xs → restored_back f g (s ++ xs) ≡ s ++ restored_back f g xs
unfolding restored_back restores_first restores_second restores_third
restored_behind f g s xs l =
    let y1 = count_back f g.v 1 in
    let y2 = count_back f g.v 2 in
    let y3 = count_back f g.v 3 in
    let b1 = restores f g 1 f.third in
    let b2 = restores f g 2 f.second in
    let b3 = restores f g 3 f.first in
    let x3 = set_back b3 3 y3 xs in
    let x2 = set_back b2 2 y2 x3 in
    let n3 : length x3 ≡ length xs = back_length b3 3 y3 xs in
    let n2 : length x2 ≡ length x3 = back_length b2 2 y2 x3 in
    let e3 = back_behind b3 3 y3 s xs (λ t. let k = restores_bound f g 3 f.first t in omega arith) in
    let e2 = back_behind b2 2 y2 s x3 (λ t. let k = restores_bound f g 2 f.second t in omega arith) in
    let e1 = back_behind b1 1 y1 s x2 (λ t. let k = restores_bound f g 1 f.third t in omega arith) in
    ap (set_back b1 1 y1) (ap (set_back b2 2 y2) e3 ∙ e2) ∙ e1

-- one after the other
back_chain : (f g : Follow) (xs x3 x2 x1 : List ℕ) → set_back (restores_first f g) 3 (count_back f g.v 3) xs ≡ x3 → set_back (restores_second f g) 2 (count_back f g.v 2) x3 ≡ x2
    → set_back (restores_third f g) 1 (count_back f g.v 1) x2 ≡ x1 → restored_back f g xs ≡ x1
unfolding restored_back
back_chain f g xs x3 x2 x1 e3 e2 e1 =
    ap (set_back (restores_third f g) 1 (count_back f g.v 1)) (ap (set_back (restores_second f g) 2 (count_back f g.v 2)) e3 ∙ e2) ∙ e1

-- one that has what it would get may be set as well
set_either : (o w p : ℕ) (xs : List ℕ) (i y : ℕ) → y ≡ (w + p) % 16 → get_or xs i 0 ≡ (o + p) % 16 → cond (not (eqb o w)) (set xs i y) xs ≡ set xs i ((w + p) % 16)
set_either o w p xs i y e g = go (eqb o w) refl
  where
    go : (b : Bool) → eqb o w ≡ b → cond (not b) (set xs i y) xs ≡ set xs i ((w + p) % 16)
    go true t =
        let s : get_or xs i 0 ≡ (w + p) % 16 = g ∙ ap (λ (n : ℕ). (n + p) % 16) (eqb-true o w t) in
        sym (set-get_or xs i 0) ∙ ap (set xs i) s
    go false t = ap (set xs i) e

-- what is set
back_plain : (x y i j back : ℕ) → back ≤ 16 → (x + 16 + y - back) % 16 ≡ (i * 16 + x + (j * 16 + y) + (16 - back)) % 16
back_plain x y i j back l = omega arith

back_sum : (w k back : ℕ) → back ≤ 16 → (w % 16 + 16 + k % 16 % 16 - back) % 16 ≡ (w + k + (16 - back)) % 16
back_sum w k back l =
    let m : k % 16 % 16 ≡ k % 16 = omega arith in
    let i : w / 16 * 16 + w % 16 ≡ w = omega arith in
    let j : k / 16 * 16 + k % 16 ≡ k = omega arith in
    ap (λ (n : ℕ). (w % 16 + 16 + n - back) % 16) m
    ∙ (back_plain (w % 16) (k % 16) (w / 16) (k / 16) back l ∙ ap₂ (λ (m n : ℕ). (m + n + (16 - back)) % 16) i j)

module _ (v n a b c w p : ℕ) where
  back_one : count_back (at v (suc p) n a b c) w 1 ≡ (w + p) % 16
  unfolding count_back
  back_one = back_sum w (suc p) 1 (omega arith) ∙ omega arith

  back_two : count_back (at v (suc (suc p)) n a b c) w 2 ≡ (w + p) % 16
  unfolding count_back
  back_two = back_sum w (suc (suc p)) 2 (omega arith) ∙ omega arith

  back_three : count_back (at v (suc (suc (suc p))) n a b c) w 3 ≡ (w + p) % 16
  unfolding count_back
  back_three = back_sum w (suc (suc (suc p))) 3 (omega arith) ∙ omega arith

-- A step

less_mod : (x k : ℕ) → less_place x (k % 16) ≡ less_place x k
less_mod x k = omega arith

place_next : (k : ℕ) → (k % 16 % 16 + 1) % 16 ≡ suc k % 16
place_next k = omega arith

going_is : (v k n a b c w m o : ℕ) → going (at v k n a b c) w m o ≡ at w (suc k) m b c o
going_is v k n a b c w m o =
    let next : ℕ → Follow = λ p. record { begun = true; v = w; place = p; pending = m; first = b; second = c; third = o } in
    ap next (place_next k)

module _ (v k n a b c x : ℕ) where
  by_offset : fed (at v k n a b c) x ≡ fed_by (at v k n a b c) (less_place x k)
  unfolding fed
  by_offset = ap (fed_by (at v k n a b c)) (less_mod x k)

  step_good : eqb (less_place x k) v ≡ true → fed (at v k n a b c) x ≡ at v (suc k) 0 b c (less_place x k)
  step_good t = by_offset ∙ rw t (going_is v k n a b c v 0 (less_place x k))

  step_wait : eqb (less_place x k) v ≡ false → n < 3 → fed (at v k n a b c) x ≡ at v (suc k) (n + 1) b c (less_place x k)
  step_wait t l = by_offset ∙ rw (t, lt-ltb n 3 l) (going_is v k n a b c v (n + 1) (less_place x k))

step_afresh : (v k a b c x : ℕ) → eqb (less_place x k) v ≡ false → fed (at v k 3 a b c) x ≡ at a (suc k) (afresh (at v k 3 a b c) (less_place x k)) b c (less_place x k)
step_afresh v k a b c x t = by_offset v k 3 a b c x ∙ rw t (going_is v k 3 a b c a (afresh (at v k 3 a b c) (less_place x k)) (less_place x k))

-- broken lines before a good one
among_at : (n v : ℕ) (ps : List ℕ) (o : ℕ) (os : List ℕ) → length ps < n → eqb o v ≡ true → among n v (ps ++ (o ∷ os)) ≡ true
among_at zero v ps o os l e = absurd (omega arith)
among_at (suc n) v [] o os l e = or_left (eqb o v) (among n v os) e
among_at (suc n) v (p ∷ ps) o os l e = or_right (eqb p v) (among n v (ps ++ (o ∷ os))) (among_at n v ps o os (omega arith) e)

abbrev all : ℕ → List ℕ → List ℕ
all v [] = []
all v (p ∷ ps) = v ∷ all v ps

reach : (v : ℕ) (ps : List ℕ) (o : ℕ) (os : List ℕ) → length ps ≤ 3 → eqb o v ≡ true → settle v (ps ++ (o ∷ os)) ≡ all v ps ++ (v ∷ settle v os)
reach v [] o os l e = settle_in v o os (among_at 4 v [] o os (omega arith) e)
reach v (p ∷ ps) o os l e =
    settle_in v p (ps ++ (o ∷ os)) (among_at 4 v (p ∷ ps) o os (omega arith) e) ∙ ap (λ (t : List ℕ). v ∷ t) (reach v ps o os (omega arith) e)

-- from a step to the end
conclude : (f g : Follow) (x : ℕ) (cs s ps ds qs xs ys : List ℕ) → fed f x ≡ g → f.pending ≤ length ps → restored_back f g ps ++ (x ∷ []) ≡ ds ++ qs
    → following g ((s ++ ds) ++ qs) cs ≡ (s ++ ds) ++ xs → ds ++ xs ≡ ys → following f (s ++ ps) (x ∷ cs) ≡ s ++ ys
conclude f g x cs s ps ds qs xs ys e l r i j =
    let run : Follow → List ℕ = λ t. following t (restored_back f t (s ++ ps) ++ (x ∷ [])) cs in
    let m : restored_back f g (s ++ ps) ++ (x ∷ []) ≡ (s ++ ds) ++ qs =
    ap (λ (t : List ℕ). t ++ (x ∷ [])) (restored_behind f g s ps l) ∙ (append_assoc s (restored_back f g ps) (x ∷ []) ∙ (ap (λ (t : List ℕ). s ++ t) r ∙ sym (append_assoc s ds qs))) in
    ap run e ∙ (ap (λ (t : List ℕ). following g t cs) m ∙ (i ∙ (append_assoc s ds xs ∙ ap (λ (t : List ℕ). s ++ t) j)))

-- counts with one more behind them
more : (xs ys : List ℕ) (x y : ℕ) → xs ≡ ys → x ≡ y → xs ++ (x ∷ []) ≡ ys ++ (y ∷ [])
more xs ys x y e f = ap₂ (λ (t : List ℕ) (n : ℕ). t ++ (n ∷ [])) e f

-- the line's own count, by its own count less place and by that of the last good one
own : (x k : ℕ) → x < 16 → x ≡ (less_place x k + k) % 16
own x k h = sym (back_at x k h)

owned : (x k v : ℕ) → x < 16 → eqb (less_place x k) v ≡ true → x ≡ (v + k) % 16
owned x k v h t = own x k h ∙ ap (λ (n : ℕ). (n + k) % 16) (eqb-true (less_place x k) v t)

-- What a step does to the pending counts

module _ (v a b c q : ℕ) (g : Follow) where
  none_back : restored_back (at v q 0 a b c) g [] ≡ []
  unfolding restored_back restores_first restores_second restores_third
  none_back = refl

module _ (v a b c q o : ℕ) where
  -- one pending
  one_good : restored_back (at v (suc q) 1 a b c) (at v (suc (suc q)) 0 b c o) (placed q (c ∷ [])) ≡ placed q (v ∷ [])
  unfolding restores_first restores_second restores_third
  one_good =
      back_chain (at v (suc q) 1 a b c) (at v (suc (suc q)) 0 b c o) (placed q (c ∷ [])) (placed q (c ∷ [])) (placed q (c ∷ [])) (placed q (v ∷ [])) refl refl
      (set_either c v q (placed q (c ∷ [])) 0 (count_back (at v (suc q) 1 a b c) v 1) (back_one v 1 a b c v q) refl)

  one_wait : restored_back (at v (suc q) 1 a b c) (at v (suc (suc q)) 2 b c o) (placed q (c ∷ [])) ≡ placed q (c ∷ [])
  unfolding restored_back restores_first restores_second restores_third
  one_wait = refl

  -- two
  two_good : restored_back (at v (suc (suc q)) 2 a b c) (at v (suc (suc (suc q))) 0 b c o) (placed q (b ∷ c ∷ [])) ≡ placed q (v ∷ v ∷ [])
  unfolding restores_first restores_second restores_third
  two_good =
      back_chain (at v (suc (suc q)) 2 a b c) (at v (suc (suc (suc q))) 0 b c o) (placed q (b ∷ c ∷ [])) (placed q (b ∷ c ∷ [])) (placed q (v ∷ c ∷ [])) (placed q (v ∷ v ∷ [])) refl
      (set_either b v q (placed q (b ∷ c ∷ [])) 0 (count_back (at v (suc (suc q)) 2 a b c) v 2) (back_two v 2 a b c v q) refl)
      (set_either c v (suc q) (placed q (v ∷ c ∷ [])) 1 (count_back (at v (suc (suc q)) 2 a b c) v 1) (back_one v 2 a b c v (suc q)) refl)

  two_wait : restored_back (at v (suc (suc q)) 2 a b c) (at v (suc (suc (suc q))) 3 b c o) (placed q (b ∷ c ∷ [])) ≡ placed q (b ∷ c ∷ [])
  unfolding restored_back restores_first restores_second restores_third
  two_wait = refl

  -- three
  abbrev Three : Follow
  Three = at v (suc (suc (suc q))) 3 a b c

  abbrev Abc : List ℕ
  Abc = placed q (a ∷ b ∷ c ∷ [])

  first_set : (w : ℕ) → cond (not (eqb a w)) (set Abc 0 (count_back Three w 3)) Abc ≡ placed q (w ∷ b ∷ c ∷ [])
  first_set w = set_either a w q Abc 0 (count_back Three w 3) (back_three v 3 a b c w q) refl

  second_set : (w : ℕ) → cond (not (eqb b w)) (set (placed q (w ∷ b ∷ c ∷ [])) 1 (count_back Three w 2)) (placed q (w ∷ b ∷ c ∷ [])) ≡ placed q (w ∷ w ∷ c ∷ [])
  second_set w = set_either b w (suc q) (placed q (w ∷ b ∷ c ∷ [])) 1 (count_back Three w 2) (back_two v 3 a b c w (suc q)) refl

  third_set : (w : ℕ) → cond (not (eqb c w)) (set (placed q (w ∷ w ∷ c ∷ [])) 2 (count_back Three w 1)) (placed q (w ∷ w ∷ c ∷ [])) ≡ placed q (w ∷ w ∷ w ∷ [])
  third_set w = set_either c w (suc (suc q)) (placed q (w ∷ w ∷ c ∷ [])) 2 (count_back Three w 1) (back_one v 3 a b c w (suc (suc q))) refl

  -- by the same v, or afresh: none of them is pending any more
  three_all : (w : ℕ) → restored_back Three (at w (suc (suc (suc (suc q)))) 0 b c o) Abc ≡ placed q (w ∷ w ∷ w ∷ [])
  unfolding restores_first restores_second restores_third
  three_all w =
      back_chain Three (at w (suc (suc (suc (suc q)))) 0 b c o) Abc (placed q (w ∷ b ∷ c ∷ [])) (placed q (w ∷ w ∷ c ∷ [])) (placed q (w ∷ w ∷ w ∷ [])) (first_set w) (second_set w) (third_set w)

  -- afresh, the line itself pending
  three_one : eqb c a ≡ true → restored_back Three (at a (suc (suc (suc (suc q)))) 1 b c o) Abc ≡ placed q (a ∷ a ∷ a ∷ [])
  unfolding restores_first restores_second restores_third
  three_one e =
      back_chain Three (at a (suc (suc (suc (suc q)))) 1 b c o) Abc (placed q (a ∷ b ∷ c ∷ [])) (placed q (a ∷ a ∷ c ∷ [])) (placed q (a ∷ a ∷ a ∷ [])) (first_set a) (second_set a) (third_set a)

  -- and the third
  three_two : eqb b a ≡ true → restored_back Three (at a (suc (suc (suc (suc q)))) 2 b c o) Abc ≡ placed q (a ∷ a ∷ c ∷ [])
  unfolding restores_first restores_second restores_third
  three_two e =
      back_chain Three (at a (suc (suc (suc (suc q)))) 2 b c o) Abc (placed q (a ∷ b ∷ c ∷ [])) (placed q (a ∷ a ∷ c ∷ [])) (placed q (a ∷ a ∷ c ∷ [])) (first_set a) (second_set a) refl

  -- and the second
  three_three : restored_back Three (at a (suc (suc (suc (suc q)))) 3 b c o) Abc ≡ placed q (a ∷ b ∷ c ∷ [])
  unfolding restores_first restores_second restores_third
  three_three =
      back_chain Three (at a (suc (suc (suc (suc q)))) 3 b c o) Abc (placed q (a ∷ b ∷ c ∷ [])) (placed q (a ∷ b ∷ c ∷ [])) (placed q (a ∷ b ∷ c ∷ [])) (first_set a) refl refl

-- The end

last_one : (w c : ℕ) → settle w (c ∷ []) ≡ c ∷ []
last_one w c = go (eqb c w) refl
  where
    go : (t : Bool) → eqb c w ≡ t → cond (t || false) (w ∷ []) (c ∷ []) ≡ c ∷ []
    go true e = ap (λ (n : ℕ). n ∷ []) (sym (eqb-true c w e))
    go false e = refl

end_three : (v a b c q : ℕ) → Broken v (a ∷ b ∷ c ∷ []) → finished (at v (suc (suc (suc q))) 3 a b c) (placed q (a ∷ b ∷ c ∷ [])) ≡ placed q (settle v (a ∷ b ∷ c ∷ []))
unfolding finished restores_last
end_three v a b c q br = go (eqb c a) (eqb b a) refl refl ∙ ap (placed q) (sym (settle_out v a (b ∷ c ∷ []) (rw (br.0, br.1.0, br.1.1.0))))
  where
    go : (x y : Bool) → eqb c a ≡ x → eqb b a ≡ y
        → cond (x && not (eqb b a)) (set (placed q (a ∷ b ∷ c ∷ [])) 1 (count_back (at v (suc (suc (suc q))) 3 a b c) a 2)) (placed q (a ∷ b ∷ c ∷ [])) ≡ placed q (a ∷ settle a (b ∷ c ∷ []))
    go true y e f =
        second_set v a b c q 0 a
        ∙ ap (placed q) (ap (λ (n : ℕ). a ∷ a ∷ n ∷ []) (eqb-true c a e) ∙ ap (λ (t : List ℕ). a ∷ t) (sym (reach a (b ∷ []) c [] (omega arith) e)))
    go false true e f =
        ap (placed q) (ap (λ (n : ℕ). a ∷ n ∷ c ∷ []) (eqb-true b a f) ∙ ap (λ (t : List ℕ). a ∷ t) (sym (reach a [] b (c ∷ []) (omega arith) f ∙ ap (λ (t : List ℕ). a ∷ t) (last_one a c))))
    go false false e f =
        ap (placed q) (ap (λ (t : List ℕ). a ∷ t) (sym (settle_out a b (c ∷ []) (rw (f, e)) ∙ ap (λ (t : List ℕ). b ∷ t) (last_one b c))))

end_is : (n v a b c q : ℕ) → n ≤ 3 → Broken v (pend n a b c) → finished (at v (up n q) n a b c) (placed q (pend n a b c)) ≡ placed q (settle v (pend n a b c))
unfolding finished restores_last
end_is zero v a b c q l br = refl
end_is (suc zero) v a b c q l br = ap (placed q) (sym (last_one v c))
end_is (suc (suc zero)) v a b c q l br = ap (placed q) (sym (settle_out v b (c ∷ []) (rw (br.0, br.1.0)) ∙ ap (λ (t : List ℕ). b ∷ t) (last_one b c)))
end_is (suc (suc (suc zero))) v a b c q l br = end_three v a b c q br
end_is (suc (suc (suc (suc n)))) v a b c q l br = absurd (omega arith)

last_bound : (f : Follow) → restores_last f ≡ true → 3 ≤ f.pending
unfolding restores_last
last_bound f t = leb-true 3 f.pending (and_left (leb 3 f.pending) (eqb f.third f.first) (and_left (leb 3 f.pending && eqb f.third f.first) (not (eqb f.second f.first)) t))

finished_behind : (f : Follow) (s xs : List ℕ) → f.pending ≤ length xs → finished f (s ++ xs) ≡ s ++ finished f xs
unfolding finished
finished_behind f s xs l = back_behind (restores_last f) 2 (count_back f f.first 2) s xs (λ t. let k = last_bound f t in omega arith)

pend_length : (n a b c q : ℕ) → n ≤ 3 → n ≤ length (placed q (pend n a b c))
pend_length zero a b c q l = omega arith
pend_length (suc zero) a b c q l = omega arith
pend_length (suc (suc zero)) a b c q l = omega arith
pend_length (suc (suc (suc zero))) a b c q l = omega arith
pend_length (suc (suc (suc (suc n)))) a b c q l = absurd (omega arith)

pub nothing : (l : List ℕ) → l ++ [] ≡ l
nothing [] = refl
nothing (x ∷ l) = ap (λ (t : List ℕ). x ∷ t) (nothing l)

-- All lines

abbrev Runs : List ℕ → Type 0
Runs cs =
    (n v a b c q : ℕ) (s : List ℕ) → n ≤ 3 → Broken v (pend n a b c)
    → following (at v (up n q) n a b c) (s ++ placed q (pend n a b c)) cs ≡ s ++ placed q (settle v (pend n a b c ++ offsets (up n q) cs))

module _ (x : ℕ) (cs : List ℕ) (h : x < 16) (r : Runs cs) where
  from_none : (v a b c q : ℕ) (s : List ℕ) → Broken v (pend zero a b c)
      → following (at v (up zero q) zero a b c) (s ++ placed q (pend zero a b c)) (x ∷ cs) ≡ s ++ placed q (settle v (pend zero a b c ++ offsets (up zero q) (x ∷ cs)))
  from_none v a b c q s br = go (eqb (less_place x q) v) refl
    where
      go : (t : Bool) → eqb (less_place x q) v ≡ t → following (at v q 0 a b c) (s ++ []) (x ∷ cs) ≡ s ++ placed q (settle v (less_place x q ∷ offsets (suc q) cs))
      go true e =
          conclude (at v q 0 a b c) (at v (suc q) 0 b c (less_place x q)) x cs s [] (placed q (v ∷ [])) [] (placed (suc q) (settle v (offsets (suc q) cs))) (placed q (settle v (less_place x q ∷ offsets (suc q) cs)))
          (step_good v q 0 a b c x e) (omega arith) (more (restored_back (at v q 0 a b c) (at v (suc q) 0 b c (less_place x q)) []) [] x ((v + q) % 16) (none_back v a b c q (at v (suc q) 0 b c (less_place x q))) (owned x q v h e))
          (r 0 v b c (less_place x q) (suc q) (s ++ placed q (v ∷ [])) (omega arith) tt)
          (ap (placed q) (sym (reach v [] (less_place x q) (offsets (suc q) cs) (omega arith) e)))
      go false e =
          conclude (at v q 0 a b c) (at v (suc q) 1 b c (less_place x q)) x cs s [] [] (placed q (less_place x q ∷ [])) (placed q (settle v (less_place x q ∷ offsets (suc q) cs))) (placed q (settle v (less_place x q ∷ offsets (suc q) cs)))
          (step_wait v q 0 a b c x e (omega arith)) (omega arith) (more (restored_back (at v q 0 a b c) (at v (suc q) 1 b c (less_place x q)) []) [] x ((less_place x q + q) % 16) (none_back v a b c q (at v (suc q) 1 b c (less_place x q))) (own x q h))
          (r 1 v b c (less_place x q) q (s ++ []) (omega arith) (e, tt))
          refl

  from_one : (v a b c q : ℕ) (s : List ℕ) → Broken v (pend (suc zero) a b c)
      → following (at v (up (suc zero) q) (suc zero) a b c) (s ++ placed q (pend (suc zero) a b c)) (x ∷ cs) ≡ s ++ placed q (settle v (pend (suc zero) a b c ++ offsets (up (suc zero) q) (x ∷ cs)))
  from_one v a b c q s br = go (eqb (less_place x (suc q)) v) refl
    where
      go : (t : Bool) → eqb (less_place x (suc q)) v ≡ t → following (at v (suc q) 1 a b c) (s ++ placed q (c ∷ [])) (x ∷ cs) ≡ s ++ placed q (settle v (c ∷ less_place x (suc q) ∷ offsets (suc (suc q)) cs))
      go true e =
          conclude (at v (suc q) 1 a b c) (at v (suc (suc q)) 0 b c (less_place x (suc q))) x cs s (placed q (c ∷ [])) (placed q (v ∷ v ∷ [])) [] (placed (suc (suc q)) (settle v (offsets (suc (suc q)) cs))) (placed q (settle v (c ∷ less_place x (suc q) ∷ offsets (suc (suc q)) cs)))
          (step_good v (suc q) 1 a b c x e) (omega arith)
          (more (restored_back (at v (suc q) 1 a b c) (at v (suc (suc q)) 0 b c (less_place x (suc q))) (placed q (c ∷ []))) (placed q (v ∷ [])) x ((v + suc q) % 16) (one_good v a b c q (less_place x (suc q))) (owned x (suc q) v h e))
          (r 0 v b c (less_place x (suc q)) (suc (suc q)) (s ++ placed q (v ∷ v ∷ [])) (omega arith) tt)
          (ap (placed q) (sym (reach v (c ∷ []) (less_place x (suc q)) (offsets (suc (suc q)) cs) (omega arith) e)))
      go false e =
          conclude (at v (suc q) 1 a b c) (at v (suc (suc q)) 2 b c (less_place x (suc q))) x cs s (placed q (c ∷ [])) [] (placed q (c ∷ less_place x (suc q) ∷ [])) (placed q (settle v (c ∷ less_place x (suc q) ∷ offsets (suc (suc q)) cs))) (placed q (settle v (c ∷ less_place x (suc q) ∷ offsets (suc (suc q)) cs)))
          (step_wait v (suc q) 1 a b c x e (omega arith)) (omega arith)
          (more (restored_back (at v (suc q) 1 a b c) (at v (suc (suc q)) 2 b c (less_place x (suc q))) (placed q (c ∷ []))) (placed q (c ∷ [])) x ((less_place x (suc q) + suc q) % 16) (one_wait v a b c q (less_place x (suc q))) (own x (suc q) h))
          (r 2 v b c (less_place x (suc q)) q (s ++ []) (omega arith) (br.0, (e, tt)))
          refl

  from_two : (v a b c q : ℕ) (s : List ℕ) → Broken v (pend (suc (suc zero)) a b c)
      → following (at v (up (suc (suc zero)) q) (suc (suc zero)) a b c) (s ++ placed q (pend (suc (suc zero)) a b c)) (x ∷ cs) ≡ s ++ placed q (settle v (pend (suc (suc zero)) a b c ++ offsets (up (suc (suc zero)) q) (x ∷ cs)))
  from_two v a b c q s br = go (eqb (less_place x (suc (suc q))) v) refl
    where
      go : (t : Bool) → eqb (less_place x (suc (suc q))) v ≡ t
          → following (at v (suc (suc q)) 2 a b c) (s ++ placed q (b ∷ c ∷ [])) (x ∷ cs) ≡ s ++ placed q (settle v (b ∷ c ∷ less_place x (suc (suc q)) ∷ offsets (suc (suc (suc q))) cs))
      go true e =
          conclude (at v (suc (suc q)) 2 a b c) (at v (suc (suc (suc q))) 0 b c (less_place x (suc (suc q)))) x cs s (placed q (b ∷ c ∷ [])) (placed q (v ∷ v ∷ v ∷ [])) [] (placed (suc (suc (suc q))) (settle v (offsets (suc (suc (suc q))) cs)))
          (placed q (settle v (b ∷ c ∷ less_place x (suc (suc q)) ∷ offsets (suc (suc (suc q))) cs)))
          (step_good v (suc (suc q)) 2 a b c x e) (omega arith)
          (more (restored_back (at v (suc (suc q)) 2 a b c) (at v (suc (suc (suc q))) 0 b c (less_place x (suc (suc q)))) (placed q (b ∷ c ∷ []))) (placed q (v ∷ v ∷ [])) x ((v + suc (suc q)) % 16) (two_good v a b c q (less_place x (suc (suc q)))) (owned x (suc (suc q)) v h e))
          (r 0 v b c (less_place x (suc (suc q))) (suc (suc (suc q))) (s ++ placed q (v ∷ v ∷ v ∷ [])) (omega arith) tt)
          (ap (placed q) (sym (reach v (b ∷ c ∷ []) (less_place x (suc (suc q))) (offsets (suc (suc (suc q))) cs) (omega arith) e)))
      go false e =
          conclude (at v (suc (suc q)) 2 a b c) (at v (suc (suc (suc q))) 3 b c (less_place x (suc (suc q)))) x cs s (placed q (b ∷ c ∷ [])) [] (placed q (b ∷ c ∷ less_place x (suc (suc q)) ∷ []))
          (placed q (settle v (b ∷ c ∷ less_place x (suc (suc q)) ∷ offsets (suc (suc (suc q))) cs))) (placed q (settle v (b ∷ c ∷ less_place x (suc (suc q)) ∷ offsets (suc (suc (suc q))) cs)))
          (step_wait v (suc (suc q)) 2 a b c x e (omega arith)) (omega arith)
          (more (restored_back (at v (suc (suc q)) 2 a b c) (at v (suc (suc (suc q))) 3 b c (less_place x (suc (suc q)))) (placed q (b ∷ c ∷ []))) (placed q (b ∷ c ∷ [])) x ((less_place x (suc (suc q)) + suc (suc q)) % 16) (two_wait v a b c q (less_place x (suc (suc q)))) (own x (suc (suc q)) h))
          (r 3 v b c (less_place x (suc (suc q))) q (s ++ []) (omega arith) (br.0, (br.1.0, (e, tt))))
          refl

  -- Three broken lines wait. A good one restores all three; a fourth broken one starts afresh at the first, a, and then so many of the four are good by a as lie before the next good one: none waits, or one, two or three do.
  from_three : (v a b c q : ℕ) (s : List ℕ) → Broken v (pend (suc (suc (suc zero))) a b c)
      → following (at v (up (suc (suc (suc zero))) q) (suc (suc (suc zero))) a b c) (s ++ placed q (pend (suc (suc (suc zero))) a b c)) (x ∷ cs) ≡ s ++ placed q (settle v (pend (suc (suc (suc zero))) a b c ++ offsets (up (suc (suc (suc zero))) q) (x ∷ cs)))
  from_three v a b c q s br = go (eqb (less_place x (suc (suc (suc q)))) v) refl
    where
      -- all four are broken: afresh at the first
      first : eqb (less_place x (suc (suc (suc q)))) v ≡ false → (t : List ℕ) → settle a (b ∷ c ∷ less_place x (suc (suc (suc q))) ∷ offsets (suc (suc (suc (suc q)))) cs) ≡ t
          → placed q (a ∷ t) ≡ placed q (settle v (a ∷ b ∷ c ∷ less_place x (suc (suc (suc q))) ∷ offsets (suc (suc (suc (suc q)))) cs))
      first e t r =
          ap (placed q) (sym (settle_out v a (b ∷ c ∷ less_place x (suc (suc (suc q))) ∷ offsets (suc (suc (suc (suc q)))) cs) (rw (br.0, br.1.0, br.1.1.0, e)) ∙ ap (λ (u : List ℕ). a ∷ u) r))

      fresh : eqb (less_place x (suc (suc (suc q)))) v ≡ false → (u y z : Bool) → eqb (less_place x (suc (suc (suc q)))) a ≡ u → eqb c a ≡ y → eqb b a ≡ z
          → following (at v (suc (suc (suc q))) 3 a b c) (s ++ placed q (a ∷ b ∷ c ∷ [])) (x ∷ cs) ≡ s ++ placed q (settle v (a ∷ b ∷ c ∷ less_place x (suc (suc (suc q))) ∷ offsets (suc (suc (suc (suc q)))) cs))
      fresh e true y z f fy fz =
          conclude (at v (suc (suc (suc q))) 3 a b c) (at a (suc (suc (suc (suc q)))) 0 b c (less_place x (suc (suc (suc q))))) x cs s (placed q (a ∷ b ∷ c ∷ [])) (placed q (a ∷ a ∷ a ∷ a ∷ [])) [] (placed (suc (suc (suc (suc q)))) (settle a (offsets (suc (suc (suc (suc q)))) cs)))
          (placed q (settle v (a ∷ b ∷ c ∷ less_place x (suc (suc (suc q))) ∷ offsets (suc (suc (suc (suc q)))) cs)))
          (step_afresh v (suc (suc (suc q))) a b c x e ∙ rw f) (omega arith)
          (more (restored_back (at v (suc (suc (suc q))) 3 a b c) (at a (suc (suc (suc (suc q)))) 0 b c (less_place x (suc (suc (suc q))))) (placed q (a ∷ b ∷ c ∷ []))) (placed q (a ∷ a ∷ a ∷ [])) x ((a + suc (suc (suc q))) % 16)
          (three_all v a b c q (less_place x (suc (suc (suc q)))) a) (owned x (suc (suc (suc q))) a h f))
          (r 0 a b c (less_place x (suc (suc (suc q)))) (suc (suc (suc (suc q)))) (s ++ placed q (a ∷ a ∷ a ∷ a ∷ [])) (omega arith) tt)
          (first e (a ∷ a ∷ a ∷ settle a (offsets (suc (suc (suc (suc q)))) cs)) (reach a (b ∷ c ∷ []) (less_place x (suc (suc (suc q)))) (offsets (suc (suc (suc (suc q)))) cs) (omega arith) f))
      fresh e false true z f fy fz =
          conclude (at v (suc (suc (suc q))) 3 a b c) (at a (suc (suc (suc (suc q)))) 1 b c (less_place x (suc (suc (suc q))))) x cs s (placed q (a ∷ b ∷ c ∷ [])) (placed q (a ∷ a ∷ a ∷ [])) (placed (suc (suc (suc q))) (less_place x (suc (suc (suc q))) ∷ []))
          (placed (suc (suc (suc q))) (settle a (less_place x (suc (suc (suc q))) ∷ offsets (suc (suc (suc (suc q)))) cs))) (placed q (settle v (a ∷ b ∷ c ∷ less_place x (suc (suc (suc q))) ∷ offsets (suc (suc (suc (suc q)))) cs)))
          (step_afresh v (suc (suc (suc q))) a b c x e ∙ rw (f, fy)) (omega arith)
          (more (restored_back (at v (suc (suc (suc q))) 3 a b c) (at a (suc (suc (suc (suc q)))) 1 b c (less_place x (suc (suc (suc q))))) (placed q (a ∷ b ∷ c ∷ []))) (placed q (a ∷ a ∷ a ∷ [])) x ((less_place x (suc (suc (suc q))) + suc (suc (suc q))) % 16)
          (three_one v a b c q (less_place x (suc (suc (suc q)))) fy) (own x (suc (suc (suc q))) h))
          (r 1 a b c (less_place x (suc (suc (suc q)))) (suc (suc (suc q))) (s ++ placed q (a ∷ a ∷ a ∷ [])) (omega arith) (f, tt))
          (first e (a ∷ a ∷ settle a (less_place x (suc (suc (suc q))) ∷ offsets (suc (suc (suc (suc q)))) cs)) (reach a (b ∷ []) c (less_place x (suc (suc (suc q))) ∷ offsets (suc (suc (suc (suc q)))) cs) (omega arith) fy))
      fresh e false false true f fy fz =
          conclude (at v (suc (suc (suc q))) 3 a b c) (at a (suc (suc (suc (suc q)))) 2 b c (less_place x (suc (suc (suc q))))) x cs s (placed q (a ∷ b ∷ c ∷ [])) (placed q (a ∷ a ∷ [])) (placed (suc (suc q)) (c ∷ less_place x (suc (suc (suc q))) ∷ []))
          (placed (suc (suc q)) (settle a (c ∷ less_place x (suc (suc (suc q))) ∷ offsets (suc (suc (suc (suc q)))) cs))) (placed q (settle v (a ∷ b ∷ c ∷ less_place x (suc (suc (suc q))) ∷ offsets (suc (suc (suc (suc q)))) cs)))
          (step_afresh v (suc (suc (suc q))) a b c x e ∙ rw (f, fy, fz)) (omega arith)
          (more (restored_back (at v (suc (suc (suc q))) 3 a b c) (at a (suc (suc (suc (suc q)))) 2 b c (less_place x (suc (suc (suc q))))) (placed q (a ∷ b ∷ c ∷ []))) (placed q (a ∷ a ∷ c ∷ [])) x ((less_place x (suc (suc (suc q))) + suc (suc (suc q))) % 16)
          (three_two v a b c q (less_place x (suc (suc (suc q)))) fz) (own x (suc (suc (suc q))) h))
          (r 2 a b c (less_place x (suc (suc (suc q)))) (suc (suc q)) (s ++ placed q (a ∷ a ∷ [])) (omega arith) (fy, (f, tt)))
          (first e (a ∷ settle a (c ∷ less_place x (suc (suc (suc q))) ∷ offsets (suc (suc (suc (suc q)))) cs)) (reach a [] b (c ∷ less_place x (suc (suc (suc q))) ∷ offsets (suc (suc (suc (suc q)))) cs) (omega arith) fz))
      fresh e false false false f fy fz =
          conclude (at v (suc (suc (suc q))) 3 a b c) (at a (suc (suc (suc (suc q)))) 3 b c (less_place x (suc (suc (suc q))))) x cs s (placed q (a ∷ b ∷ c ∷ [])) (placed q (a ∷ [])) (placed (suc q) (b ∷ c ∷ less_place x (suc (suc (suc q))) ∷ []))
          (placed (suc q) (settle a (b ∷ c ∷ less_place x (suc (suc (suc q))) ∷ offsets (suc (suc (suc (suc q)))) cs))) (placed q (settle v (a ∷ b ∷ c ∷ less_place x (suc (suc (suc q))) ∷ offsets (suc (suc (suc (suc q)))) cs)))
          (step_afresh v (suc (suc (suc q))) a b c x e ∙ rw (f, fy, fz)) (omega arith)
          (more (restored_back (at v (suc (suc (suc q))) 3 a b c) (at a (suc (suc (suc (suc q)))) 3 b c (less_place x (suc (suc (suc q))))) (placed q (a ∷ b ∷ c ∷ []))) (placed q (a ∷ b ∷ c ∷ [])) x ((less_place x (suc (suc (suc q))) + suc (suc (suc q))) % 16)
          (three_three v a b c q (less_place x (suc (suc (suc q))))) (own x (suc (suc (suc q))) h))
          (r 3 a b c (less_place x (suc (suc (suc q)))) (suc q) (s ++ placed q (a ∷ [])) (omega arith) (fz, (fy, (f, tt))))
          (first e (settle a (b ∷ c ∷ less_place x (suc (suc (suc q))) ∷ offsets (suc (suc (suc (suc q)))) cs)) refl)

      go : (t : Bool) → eqb (less_place x (suc (suc (suc q)))) v ≡ t
          → following (at v (suc (suc (suc q))) 3 a b c) (s ++ placed q (a ∷ b ∷ c ∷ [])) (x ∷ cs) ≡ s ++ placed q (settle v (a ∷ b ∷ c ∷ less_place x (suc (suc (suc q))) ∷ offsets (suc (suc (suc (suc q)))) cs))
      go true e =
          conclude (at v (suc (suc (suc q))) 3 a b c) (at v (suc (suc (suc (suc q)))) 0 b c (less_place x (suc (suc (suc q))))) x cs s (placed q (a ∷ b ∷ c ∷ [])) (placed q (v ∷ v ∷ v ∷ v ∷ [])) [] (placed (suc (suc (suc (suc q)))) (settle v (offsets (suc (suc (suc (suc q)))) cs)))
          (placed q (settle v (a ∷ b ∷ c ∷ less_place x (suc (suc (suc q))) ∷ offsets (suc (suc (suc (suc q)))) cs)))
          (step_good v (suc (suc (suc q))) 3 a b c x e) (omega arith)
          (more (restored_back (at v (suc (suc (suc q))) 3 a b c) (at v (suc (suc (suc (suc q)))) 0 b c (less_place x (suc (suc (suc q))))) (placed q (a ∷ b ∷ c ∷ []))) (placed q (v ∷ v ∷ v ∷ [])) x ((v + suc (suc (suc q))) % 16)
          (three_all v a b c q (less_place x (suc (suc (suc q)))) v) (owned x (suc (suc (suc q))) v h e))
          (r 0 v b c (less_place x (suc (suc (suc q)))) (suc (suc (suc (suc q)))) (s ++ placed q (v ∷ v ∷ v ∷ v ∷ [])) (omega arith) tt)
          (ap (placed q) (sym (reach v (a ∷ b ∷ c ∷ []) (less_place x (suc (suc (suc q)))) (offsets (suc (suc (suc (suc q)))) cs) (omega arith) e)))
      go false e = fresh e (eqb (less_place x (suc (suc (suc q)))) a) (eqb c a) (eqb b a) refl refl refl

run : (cs : List ℕ) → Counts cs → Runs cs
run [] h n v a b c q s l br =
    finished_behind (at v (up n q) n a b c) s (placed q (pend n a b c)) (pend_length n a b c q l)
    ∙ ap (λ (t : List ℕ). s ++ t) (end_is n v a b c q l br ∙ ap (λ (t : List ℕ). placed q (settle v t)) (sym (nothing (pend n a b c))))
run (x ∷ cs) h zero v a b c q s l br = from_none x cs h.0 (run cs h.1) v a b c q s br
run (x ∷ cs) h (suc zero) v a b c q s l br = from_one x cs h.0 (run cs h.1) v a b c q s br
run (x ∷ cs) h (suc (suc zero)) v a b c q s l br = from_two x cs h.0 (run cs h.1) v a b c q s br
run (x ∷ cs) h (suc (suc (suc zero))) v a b c q s l br = from_three x cs h.0 (run cs h.1) v a b c q s br
run (x ∷ cs) h (suc (suc (suc (suc n)))) v a b c q s l br = absurd (omega arith)

-- the automaton gives what the sentences give
pub following_is : (cs : List ℕ) → Counts cs → following beginning [] cs ≡ followed cs
unfolding fed restored_back restores_first restores_second restores_third finished restores_last
following_is [] h = sym (followed_is [] h)
following_is (c ∷ cs) h =
    run cs h.1 0 (less_place c 0) 0 0 (less_place c 0) 1 (c ∷ []) (omega arith) tt
    ∙ (ap (λ (n : ℕ). n ∷ placed 1 (settle (less_place c 0) (offsets 1 cs))) (own c 0 h.0) ∙ sym (followed_is (c ∷ cs) h))

-- and where lines have no count none is set

with_counts : (f : Follow) (counts cs : List ℕ) → following_if true f counts cs ≡ following f counts cs
with_counts f counts [] = refl
with_counts f counts (c ∷ cs) = with_counts (fed f c) (restored_back f (fed f c) counts ++ (c ∷ [])) cs

finished_as : (f : Follow) (counts : List ℕ) → f.pending ≡ 0 → finished f counts ≡ counts
unfolding finished restores_last
finished_as f counts e = rw e refl

restored_as : (f g : Follow) (counts : List ℕ) → f.pending ≡ 0 → restored_back f g counts ≡ counts
unfolding restored_back restores_first restores_second restores_third
restored_as f g counts e = rw e refl

without_counts : (f : Follow) (counts cs : List ℕ) → f.pending ≡ 0 → following_if false f counts cs ≡ counts ++ cs
without_counts f counts [] e = finished_as f counts e ∙ sym (append-nil counts)
without_counts f counts (c ∷ cs) e =
    let g = fed_if false f c in
    ap (λ (t : List ℕ). following_if false g (t ++ (c ∷ [])) cs) (restored_as f g counts e) ∙ (without_counts g (counts ++ (c ∷ [])) cs refl ∙ append_assoc counts (c ∷ []) cs)

pub following_if_lem : (has : Bool) (cs : List ℕ) → Counts cs → following_if has beginning [] cs ≡ followed_if has cs
following_if_lem true cs h = with_counts beginning [] cs ∙ following_is cs h
following_if_lem false cs h = without_counts beginning [] cs refl
