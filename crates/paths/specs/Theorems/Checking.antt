-- The check accepts exactly the good sets: 'only if it names k different candidates within that spread, and .. every such set'.
-- Of every list: long, short, with repeats and with numbers of no candidate.
use Rattle.std.specs.Prelude.{◌≡◌, refl, ◌≢◌, Bool, true, false, cond, not, List, ℕ, ◌+◌, ◌-◌, ◌≤◌, ◌<◌, eqb, leb, ltb}
use Rattle.std.proofs.Common.{sym}
use Rattle.std.proofs.Math.Logic.{⊎_elim}
use native.Mathlib.Omega.{arith}
use Rattle.std.proofs.Math.ListN.{length}
use borrow.Author.Tests.{eq-eqb, eqb-true, eqb-false, ne_eqb, le-leb, leb-true, lt-ltb, ltb-true, ltb-false, not-true}
use Rattle.ground.specs.Counting.Laws.Tests.{every_all, every_at}
use Rattle.ground.specs.Counting.Words.{every}
use Rattle.ground.specs.Truth.{and-true, and_left, and_right, cond_by, le_or_lt}
use Rattle.paths.specs.Checking.{accepts, agree, agrees_with, delays_apart, entry_fits}
use Rattle.paths.specs.Paths.{Good, delay_at, path_at}

near_both : (x y s : ℕ) → delays_apart x y ≤ s → (x ≤ y + s) × (y ≤ x + s)
near_both x y s = go (ltb x y) refl
  where
    go : (b : Bool) → ltb x y ≡ b → cond b (y - x) (x - y) ≤ s → (x ≤ y + s) × (y ≤ x + s)
    go true e h = let l = ltb-true x y e in (omega arith, omega arith)
    go false e h = let l = ltb-false x y e in (omega arith, omega arith)

both_near : (x y s : ℕ) → x ≤ y + s → y ≤ x + s → delays_apart x y ≤ s
both_near x y s h g = cond_by (λ d. d ≤ s) (ltb x y) (y - x) (x - y) (λ e. omega arith) (λ e. omega arith)

module _ (delays : List ℕ) (k W : ℕ) (set : List ℕ) where
  abbrev s : ℕ
  s = W - 16

  abbrev delay : ℕ → ℕ
  delay a = delay_at delays (path_at set a)

  Apart : ℕ → ℕ → Type 0
  Apart a b = (path_at set b ≢ path_at set a) × (delay b ≤ delay a + s) × (delay a ≤ delay b + s)

  fits_at : accepts delays k s set ≡ true → (a : ℕ) → a < length set → entry_fits delays set s a ≡ true
  unfolding accepts
  fits_at e a h = every_at (length set) (entry_fits delays set s) (and_right (eqb (length set) k) (every (length set) (entry_fits delays set s)) e) a h

  many_at : accepts delays k s set ≡ true → length set ≡ k
  unfolding accepts
  many_at e = eqb-true (length set) k (and_left (eqb (length set) k) (every (length set) (entry_fits delays set s)) e)

  apart_at : accepts delays k s set ≡ true → (a b : ℕ) → a < length set → b < a → Apart a b
  unfolding Apart agree agrees_with
  apart_at e a b h l =
      let f = and_right (ltb (path_at set a) (length delays)) (agrees_with delays set s a) (fits_at e a h) in
      let g = every_at a (λ c. agree delays s (path_at set c) (path_at set a)) f b l in
      let d = eqb-false (path_at set b) (path_at set a) (not-true (eqb (path_at set b) (path_at set a)) (and_left (not (eqb (path_at set b) (path_at set a))) (leb (delays_apart (delay b) (delay a)) s) g)) in
      let n = near_both (delay b) (delay a) s (leb-true (delays_apart (delay b) (delay a)) s (and_right (not (eqb (path_at set b) (path_at set a))) (leb (delays_apart (delay b) (delay a)) s) g)) in
      (d, n.0, n.1)

  pub accepts_good : accepts delays k (W - 16) set ≡ true → Good delays k W set
  unfolding Apart
  accepts_good e =
      record {
        many = many_at e;
        named = λ a h. ltb-true (path_at set a) (length delays) (and_left (ltb (path_at set a) (length delays)) (agrees_with delays set s a) (fits_at e a h));
        different = λ a b ha hb same.
            ⊎_elim
            (λ (l : a ≤ b).
            ⊎_elim (λ (m : b ≤ a). omega arith) (λ (m : a < b). absurd ((apart_at e b a hb m).0 same)) (le_or_lt b a))
            (λ (l : b < a). absurd ((apart_at e a b ha l).0 (sym same)))
            (le_or_lt a b);
        near = λ a b ha hb.
            ⊎_elim
            (λ (l : a ≤ b).
            ⊎_elim (λ (m : b ≤ a). let q : a ≡ b = omega arith in rw q (omega arith)) (λ (m : a < b). (apart_at e b a hb m).1) (le_or_lt b a))
            (λ (l : b < a). (apart_at e a b ha l).2)
            (le_or_lt a b);
      }

  pub good_accepts : Good delays k W set → accepts delays k (W - 16) set ≡ true
  unfolding accepts agrees_with agree
  good_accepts g =
      and-true (eqb (length set) k) (every (length set) (entry_fits delays set s)) (eq-eqb (length set) k g.many)
      (every_all (length set) (entry_fits delays set s) (λ a h.
      and-true (ltb (path_at set a) (length delays)) (agrees_with delays set s a) (lt-ltb (path_at set a) (length delays) (g.named a h))
      (every_all a (λ b. agree delays s (path_at set b) (path_at set a)) (λ b l.
      let hb : b < length set = omega arith in
      let d : path_at set b ≢ path_at set a = (λ (q : path_at set b ≡ path_at set a). let w = g.different b a hb h q in omega arith) in
      and-true (not (eqb (path_at set b) (path_at set a))) (leb (delays_apart (delay b) (delay a)) s)
      (rw (ne_eqb (path_at set b) (path_at set a) d))
      (le-leb (delays_apart (delay b) (delay a)) s (both_near (delay b) (delay a) s (g.near b a hb h) (g.near a b h hb)))))))
