-- What the library's arrays and copies leave, in the words of the definitions.
use Rattle.std.proofs.Common.{◌≡◌, refl, ◌∙◌, sym, ap, ⊎_elim, List, [], ◌∷◌, ℕ, zero, suc, ◌+◌, ◌*◌, ◌/◌, ◌%◌, ◌≤◌, ◌<◌, ◌≢◌, length, get_or, add-one, arith}
use Rattle.std.proofs.Math.ListN.{set}
use Rattle.std.proofs.Math.Seq.{paste, paste-suc, paste-zero}
use Rattle.std.proofs.lemmas.List.{get_or_default}
use Rattle.std.proofs.lemmas.Slice.{put_mid-paste}
use Rattle.std.specs.Array.{IsFromFnResult, IsFromFnResultFrom}
use Rattle.std.specs.Fn.{Called}
use borrow.Rule.Slice.PartMut.{put_mid}
use denote.Param.Members.{Mut}
use Rattle.ground.specs.Drawn.{Filling, fill_at, fill_at_none, fill_at_put, filling_more}
use Rattle.ground.specs.Table.{tabulate, tabulate_is}
use Rattle.ground.specs.Truth.{eq_or_ne}

-- an array of what a closure gives of each place, where the closure computes h
module _ {F B : Type 0} (g : Mut F (ℕ × Unit {0}) B) (h : ℕ → B) (f : F) (computes : (x : ℕ) (y : B) (q : F) → Called g f (x, tt) y q → (q ≡ f) × (y ≡ h x)) where
  from_each : (ys : List B) (i n : ℕ) (p : F) → p ≡ f → IsFromFnResultFrom g p ys i n → (k : ℕ) (d : B) → i ≤ k → k < i + n → get_or ys k d ≡ h k
  from_each ys i zero p e r k d l m = absurd (omega arith)
  from_each ys i (suc n) p e r k d l m =
      let now = computes i r.1 r.0 (rw e at r.3) in
      ⊎_elim (λ (s : k ≡ i). rw s (r.2.1 d ∙ now.1))
      (λ (s : k ≢ i). from_each ys (i + 1) n r.0 now.0 r.4 k d (omega arith) (omega arith))
      (eq_or_ne k i)

  pub made_each : (ys : List B) (n : ℕ) → IsFromFnResult g f ys n → ys ≡ tabulate n h
  made_each ys n r = tabulate_is ys n h (h 0) r.long (λ k l. from_each ys 0 n f refl r.each k (h 0) (omega arith) (omega arith))

-- a piece copied
paste_fill : (d : List ℕ) (at : ℕ) (s : List ℕ) (n : ℕ) → at + n ≤ length d → n ≤ length s → paste d at s n ≡ fill_at at n (λ k. get_or s k 0) d
paste_fill d at s zero h l = sym (paste-zero d at s) ∙ sym (fill_at_none at (λ k. get_or s k 0) d)
paste_fill d at s (suc n) h l =
    let rest : paste d at s n ≡ fill_at at n (λ k. get_or s k 0) d = paste_fill d at s n (omega arith) (omega arith) in
    sym (paste-suc d at s n 0 (omega arith) (omega arith)) ∙ ap (λ (x : List ℕ). set x (at + n) (get_or s n 0)) rest ∙ fill_at_put at n (λ k. get_or s k 0) d ∙ ap (λ (m : ℕ). fill_at at m (λ k. get_or s k 0) d) (add-one n)

pub copied_piece : (d : List ℕ) (at k : ℕ) (s new : List ℕ) → at + length s ≤ length d → length s ≡ k → new ≡ s
    → put_mid at k d new ≡ fill_at at (length s) (λ j. get_or s j 0) d
copied_piece d at k s new h l e = put_mid-paste at k d new s (length s) e l refl ∙ paste_fill d at s (length s) h (omega arith)

-- two stores, those of the i-th pair
module _ {T : Type 0} (side : T → ℕ → ℕ) (pairs : List T) (d : T) where
  abbrev pub sides : ℕ → ℕ
  sides k = side (get_or pairs (k / 2) d) (k % 2)

  pub filling_pair : (i : ℕ) {at : ℕ} {was out : List ℕ} (x : T) (two : List ℕ) → i < length pairs → Filling at (2 * i) sides was out
      → two ≡ side (get_or pairs i x) 0 ∷ side (get_or pairs i x) 1 ∷ []
      → Filling at (2 * (i + 1)) sides was (set (set out (at + 2 * i) (get_or two 0 0)) (at + 2 * i + 1) (get_or two 1 0))
  filling_pair i {at} {was} {out} x two l h e =
      let same : get_or pairs i x ≡ get_or pairs i d = get_or_default pairs i x d l in
      let low : 2 * i / 2 ≡ i = omega arith in
      let even : 2 * i % 2 ≡ 0 = omega arith in
      let high : (2 * i + 1) / 2 ≡ i = omega arith in
      let odd : (2 * i + 1) % 2 ≡ 1 = omega arith in
      let one : get_or two 0 0 ≡ sides (2 * i) = rw (e, same, low, even) refl in
      let other : get_or two 1 0 ≡ sides (2 * i + 1) = rw (e, same, high, odd) refl in
      let first : Filling at (2 * i + 1) sides was (set out (at + 2 * i) (get_or two 0 0)) = rw one (filling_more h) in
      let place : at + 2 * i + 1 ≡ at + (2 * i + 1) = omega arith in
      let many : 2 * (i + 1) ≡ 2 * i + 1 + 1 = omega arith in
      rw (place, many, other) (filling_more first)
