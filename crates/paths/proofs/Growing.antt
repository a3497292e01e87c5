-- The list of chosen candidates that takes in one more, or not.
use Rattle.std.proofs.Common.{◌≡◌, sym, ap, ◌∙◌, Bool, true, false, List, [], ◌∷◌, ◌++◌, append-nil, ℕ, suc, ◌+◌, ◌-◌, ◌<◌, add-one, arith, length, length-append, replicate}
use Rattle.std.proofs.Math.ListN.{set}
use Rattle.std.proofs.Math.Seq.{append_snoc, set-append_seam}
use Rattle.ground.specs.Counting.Laws.Numbers.{count_le}
use Rattle.ground.specs.Counting.Words.{count}
use Rattle.paths.specs.Laws.Listing.{length_listed}
use Rattle.paths.specs.Planning.{listed, padded}

set_more : (l : List ℕ) (i : ℕ) → length l < 64 → set (padded l) (length l) i ≡ padded (l ++ (i ∷ []))
set_more l i h =
    let m : ℕ = 64 - length (l ++ (i ∷ [])) in
    let c : length (l ++ (i ∷ [])) ≡ length l + 1 = length-append l (i ∷ []) in
    let e : 64 - length l ≡ suc m = omega arith in
    ap (λ (r : ℕ). set (l ++ replicate r 255) (length l) i) e
    ∙ set-append_seam l 255 (replicate m 255) i
    ∙ sym (append_snoc l i (replicate m 255))

-- one more turn of the loop
module _ (f : ℕ → Bool) (i at : ℕ) (paths : List ℕ) (counted : at ≡ count i f) (so_far : paths ≡ padded (listed i f)) where
  abbrev Turn : ℕ → List ℕ → Type 0
  Turn m next = (m ≡ count (i + 1) f) × (next ≡ padded (listed (i + 1) f))

  pub listed_on : i < 64 → f i ≡ true → Turn (at + 1) (set paths at i)
  listed_on h e =
      let few : length (listed i f) < 64 = (let l = count_le i f in let m = length_listed i f in omega arith) in
      let long : at ≡ length (listed i f) = counted ∙ sym (length_listed i f) in
      (rw (add-one i, e) (omega arith), rw (so_far, long, add-one i, e) (set_more (listed i f) i few))

  pub listed_off : f i ≡ false → Turn at paths
  listed_off e = (rw (add-one i, e) (omega arith), rw (so_far, add-one i, e) (ap padded (sym (append-nil (listed i f)))))
