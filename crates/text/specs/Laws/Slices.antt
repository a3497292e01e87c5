-- Parts of a text up to a limit, which may lie past its end, and the fields of a part, one by one.
use Rattle.std.specs.Prelude.{◌≡◌, List, [], ◌∷◌, length, take, get_or}
use Rattle.std.proofs.Common.{sym, ◌∙◌, add-one, length-take, drop-cons, get_or-take, length-take-le, take-take}
use Prim.Native.Nat.{ℕ, zero, suc, ◌+◌, ◌≤◌, ◌<◌}
use native.Mathlib.Omega.{arith}
use Rattle.std.proofs.Math.Seq.{slice, drop-drop, length-slice, take-nil}
use Rattle.ground.specs.Finding.{index_of}
use Rattle.text.specs.Laws.Parted.{index_le, parted_more, parted_none}
use Rattle.text.specs.Text.{TAB, fields_of}

pub end_within : (l : List ℕ) (limit : ℕ) → limit < length l → limit ≡ length (take limit l)
end_within l limit h = sym (length-take-le limit l (omega arith))

module _ (l : List ℕ) (limit end : ℕ) (e : end ≡ length (take limit l)) where
  pub slice_more : (at : ℕ) → at < end → slice at limit l ≡ get_or l at 0 ∷ slice (at + 1) limit l
  slice_more at h =
      let k : at < length (take limit l) = omega arith in
      let m : at < limit = (let q = length-take limit l in omega arith) in
      rw (add-one, drop-cons (take limit l) at 0 k, get_or-take limit l at 0 m)

pub take_slice : (at i end : ℕ) (l : List ℕ) → at + i ≤ end → take i (slice at end l) ≡ slice at (at + i) l
take_slice zero i end l h =
    let e : 0 + i ≡ i = omega arith in
    rw e (take-take i end l (omega arith))
take_slice (suc at) i zero l h = absurd (omega arith)
take_slice (suc at) i (suc end) [] h =
    let e : suc at + i ≡ suc (at + i) = omega arith in
    rw (e, take-nil)
take_slice (suc at) i (suc end) (x ∷ l) h =
    let e : suc at + i ≡ suc (at + i) = omega arith in
    rw e (take_slice at i end l (omega arith))

module _ (l : List ℕ) (at end first : ℕ) (h : at ≤ end) (k : end ≤ length l) (e : first ≡ at + index_of TAB (slice at end l)) where
  pub fields_last : end ≤ first → fields_of (slice at end l) ≡ slice at end l ∷ []
  unfolding fields_of
  fields_last b =
      let n = length-slice at end l k in
      let m = index_le TAB (slice at end l) in
      parted_none TAB (slice at end l) (omega arith)

  pub fields_more : first < end → fields_of (slice at end l) ≡ slice at first l ∷ fields_of (slice (first + 1) end l)
  unfolding fields_of
  fields_more b =
      let n = length-slice at end l k in
      let i = index_of TAB (slice at end l) in
      let s : at + suc i ≡ first + 1 = omega arith in
      parted_more TAB ([] ∷ []) (slice at end l) (omega arith)
      ∙ rw (take_slice at i end l (omega arith), drop-drop (suc i) at (take end l), s, ← e)
