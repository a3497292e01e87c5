-- The ways out of a turn.
use Rattle.std.proofs.Common.{◌≡◌, ℕ, ◌+◌, ◌*◌, ◌<◌, ◌≤◌, Bool, true, false, cond, ◌&&◌, ltb, List, [], ◌∷◌, length, take, drop, replicate, sym, refl, ap, ◌∙◌, arith, length-drop, drop_of_length-le, le-ltb, lt-ltb}
use lib.ListN.{length-replicate}
use lib.Seq.{slice, take-length}
use Rattle.text.specs.Laws.Parted.{index_le}
use Rattle.ground.specs.Finding.{index_of}
use Rattle.replay_lines.specs.declared.replay.Phase.{Phase}
use Rattle.replay_lines.specs.declared.replay.Replay.{Replay}
use Rattle.replay_lines.specs.declared.turns.Replayed.{Replayed}
use Rattle.replay_lines.specs.Turn.{payload_at, placed, turn_by, turn_of, turn_out, turn_out_by, turn_rows, turn_rows_by, turn_said, turn_said_by, turn_store, turn_store_by}
use Rattle.text.specs.Text.{LINE-END}
use Rattle.text.specs.Fields.{are_digits, bytes_in, bytes_of, is_hex}

-- the first line end of a text from a place on
module _ (text : List ℕ) (at end : ℕ) (e : end ≡ at + index_of LINE-END (slice at (length text) text)) where
  pub end_is : end ≡ at + index_of LINE-END (drop at text)
  end_is = rw take-length at e

  pub end_there : end < length text → ltb (index_of LINE-END (drop at text)) (length (drop at text)) ≡ true
  end_there h = let s = end_is in let n = length-drop at text in lt-ltb (index_of LINE-END (drop at text)) (length (drop at text)) (omega arith)

  pub end_none : length text ≤ end → ltb (index_of LINE-END (drop at text)) (length (drop at text)) ≡ false
  end_none h = let s = end_is in let n = length-drop at text in le-ltb (index_of LINE-END (drop at text)) (length (drop at text)) (omega arith)

  -- where there is none, it is the rest's end
  pub end_all : length text ≤ end → end ≡ at + length (drop at text)
  end_all h = let s = end_is in let n = length-drop at text in let m = index_le LINE-END (drop at text) in omega arith

-- by the phase
module _ (r : Replay) (p : Phase) (e : r.phase ≡ p) (text : List ℕ) (last : Bool) (rows : List (List ℕ)) (store out : List ℕ) where
  pub turn_is : (at said : ℕ) (x : Replayed) → x ≡ placed at (turn_by p r text last rows store out said) → x ≡ placed at (turn_of r text last rows store out said)
  unfolding turn_of
  turn_is at said x h = h ∙ ap (λ (q : Phase). placed at (turn_by q r text last rows store out said)) (sym e)

  pub rows_is : (said : ℕ) (x : List (List ℕ)) → x ≡ turn_rows_by p r text last rows store out said → x ≡ turn_rows r text last rows store out said
  unfolding turn_rows
  rows_is said x h = h ∙ ap (λ (q : Phase). turn_rows_by q r text last rows store out said) (sym e)

  pub store_is : (said : ℕ) (x : List ℕ) → x ≡ turn_store_by p r text last rows store out said → x ≡ turn_store r text last rows store out said
  unfolding turn_store
  store_is said x h = h ∙ ap (λ (q : Phase). turn_store_by q r text last rows store out said) (sym e)

  pub out_is : (said : ℕ) (x : List ℕ) → x ≡ turn_out_by p r rows store out said → x ≡ turn_out r rows store out said
  unfolding turn_out
  out_is said x h = h ∙ ap (λ (q : Phase). turn_out_by q r rows store out said) (sym e)

  pub said_is : (said x : List ℕ) → x ≡ turn_said_by p r text last rows store out said → x ≡ turn_said r text last rows store out said
  unfolding turn_said
  said_is said x h = h ∙ ap (λ (q : Phase). turn_said_by q r text last rows store out said) (sym e)

-- digits behind a text's end stand for nothing
pub bytes_past : (place : ℕ) (text payload : List ℕ) → length text < place → payload ≡ bytes_in (slice place (place + length payload + length payload) text) payload
unfolding bytes_in is_hex
bytes_past place text payload h =
    go payload (drop_of_length-le (take (place + length payload + length payload) text) {i = place} (let m = lib.ListN.length-take (place + length payload + length payload) text in omega arith))
  where
    go : (p : List ℕ) → slice place (place + length payload + length payload) text ≡ []
        → p
        ≡ cond (lib.Dec.eqb (length (slice place (place + length payload + length payload) text)) (2 * length p) && are_digits 16 (slice place (place + length payload + length payload) text))
        (bytes_of (slice place (place + length payload + length payload) text)) p
    go [] e = rw e
    go (b ∷ p) e = rw (e, borrow.Author.Tests.ne_eqb 0 (2 * Prim.Native.Nat.suc (length p)) (λ z. omega arith))

-- zeros
pub front_zeros : (n m : ℕ) → n ≤ m → ◌≡◌ {A = List ℕ} (take n (replicate m 0)) (replicate n 0)
front_zeros Prim.Native.Nat.zero m h = refl
front_zeros (Prim.Native.Nat.suc n) Prim.Native.Nat.zero h = absurd (omega arith)
front_zeros (Prim.Native.Nat.suc n) (Prim.Native.Nat.suc m) h = ap (λ (l : List ℕ). 0 ∷ l) (front_zeros n m (omega arith))

-- the front of zeros, lent for a payload
module _ (size most : ℕ) (h : size ≤ most) (all : List ℕ) (z : all ≡ replicate most 0) where
  pub front_is : take size all ≡ replicate size 0
  front_is = rw z (front_zeros size most h)

  pub front_there : size ≡ length (take size all)
  front_there = rw front_is (sym (length-replicate size 0))

-- the payload read into zeros
pub payload_is : (size place : ℕ) (text room payload : List ℕ) → room ≡ replicate size 0 → payload ≡ bytes_in (slice place (place + length room + length room) text) room → payload ≡ payload_at size place text
unfolding payload_at
payload_is size place text room payload e f = rw (e, length-replicate {A = ℕ} size 0) at f
