-- What stands in the store after a frame was put.
use Rattle.std.specs.Prelude.{◌≡◌, Bool, cond, List, ℕ, ◌+◌, ◌<◌, ltb}
use Rattle.std.proofs.Math.Path.{refl}
use Rattle.std.proofs.Common.{◌∙◌, arith, lt-ltb}
use Rattle.std.proofs.Math.Bool.{true, false}
use Rattle.std.proofs.Math.ListN.{length, get_or, get_or-eq_default}
use Rattle.ground.specs.Drawn.{fill_at, length_fill_at, get_or_fill_at, get_or_before, get_or_after}
use Rattle.rows.specs.Laws.Rows.{get_or_within}
use Rattle.store.specs.Frames.{stored_at}

module _ (s : List ℕ) (place : ℕ) (payload : List ℕ) (h : ℕ) where
  abbrev filled : List ℕ
  filled = fill_at place (length payload + 1) (λ j. get_or payload j h) s

  pub length_stored : length (stored_at s place payload h) ≡ length s
  unfolding stored_at
  length_stored = go (ltb (place + length payload) (length s))
    where
      go : (b : Bool) → length (cond b filled s) ≡ length s
      go true = length_fill_at place (length payload + 1) (λ j. get_or payload j h) s
      go false = refl

  -- what lies before the frame and after it stands as it was
  pub stored_before : (k : ℕ) → k < place → get_or (stored_at s place payload h) k 0 ≡ get_or s k 0
  unfolding stored_at
  stored_before k b = go (ltb (place + length payload) (length s))
    where
      go : (t : Bool) → get_or (cond t filled s) k 0 ≡ get_or s k 0
      go true = get_or_before place (length payload + 1) (λ j. get_or payload j h) s k 0 b
      go false = refl

  pub stored_after : (k : ℕ) → place + length payload < k → get_or (stored_at s place payload h) k 0 ≡ get_or s k 0
  unfolding stored_at
  stored_after k b = go (ltb (place + length payload) (length s))
    where
      go : (t : Bool) → get_or (cond t filled s) k 0 ≡ get_or s k 0
      go true = get_or_after place (length payload + 1) (λ j. get_or payload j h) s k 0 (omega arith)
      go false = refl

  module _ (room : place + length payload < length s) where
    stored_at_lem : (k : ℕ) → k < length payload + 1 → get_or (stored_at s place payload h) (place + k) 0 ≡ get_or payload k h
    unfolding stored_at
    stored_at_lem k b =
        rw (lt-ltb (place + length payload) (length s) room)
        (get_or_fill_at place (length payload + 1) (λ j. get_or payload j h) s k 0 b (omega arith))

    pub stored_payload : (k : ℕ) → k < length payload → get_or (stored_at s place payload h) (place + k) 0 ≡ get_or payload k 0
    stored_payload k b = stored_at_lem k (omega arith) ∙ get_or_within payload k h 0 b

    pub stored_h4 : get_or (stored_at s place payload h) (place + length payload) 0 ≡ h
    stored_h4 = stored_at_lem (length payload) (omega arith) ∙ get_or-eq_default payload h {n = length payload} (omega arith)
