-- What is shared with other crates, on bytes of the right length and on others.
use Rattle.std.specs.Prelude.{◌≡◌, refl, Bool, true, false, List, ℕ, ◌+◌, ◌-◌, ◌≤◌, ◌<◌, leb, get_or, length, replicate}
use Rattle.std.proofs.Common.{arith, eq-eqb, le-leb, leb-true, ne_eqb}
use Rattle.std.proofs.lemmas.Bool.{lt-leb}
use Rattle.std.specs.Int.{from_bool}
use Rattle.ground.specs.Drawn.{fill_at}
use Rattle.ground.specs.Flags.{one_if}
use Rattle.ground.specs.Truth.{same_test}
use Rattle.c_face.specs.Keeping.{board_in}
use Rattle.c_face.specs.Sharing.{board_at, bytes_put, has_room, if_sized, or_zeros}

-- a flag as the library's byte
pub flag_byte : (flag : Bool) → from_bool flag ≡ one_if flag
flag_byte true = refl
flag_byte false = refl

module _ (n : ℕ) where
  pub sized : (new out : List ℕ) → length out ≡ n → if_sized n new out ≡ new
  sized new out h = rw (eq-eqb (length out) n h) refl

  pub unsized : (new out : List ℕ) → (length out ≡ n → ⊥) → if_sized n new out ≡ out
  unsized new out d = rw (ne_eqb (length out) n d) refl

  pub themselves : (bytes : List ℕ) → length bytes ≡ n → or_zeros n bytes ≡ bytes
  themselves bytes h = rw (eq-eqb (length bytes) n h) refl

  pub zeros : (bytes : List ℕ) → (length bytes ≡ n → ⊥) → or_zeros n bytes ≡ replicate n 0
  zeros bytes d = rw (ne_eqb (length bytes) n d) refl

module _ (at n : ℕ) (bytes : List ℕ) where
  pub room : at + n ≤ length bytes → has_room at n bytes ≡ true
  room h = le-leb (at + n) (length bytes) h

  pub room_said : has_room at n bytes ≡ true → at + n ≤ length bytes
  room_said e = leb-true (at + n) (length bytes) e

  pub no_room : length bytes < n → has_room at n bytes ≡ false
  no_room h = lt-leb (at + n) (length bytes) (omega arith)

  -- asked without a sum
  pub room_left : n ≤ length bytes → leb at (length bytes - n) ≡ has_room at n bytes
  room_left h =
      same_test (leb at (length bytes - n)) (has_room at n bytes) (λ e. let l = leb-true at (length bytes - n) e in le-leb (at + n) (length bytes) (omega arith))
      (λ e. let l = leb-true (at + n) (length bytes) e in le-leb at (length bytes - n) (omega arith))

module _ (bytes : List ℕ) (at count wait : ℕ) where
  pub board_there : has_room at 128 bytes ≡ true → board_at bytes at count wait ≡ board_in bytes at count wait
  board_there e = rw e refl

  pub board_none : has_room at 128 bytes ≡ false → board_at bytes at count wait ≡ board_in (replicate 128 0) 0 count wait
  board_none e = rw e refl

module _ (from : List ℕ) (at : ℕ) (out : List ℕ) where
  pub put_there : has_room at (length from) out ≡ true → bytes_put from at out ≡ fill_at at (length from) (λ k. get_or from k 0) out
  put_there e = rw e refl

  pub put_none : has_room at (length from) out ≡ false → bytes_put from at out ≡ out
  put_none e = rw e refl
