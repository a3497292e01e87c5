-- A state written piece by piece is the table of its bytes.
use mathlib.Core.Path.{◌≡◌, refl, ◌∙◌, ap}
use mathlib.Core.List.{List}
use Prim.Native.Nat.{ℕ, ◌+◌, ◌-◌, ◌<◌}
use native.Mathlib.Omega.{arith}
use lib.ListN.{length, get_or}
use borrow.Author.Tests.{le-ltb, lt-ltb}
use Rattle.ground.specs.Drawn.{Filling, fill_at, fill_at_ext, filling, filling_all, filling_piece}
use Rattle.sender.specs.declared.epochs.Sender.{Sender}
use Rattle.c_face.specs.Keeping.{byte_at, bytes_of, field_bytes, rows_byte, slots_byte}

module _ (s : Sender) where
  at_slots : (j : ℕ) → j < 128 → slots_byte s.table.slots j ≡ byte_at s j
  unfolding byte_at
  at_slots j h = rw (lt-ltb j 128 h) refl

  at_going : (j : ℕ) → j < 128 → rows_byte s.outgoing.rows j ≡ byte_at s (128 + j)
  unfolding byte_at
  at_going j h =
      let e : 128 + j - 128 ≡ j = omega arith in rw (le-ltb (128 + j) 128 (omega arith), lt-ltb (128 + j) 256 (omega arith), e) refl

  at_ruling : (j : ℕ) → j < 128 → rows_byte s.ruling.rows j ≡ byte_at s (256 + j)
  unfolding byte_at
  at_ruling j h =
      let e : 256 + j - 256 ≡ j = omega arith in
      rw (le-ltb (256 + j) 128 (omega arith), le-ltb (256 + j) 256 (omega arith), lt-ltb (256 + j) 384 (omega arith), e) refl

  at_fields : (j : ℕ) → get_or (field_bytes s) j 0 ≡ byte_at s (384 + j)
  unfolding byte_at
  at_fields j =
      let e : 384 + j - 384 ≡ j = omega arith in
      rw (le-ltb (384 + j) 128 (omega arith), le-ltb (384 + j) 256 (omega arith), le-ltb (384 + j) 384 (omega arith), e) refl

  pub put_whole : (fields d a b c out : List ℕ) → length d ≡ 397 → fields ≡ field_bytes s → a ≡ fill_at 0 128 (slots_byte s.table.slots) d
      → b ≡ fill_at 128 128 (rows_byte s.outgoing.rows) a → c ≡ fill_at 256 128 (rows_byte s.ruling.rows) b
      → out ≡ fill_at 384 (length fields) (λ k. get_or fields k 0) c → out ≡ bytes_of s
  unfolding bytes_of
  put_whole fields d a b c out l ef ea eb ec eo =
      let A : Filling 0 128 (byte_at s) d a = filling 0 128 (byte_at s) d a (ea ∙ fill_at_ext 0 128 (slots_byte s.table.slots) (byte_at s) d at_slots) in
      let B : Filling 0 256 (byte_at s) d b = filling_piece 128 (rows_byte s.outgoing.rows) b A eb at_going in
      let C : Filling 0 384 (byte_at s) d c = filling_piece 128 (rows_byte s.ruling.rows) c B ec at_ruling in
      let e : out ≡ fill_at 384 13 (λ k. get_or (field_bytes s) k 0) c = eo ∙ ap (λ (f : List ℕ). fill_at 384 (length f) (λ k. get_or f k 0) c) ef in
      let D : Filling 0 397 (byte_at s) d out = filling_piece 13 (λ k. get_or (field_bytes s) k 0) out C e (λ j h. at_fields j) in
      filling_all D l
