-- What is kept in a state's bytes is read back as it was.
use Rattle.std.specs.Prelude.{◌≡◌, Bool, true, false, ℕ, ◌+◌, ◌-◌, ◌*◌, ◌/◌, ◌%◌, ◌<◌, length, get_or}
use Rattle.std.proofs.Math.Path.{refl, sym}
use Rattle.std.proofs.Common.{◌∙◌}
use native.Mathlib.Omega.{arith}
use borrow.Author.Tests.{le-ltb, lt-ltb}
use Rattle.ground.specs.Flags.{flag_of, one_if}
use Rattle.ground.specs.Table.{get_or_tabulate, tabulate_is}
use Rattle.sender.specs.declared.epochs.Sender.{Sender}
use Rattle.sender.specs.declared.table.State.{State}
use Rattle.sender.specs.declared.table.State.TheVariants.{Idle, Add, Active, Dnu}
use Rattle.sender.specs.Ranks.{row_at}
use Rattle.sender.specs.Table.{slot_at}
use Rattle.c_face.specs.Keeping.{Whole, byte_at, bytes_of, code_of, field_bytes, row_in, rows_in, sender_of, slot_in, slots_in, state_of}

state_back : (t : State) → state_of (code_of t) ≡ t
state_back Idle = refl
state_back Add = refl
state_back Active = refl
state_back Dnu = refl

flag_back : (b : Bool) → flag_of (one_if b) ≡ b
flag_back true = refl
flag_back false = refl

module _ (s : Sender) where
  read : (k : ℕ) → k < 397 → get_or (bytes_of s) k 0 ≡ byte_at s k
  unfolding bytes_of
  read k h = get_or_tabulate 397 (byte_at s) k 0 h

  code : (i : ℕ) → i < 64 → get_or (bytes_of s) (2 * i) 0 ≡ code_of (slot_at s.table.slots i).state
  unfolding byte_at
  code i h =
      let d : 2 * i / 2 ≡ i = omega arith in
      let m : 2 * i % 2 ≡ 0 = omega arith in
      read (2 * i) (omega arith) ∙ rw (lt-ltb (2 * i) 128 (omega arith), d, m) refl

  number : (i : ℕ) → i < 64 → get_or (bytes_of s) (2 * i + 1) 0 ≡ (slot_at s.table.slots i).number
  unfolding byte_at
  number i h =
      let d : (2 * i + 1) / 2 ≡ i = omega arith in
      let m : (2 * i + 1) % 2 ≡ 1 = omega arith in
      read (2 * i + 1) (omega arith) ∙ rw (lt-ltb (2 * i + 1) 128 (omega arith), d, m) refl

  slot_back : (i : ℕ) → i < 64 → slot_in (bytes_of s) i ≡ slot_at s.table.slots i
  slot_back i h = rw (code i h, number i h, state_back (slot_at s.table.slots i).state) refl

  slots_back : length s.table.slots ≡ 64 → slots_in (bytes_of s) ≡ s.table.slots
  unfolding slots_in
  slots_back e = sym (tabulate_is s.table.slots 64 (slot_in (bytes_of s)) (record { state = Idle; number = 0 }) e (λ i h. sym (slot_back i h)))

  outgoing_word : (i : ℕ) → i < 64 → get_or (bytes_of s) (128 + 2 * i) 0 ≡ (row_at s.outgoing.rows i).word.0
  unfolding byte_at
  outgoing_word i h =
      let d : (128 + 2 * i - 128) / 2 ≡ i = omega arith in
      let m : (128 + 2 * i - 128) % 2 ≡ 0 = omega arith in
      read (128 + 2 * i) (omega arith) ∙ rw (le-ltb (128 + 2 * i) 128 (omega arith), lt-ltb (128 + 2 * i) 256 (omega arith), d, m) refl

  outgoing_number : (i : ℕ) → i < 64 → get_or (bytes_of s) (128 + 2 * i + 1) 0 ≡ (row_at s.outgoing.rows i).number
  unfolding byte_at
  outgoing_number i h =
      let d : (128 + 2 * i + 1 - 128) / 2 ≡ i = omega arith in
      let m : (128 + 2 * i + 1 - 128) % 2 ≡ 1 = omega arith in
      read (128 + 2 * i + 1) (omega arith) ∙ rw (le-ltb (128 + 2 * i + 1) 128 (omega arith), lt-ltb (128 + 2 * i + 1) 256 (omega arith), d, m) refl

  outgoing_back : length s.outgoing.rows ≡ 64 → rows_in (bytes_of s) 128 ≡ s.outgoing.rows
  unfolding rows_in
  outgoing_back e =
      sym (tabulate_is s.outgoing.rows 64 (row_in (bytes_of s) 128) (record { word = record { 0 = 0 }; number = 0 }) e
      (λ i h. sym (rw (outgoing_word i h, outgoing_number i h) refl)))

  ruling_word : (i : ℕ) → i < 64 → get_or (bytes_of s) (256 + 2 * i) 0 ≡ (row_at s.ruling.rows i).word.0
  unfolding byte_at
  ruling_word i h =
      let d : (256 + 2 * i - 256) / 2 ≡ i = omega arith in
      let m : (256 + 2 * i - 256) % 2 ≡ 0 = omega arith in
      read (256 + 2 * i) (omega arith)
      ∙ rw (le-ltb (256 + 2 * i) 128 (omega arith), le-ltb (256 + 2 * i) 256 (omega arith), lt-ltb (256 + 2 * i) 384 (omega arith), d, m) refl

  ruling_number : (i : ℕ) → i < 64 → get_or (bytes_of s) (256 + 2 * i + 1) 0 ≡ (row_at s.ruling.rows i).number
  unfolding byte_at
  ruling_number i h =
      let d : (256 + 2 * i + 1 - 256) / 2 ≡ i = omega arith in
      let m : (256 + 2 * i + 1 - 256) % 2 ≡ 1 = omega arith in
      read (256 + 2 * i + 1) (omega arith)
      ∙ rw (le-ltb (256 + 2 * i + 1) 128 (omega arith), le-ltb (256 + 2 * i + 1) 256 (omega arith), lt-ltb (256 + 2 * i + 1) 384 (omega arith), d, m) refl

  ruling_back : length s.ruling.rows ≡ 64 → rows_in (bytes_of s) 256 ≡ s.ruling.rows
  unfolding rows_in
  ruling_back e =
      sym (tabulate_is s.ruling.rows 64 (row_in (bytes_of s) 256) (record { word = record { 0 = 0 }; number = 0 }) e
      (λ i h. sym (rw (ruling_word i h, ruling_number i h) refl)))

  field : (k : ℕ) → k < 13 → get_or (bytes_of s) (384 + k) 0 ≡ get_or (field_bytes s) k 0
  unfolding byte_at
  field k h =
      let e : 384 + k - 384 ≡ k = omega arith in
      read (384 + k) (omega arith)
      ∙ rw (le-ltb (384 + k) 128 (omega arith), le-ltb (384 + k) 256 (omega arith), le-ltb (384 + k) 384 (omega arith), e) refl

  pub round : Whole s → sender_of (bytes_of s) ≡ s
  unfolding sender_of
  round w =
      rw (slots_back w.slots, outgoing_back w.outgoing, ruling_back w.ruling)
      (rw (field 0 (omega arith), field 1 (omega arith), field 2 (omega arith), field 3 (omega arith), field 4 (omega arith), field 5 (omega arith), field 6 (omega arith))
      (rw (field 7 (omega arith), field 8 (omega arith), field 9 (omega arith), field 10 (omega arith), field 11 (omega arith), field 12 (omega arith))
      (rw (flag_back s.table.wait, flag_back s.outgoing.wait, flag_back s.ruling.wait, flag_back s.begun) refl)))
