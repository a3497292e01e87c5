-- Boards and changes as bytes are read back as they were. So over C too what is told, applied to the old board, gives the new one, byte by byte.
use Rattle.std.specs.Prelude.{◌≡◌, Bool, true, false, List, ℕ, ◌+◌, ◌-◌, ◌*◌, ◌/◌, ◌%◌, ◌<◌, length, get_or}
use Rattle.std.proofs.Math.Path.{refl, sym}
use Rattle.std.proofs.Common.{◌∙◌, ap}
use native.Mathlib.Omega.{arith}
use borrow.Author.Tests.{eq-eqb, le-ltb, lt-ltb}
use Rattle.ground.specs.Flags.{flag_of, one_if}
use Rattle.ground.specs.Table.{get_or_tabulate, length_tabulate, tabulate_is}
use Rattle.sender.specs.Board.{board_of}
use Rattle.sender.specs.declared.board.Board.{Board}
use Rattle.sender.specs.declared.table.Table.{Table}
use Rattle.sender.specs.Laws.Carrying.{size_size}
use Rattle.sender.specs.Ranks.{row_at}
use Rattle.sender.specs.Table.{slot_count}
use Rattle.spoken.specs.Applying.{applied_of, change_in}
use Rattle.spoken.specs.Changes.{answer_number, compared_of, no_change}
use Rattle.spoken.specs.Answers.{Applied}
use Rattle.spoken.specs.Answers.Answer.{Done}
use Rattle.spoken.specs.declared.lists.Changes.{Changes}
use Rattle.spoken.specs.declared.lists.WaitChange.{WaitChange}
use Rattle.spoken.specs.declared.lists.WaitChange.TheVariants.{Same, Opened, Closed}
use Rattle.spoken.specs.Shown.{wait_code}
use Rattle.spoken.specs.Theorems.Applied.{board_whole, compared_done, compared_whole, outright}
use Rattle.c_face.specs.Boards.{board_byte, board_bytes_of}
use Rattle.c_cards.specs.Changes.{applied_answer_c, applied_bytes_c, board_from, change_bytes, change_from, changes_byte, changes_bytes_of, changes_from, compared_answer_c, compared_bytes_c, list_from, wait_from}
use Rattle.c_face.specs.Keeping.{row_in, rows_in}

flag_back : (b : Bool) → flag_of (one_if b) ≡ b
flag_back true = refl
flag_back false = refl

module _ (b : Board) where
  pub board_long : length (board_bytes_of b) ≡ 130
  unfolding board_bytes_of
  board_long = length_tabulate 130 (board_byte b)

  read : (k : ℕ) → k < 130 → get_or (board_bytes_of b) k 0 ≡ board_byte b k
  unfolding board_bytes_of
  read k h = get_or_tabulate 130 (board_byte b) k 0 h

  word_back : (i : ℕ) → i < 64 → get_or (board_bytes_of b) (2 + 2 * i) 0 ≡ (row_at b.rows i).word.0
  unfolding board_byte
  word_back i h =
      let d : (2 + 2 * i - 2) / 2 ≡ i = omega arith in
      let m : (2 + 2 * i - 2) % 2 ≡ 0 = omega arith in
      read (2 + 2 * i) (omega arith) ∙ rw (le-ltb (2 + 2 * i) 2 (omega arith), d, m) refl

  number_back : (i : ℕ) → i < 64 → get_or (board_bytes_of b) (2 + 2 * i + 1) 0 ≡ (row_at b.rows i).number
  unfolding board_byte
  number_back i h =
      let d : (2 + 2 * i + 1 - 2) / 2 ≡ i = omega arith in
      let m : (2 + 2 * i + 1 - 2) % 2 ≡ 1 = omega arith in
      read (2 + 2 * i + 1) (omega arith) ∙ rw (le-ltb (2 + 2 * i + 1) 2 (omega arith), d, m) refl

  rows_back : length b.rows ≡ 64 → rows_in (board_bytes_of b) 2 ≡ b.rows
  unfolding rows_in
  rows_back e =
      sym (tabulate_is b.rows 64 (row_in (board_bytes_of b) 2) (record { word = record { 0 = 0 }; number = 0 }) e
      (λ i h. sym (rw (word_back i h, number_back i h) refl)))

  count_back_lem : get_or (board_bytes_of b) 0 0 ≡ slot_count b.count
  unfolding board_byte
  count_back_lem = read 0 (omega arith)

  wait_back : get_or (board_bytes_of b) 1 0 ≡ one_if b.wait
  unfolding board_byte
  wait_back = read 1 (omega arith)

  -- a board of 64 rows whose count is not above them
  pub board_back : length b.rows ≡ 64 → slot_count b.count ≡ b.count → board_from (board_bytes_of b) ≡ b
  board_back e n = rw (rows_back e, count_back_lem, wait_back, n, flag_back b.wait) refl

wait_code_back : (w : WaitChange) → wait_from (wait_code w) ≡ w
wait_code_back Same = refl
wait_code_back Opened = refl
wait_code_back Closed = refl

wait_code_known : (w : WaitChange) → wait_code w < 3
wait_code_known Same = omega arith
wait_code_known Opened = omega arith
wait_code_known Closed = omega arith

module _ (cs : Changes) where
  pub changes_long : length (changes_bytes_of cs) ≡ 322
  unfolding changes_bytes_of
  changes_long = length_tabulate 322 (changes_byte cs)

  told : (k : ℕ) → k < 322 → get_or (changes_bytes_of cs) k 0 ≡ changes_byte cs k
  unfolding changes_bytes_of
  told k h = get_or_tabulate 322 (changes_byte cs) k 0 h

  -- the byte j of the change i, wherever it is named from
  byte_back : (i j k : ℕ) → i < 64 → j < 5 → k ≡ 2 + (5 * i + j) → get_or (changes_bytes_of cs) k 0 ≡ get_or (change_bytes (change_in cs.list i)) j 0
  unfolding changes_byte
  byte_back i j k h b e =
      let d : (k - 2) / 5 ≡ i = omega arith in
      let m : (k - 2) % 5 ≡ j = omega arith in
      told k (omega arith) ∙ rw (le-ltb k 2 (omega arith), d, m) refl

  change_back : (i : ℕ) → i < 64 → change_from (changes_bytes_of cs) i ≡ change_in cs.list i
  change_back i h =
      rw (
        byte_back i 0 (2 + 5 * i) h (omega arith) (omega arith),
        byte_back i 1 (2 + 5 * i + 1) h (omega arith) (omega arith),
        byte_back i 2 (2 + 5 * i + 1 + 1) h (omega arith) (omega arith),
        byte_back i 3 (2 + 5 * i + 3) h (omega arith) (omega arith),
        byte_back i 4 (2 + 5 * i + 3 + 1) h (omega arith) (omega arith),
      ) refl

  list_back : length cs.list ≡ 64 → list_from (changes_bytes_of cs) ≡ cs.list
  unfolding list_from
  list_back e = sym (tabulate_is cs.list 64 (change_from (changes_bytes_of cs)) no_change e (λ i h. sym (change_back i h)))

  first_back : get_or (changes_bytes_of cs) 0 0 ≡ cs.count
  unfolding changes_byte
  first_back = told 0 (omega arith)

  second_back : get_or (changes_bytes_of cs) 1 0 ≡ wait_code cs.wait
  unfolding changes_byte
  second_back = told 1 (omega arith)

  pub changes_back : length cs.list ≡ 64 → changes_from (changes_bytes_of cs) ≡ cs
  unfolding changes_from
  changes_back e = rw (list_back e, first_back, second_back, wait_code_back cs.wait) refl

  pub changes_wait : get_or (changes_bytes_of cs) 1 0 < 3
  changes_wait = rw second_back (wait_code_known cs.wait)

-- the board of a table is read back as it was
size_own : (v : Table) → slot_count (board_of v).count ≡ (board_of v).count
unfolding board_of
size_own v = size_size v.count

pub back : (v : Table) → board_from (board_bytes_of (board_of v)) ≡ board_of v
back v = board_back (board_of v) (board_whole v) (size_own v)

-- Two boards of tables of one kind and count, such as go out in two epochs of one sender. Whatever stood in the buffer of the changes.
module _ (t u : Table) (k : t.kind ≡ u.kind) (c : t.count ≡ u.count) (out : List ℕ) (room : length out ≡ 322) where
  abbrev old : List ℕ
  old = board_bytes_of (board_of t)

  abbrev new : List ℕ
  new = board_bytes_of (board_of u)

  abbrev cs : Changes
  cs = (compared_of (board_of t) (board_of u)).changes

  pub told_answer : compared_answer_c old new out ≡ 0
  unfolding compared_answer_c
  told_answer =
      rw (eq-eqb (length old) 130 (board_long (board_of t)), eq-eqb (length new) 130 (board_long (board_of u)), eq-eqb (length out) 322 room, back t, back u)
      (ap answer_number (compared_done t u k c))

  told_bytes : compared_bytes_c old new out ≡ changes_bytes_of cs
  unfolding compared_bytes_c
  told_bytes = rw (told_answer, back t, back u)

  applied_own : applied_of (board_from old) (changes_from (changes_bytes_of cs)) ≡ record { board = board_of u; answer = Done }
  applied_own = rw (back t, changes_back cs (compared_whole (board_of t) (board_of u))) (outright t u k c)

  pub applied_answer : applied_answer_c old (changes_bytes_of cs) ≡ 0
  unfolding applied_answer_c
  applied_answer =
      rw (eq-eqb (length old) 130 (board_long (board_of t)), eq-eqb (length (changes_bytes_of cs)) 322 (changes_long cs), lt-ltb (get_or (changes_bytes_of cs) 1 0) 3 (changes_wait cs))
      (ap (λ (a : Applied). answer_number a.answer) applied_own)

  pub applied_bytes : applied_bytes_c old (changes_bytes_of cs) ≡ new
  unfolding applied_bytes_c
  applied_bytes = rw applied_answer (ap (λ (a : Applied). board_bytes_of a.board) applied_own)

  pub told_applied : (applied_answer_c old (compared_bytes_c old new out) ≡ 0) × (applied_bytes_c old (compared_bytes_c old new out) ≡ new)
  told_applied = rw told_bytes (applied_answer, applied_bytes)
