-- A board and ranks written piece by piece are the tables of their bytes, and each way out of the calls that show them.
use mathlib.Core.Path.{◌≡◌, refl, ◌∙◌, ap}
use mathlib.Core.List.{List, [], ◌∷◌}
use Prim.Native.Nat.{ℕ, ◌+◌, ◌-◌, ◌<◌}
use native.Mathlib.Omega.{arith}
use lib.ListN.{length, get_or}
use borrow.Author.Tests.{eq-eqb, ne_eqb, le-ltb, lt-ltb}
use Rattle.ground.specs.Drawn.{Filling, fill_at, fill_at_ext, filling, filling_all, filling_piece}
use Rattle.ground.specs.Flags.{one_if}
use Rattle.sender.specs.declared.board.Board.{Board}
use Rattle.sender.specs.declared.ranks.Ranks.{Ranks}
use Rattle.sender.specs.Table.{slot_count}
use Rattle.c_face.specs.Boards.{board_byte, board_bytes_of, rank_byte, ranks_bytes_of, shown_answer_c, shown_bytes}
use Rattle.c_face.specs.Keeping.{rows_byte}

module _ (b : Board) where
  board_head : (j : ℕ) → j < 2 → get_or (slot_count b.count ∷ one_if b.wait ∷ []) j 0 ≡ board_byte b j
  unfolding board_byte
  board_head j h = rw (lt-ltb j 2 h) refl

  board_rows : (j : ℕ) → j < 128 → rows_byte b.rows j ≡ board_byte b (2 + j)
  unfolding board_byte
  board_rows j h = let e : 2 + j - 2 ≡ j = omega arith in rw (le-ltb (2 + j) 2 (omega arith), e) refl

  pub board_whole : (n w : ℕ) (d a out : List ℕ) → length d ≡ 130 → n ≡ slot_count b.count → w ≡ one_if b.wait → a ≡ fill_at 0 2 (λ k. get_or (n ∷ w ∷ []) k 0) d
      → out ≡ fill_at 2 128 (rows_byte b.rows) a → out ≡ board_bytes_of b
  unfolding board_bytes_of
  board_whole n w d a out l en ew ea eo =
      let e : a ≡ fill_at 0 2 (λ k. get_or (slot_count b.count ∷ one_if b.wait ∷ []) k 0) d =
      ea ∙ ap (λ (v : ℕ). fill_at 0 2 (λ k. get_or (n ∷ v ∷ []) k 0) d) ew ∙ ap (λ (v : ℕ). fill_at 0 2 (λ k. get_or (v ∷ one_if b.wait ∷ []) k 0) d) en in
      let A : Filling 0 2 (board_byte b) d a = filling 0 2 (board_byte b) d a (e ∙ fill_at_ext 0 2 (λ k. get_or (slot_count b.count ∷ one_if b.wait ∷ []) k 0) (board_byte b) d board_head) in
      let B : Filling 0 130 (board_byte b) d out = filling_piece 128 (rows_byte b.rows) out A eo board_rows in
      filling_all B l

module _ (r : Ranks) where
  abbrev head : ℕ → List ℕ
  head v = r.count ∷ v ∷ r.epoch ∷ r.x ∷ []

  rank_head : (j : ℕ) → j < 4 → get_or (head (one_if r.begun)) j 0 ≡ rank_byte r j
  unfolding rank_byte
  rank_head j h = rw (lt-ltb j 4 h) refl

  rank_each : (j : ℕ) → j < 64 → get_or r.ranks j 0 ≡ rank_byte r (4 + j)
  unfolding rank_byte
  rank_each j h = let e : 4 + j - 4 ≡ j = omega arith in rw (le-ltb (4 + j) 4 (omega arith), e) refl

  pub ranks_whole : (v : ℕ) (d a out : List ℕ) → length d ≡ 68 → length r.ranks ≡ 64 → v ≡ one_if r.begun → a ≡ fill_at 0 4 (λ k. get_or (head v) k 0) d
      → out ≡ fill_at 4 (length r.ranks) (λ k. get_or r.ranks k 0) a → out ≡ ranks_bytes_of r
  unfolding ranks_bytes_of
  ranks_whole v d a out l m ev ea eo =
      let e : a ≡ fill_at 0 4 (λ k. get_or (head (one_if r.begun)) k 0) d = ea ∙ ap (λ (w : ℕ). fill_at 0 4 (λ k. get_or (head w) k 0) d) ev in
      let A : Filling 0 4 (rank_byte r) d a = filling 0 4 (rank_byte r) d a (e ∙ fill_at_ext 0 4 (λ k. get_or (head (one_if r.begun)) k 0) (rank_byte r) d rank_head) in
      let o : out ≡ fill_at 4 64 (λ k. get_or r.ranks k 0) a = eo ∙ ap (λ (n : ℕ). fill_at 4 n (λ k. get_or r.ranks k 0) a) m in
      let B : Filling 0 68 (rank_byte r) d out = filling_piece 64 (λ k. get_or r.ranks k 0) out A o rank_each in
      filling_all B l

module _ (n : ℕ) (state new out : List ℕ) where
  pub shown_state : (length state ≡ 397 → ⊥) → (9 ≡ shown_answer_c n state out) × (out ≡ shown_bytes n state new out)
  unfolding shown_answer_c shown_bytes
  shown_state d = rw (ne_eqb (length state) 397 d) (refl, refl)

  pub shown_room : length state ≡ 397 → (length out ≡ n → ⊥) → (9 ≡ shown_answer_c n state out) × (out ≡ shown_bytes n state new out)
  unfolding shown_answer_c shown_bytes
  shown_room l d = rw (eq-eqb (length state) 397 l, ne_eqb (length out) n d) (refl, refl)

  pub shown_done : (left : List ℕ) → length state ≡ 397 → length out ≡ n → left ≡ new → (0 ≡ shown_answer_c n state out) × (left ≡ shown_bytes n state new out)
  unfolding shown_answer_c shown_bytes
  shown_done left l m e = rw (eq-eqb (length state) 397 l, eq-eqb (length out) n m) (refl, e)
