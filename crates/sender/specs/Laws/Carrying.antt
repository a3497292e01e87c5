-- The board of a table: its rows, and who of them carries payload.
use Rattle.std.specs.Prelude.{◌≡◌, refl, Bool, true, false, ◌&&◌, ◌||◌, ℕ, ◌≤◌, ◌<◌, eqb, ltb, replicate}
use Rattle.std.proofs.Common.{◌∙◌, ap, ⊎_elim, arith}
use Rattle.std.proofs.lemmas.List.{length-replicate}
use Rattle.ground.specs.Truth.{le_or_lt}
use Rattle.ground.specs.Counting.Each.{get_or_each}
use Rattle.ground.specs.Counting.Laws.Numbers.{count_ext}
use Rattle.ground.specs.Counting.Laws.Ranks.{rank}
use Rattle.ground.specs.Counting.Words.{count}
use Rattle.packet.specs.Words.{EOS, NORM}
use Rattle.sender.specs.declared.board.Row.{Row}
use Rattle.sender.specs.declared.table.State.{State}
use Rattle.sender.specs.declared.table.State.TheVariants.{Idle, Add, Active, Dnu}
use Rattle.sender.specs.declared.table.Table.{Table}
use Rattle.sender.specs.Board.{board_of, highest, no_row, row_of, rows_of, word_of}
use Rattle.sender.specs.Laws.Sizes.{size_le, size_small, size_large}
use Rattle.sender.specs.Numbering.{number_in, slots_in, state_in}
use Rattle.sender.specs.Ranks.{carries, carriers_in, rank_at, rank_of, row_at}
use Rattle.sender.specs.Table.{is_active, slot_count}

pub size_size : (c : ℕ) → slot_count (slot_count c) ≡ slot_count c
size_size c = go (slot_count c) (size_le c)
  where
    go : (n : ℕ) → n ≤ 64 → slot_count n ≡ n
    go n h = ⊎_elim (λ (g : 64 ≤ n). size_large n g ∙ (omega arith)) (λ (g : n < 64). size_small n g) (le_or_lt 64 n)

-- the board's count is how many slots there are
pub board_size : (t : Table) → slot_count (board_of t).count ≡ slots_in t
unfolding board_of
board_size t = size_size t.count

pub board_row : (t : Table) (i : ℕ) → i < slots_in t → row_at (board_of t).rows i ≡ row_of t.slots (slots_in t) i
unfolding board_of rows_of
board_row t i h =
    get_or_each (slots_in t) (λ j. row_of t.slots (slots_in t) j) (replicate 64 (no_row t.kind)) i _ h
    (let l = size_le t.count in rw (length-replicate 64 (no_row t.kind)) (omega arith))

-- NORM or EOS is sent by active members alone
word_active : (s : State) (last : Bool) → (eqb (word_of s last).0 NORM || eqb (word_of s last).0 EOS) ≡ is_active s
word_active Idle last = refl
word_active Add last = refl
word_active Active true = refl
word_active Active false = refl
word_active Dnu last = refl

row_carries : (t : Table) (i : ℕ) → carries (row_of t.slots (slots_in t) i) ≡ is_active (state_in t i)
unfolding row_of
row_carries t i = word_active (state_in t i) (highest t.slots (slots_in t) (number_in t i))

own_number_lem : (t : Table) (i : ℕ) → (row_of t.slots (slots_in t) i).number ≡ number_in t i
unfolding row_of
own_number_lem t i = refl

pub carries_active : (t : Table) (i : ℕ) → i < slots_in t → carries (row_at (board_of t).rows i) ≡ is_active (state_in t i)
carries_active t i h = ap carries (board_row t i h) ∙ row_carries t i

pub row_number : (t : Table) (i : ℕ) → i < slots_in t → (row_at (board_of t).rows i).number ≡ number_in t i
row_number t i h = ap (λ (r : Row). r.number) (board_row t i h) ∙ own_number_lem t i

-- X of a table's board
pub x_active : (t : Table) → carriers_in (board_of t).rows (slot_count (board_of t).count) ≡ count (slots_in t) (λ i. is_active (state_in t i))
unfolding carriers_in
x_active t = rw (board_size t) (count_ext (slots_in t) _ _ (λ i h. carries_active t i h))

-- the rank of an active member, among all active ones by number
pub rank_active : (t : Table) (i : ℕ) → i < slots_in t → is_active (state_in t i) ≡ true
    → rank_at (board_of t).rows (slot_count (board_of t).count) i ≡ rank (slots_in t) (λ j. is_active (state_in t j)) (number_in t) i
unfolding rank_at rank_of
rank_active t i h a =
    rw (carries_active t i h, a, board_size t, row_number t i h)
    (count_ext (slots_in t) _ (λ j. is_active (state_in t j) && ltb (number_in t j) (number_in t i)) (λ j b. rw (carries_active t j b, row_number t j b)))
