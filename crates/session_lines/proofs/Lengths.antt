-- How long the lines of the output are at most.
use mathlib.Core.Path.{◌≡◌, refl}
use mathlib.Core.Bool.{Bool, true, false}
use mathlib.Core.List.{List}
use Prim.Native.Nat.{ℕ, zero, suc, ◌+◌, ◌*◌, ◌≤◌, ◌<◌}
use native.Mathlib.Omega.{arith}
use lib.ListN.{length, length-append}
use Rattle.packet.specs.declared.words.Word.{Word}
use Rattle.sender.specs.declared.board.Board.{Board}
use Rattle.sender.specs.declared.board.Row.{Row}
use Rattle.session_lines.specs.Output.{ROOM, answer_text, board_text, row_at, slot_text, slots_text, wait_text}
use Rattle.text.specs.Laws.Lengths.{decimal_le, small_le, word_le}
use Rattle.text.specs.Output.{Put, decimal_text}

slot_le : (i : ℕ) (w : Word) (n : ℕ) → i < 100 → length (slot_text i w n) ≤ 17
unfolding slot_text
slot_le i w n h =
    let a = small_le i h in
    let b = word_le w in
    let d = decimal_le n in
    simp length-append (omega arith)

slots_le : (rows : List Row) (n : ℕ) → n ≤ 64 → length (slots_text rows n) ≤ 17 * n
slots_le rows zero h = omega arith
slots_le rows (suc n) h =
    let a = slots_le rows n (omega arith) in
    let b = slot_le n (row_at rows n).word (row_at rows n).number (omega arith) in
    simp length-append (omega arith)

wait_is : (b : Bool) → length (wait_text b) ≡ 7
unfolding wait_text decimal_text
wait_is true = refl
wait_is false = refl

pub answer_le : (n : ℕ) → length (answer_text n) ≤ ROOM
unfolding answer_text
answer_le n = let d = decimal_le n in simp length-append (omega arith)

pub board_le : (b : Board) → b.count ≤ 64 → length (board_text b) ≤ ROOM
unfolding board_text
board_le b h =
    let d = slots_le b.rows b.count h in
    let e = wait_is b.wait in
    simp length-append (omega arith)

module _ (rows : List Row) (i : ℕ) {at : ℕ} {out new : List ℕ} (room : ROOM ≤ length out) (p : Put (slots_text rows i) 0 out at new) where
  pub slot_room : i < 64 → (w : Word) (n : ℕ) → at + length (slot_text i w n) ≤ length new
  slot_room h w n =
      let a = slots_le rows i (omega arith) in
      let b = slot_le i w n (omega arith) in
      let d = p.behind in
      let e = p.kept in
      omega arith

  pub wait_room : i ≤ 64 → (b : Bool) → at + length (wait_text b) ≤ length new
  wait_room h b =
      let a = slots_le rows i h in
      let w = wait_is b in
      let d = p.behind in
      let e = p.kept in
      omega arith
