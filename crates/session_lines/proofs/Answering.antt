-- A line answered into a buffer, and what a part of the input adds to a line.
use mathlib.Core.Path.{◌≡◌, refl, ap, ◌∙◌}
use mathlib.Core.Bool.{Bool, true, false}
use mathlib.Core.List.{List}
use Prim.Native.Nat.{ℕ, ◌+◌, ◌≤◌, ◌<◌}
use native.Mathlib.Omega.{arith}
use lib.ListN.{length, take}
use lib.Seq.{sets-eq, take-length}
use borrow.Author.Tests.{le-ltb, lt-ltb}
use Rattle.std.proofs.Math.Seq.{slice}
use Rattle.ground.specs.Finding.{index_of}
use Rattle.sender.specs.declared.board.Board.{Board}
use Rattle.sender.specs.declared.table.Table.{Table}
use Rattle.sender.specs.Board.{board_of}
use Rattle.sender.specs.Laws.Sizes.{size_le}
use Rattle.session_lines.specs.declared.gathering.Gathered.TheVariants.{Ended, Open}
use Rattle.session_lines.specs.declared.kept.Kept.{Kept}
use Rattle.session_lines.specs.declared.line.Line.{Line}
use Rattle.session_lines.specs.declared.replies.Reply.{Reply}
use Rattle.session_lines.specs.Gathering.{gathered_of, told}
use Rattle.session_lines.specs.Kept.{keep_all, line_in}
use Rattle.session_lines.specs.Line.{line_of}
use Rattle.session_lines.specs.Output.{ROOM, answer_text, board_text}
use Rattle.session_lines.specs.Replies.{is_board, output_of, reply_of}
use Rattle.session_lines.specs.Session.{over, said_to, table_after, used_of}
use Rattle.session_lines.specs.Shown.{shown_bytes, shown_length}
use Rattle.text.specs.Laws.Parted.{index_le}
use Rattle.text.specs.Output.{Put}
use Rattle.text.specs.Text.{LINE-END}
use Rattle.session_lines.proofs.Lengths.{answer_le, board_le}

put_over : {text out new : List ℕ} {next : ℕ} → Put text 0 out next new → length text ≤ length out → (next ≡ length text) × (new ≡ over text out)
put_over {text} {out} p h =
    let z : 0 + length text ≡ length text = omega arith in
    let r : 0 + length text ≤ length out = omega arith in
    (rw z at p.behind, rw z at (p.bytes ∙ sets-eq text out 0 r))

pub board_count : (t : Table) → (board_of t).count ≤ 64
unfolding board_of
board_count t = size_le t.count

module _ (t : Table) (l : Line) (out new : List ℕ) (next : ℕ) (b : Bool) (room : ROOM ≤ length out) (e : b ≡ is_board l) where
  pub output_board : b ≡ true → (d : Board) → d ≡ board_of t → Put (board_text d) 0 out next new → (next ≡ length (output_of t l)) × (new ≡ over (output_of t l) out)
  unfolding output_of
  output_board h d f p =
      let c : d.count ≤ 64 = rw f (board_count t) in
      let k = board_le d c in
      rw (← e, h, ← f) (put_over p (omega arith))

  pub output_answer : b ≡ false → (n : ℕ) → n ≡ (reply_of t l).number → Put (answer_text n) 0 out next new → (next ≡ length (output_of t l)) × (new ≡ over (output_of t l) out)
  unfolding output_of
  output_answer h n f p = let k = answer_le n in rw (← e, h, ← f) (put_over p (omega arith))

module _ (t : Table) (out : List ℕ) where
  pub shown_short : length out < ROOM → (0 ≡ shown_length t out) × (out ≡ shown_bytes t out)
  unfolding shown_length shown_bytes
  shown_short h = rw (lt-ltb (length out) ROOM h) (refl, refl)

  pub shown_board : ROOM ≤ length out → (new : List ℕ) (next : ℕ) (d : Board) → d ≡ board_of t → Put (board_text d) 0 out next new
      → (next ≡ shown_length t out) × (new ≡ shown_bytes t out)
  unfolding shown_length shown_bytes
  shown_board room new next d f p =
      let c : d.count ≤ 64 = rw f (board_count t) in
      let k = board_le d c in
      rw (le-ltb (length out) ROOM room, ← f) (put_over p (omega arith))

pub answered : (t : Table) (k : Kept) (l : Line) (r : Reply) (out new : List ℕ) (next : ℕ) → l ≡ line_of (line_in k) → r ≡ reply_of t l
    → (next ≡ length (output_of t l)) × (new ≡ over (output_of t l) out)
    → (r.table ≡ table_after t (line_in k)) × (next ≡ length (said_to t (line_in k))) × (new ≡ over (said_to t (line_in k)) out)
answered t k l r out new next e f p = (ap (λ (y : Reply). y.table) (f ∙ ap (reply_of t) e), rw (← e) p.0, rw (← e) p.1)

-- the first line end of the whole input
pub end_is : (input : List ℕ) (end : ℕ) → end ≡ 0 + index_of LINE-END (slice 0 (length input) input) → end ≡ index_of LINE-END input
end_is input end e =
    let z : 0 + index_of LINE-END input ≡ index_of LINE-END input = omega arith in
    rw (take-length, z) at e

pub end_within : (input : List ℕ) (end : ℕ) → end ≡ 0 + index_of LINE-END (slice 0 (length input) input) → end ≤ length input
end_within input end e = let s = end_is input end e in let m = index_le LINE-END input in omega arith

module _ (before : Kept) (input : List ℕ) (end : ℕ) (e : end ≡ index_of LINE-END input) (k : Kept) (f : k ≡ keep_all before (take end input)) where
  pub gathered_ended : end < length input → Ended k (end + 1) ≡ told (gathered_of before input)
  unfolding gathered_of used_of
  gathered_ended b = rw (← e, lt-ltb end (length input) b, ← f)

  pub gathered_open : length input ≤ end → Open k ≡ told (gathered_of before input)
  unfolding gathered_of used_of
  gathered_open b = rw (← e, le-ltb end (length input) b, ← f)
