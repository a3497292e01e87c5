-- What a line does and prints.
use mathlib.Core.Path.{◌≡◌, refl}
use mathlib.Core.Bool.{Bool, true, false, cond}
use mathlib.Core.List.{List}
use Prim.Native.Nat.{ℕ, ◌+◌, ◌≤◌, min}
use native.Mathlib.Omega.{arith}
use lib.Dec.{ltb}
use borrow.Author.Tests.{eq-eqb, ltb-false, ltb-true, ne_eqb}
use Rattle.session_lines.specs.declared.kept.Kept.{Kept}
use Rattle.session_lines.specs.declared.line.Line.{Line}
use Rattle.session_lines.specs.declared.replies.Reply.{Reply}
use Rattle.session_lines.specs.Kept.{line_in, nothing_kept}
use Rattle.session_lines.specs.Line.{line_of}
use Rattle.session_lines.specs.Replies.{is_board, reply_of}
use Rattle.session_lines.specs.Told.{is_size}
use Rattle.sender.specs.declared.board.Board.{Board}
use Rattle.sender.specs.declared.table.Table.{Table}
use Rattle.sender.specs.Board.{board_of}
use Rattle.spoken.specs.Answers.{Compared}
use Rattle.spoken.specs.Changes.{compared_of}
use Rattle.speak_lines.specs.declared.listening.Listener.{Listener}
use Rattle.speak_lines.specs.Lines.{board_lines, change_lines, done_text, refused_text, said_of}
use Rattle.speak_lines.specs.Listening.{after_line, heard_after, is_epoch, next_place, table_after, text_of}
use Rattle.speak_lines.proofs.Printing.{Stands}

module _ (t : Table) (k : Kept) (b : Bool) (e : b ≡ is_epoch (line_in k)) where
  pub table_epoch : b ≡ true → t ≡ table_after t (line_in k)
  unfolding table_after
  table_epoch h = rw (← e, h)

  pub heard_epoch : b ≡ true → (d heard : Board) → d ≡ board_of t → d ≡ heard_after t heard (line_in k)
  unfolding heard_after
  heard_epoch h d heard f = rw (← e, h) f

  module _ (h : b ≡ false) (l : Line) (el : l ≡ line_of (line_in k)) (r : Reply) (er : r ≡ reply_of t l) where
    pub table_line : r.table ≡ table_after t (line_in k)
    unfolding table_after
    table_line = rw (← e, h, ← el, ← er)

  module _ (h : b ≡ false) (l : Line) (el : l ≡ line_of (line_in k)) (s : Bool) (es : s ≡ is_size l) where
    pub heard_anew : s ≡ true → (r : Reply) → r ≡ reply_of t l → (d heard : Board) → d ≡ board_of r.table → d ≡ heard_after t heard (line_in k)
    unfolding heard_after
    heard_anew a r er d heard f = rw (← e, h, ← el, ← es, a, ← er) f

    pub heard_still : s ≡ false → (heard : Board) → heard ≡ heard_after t heard (line_in k)
    unfolding heard_after
    heard_still a heard = rw (← e, h, ← el, ← es, a)

module _ (l : Listener) (k : Kept) where
  pub after_line_lem : (t : Table) (d : Board) (z : Kept) (p : ℕ) → t ≡ table_after l.table (line_in k) → d ≡ heard_after l.table l.heard (line_in k) → z ≡ nothing_kept → p ≡ next_place l.place
      → ◌≡◌ {A = Listener} (record { table = t; heard = d; kept = z; place = p; runs = l.runs }) (after_line l (line_in k))
  unfolding after_line
  after_line_lem t d z p et ed ez ep = rw (et, ed, ez, ep)

-- the three kinds of output of a line of the session
module _ (runs : Bool) (t : Table) (l : Line) (place : ℕ) (out new : List ℕ) (next : ℕ) (b : Bool) (e : b ≡ is_board l) where
  pub said_board : b ≡ true → Stands (board_lines runs t) out next new → Stands (said_of runs t l place) out next new
  unfolding said_of
  said_board h p = rw (← e, h) p

  module _ (h : b ≡ false) (r : Reply) (er : r ≡ reply_of t l) where
    pub said_done : r.number ≡ 0 → Stands (done_text l r.table.count) out next new → Stands (said_of runs t l place) out next new
    unfolding said_of
    said_done z p = rw (← e, h, ← er, eq-eqb r.number 0 z) p

    pub said_refused : (r.number ≡ 0 → ⊥) → Stands (refused_text l r.number place) out next new → Stands (said_of runs t l place) out next new
    unfolding said_of
    said_refused d p = rw (← e, h, ← er, ne_eqb r.number 0 d) p

module _ (l : Listener) (k : Kept) (out new : List ℕ) (next : ℕ) (b : Bool) (e : b ≡ is_epoch (line_in k)) where
  pub text_epoch : b ≡ true → (d : Board) → d ≡ board_of l.table → (c : Compared) → c ≡ compared_of l.heard d → Stands (change_lines l.runs c.changes) out next new
      → Stands (text_of l (line_in k)) out next new
  unfolding text_of
  text_epoch h d f c g s = rw (← e, h, ← f, ← g) s

  pub text_line : b ≡ false → (line : Line) → line ≡ line_of (line_in k) → Stands (said_of l.runs l.table line l.place) out next new → Stands (text_of l (line_in k)) out next new
  unfolding text_of
  text_line h line el s = rw (← e, h, ← el) s

-- a line's number and one more, up to the last number of all
pub next_is : (place : ℕ) → place ≤ 18446744073709551615 → min (place + 1) 18446744073709551615 ≡ next_place place
unfolding next_place
next_is place h = go (ltb place 18446744073709551615) refl
  where
    go : (b : Bool) → ltb place 18446744073709551615 ≡ b → min (place + 1) 18446744073709551615 ≡ cond b (place + 1) place
    go true e = let l = ltb-true place 18446744073709551615 e in omega arith
    go false e = let l = ltb-false place 18446744073709551615 e in omega arith
