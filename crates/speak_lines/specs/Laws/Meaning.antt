-- Two lines that mean the same do and print the same; so what is kept of a line does what the line does.
use Rattle.std.specs.Prelude.{◌≡◌, refl, List, [], ◌∷◌, ℕ, zero, suc, ◌<◌, length, take}
use Rattle.std.proofs.Common.{ap, ◌∙◌, arith}
use Rattle.ground.specs.Finite.{same_bytes}
use Rattle.session_lines.specs.declared.kept.Kept.{Kept}
use Rattle.session_lines.specs.Kept.{line_in}
use Rattle.session_lines.specs.Laws.Holding.{Holds, kept_line}
use Rattle.session_lines.specs.Line.{line_of}
use Rattle.text.specs.Ascii.{ascii}
use Rattle.speak_lines.specs.declared.listening.Listener.{Listener}
use Rattle.speak_lines.specs.Listening.{after_line, heard_after, is_epoch, table_after, text_of}

pub record Alike (a b : List ℕ) : Type 0 where
  pub epoch : is_epoch a ≡ is_epoch b
  pub line : line_of a ≡ line_of b

pub same_text : (l : Listener) (a b : List ℕ) → Alike a b → text_of l a ≡ text_of l b
unfolding text_of
same_text l a b s = rw (s.epoch, s.line)

pub same_after : (l : Listener) (a b : List ℕ) → Alike a b → after_line l a ≡ after_line l b
unfolding after_line table_after heard_after
same_after l a b s = rw (s.epoch, s.line)

-- a word is told from a line by one byte more than it has
same_take : (n : ℕ) (l word : List ℕ) → length word < n → same_bytes (take n l) word ≡ same_bytes l word
same_take zero l word h = absurd (omega arith)
same_take (suc n) [] word h = refl
same_take (suc n) (a ∷ l) [] h = refl
same_take (suc n) (a ∷ l) (b ∷ word) h = let g : length word < n = omega arith in rw (same_take n l word g)

pub kept_alike : (line : List ℕ) (k : Kept) → Holds line k → Alike (line_in k) line
unfolding line_in
kept_alike line k h =
    record { epoch = ap is_epoch h.bytes ∙ same_take 81 line (ascii "epoch") (omega arith); line = kept_line line k h }
