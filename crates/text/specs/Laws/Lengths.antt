-- How long numbers and words are as text at most.
use Rattle.std.specs.Prelude.{Bool, true, false, cond, List, ℕ, ◌≤◌, ◌<◌, eqb, ltb, length}
use Rattle.std.proofs.Common.{arith, lt-ltb}
use Rattle.packet.specs.declared.words.Word.{Word}
use Rattle.text.specs.Output.{decimal_text, word_text}

either_le : (b : Bool) (x y : List ℕ) (n : ℕ) → length x ≤ n → length y ≤ n → length (cond b x y) ≤ n
either_le true x y n h k = h
either_le false x y n h k = k

pub decimal_le : (n : ℕ) → length (decimal_text n) ≤ 3
unfolding decimal_text
decimal_le n = either_le (ltb n 10) _ _ 3 (omega arith) (either_le (ltb n 100) _ _ 3 (omega arith) (omega arith))

pub small_le : (n : ℕ) → n < 100 → length (decimal_text n) ≤ 2
unfolding decimal_text
small_le n h = rw (lt-ltb n 100 h) (either_le (ltb n 10) _ _ 2 (omega arith) (omega arith))

pub word_le : (w : Word) → length (word_text w) ≤ 4
unfolding word_text
word_le w =
    either_le (eqb w.0 1) _ _ 4 (omega arith)
    (either_le (eqb w.0 2) _ _ 4 (omega arith) (either_le (eqb w.0 3) _ _ 4 (omega arith) (either_le (eqb w.0 15) _ _ 4 (omega arith) (omega arith))))
