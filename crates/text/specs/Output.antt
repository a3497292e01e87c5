-- Texts put into a buffer, and what a number and a word are as text.
use Rattle.std.specs.Prelude.{◌≡◌, Bool, List, [], ◌∷◌, ◌++◌, ℕ, zero, suc, ◌+◌, ◌/◌, ◌%◌, length, if◌then◌else◌, ◌==◌}
use Rattle.std.proofs.lemmas.List.Edits.{sets}
use Rattle.ground.specs.Plain.{◌<?◌, ◌≤?◌}
use Rattle.ground.specs.Types.{Bytes}
use Rattle.packet.specs.declared.words.Word.{Word}
use Rattle.packet.specs.Words.{ADD, DNU, EOS, NORM}
use Rattle.text.specs.Ascii.{ascii}

-- a byte in decimal, with no zero before it
unfoldable pub decimal_text : ℕ → Bytes
decimal_text n =
    if n <? 10 then (48 + n) ∷ []
    else if n <? 100 then (48 + n / 10) ∷ (48 + n % 10) ∷ []
    else (48 + n / 100) ∷ (48 + n / 10 % 10) ∷ (48 + n % 10) ∷ []

-- the digits of a number before a text, none for 0, and at most so many
abbrev pub digits_before : (most n : ℕ) (text : Bytes) → Bytes
digits_before zero n text = text
digits_before (suc most) n text = if 0 <? n then digits_before most (n / 10) ((48 + n % 10) ∷ text) else text

-- a number of at most twenty digits in decimal, with no zero before it
unfoldable pub number_text : ℕ → Bytes
number_text n = digits_before 19 (n / 10) ((48 + n % 10) ∷ [])

-- five control words by name: ADD, NORM, EOS, DNU, IDLE
unfoldable pub word_text : Word → Bytes
word_text w =
    if w.0 == ADD then ascii "ADD"
    else if w.0 == NORM then ascii "NORM"
    else if w.0 == EOS then ascii "EOS"
    else if w.0 == DNU then ascii "DNU"
    else ascii "IDLE"

-- a field with the mark behind it
abbrev pub ended : Bytes → ℕ → List ℕ
ended field mark = field ++ (mark ∷ [])

-- a text put at a place of a buffer, where the next one goes and the buffer afterwards
pub record Put (text : List ℕ) (at : ℕ) (out : List ℕ) (next : ℕ) (new : List ℕ) : Type 0 where
  pub behind : next ≡ at + length text
  pub bytes : new ≡ sets out at text
  pub kept : length new ≡ length out

-- the same for any place and any buffer: a text that does not fit is left out
abbrev pub text_fits : (text : Bytes) (at : ℕ) (out : Bytes) → Bool
text_fits text at out = at + length text ≤? length out

unfoldable pub put_next : (text : Bytes) (at : ℕ) (out : Bytes) → ℕ
put_next text at out = if text_fits text at out then at + length text else at

unfoldable pub put_bytes : (text : Bytes) (at : ℕ) (out : Bytes) → Bytes
put_bytes text at out = if text_fits text at out then sets out at text else out
