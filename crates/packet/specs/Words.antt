-- Control words (01, 'The control packet'): FIXED 0, ADD 1, NORM 2, EOS 3, IDLE 5, DNU 15. All others are unassigned.
use Rattle.std.specs.Prelude.{ℕ, ◌%◌, Bool, ◌||◌, ◌==◌}
use Rattle.packet.specs.declared.words.Word.{Word}

abbrev pub FIXED : ℕ
FIXED = 0

abbrev pub ADD : ℕ
ADD = 1

abbrev pub NORM : ℕ
NORM = 2

abbrev pub EOS : ℕ
EOS = 3

abbrev pub IDLE : ℕ
IDLE = 5

abbrev pub DNU : ℕ
DNU = 15

unfoldable pub assigned : Word → Bool
assigned w =
    w.0 == FIXED || w.0 == ADD || w.0 == NORM || w.0 == EOS || w.0 == IDLE || w.0 == DNU

-- a nibble's word, and a word's nibble: the low four bits of any byte
abbrev pub word_of : ℕ → Word
word_of n = record { 0 = n % 16 }

abbrev pub nibble_of : Word → ℕ
nibble_of w = w.0 % 16
