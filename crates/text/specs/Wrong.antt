-- Wrong readings, each as a definition with a run on which it breaks what a line or a number is.
use Rattle.std.specs.Prelude.{◌≡◌, refl, List, [], ◌∷◌, ℕ}
use Rattle.text.specs.Ascii.{ascii}
use Rattle.text.specs.Output.{digits_before, number_text}
use Rattle.text.specs.Text.{LINE-END, lines_of, parted}
use Rattle.text.specs.Opened.{text_open}

-- The input parted like a line's fields. Then there is an empty line behind the last line end, and every session ends in a 13.
wrong_lines : List ℕ → List (List ℕ)
wrong_lines input = parted LINE-END ([] ∷ []) input

lines_break : (wrong_lines (ascii "lapse\n") ≡ ascii "lapse" ∷ [] ∷ []) × (lines_of (ascii "lapse\n") ≡ ascii "lapse" ∷ [])
unfolding text_open wrong_lines
lines_break = (refl, refl)

-- Digits as long as something is left of the number. Then 0 has none.
wrong_number : ℕ → List ℕ
wrong_number n = digits_before 20 n []

number_breaks : (wrong_number 0 ≡ []) × (number_text 0 ≡ ascii "0") × (wrong_number 812 ≡ number_text 812)
unfolding text_open wrong_number
number_breaks = (refl, refl, refl)
