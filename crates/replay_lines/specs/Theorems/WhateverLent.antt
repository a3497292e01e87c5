-- The output does not go by what lay in the lent rows and store before (2026-05).
use Rattle.std.specs.Prelude.{◌≡◌, ℕ, Bool, true, false, List, [], ◌∷◌, length}
use Rattle.std.proofs.Math.Path.{refl, sym}
use Rattle.std.proofs.Common.{◌∙◌}
use Rattle.recording.specs.declared.opening.Opening.{Opening}
use Rattle.recording.specs.declared.opening.Opening.TheVariants as O
use Rattle.recording.specs.declared.pairs.Settings.{Settings as GroupSettings}
use Rattle.recording.specs.Opening.{line_opening}
use Rattle.replay_lines.specs.Replay.{beginning}
use Rattle.replay_lines.specs.Runs.{Desk, desk_after, output_from, said_to, whole_output}
use Rattle.replay_lines.specs.Theorems.Lines.{bad_first_line, bad_settings}
use Rattle.replay_lines.specs.Turn.{open_with_rows, open_with_turn, startable}
use Rattle.text.specs.Text.{lines_of}

abbrev fresh : List (List ℕ) → List ℕ → Desk
fresh rows store = record { replay = beginning; rows = rows; store = store }

module _ (out : List ℕ) (rows other : List (List ℕ)) (store that : List ℕ) (r : length rows ≡ length other) (s : length store ≡ length that) where
  -- a group that starts finds zeros
  start_same : (l : List ℕ) (ls : List (List ℕ)) (g : GroupSettings) (next : ℕ) → line_opening 0 l ≡ O.Settings g next → startable g (length that) ≡ true
      → output_from out (fresh rows store) (l ∷ ls) ≡ output_from out (fresh other that) (l ∷ ls)
  unfolding said_to desk_after open_with_turn open_with_rows
  start_same l ls g next e t = rw (e, s, r, t, s) refl

  first_same : (l : List ℕ) (ls : List (List ℕ)) → output_from out (fresh rows store) ls ≡ output_from out (fresh other that) ls → (x : Opening) → line_opening 0 l ≡ x
      → output_from out (fresh rows store) (l ∷ ls) ≡ output_from out (fresh other that) (l ∷ ls)
  unfolding said_to desk_after
  first_same l ls same (O.Settings g next) e = go (startable g (length that)) refl
    where
      go : (b : Bool) → startable g (length that) ≡ b → output_from out (fresh rows store) (l ∷ ls) ≡ output_from out (fresh other that) (l ∷ ls)
      go true t = start_same l ls g next e t
      go false t =
          let u : startable g (length store) ≡ false = rw s t in
          bad_settings out (fresh rows store) l ls refl g next e u ∙ sym (bad_settings out (fresh other that) l ls refl g next e t)
  first_same l ls same O.Malformed e = bad_first_line out (fresh rows store) l ls refl e ∙ sym (bad_first_line out (fresh other that) l ls refl e)
  first_same l ls same O.Unfinished e = rw e same
  first_same l ls same O.End e = rw e same

  lines_same : (ls : List (List ℕ)) → output_from out (fresh rows store) ls ≡ output_from out (fresh other that) ls
  lines_same [] = refl
  lines_same (l ∷ ls) = first_same l ls (lines_same ls) (line_opening 0 l) refl

  -- any two lent rows, and any two stores, of the same lengths
  pub whole_same : (recording : List ℕ) → whole_output out rows store recording ≡ whole_output out other that recording
  unfolding whole_output
  whole_same recording = lines_same (lines_of recording)
