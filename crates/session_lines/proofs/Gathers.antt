-- What is known of a line from what was gathered of it.
use Rattle.std.proofs.Common.{◌≡◌, Bool, true, false, cond, List, ℕ, length, refl, take}
use Rattle.ground.specs.Finding.{index_of}
use Rattle.session_lines.specs.declared.gathering.Gathered.TheVariants.{Ended, Open}
use Rattle.session_lines.specs.declared.kept.Kept.{Kept}
use Rattle.session_lines.specs.Gathering.{gathered_of, told}
use Rattle.session_lines.specs.Kept.{keep_all}
use Rattle.session_lines.specs.Laws.Feeding.{used_all}
use Rattle.session_lines.specs.Session.{has_end, used_of}
use Rattle.text.specs.Text.{LINE-END}

pub record IsEnded (before : Kept) (input : List ℕ) (line : Kept) (used : ℕ) : Type 0 where
  pub ends : has_end input ≡ true
  pub line_is : line ≡ keep_all before (take (index_of LINE-END input) input)
  pub used_is : used ≡ used_of input

pub record IsOpen (before : Kept) (input : List ℕ) (kept : Kept) : Type 0 where
  pub goes_on : has_end input ≡ false
  pub kept_is : kept ≡ keep_all before (take (index_of LINE-END input) input)
  -- all of the part is used
  pub used_is : used_of input ≡ length input

module _ (before : Kept) (input : List ℕ) where
  pub is_ended : (line : Kept) (used : ℕ) → Ended line used ≡ told (gathered_of before input) → IsEnded before input line used
  unfolding gathered_of
  is_ended line used e = go (has_end input) refl e
    where
      now : Kept
      now = keep_all before (take (index_of LINE-END input) input)

      go : (b : Bool) → has_end input ≡ b → Ended line used ≡ cond b (Ended now (used_of input)) (Open now) → IsEnded before input line used
      go true h f = record { ends = h; line_is = cc; used_is = cc }
      go false h f = cc

  pub is_open : (kept : Kept) → Open kept ≡ told (gathered_of before input) → IsOpen before input kept
  unfolding gathered_of
  is_open kept e = go (has_end input) refl e
    where
      now : Kept
      now = keep_all before (take (index_of LINE-END input) input)

      go : (b : Bool) → has_end input ≡ b → Open kept ≡ cond b (Ended now (used_of input)) (Open now) → IsOpen before input kept
      go true h f = cc
      go false h f = record { goes_on = h; kept_is = cc; used_is = used_all input h }
