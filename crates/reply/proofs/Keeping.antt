-- The table of holders as it is read and written.
use mathlib.Core.Path.{◌≡◌, refl, sym, ap, ◌∙◌}
use mathlib.Core.Bool.{Bool, true, false, not, ◌&&◌}
use mathlib.Core.List.{List, [], ◌∷◌}
use Prim.Native.Nat.{ℕ, zero, suc, ◌<◌}
use native.Mathlib.Nat.{not-suc-le-zero, le_of_suc-le-suc}
use lib.Dec.{eqb}
use lib.ListN.{length, get_or}
use Rattle.ground.specs.Truth.{and_left}
use Rattle.reply.specs.Theorems.Keeping.{rounds_more, rounds_still}
use Rattle.reply.specs.declared.members.Port.{Port}
use Rattle.reply.specs.Choosing.{FREE, chooses, holder_of, holders, all_free}
use Rattle.reply.specs.Laws.Choosing.{chooses_lt}
use Rattle.reply.specs.Laws.Members.{left_low}
use Rattle.reply.specs.Members.{has_hold_off}
use Rattle.reply.specs.Waiting.{chosen_of, has_claim, kept_numbers, joins_kept, more_kept, must_keep, rounds, some_join}

-- which default a list is read with makes no difference within it
pub read_within : (l : List ℕ) (k d e : ℕ) → k < length l → get_or l k d ≡ get_or l k e
read_within [] k d e h = absurd (not-suc-le-zero h)
read_within (x ∷ l) zero d e h = refl
read_within (x ∷ l) (suc k) d e h = read_within l k d e (le_of_suc-le-suc h)

-- a port that takes its number
pub taken_lt : (first : Bool) (holder : ℕ) (p : Port) → (chooses first p && eqb holder FREE) ≡ true → p.number < 64
taken_lt first holder p e = chooses_lt first p (and_left (chooses first p) (eqb holder FREE) e)

-- one more that keeps its number
pub kept_lt : (chosen kept : List ℕ) (i : ℕ) (p : Port) → joins_kept chosen kept i p ≡ true → p.state_number < 64
kept_lt chosen kept i p e =
    left_low p
    (and_left (has_hold_off p) (not (has_claim chosen i p)) (and_left (must_keep chosen i p) (eqb (holder_of kept p.state_number) FREE) e))

-- the rounds as the loop goes: over where there is none left or none joins, else one less
module _ (ports : List Port) (n : ℕ) where
  pub rounds_begin : (k : ℕ) → n ≡ k → kept_numbers ports n ≡ rounds ports n k all_free
  unfolding kept_numbers
  rounds_begin k e = ap (λ (x : ℕ). rounds ports n x all_free) e

  pub rounds_none : (k : ℕ) (h : List ℕ) → k ≡ 0 → rounds ports n k h ≡ h
  unfolding rounds
  rounds_none k h e = rw e refl

  pub rounds_over : (k : ℕ) (kept chosen : List ℕ) → chosen ≡ holders ports n kept → kept_numbers ports n ≡ rounds ports n k kept
      → rounds ports n k kept ≡ kept → chosen ≡ chosen_of ports n
  unfolding chosen_of
  rounds_over k kept chosen c h e = c ∙ ap (λ (l : List ℕ). holders ports n l) (sym (h ∙ e))

  pub rounds_end : (k : ℕ) (kept chosen : List ℕ) → chosen ≡ holders ports n kept → kept_numbers ports n ≡ rounds ports n k kept
      → some_join chosen kept ports n ≡ false → chosen ≡ chosen_of ports n
  rounds_end k kept chosen c h j =
      rounds_over k kept chosen c h (rounds_still ports n k kept (ap (λ (l : List ℕ). some_join l kept ports n) (sym c) ∙ j))

  pub rounds_on : (k m : ℕ) (kept chosen more : List ℕ) → chosen ≡ holders ports n kept → kept_numbers ports n ≡ rounds ports n k kept → k ≡ suc m
      → some_join chosen kept ports n ≡ true → more ≡ more_kept chosen ports n kept → kept_numbers ports n ≡ rounds ports n m more
  rounds_on k m kept chosen more c h e j g =
      h
      ∙ ap (λ (x : ℕ). rounds ports n x kept) e
      ∙ rounds_more ports n m kept (ap (λ (l : List ℕ). some_join l kept ports n) (sym c) ∙ j)
      ∙ ap (λ (l : List ℕ). rounds ports n m l) (sym (g ∙ ap (λ (l : List ℕ). more_kept l ports n kept) c))
