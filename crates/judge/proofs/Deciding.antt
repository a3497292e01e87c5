-- Clauses and their numbers.
use Rattle.std.specs.Prelude.{◌≡◌, refl, Bool, true, false, cond, List, Option, Some, None, ℕ, ◌≤◌, ◌<◌, eqb, is_some}
use Rattle.std.proofs.Common.{◌∙◌, arith, eqb-true, sym}
use Rattle.ground.specs.Counting.Laws.Tests.{some_none}
use Rattle.judge.specs.Cause.{applies, blamed_by}
use Rattle.judge.specs.declared.named.Cause.{Cause}
use Rattle.judge.specs.declared.named.Cause.TheVariants.{Refused, Lacking, Repeated, Gid, Eos, Unseen, Numbers}
use Rattle.judge.specs.declared.seen.Seen.{Seen}
use Rattle.judge.specs.Named.{by_number, cause_number, decided_number}
use Rattle.judge.specs.Verdict.{highest}

named_above : (cause : Cause) → 0 < cause_number cause
named_above Refused = omega arith
named_above Lacking = omega arith
named_above Repeated = omega arith
named_above Gid = omega arith
named_above Eos = omega arith
named_above Unseen = omega arith
named_above Numbers = omega arith

pub some_decides : (cause : Option Cause) → is_some cause ≡ true → 0 < decided_number cause
some_decides (Some cause) e = named_above cause
some_decides None e = cc

pub none_decides : (cause : Option Cause) → is_some cause ≡ false → decided_number cause ≤ 0
none_decides (Some cause) e = cc
none_decides None e = omega arith

-- a number's clause has that number
pub number_back : (c : ℕ) (cause : Cause) → by_number c ≡ Some cause → cause_number cause ≡ c
number_back c cause e = named (eqb c 1) (eqb c 2) (eqb c 3) (eqb c 4) (eqb c 5) (eqb c 6) (eqb c 7) refl refl refl refl refl refl refl e
  where
    at : (k : ℕ) (found : Cause) → cause_number found ≡ k → eqb c k ≡ true → Some found ≡ Some cause → cause_number cause ≡ c
    at k found n t e = let same : found ≡ cause = cc in rw (← same) (n ∙ sym (eqb-true c k t))

    named : (a b d f g h k : Bool) → eqb c 1 ≡ a → eqb c 2 ≡ b → eqb c 3 ≡ d → eqb c 4 ≡ f → eqb c 5 ≡ g → eqb c 6 ≡ h → eqb c 7 ≡ k
        → cond a (Some Refused) (cond b (Some Lacking) (cond d (Some Repeated) (cond f (Some Gid) (cond g (Some Eos) (cond h (Some Unseen) (cond k (Some Numbers) None)))))) ≡ Some cause
        → cause_number cause ≡ c
    named true b d f g h k s _ _ _ _ _ _ e = at 1 Refused refl s e
    named false true d f g h k _ s _ _ _ _ _ e = at 2 Lacking refl s e
    named false false true f g h k _ _ s _ _ _ _ e = at 3 Repeated refl s e
    named false false false true g h k _ _ _ s _ _ _ e = at 4 Gid refl s e
    named false false false false true h k _ _ _ _ s _ _ e = at 5 Eos refl s e
    named false false false false false true k _ _ _ _ _ s _ e = at 6 Unseen refl s e
    named false false false false false false true _ _ _ _ _ _ s e = at 7 Numbers refl s e
    named false false false false false false false _ _ _ _ _ _ _ e = cc

-- to a number of no clause no clause applies
unnamed_applies : (ports : List Seen) (top c i : ℕ) → by_number c ≡ None → applies ports top c i ≡ false
unfolding applies
unnamed_applies ports top c i e = go (eqb c 1) (eqb c 2) (eqb c 3) (eqb c 4) (eqb c 5) (eqb c 6) (eqb c 7) _ _ _ _ _ _ e
  where
    go : (a b d f g h k p q r s t u : Bool)
        → cond a (Some Refused) (cond b (Some Lacking) (cond d (Some Repeated) (cond f (Some Gid) (cond g (Some Eos) (cond h (Some Unseen) (cond k (Some Numbers) None)))))) ≡ None
        → cond a p (cond b q (cond d r (cond f s (cond g t (cond h u false))))) ≡ false
    go true b d f g h k p q r s t u e = cc
    go false true d f g h k p q r s t u e = cc
    go false false true f g h k p q r s t u e = cc
    go false false false true g h k p q r s t u e = cc
    go false false false false true h k p q r s t u e = cc
    go false false false false false true k p q r s t u e = cc
    go false false false false false false k p q r s t u e = refl

pub unnamed_nobodys : (ports : List Seen) (n c : ℕ) → by_number c ≡ None → ◌≡◌ {A = ℕ} 255 (blamed_by ports n c)
unfolding blamed_by
unnamed_nobodys ports n c e = rw (some_none n (applies ports (highest ports n) c) (λ k b. unnamed_applies ports (highest ports n) c k e)) refl
