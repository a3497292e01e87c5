-- Calls that do not cope. Each breaks one part of what coping says, and the proof that it does not cope goes by that part alone.
use Rattle.std.specs.Prelude.{true, false, List, [], ◌∷◌, ◌≡◌, refl, ℕ, get_or}
use Rattle.std.proofs.Common.{ap, arith}
use Rattle.conformance.specs.Refusals.Entries.{Call, Copes, If, stateful, stateless}

abbrev Each : (ℕ → Type 0) → List ℕ → Type 0
Each P [] = Unit {0}
Each P (n ∷ ns) = P n × Each P ns

apart : ◌≡◌ {A = ℕ} 1 0 → ⊥
apart e = omega arith

-- refused with n, and the state is another: only 4, 10 and 12 excuse that
abbrev pub spoils : ℕ → Call
spoils n = stateful {S = ℕ} (If n true ∷ []) n [] [] 0 1 1

pub spoiled : Each (λ n. Copes (spoils n) → ⊥) (1 ∷ 2 ∷ 3 ∷ 5 ∷ 6 ∷ 7 ∷ 8 ∷ 9 ∷ 11 ∷ 13 ∷ 14 ∷ 15 ∷ [])
spoiled = (
  λ c. apart (c.as_given refl),
  (
    λ c. apart (c.as_given refl),
    (
      λ c. apart (c.as_given refl),
      (
        λ c. apart (c.as_given refl),
        (
          λ c. apart (c.as_given refl),
          (
            λ c. apart (c.as_given refl),
            (
              λ c. apart (c.as_given refl),
              (
                λ c. apart (c.as_given refl),
                (
                  λ c. apart (c.as_given refl),
                  (λ c. apart (c.as_given refl), (λ c. apart (c.as_given refl), (λ c. apart (c.as_given refl), tt))),
                ),
              ),
            ),
          ),
        ),
      ),
    ),
  ),
)

-- refused with n, and a lent byte is another: no number but 0 excuses that
abbrev pub writes : ℕ → Call
writes n = stateless (If n true ∷ []) n ((0 ∷ []) ∷ []) ((1 ∷ []) ∷ [])

pub written : (n : ℕ) → (n ≡ 0 → ⊥) → Copes (writes n) → ⊥
written n d c = apart (ap (λ l. get_or (get_or l 0 []) 0 0) (c.untouched d))

-- refused with 4, and the state is not an empty group
abbrev pub stays : Call
stays = stateful {S = ℕ} (If 4 true ∷ []) 4 [] [] 1 1 0

pub stayed : Copes stays → ⊥
stayed c = apart (c.emptied refl)

-- both conditions hold, and the later number is answered
abbrev pub skips : Call
skips = stateless (If 9 true ∷ If 5 true ∷ []) 5 [] []

pub skipped : Copes skips → ⊥
skipped c = let e = c.answers in omega arith

-- a condition holds, and 0 is answered
abbrev pub ignores : Call
ignores = stateless (If 9 true ∷ []) 0 [] []

pub ignored : Copes ignores → ⊥
ignored c = let e = c.answers in omega arith

-- no condition holds, and a refusal is answered
abbrev pub refuses : Call
refuses = stateless (If 9 false ∷ []) 9 [] []

pub refused_all : Copes refuses → ⊥
refused_all c = let e = c.answers in omega arith
