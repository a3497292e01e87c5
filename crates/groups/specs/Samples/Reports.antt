-- The run of each group's link, computed to its reports.
use Rattle.std.specs.Prelude.{◌≡◌, refl, List, [], ◌∷◌, ◌+◌}
use Rattle.ground.specs.Table.{tabulate}
use Rattle.link.specs.Link.{expected}
use Rattle.link.specs.Samples.Computing.{outcome}
use Rattle.link.specs.Samples.Reports.{sure}
use Rattle.link.specs.Samples.Tracing.{course, outcome_by_lem}
use Rattle.link.specs.Told.{Told}
use Rattle.groups.specs.Samples.Links.{link₀, link₁}

-- group 0: one member, then two
abbrev reports₀ : List Told
reports₀ =
    sure 8 (0 ∷ 2 ∷ 4 ∷ 6 ∷ 8 ∷ 10 ∷ 12 ∷ 14 ∷ 16 ∷ 18 ∷ 20 ∷ 22 ∷ 24 ∷ 26 ∷ 28 ∷ 30 ∷ [])
    ∷ sure 9 (32 ∷ 33 ∷ 34 ∷ 35 ∷ 36 ∷ 37 ∷ 38 ∷ 39 ∷ 40 ∷ 41 ∷ 42 ∷ 43 ∷ 44 ∷ 45 ∷ 46 ∷ 47 ∷ 48 ∷ 49 ∷ 50 ∷ 51 ∷ 52 ∷ 53 ∷ 54 ∷ 55 ∷ 56 ∷ 57 ∷ 58 ∷ 59 ∷ 60 ∷ 61 ∷ 62 ∷ 63 ∷ [])
    ∷ []

run₀ : outcome link₀ 164 ≡ record { begun = 1; told = reports₀; strange = [] }
unfolding outcome course
run₀ = outcome_by_lem link₀ 164 _ refl

-- group 1: two members, slot 2 among them, in epochs numbered from 250 on
abbrev reports₁ : List Told
reports₁ =
    sure 2 (228 ∷ 229 ∷ 231 ∷ 232 ∷ 234 ∷ 235 ∷ 237 ∷ 238 ∷ 240 ∷ 241 ∷ 243 ∷ 244 ∷ 246 ∷ 247 ∷ 249 ∷ 250 ∷ 252 ∷ 253 ∷ 255 ∷ 0 ∷ 2 ∷ 3 ∷ 5 ∷ 6 ∷ 8 ∷ 9 ∷ 11 ∷ 12 ∷ 14 ∷ 15 ∷ 17 ∷ 18 ∷ [])
    ∷ sure 3 (20 ∷ 21 ∷ 23 ∷ 24 ∷ 26 ∷ 27 ∷ 29 ∷ 30 ∷ 32 ∷ 33 ∷ 35 ∷ 36 ∷ 38 ∷ 39 ∷ 41 ∷ 42 ∷ 44 ∷ 45 ∷ 47 ∷ 48 ∷ 50 ∷ 51 ∷ 53 ∷ 54 ∷ 56 ∷ 57 ∷ 59 ∷ 60 ∷ 62 ∷ 63 ∷ 65 ∷ 66 ∷ [])
    ∷ []

run₁ : outcome link₁ 164 ≡ record { begun = 1; told = reports₁; strange = [] }
unfolding outcome course
run₁ = outcome_by_lem link₁ 164 _ refl

-- the reports that demand 3 says are to come
as_expected : (tabulate 2 (λ j. expected link₀ (7 + j) (link₀.output j)) ≡ reports₀) × (tabulate 2 (λ j. expected link₁ (7 + j) (link₁.output j)) ≡ reports₁)
unfolding outcome
as_expected = (refl, refl)
