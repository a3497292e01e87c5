-- What is laid, tried at the end of the slice and past it.
use Rattle.std.specs.Prelude.{◌≡◌, refl, [], ◌∷◌}
use Rattle.payload.specs.Laying.{laid}

pub up_to_end : laid 2 (7 ∷ 8 ∷ []) (0 ∷ 1 ∷ 2 ∷ 3 ∷ []) ≡ 0 ∷ 1 ∷ 7 ∷ 8 ∷ []
up_to_end = refl

pub past_end : laid 3 (7 ∷ 8 ∷ []) (0 ∷ 1 ∷ 2 ∷ 3 ∷ []) ≡ 0 ∷ 1 ∷ 2 ∷ 3 ∷ []
past_end = refl
