-- Things done one by one, each on the state that those before it left: the state at the end, and a number for each.
use Rattle.std.specs.Prelude.{List, [], ◌∷◌, ℕ}

pub record Folded (S : Type 0) : Type 0 where
  pub state : S
  pub numbers : List ℕ

module _ {S C : Type 0} (next : S → C → S) (number : S → C → ℕ) where
  abbrev pub folded : S → List C → Folded S
  folded s [] = record { state = s; numbers = [] }
  folded s (c ∷ cs) = let rest = folded (next s c) cs in record { state = rest.state; numbers = number s c ∷ rest.numbers }
