-- What a table of rows is. A row has a name, what the definitions give, what a document says, worked out apart, and that the two are equal. A wrong figure is refused with the name of its row, since the name stands in what is to be proved.
use Rattle.std.specs.Prelude.{◌≡◌, refl, List, [], ◌∷◌}
use Prim.Native.String.{String}

-- that a row of this name holds
pub record Holds (name : String) {A : Type 0} (given said : A) : Type 0 where
  pub equal : given ≡ said

pub same : {name : String} {A : Type 0} {a : A} → Holds name a a
same = record { equal = refl }

pub record Row : Type 1 where
  pub name : String
  pub Figure : Type 0
  pub given : Figure
  pub said : Figure
  pub holds : Holds name given said

pub row : (name : String) {A : Type 0} (given said : A) → Holds name given said → Row
row name {A} given said holds = record { name = name; Figure = A; given = given; said = said; holds = holds }

-- the statement: equal in every row
abbrev pub Equal : List Row → Type 0
Equal [] = Unit {0}
Equal (r ∷ rs) = (r.given ≡ r.said) × Equal rs

pub equal_rows : (rs : List Row) → Equal rs
equal_rows [] = tt
equal_rows (r ∷ rs) = (r.holds.equal, equal_rows rs)

-- rows that pin the clauses of one sentence, which is 01's, a request's or the header's
pub record Pinned : Type 1 where
  pub sentence : String
  pub rows : List Row

pub pins : String → List Row → Pinned
pins sentence rows = record { sentence = sentence; rows = rows }
