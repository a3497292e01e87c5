-- Lists filled with one number, for what is lent.
use Rattle.std.specs.Prelude.{List, ℕ, replicate}

abbrev pub zeros : ℕ → List ℕ
zeros n = replicate n 0

abbrev pub nines : ℕ → List ℕ
nines n = replicate n 9
