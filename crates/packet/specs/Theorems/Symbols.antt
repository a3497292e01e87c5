-- Rows of sixteen entries by their symbols, over the kind of packet: what is put at a place stands there, all other places stay, and a row is told by its symbols.
use Rattle.std.specs.Prelude.{◌≡◌, ℕ, ◌+◌, ◌*◌, ◌/◌, ◌%◌, ◌<◌, ◌≤◌, Bool, true, false, cond, ◌≢◌, List, length, ◌==◌, slice_index, slice_set, refl}
use Rattle.std.proofs.Common.{◌∙◌, sym, arith, eq-eqb, eqb-true, ne_eqb, length-set, get_or-set_other, get_or-set_same}
use Rattle.std.proofs.Math.Path.{ap}
use Rattle.std.proofs.Math.Logic.{⊎_elim}
use Rattle.std.proofs.lemmas.Bool.{eqb-false}
use Rattle.std.proofs.Math.Seq.{set_out}
use Rattle.ground.specs.Table.{tabulate_ext, tabulate_is}
use Rattle.ground.specs.Truth.{eq_or_ne}
use Rattle.packet.specs.Kinds.{frames, vc12_kind}
use Rattle.packet.specs.Symbols.{entry_at, entry_from, entry_with, row_from, symbol_at, symbol_in, symbol_of, with_symbol}

-- Of one entry, and of the entries' places: these go by the kind.

-- each place has its entry
pub entry_in_lem : (kind place : ℕ) → place < frames kind → entry_at kind place < 16
unfolding entry_at frames
entry_in_lem kind place = go (kind == vc12_kind)
  where
    go : (b : Bool) → place < cond b 32 16 → cond b (place / 2) place < 16
    go true l = omega arith
    go false l = l

-- what is put in is there
in_same : (kind entry place h : ℕ) → symbol_in kind (entry_with kind entry place h) place ≡ symbol_of kind h
unfolding symbol_in entry_with symbol_of
in_same kind entry place h = go (kind == vc12_kind) (place % 2 == 0)
  where
    go : (b first : Bool)
        → cond b (cond first (cond b (cond first (h % 2 * 2 + entry % 2) (entry / 2 * 2 + h % 2)) (h / 16) / 2) (cond b (cond first (h % 2 * 2 + entry % 2) (entry / 2 * 2 + h % 2)) (h / 16) % 2)) (cond b (cond first (h % 2 * 2 + entry % 2) (entry / 2 * 2 + h % 2)) (h / 16))
        ≡ cond b (h % 2) (h / 16)
    go true true = omega arith
    go true false = omega arith
    go false first = refl

-- and another symbol of the entry stays
in_other : (kind entry place other h : ℕ) → entry_at kind other ≡ entry_at kind place → other ≢ place
    → symbol_in kind (entry_with kind entry place h) other ≡ symbol_in kind entry other
unfolding entry_at entry_with symbol_in
in_other kind entry place other h = go (kind == vc12_kind) (place % 2 == 0) (other % 2 == 0) refl refl
  where
    go : (b first second : Bool) → (place % 2 == 0) ≡ first → (other % 2 == 0) ≡ second → cond b (other / 2) other ≡ cond b (place / 2) place → other ≢ place
        → cond b (cond second (cond b (cond first (h % 2 * 2 + entry % 2) (entry / 2 * 2 + h % 2)) (h / 16) / 2) (cond b (cond first (h % 2 * 2 + entry % 2) (entry / 2 * 2 + h % 2)) (h / 16) % 2)) (cond b (cond first (h % 2 * 2 + entry % 2) (entry / 2 * 2 + h % 2)) (h / 16))
        ≡ cond b (cond second (entry / 2) (entry % 2)) entry
    go true true true p q e d = let x = eqb-true (place % 2) 0 p in let y = eqb-true (other % 2) 0 q in absurd (d (omega arith))
    go true true false p q e d = omega arith
    go true false true p q e d = omega arith
    go true false false p q e d = let x = eqb-false (place % 2) 0 p in let y = eqb-false (other % 2) 0 q in absurd (d (omega arith))
    go false first second p q e d = absurd (d e)

-- an entry is told by its symbols
entry_is : (kind k entry : ℕ) (f : ℕ → ℕ) → k < 16
    → ((place : ℕ) → place < frames kind → entry_at kind place ≡ k → symbol_in kind entry place ≡ symbol_of kind (f place)) → entry ≡ entry_from kind f k
unfolding entry_at entry_from symbol_in symbol_of frames
entry_is kind k entry f below = go (kind == vc12_kind)
  where
    go : (b : Bool)
        → ((place : ℕ) → place < cond b 32 16 → cond b (place / 2) place ≡ k → cond b (cond (place % 2 == 0) (entry / 2) (entry % 2)) entry ≡ cond b (f place % 2) (f place / 16))
        → entry ≡ cond b (f (2 * k) % 2 * 2 + f (2 * k + 1) % 2) (f k / 16)
    go true same =
        let first : entry / 2 ≡ f (2 * k) % 2 = rw (eq-eqb (2 * k % 2) 0 (omega arith)) at (same (2 * k) (omega arith) (omega arith)) in
        let second : entry % 2 ≡ f (2 * k + 1) % 2 = rw (ne_eqb ((2 * k + 1) % 2) 0 (λ (z : (2 * k + 1) % 2 ≡ 0). omega arith)) at (same (2 * k + 1) (omega arith) (omega arith)) in
        rw (← first, ← second) (omega arith)
    go false same = same k below refl

from_ext : (kind k : ℕ) (f g : ℕ → ℕ) → k < 16 → ((place : ℕ) → place < frames kind → f place ≡ g place) → entry_from kind f k ≡ entry_from kind g k
unfolding entry_from frames
from_ext kind k f g below = go (kind == vc12_kind)
  where
    go : (b : Bool) → ((place : ℕ) → place < cond b 32 16 → f place ≡ g place) → cond b (f (2 * k) % 2 * 2 + f (2 * k + 1) % 2) (f k / 16) ≡ cond b (g (2 * k) % 2 * 2 + g (2 * k + 1) % 2) (g k / 16)
    go true same = rw (same (2 * k) (omega arith), same (2 * k + 1) (omega arith)) refl
    go false same = rw (same k below) refl

-- Of rows: these go by those.

pub length_with : (kind : ℕ) (row : List ℕ) (place h : ℕ) → length (with_symbol kind row place h) ≡ length row
unfolding with_symbol
length_with kind row place h = length-set row (entry_at kind place) (entry_with kind (slice_index row (entry_at kind place)) place h)

-- put by its parts, or past the row's end

pub with_parts : (kind : ℕ) (row : List ℕ) (place h at entry new : ℕ) → at ≡ entry_at kind place → entry ≡ slice_index row at → new ≡ entry_with kind entry place h
    → slice_set row at new ≡ with_symbol kind row place h
unfolding with_symbol
with_parts kind row place h at entry new is_at is-entry is-new = rw (is-new, is-entry, is_at) refl

pub with_past : (kind : ℕ) (row : List ℕ) (place h at : ℕ) → at ≡ entry_at kind place → length row ≤ at → row ≡ with_symbol kind row place h
unfolding with_symbol
with_past kind row place h at is_at past = sym (set_out row (entry_at kind place) (entry_with kind (slice_index row (entry_at kind place)) place h) (rw is_at at past))

module _ (kind : ℕ) (row : List ℕ) (long : length row ≡ 16) (place h : ℕ) (within : place < frames kind) where
  inside : entry_at kind place < length row
  inside = rw long (entry_in_lem kind place within)

  pub symbol_same : symbol_at kind (with_symbol kind row place h) place ≡ symbol_of kind h
  unfolding symbol_at with_symbol
  symbol_same =
      let k : ℕ = entry_at kind place in
      let new : ℕ = entry_with kind (slice_index row (entry_at kind place)) place h in
      ap (λ (e : ℕ). symbol_in kind e place) (get_or-set_same row k new 0 inside) ∙ in_same kind (slice_index row k) place h

  pub symbol_other : (other : ℕ) → other ≢ place → symbol_at kind (with_symbol kind row place h) other ≡ symbol_at kind row other
  unfolding symbol_at with_symbol
  symbol_other other d =
      let k : ℕ = entry_at kind place in
      let new : ℕ = entry_with kind (slice_index row (entry_at kind place)) place h in
      ⊎_elim
      (λ (e : entry_at kind other ≡ entry_at kind place).
      rw e (ap (λ (n : ℕ). symbol_in kind n other) (get_or-set_same row k new 0 inside) ∙ in_other kind (slice_index row k) place other h e d))
      (λ (n : entry_at kind other ≢ entry_at kind place). ap (λ (e : ℕ). symbol_in kind e other) (get_or-set_other row k (entry_at kind other) new 0 n))
      (eq_or_ne (entry_at kind other) (entry_at kind place))

-- H4's rows are those of every kind but VC-12
pub length_row : (kind : ℕ) (f : ℕ → ℕ) → length (row_from kind f) ≡ 16
unfolding row_from
length_row kind f = refl

pub h4_row : (kind : ℕ) (f : ℕ → ℕ) → (kind == vc12_kind) ≡ false → row_from 0 f ≡ row_from kind f
unfolding row_from entry_from
h4_row kind f e = rw e refl

-- a packet reads by its symbols
pub row_is : (kind : ℕ) (row : List ℕ) (f : ℕ → ℕ) → length row ≡ 16 → ((place : ℕ) → place < frames kind → symbol_at kind row place ≡ symbol_of kind (f place)) → row ≡ row_from kind f
unfolding row_from symbol_at
row_is kind row f long same =
    tabulate_is row 16 (entry_from kind f) 0 long
    (λ k b. entry_is kind k (slice_index row k) f b (λ place within e. ap (λ (n : ℕ). symbol_in kind (slice_index row n) place) (sym e) ∙ same place within))

-- and is made of its frames alone
pub row_ext : (kind : ℕ) (f g : ℕ → ℕ) → ((place : ℕ) → place < frames kind → f place ≡ g place) → row_from kind f ≡ row_from kind g
unfolding row_from
row_ext kind f g same = tabulate_ext 16 (entry_from kind f) (entry_from kind g) (λ k b. from_ext kind k f g b same)
