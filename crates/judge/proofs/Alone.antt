-- A port alone.
use mathlib.Core.Path.{◌≡◌, refl}
use mathlib.Core.Bool.{Bool, true, false, cond, ◌&&◌, ◌||◌}
use mathlib.Core.List.{List, [], ◌∷◌}
use mir.Val.{bool_byte}
use Prim.Native.Nat.{ℕ, ◌+◌}
use lib.Dec.{eqb}
use Rattle.ground.specs.Counting.Words.{every}
use Rattle.ground.specs.Table.{tabulate, tabulate_ext}
use Rattle.judge.specs.declared.order.Order.{Order}
use Rattle.judge.specs.declared.seen.Seen.{Seen}
use Rattle.judge.specs.declared.verdict.Tally.{Tally}
use Rattle.judge.specs.Cause.{cause_of, fixed_cause, lcas_cause}
use Rattle.judge.specs.Order.{active_in, has_rank, order_of, port_of, rank_of}
use Rattle.judge.specs.Seen.{active_seen, numbered_seen, seen_at}
use Rattle.judge.specs.Tally.{exact_to, tally_of}
use Rattle.judge.specs.Verdict.{eos_alone, eos_wrong, exact, fixed_exact, gid_differs, highest, missing, repeats, takes}

no_other : (b : Bool) → false ≡ (b && false)
no_other true = refl
no_other false = refl

-- it repeats no number
pub none_repeats : (p : Seen) → false ≡ repeats (p ∷ []) 1
unfolding repeats takes
none_repeats p = no_other (numbered_seen p)

whole : (b : Bool) (q : ℕ) → (eqb (0 + cond b 1 0) 0 || (b && eqb q 0)) ≡ every (0 + cond b 1 0) (λ r. b && eqb q r)
whole true q = refl
whole false q = refl

pub exact_alone : (p : Seen) (t : Tally) (zero : Bool) → t ≡ tally_of (p ∷ []) 1 → zero ≡ takes (p ∷ []) 1 0
    → (eqb t.numbered 0 || zero) ≡ exact_to (p ∷ []) 1 t.numbered
unfolding exact_to takes
exact_alone p t zero et e = rw (et, e) (whole (numbered_seen p) p.number)

pub fixed_exact_alone : (p : Seen) (zero : Bool) → zero ≡ takes (p ∷ []) 1 0 → zero ≡ exact_to (p ∷ []) 1 1
unfolding exact_to
fixed_exact_alone p zero e = e

-- nothing but the first port is asked for
pub cause_first : (kind : ℕ) (ports : List Seen) → cause_of kind (seen_at ports 0 ∷ []) 1 ≡ cause_of kind ports 1
unfolding cause_of fixed_cause fixed_exact lcas_cause repeats gid_differs eos_wrong eos_alone highest missing exact takes
cause_first kind ports = refl

pub order_first : (ports : List Seen) → order_of (seen_at ports 0 ∷ []) 1 ≡ order_of ports 1
unfolding order_of port_of rank_of active_in
order_first ports = refl

port_zero : (b : Bool) → ◌≡◌ {A = ℕ} 0 (cond b 0 0)
port_zero true = refl
port_zero false = refl

one_more : (b : Bool) → ◌≡◌ {A = ℕ} (cond b 1 0) (0 + cond b 1 0)
one_more true = refl
one_more false = refl

ports_alone : (p : Seen) → tabulate 64 (λ (r : ℕ). 0) ≡ tabulate 64 (port_of (p ∷ []) 1)
unfolding port_of
ports_alone p = tabulate_ext 64 (λ (r : ℕ). 0) (port_of (p ∷ []) 1) (λ r b. port_zero (has_rank (p ∷ []) 1 r 0))

x_alone : (p : Seen) → cond (active_seen p) 1 0 ≡ active_in (p ∷ []) 1
unfolding active_in
x_alone p = one_more (active_seen p)

abbrev alone : ℕ → Order
alone x = record { ports = tabulate 64 (λ (r : ℕ). 0); x = x }

pub byte_is : (b : Bool) → bool_byte b ≡ cond b 1 0
byte_is true = refl
byte_is false = refl

pub order_alone : (p : Seen) (x : ℕ) → x ≡ cond (active_seen p) 1 0 → alone x ≡ order_of (p ∷ []) 1
unfolding order_of
order_alone p x e = rw (e, x_alone p, ports_alone p) refl
