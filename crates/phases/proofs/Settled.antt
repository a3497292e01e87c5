-- Stopping, beginning and gathering one after the other: each call's result put together.
use mathlib.Core.Path.{◌≡◌, refl}
use mathlib.Core.List.{List}
use Prim.Native.Nat.{ℕ}
use Rattle.phases.specs.Settling.{begin_by, gather_by, settled_of, stop_by}
use Rattle.rows.specs.declared.group.Group.{Group}
use Rattle.rows.specs.Group.{group_at}

pub settled_is : (n : ℕ) (store : List ℕ) (s : List (List ℕ)) (before stopped begun : Group) (t u v : List (List ℕ))
    → before ≡ group_at s
    → t ≡ stop_by before n s
    → stopped ≡ group_at t
    → u ≡ begin_by stopped n t
    → begun ≡ group_at u
    → v ≡ gather_by begun store n u
    → v ≡ settled_of n store s
unfolding settled_of
settled_is n store s before stopped begun t u v e-before e-t e-stopped e-u e-begun e-v =
    rw (e-v, e-begun, e-u, e-stopped, e-t, e-before) refl
