-- The steady frame's tests in the order of the code.
use mathlib.Core.Path.{◌≡◌, refl, sym}
use mathlib.Core.Bool.{Bool, true, false, ◌&&◌, true≢false}
use Prim.Native.Nat.{ℕ}
use lib.Dec.{eqb}
use Rattle.packet.specs.Counts.{h4_counts}
use Rattle.rows.specs.declared.group.Group.{Group}
use Rattle.rows.specs.declared.step.Step.{Step}
use Rattle.step.specs.Arrival.{flag_of, in_step}
use Rattle.step.specs.Steady.{steady}

all : (a b c d e f x : Bool) → (a && b && c && d && e && f) ≡ true → x ≡ (true && b && c && d && e && x && a && f)
all true true true true true true true t = refl
all true true true true true true false t = refl
all true true true true true false x t = absurd (true≢false (sym t))
all true true true true false f x t = absurd (true≢false (sym t))
all true true true false e f x t = absurd (true≢false (sym t))
all true true false d e f x t = absurd (true≢false (sym t))
all true false c d e f x t = absurd (true≢false (sym t))
all false b c d e f x t = absurd (true≢false (sym t))

none : (a b c d e f x : Bool) → (a && b && c && d && e && f) ≡ false → (true && b && c && d && e && x && a && f) ≡ false
none a false c d e f x t = refl
none a true false d e f x t = refl
none a true true false e f x t = refl
none a true true true false f x t = refl
none a true true true true f false t = refl
none true true true true true f true t = t
none false true true true true f true t = refl

module _ (g : Group) (s : Step) (flag : Bool) (h : ℕ) (left : flag ≡ false) where
  pub tests_hold : (flag_of g.begun && eqb s.heard 1 && eqb s.failed 0 && eqb s.breaks 0 && in_step g s && flag_of s.joined) ≡ true
      → h4_counts s.next h ≡ steady g s flag h
  unfolding steady
  tests_hold t = rw left (all (flag_of g.begun) (eqb s.heard 1) (eqb s.failed 0) (eqb s.breaks 0) (in_step g s) (flag_of s.joined) (h4_counts s.next h) t)

  pub tests_fail : (flag_of g.begun && eqb s.heard 1 && eqb s.failed 0 && eqb s.breaks 0 && in_step g s && flag_of s.joined) ≡ false
      → steady g s flag h ≡ false
  unfolding steady
  tests_fail t = rw left (none (flag_of g.begun) (eqb s.heard 1) (eqb s.failed 0) (eqb s.breaks 0) (in_step g s) (flag_of s.joined) (h4_counts s.next h) t)
