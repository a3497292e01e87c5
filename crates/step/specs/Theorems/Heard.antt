-- VC-12's step rule in the request's own words, of frames as they are heard one after the other, none flagged: the latest first.
use Rattle.std.specs.Prelude.{◌≡◌, refl, Bool, true, false, List, [], ◌∷◌, ℕ, zero, suc, ◌-◌, ◌<◌, length}
use Rattle.std.proofs.Common.{arith, eqb-true, le-leb, leb-true}
use Rattle.packet.specs.Kinds.{vc12_kind}
use Rattle.packet.specs.Laws.Vc12Clock.{vc12_frames}
use Rattle.step.specs.Theorems.Words.{in_step_so, so_in_step}
use Rattle.step.specs.Words.{InStepExactly, heard_at, run_after, run_over}
use Rattle.step.specs.declared.run.Run.{Run}
use Rattle.step.specs.OwnCount.{without_mfi2}
use Rattle.step.specs.Run.{in_step_at, run_on}

run_ext : (b c : ℕ → ℕ) (t : ℕ) → ((k : ℕ) → k < t → b k ≡ c k) → run_after b t ≡ run_after c t
unfolding run_after
run_ext b c zero same = refl
run_ext b c (suc t) same = rw (run_ext b c t (λ k l. same k (omega arith)), same t (omega arith)) refl

behind : (h : ℕ) (heard : List ℕ) (k : ℕ) → k < length heard → heard_at (h ∷ heard) k ≡ heard_at heard k
behind h heard k l =
    let e : suc (length heard) - 1 - k ≡ suc (length heard - 1 - k) = omega arith in
    rw e refl

latest : (h : ℕ) (heard : List ℕ) → heard_at (h ∷ heard) (length heard) ≡ h
latest h heard = let e : suc (length heard) - 1 - length heard ≡ 0 = omega arith in rw e refl

over_after : (heard : List ℕ) → run_over vc12_kind heard ≡ run_after (heard_at heard) (length heard)
unfolding run_after
over_after [] = refl
over_after (h ∷ heard) =
    rw (latest h heard, run_ext (heard_at (h ∷ heard)) (heard_at heard) (length heard) (λ k l. behind h heard k l), ← over_after heard) refl

of_vc12_lem : (heard : List ℕ) → InStepExactly vc12_kind heard (run_over vc12_kind heard).count
unfolding in_step_at
of_vc12_lem heard =
    record {
      so = λ s. rw vc12_frames (le-leb 64 (run_over vc12_kind heard).count (rw (over_after heard) (so_in_step (heard_at heard) (length heard) s)));
      only = λ e. in_step_so (heard_at heard) (length heard) (rw (over_after heard) at (leb-true 64 (run_over vc12_kind heard).count (rw vc12_frames at e)));
    }

pub in_step_exactly : (kind : ℕ) → without_mfi2 kind ≡ true → (heard : List ℕ) → InStepExactly kind heard (run_over kind heard).count
in_step_exactly kind e heard = rw (eqb-true kind vc12_kind e) (of_vc12_lem heard)

-- none of its packets is odd
pub odd_alike : (kind : ℕ) → without_mfi2 kind ≡ true → (run : Run) (odd : Bool) (h : ℕ) → run_on kind run odd h ≡ run_on kind run false h
unfolding run_on
odd_alike kind e run odd h = rw e refl
