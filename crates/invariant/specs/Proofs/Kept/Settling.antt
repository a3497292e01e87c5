-- What is kept as stopping, beginning and gathering follow from a frame.
use Rattle.std.specs.Prelude.{◌≡◌, ◌&&◌, List, ℕ, ◌<◌, length}
use Rattle.std.proofs.Math.Path.{refl, ap}
use Rattle.std.proofs.Common.{◌∙◌, arith}
use Rattle.std.proofs.Math.Bool.{not}
use Rattle.invariant.specs.Kept.Group.{Lasting}
use Rattle.invariant.specs.Proofs.Kept.WithinCall.{lasting_begun, lasting_passed, lasting_stopped}
use Rattle.ground.specs.Truth.{and_left, and_right, cond_by}
use Rattle.phases.specs.Beginning.{begins}
use Rattle.phases.specs.Due.{brought, silent}
use Rattle.phases.specs.Laws.Cleared.{begun_group, stopped_group}
use Rattle.phases.specs.Laws.Passed.{passed_group_lem}
use Rattle.phases.specs.Passing.{passed_of}
use Rattle.phases.specs.Settling.{begin_by, begun_of, gather_by, settled_of, stop_by, stopped_of}
use Rattle.receiver.specs.Laws.Passed.{passed_count}
use Rattle.rows.specs.declared.group.Group.{Group}
use Rattle.rows.specs.Group.{group_at}
use Rattle.step.specs.Arrival.{flag_of}

-- lasting, with the same ports
pub record SteadyOf (n : ℕ) (s : List (List ℕ)) : Type 0 where
  pub lasting : Lasting s
  pub count : (group_at s).count ≡ n

module _ (s : List (List ℕ)) (k : Lasting s) where
  abbrev g : Group
  g = group_at s

  abbrev n : ℕ
  n = (group_at s).count

  some : 0 < length s
  some = let e = k.rows in omega arith

  stop_steady : SteadyOf n (stop_by g n s)
  unfolding stop_by
  stop_steady =
      cond_by (SteadyOf n) (flag_of g.begun && silent g s n) (stopped_of g n s) s
      (λ e. record { lasting = lasting_stopped s k; count = ap (λ (h : Group). h.count) (stopped_group g n s some) })
      (λ e. record { lasting = k; count = refl })

  begin_steady : SteadyOf n (begin_by g n s)
  unfolding begin_by
  begin_steady =
      cond_by (SteadyOf n) (not (flag_of g.begun) && begins g s n) (begun_of g n s) s
      (λ e.
      record {
        lasting = lasting_begun s k (and_right (not (flag_of g.begun)) (begins g s n) e);
        count = ap (λ (h : Group). h.count) (begun_group g n s some);
      })
      (λ e. record { lasting = k; count = refl })

  gather_steady : (store : List ℕ) → SteadyOf n (gather_by g store n s)
  unfolding gather_by
  gather_steady store =
      cond_by (SteadyOf n) (flag_of g.begun && not (flag_of g.gathered) && brought g s n) (passed_of g store n s) s
      (λ e.
      record {
        lasting =
            lasting_passed s k store
            (and_left (flag_of g.begun) (not (flag_of g.gathered)) (and_left (flag_of g.begun && not (flag_of g.gathered)) (brought g s n) e))
            (and_right (flag_of g.begun && not (flag_of g.gathered)) (brought g s n) e);
        count = ap (λ (h : Group). h.count) (passed_group_lem g store n s some) ∙ passed_count g;
      })
      (λ e. record { lasting = k; count = refl })

stop_of : (n : ℕ) (s : List (List ℕ)) → SteadyOf n s → SteadyOf n (stop_by (group_at s) n s)
stop_of n s k = rw (← k.count) (stop_steady s k.lasting)

begin_of_lem : (n : ℕ) (s : List (List ℕ)) → SteadyOf n s → SteadyOf n (begin_by (group_at s) n s)
begin_of_lem n s k = rw (← k.count) (begin_steady s k.lasting)

gather_of : (n : ℕ) (store : List ℕ) (s : List (List ℕ)) → SteadyOf n s → SteadyOf n (gather_by (group_at s) store n s)
gather_of n store s k = rw (← k.count) (gather_steady s k.lasting store)

pub steady_settled : (n : ℕ) (store : List ℕ) (s : List (List ℕ)) → SteadyOf n s → SteadyOf n (settled_of n store s)
unfolding settled_of
steady_settled n store s k =
    let a : List (List ℕ) = stop_by (group_at s) n s in
    let b : List (List ℕ) = begin_by (group_at a) n a in
    gather_of n store b (begin_of_lem n a (stop_of n s k))
