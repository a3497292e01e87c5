-- Nothing that concerns all ports changes how many rows there are.
use Rattle.std.specs.Prelude.{◌≡◌, refl, Bool, true, false, not, ◌&&◌, List, ℕ, zero, suc, length}
use Rattle.std.proofs.Common.{◌∙◌}
use Rattle.ground.specs.Truth.{cond_by}
use Rattle.phases.specs.Beginning.{begins}
use Rattle.phases.specs.Due.{silent}
use Rattle.phases.specs.Passing.{passed_group, passed_of, passed_port, passed_ports}
use Rattle.phases.specs.Settling.{begin_by, begun_of, cleared_port, cleared_ports, stop_by, stopped_of}
use Rattle.rows.specs.declared.group.Group.{Group}
use Rattle.rows.specs.Laws.Port.{length_put, length_put_group}
use Rattle.rows.specs.Part.{TheMarks, TheMember, ThePackets, TheStep}
use Rattle.step.specs.Arrival.{flag_of}

pub length_passed_port : (g : Group) (store : List ℕ) (i : ℕ) (s : List (List ℕ)) → length (passed_port g store i s) ≡ length s
unfolding passed_port
length_passed_port g store i s = length_put _ i (TheMarks _) ∙ length_put _ i (TheStep _) ∙ length_put _ i (ThePackets _) ∙ length_put s i (TheMember _)

pub length_passed_ports : (g : Group) (store : List ℕ) (n : ℕ) (s : List (List ℕ)) → length (passed_ports g store n s) ≡ length s
unfolding passed_ports
length_passed_ports g store zero s = refl
length_passed_ports g store (suc n) s = length_passed_port g store n (passed_ports g store n s) ∙ length_passed_ports g store n s

pub length_passed : (g : Group) (store : List ℕ) (n : ℕ) (s : List (List ℕ)) → length (passed_of g store n s) ≡ length s
unfolding passed_of
length_passed g store n s = length_put_group (passed_ports g store n s) (passed_group g) ∙ length_passed_ports g store n s

pub length_cleared_port : (g : Group) (beginning : Bool) (i : ℕ) (s : List (List ℕ)) → length (cleared_port g beginning i s) ≡ length s
unfolding cleared_port
length_cleared_port g beginning i s = length_put _ i (TheMarks _) ∙ length_put s i (TheStep _)

pub length_cleared : (g : Group) (beginning : Bool) (n : ℕ) (s : List (List ℕ)) → length (cleared_ports g beginning n s) ≡ length s
unfolding cleared_ports
length_cleared g beginning zero s = refl
length_cleared g beginning (suc n) s = length_cleared_port g beginning n (cleared_ports g beginning n s) ∙ length_cleared g beginning n s

pub length_stopped : (g : Group) (n : ℕ) (s : List (List ℕ)) → length (stopped_of g n s) ≡ length s
unfolding stopped_of
length_stopped g n s = length_put_group (cleared_ports g false n s) _ ∙ length_cleared g false n s

pub length_begun : (g : Group) (n : ℕ) (s : List (List ℕ)) → length (begun_of g n s) ≡ length s
unfolding begun_of
length_begun g n s = length_put_group (cleared_ports g true n s) _ ∙ length_cleared g true n s

pub length_stop : (g : Group) (n : ℕ) (s : List (List ℕ)) → length (stop_by g n s) ≡ length s
unfolding stop_by
length_stop g n s =
    cond_by (λ t. length t ≡ length s) (flag_of g.begun && silent g s n) (stopped_of g n s) s (λ e. length_stopped g n s) (λ e. refl)

pub length_begin : (g : Group) (n : ℕ) (s : List (List ℕ)) → length (begin_by g n s) ≡ length s
unfolding begin_by
length_begin g n s =
    cond_by (λ t. length t ≡ length s) (not (flag_of g.begun) && begins g s n) (begun_of g n s) s (λ e. length_begun g n s) (λ e. refl)
