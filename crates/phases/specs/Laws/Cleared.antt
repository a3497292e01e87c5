-- Ports and the group after all ports were cleared: at a stop, and at a beginning.
use Rattle.std.specs.Prelude.{◌≡◌, ◌≢◌, Bool, ◌&&◌, List, replicate}
use Rattle.std.proofs.Math.Path.{refl, ap}
use Rattle.std.proofs.Common.{◌∙◌, not-suc-le-zero, arith}
use Rattle.std.proofs.Math.Logic.{⊎_elim}
use Rattle.std.proofs.Math.Bool.{true, false}
use Prim.Native.Nat.{ℕ, zero, suc, ◌≤◌, ◌<◌}
use Rattle.std.proofs.Math.ListN.{length}
use Rattle.ground.specs.Truth.{eq_or_ne}
use Rattle.packet.specs.Kinds.{epoch_after, epoch_of}
use Rattle.phases.specs.Beginning.{foremost}
use Rattle.phases.specs.Laws.Lengths.{length_cleared}
use Rattle.phases.specs.Laws.Ports.{port_put_two, port_put_two_other}
use Rattle.phases.specs.Passing.{group_to}
use Rattle.phases.specs.Settling.{begun_of, cleared_port, cleared_ports, cleared_step, stopped_of}
use Rattle.rows.specs.declared.group.Group.{Group}
use Rattle.rows.specs.Group.{group_at}
use Rattle.rows.specs.Laws.Port.{group_put_same, port_put_group}
use Rattle.rows.specs.Packets.{marks_at}
use Rattle.rows.specs.Port.{Port, port_at}
use Rattle.rows.specs.Rows.{rows_for}
use Rattle.rows.specs.Step.{step_at}
use Rattle.step.specs.Arrival.{in_step}

-- a port after all were cleared
abbrev pub cleared_on : Group → Bool → Port → Port
cleared_on g beginning p =
    record {
      step = cleared_step p.step (beginning && in_step g p.step);
      member = p.member;
      gathering = p.gathering;
      ruling = p.ruling;
      marks = replicate 16 0;
    }

module _ (g : Group) (beginning : Bool) where
  cleared_one : (i : ℕ) (s : List (List ℕ)) (n : ℕ) → i < n → rows_for n ≤ length s → port_at (cleared_port g beginning i s) i ≡ cleared_on g beginning (port_at s i)
  unfolding cleared_port port_at
  cleared_one i s n b h = port_put_two s i (cleared_step (step_at s i) (beginning && in_step g (step_at s i))) (replicate 16 0) n b h

  cleared_one_other : (i : ℕ) (s : List (List ℕ)) (j : ℕ) → j ≢ i → port_at (cleared_port g beginning i s) j ≡ port_at s j
  unfolding cleared_port
  cleared_one_other i s j d = port_put_two_other s i _ _ j d

  -- ports beyond n stay
  pub cleared_beyond : (n : ℕ) (s : List (List ℕ)) (i : ℕ) → n ≤ i → port_at (cleared_ports g beginning n s) i ≡ port_at s i
  unfolding cleared_ports
  cleared_beyond zero s i h = refl
  cleared_beyond (suc n) s i h = cleared_one_other n (cleared_ports g beginning n s) i (omega arith) ∙ cleared_beyond n s i (omega arith)

  pub cleared_port_lem : (n : ℕ) (s : List (List ℕ)) (i : ℕ) → i < n → rows_for n ≤ length s → port_at (cleared_ports g beginning n s) i ≡ cleared_on g beginning (port_at s i)
  unfolding cleared_ports
  cleared_port_lem zero s i b h = absurd (not-suc-le-zero b)
  cleared_port_lem (suc n) s i b h =
      let t = cleared_ports g beginning n s in
      let l : length t ≡ length s = length_cleared g beginning n s in
      let rest = cleared_port_lem n s i in
      ⊎_elim
      (λ (e : i ≡ n). rw e (cleared_one n t (suc n) (omega arith) (rw l h) ∙ ap (λ (p : Port). cleared_on g beginning p) (cleared_beyond n s n (omega arith))))
      (λ (d : i ≢ n). cleared_one_other n t i d ∙ rest (omega arith) (omega arith))
      (eq_or_ne i n)

module _ (g : Group) where
  pub stopped_group : (n : ℕ) (s : List (List ℕ)) → 0 < length s → group_at (stopped_of g n s) ≡ group_to g 0 0 0 g.origin g.rs_ack
  unfolding stopped_of
  stopped_group n s h =
      let l : length (cleared_ports g false n s) ≡ length s = length_cleared g false n s in
      group_put_same (cleared_ports g false n s) (group_to g 0 0 0 g.origin g.rs_ack) 0 (omega arith)

  pub stopped_port : (n : ℕ) (s : List (List ℕ)) (i : ℕ) → i < n → rows_for n ≤ length s → port_at (stopped_of g n s) i ≡ cleared_on g false (port_at s i)
  unfolding stopped_of
  stopped_port n s i b h = port_put_group (cleared_ports g false n s) _ i ∙ cleared_port_lem g false n s i b h

  pub begun_group : (n : ℕ) (s : List (List ℕ)) → 0 < length s
      → group_at (begun_of g n s) ≡ group_to g 1 0 (epoch_after g.kind (epoch_of g.kind (foremost g s n))) g.origin g.rs_ack
  unfolding begun_of
  begun_group n s h =
      let l : length (cleared_ports g true n s) ≡ length s = length_cleared g true n s in
      group_put_same (cleared_ports g true n s) (group_to g 1 0 (epoch_after g.kind (epoch_of g.kind (foremost g s n))) g.origin g.rs_ack) 0 (omega arith)

  pub begun_port : (n : ℕ) (s : List (List ℕ)) (i : ℕ) → i < n → rows_for n ≤ length s → port_at (begun_of g n s) i ≡ cleared_on g true (port_at s i)
  unfolding begun_of
  begun_port n s i b h = port_put_group (cleared_ports g true n s) _ i ∙ cleared_port_lem g true n s i b h

  pub begun_step_at : (n : ℕ) (s : List (List ℕ)) (i : ℕ) → i < n → rows_for n ≤ length s → step_at (begun_of g n s) i ≡ cleared_step (step_at s i) (in_step g (step_at s i))
  unfolding port_at
  begun_step_at n s i b h = ap (λ (p : Port). p.step) (begun_port n s i b h)

  pub begun_marks_at : (n : ℕ) (s : List (List ℕ)) (i : ℕ) → i < n → rows_for n ≤ length s → marks_at (begun_of g n s) i ≡ replicate 16 0
  unfolding port_at
  begun_marks_at n s i b h = ap (λ (p : Port). p.marks) (begun_port n s i b h)
