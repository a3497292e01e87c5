-- Ports and the group after an epoch was passed.
use Rattle.std.specs.Prelude.{◌≡◌, ◌≢◌, Bool, true, false, cond, List, [], ◌∷◌, get_or}
use Rattle.std.proofs.Math.Path.{refl, ap}
use Rattle.std.proofs.Common.{◌∙◌, not-suc-le-zero, arith}
use Rattle.std.proofs.Math.Logic.{⊎_elim}
use Prim.Native.Nat.{ℕ, zero, suc, ◌≤◌, ◌<◌}
use Rattle.std.proofs.Math.ListN.{length}
use Rattle.ground.specs.Truth.{eq_or_ne}
use Rattle.phases.specs.Laws.Lengths.{length_passed_ports}
use Rattle.phases.specs.Laws.Ports.{port_put_all, port_put_all_other}
use Rattle.phases.specs.Passing.{noted_by, passed_group, passed_of, passed_port, passed_ports, passed_step, ruled_by}
use Rattle.step.specs.OwnCount.{own_ruling}
use Rattle.rows.specs.declared.group.Group.{Group}
use Rattle.rows.specs.Group.{group_at}
use Rattle.rows.specs.Laws.Port.{group_put_same, port_put_group}
use Rattle.rows.specs.Member.{member_at}
use Rattle.rows.specs.Packets.{marks_at, packets_at}
use Rattle.rows.specs.Port.{Port, port_at}
use Rattle.rows.specs.Rows.{rows_for}
use Rattle.rows.specs.Step.{step_at}
use Rattle.store.specs.Frames.{packet_in}
use Rattle.store.specs.Marks.{first_mark, passed_marks}

-- a port after the epoch was passed
abbrev pub passed_on : Group → List ℕ → ℕ → Port → Port
passed_on g store i p =
    record {
      step = passed_step p.step (first_mark p.marks);
      member = noted_by p.member (first_mark p.marks) (own_ruling g.kind g.oldest (packet_in g i store));
      gathering = p.gathering;
      ruling = cond (first_mark p.marks) (packet_in g i store) p.ruling;
      marks = passed_marks p.marks;
    }

gathering_stays : (a b : List ℕ) (whole : Bool) (nibbles : List ℕ) → get_or (ruled_by (a ∷ b ∷ []) whole nibbles) 0 [] ≡ a
unfolding ruled_by
gathering_stays a b true nibbles = refl
gathering_stays a b false nibbles = refl

ruling_is : (a b : List ℕ) (whole : Bool) (nibbles : List ℕ) → get_or (ruled_by (a ∷ b ∷ []) whole nibbles) 1 [] ≡ cond whole nibbles b
unfolding ruled_by
ruling_is a b true nibbles = refl
ruling_is a b false nibbles = refl

module _ (g : Group) (store : List ℕ) where
  passed_one : (i : ℕ) (s : List (List ℕ)) (n : ℕ) → i < n → rows_for n ≤ length s → port_at (passed_port g store i s) i ≡ passed_on g store i (port_at s i)
  unfolding passed_port port_at packets_at
  passed_one i s n b h =
      let whole = first_mark (marks_at s i) in
      let nibbles = packet_in g i store in
      let m = noted_by (member_at s i) whole (own_ruling g.kind g.oldest nibbles) in
      let pair = ruled_by (packets_at s i) whole nibbles in
      let q = passed_step (step_at s i) whole in
      port_put_all s i m pair q (passed_marks (marks_at s i)) n b h
      ∙ rw (gathering_stays _ _ whole nibbles, ruling_is _ _ whole nibbles) refl

  passed_one_other : (i : ℕ) (s : List (List ℕ)) (j : ℕ) → j ≢ i → port_at (passed_port g store i s) j ≡ port_at s j
  unfolding passed_port
  passed_one_other i s j d = port_put_all_other s i _ _ _ _ j d

  -- ports beyond n stay
  pub passed_beyond : (n : ℕ) (s : List (List ℕ)) (i : ℕ) → n ≤ i → port_at (passed_ports g store n s) i ≡ port_at s i
  unfolding passed_ports
  passed_beyond zero s i h = refl
  passed_beyond (suc n) s i h = passed_one_other n (passed_ports g store n s) i (omega arith) ∙ passed_beyond n s i (omega arith)

  pub passed_port_lem : (n : ℕ) (s : List (List ℕ)) (i : ℕ) → i < n → rows_for n ≤ length s → port_at (passed_ports g store n s) i ≡ passed_on g store i (port_at s i)
  unfolding passed_ports
  passed_port_lem zero s i b h = absurd (not-suc-le-zero b)
  passed_port_lem (suc n) s i b h =
      let t = passed_ports g store n s in
      let l : length t ≡ length s = length_passed_ports g store n s in
      let rest = passed_port_lem n s i in
      ⊎_elim
      (λ (e : i ≡ n). rw e (passed_one n t (suc n) (omega arith) (rw l h) ∙ ap (λ (p : Port). passed_on g store n p) (passed_beyond n s n (omega arith))))
      (λ (d : i ≢ n). passed_one_other n t i d ∙ rest (omega arith) (omega arith))
      (eq_or_ne i n)

  pub passed_group_lem : (n : ℕ) (s : List (List ℕ)) → 0 < length s → group_at (passed_of g store n s) ≡ passed_group g
  unfolding passed_of
  passed_group_lem n s h =
      let l : length (passed_ports g store n s) ≡ length s = length_passed_ports g store n s in
      group_put_same (passed_ports g store n s) (passed_group g) 0 (omega arith)

  pub passed_of_port : (n : ℕ) (s : List (List ℕ)) (i : ℕ) → i < n → rows_for n ≤ length s → port_at (passed_of g store n s) i ≡ passed_on g store i (port_at s i)
  unfolding passed_of
  passed_of_port n s i b h = port_put_group (passed_ports g store n s) (passed_group g) i ∙ passed_port_lem n s i b h

  pub passed_step_at : (n : ℕ) (s : List (List ℕ)) (i : ℕ) → i < n → rows_for n ≤ length s → step_at (passed_of g store n s) i ≡ passed_step (step_at s i) (first_mark (marks_at s i))
  unfolding port_at
  passed_step_at n s i b h = ap (λ (p : Port). p.step) (passed_of_port n s i b h)

  pub passed_marks_at : (n : ℕ) (s : List (List ℕ)) (i : ℕ) → i < n → rows_for n ≤ length s → marks_at (passed_of g store n s) i ≡ passed_marks (marks_at s i)
  unfolding port_at
  passed_marks_at n s i b h = ap (λ (p : Port). p.marks) (passed_of_port n s i b h)
