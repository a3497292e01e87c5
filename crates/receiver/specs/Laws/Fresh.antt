-- Ports and the group after a start.
use Rattle.std.specs.Prelude.{◌≡◌, refl, ◌≢◌, false}
use Rattle.std.proofs.Math.Path.{ap}
use Rattle.std.proofs.Common.{◌∙◌, not-suc-le-zero, arith}
use Rattle.std.proofs.Math.Logic.{⊎_elim}
use mathlib.Core.List.{List, [], ◌∷◌}
use Prim.Native.Nat.{ℕ, zero, suc, ◌≤◌, ◌<◌}
use Rattle.std.proofs.Math.ListN.{length}
use Rattle.ground.specs.Counting.Laws.Tests.{every_fails}
use Rattle.ground.specs.Truth.{eq_or_ne}
use Rattle.phases.specs.Beginning.{begins, ready}
use Rattle.receiver.specs.Laws.Lengths.{length_fresh_ports}
use Rattle.receiver.specs.Starting.{fresh_member, fresh_port, fresh_ports, fresh_step, time_of, zero_row}
use Rattle.rows.specs.declared.group.Group.{Group}
use Rattle.rows.specs.declared.member.Member.{Member}
use Rattle.rows.specs.Group.{group_at, put_group}
use Rattle.rows.specs.Laws.Port.{group_put_same, length_put, length_put_group, port_put, port_put_group, port_put_other}
use Rattle.rows.specs.Member.{put_member}
use Rattle.rows.specs.Packets.{put_packets}
use Rattle.rows.specs.Part.{TheMarks, TheMember, ThePackets, TheStep}
use Rattle.rows.specs.Port.{Port, port_at, with_marks, with_member, with_packets}
use Rattle.rows.specs.Rows.{rows_for}
use Rattle.rows.specs.Step.{put_step, step_at}

abbrev pub fresh_on : ℕ → ℕ → ℕ → Port
fresh_on kind hold restore =
    record { step = fresh_step; member = fresh_member kind hold restore; gathering = zero_row; ruling = zero_row; marks = zero_row }

module _ (kind : ℕ) (hold restore : List ℕ) where
  abbrev member : ℕ → Member
  member i = fresh_member kind (time_of hold i) (time_of restore i)

  fresh_one : (i : ℕ) (s : List (List ℕ)) (n : ℕ) → i < n → rows_for n ≤ length s → port_at (fresh_port kind hold restore i s) i ≡ fresh_on kind (time_of hold i) (time_of restore i)
  unfolding fresh_port
  fresh_one i s n b h =
      let a : List (List ℕ) = put_step s i fresh_step in
      let la : length a ≡ length s = length_put s i (TheStep fresh_step) in
      let c : List (List ℕ) = put_member a i (member i) in
      let lc : length c ≡ length s = length_put a i (TheMember (member i)) ∙ la in
      let d : List (List ℕ) = put_packets c i (zero_row ∷ zero_row ∷ []) in
      let ld : length d ≡ length s = length_put c i (ThePackets (zero_row ∷ zero_row ∷ [])) ∙ lc in
      port_put d i (TheMarks zero_row) n b (rw ld h)
      ∙ ap (λ (p : Port). with_marks p zero_row) (port_put c i (ThePackets (zero_row ∷ zero_row ∷ [])) n b (rw lc h))
      ∙ ap (λ (p : Port). with_marks (with_packets p (zero_row ∷ zero_row ∷ [])) zero_row) (port_put a i (TheMember (member i)) n b (rw la h))
      ∙ ap (λ (p : Port). with_marks (with_packets (with_member p (member i)) (zero_row ∷ zero_row ∷ [])) zero_row) (port_put s i (TheStep fresh_step) n b h)

  fresh_one_other : (i : ℕ) (s : List (List ℕ)) (j : ℕ) → j ≢ i → port_at (fresh_port kind hold restore i s) j ≡ port_at s j
  unfolding fresh_port
  fresh_one_other i s j d =
      port_put_other _ i (TheMarks _) j d ∙ port_put_other _ i (ThePackets _) j d ∙ port_put_other _ i (TheMember _) j d ∙ port_put_other s i (TheStep fresh_step) j d

  fresh_port_lem : (n : ℕ) (s : List (List ℕ)) (i : ℕ) → i < n → rows_for n ≤ length s → port_at (fresh_ports kind hold restore n s) i ≡ fresh_on kind (time_of hold i) (time_of restore i)
  unfolding fresh_ports
  fresh_port_lem zero s i b h = absurd (not-suc-le-zero b)
  fresh_port_lem (suc n) s i b h =
      let t = fresh_ports kind hold restore n s in
      let l : length t ≡ length s = length_fresh_ports kind hold restore n s in
      let rest = fresh_port_lem n s i in
      ⊎_elim (λ (e : i ≡ n). rw e (fresh_one n t (suc n) (omega arith) (rw l h))) (λ (d : i ≢ n). fresh_one_other n t i d ∙ rest (omega arith) (omega arith)) (eq_or_ne i n)

module _ (kind n : ℕ) (hold restore : List ℕ) (s : List (List ℕ)) (g : Group) where
  pub length_started : length (put_group (fresh_ports kind hold restore n s) g) ≡ length s
  length_started = length_put_group (fresh_ports kind hold restore n s) g ∙ length_fresh_ports kind hold restore n s

  pub started_group : 0 < length s → group_at (put_group (fresh_ports kind hold restore n s) g) ≡ g
  started_group h = let l : length (fresh_ports kind hold restore n s) ≡ length s = length_fresh_ports kind hold restore n s in group_put_same (fresh_ports kind hold restore n s) g 0 (omega arith)

  pub started_port : (i : ℕ) → i < n → rows_for n ≤ length s → port_at (put_group (fresh_ports kind hold restore n s) g) i ≡ fresh_on kind (time_of hold i) (time_of restore i)
  started_port i b h = port_put_group (fresh_ports kind hold restore n s) g i ∙ fresh_port_lem kind hold restore n s i b h

  pub started_step : (i : ℕ) → i < n → rows_for n ≤ length s → step_at (put_group (fresh_ports kind hold restore n s) g) i ≡ fresh_step
  unfolding port_at
  started_step i b h = ap (λ (p : Port). p.step) (started_port i b h)

-- 'every port has had a frame': while one has not, receiving does not begin
pub waits_for : (g : Group) (s : List (List ℕ)) (n i : ℕ) → i < n → (step_at s i).heard ≡ 0 → begins g s n ≡ false
unfolding begins ready
waits_for g s n i b e = rw (every_fails n (λ j. ready g (step_at s j)) i b (rw e refl)) refl
