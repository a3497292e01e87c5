-- Ports and the group after a report's states and RS-Ack were worked out.
use Rattle.std.specs.Prelude.{◌≡◌, ◌≢◌, Bool, true, false, cond, List, eqb, get_or, replicate}
use Rattle.std.proofs.Math.Path.{refl, ap}
use Rattle.std.proofs.Common.{◌∙◌, not-suc-le-zero, arith}
use Rattle.std.proofs.Math.Logic.{⊎_elim}
use Prim.Native.Nat.{ℕ, zero, suc, ◌≤◌, ◌<◌}
use Rattle.std.proofs.Math.ListN.{length}
use Rattle.std.proofs.lemmas.List.{length-replicate}
use Rattle.ground.specs.Counting.Each.{get_or_each}
use Rattle.ground.specs.Truth.{eq_or_ne}
use Rattle.judge.specs.Seen.{size_of}
use Rattle.phases.specs.Passing.{group_to}
use Rattle.receiver.specs.Laws.Lengths.{length_told_ports}
use Rattle.receiver.specs.Laws.Sizes.{size_is}
use Rattle.receiver.specs.Report.{no_port, reply_port, reply_ports, with_state, states_worked_out, state_put, states_put}
use Rattle.reply.specs.declared.members.Port.{Port as ReplyPort}
use Rattle.reply.specs.declared.waiting.Standing.{Standing}
use Rattle.reply.specs.Members as R
use Rattle.reply.specs.Telling.{ack_of, turns_over}
use Rattle.reply.specs.Waiting.{no_standing, standings_of}
use Rattle.rows.specs.declared.group.Group.{Group}
use Rattle.rows.specs.Group.{group_at}
use Rattle.rows.specs.Laws.Port.{group_put_same, length_put_group, port_member, port_put, port_put_group, port_put_other}
use Rattle.rows.specs.Member.{member_at}
use Rattle.rows.specs.Packets.{marks_at}
use Rattle.rows.specs.Part.{TheMember}
use Rattle.rows.specs.Port.{Port, port_at, with_member}
use Rattle.rows.specs.Rows.{rows_for}
use Rattle.rows.specs.Step.{step_at}

-- the group with another RS-Ack
abbrev pub with_ack : Group → ℕ → Group
with_ack g ack = group_to g g.begun g.gathered g.oldest g.origin ack

-- a port with its state worked out
abbrev pub told_on : Port → Standing → Port
told_on p left = with_member p (with_state p.member left)

module _ (states : List Standing) where
  told_one : (i : ℕ) (s : List (List ℕ)) (n : ℕ) → i < n → rows_for n ≤ length s → port_at (state_put states i s) i ≡ told_on (port_at s i) (get_or states i no_standing)
  unfolding state_put
  told_one i s n b h = port_put s i (TheMember (with_state (member_at s i) (get_or states i no_standing))) n b h ∙ rw (port_member s i) refl

  told_one_other : (i : ℕ) (s : List (List ℕ)) (j : ℕ) → j ≢ i → port_at (state_put states i s) j ≡ port_at s j
  unfolding state_put
  told_one_other i s j d = port_put_other s i (TheMember _) j d

  told_beyond : (n : ℕ) (s : List (List ℕ)) (i : ℕ) → n ≤ i → port_at (states_put states n s) i ≡ port_at s i
  unfolding states_put
  told_beyond zero s i h = refl
  told_beyond (suc n) s i h = told_one_other n (states_put states n s) i (omega arith) ∙ told_beyond n s i (omega arith)

  told_port : (n : ℕ) (s : List (List ℕ)) (i : ℕ) → i < n → rows_for n ≤ length s → port_at (states_put states n s) i ≡ told_on (port_at s i) (get_or states i no_standing)
  unfolding states_put
  told_port zero s i b h = absurd (not-suc-le-zero b)
  told_port (suc n) s i b h =
      let t = states_put states n s in
      let l : length t ≡ length s = length_told_ports states n s in
      let rest = told_port n s i in
      ⊎_elim
      (λ (e : i ≡ n). rw e (told_one n t (suc n) (omega arith) (rw l h) ∙ ap (λ (p : Port). told_on p (get_or states n no_standing)) (told_beyond n s n (omega arith))))
      (λ (d : i ≢ n). told_one_other n t i d ∙ rest (omega arith) (omega arith))
      (eq_or_ne i n)

module _ (g : Group) (n : ℕ) (s : List (List ℕ)) where
  -- the states that come of it
  abbrev pub states_in : List Standing
  states_in = standings_of (reply_ports g s n) (size_of n)

  pub length_told : length (states_worked_out g n s) ≡ length s
  unfolding states_worked_out
  length_told = length_put_group _ _ ∙ length_told_ports states_in n s

  pub told_of_port : (i : ℕ) → i < n → rows_for n ≤ length s → port_at (states_worked_out g n s) i ≡ told_on (port_at s i) (get_or states_in i no_standing)
  unfolding states_worked_out
  told_of_port i b h = port_put_group (states_put states_in n s) _ i ∙ told_port states_in n s i b h

  pub told_step : (i : ℕ) → i < n → rows_for n ≤ length s → step_at (states_worked_out g n s) i ≡ step_at s i
  unfolding port_at
  told_step i b h = ap (λ (p : Port). p.step) (told_of_port i b h)

  pub told_marks : (i : ℕ) → i < n → rows_for n ≤ length s → marks_at (states_worked_out g n s) i ≡ marks_at s i
  unfolding port_at
  told_marks i b h = ap (λ (p : Port). p.marks) (told_of_port i b h)

  pub told_group : 0 < length s → group_at (states_worked_out g n s) ≡ with_ack g (ack_of (reply_ports g s n) (size_of n) g.rs_ack)
  unfolding states_worked_out
  told_group h =
      let l : length (states_put states_in n s) ≡ length s = length_told_ports states_in n s in
      group_put_same (states_put states_in n s) (with_ack g (ack_of (reply_ports g s n) (size_of n) g.rs_ack)) 0 (omega arith)

-- the ports as their states are worked out
pub reply_port_lem : (g : Group) (s : List (List ℕ)) (n i : ℕ) → n ≤ 64 → i < n → R.port_at (reply_ports g s n) i ≡ reply_port g s i
unfolding reply_ports
reply_port_lem g s n i h b =
    get_or_each (size_of n) (reply_port g s) (replicate 64 no_port) i no_port (rw (size_is n h) b) (rw (length-replicate {A = ReplyPort} 64 no_port) (omega arith))

pub ack_le : (ports : List ReplyPort) (n bit : ℕ) → bit ≤ 1 → ack_of ports n bit ≤ 1
unfolding ack_of
ack_le ports n bit h = go (turns_over ports n) (eqb bit 0)
  where
    go : (a b : Bool) → cond a (cond b 1 0) bit ≤ 1
    go true true = omega arith
    go true false = omega arith
    go false b = h
