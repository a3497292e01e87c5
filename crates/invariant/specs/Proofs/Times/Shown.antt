-- What is read out: all but a member's state, its number and what waits.
use Rattle.std.specs.Prelude.{◌≡◌, ◌≢◌, Bool, cond, List, [], ℕ, zero, suc, ◌≤◌, ◌<◌, ltb, length}
use Rattle.std.proofs.Math.Path.{refl}
use Rattle.std.proofs.Common.{ap, ⊎_elim}
use Rattle.std.proofs.Math.Bool.{true, false}
use Rattle.std.proofs.Math.ListN.{get_or, get_or-eq_default}
use Rattle.ground.specs.Counting.Each.{each, length_each}
use Rattle.ground.specs.Drawn.{get_or_drawn}
use Rattle.ground.specs.Truth.{le_or_lt}
use Rattle.invariant.specs.Proofs.Times.Rows.{SameButTimes, group_same, member_same, step_same}
use Rattle.invariant.specs.Times.{SameShown}
use Rattle.phases.specs.Sizes.{ports_in}
use Rattle.receiver.specs.Shown.{port_in, port_shown, ports_answer, ports_out, reply_answer, reply_fit, reply_of, reply_out, shown_fit}
use Rattle.rows.specs.declared.group.Group.{Group}
use Rattle.rows.specs.declared.member.Member.{Member}
use Rattle.rows.specs.declared.step.Step.{Step}
use Rattle.rows.specs.Group.{group_at}
use Rattle.rows.specs.Member.{member_at}
use Rattle.rows.specs.Step.{step_at}

-- a byte of what is shown of a port
abbrev Byte : ℕ → Type 0
Byte k = (k ≢ 0) × (k ≢ 1) × (k ≢ 7)

shown_byte : (g : Group) (q : Step) (m r : Member) → m.word ≡ r.word → (k : ℕ) → Byte k → get_or (port_shown g q m) k 0 ≡ get_or (port_shown g q r) k 0
unfolding port_shown
shown_byte g q m r e zero (a, b, c) = absurd (a refl)
shown_byte g q m r e (suc zero) (a, b, c) = absurd (b refl)
shown_byte g q m r e (suc (suc zero)) o = refl
shown_byte g q m r e (suc (suc (suc zero))) o = refl
shown_byte g q m r e (suc (suc (suc (suc zero)))) o = refl
shown_byte g q m r e (suc (suc (suc (suc (suc zero))))) o = refl
shown_byte g q m r e (suc (suc (suc (suc (suc (suc zero)))))) o = e
shown_byte g q m r e (suc (suc (suc (suc (suc (suc (suc zero))))))) (a, b, c) = absurd (c refl)
shown_byte g q m r e (suc (suc (suc (suc (suc (suc (suc (suc k)))))))) o = refl

-- bytes of two lists of rows, the first n of each made anew
each_byte : (n : ℕ) (f g : ℕ → List ℕ) (k : ℕ) → ((i : ℕ) → get_or (f i) k 0 ≡ get_or (g i) k 0) → (out : List (List ℕ)) (i : ℕ)
    → get_or (get_or (each n f out) i []) k 0 ≡ get_or (get_or (each n g out) i []) k 0
each_byte n f g k e out i =
    ⊎_elim
    (λ (o : length out ≤ i). rw (beyond f o, beyond g o) refl)
    (λ (l : i < length out). rw (get_or_drawn (λ j. ltb j n) f out i [] l, get_or_drawn (λ j. ltb j n) g out i [] l) (by (ltb i n)))
    (le_or_lt (length out) i)
  where
    beyond : (u : ℕ → List ℕ) → length out ≤ i → get_or (each n u out) i [] ≡ []
    beyond u o = get_or-eq_default (each n u out) [] {n = i} (rw (length_each n u out) o)

    by : (b : Bool) → get_or (cond b (f i) (get_or out i [])) k 0 ≡ get_or (cond b (g i) (get_or out i [])) k 0
    by true = e i
    by false = refl

module _ {s t : List (List ℕ)} (h : SameButTimes s t) where
  port_byte : (i k : ℕ) → Byte k → get_or (port_in (group_at t) s i) k 0 ≡ get_or (port_in (group_at t) t i) k 0
  unfolding port_in
  port_byte i k o = rw (step_same h i) (shown_byte (group_at t) (step_at t i) (member_at s i) (member_at t i) (ap (λ (m : Member). m.word) (member_same h i)) k o)

  ports_byte : (out : List (List ℕ)) (i k : ℕ) → Byte k → get_or (get_or (ports_out s out) i []) k 0 ≡ get_or (get_or (ports_out t out) i []) k 0
  unfolding ports_out
  ports_byte out i k o =
      rw (group_same h, h.long) (by (shown_fit (ports_in (group_at t)) (length t) (length out)))
    where
      by : (b : Bool)
          → get_or (get_or (cond b (each (ports_in (group_at t)) (port_in (group_at t) s) out) out) i []) k 0
          ≡ get_or (get_or (cond b (each (ports_in (group_at t)) (port_in (group_at t) t) out) out) i []) k 0
      by true = each_byte (ports_in (group_at t)) (port_in (group_at t) s) (port_in (group_at t) t) k (λ j. port_byte j k o) out i
      by false = refl

  reply_byte_lem : (epoch : ℕ) → get_or (reply_of s epoch) 1 0 ≡ get_or (reply_of t epoch) 1 0
  unfolding reply_of
  reply_byte_lem epoch = rw (group_same h) refl

  ack_byte : (epoch : ℕ) (out : List ℕ) → get_or (reply_out s epoch out) 1 0 ≡ get_or (reply_out t epoch out) 1 0
  unfolding reply_out
  ack_byte epoch out = rw (group_same h, h.long) (by (reply_fit (ports_in (group_at t)) (length t) (length out)))
    where
      by : (b : Bool) → get_or (cond b (reply_of s epoch) out) 1 0 ≡ get_or (cond b (reply_of t epoch) out) 1 0
      by true = reply_byte_lem epoch
      by false = refl

  reply_answer_lem : (long : ℕ) → reply_answer s long ≡ reply_answer t long
  unfolding reply_answer
  reply_answer_lem long = rw (group_same h, h.long) refl

  ports_answer_lem : (long : ℕ) → ports_answer s long ≡ ports_answer t long
  unfolding ports_answer
  ports_answer_lem long = rw (group_same h, h.long) refl

  pub shown_same : SameShown s t
  shown_same = record { reply_answer_lem = reply_answer_lem; ack = ack_byte; ports_answer_lem = ports_answer_lem; ports = λ out i k a b c. ports_byte out i k (a, b, c) }
