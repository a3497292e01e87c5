-- What MST says of each number.
use Rattle.std.specs.Prelude.{◌≡◌, Bool, true, false, cond, not, ◌&&◌, List, ℕ, zero, suc, ◌+◌, ◌*◌, ◌/◌, ◌%◌, ◌^◌, ◌-◌, ◌≤◌, ◌<◌, eqb}
use Rattle.std.proofs.Common.{sym, ◌∙◌, add-zero, arith, eq-eqb, eqb-true}
use Rattle.ground.specs.Counting.Laws.Tests.{some_at, some_one}
use Rattle.ground.specs.Bits.{odd}
use Rattle.ground.specs.Truth.{and-true, and_left, and_right, fails}
use Rattle.packet.specs.Kinds.{mst_fails, mst_first}
use Rattle.packet.specs.Theorems.Tags.{mst_bit}
use Rattle.reply.specs.Reports.{Told}
use Rattle.reply.specs.Theorems.States.{Holder, told_below}
use Rattle.reply.specs.declared.members.Port.{Port}
use Rattle.reply.specs.Members.{ok_state, port_at}
use Rattle.reply.specs.Telling.{fail_bit, mst_from, mst_of, ok_holds}

fail_le : (b : Bool) → cond b 0 1 ≤ 1
fail_le true = omega arith
fail_le false = omega arith

fail_not : (b : Bool) (x : ℕ) → x ≡ cond b 0 1 → eqb x 1 ≡ not b
fail_not true x e = rw e
fail_not false x e = rw e

abbrev eight : ℕ → ℕ → ℕ → ℕ → ℕ → ℕ → ℕ → ℕ → ℕ
eight a b c d e f g h = a * 128 + b * 64 + c * 32 + d * 16 + e * 8 + f * 4 + g * 2 + h

-- the eight bits of a byte
apart : (a b c d e f g h : ℕ) → a ≤ 1 → b ≤ 1 → c ≤ 1 → d ≤ 1 → e ≤ 1 → f ≤ 1 → g ≤ 1 → h ≤ 1
    → (eight a b c d e f g h / 128 % 2 ≡ a)
    × (eight a b c d e f g h / 64 % 2 ≡ b)
    × (eight a b c d e f g h / 32 % 2 ≡ c)
    × (eight a b c d e f g h / 16 % 2 ≡ d)
    × (eight a b c d e f g h / 8 % 2 ≡ e)
    × (eight a b c d e f g h / 4 % 2 ≡ f)
    × (eight a b c d e f g h / 2 % 2 ≡ g)
    × (eight a b c d e f g h / 1 % 2 ≡ h)
apart a b c d e f g h ha hb hc hd he hf hg hh =
    (omega arith, omega arith, omega arith, omega arith, omega arith, omega arith, omega arith, omega arith)

module _ (ports : List Port) (n q : ℕ) where
  bits_of :
      (mst_from ports n q / 128 % 2 ≡ fail_bit ports n q)
      × (mst_from ports n q / 64 % 2 ≡ fail_bit ports n (q + 1))
      × (mst_from ports n q / 32 % 2 ≡ fail_bit ports n (q + 2))
      × (mst_from ports n q / 16 % 2 ≡ fail_bit ports n (q + 3))
      × (mst_from ports n q / 8 % 2 ≡ fail_bit ports n (q + 4))
      × (mst_from ports n q / 4 % 2 ≡ fail_bit ports n (q + 5))
      × (mst_from ports n q / 2 % 2 ≡ fail_bit ports n (q + 6))
      × (mst_from ports n q / 1 % 2 ≡ fail_bit ports n (q + 7))
  unfolding mst_from
  bits_of =
      apart (fail_bit ports n q) (fail_bit ports n (q + 1)) (fail_bit ports n (q + 2)) (fail_bit ports n (q + 3)) (fail_bit ports n (q + 4))
      (fail_bit ports n (q + 5)) (fail_bit ports n (q + 6)) (fail_bit ports n (q + 7))
      (fail_le (ok_holds ports n q))
      (fail_le (ok_holds ports n (q + 1)))
      (fail_le (ok_holds ports n (q + 2)))
      (fail_le (ok_holds ports n (q + 3)))
      (fail_le (ok_holds ports n (q + 4)))
      (fail_le (ok_holds ports n (q + 5)))
      (fail_le (ok_holds ports n (q + 6)))
      (fail_le (ok_holds ports n (q + 7)))

  -- bit k of the byte, counted from the highest
  bit_at : (k : ℕ) → k < 8 → odd (mst_from ports n q / 2 ^ (7 - k)) ≡ not (ok_holds ports n (q + k))
  bit_at zero b = rw (add-zero q) (fail_not (ok_holds ports n q) _ bits_of.0)
  bit_at (suc zero) b = fail_not (ok_holds ports n (q + 1)) _ bits_of.1
  bit_at (suc (suc zero)) b = fail_not (ok_holds ports n (q + 2)) _ bits_of.2
  bit_at (suc (suc (suc zero))) b = fail_not (ok_holds ports n (q + 3)) _ bits_of.3
  bit_at (suc (suc (suc (suc zero)))) b = fail_not (ok_holds ports n (q + 4)) _ bits_of.4
  bit_at (suc (suc (suc (suc (suc zero))))) b = fail_not (ok_holds ports n (q + 5)) _ bits_of.5
  bit_at (suc (suc (suc (suc (suc (suc zero)))))) b = fail_not (ok_holds ports n (q + 6)) _ bits_of.6
  bit_at (suc (suc (suc (suc (suc (suc (suc zero))))))) b = fail_not (ok_holds ports n (q + 7)) _ bits_of.7
  bit_at (suc (suc (suc (suc (suc (suc (suc (suc k)))))))) b = absurd (omega arith)

-- 'MST for q is 0 exactly if an OK port holds q', of each of the eight numbers that MST speaks of in epoch e
pub mst_says : (kind : ℕ) (ports : List Port) (n e k : ℕ) → k < 8 → mst_fails (mst_of kind ports n e) (mst_first kind e + k) ≡ not (ok_holds ports n (mst_first kind e + k))
unfolding mst_of
mst_says kind ports n e k b = mst_bit kind e k (mst_of kind ports n e) b ∙ bit_at ports n (mst_first kind e) k b

-- numbers of 64 and above are no OK port's, where every OK port's number is below 64
pub high_free : (ports : List Port) (n q : ℕ) → ((i : ℕ) → i < n → (port_at ports i).state ≡ ok_state → (port_at ports i).state_number < 64) → 64 ≤ q
    → ok_holds ports n q ≡ false
unfolding ok_holds
high_free ports n q low high =
    fails (ok_holds ports n q) (λ (e : ok_holds ports n q ≡ true).
    let o = some_one n (λ i. eqb (port_at ports i).state ok_state && eqb (port_at ports i).state_number q) e in
    let p : Port = port_at ports o.at in
    let is : p.state_number ≡ q = eqb-true p.state_number q (and_right (eqb p.state ok_state) (eqb p.state_number q) o.holds) in
    let l : p.state_number < 64 = low o.at o.below (eqb-true p.state ok_state (and_left (eqb p.state ok_state) (eqb p.state_number q) o.holds)) in
    omega arith)

-- so MST says FAIL of them
pub high_fails : (kind : ℕ) (ports : List Port) (n e k : ℕ)
    → ((i : ℕ) → i < n → (port_at ports i).state ≡ ok_state → (port_at ports i).state_number < 64) → k < 8 → 64 ≤ mst_first kind e + k
    → mst_fails (mst_of kind ports n e) (mst_first kind e + k) ≡ true
high_fails kind ports n e k low b high = mst_says kind ports n e k b ∙ rw (high_free ports n (mst_first kind e + k) low high)

-- and so it does after every report
pub told_high_fails : (kind : ℕ) (ports : List Port) (n : ℕ) (now : List Port) (e k : ℕ) → n ≤ 64 → Told ports n now → k < 8 → 64 ≤ mst_first kind e + k
    → mst_fails (mst_of kind now n e) (mst_first kind e + k) ≡ true
told_high_fails kind ports n now e k small t b high = high_fails kind now n e k (told_below ports n now small t) b high

-- It says OK of a number exactly where a port of this report is OK with it
pub told_holds : (ports : List Port) (n : ℕ) (now : List Port) (q : ℕ) → Told ports n now → Holder ports n q → ok_holds now n q ≡ true
unfolding ok_holds
told_holds ports n now q t o =
    some_at n (λ i. eqb (port_at now i).state ok_state && eqb (port_at now i).state_number q) o.at o.below
    (and-true _ _ (eq-eqb (port_at now o.at).state ok_state (t.state o.at o.below ∙ o.ok))
    (eq-eqb (port_at now o.at).state_number q (t.number o.at o.below ∙ o.same)))

pub told_holder : (ports : List Port) (n : ℕ) (now : List Port) (q : ℕ) → Told ports n now → ok_holds now n q ≡ true → Holder ports n q
unfolding ok_holds
told_holder ports n now q t e =
    let o = some_one n (λ i. eqb (port_at now i).state ok_state && eqb (port_at now i).state_number q) e in
    let p : Port = port_at now o.at in
    record {
      at = o.at;
      below = o.below;
      ok = sym (t.state o.at o.below) ∙ eqb-true p.state ok_state (and_left (eqb p.state ok_state) (eqb p.state_number q) o.holds);
      same = sym (t.number o.at o.below) ∙ eqb-true p.state_number q (and_right (eqb p.state ok_state) (eqb p.state_number q) o.holds);
    }
