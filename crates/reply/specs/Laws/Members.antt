-- How many ports there are, what a candidate is, and which timers a port can have left.
use Rattle.std.specs.Prelude.{◌≡◌, refl, Bool, true, false, not, ◌&&◌, ℕ, ◌≤◌, ◌<◌, eqb, ltb}
use Rattle.std.proofs.Common.{eq-eqb, eqb-true, le-ltb, lt-ltb, ltb-true}
use Rattle.std.proofs.lemmas.Bool.{not-true}
use Rattle.ground.specs.Truth.{and-true, and_left, and_right, smaller_le}
use Rattle.reply.specs.declared.members.Port.{Port}
use Rattle.reply.specs.Members.{fail_state, has_hold_off, is_candidate, is_idle, is_restoring, ok_state, size_of, was_ok}

pub size_le : (count : ℕ) → size_of count ≤ 64
size_le count = smaller_le count 64

pub candidate_lt : (p : Port) → is_candidate p ≡ true → p.number < 64
candidate_lt p e = ltb-true p.number 64 (and_right (not (is_idle p) && p.readable) (ltb p.number 64) e)

pub candidate_not_idle : (p : Port) → is_candidate p ≡ true → is_idle p ≡ false
candidate_not_idle p e =
    not-true (is_idle p) (and_left (not (is_idle p)) p.readable (and_left (not (is_idle p) && p.readable) (ltb p.number 64) e))

pub was_state : (p : Port) → was_ok p ≡ true → p.state ≡ ok_state
was_state p e = eqb-true p.state ok_state (and_left (eqb p.state ok_state) (eqb p.state_number p.number) e)

pub was_number : (p : Port) → was_ok p ≡ true → p.state_number ≡ p.number
was_number p e = eqb-true p.state_number p.number (and_right (eqb p.state ok_state) (eqb p.state_number p.number) e)

pub was_ok_lem : (p : Port) → p.state ≡ ok_state → p.state_number ≡ p.number → was_ok p ≡ true
was_ok_lem p s e = and-true (eqb p.state ok_state) _ (eq-eqb p.state ok_state s) (eq-eqb p.state_number p.number e)

-- an OK port does not wait to restore
pub ok_rested : (p : Port) → p.state ≡ ok_state → is_restoring p ≡ false
ok_rested p e = rw e

pub restoring : (p : Port) → p.state ≡ fail_state → p.elapsed < p.restore → is_restoring p ≡ true
restoring p e b = and-true (eqb p.state fail_state) _ (eq-eqb p.state fail_state e) (lt-ltb p.elapsed p.restore b)

-- nor does one whose claim has stood long enough
pub rested : (p : Port) → p.restore ≤ p.elapsed → is_restoring p ≡ false
rested p b = go (eqb p.state fail_state) (le-ltb p.elapsed p.restore b)
  where
    go : (s : Bool) → ltb p.elapsed p.restore ≡ false → (s && ltb p.elapsed p.restore) ≡ false
    go true e = e
    go false e = refl

pub restoring_fail : (p : Port) → is_restoring p ≡ true → p.state ≡ fail_state
restoring_fail p e = eqb-true p.state fail_state (and_left (eqb p.state fail_state) (ltb p.elapsed p.restore) e)

pub restoring_left : (p : Port) → is_restoring p ≡ true → p.elapsed < p.restore
restoring_left p e = ltb-true p.elapsed p.restore (and_right (eqb p.state fail_state) (ltb p.elapsed p.restore) e)

-- what it says that a port has hold-off left
module _ (p : Port) (e : has_hold_off p ≡ true) where
  three : (eqb p.state ok_state && ltb p.elapsed p.hold_off && ltb p.state_number 64) ≡ true
  three = and_left (eqb p.state ok_state && ltb p.elapsed p.hold_off && ltb p.state_number 64) (not (is_idle p)) e

  two : (eqb p.state ok_state && ltb p.elapsed p.hold_off) ≡ true
  two = and_left (eqb p.state ok_state && ltb p.elapsed p.hold_off) (ltb p.state_number 64) three

  pub left_ok : p.state ≡ ok_state
  left_ok = eqb-true p.state ok_state (and_left (eqb p.state ok_state) (ltb p.elapsed p.hold_off) two)

  pub left_elapsed : p.elapsed < p.hold_off
  left_elapsed = ltb-true p.elapsed p.hold_off (and_right (eqb p.state ok_state) (ltb p.elapsed p.hold_off) two)

  pub left_low : p.state_number < 64
  left_low = ltb-true p.state_number 64 (and_right (eqb p.state ok_state && ltb p.elapsed p.hold_off) (ltb p.state_number 64) three)

  pub left_not_idle : is_idle p ≡ false
  left_not_idle =
      not-true (is_idle p)
      (and_right (eqb p.state ok_state && ltb p.elapsed p.hold_off && ltb p.state_number 64) (not (is_idle p)) e)

pub has_left_lem : (p : Port) → p.state ≡ ok_state → p.elapsed < p.hold_off → p.state_number < 64 → is_idle p ≡ false → has_hold_off p ≡ true
has_left_lem p s r b i =
    and-true (eqb p.state ok_state && ltb p.elapsed p.hold_off && ltb p.state_number 64) _
    (and-true (eqb p.state ok_state && ltb p.elapsed p.hold_off) _
    (and-true (eqb p.state ok_state) _ (eq-eqb p.state ok_state s) (lt-ltb p.elapsed p.hold_off r))
    (lt-ltb p.state_number 64 b))
    (rw i)
