-- What theorems say of ports at a report, and at reports that follow one another (01, 'Member states and reply'; request 2026-03).
use Rattle.std.specs.Prelude.{◌≡◌, ◌≢◌, true, false, List, ℕ, suc, ◌≤◌, ◌<◌}
use Rattle.reply.specs.Choosing.{FREE, holder_of, holders}
use Rattle.reply.specs.Members.{fail_state, idle_state, is_candidate, is_idle, is_restoring, ok_state, port_at}
use Rattle.reply.specs.Waiting.{has_claim, standing_at}
use Rattle.reply.specs.declared.members.Port.{Port}
use Rattle.reply.specs.declared.waiting.Standing.{Standing}

-- What the last report left: OK ports have different numbers,
abbrev pub Apart : List Port → ℕ → Type 0
Apart ports n =
    (i j : ℕ) → i < n → j < n → (port_at ports i).state ≡ ok_state → (port_at ports j).state ≡ ok_state
    → (port_at ports i).state_number ≡ (port_at ports j).state_number → i ≡ j

-- below 64
abbrev pub Low : List Port → ℕ → Type 0
Low ports n = (i : ℕ) → i < n → (port_at ports i).state ≡ ok_state → (port_at ports i).state_number < 64

-- in a table of kept numbers each port that keeps one has lost its claim
abbrev pub Lost : (ports : List Port) (n : ℕ) (kept : List ℕ) → Type 0
Lost ports n kept = (q x : ℕ) → holder_of kept q ≡ x → x ≢ FREE → has_claim (holders ports n kept) x (port_at ports x) ≡ false

-- the ports with what this report left of each
pub record Told (ports : List Port) (n : ℕ) (now : List Port) : Type 0 where
  pub state : (i : ℕ) → i < n → (port_at now i).state ≡ (standing_at ports n i).state
  pub number : (i : ℕ) → i < n → (port_at now i).state_number ≡ (standing_at ports n i).number
  pub elapsed : (i : ℕ) → i < n → (port_at now i).elapsed ≡ (standing_at ports n i).elapsed

-- the claim of port i at a report: it is a candidate, and no other port is OK under its number afterwards
pub record Claim (ports : List Port) (n i : ℕ) : Type 0 where
  pub candidate : is_candidate (port_at ports i) ≡ true
  pub alone : (j : ℕ) → j < n → j ≢ i → (standing_at ports n j).state ≡ ok_state → (standing_at ports n j).number ≢ (port_at ports i).number

-- another port is OK under the number of port i
pub record Other (ports : List Port) (n i : ℕ) : Type 0 where
  pub at : ℕ
  pub below : at < n
  pub ok : (standing_at ports n at).state ≡ ok_state
  pub same : (standing_at ports n at).number ≡ (port_at ports i).number
  pub other : at ≢ i

-- which timer runs
abbrev pub InHoldOff : Standing → Type 0
InHoldOff s = (s.state ≡ ok_state) × (0 < s.elapsed)

abbrev pub InRestoring : Standing → Type 0
InRestoring s = (s.state ≡ fail_state) × (0 < s.elapsed)

-- the counter runs no further than the port's times, and hold-off only of a port that was OK, restoring only of one that was FAIL
pub record Timed (p : Port) (s : Standing) : Type 0 where
  pub idle : s.state ≡ idle_state → s.elapsed ≡ 0
  pub holding : InHoldOff s → (p.state ≡ ok_state) × (s.number ≡ p.state_number) × (s.elapsed ≤ p.hold_off)
  pub restoring : InRestoring s → (p.state ≡ fail_state) × (s.elapsed ≤ p.restore)

-- ports that are IDLE, or candidates under numbers of their own of which none waits to restore
pub record Undisputed (ports : List Port) (n : ℕ) : Type 0 where
  pub candidate : (i : ℕ) → i < n → is_idle (port_at ports i) ≡ false → is_candidate (port_at ports i) ≡ true
  pub rested : (i : ℕ) → i < n → is_idle (port_at ports i) ≡ false → is_restoring (port_at ports i) ≡ false
  pub own : (i j : ℕ) → i < n → j < n → is_idle (port_at ports i) ≡ false → is_idle (port_at ports j) ≡ false → (port_at ports i).number ≡ (port_at ports j).number → i ≡ j

-- no port has a time
abbrev pub NoTimes : List Port → ℕ → Type 0
NoTimes ports n = (i : ℕ) → i < n → ((port_at ports i).hold_off ≡ 0) × ((port_at ports i).restore ≡ 0)

-- The ports as each of a row of reports sees them: at each what the one before has left.
pub record Reports (seen : ℕ → List Port) (n : ℕ) : Type 0 where
  pub small : n ≤ 64
  pub apart : Apart (seen 0) n
  pub low : Low (seen 0) n
  pub told : (k : ℕ) → Told (seen k) n (seen (suc k))
