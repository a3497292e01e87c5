-- 01's own rule of member states, which knows no times: 'Zero and zero is today's behaviour' (02, 2026-03) is said of it in Theorems/Zero.antt.
use Rattle.std.specs.Prelude.{Bool, true, false, ◌&&◌, List, ℕ, replicate, if◌then◌else◌, ◌==◌}
use Rattle.std.specs.Bool.{beq}
use Rattle.ground.specs.Counting.Each.{each}
use Rattle.reply.specs.declared.members.Port.{Port}
use Rattle.reply.specs.Choosing.{granted, holder_of, all_free}
use Rattle.reply.specs.Members.{fail_state, idle_state, is_candidate, is_idle, ok_state, port_at, was_ok}

unfoldable pub plain_claims : (first : Bool) (ports : List Port) (count : ℕ) (holders : List ℕ) → List ℕ
plain_claims first ports n holders =
    granted (λ i. is_candidate (port_at ports i) && beq (was_ok (port_at ports i)) first) (λ i. (port_at ports i).number) n holders

-- 'Candidates that were OK under the same number choose first, then the rest, each in port order.'
unfoldable pub plain_holders : List Port → ℕ → List ℕ
plain_holders ports n = plain_claims false ports n (plain_claims true ports n all_free)

-- 'One whose number is still free becomes OK; all else are FAIL.'
unfoldable pub state_by : (chosen : List ℕ) (port : ℕ) (p : Port) → ℕ
state_by chosen i p =
    if is_idle p then idle_state else if is_candidate p && holder_of chosen p.number == i then ok_state else fail_state

unfoldable pub states_of : List Port → ℕ → List ℕ
states_of ports n = each n (λ i. state_by (plain_holders ports n) i (port_at ports i)) (replicate 64 idle_state)
