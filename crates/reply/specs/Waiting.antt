-- Waiting before crying failure (02, 2026-03): which numbers ports that have lost their claim keep, and what a report leaves of each port.
use Rattle.std.specs.Prelude.{Bool, not, ◌&&◌, ◌||◌, List, ℕ, zero, suc, ◌+◌, get_or, replicate, if◌then◌else◌, ◌==◌}
use Rattle.ground.specs.Plain.{◌<?◌}
use Rattle.ground.specs.Counting.Each.{each}
use Rattle.ground.specs.Counting.Words.{some}
use Rattle.reply.specs.declared.members.Port.{Port}
use Rattle.reply.specs.declared.waiting.Standing.{Standing}
use Rattle.reply.specs.Choosing.{FREE, granted, holder_of, holders, all_free}
use Rattle.reply.specs.Members.{fail_state, has_hold_off, idle_state, is_candidate, is_idle, is_restoring, ok_state, port_at}

-- a candidate whose number no other port has
abbrev pub has_claim : (chosen : List ℕ) (port : ℕ) (p : Port) → Bool
has_claim chosen i p =
    is_candidate p && (holder_of chosen p.number == FREE || holder_of chosen p.number == i)

-- 'During hold-off the port keeps its number against others': one that has lost its claim and has hold-off left keeps the number under which it
-- is OK
abbrev pub must_keep : (chosen : List ℕ) (port : ℕ) (p : Port) → Bool
must_keep chosen i p = has_hold_off p && not (has_claim chosen i p)

-- such a port joins where nobody keeps that number yet
abbrev pub joins_kept : (chosen kept : List ℕ) (port : ℕ) (p : Port) → Bool
joins_kept chosen kept i p = must_keep chosen i p && holder_of kept p.state_number == FREE

unfoldable pub some_join : (chosen kept : List ℕ) (ports : List Port) (count : ℕ) → Bool
some_join chosen kept ports n = some n (λ i. joins_kept chosen kept i (port_at ports i))

unfoldable pub more_kept : (chosen : List ℕ) (ports : List Port) (count : ℕ) (kept : List ℕ) → List ℕ
more_kept chosen ports n kept = granted (λ i. must_keep chosen i (port_at ports i)) (λ i. (port_at ports i).state_number) n kept

-- Whether a port has lost its claim can hang on who else keeps a number. So it goes in rounds: the candidates choose, those that lose keep their numbers, and
-- again, until none joins.
unfoldable pub rounds : (ports : List Port) (count k : ℕ) (kept : List ℕ) → List ℕ
rounds ports n zero kept = kept
rounds ports n (suc k) kept =
    let chosen = holders ports n kept in
    if some_join chosen kept ports n then rounds ports n k (more_kept chosen ports n kept) else kept

-- as many rounds as ports are enough (`none_joins` of Laws/Keeping.antt)
unfoldable pub kept_numbers : List Port → ℕ → List ℕ
kept_numbers ports n = rounds ports n n all_free

unfoldable pub chosen_of : List Port → ℕ → List ℕ
chosen_of ports n = holders ports n (kept_numbers ports n)

abbrev pub standing : (state number elapsed : ℕ) → Standing
standing state number elapsed = record { state = state; number = number; elapsed = elapsed }

-- with its claim: 'A FAIL port goes OK only when its claim has stood for the wait-to-restore.'
abbrev pub with_claim : Port → Standing
with_claim p = if is_restoring p then standing fail_state p.number (p.elapsed + 1) else standing ok_state p.number 0

-- one that keeps its number, under that number
abbrev pub keeps_number : (chosen : List ℕ) (port : ℕ) (p : Port) → Bool
keeps_number chosen i p = p.state == ok_state && p.elapsed <? p.hold_off && holder_of chosen p.state_number == i

-- without: 'An OK port that loses its claim goes FAIL only when it has stayed so for the hold-off'
abbrev pub without_claim : (chosen : List ℕ) (port : ℕ) (p : Port) → Standing
without_claim chosen i p =
    if keeps_number chosen i p then standing ok_state p.state_number (p.elapsed + 1) else standing fail_state p.number 0

-- 'one that turns IDLE does so at once'
unfoldable pub standing_by : (chosen : List ℕ) (port : ℕ) (p : Port) → Standing
standing_by chosen i p =
    if is_idle p then standing idle_state p.number 0 else if has_claim chosen i p then with_claim p else without_claim chosen i p

abbrev pub no_standing : Standing
no_standing = standing idle_state 0 0

-- what a report leaves of each port: its state, the number under which it has it, and at how many reports its timer has run
unfoldable pub standings_of : List Port → ℕ → List Standing
standings_of ports n = each n (λ i. standing_by (chosen_of ports n) i (port_at ports i)) (replicate 64 no_standing)

-- and of one port
abbrev pub standing_at : (ports : List Port) (count port : ℕ) → Standing
standing_at ports n i = get_or (standings_of ports n) i no_standing
