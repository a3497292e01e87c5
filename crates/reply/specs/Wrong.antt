-- Wrong readings of 01 and of 02, 2026-03, each as a definition with a run on which it breaks what they say.
use Rattle.std.specs.Prelude.{◌≡◌, refl, Bool, true, false, not, ◌&&◌, List, [], ◌∷◌, ℕ, zero, suc, ◌+◌, ◌-◌, ◌%◌, set, if◌then◌else◌, ◌==◌}
use Rattle.ground.specs.Counting.Words.{some}
use Rattle.ground.specs.Plain.{◌<?◌, ◌≤?◌}
use Rattle.ground.specs.Table.{tabulate}
use Rattle.packet.specs.Words.{ADD, IDLE, NORM}
use Rattle.reply.specs.declared.members.Port.{Port}
use Rattle.reply.specs.declared.waiting.Standing.{Standing}
use Rattle.reply.specs.Choosing.{FREE, claims, granted, holder_of, holders, all_free}
use Rattle.reply.specs.Members.{fail_state, has_hold_off, idle_state, is_candidate, ok_state, port_at}
use Rattle.reply.specs.Waiting.{has_claim, keeps_number, standing, standing_at, standing_by, with_claim, without_claim}
use Rattle.reply.specs.Opened.{reply_open}

-- a port that sends a word under a number, with what the last report left of it and its times
abbrev port : (word number : ℕ) (readable : Bool) (last : Standing) (hold restore : ℕ) → Port
port word number readable last hold restore =
    record {
      word = word;
      number = number;
      state = last.state;
      state_number = last.number;
      told_word = word;
      told_number = number;
      readable = readable;
      hold_off = hold;
      restore = restore;
      elapsed = last.elapsed;
    }

-- what is left of the n ports by a table of holders, and by the definition
abbrev left_by : (chosen : List ℕ) (ports : List Port) (count : ℕ) → List Standing
left_by chosen ports n = tabulate n (λ i. standing_by chosen i (port_at ports i))

abbrev left : List Port → ℕ → List Standing
left ports n = tabulate n (standing_at ports n)

-- Port 0 has come anew and asks under number 0. Port 1 was OK under that number at the last report, and is still a candidate under it.
newcomer : List Port
newcomer = port ADD 0 true (standing idle_state 0 0) 0 0 ∷ port NORM 0 true (standing ok_state 0 0) 0 0 ∷ []

-- 'Candidates that were OK under the same number choose first, then the rest', the other way round
wrong_order : List Port → ℕ → List ℕ
wrong_order ports n = claims true ports n (claims false ports n all_free)

order_breaks :
    (left_by (wrong_order newcomer 2) newcomer 2 ≡ standing ok_state 0 0 ∷ standing fail_state 0 0 ∷ [])
    × (left newcomer 2 ≡ standing fail_state 0 0 ∷ standing ok_state 0 0 ∷ [])
unfolding reply_open newcomer wrong_order
order_breaks = (refl, refl)

-- one round for all, in port order alone
wrong_round : List Port → ℕ → List ℕ
wrong_round ports n = granted (λ i. is_candidate (port_at ports i)) (λ i. (port_at ports i).number) n all_free

round_breaks :
    (left_by (wrong_round newcomer 2) newcomer 2 ≡ standing ok_state 0 0 ∷ standing fail_state 0 0 ∷ [])
    × (left newcomer 2 ≡ standing fail_state 0 0 ∷ standing ok_state 0 0 ∷ [])
unfolding reply_open newcomer wrong_round
round_breaks = (refl, refl)

-- Every OK port that has not chosen yet reserves the number it had, whether or not it has lost its claim.
wrong_reserve : List Port → ℕ → ℕ → List ℕ
wrong_reserve ports n zero = all_free
wrong_reserve ports n (suc i) =
    let h = wrong_reserve ports n i in
    let p = port_at ports i in
    let reserved = some n (λ j. i <? j && has_hold_off (port_at ports j) && (port_at ports j).state_number == p.number) in
    if is_candidate p && holder_of h p.number == FREE && not reserved then set h p.number i
    else if has_hold_off p then set h p.state_number i
    else h

abbrev reserving : List Port → ℕ → List Standing
reserving ports n =
    let h = wrong_reserve ports n n in
    tabulate n
    (λ i.
    let p = port_at ports i in
    if is_candidate p && holder_of h p.number == i then standing ok_state p.number 0 else without_claim h i p)

-- an ordinary removal, with the ports in reverse order: each number falls by one
falling : List Port
falling = port NORM 2 true (standing ok_state 3 0) 9 0 ∷ port NORM 1 true (standing ok_state 2 0) 9 0 ∷ port NORM 0 true (standing ok_state 1 0) 9 0 ∷ []

-- healthy numbers go without: nobody is OK under 1, and two ports hold a number that is no longer theirs
reserve_breaks :
    (reserving falling 3 ≡ standing ok_state 3 1 ∷ standing ok_state 2 1 ∷ standing ok_state 0 0 ∷ [])
    × (left falling 3 ≡ standing ok_state 2 0 ∷ standing ok_state 1 0 ∷ standing ok_state 0 0 ∷ [])
unfolding reply_open falling wrong_reserve
reserve_breaks = (refl, refl)

-- two members exchange numbers
swapped : List Port
swapped = port NORM 1 true (standing ok_state 0 0) 9 0 ∷ port NORM 0 true (standing ok_state 1 0) 9 0 ∷ []

-- and block each other for the whole hold-off
swap_breaks :
    (reserving swapped 2 ≡ standing ok_state 0 1 ∷ standing ok_state 1 1 ∷ [])
    × (left swapped 2 ≡ standing ok_state 1 0 ∷ standing ok_state 0 0 ∷ [])
unfolding reply_open swapped wrong_reserve
swap_breaks = (refl, refl)

-- a port alone, OK under 0 with hold-off 2, that is not readable, with its counter
lost : ℕ → List Port
lost elapsed = port NORM 0 false (standing ok_state 0 elapsed) 2 0 ∷ []

-- the hold-off over one report late
wrong_late : Port → Standing
wrong_late p = if p.elapsed ≤? p.hold_off then standing ok_state p.state_number (p.elapsed + 1) else standing fail_state p.number 0

late_breaks : (wrong_late (port_at (lost 2) 0) ≡ standing ok_state 0 3) × (standing_at (lost 2) 1 0 ≡ standing fail_state 0 0)
unfolding reply_open lost wrong_late
late_breaks = (refl, refl)

-- IDLE waits for the hold-off
wrong_idle : List ℕ → ℕ → Port → Standing
wrong_idle chosen i p = if keeps_number chosen i p then without_claim chosen i p else standing_by chosen i p

turned_idle : List Port
turned_idle = port IDLE 255 true (standing ok_state 0 0) 2 0 ∷ []

idle_breaks :
    (wrong_idle (set all_free 0 0) 0 (port_at turned_idle 0) ≡ standing ok_state 0 1)
    × (standing_at turned_idle 1 0 ≡ standing idle_state 255 0)
unfolding reply_open turned_idle wrong_idle
idle_breaks = (refl, refl)

-- a port that comes from IDLE waits to restore
wrong_first : Port → Standing
wrong_first p = if p.elapsed <? p.restore then standing fail_state p.number (p.elapsed + 1) else with_claim p

added : List Port
added = port ADD 0 true (standing idle_state 255 0) 0 3 ∷ []

first_breaks : (wrong_first (port_at added 0) ≡ standing fail_state 0 1) × (standing_at added 1 0 ≡ standing ok_state 0 0)
unfolding reply_open added wrong_first
first_breaks = (refl, refl)

-- the number that a port keeps is the one that it now sends: its own is given away
wrong_kept : List ℕ → ℕ → Port → Standing
wrong_kept chosen i p = if has_hold_off p && not (has_claim chosen i p) then standing ok_state p.number (p.elapsed + 1) else standing_by chosen i p

-- port 0 is lost as it goes from 0 to 1, and port 1 from 1 to 0
renumbered : List Port
renumbered = port NORM 1 false (standing ok_state 0 0) 2 0 ∷ port NORM 0 true (standing ok_state 1 0) 2 0 ∷ []

kept_breaks :
    (tabulate 2 (λ i. wrong_kept (holders renumbered 2 all_free) i (port_at renumbered i)) ≡ standing ok_state 1 1 ∷ standing ok_state 0 0 ∷ [])
    × (left renumbered 2 ≡ standing ok_state 0 1 ∷ standing ok_state 1 1 ∷ [])
unfolding reply_open renumbered wrong_kept
kept_breaks = (refl, refl)

-- The hold-off counted by the epoch's number, which goes round after 256: 300 reports after the loss at epoch 0 it is epoch 44.
wrong_epochs : Port → ℕ → ℕ → Standing
wrong_epochs p since now =
    if (now + 256 - since) % 256 <? p.hold_off then standing ok_state p.state_number 0 else standing fail_state p.number 0

long : List Port
long = port NORM 0 false (standing ok_state 0 300) 300 0 ∷ []

epochs_break : (wrong_epochs (port_at long 0) 0 44 ≡ standing ok_state 0 0) × (standing_at long 1 0 ≡ standing fail_state 0 0)
unfolding reply_open long wrong_epochs
epochs_break = (refl, refl)
