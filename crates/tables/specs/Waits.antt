-- Short runs of reports with a hold-off and a wait-to-restore, for the examples of 02, 2026-03: what each report leaves goes into the next.
use Rattle.std.specs.Prelude.{Bool, true, false, List, [], ◌∷◌, ℕ, zero, suc, ◌+◌, get_or, length, if◌then◌else◌, ◌==◌}
use Rattle.ground.specs.Table.{tabulate}
use Rattle.reply.specs.declared.members.Port.{Port}
use Rattle.reply.specs.declared.waiting.Standing.{Standing}
use Rattle.reply.specs.Waiting.{no_standing, standing, standings_of}

-- a port that sends a word under a number, with what the last report left of it, and its times
abbrev pub seen_port : (word number : ℕ) (readable : Bool) (last : Standing) (hold restore : ℕ) → Port
seen_port word number readable last hold restore =
    record {
      word = word;
      number = number;
      state = last.state;
      state_number = last.number;
      told_word = 255;
      told_number = 255;
      readable = readable;
      hold_off = hold;
      restore = restore;
      elapsed = last.elapsed;
    }

-- what a report sees of a port: its last good word and number, and whether it is readable
pub record Sent : Type 0 where
  pub word : ℕ
  pub number : ℕ
  pub readable : Bool

-- readable, not readable, IDLE
abbrev pub here : ℕ → ℕ → Sent
here word number = record { word = word; number = number; readable = true }

abbrev pub away : ℕ → ℕ → Sent
away word number = record { word = word; number = number; readable = false }

abbrev pub idle : Sent
idle = here 5 255

-- one report on ports with these times
abbrev pub ports_with : (hold restore : List ℕ) (last : List Standing) (sent : List Sent) → List Port
ports_with hold restore last sent =
    tabulate (length sent)
    (λ i.
    let s = get_or sent i idle in
    seen_port s.word s.number s.readable (get_or last i no_standing) (get_or hold i 0) (get_or restore i 0))

abbrev pub left_of : (hold restore : List ℕ) (last : List Standing) (sent : List Sent) → List Standing
left_of hold restore last sent =
    let all = standings_of (ports_with hold restore last sent) (length sent) in
    tabulate (length sent) (λ i. get_or all i no_standing)

-- one after the other, from ports that are all IDLE
abbrev run_from : (hold restore : List ℕ) (last : List Standing) (rest : List (List Sent)) → List (List Standing)
run_from hold restore last [] = []
run_from hold restore last (sent ∷ rest) = let now = left_of hold restore last sent in now ∷ run_from hold restore now rest

-- the state of port i at each report
abbrev states_in : ℕ → List (List Standing) → List ℕ
states_in i [] = []
states_in i (now ∷ rest) = (get_or now i no_standing).state ∷ states_in i rest

abbrev pub states_at : (port : ℕ) (hold restore : List ℕ) (sent : List (List Sent)) → List ℕ
states_at i hold restore sent = states_in i (run_from hold restore [] sent)

-- state, number and counter of each port after one report
abbrev pub each : List Standing → List ℕ
each [] = []
each (s ∷ rest) = s.state ∷ s.number ∷ s.elapsed ∷ each rest

-- a port alone, lost after its first report and for ever: at how many of n further reports it is OK, and its state at the last
abbrev lost_for : (hold n count : ℕ) (last : List Standing) → List ℕ
lost_for hold zero count last = count ∷ (get_or last 0 no_standing).state ∷ []
lost_for hold (suc n) count last =
    let now = left_of (hold ∷ []) [] last (away 2 0 ∷ []) in
    lost_for hold n (count + (if (get_or now 0 no_standing).state == 2 then 1 else 0)) now

abbrev pub ok_for : ℕ → ℕ → List ℕ
ok_for hold n = lost_for hold n 0 (standing 2 0 0 ∷ [])
