-- What one line does to the output of a recording (2026-05).
use Rattle.std.specs.Prelude.{◌≡◌, ℕ, false, List, [], ◌∷◌, ◌++◌, length, refl}
use Rattle.recording.specs.declared.opening.Opening.TheVariants as O
use Rattle.recording.specs.declared.record.Record.TheVariants.{Malformed}
use Rattle.recording.specs.declared.pairs.Settings.{Settings as GroupSettings}
use Rattle.recording.specs.Opening.{line_opening}
use Rattle.replay_lines.specs.declared.replay.Phase.TheVariants.{Settings, Reading, Ended}
use Rattle.replay_lines.specs.Output.{answer_text}
use Rattle.replay_lines.specs.Replay.{next_line}
use Rattle.replay_lines.specs.Runs.{Desk, desk_after, line_in, output_from, said_to, standing}
use Rattle.replay_lines.specs.Turn.{answered_turn, open_with_rows, open_with_turn, startable}

-- nothing is printed once the run has ended
pub ended_silent : (out : List ℕ) (line left kind ports size window : ℕ) (rows : List (List ℕ)) (store : List ℕ) (ls : List (List ℕ))
    → output_from out (record { replay = record { phase = Ended; line = line; left = left; kind = kind; ports = ports; size = size; window = window }; rows = rows; store = store }) ls ≡ []
unfolding said_to desk_after
ended_silent out line left kind ports size window rows store [] = refl
ended_silent out line left kind ports size window rows store (l ∷ ls) = ended_silent out line left kind ports size window rows store ls

-- 'a malformed line is 13, is printed with its line number, and changes nothing else': its one line, and one line more is counted
pub malformed_line : (out : List ℕ) (d : Desk) (l : List ℕ) (ls : List (List ℕ)) → d.replay.phase ≡ Reading → {next : ℕ} → line_in out d l ≡ Malformed next
    → output_from out d (l ∷ ls) ≡ answer_text 13 (next_line d.replay.line) ++ output_from out (standing out d Reading) ls
unfolding said_to desk_after
malformed_line out d l ls e m = rw (e, m)

-- 'a bad first line ends the run': its one line, whatever follows
pub bad_first_line : (out : List ℕ) (d : Desk) (l : List ℕ) (ls : List (List ℕ)) → d.replay.phase ≡ Settings → line_opening 0 l ≡ O.Malformed
    → output_from out d (l ∷ ls) ≡ answer_text 13 (next_line d.replay.line) ++ []
unfolding said_to desk_after
bad_first_line out d l ls e m = rw (e, m, ended_silent out (next_line d.replay.line) 0 d.replay.kind d.replay.ports d.replay.size d.replay.window d.rows d.store ls)

-- 'Settings out of range, or a store above' what is lent 'are 4 and end it'
pub bad_settings : (out : List ℕ) (d : Desk) (l : List ℕ) (ls : List (List ℕ)) → d.replay.phase ≡ Settings → (s : GroupSettings) (next : ℕ) → line_opening 0 l ≡ O.Settings s next
    → startable s (length d.store) ≡ false → output_from out d (l ∷ ls) ≡ answer_text 4 (next_line d.replay.line) ++ []
unfolding said_to desk_after open_with_turn open_with_rows answered_turn
bad_settings out d l ls e s next m t =
    rw (e, m, t, ended_silent out (next_line d.replay.line) 0 d.replay.kind d.replay.ports d.replay.size d.replay.window d.rows d.store ls)
