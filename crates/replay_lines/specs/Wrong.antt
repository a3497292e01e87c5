-- Wrong readings of 2026-05, each as a definition with a run on which it breaks what the request says. Three more, which take a run of 72 frames, stand in
-- crates/conformance/specs/Examples/Replays.antt: a pending fetch forgotten at the cut, a malformed line handed as a flagged frame, and the port of a report read behind its fetch.
use Rattle.std.specs.Prelude.{◌≡◌, ℕ, List, [], ◌∷◌, ◌++◌, take, replicate, slice_index, refl}
use Rattle.ground.specs.Types.{Rows}
use Rattle.receiver.specs.Starting.{start_as_rows}
use Rattle.rows.specs.Group.{group_at}
use Rattle.rows.specs.Member.{member_at}
use Rattle.recording.specs.declared.pairs.Settings as S
use Rattle.replay_lines.specs.declared.replay.Phase.TheVariants.{Reading, Settings}
use Rattle.replay_lines.specs.Output.{answer_text, blamed_text, changes_text, count_in, epoch_text, place_text, report_text, why_text}
use Rattle.replay_lines.specs.Replay.{beginning}
use Rattle.replay_lines.specs.Runs.{Desk, desk_after, said_to, standing}
use Rattle.replay_lines.specs.Turn.{hold_offs, restores, started_rows, store_in, in_phase}
use Rattle.text.specs.Ascii.{ascii}
use Rattle.text.specs.Output.{decimal_text, ended, number_text}
use Rattle.text.specs.Text.{LINE-END, TAB}
use Rattle.replay_lines.specs.Opened.{replaying_open}

abbrev fresh : Desk
fresh = record { replay = beginning; rows = []; store = [] }

-- The next line taken for the first one where that is bad: 'a bad first line ends the run'.
wrong_after : Desk → Desk
wrong_after d = standing [] d Settings

ended_breaks : (said_to [] (wrong_after fresh) (ascii "y") ≡ answer_text 13 2) × (said_to [] (desk_after [] fresh (ascii "x")) (ascii "y") ≡ [])
unfolding replaying_open wrong_after
ended_breaks = (refl, refl)

-- Lines numbered from 1 in each part. The state is 'carried over', and the number counts on with it.
wrong_part : Desk → Desk
wrong_part d = record { replay = in_phase d.replay d.replay.phase 0 0; rows = d.rows; store = d.store }

-- one line was read
abbrev opened : Desk
opened = record { replay = record { phase = Reading; line = 1; left = 0; kind = 0; ports = 1; size = 1; window = 16 }; rows = []; store = [] }

numbers_break : (said_to [] (wrong_part opened) (ascii "y") ≡ answer_text 13 1) × (said_to [] opened (ascii "y") ≡ answer_text 13 2)
unfolding replaying_open wrong_part
numbers_break = (refl, refl)

-- The changed states printed before their report. They are printed 'in the order they arise', and states change at the report.
wrong_report : List ℕ → ℕ → List ℕ → List ℕ → ℕ → List ℕ
wrong_report rec line before after ports = changes_text before after ports ++ epoch_text (slice_index rec 1) (slice_index rec 0) (count_in rec) line (slice_index rec 3) 255

abbrev sure : List ℕ
sure = 3 ∷ 33 ∷ 1 ∷ 0 ∷ 0 ∷ 0 ∷ 0 ∷ 16 ∷ []

order_breaks : (take 4 (wrong_report sure 812 (255 ∷ []) (513 ∷ []) 1) ≡ ascii "port") × (take 5 (report_text sure 255 812 (255 ∷ []) (513 ∷ []) 1) ≡ ascii "epoch")
unfolding replaying_open wrong_report
order_breaks = (refl, refl)

-- a report whole, and the state that it changed
report_is : report_text sure 255 812 (255 ∷ []) (513 ∷ []) 1 ≡ ascii "epoch\t33\tsure\tbytes\t16\tline\t812\nport\t0\tOK\t1\n"
unfolding replaying_open
report_is = refl

-- The cause in words behind every mark. A sure report has none, and its line ends with its number.
wrong_place : (mark line cause port : ℕ) → List ℕ
wrong_place mark line cause port = ended (number_text line) TAB ++ why_text cause port

sure_breaks : (wrong_place 3 812 0 255 ≡ ascii "812\tcause\tthe numbers are not 0 to n - 1\n") × (place_text 3 812 0 255 ≡ ascii "812\n")
unfolding replaying_open wrong_place
sure_breaks = (refl, refl)

-- 255 printed for a port. It says that the cause is no one port's.
wrong_blamed : ℕ → List ℕ
wrong_blamed port = ascii "\tport\t" ++ ended (decimal_text port) LINE-END

blamed_breaks : (wrong_blamed 255 ≡ ascii "\tport\t255\n") × (blamed_text 255 ≡ ascii "\n") × (blamed_text 254 ≡ ascii "\tport\t254\n")
unfolding replaying_open wrong_blamed
blamed_breaks = (refl, refl, refl)

-- Hold-off and wait-to-restore exchanged at the start. A pair's name says which of them it is.
wrong_started : S.Settings → List (List ℕ) → List (List ℕ)
wrong_started s rows = start_as_rows s.kind s.ports s.size s.window (store_in s) (restores s) (hold_offs s) rows

-- a fixed group of one port with both times
abbrev timed : S.Settings
timed = record { hold_off = 5 ∷ replicate 63 0; restore = 2 ∷ replicate 63 0; kind = 2; ports = 1; size = 1; window = 16 }

abbrev times_in : Rows → List ℕ
times_in rows = (group_at rows).kind ∷ (member_at rows 0).hold_off ∷ (member_at rows 0).restore ∷ []

times_break : (times_in (started_rows timed (replicate 6 (replicate 16 0))) ≡ 2 ∷ 5 ∷ 2 ∷ []) × (times_in (wrong_started timed (replicate 6 (replicate 16 0))) ≡ 2 ∷ 2 ∷ 5 ∷ [])
unfolding replaying_open wrong_started
times_break = (refl, refl)
