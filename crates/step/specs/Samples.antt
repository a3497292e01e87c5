-- VC-12's step rule on frames worked out by hand (request 2026-01): what each is answered, 12 or 0, of a fresh port before the beginning.
use Rattle.std.specs.Prelude.{◌≡◌, refl, false, not, ◌&&◌, List, [], ◌∷◌, ◌++◌, ℕ, ◌+◌, ◌/◌, ◌%◌, drop, replicate, take, if◌then◌else◌, ◌==◌}
use Rattle.ground.specs.Plain.{◌<?◌}
use Rattle.ground.specs.Table.{tabulate}
use Rattle.packet.specs.Counts.{says_start, told_bits}
use Rattle.packet.specs.Kinds.{vc12_kind}
use Rattle.packet.specs.Ruling.{fields_in}
use Rattle.packet.specs.Symbols.{packet_row}
use Rattle.step.specs.declared.run.Run.{Run}
use Rattle.step.specs.Run.{in_step_at, no_run, run_on}
use Rattle.step.specs.Starts.{bits_after, goes_on, starts_run}
use Rattle.step.specs.Opened.{step_open}

-- by a rule
abbrev answers_by : (Run → ℕ → Run) → Run → List ℕ → List ℕ
answers_by rule run [] = []
answers_by rule run (byte ∷ bytes) =
    let after = rule run byte in
    (if in_step_at vc12_kind after.count then 0 else 12) ∷ answers_by rule after bytes

abbrev answers : List ℕ → List ℕ
answers bytes = answers_by (λ run byte. run_on vc12_kind run false byte) no_run bytes

-- a packet with this count, zeros behind it
packet : ℕ → List ℕ
packet count = tabulate 32 (λ k. (if k == 0 then 2 else 0) + (if k <? 5 then told_bits count k % 2 else 0))

abbrev times : ℕ → ℕ → List ℕ
times n answer = replicate n answer

-- nine frames with no start, then packets 5, 6 and 7
late_start : answers (replicate 9 0 ++ packet 5 ++ packet 6 ++ packet 7) ≡ times 72 12 ++ times 33 0
unfolding step_open packet
late_start = refl

-- a wrong count is in step up to its fifth bit, and its packet is the first of a new two
other_count : answers (packet 5 ++ packet 6 ++ packet 9 ++ packet 10) ≡ times 63 12 ++ (0 ∷ 0 ∷ 0 ∷ 0 ∷ 0 ∷ []) ++ times 28 12 ++ times 31 12 ++ (0 ∷ [])
unfolding step_open packet
other_count = refl

-- one more, and not one less
differ : (answers (packet 5 ++ packet 7 ++ packet 8) ≡ times 95 12 ++ (0 ∷ [])) × (answers (packet 5 ++ packet 4 ++ packet 6) ≡ times 96 12)
unfolding step_open packet
differ = (refl, refl)

-- 31 is followed by 0
around : answers (packet 30 ++ packet 31 ++ packet 0 ++ packet 1) ≡ times 63 12 ++ times 65 0
unfolding step_open packet
around = refl

-- a start at place 9 of the third packet, and one left out
early : answers (packet 5 ++ packet 6 ++ take 9 (packet 7) ++ packet 20 ++ packet 21) ≡ times 63 12 ++ times 10 0 ++ times 63 12 ++ (0 ∷ [])
unfolding step_open packet
early = refl

left_out : answers (packet 5 ++ packet 6 ++ (0 ∷ drop 1 (packet 7)) ++ packet 8 ++ packet 9) ≡ times 63 12 ++ (0 ∷ []) ++ times 32 12 ++ times 63 12 ++ (0 ∷ [])
unfolding step_open packet
left_out = refl

-- Wrong readings, each with frames on which it breaks.

-- The count judged bit by bit: of 9 after 6 the second bit differs from 7's, and the port would be out three frames early.
bit_by_bit : Run → ℕ → Run
bit_by_bit run byte =
    let place = run.next % 32 in
    if not (run.count == 0) && not (run.count <? 5) && place <? 5 && not (byte % 2 == told_bits (run.next % 1024 / 32) place % 2) then no_run else starts_run run byte

bit_by_bit_breaks : (take 4 (drop 64 (answers_by bit_by_bit no_run (packet 5 ++ packet 6 ++ packet 9))) ≡ 0 ∷ 12 ∷ 12 ∷ 12 ∷ [])
    × (take 4 (drop 64 (answers (packet 5 ++ packet 6 ++ packet 9))) ≡ 0 ∷ 0 ∷ 0 ∷ 0 ∷ [])
unfolding step_open bit_by_bit packet
bit_by_bit_breaks = (refl, refl)

-- The count judged at the packet's end: the port would stay in step for all of a packet with a wrong count.
at_end_lem : Run → ℕ → Run
at_end_lem run byte =
    let place = run.next % 32 in
    if place == 4 && not (run.count <? 5) then goes_on run (bits_after run.bits place (byte % 2))
    else if place == 31 && not (run.bits == run.next % 1024 / 32) then no_run else starts_run run byte

at_end_breaks : (take 32 (drop 64 (answers_by at_end_lem no_run (packet 5 ++ packet 6 ++ packet 9))) ≡ times 31 0 ++ (12 ∷ []))
    × (take 32 (drop 64 (answers (packet 5 ++ packet 6 ++ packet 9))) ≡ times 4 0 ++ times 28 12)
unfolding step_open at_end_lem packet
at_end_breaks = (refl, refl)

-- The count not judged in step: 9 would be whole in the epoch of 7, and rule under that number.
unjudged : Run → ℕ → Run
unjudged run byte =
    let place = run.next % 32 in
    if place == 4 && not (run.count <? 64) then goes_on run (bits_after run.bits place (byte % 2)) else starts_run run byte

unjudged_breaks : (take 32 (drop 64 (answers_by unjudged no_run (packet 5 ++ packet 6 ++ packet 9))) ≡ times 32 0)
    × ((fields_in vc12_kind (packet_row vc12_kind (packet 9))).epoch ≡ 9)
    × (take 32 (drop 64 (answers (packet 5 ++ packet 6 ++ packet 9))) ≡ times 4 0 ++ times 28 12)
unfolding step_open unjudged packet
unjudged_breaks = (refl, refl, refl)

-- Counts that differ by one either way: 5 and then 4 would be two in a row.
either_way : Run → ℕ → Run
either_way run byte =
    let place = run.next % 32 in
    let bits = bits_after run.bits place (byte % 2) in
    if place == 4 && not (run.count <? 5) && (bits + 2) % 32 == run.next % 1024 / 32 then goes_on run bits else starts_run run byte

either_way_breaks : (take 1 (drop 63 (answers_by either_way no_run (packet 5 ++ packet 4))) ≡ 0 ∷ []) × (take 1 (drop 63 (answers (packet 5 ++ packet 4))) ≡ 12 ∷ [])
unfolding step_open either_way packet
either_way_breaks = (refl, refl)

-- The packet that breaks the count no first of two: 9 and 10 after 6 would not be enough.
not_first : Run → ℕ → Run
not_first run byte =
    let place = run.next % 32 in
    let bits = bits_after run.bits place (byte % 2) in
    if place == 4 && not (run.count <? 5) && not (bits == run.next % 1024 / 32) then no_run else starts_run run byte

not_first_breaks : (take 1 (drop 127 (answers_by not_first no_run (packet 5 ++ packet 6 ++ packet 9 ++ packet 10))) ≡ 12 ∷ [])
    × (take 1 (drop 127 (answers (packet 5 ++ packet 6 ++ packet 9 ++ packet 10))) ≡ 0 ∷ [])
unfolding step_open not_first packet
not_first_breaks = (refl, refl)

-- A start said early not taken as a first bit: its own two packets would be one too few.
not_taken : Run → ℕ → Run
not_taken run byte = if not (run.count == 0) && says_start byte && not (run.next % 32 == 0) then no_run else starts_run run byte

not_taken_breaks : (take 1 (drop 136 (answers_by not_taken no_run (packet 5 ++ packet 6 ++ take 9 (packet 7) ++ packet 20 ++ packet 21))) ≡ 12 ∷ [])
    × (take 1 (drop 136 (answers (packet 5 ++ packet 6 ++ take 9 (packet 7) ++ packet 20 ++ packet 21))) ≡ 0 ∷ [])
unfolding step_open not_taken packet
not_taken_breaks = (refl, refl)
