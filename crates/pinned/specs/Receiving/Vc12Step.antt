-- VC-12's step rule through the receiver (request 2026-01), frame by frame: what port 0 of two is answered. Port 1 has no frame, so that receiving does not begin: a frame in step is answered 0 and dropped.
-- The rows are as a start lays them, with P 1, for the checker to compute.
use Rattle.std.specs.Prelude.{false, true, List, [], ◌∷◌, ◌++◌, ℕ, ◌+◌, ◌%◌, drop, get_or, replicate, take, if◌then◌else◌, ◌==◌}
use Rattle.ground.specs.Plain.{◌<?◌}
use Rattle.ground.specs.Table.{tabulate}
use Rattle.pinned.specs.Filled.{zeros}
use Rattle.packet.specs.Counts.{told_bits}
use Rattle.packet.specs.Kinds.{vc12_kind}
use Rattle.receiver.specs.Frame.{frame_of}
use Rattle.receiver.specs.Starting.{sized_rows}
use Rattle.rows.specs.Rows.{rows_for}
use Rattle.pinned.specs.Opened.{all_open}
use Rattle.tables.specs.Rows.{Pinned, pins, row, same}

-- two ports with W 32: 2 x 32 x (1+1) bytes of store
abbrev fresh : List (List ℕ)
fresh = sized_rows vc12_kind 2 1 32 128 [] [] (replicate (rows_for 2) (zeros 16))

-- no frame is stored
abbrev answered : List (List ℕ) → List ℕ → List ℕ
answered rows [] = []
answered rows (byte ∷ bytes) = (frame_of rows 0 false byte (0xAA ∷ []) (zeros 128)).answer ∷ answered (frame_of rows 0 false byte (0xAA ∷ []) (zeros 128)).rows bytes

-- a packet with this count, zeros behind it
abbrev packet : ℕ → List ℕ
packet count = tabulate 32 (λ k. (if k == 0 then 2 else 0) + (if k <? 5 then told_bits count k % 2 else 0))

late_start : Pinned
unfolding all_open
late_start =
    pins "'A port is in step after two whole packets in a row whose counts differ by one': nine frames with no start, then packets 5, 6 and 7 (request 2026-01)"
    (row "in step with the 64th frame behind the start" (answered fresh (replicate 9 0 ++ packet 5 ++ packet 6 ++ packet 7)) (replicate 72 12 ++ replicate 33 0) same
    ∷ [])

other_count : Pinned
unfolding all_open
other_count =
    pins "'a packet that breaks this loses step at the fifth bit of its count': a wrong count is in step up to it, and its packet is the first of a new two (request 2026-01)"
    (row "packet 9 in place of 7" (answered fresh (packet 5 ++ packet 6 ++ packet 9 ++ packet 10)) (replicate 63 12 ++ replicate 5 0 ++ replicate 28 12 ++ replicate 31 12 ++ (0 ∷ [])) same
    ∷ [])

differ : Pinned
unfolding all_open
differ =
    pins "'whose counts differ by one': one more, and not one less (request 2026-01)"
    (row "7 behind 5" (answered fresh (packet 5 ++ packet 7 ++ packet 8)) (replicate 95 12 ++ (0 ∷ [])) same
    ∷ row "4 behind 5" (answered fresh (packet 5 ++ packet 4 ++ packet 6)) (replicate 96 12) same
    ∷ [])

around : Pinned
unfolding all_open
around =
    pins "'whose counts differ by one': 31 is followed by 0 (request 2026-01)"
    (row "packets 30, 31 and 0" (answered fresh (packet 30 ++ packet 31 ++ packet 0)) (replicate 63 12 ++ replicate 33 0) same
    ∷ [])

early : Pinned
unfolding all_open
early =
    pins "'A start said early or left out loses step at that frame, and a frame said to be a start is always taken as a first bit': here one at place 9 of the third packet (request 2026-01)"
    (row "packet 20 within packet 7" (answered fresh (packet 5 ++ packet 6 ++ take 9 (packet 7) ++ packet 20 ++ packet 21)) (replicate 63 12 ++ replicate 10 0 ++ replicate 63 12 ++ (0 ∷ [])) same
    ∷ [])

left_out : Pinned
unfolding all_open
left_out =
    pins "'A start said early or left out loses step at that frame': here one left out (request 2026-01)"
    (row "packet 7 with no start" (answered fresh (packet 5 ++ packet 6 ++ (0 ∷ drop 1 (packet 7)) ++ packet 8 ++ packet 9)) (replicate 63 12 ++ (0 ∷ []) ++ replicate 32 12 ++ replicate 63 12 ++ (0 ∷ [])) same
    ∷ [])

abbrev handed : List (List ℕ) → List ℕ → List (List ℕ)
handed rows [] = rows
handed rows (byte ∷ bytes) = handed (frame_of rows 0 false byte (0xAA ∷ []) (zeros 128)).rows bytes

flagged_start : Pinned
unfolding all_open
flagged_start =
    pins "A flagged frame in the place of the third packet's first ends the run, and that it says a start is not looked at: packets 7 and 8 are not two, packets 8 and 9 are (request 2026-01)."
    (row "it is 10" (frame_of (handed fresh (packet 5 ++ packet 6)) 0 true 2 (0xAA ∷ []) (zeros 128)).answer 10 same
    ∷ row "the 64th frame of packets 8 and 9 is in step" (answered (frame_of (handed fresh (packet 5 ++ packet 6)) 0 true 2 (0xAA ∷ []) (zeros 128)).rows (drop 1 (packet 7) ++ packet 8 ++ packet 9)) (replicate 94 12 ++ (0 ∷ [])) same
    ∷ [])

other_bits : Pinned
unfolding all_open
other_bits =
    pins "Bits of a byte other than the two lowest are not looked at (request 2026-01)"
    (row "packets 5, 6 and 9" (answered fresh (tabulate 96 (λ k. 252 + get_or (packet 5 ++ packet 6 ++ packet 9) k 0))) (replicate 63 12 ++ replicate 5 0 ++ replicate 28 12) same
    ∷ [])
