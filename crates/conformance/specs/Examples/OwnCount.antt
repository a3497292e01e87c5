-- Examples of request 2026-04, the receiver's own count, worked out apart: what frames are answered, and what then stands of a port.
use Rattle.std.specs.Prelude.{List, [], ◌∷◌, ◌++◌, ℕ}
use Rattle.conformance.specs.Examples.Hosts.{Host, begun, counting, damaged_with, fed, fed_with, fetched, handed, opened, packet_with}
use Rattle.tables.specs.Rows.{Equal, Row, equal_rows, row, same}
use Rattle.conformance.specs.Opened.{all_open}
use Rattle.rows.specs.Step.{step_at}

-- one port in step, its latest tag 4,095
abbrev edge : Host
edge = fed 0 32 4064 (opened 1 16)

-- frames that carry these tags, one after the other: of each the answer, and of the port the tag to come, the frames counted and the breaks in a row
abbrev each : List ℕ → Host → List ℕ
each [] h = []
each (t ∷ ts) h = let g = handed 0 t h in counting 0 g ++ each ts g

-- the answer, and that of one frame more
abbrev both_answers : Host → (Host → Host) → List ℕ
both_answers h more = h.answer ∷ (more h).answer ∷ []

-- W is 32. One port in step, its latest tag 39, so that the next epoch starts.
abbrev at40 : Host
at40 = fed 0 40 0 (opened 1 32)

-- Two ports, of which the second has had no frame.
abbrev waiting : Host
waiting = fed 0 40 0 (opened 2 16)

-- W is 16. The port has joined, the tag to come is 70, and 72 is the first outside the window.
abbrev at70 : Host
at70 = fed 0 70 0 (opened 1 16)

pub broken : List Row
unfolding all_open
broken =
    row "4,095 and then frames that carry 1, 2, 3 and 4" (each (1 ∷ 2 ∷ 3 ∷ 4 ∷ []) edge) (0 ∷ 1 ∷ 32 ∷ 1 ∷ 0 ∷ 2 ∷ 32 ∷ 2 ∷ 0 ∷ 3 ∷ 32 ∷ 3 ∷ 12 ∷ 0 ∷ 0 ∷ 0 ∷ []) same
    ∷ row "4,095, then 1, then 1: the row of breaks is none again" (each (1 ∷ 1 ∷ []) edge) (0 ∷ 1 ∷ 32 ∷ 1 ∷ 0 ∷ 2 ∷ 32 ∷ 0 ∷ []) same
    ∷ row "a fourth break with MFI1 0 is the first of a new 32" (each (1 ∷ 2 ∷ 3 ∷ 0 ∷ []) edge ++ both_answers (fed 0 30 1 (handed 0 0 (fed 0 3 1 edge))) (handed 0 31)) (0 ∷ 1 ∷ 32 ∷ 1 ∷ 0 ∷ 2 ∷ 32 ∷ 2 ∷ 0 ∷ 3 ∷ 32 ∷ 3 ∷ 12 ∷ 1 ∷ 1 ∷ 0 ∷ 12 ∷ 0 ∷ []) same
    ∷ row "the frame with which a port joins breaks the count: it is the first of four" ((step_at (handed 0 3 at40).rows 0).joined ∷ each (3 ∷ 3 ∷ 3 ∷ 3 ∷ []) at40) (1 ∷ 0 ∷ 41 ∷ 32 ∷ 1 ∷ 0 ∷ 42 ∷ 32 ∷ 2 ∷ 0 ∷ 43 ∷ 32 ∷ 3 ∷ 12 ∷ 0 ∷ 0 ∷ 0 ∷ []) same
    ∷ []

pub switched : List Row
unfolding all_open
switched =
    row "a switch by one multiframe at an epoch start, CRC right: 31 frames 0, the 32nd 12" (both_answers (fed_with packet_with 0 31 56 at40) (fed_with packet_with 0 1 87)) (0 ∷ 12 ∷ []) same
    ∷ row "the same with the first packet's CRC wrong: 12 sixteen frames later" (both_answers (fed_with packet_with 0 31 72 (fed_with damaged_with 0 16 56 at40)) (fed_with packet_with 0 1 103)) (0 ∷ 12 ∷ []) same
    ∷ row "the first again before the beginning, which waits for port 1: 31 frames 0, the 32nd 12" (begun (fed_with packet_with 0 31 56 waiting) ++ begun (fed_with packet_with 0 1 87 (fed_with packet_with 0 31 56 waiting))) (0 ∷ 0 ∷ 12 ∷ 0 ∷ []) same
    ∷ []

pub beyond : List Row
unfolding all_open
beyond =
    row "four breaks with a frame answered 11 between, which is not counted" (each (3 ∷ 3 ∷ 3 ∷ []) at70 ++ each (3 ∷ 3 ∷ []) (fetched (fed 0 1 3 (fed 0 1 3 (fed 0 1 3 at70))))) (0 ∷ 71 ∷ 32 ∷ 1 ∷ 0 ∷ 72 ∷ 32 ∷ 2 ∷ 11 ∷ 72 ∷ 32 ∷ 2 ∷ 0 ∷ 73 ∷ 32 ∷ 3 ∷ 12 ∷ 0 ∷ 0 ∷ 0 ∷ []) same
    ∷ row "a fourth break outside the window is 12 and not 11" (each (3 ∷ 3 ∷ 3 ∷ 3 ∷ []) (fed 0 69 0 (opened 1 16))) (0 ∷ 70 ∷ 32 ∷ 1 ∷ 0 ∷ 71 ∷ 32 ∷ 2 ∷ 0 ∷ 72 ∷ 32 ∷ 3 ∷ 12 ∷ 0 ∷ 0 ∷ 0 ∷ []) same
    ∷ []

pub broken_rows : Equal broken
broken_rows = equal_rows broken

pub switched_rows : Equal switched
switched_rows = equal_rows switched

pub beyond_rows : Equal beyond
beyond_rows = equal_rows beyond
