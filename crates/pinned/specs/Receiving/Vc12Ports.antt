-- Ports of a VC-12 receiver (request 2026-01), one frame and one moment at a time: where receiving begins, where a port joins, the window, the end of an epoch, what is shown of a port and told of its number, and what a line may change.
-- W is 64, two epochs. The oldest epoch is 31, whose first tag is 992; epoch 0 starts 32 frames later with tag 0, and tag 32 is W frames later.
use Rattle.std.specs.declared.option.Option.TheVariants.{None, Some}
use Rattle.std.specs.Prelude.{Bool, true, false, List, [], ◌∷◌, ◌++◌, ℕ, ◌+◌, ◌%◌, get_or, replicate, ◌==◌}
use Rattle.tables.specs.Waits.{seen_port}
use Rattle.ground.specs.Table.{tabulate}
use Rattle.packet.specs.Changes.{brings_mfi2, changed, kept_part, most_changes}
use Rattle.packet.specs.Counts.{counts}
use Rattle.phases.specs.Settling.{begin_by}
use Rattle.receiver.specs.Lengths.{output_for}
use Rattle.receiver.specs.Shown.{ports_out, reply_out}
use Rattle.receiver.specs.Starting.{start_as_rows}
use Rattle.reply.specs.declared.members.Port.{Port}
use Rattle.reply.specs.Telling.{mst_of}
use Rattle.reply.specs.Waiting.{standing}
use Rattle.rows.specs.declared.group.Group.{Group}
use Rattle.rows.specs.declared.step.Step.{Step}
use Rattle.rows.specs.Group.{group_at, put_group}
use Rattle.rows.specs.Step.{put_step}
use Rattle.sender.specs.Board.{board_of}
use Rattle.sender.specs.Commands.{start_of}
use Rattle.sender.specs.Ranks.{row_at}
use Rattle.step.specs.Arrival.{readable, taken_of}
use Rattle.step.specs.declared.arrival.Taken.{Taken}
use Rattle.pinned.specs.Opened.{all_open}
use Rattle.tables.specs.Rows.{Pinned, pins, row, same}

abbrev group_with : (window begun gathered oldest : ℕ) → Group
group_with window begun gathered oldest =
    record {
      spare = 61 ∷ 62 ∷ 63 ∷ 64 ∷ [];
      kind = 1;
      count = 2;
      payload = 136;
      window = window;
      begun = begun;
      gathered = gathered;
      oldest = oldest;
      origin = 30;
      rs_ack = 1;
    }

abbrev group : (begun gathered oldest : ℕ) → Group
group begun gathered oldest = group_with 64 begun gathered oldest

abbrev step_with : (had failed count next joined since later bits : ℕ) → Step
step_with had failed count next joined since later bits =
    record {
      spare = 52 ∷ 53 ∷ 54 ∷ 55 ∷ [];
      heard = had;
      failed = failed;
      count = count;
      next = next;
      joined = joined;
      ever_since = since;
      joined_at = later;
      whole = 9;
      breaks = 0;
      odd = 0;
      bits = bits;
    }

-- in step, with the tag to come
abbrev waits : ℕ → Step
waits next = step_with 1 0 64 next 0 0 0 0

abbrev unbegun : Group
unbegun = group 0 1 9

abbrev rows : (g : Group) (a b : Step) → List (List ℕ)
rows g a b = put_step (put_step (put_group (replicate 11 (replicate 16 8)) g) 0 a) 1 b

abbrev after : Step → Step → Group
after a b = group_at (begin_by unbegun 2 (rows unbegun a b))

beginning : Pinned
unfolding all_open
beginning =
    pins "'the arc is W less 31 tags'. Latest tags 1,010 and 18 are 32 apart, over 1,023: receiving begins, in either order of ports, and epoch 1 is the next to start after tag 18. 1,010 and 19 are 33 apart: it does not. W 32 bears none at all. Tags 31 and 1,023 are the last of epochs 0 and 31; tags 32 and 992 start epochs 1 and 31, and the next one is the one after. 63 frames in a row are no step (request 2026-01)."
    (row "32 apart, over 1,023" (after (waits 1011) (waits 19)) (group 1 0 1) same
    ∷ row "the other way round" (after (waits 19) (waits 1011)) (group 1 0 1) same
    ∷ row "33 apart" (after (waits 1011) (waits 20)) unbegun same
    ∷ row "33 apart, the other way round" (after (waits 20) (waits 1011)) unbegun same
    ∷ row "W 32 with equal tags" (group_at (begin_by (group_with 32 0 1 9) 2 (rows (group_with 32 0 1 9) (waits 500) (waits 500)))) (group_with 32 1 0 16) same
    ∷ row "W 32 with tags one apart" (group_at (begin_by (group_with 32 0 1 9) 2 (rows (group_with 32 0 1 9) (waits 500) (waits 501)))) (group_with 32 0 1 9) same
    ∷ row "tag 31" (after (waits 32) (waits 32)) (group 1 0 1) same
    ∷ row "tag 32" (after (waits 33) (waits 33)) (group 1 0 2) same
    ∷ row "tag 1,023" (after (waits 0) (waits 0)) (group 1 0 0) same
    ∷ row "tag 991" (after (waits 992) (waits 992)) (group 1 0 31) same
    ∷ row "tag 992" (after (waits 993) (waits 993)) (group 1 0 0) same
    ∷ row "63 frames in a row" (after (waits 992) (step_with 1 0 63 991 0 0 0 0)) unbegun same
    ∷ row "a flagged port" (after (waits 992) (step_with 1 1 0 0 0 0 0 0)) (group 1 0 31) same
    ∷ [])

-- receiving has begun, and its first epoch is gathered
abbrev begun : Group
begun = group 1 1 31

-- one that is not stored
abbrev dropped : (q : Step) (answer : ℕ) (counted settles : Bool) → Taken
dropped q answer counted settles = record { step = q; answer = answer; counted = counted; kept = None; joins = false; settles = settles }

abbrev stored : (q : Step) (at : ℕ) (joins settles : Bool) → Taken
stored q at joins settles = record { step = q; answer = 0; counted = true; kept = Some at; joins = joins; settles = settles }

abbrev takes : (g : Group) (s : Step) (byte : ℕ) → Taken
takes g s byte = taken_of g s false false byte

joining : Pinned
unfolding all_open
joining =
    pins "'A port joins at its first epoch start in the window': of epoch 31, or of epoch 0, which is one later. Epoch 1's is outside. Tag 16 starts none, though sixteen frames have come since tag 0, nor does tag 1,016, with which an epoch led by 8 would start (request 2026-01)."
    (row "at epoch 31's start" (takes begun (waits 992) 3) (stored (step_with 1 0 64 993 1 0 0 1) 0 true false) same
    ∷ row "at epoch 0's, one later" (takes begun (waits 0) 2) (stored (step_with 1 0 64 1 1 0 1 0) 32 true false) same
    ∷ row "not at epoch 1's" (takes begun (waits 32) 2) (dropped (step_with 1 0 64 33 0 0 0 0) 0 true false) same
    ∷ row "not at tag 16" (takes begun (waits 16) 0) (dropped (step_with 1 0 64 17 0 0 0 0) 0 true false) same
    ∷ row "not at tag 1,016" (takes begun (waits 1016) 0) (dropped (step_with 1 0 64 1017 0 0 0 0) 0 true false) same
    ∷ row "not before the window" (takes begun (waits 960) 3) (dropped (step_with 1 0 64 961 0 0 0 1) 0 true false) same
    ∷ row "64 frames are in step" (readable begun (step_with 1 0 64 992 1 0 0 0)) true same
    ∷ row "63 are not" (readable begun (step_with 1 0 63 992 1 0 0 0)) false same
    ∷ [])

-- While the other ports have tags 992 to 1,023 of the oldest epoch, the frames of a port that is 48 ahead have tags 16 to 47: the one that starts an epoch, tag 32, is W frames after the first of the window, so that such a port never joins.
-- One that is 32 ahead has tags 0 to 31, and joins with the first.
abbrev ahead : ℕ → List ℕ → List Bool
ahead frames bytes = tabulate 32 (λ i. (takes begun (waits ((992 + frames + i) % 1024)) (get_or bytes i 0)).joins)

never_joins : Pinned
unfolding all_open
never_joins =
    pins "A port that is 48 frames ahead never joins: while the others have tags 992 to 1,023 of the oldest epoch it has 16 to 47, and tag 32, which starts an epoch, is W frames after the first of the window. One that is 32 ahead has tags 0 to 31, and joins with the first (request 2026-01)."
    (row "48 ahead" (ahead 48 (replicate 16 0 ++ (2 ∷ 0 ∷ 0 ∷ 0 ∷ 1 ∷ []) ++ replicate 11 0)) (replicate 32 false) same
    ∷ row "each is answered 0" (tabulate 32 (λ i. (takes begun (waits ((992 + 48 + i) % 1024)) (get_or (replicate 16 0 ++ (2 ∷ 0 ∷ 0 ∷ 0 ∷ 1 ∷ []) ++ replicate 11 0) i 0)).answer)) (replicate 32 0) same
    ∷ row "32 ahead" (ahead 32 (2 ∷ replicate 31 0)) (true ∷ replicate 31 false) same
    ∷ [])

-- a joined port, with the bits of a count that have come
abbrev joined : ℕ → ℕ → Step
joined next bits = step_with 1 0 64 next 1 0 0 bits

window : Pinned
unfolding all_open
window =
    pins "In the window up to 63 frames after its first. Under 11 all stays, the bits of the count too, also at the fifth one; a fifth bit that makes another count, and a start that is not as due, are 12 and not 11. What other bits of a byte are is not looked at. The fifth bit of count 2 in place of 1: its packet is the first of a new two, with five frames, and the tag to come is 69 (request 2026-01)."
    (row "63 after its first" (takes begun (joined 31 9) 1) (stored (joined 32 9) 63 false false) same
    ∷ row "64 after it" (takes begun (joined 32 9) 2) (dropped (joined 32 9) 11 false false) same
    ∷ row "one before it" (takes begun (joined 991 9) 1) (dropped (joined 991 9) 11 false false) same
    ∷ row "the fifth bit of the count under 11" (takes begun (joined 36 0) 1) (dropped (joined 36 0) 11 false false) same
    ∷ row "the fifth bit of another count" (takes begun (joined 36 1) 0) (dropped (step_with 1 0 5 69 0 0 0 2) 12 true true) same
    ∷ row "no start where one is due" (takes begun (joined 32 9) 1) (dropped (step_with 1 0 0 0 0 0 0 0) 12 false true) same
    ∷ row "a start where none is due" (takes begun (joined 40 9) 3) (dropped (step_with 1 0 1 1 0 0 0 1) 12 true true) same
    ∷ row "other bits of a byte" (takes begun (joined 31 9) 0xFD) (stored (joined 32 9) 63 false false) same
    ∷ row "other bits at a start" (takes begun (joined 40 9) 0xFF) (dropped (step_with 1 0 1 1 0 0 0 1) 12 true true) same
    ∷ row "bit 3" (takes begun (joined 31 9) 9) (stored (joined 32 9) 63 false false) same
    ∷ row "bit 3 at a start" (takes begun (joined 40 9) 0x0B) (dropped (step_with 1 0 1 1 0 0 0 1) 12 true true) same
    ∷ [])

frames_of_lem : Pinned
unfolding all_open
frames_of_lem =
    pins "The first four bits of a wrong count are stored, here of 8 in place of 0: the second of them differs, and step is lost at the fifth. The epoch that is gathered ends with its 32nd frame, and not with its sixteenth. A flagged frame ends the run, and that it says a start is not looked at: no run begins with it, and the bits stay (request 2026-01)."
    (row "the first bit of another count" (takes begun (joined 0 31) 2) (stored (joined 1 0) 32 false false) same
    ∷ row "the second" (takes begun (joined 1 0) 1) (stored (joined 2 1) 33 false false) same
    ∷ row "the third" (takes begun (joined 2 1) 0) (stored (joined 3 2) 34 false false) same
    ∷ row "the fourth" (takes begun (joined 3 2) 0) (stored (joined 4 4) 35 false false) same
    ∷ row "at the fifth step is lost" (takes begun (joined 4 4) 0) (dropped (step_with 1 0 5 261 0 0 0 8) 12 true true) same
    ∷ row "the 32nd frame ends the epoch" (takes (group 1 0 31) (joined 1023 31) 0) (stored (joined 0 31) 31 false true) same
    ∷ row "the sixteenth does not" (takes (group 1 0 31) (joined 1007 31) 0) (stored (joined 1008 31) 15 false false) same
    ∷ row "the 32nd of the next epoch does not" (takes (group 1 0 31) (joined 31 0) 0) (stored (joined 32 0) 63 false false) same
    ∷ row "a flagged frame" (taken_of begun (joined 0 17) true false 3) (dropped (step_with 1 1 0 0 0 0 0 17) 10 false true) same
    ∷ [])

-- 'idle SQ is 63': what is shown of ports that are IDLE, and of the rows of a board past the count. A port that is OK shows its number, 63 too. 'the output holds at least ports x 32 x P bytes': 2 x 32 x 136.
abbrev fresh : List (List ℕ)
fresh = start_as_rows 1 2 136 32 8768 [] [] (replicate 11 (replicate 16 9))

shown : Pinned
unfolding all_open
shown =
    pins "'idle SQ is 63': what is shown of ports that are IDLE, and of the rows of a board past the count. 'the output holds at least ports x 32 x P bytes': 2 x 32 x 136 (request 2026-01)."
    (row "two fresh ports" (ports_out fresh (replicate 2 (replicate 8 9))) (replicate 2 (0 ∷ 63 ∷ 0 ∷ 0 ∷ 0 ∷ 0 ∷ 255 ∷ 0 ∷ [])) same
    ∷ row "two fresh ports, their reply" (reply_out fresh 7 (9 ∷ 9 ∷ [])) (0xFF ∷ 0 ∷ []) same
    ∷ row "an IDLE slot's number" (row_at (board_of (start_of 1 2).table).rows 1).number 63 same
    ∷ row "past the count" (row_at (board_of (start_of 1 2).table).rows 2).number 63 same
    ∷ row "the last row" (row_at (board_of (start_of 1 2).table).rows 63).number 63 same
    ∷ row "an output" (output_for begun 2) 8704 same
    ∷ [])

-- an OK port under a number, and one that sends IDLE under 63
abbrev ok : ℕ → Port
ok number = seen_port 2 number true (standing 2 number 0) 0 0

abbrev idle : Port
idle = seen_port 5 63 true (standing 0 63 0) 0 0

told : Pinned
unfolding all_open
told =
    pins "'MST speaks of numbers 8 x (count mod 8) onward': epochs 7, 15 and 31 of 56 to 63, epoch 8 of 0 to 7. 'the word decides': 63 is told OK of a member, and not of an IDLE port (request 2026-01)."
    (row "63 in epoch 7" (mst_of 1 (ok 63 ∷ []) 1 7) 0xFE same
    ∷ row "63, 56 and 0 in epoch 15" (mst_of 1 (ok 63 ∷ ok 56 ∷ ok 0 ∷ []) 3 15) 0x7E same
    ∷ row "in epoch 31" (mst_of 1 (ok 63 ∷ ok 56 ∷ ok 0 ∷ []) 3 31) 0x7E same
    ∷ row "in epoch 8" (mst_of 1 (ok 63 ∷ ok 56 ∷ ok 0 ∷ []) 3 8) 0x7F same
    ∷ row "in epoch 6" (mst_of 1 (ok 63 ∷ ok 56 ∷ ok 0 ∷ []) 3 6) 0xFF same
    ∷ row "an IDLE port under 63" (mst_of 1 (idle ∷ []) 1 7) 0xFF same
    ∷ [])

-- What a line may change: 'one changed bit at most, outside the count, every start said rightly'. The bit of each of the 27 frames behind the count may be another, that of the five frames of the count not, and the start of none. No frame brings MFI2.
abbrev may_differ : ℕ → ℕ → List Bool
may_differ a b = tabulate 32 (λ place. kept_part 1 place a == kept_part 1 place b)

lines : Pinned
unfolding all_open
lines =
    pins "What a line may change: 'one changed bit at most, outside the count, every start said rightly'. The bit of each of the 27 frames behind the count may be another, that of the five frames of the count not, and the start of none. No frame brings MFI2 (request 2026-01)."
    (row "the bit, where none starts" (may_differ 0 1) (replicate 5 false ++ replicate 27 true) same
    ∷ row "the bit, where one starts" (may_differ 2 3) (replicate 5 false ++ replicate 27 true) same
    ∷ row "the start, bit 0" (may_differ 0 2) (replicate 32 false) same
    ∷ row "the start, bit 1" (may_differ 1 3) (replicate 32 false) same
    ∷ row "how many bits of each kind" (tabulate 3 most_changes) (3 ∷ 1 ∷ 0 ∷ []) same
    ∷ row "32 bits" (changed 1 (replicate 32 0) (replicate 32 1)) 32 same
    ∷ row "one bit, the start aside" (changed 1 (2 ∷ replicate 31 0) (0 ∷ replicate 30 0 ++ (1 ∷ []))) 1 same
    ∷ row "no frame brings MFI2" (tabulate 32 (brings_mfi2 1)) (replicate 32 false) same
    ∷ row "other bits of 1" (may_differ 1 0xFD) (replicate 32 true) same
    ∷ row "other bits of 3" (may_differ 3 7) (replicate 32 true) same
    ∷ [])

counted : Pinned
unfolding all_open
counted =
    pins "A frame counts as a tag says where the start is said at place 0 alone, and at places 0 to 4 the bit is the count's, first bit highest: of tag 32, which has count 1, 00001; of tag 512, which has count 16, 10000 (request 2026-01)."
    (row "tag 32" (tabulate 4 (counts 1 32)) (false ∷ false ∷ true ∷ false ∷ []) same
    ∷ row "tag 33" (tabulate 4 (counts 1 33)) (true ∷ false ∷ false ∷ false ∷ []) same
    ∷ row "tag 36" (tabulate 4 (counts 1 36)) (false ∷ true ∷ false ∷ false ∷ []) same
    ∷ row "tag 37" (tabulate 4 (counts 1 37)) (true ∷ true ∷ false ∷ false ∷ []) same
    ∷ row "tag 63" (tabulate 4 (counts 1 63)) (true ∷ true ∷ false ∷ false ∷ []) same
    ∷ row "tag 512" (tabulate 4 (counts 1 512)) (false ∷ false ∷ false ∷ true ∷ []) same
    ∷ row "tag 513" (tabulate 4 (counts 1 513)) (true ∷ false ∷ false ∷ false ∷ []) same
    ∷ [])
