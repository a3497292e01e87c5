-- Stopping, beginning and gathering (01, 'Beginning', 'Report of an epoch'), and when an epoch is due, each field with a number of its own.
use Rattle.std.specs.Prelude.{true, false, List, [], ◌∷◌, ℕ, replicate}
use Rattle.phases.specs.Due.{brought, owes_nothing, silent}
use Rattle.phases.specs.Settling.{begin_by, cleared_step, gather_by, settled_of, stop_by}
use Rattle.rows.specs.declared.group.Group.{Group}
use Rattle.rows.specs.declared.step.Step.{Step}
use Rattle.rows.specs.Group.{group_at, put_group}
use Rattle.rows.specs.Member.{member_at, member_of}
use Rattle.rows.specs.Packets.{marks_at, packets_at}
use Rattle.rows.specs.Step.{put_step, step_at}
use Rattle.pinned.specs.Opened.{all_open}
use Rattle.tables.specs.Rows.{Pinned, pins, row, same}

-- a port that has counted so many frames, with the tag to come
abbrev step : (had failed count next joined since later whole : ℕ) → Step
step had failed count next joined since later whole =
    record {
      spare = 52 ∷ 53 ∷ 54 ∷ 55 ∷ [];
      heard = had;
      failed = failed;
      count = count;
      next = next;
      joined = joined;
      ever_since = since;
      joined_at = later;
      whole = whole;
      breaks = 3;
      odd = 4;
      bits = 51;
    }

cleared : Pinned
unfolding all_open
cleared =
    pins "At a stop and at a beginning nobody has joined and nothing rules; the step record stays. At a beginning those in step are in step ever since it (01, 'Beginning')."
    (row "one in step" (cleared_step (step 6 7 33 853 8 9 10 11) true) (step 6 7 33 853 0 1 0 0) same
    ∷ row "one that is not" (cleared_step (step 6 7 33 853 8 9 10 11) false) (step 6 7 33 853 0 0 0 0) same
    ∷ [])

abbrev group : (begun gathered oldest origin : ℕ) → Group
group begun gathered oldest origin =
    record {
      spare = 61 ∷ 62 ∷ 63 ∷ 64 ∷ [];
      kind = 0;
      count = 2;
      payload = 9;
      window = 40;
      begun = begun;
      gathered = gathered;
      oldest = oldest;
      origin = origin;
      rs_ack = 73;
    }

-- readable and owing its frames; joined at a later epoch; in step, and neither joined nor in step since the beginning; flagged failed
abbrev owing : Step
owing = step 1 0 33 853 1 0 0 1

abbrev coming : Step
coming = step 1 0 33 853 1 0 2 1

abbrev apart : Step
apart = step 1 0 33 853 0 0 0 1

abbrev failed : Step
failed = step 1 1 31 0 1 1 2 1

abbrev eights : List ℕ
eights = replicate 16 8

abbrev zeros : List ℕ
zeros = replicate 16 0

-- two ports, the marks of later epochs alone
abbrev rows : (g : Group) (a b : Step) → List (List ℕ)
rows g a b = put_step (put_step (put_group (replicate 11 eights) g) 0 a) 1 b

abbrev g : Group
g = group 1 0 57 30

due : Pinned
unfolding all_open
due =
    pins "A port that is not readable owes nothing, nor does one that has brought the epoch, nor one that joined later; one that has not joined owes (01, 'Beginning', 'Report of an epoch')"
    (row "31 frames in a row owe nothing" (owes_nothing g (step 1 0 31 853 1 1 0 1) eights) true same
    ∷ row "neither joined nor in step since owes nothing" (owes_nothing g apart eights) true same
    ∷ row "one that is readable owes" (owes_nothing g owing eights) false same
    ∷ row "one that is readable owes, its mark pays" (owes_nothing g owing (9 ∷ eights)) true same
    ∷ row "one that joined later owes nothing" (owes_nothing g coming eights) true same
    ∷ row "one that has not joined owes, whatever is noted" (owes_nothing g (step 1 0 33 853 0 1 2 1) eights) false same
    ∷ row "port 1 owes" (brought g (rows g coming owing) 2) false same
    ∷ row "port 0 owes" (brought g (rows g owing coming) 2) false same
    ∷ row "none owes" (brought g (rows g coming failed) 2) true same
    ∷ row "port 0 is readable" (silent g (rows g coming failed) 2) false same
    ∷ row "port 1 is readable" (silent g (rows g failed coming) 2) false same
    ∷ row "none is readable" (silent g (rows g apart failed) 2) true same
    ∷ [])

stopping : Pinned
unfolding all_open
stopping =
    pins "'receiving stops, unreported epochs are dropped': the place of the window's first frame and RS-Ack stay, the members and the packets too (01, 'Beginning', 'Report of an epoch')"
    (row "the group" (group_at (stop_by g 2 (rows g apart failed))) (group 0 0 0 30) same
    ∷ row "port 0's step" (step_at (stop_by g 2 (rows g apart failed)) 0) (step 1 0 33 853 0 0 0 0) same
    ∷ row "port 1's step" (step_at (stop_by g 2 (rows g apart failed)) 1) (step 1 1 31 0 0 0 0 0) same
    ∷ row "port 0's marks" (marks_at (stop_by g 2 (rows g apart failed)) 0) zeros same
    ∷ row "port 1's marks" (marks_at (stop_by g 2 (rows g apart failed)) 1) zeros same
    ∷ row "packets stay" (packets_at (stop_by g 2 (rows g apart failed)) 1) (eights ∷ eights ∷ []) same
    ∷ row "members stay" (member_at (stop_by g 2 (rows g apart failed)) 1) (member_of eights) same
    ∷ row "with one readable nothing stops" (stop_by g 2 (rows g coming failed)) (rows g coming failed) same
    ∷ row "before the beginning nothing does" (stop_by (group 0 0 57 30) 2 (rows g apart failed)) (rows g apart failed) same
    ∷ [])

abbrev unbegun : Group
unbegun = group 0 1 99 30

beginning : Pinned
unfolding all_open
beginning =
    pins "'The next epoch to start after the foremost tag': tags 852 and 855 are epoch 53's, and epoch 54 starts with tag 856, behind which epoch 55 is the next. Tag 4,087 is the last of epoch 255. Tags W - 16 apart begin, here 852 and 876, which is epoch 55's; W - 15 apart they don't. Tags 4,090 and 5 are 11 apart, and epoch 1 starts with tag 8. Nor do they where a port has had no frame, or is neither in step nor flagged (01, 'Beginning', 'Report of an epoch')."
    (row "tags 852 begin epoch 54" (group_at (begin_by unbegun 2 (rows unbegun apart failed))) (group 1 0 54 30) same
    ∷ row "one in step is so since" (step_at (begin_by unbegun 2 (rows unbegun owing failed)) 0) (step 1 0 33 853 0 1 0 0) same
    ∷ row "a flagged one is not" (step_at (begin_by unbegun 2 (rows unbegun owing failed)) 1) (step 1 1 31 0 0 0 0 0) same
    ∷ row "marks are cleared" (marks_at (begin_by unbegun 2 (rows unbegun apart failed)) 0) zeros same
    ∷ row "tag 855" (group_at (begin_by unbegun 2 (rows unbegun failed (step 1 0 33 856 0 0 0 1)))).oldest 54 same
    ∷ row "tag 856" (group_at (begin_by unbegun 2 (rows unbegun failed (step 1 0 33 857 0 0 0 1)))).oldest 55 same
    ∷ row "tag 4,087" (group_at (begin_by unbegun 2 (rows unbegun failed (step 1 0 33 4088 0 0 0 1)))).oldest 0 same
    ∷ row "tag 16" (group_at (begin_by unbegun 2 (rows unbegun failed (step 1 0 33 17 0 0 0 1)))) (group 1 0 2 30) same
    ∷ row "tag 0" (group_at (begin_by unbegun 2 (rows unbegun failed (step 1 0 33 1 0 0 0 1)))) (group 1 0 1 30) same
    ∷ row "24 apart" (group_at (begin_by unbegun 2 (rows unbegun apart (step 1 0 33 877 0 0 0 1)))) (group 1 0 56 30) same
    ∷ row "25 apart" (begin_by unbegun 2 (rows unbegun apart (step 1 0 33 878 0 0 0 1))) (rows unbegun apart (step 1 0 33 878 0 0 0 1)) same
    ∷ row "24 apart, the other way round" (group_at (begin_by unbegun 2 (rows unbegun (step 1 0 33 877 0 0 0 1) apart))) (group 1 0 56 30) same
    ∷ row "over 4,095" (group_at (begin_by unbegun 2 (rows unbegun (step 1 0 33 4091 0 0 0 1) (step 1 0 33 6 0 0 0 1)))) (group 1 0 1 30) same
    ∷ row "over 4,095, the other way round" (group_at (begin_by unbegun 2 (rows unbegun (step 1 0 33 6 0 0 0 1) (step 1 0 33 4091 0 0 0 1)))) (group 1 0 1 30) same
    ∷ row "a port with no frame" (begin_by unbegun 2 (rows unbegun apart (step 0 1 0 0 0 0 0 0))) (rows unbegun apart (step 0 1 0 0 0 0 0 0)) same
    ∷ row "a port neither in step nor flagged" (begin_by unbegun 2 (rows unbegun apart (step 1 0 31 853 0 0 0 0))) (rows unbegun apart (step 1 0 31 853 0 0 0 0)) same
    ∷ row "one that has begun stays" (begin_by g 2 (rows g apart failed)) (rows g apart failed) same
    ∷ [])

settling : Pinned
unfolding all_open
settling =
    pins "'gathered, in the call that makes it due', once, and before the beginning nothing is; the place of the window's first frame goes on by sixteen, round W of 40. Stopping comes first, and the beginning can follow in the same call (01, 'Beginning', 'Report of an epoch')."
    (row "an epoch is gathered" (group_at (gather_by g [] 2 (rows g coming failed))) (group 1 1 58 6) same
    ∷ row "a later epoch comes nearer" (step_at (gather_by g [] 2 (rows g coming failed)) 0) (step 1 0 33 853 1 0 1 0) same
    ∷ row "not while one owes" (gather_by g [] 2 (rows g coming owing)) (rows g coming owing) same
    ∷ row "not twice" (gather_by (group 1 1 57 30) [] 2 (rows g coming failed)) (rows g coming failed) same
    ∷ row "not before the beginning" (gather_by (group 0 0 57 30) [] 2 (rows g coming failed)) (rows g coming failed) same
    ∷ row "settled, it is gathered" (group_at (settled_of 2 [] (rows g coming failed))) (group 1 1 58 6) same
    ∷ row "stopped and begun anew in one call" (group_at (settled_of 2 [] (rows g apart failed))) (group 1 0 54 30) same
    ∷ row "with the steps of the beginning" (step_at (settled_of 2 [] (rows g apart failed)) 0) (step 1 0 33 853 0 1 0 0) same
    ∷ row "where one owes all stays" (settled_of 2 [] (rows g coming owing)) (rows g coming owing) same
    ∷ [])
