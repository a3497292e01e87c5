-- What one frame of a port does (01, 'Step', 'Beginning', 'Window'), each field with a number of its own. W is 48, three epochs, and the oldest epoch is 57, whose first tag is 16 x 57 - 8, which is 904.
use Rattle.std.specs.declared.option.Option.TheVariants.{None, Some}
use Rattle.std.specs.Prelude.{Bool, true, false, [], ◌∷◌, ℕ}
use Rattle.rows.specs.declared.group.Group.{Group}
use Rattle.rows.specs.declared.step.Step.{Step}
use Rattle.step.specs.Arrival.{readable, taken_of}
use Rattle.step.specs.declared.arrival.Taken.{Taken}
use Rattle.pinned.specs.Opened.{all_open}
use Rattle.tables.specs.Rows.{Pinned, pins, row, same}

abbrev group_with : (window begun gathered : ℕ) → Group
group_with window begun gathered =
    record {
      spare = 61 ∷ 62 ∷ 63 ∷ 64 ∷ [];
      kind = 0;
      count = 3;
      payload = 9;
      window = window;
      begun = begun;
      gathered = gathered;
      oldest = 57;
      origin = 30;
      rs_ack = 1;
    }

abbrev group : ℕ → ℕ → Group
group begun gathered = group_with 48 begun gathered

abbrev step : (had failed count next joined since later breaks odd : ℕ) → Step
step had failed count next joined since later breaks odd =
    record {
      spare = 52 ∷ 53 ∷ 54 ∷ 55 ∷ [];
      heard = had;
      failed = failed;
      count = count;
      next = next;
      joined = joined;
      ever_since = since;
      joined_at = later;
      whole = 9;
      breaks = breaks;
      odd = odd;
      bits = 51;
    }

-- one that is not stored
abbrev dropped : (q : Step) (answer : ℕ) (counted settles : Bool) → Taken
dropped q answer counted settles = record { step = q; answer = answer; counted = counted; kept = None; joins = false; settles = settles }

abbrev stored : (q : Step) (at : ℕ) (joins settles : Bool) → Taken
stored q at joins settles = record { step = q; answer = 0; counted = true; kept = Some at; joins = joins; settles = settles }

-- receiving has begun, and its first epoch is gathered
abbrev begun : Group
begun = group 1 1

fails : Pinned
unfolding all_open
fails =
    pins "'port recorded unreadable, its step lost'; something can follow before the beginning, and of a port that was in step (01, 'Step', 'Beginning', 'Window')"
    (row "a flagged frame of a port in step: 10, its step is lost, and something can follow" (taken_of begun (step 0 0 33 905 6 7 8 3 1) true false 0x09) (dropped (step 1 1 0 0 0 0 0 0 0) 10 false true) same
    ∷ row "of a port that was not in step nothing follows" (taken_of begun (step 0 0 31 905 6 7 8 0 0) true true 0x09) (dropped (step 1 1 0 0 0 0 0 0 0) 10 false false) same
    ∷ row "before the beginning something can follow" (taken_of (group 0 1) (step 0 0 31 905 6 7 8 0 0) true false 0x09) (dropped (step 1 1 0 0 0 0 0 0 0) 10 false true) same
    ∷ [])

counting : Pinned
unfolding all_open
counting =
    pins "12: the run goes on or begins anew, and then the frame's nibble is kept, or it ends; 'losing step undoes' joining (01, 'Step', 'Beginning', 'Window')"
    (row "a sixth right frame counts on" (taken_of begun (step 0 1 5 853 6 7 8 0 0) false false 0x75) (dropped (step 1 0 6 854 0 0 0 0 0) 12 true false) same
    ∷ row "a wrong one ends the count" (taken_of begun (step 0 1 5 853 6 7 8 0 0) false false 0x76) (dropped (step 1 0 0 0 0 0 0 0 0) 12 false false) same
    ∷ row "a wrong one ends the count, and before the beginning something can follow" (taken_of (group 0 1) (step 0 1 5 853 6 7 8 0 0) false false 0x76) (dropped (step 1 0 0 0 0 0 0 0 0) 12 false true) same
    ∷ row "the fourth break loses step, and its frame is the first of a new count" (taken_of begun (step 0 1 33 853 6 7 8 3 0) false false 0x40) (dropped (step 1 0 1 1025 0 0 0 0 0) 12 true true) same
    ∷ row "of a port that has not joined too" (taken_of begun (step 0 1 33 853 0 0 8 3 0) false false 0x40) (dropped (step 1 0 1 1025 0 0 0 0 0) 12 true true) same
    ∷ row "the end of a second odd packet loses step" (taken_of begun (step 0 1 33 919 6 7 8 0 1) false true 0x77) (dropped (step 1 0 0 0 0 0 0 0 0) 12 false true) same
    ∷ [])

dropping : Pinned
unfolding all_open
dropping =
    pins "'A frame in step of a port that has not joined is answered 0 and dropped', also an epoch's first frame behind the window or before it, and every frame before the beginning; the 32nd right frame is in step (01, 'Step', 'Beginning', 'Window')"
    (row "every frame before the beginning is dropped" (taken_of (group 0 1) (step 0 1 33 904 6 7 8 2 1) false false 0x78) (dropped (step 1 0 33 905 6 7 8 0 1) 0 true true) same
    ∷ row "the 32nd right frame is in step" (taken_of (group 0 1) (step 0 1 31 904 6 7 8 0 0) false false 0x78) (dropped (step 1 0 32 905 6 7 8 0 0) 0 true true) same
    ∷ row "no epoch starts with it" (taken_of begun (step 0 1 33 905 0 7 8 2 1) false false 0x79) (dropped (step 1 0 33 906 0 7 8 0 1) 0 true false) same
    ∷ row "an epoch's first frame behind the window" (taken_of begun (step 0 1 33 952 0 7 8 2 1) false false 0x78) (dropped (step 1 0 33 953 0 7 8 0 1) 0 true false) same
    ∷ row "an epoch's first frame before the window" (taken_of begun (step 0 1 33 888 0 7 8 2 1) false false 0x78) (dropped (step 1 0 33 889 0 7 8 0 1) 0 true false) same
    ∷ [])

joins : Pinned
unfolding all_open
joins =
    pins "'A port joins at its first epoch start in the window': epoch 57's, or one or two epochs later, also where the window ends within that epoch (01, 'Step', 'Beginning', 'Window')"
    (row "at epoch 57's start" (taken_of begun (step 0 1 33 904 0 7 8 2 1) false false 0x78) (stored (step 1 0 33 905 1 7 0 0 1) 0 true false) same
    ∷ row "at epoch 58's, one later" (taken_of begun (step 0 1 33 920 0 7 8 2 1) false false 0x78) (stored (step 1 0 33 921 1 7 1 0 1) 16 true false) same
    ∷ row "at epoch 59's, two later, before the first epoch is gathered" (taken_of (group 1 0) (step 0 1 33 936 0 0 8 2 1) false false 0x78) (stored (step 1 0 33 937 1 0 2 0 1) 32 true false) same
    ∷ row "where W is 20 and the window ends within epoch 58" (taken_of (group_with 20 1 1) (step 0 1 33 920 0 7 8 2 1) false false 0x78) (stored (step 1 0 33 921 1 7 1 0 1) 16 true false) same
    ∷ row "where W is 17 and its first frame alone is in the window" (taken_of (group_with 17 1 1) (step 0 1 33 920 0 7 8 2 1) false false 0x78) (stored (step 1 0 33 921 1 7 1 0 1) 16 true false) same
    ∷ row "where W is 16 and it is not" (taken_of (group_with 16 1 1) (step 0 1 33 920 0 7 8 2 1) false false 0x78) (dropped (step 1 0 33 921 0 7 8 0 1) 0 true false) same
    ∷ [])

stores : Pinned
unfolding all_open
stores =
    pins "'in the window when its tag is 0 to W-1 after the first', 11 leaves the state as given; the last frame of the epoch that is gathered is followed by the gathering (01, 'Step', 'Beginning', 'Window')"
    (row "47 after the first is stored" (taken_of begun (step 0 1 33 951 6 7 8 2 1) false false 0x77) (stored (step 1 0 33 952 6 7 8 0 0) 47 false false) same
    ∷ row "48 after it is 11" (taken_of begun (step 0 1 33 952 6 7 8 2 1) false false 0x78) (dropped (step 0 1 33 952 6 7 8 2 1) 11 false false) same
    ∷ row "one before it is 11" (taken_of begun (step 0 1 33 903 6 7 8 2 1) false false 0x77) (dropped (step 0 1 33 903 6 7 8 2 1) 11 false false) same
    ∷ row "the last frame of the epoch that is to be gathered is followed by the gathering" (taken_of (group 1 0) (step 0 1 33 919 6 7 8 2 0) false false 0x77) (stored (step 1 0 33 920 6 7 8 0 0) 15 false true) same
    ∷ row "the frame before that one is not" (taken_of (group 1 0) (step 0 1 33 918 6 7 8 2 0) false false 0x76) (stored (step 1 0 33 919 6 7 8 0 0) 14 false false) same
    ∷ row "the last frame of the epoch behind it is not" (taken_of (group 1 0) (step 0 1 33 935 6 7 8 2 0) false false 0x77) (stored (step 1 0 33 936 6 7 8 0 0) 31 false false) same
    ∷ row "where the epoch is gathered already it is not" (taken_of begun (step 0 1 33 919 6 7 8 2 0) false false 0x77) (stored (step 1 0 33 920 6 7 8 0 0) 15 false false) same
    ∷ [])

readable_ports : Pinned
unfolding all_open
readable_ports =
    pins "'It is readable while in step, if joined or in step ever since the beginning', and not before one (01, 'Step', 'Beginning', 'Window')"
    (row "in step and joined" (readable begun (step 1 0 32 853 1 0 0 0 0)) true same
    ∷ row "in step ever since the beginning" (readable begun (step 1 0 32 853 0 1 0 0 0)) true same
    ∷ row "in step, and neither" (readable begun (step 1 0 32 853 0 0 2 0 0)) false same
    ∷ row "31 frames in a row are no step" (readable begun (step 1 0 31 853 1 1 0 0 0)) false same
    ∷ row "before the beginning none is" (readable (group 0 1) (step 1 0 32 853 1 1 0 0 0)) false same
    ∷ [])
