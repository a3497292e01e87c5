-- An epoch passed (01, 'Report of an epoch', 'Member states and reply'): what is kept of a port and of the group, each field with a number of its own.
use Rattle.std.specs.Prelude.{Bool, true, false, [], ◌∷◌, ℕ}
use Rattle.packet.specs.declared.ruling.Ruling.{Ruling}
use Rattle.phases.specs.Passing.{noted_by, passed_group, passed_step}
use Rattle.rows.specs.declared.group.Group.{Group}
use Rattle.rows.specs.declared.member.Member.{Member}
use Rattle.rows.specs.declared.step.Step.{Step}
use Rattle.pinned.specs.Opened.{all_open}
use Rattle.tables.specs.Rows.{Pinned, pins, row, same}

abbrev member : ℕ → ℕ → Member
member word number =
    record {
      spare = 41 ∷ 42 ∷ 43 ∷ 44 ∷ [];
      word = word;
      number = number;
      state = 1;
      state_number = 12;
      told_word = 15;
      told_number = 13;
      hold_off = 21;
      restore = 22;
      elapsed = 23;
    }

abbrev ruling : Bool → Ruling
ruling good = record { good = good; word = 3; number = 7; gid = 1 }

noted : Pinned
unfolding all_open
noted =
    pins "A whole good packet's word and number are noted; of one that was refused, or that is not whole, nothing is (01, 'Report of an epoch', 'Member states and reply')"
    (row "a whole good packet" (noted_by (member 2 11) true (ruling true)) (member 3 7) same
    ∷ row "a refused one" (noted_by (member 2 11) true (ruling false)) (member 2 11) same
    ∷ row "one that is not whole" (noted_by (member 2 11) false (ruling true)) (member 2 11) same
    ∷ [])

abbrev step : ℕ → ℕ → Step
step later whole =
    record {
      spare = 52 ∷ 53 ∷ 54 ∷ 55 ∷ [];
      heard = 31;
      failed = 32;
      count = 33;
      next = 34;
      joined = 35;
      ever_since = 36;
      joined_at = later;
      whole = whole;
      breaks = 38;
      odd = 39;
      bits = 51;
    }

passed : Pinned
unfolding all_open
passed =
    pins "With an epoch passed, one that was joined at comes nearer by one, and not below none (01, 'Window', 'Report of an epoch')"
    (row "an epoch joined at, five later" (passed_step (step 5 37) true) (step 4 1) same
    ∷ row "an epoch joined at, five later, and none later" (passed_step (step 0 37) false) (step 0 0) same
    ∷ [])

abbrev group : (gathered oldest origin : ℕ) → Group
group gathered oldest origin =
    record {
      spare = 61 ∷ 62 ∷ 63 ∷ 64 ∷ [];
      kind = 0;
      count = 3;
      payload = 9;
      window = 40;
      begun = 71;
      gathered = gathered;
      oldest = oldest;
      origin = origin;
      rs_ack = 73;
    }

goes_on_lem : Pinned
unfolding all_open
goes_on_lem =
    pins "With an epoch passed, one has been gathered, epoch 255 is followed by epoch 0, and the place of the window's first frame goes on by sixteen, round W of 40 (01, 'Window', 'Report of an epoch')"
    (row "epoch 255, place 30" (passed_group (group 0 255 30)) (group 1 0 6) same
    ∷ row "epoch 7, place 0" (passed_group (group 1 7 0)) (group 1 8 16) same
    ∷ [])
