-- A receiver's start (01, 'Answer numbers': 'At starting, 4 comes before 9').
use Rattle.std.specs.Prelude.{Bool, ◌&&◌, ◌||◌, List, [], ◌∷◌, ℕ, zero, suc, ◌+◌, ◌*◌, get_or, length, replicate, if◌then◌else◌, ◌==◌}
use Rattle.ground.specs.Plain.{◌<?◌, ◌≤?◌}
pub use Rattle.ground.specs.Sizes.{timer_most}
use Rattle.ground.specs.Types.{Rows}
use Rattle.ground.specs.Counting.Words.{every}
use Rattle.packet.specs.Kinds.{idle_number}
use Rattle.phases.specs.Sizes.{start_sized}
use Rattle.rows.specs.declared.group.Group.{Group}
use Rattle.rows.specs.declared.member.Member.{Member}
use Rattle.rows.specs.declared.step.Step.{Step}
use Rattle.rows.specs.Group.{put_group}
use Rattle.rows.specs.Member.{put_member}
use Rattle.rows.specs.Packets.{put_marks, put_packets}
use Rattle.rows.specs.Rows.{rows_for}
use Rattle.rows.specs.Step.{put_step}
use Rattle.reply.specs.Members.{idle_state, no_word}

abbrev pub group_with : (kind count P W : ℕ) → Group
group_with kind count P W =
    record {
      spare = replicate 4 0;
      kind = kind;
      count = count;
      payload = P;
      window = W;
      begun = 0;
      gathered = 0;
      oldest = 0;
      origin = 0;
      rs_ack = 0;
    }

-- '4: .. an empty group'
abbrev pub empty_group : ℕ → Group
empty_group kind = group_with kind 0 0 0

-- no frame yet
abbrev pub fresh_step : Step
fresh_step =
    record {
      spare = replicate 4 0;
      heard = 0;
      failed = 0;
      count = 0;
      next = 0;
      joined = 0;
      ever_since = 0;
      joined_at = 0;
      whole = 0;
      breaks = 0;
      odd = 0;
      bits = 0;
    }

-- the count of port i; an empty list is zero for every port
abbrev pub time_of : List ℕ → ℕ → ℕ
time_of counts i = if get_or counts i 0 <? timer_most then get_or counts i 0 else timer_most

-- no good packet yet, and no timer runs
abbrev pub fresh_member : (kind hold restore : ℕ) → Member
fresh_member kind hold restore =
    record {
      spare = replicate 4 0;
      word = no_word;
      number = idle_number kind;
      state = idle_state;
      state_number = idle_number kind;
      told_word = no_word;
      told_number = idle_number kind;
      hold_off = hold;
      restore = restore;
      elapsed = 0;
    }

abbrev pub zero_row : List ℕ
zero_row = replicate 16 0

unfoldable pub fresh_port : (kind : ℕ) (hold restore : List ℕ) (port : ℕ) (s : Rows) → Rows
fresh_port kind hold restore i s =
    put_marks
    (put_packets (put_member (put_step s i fresh_step) i (fresh_member kind (time_of hold i) (time_of restore i))) i (zero_row ∷ zero_row ∷ [])) i zero_row

unfoldable pub fresh_ports : (kind : ℕ) (hold restore : List ℕ) (ports : ℕ) (s : Rows) → Rows
fresh_ports kind hold restore zero s = s
fresh_ports kind hold restore (suc n) s = fresh_port kind hold restore n (fresh_ports kind hold restore n s)

-- 'a count above 5,000 is number 4' (02, 2026-03), wherever in the list it stands
unfoldable pub times_within : List ℕ → Bool
times_within counts = every (length counts) (λ i. get_or counts i 0 ≤? timer_most)

-- a list has a count for each port, or none at all
abbrev pub list_fits : List ℕ → ℕ → Bool
list_fits counts ports = length counts == 0 || length counts == ports

unfoldable pub start_fits : (count P W store rows : ℕ) → Bool
start_fits count P W store rows = rows == rows_for count && store == count * W * (P + 1)

unfoldable pub sized_fits : (count P W store : ℕ) (hold restore : List ℕ) (rows : ℕ) → Bool
sized_fits count P W store hold restore rows = list_fits hold count && list_fits restore count && start_fits count P W store rows

unfoldable pub sized_answer : (count P W store : ℕ) (hold restore : List ℕ) (rows : ℕ) → ℕ
sized_answer count P W store hold restore rows = if sized_fits count P W store hold restore rows then 0 else 9

unfoldable pub sized_rows : (kind count P W store : ℕ) (hold restore : List ℕ) (s : Rows) → Rows
sized_rows kind count P W store hold restore s =
    if sized_fits count P W store hold restore (length s) then put_group (fresh_ports kind hold restore count s) (group_with kind count P W) else s

unfoldable pub start_right : (kind count P W : ℕ) (hold restore : List ℕ) → Bool
start_right kind count P W hold restore = times_within hold && times_within restore && start_sized kind count P W

-- A start with a hold-off and a wait-to-restore for each port.
unfoldable pub start_as_answer : (kind count P W store : ℕ) (hold restore : List ℕ) (rows : ℕ) → ℕ
start_as_answer kind count P W store hold restore rows =
    if start_right kind count P W hold restore then sized_answer count P W store hold restore rows else 4

unfoldable pub start_as_rows : (kind count P W store : ℕ) (hold restore : List ℕ) (s : Rows) → Rows
start_as_rows kind count P W store hold restore s =
    if start_right kind count P W hold restore then sized_rows kind count P W store hold restore s else put_group s (empty_group kind)

-- A start with none.
abbrev pub start_answer : (kind count P W store rows : ℕ) → ℕ
start_answer kind count P W store rows = start_as_answer kind count P W store [] [] rows

abbrev pub start_rows : (kind count P W store : ℕ) (s : Rows) → Rows
start_rows kind count P W store s = start_as_rows kind count P W store [] [] s
