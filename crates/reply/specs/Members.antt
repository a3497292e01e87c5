-- A port as its member state is worked out (01, 'Member states and reply').
use Rattle.std.specs.Prelude.{Bool, false, not, ◌&&◌, ◌||◌, List, ℕ, get_or, ◌==◌}
pub use Rattle.ground.specs.Sizes.{size_of}
use Rattle.ground.specs.Plain.{◌<?◌}
use Rattle.packet.specs.Words.{IDLE}
use Rattle.reply.specs.declared.members.Port.{Port}

-- the word of a port with no good packet yet
abbrev pub no_word : ℕ
no_word = 255

-- member states
abbrev pub idle_state : ℕ
idle_state = 0

abbrev pub fail_state : ℕ
fail_state = 1

abbrev pub ok_state : ℕ
ok_state = 2

abbrev pub port_at : List Port → ℕ → Port
port_at ports i =
    get_or ports i
    (record {
      word = 0;
      number = 0;
      state = 0;
      state_number = 0;
      told_word = 0;
      told_number = 0;
      readable = false;
      hold_off = 0;
      restore = 0;
      elapsed = 0;
    })

-- 'A port with no good packet yet, or whose last good word is IDLE, is IDLE.'
abbrev pub is_idle : Port → Bool
is_idle p = p.word == no_word || p.word == IDLE

-- 'Others are candidates when readable with a number below 64.'
abbrev pub is_candidate : Port → Bool
is_candidate p = not (is_idle p) && p.readable && p.number <? 64

-- 'were OK under the same number'
abbrev pub was_ok : Port → Bool
was_ok p = p.state == ok_state && p.state_number == p.number

-- 'A FAIL port goes OK only when its claim has stood for the wait-to-restore' (02, 2026-03): one that still waits
abbrev pub is_restoring : Port → Bool
is_restoring p = p.state == fail_state && p.elapsed <? p.restore

-- 'An OK port that loses its claim goes FAIL only when it has stayed so for the hold-off; one that turns IDLE does so at once' (02, 2026-03): one
-- that has hold-off left
abbrev pub has_hold_off : Port → Bool
has_hold_off p = p.state == ok_state && p.elapsed <? p.hold_off && p.state_number <? 64 && not (is_idle p)
