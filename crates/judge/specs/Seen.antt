-- What is seen of a port (01, 'Report of an epoch'): all is judged on whole ruling packets.
use Rattle.std.specs.Prelude.{Bool, false, not, ◌&&◌, ◌||◌, List, ℕ, get_or, ◌==◌}
use Rattle.packet.specs.Words.{NORM, EOS, IDLE, DNU, FIXED}
use Rattle.judge.specs.declared.seen.Seen.{Seen}
pub use Rattle.ground.specs.Sizes.{size_of}

abbrev pub seen_at : List Seen → ℕ → Seen
seen_at ports i = get_or ports i (record { whole = false; good = false; word = 0; number = 0; gid = 0; here = false })

-- 'a ruling packet that arrived whole was refused with 5, 6 or 7'
abbrev pub refused_seen : Seen → Bool
refused_seen p = p.whole && not p.good

-- Of good packets: active members send NORM or EOS. 'A FIXED port counts as active' (request 2026-12); where packets are read by 01 none with that word is good.

abbrev pub active_seen : Seen → Bool
active_seen p = p.whole && p.good && (p.word == NORM || p.word == EOS || p.word == FIXED)

abbrev pub numbered_seen : Seen → Bool
numbered_seen p = p.whole && p.good && (p.word == NORM || p.word == EOS || p.word == FIXED || p.word == DNU)

abbrev pub eos_seen : Seen → Bool
eos_seen p = p.whole && p.good && p.word == EOS

abbrev pub unidle_seen : Seen → Bool
unidle_seen p = p.whole && p.good && not (p.word == IDLE)

-- 'a port ruled active lacks a frame'
abbrev pub lacking_seen : Seen → Bool
lacking_seen p = active_seen p && not p.here
