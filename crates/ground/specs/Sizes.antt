-- Numbers that bound the work (01): how many members a group has, how long a payload and a time may be. The window's bounds go by the kind (packet, Kinds).
use Rattle.std.specs.Prelude.{ℕ, if◌then◌else◌}
use Rattle.ground.specs.Plain.{◌<?◌}

-- 'A group has 1 to 64 slots at the sender and 1 to 64 ports at the receiver.' A count above 64, which no call returns, is taken as 64.
abbrev pub size_of : ℕ → ℕ
size_of count = if count <? 64 then count else 64

-- P goes 'from 1 to 2,340'.
abbrev pub PAYLOAD-MOST : ℕ
PAYLOAD-MOST = 2340

-- 'each 0 to 5,000 epochs' (02, 2026-03): the longest hold-off and wait-to-restore
abbrev pub timer_most : ℕ
timer_most = 5000
