-- How far a recording has been replayed.
use Rattle.std.specs.Prelude.{ℕ, ◌+◌, ◌*◌, ◌%◌}
use Rattle.packet.specs.Kinds.{frames}
use Rattle.replay_lines.specs.declared.replay.Phase.TheVariants.{Settings}
use Rattle.replay_lines.specs.declared.replay.Replay.{Replay}

-- the first line is to come, and has the number 1
abbrev pub beginning : Replay
beginning = record { phase = Settings; line = 0; left = 0; kind = 0; ports = 0; size = 0; window = 0 }

-- lines are counted in 64 bits
abbrev pub next_line : ℕ → ℕ
next_line n = (n + 1) % 18446744073709551616

-- 'The lent store is exactly ports x W x (P+1) bytes', 'at least ports x 16 x P bytes' of output; of VC-12 (2026-01) ports x 32 x P
abbrev pub store_of : (ports size window : ℕ) → ℕ
store_of ports size window = ports * window * (size + 1)

abbrev pub output_of : (kind ports size : ℕ) → ℕ
output_of kind ports size = ports * frames kind * size

-- 'a store above 65,536 bytes in the program'
abbrev pub STORE : ℕ
STORE = 65536
