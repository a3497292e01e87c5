-- How many slots and members there are.
use Rattle.std.specs.Prelude.{◌≡◌, ℕ, ◌≤◌, ◌<◌}
use Rattle.std.proofs.Common.{lt-ltb, le-ltb}
use Rattle.ground.specs.Truth.{smaller_le}
use Rattle.sender.specs.Table.{slot_count}

pub size_le : (c : ℕ) → slot_count c ≤ 64
unfolding slot_count
size_le c = smaller_le c 64

pub size_small : (c : ℕ) → c < 64 → slot_count c ≡ c
unfolding slot_count
size_small c h = rw (lt-ltb c 64 h)

pub size_large : (c : ℕ) → 64 ≤ c → slot_count c ≡ 64
unfolding slot_count
size_large c h = rw (le-ltb c 64 h)
