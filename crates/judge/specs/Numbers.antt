-- The ports' numbers: whose count, when none repeats, and which is the highest.
use Rattle.std.specs.Prelude.{◌≡◌, Bool, true, List, ℕ, ◌≤◌, ◌<◌}
use Rattle.ground.specs.Counting.Words.{Apart, count}
use Rattle.judge.specs.declared.seen.Seen.{Seen}
use Rattle.judge.specs.Seen.{active_seen, eos_seen, numbered_seen, seen_at}

abbrev pub active_at : (ports : List Seen) (i : ℕ) → Bool
active_at ports i = active_seen (seen_at ports i)

abbrev pub numbered_at : (ports : List Seen) (i : ℕ) → Bool
numbered_at ports i = numbered_seen (seen_at ports i)

abbrev pub eos_at : (ports : List Seen) (i : ℕ) → Bool
eos_at ports i = eos_seen (seen_at ports i)

abbrev pub number_at : (ports : List Seen) (i : ℕ) → ℕ
number_at ports i = (seen_at ports i).number

-- how many ports are active or DNU
abbrev pub numbers_in : (ports : List Seen) (n : ℕ) → ℕ
numbers_in ports n = count n (numbered_at ports)

-- numbers of active and DNU ports do not repeat
abbrev pub AllApart : (ports : List Seen) (n : ℕ) → Type 0
AllApart ports n = Apart n (numbered_at ports) (number_at ports)

-- and those of active ports alone
abbrev pub ActiveApart : (ports : List Seen) (n : ℕ) → Type 0
ActiveApart ports n = Apart n (active_at ports) (number_at ports)

-- no active port has a higher number than port i
abbrev pub Highest : (ports : List Seen) (n i : ℕ) → Type 0
Highest ports n i = (j : ℕ) → j < n → active_at ports j ≡ true → number_at ports j ≤ number_at ports i
