-- Held, doubtful, sure (01, 'Report of an epoch').
use Rattle.std.specs.Prelude.{Bool, not, ◌&&◌, ◌||◌, List, ℕ, if◌then◌else◌, ◌==◌}
use Rattle.std.specs.Bool.{beq}
use Rattle.ground.specs.Counting.Words.{some, every, count, greatest}
use Rattle.packet.specs.Kinds.{fixed_kind}
use Rattle.judge.specs.declared.seen.Seen.{Seen}
use Rattle.judge.specs.Seen.{active_seen, eos_seen, lacking_seen, numbered_seen, refused_seen, seen_at, unidle_seen}

-- one of the first k active and DNU ports has the number q
unfoldable pub takes : (ports : List Seen) (k number : ℕ) → Bool
takes ports k q = some k (λ j. numbered_seen (seen_at ports j) && (seen_at ports j).number == q)

-- 'numbers of active and DNU ports repeat'
unfoldable pub repeats : List Seen → ℕ → Bool
repeats ports n = some n (λ i. numbered_seen (seen_at ports i) && takes ports i (seen_at ports i).number)

-- 'GID differs among ports that are not IDLE': one has 0, another has not
unfoldable pub gid_differs : List Seen → ℕ → Bool
gid_differs ports n =
    some n (λ i. unidle_seen (seen_at ports i) && (seen_at ports i).gid == 0)
    && some n (λ i. unidle_seen (seen_at ports i) && not ((seen_at ports i).gid == 0))

unfoldable pub highest : List Seen → ℕ → ℕ
highest ports n = greatest n (λ i. active_seen (seen_at ports i)) (λ i. (seen_at ports i).number)

-- EOS is on the highest active port alone
unfoldable pub eos_alone : List Seen → ℕ → Bool
eos_alone ports n =
    every n (λ i. beq (eos_seen (seen_at ports i)) (active_seen (seen_at ports i) && (seen_at ports i).number == highest ports n))

-- 'some port has no whole ruling packet'
unfoldable pub missing : List Seen → ℕ → Bool
missing ports n = some n (λ i. not (seen_at ports i).whole)

-- 'with some active seen, EOS is not on the highest of them alone, unless there is none and some port has no whole ruling packet'
unfoldable pub eos_wrong : List Seen → ℕ → Bool
eos_wrong ports n =
    some n (λ i. active_seen (seen_at ports i))
    && not (eos_alone ports n)
    && not (not (some n (λ i. eos_seen (seen_at ports i))) && missing ports n)

unfoldable pub held_by : List Seen → ℕ → Bool
held_by ports n =
    some n (λ i. refused_seen (seen_at ports i))
    || some n (λ i. lacking_seen (seen_at ports i))
    || repeats ports n
    || gid_differs ports n
    || eos_wrong ports n

-- 'the numbers are .. exactly 0 to n-1': each of these is one of the n
unfoldable pub exact : List Seen → ℕ → Bool
exact ports n = every (count n (λ i. numbered_seen (seen_at ports i))) (λ q. takes ports n q)

unfoldable pub doubtful_by : List Seen → ℕ → Bool
doubtful_by ports n = missing ports n || not (exact ports n)

-- The marks of a report. 0 says that none is due.
abbrev pub HELD : ℕ
HELD = 1

abbrev pub DOUBTFUL : ℕ
DOUBTFUL = 2

abbrev pub SURE : ℕ
SURE = 3

-- by 01
unfoldable pub lcas_verdict : List Seen → ℕ → ℕ
lcas_verdict ports n = if held_by ports n then HELD else if doubtful_by ports n then DOUBTFUL else SURE

-- A fixed group (request 2026-12). X is how many ports were set at the start: 'A set number of ports never changes while running'.

-- 'The ports' numbers must be exactly 0 to X-1': each of these is one of theirs
unfoldable pub fixed_exact : List Seen → ℕ → Bool
fixed_exact ports n = every n (λ q. takes ports n q)

-- 'or the epoch is held': each of them once. So is one in which some port has no whole ruling packet, or a refused one, or lacks a frame.
unfoldable pub fixed_held : List Seen → ℕ → Bool
fixed_held ports n =
    missing ports n
    || some n (λ i. refused_seen (seen_at ports i))
    || some n (λ i. lacking_seen (seen_at ports i))
    || repeats ports n
    || not (fixed_exact ports n)

unfoldable pub fixed_verdict : List Seen → ℕ → ℕ
fixed_verdict ports n = if fixed_held ports n then HELD else SURE

-- by the kind of packet
unfoldable pub judge_of : (kind : ℕ) (ports : List Seen) (count : ℕ) → ℕ
judge_of kind ports n = if kind == fixed_kind then fixed_verdict ports n else lcas_verdict ports n
