-- What a mark says of the ports: of an epoch that is not held, of one that is sure, and of one that is sure in a fixed group.
use Rattle.std.specs.Prelude.{◌≡◌, true, false, List, ℕ, ◌<◌, ◌==◌}
use Rattle.packet.specs.Words.{FIXED}
use Rattle.judge.specs.declared.seen.Seen.{Seen}
use Rattle.judge.specs.Numbers.{AllApart, Highest, active_at, eos_at, number_at, numbered_at, numbers_in}
use Rattle.judge.specs.Seen.{active_seen, refused_seen, seen_at, unidle_seen}
use Rattle.judge.specs.Verdict.{eos_wrong}

pub record NotHeld (ports : List Seen) (n : ℕ) : Type 0 where
  pub accepted : (i : ℕ) → i < n → refused_seen (seen_at ports i) ≡ false
  pub here : (i : ℕ) → i < n → active_seen (seen_at ports i) ≡ true → (seen_at ports i).here ≡ true
  pub apart : AllApart ports n
  -- both 0 or neither
  pub gid : (i j : ℕ) → i < n → j < n → unidle_seen (seen_at ports i) ≡ true → unidle_seen (seen_at ports j) ≡ true → ((seen_at ports i).gid == 0) ≡ ((seen_at ports j).gid == 0)
  pub eos : eos_wrong ports n ≡ false

pub record Tidy (ports : List Seen) (n : ℕ) : Type 0 where
  pub whole : (i : ℕ) → i < n → (seen_at ports i).whole ≡ true
  pub good : (i : ℕ) → i < n → (seen_at ports i).good ≡ true
  pub here : (i : ℕ) → i < n → active_at ports i ≡ true → (seen_at ports i).here ≡ true
  pub gid : (i j : ℕ) → i < n → j < n → unidle_seen (seen_at ports i) ≡ true → unidle_seen (seen_at ports j) ≡ true → (seen_at ports i).gid ≡ (seen_at ports j).gid
  -- active and DNU ports have the numbers from 0 to one below their count, each once
  pub apart : AllApart ports n
  pub dense : (i : ℕ) → i < n → numbered_at ports i ≡ true → number_at ports i < numbers_in ports n
  -- EOS is on the highest active port, and on no other
  pub last : (i : ℕ) → i < n → active_at ports i ≡ true → Highest ports n i → eos_at ports i ≡ true
  pub alone : (i : ℕ) → i < n → eos_at ports i ≡ true → Highest ports n i

-- Fixed groups (request 2026-12).

-- 'a word other than FIXED is 6': no other is good
abbrev pub AllFixed : (ports : List Seen) (n : ℕ) → Type 0
AllFixed ports n = (i : ℕ) → i < n → (seen_at ports i).good ≡ true → (seen_at ports i).word ≡ FIXED

pub record Standing (ports : List Seen) (n : ℕ) : Type 0 where
  pub whole : (i : ℕ) → i < n → (seen_at ports i).whole ≡ true
  pub good : (i : ℕ) → i < n → (seen_at ports i).good ≡ true
  pub here : (i : ℕ) → i < n → (seen_at ports i).here ≡ true
  -- the numbers are 0 to n-1, each once
  pub once : (i j : ℕ) → i < n → j < n → number_at ports i ≡ number_at ports j → i ≡ j
  pub low : (i : ℕ) → i < n → number_at ports i < n
