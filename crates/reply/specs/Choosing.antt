-- Candidates choose their numbers (01, 'Member states and reply').
use Rattle.std.specs.Prelude.{Bool, true, false, not, ◌&&◌, List, ℕ, zero, suc, get_or, set, replicate, if◌then◌else◌, ◌==◌}
use Rattle.std.specs.Bool.{beq}
use Rattle.reply.specs.declared.members.Port.{Port}
use Rattle.reply.specs.Members.{is_candidate, is_restoring, port_at, was_ok}

-- The port that has each number, 255 where none has.
abbrev pub FREE : ℕ
FREE = 255

abbrev pub holder_of : List ℕ → ℕ → ℕ
holder_of holders q = get_or holders q FREE

-- no number is any port's
abbrev pub all_free : List ℕ
all_free = replicate 64 FREE

-- a port that asks for a number gets it where it is still free
unfoldable pub grant : (asks : Bool) (number : ℕ) (holders : List ℕ) (port : ℕ) → List ℕ
grant asks q holders i = if asks && holder_of holders q == FREE then set holders q i else holders

-- 'each in port order': those of the first n ports that ask, each for its number
unfoldable pub granted : (asks : ℕ → Bool) (number : ℕ → ℕ) (count : ℕ) (holders : List ℕ) → List ℕ
granted asks number zero holders = holders
granted asks number (suc n) holders = grant (asks n) (number n) (granted asks number n holders) n

-- The candidates that choose: those that were OK under the same number, or the rest. One that waits to restore takes its number from nobody
-- (02, 2026-03).
abbrev pub chooses : Bool → Port → Bool
chooses first p = is_candidate p && not (is_restoring p) && beq (was_ok p) first

unfoldable pub claims : (first : Bool) (ports : List Port) (count : ℕ) (holders : List ℕ) → List ℕ
claims first ports n holders = granted (λ i. chooses first (port_at ports i)) (λ i. (port_at ports i).number) n holders

-- 'Candidates that were OK under the same number choose first, then the rest', among the numbers that no port keeps
unfoldable pub holders : (ports : List Port) (count : ℕ) (kept : List ℕ) → List ℕ
holders ports n kept = claims false ports n (claims true ports n kept)
