-- Why an epoch is held or doubtful: the number of the clause that decides, and the port to which it applies (01, 'Report of an epoch').
use Rattle.std.specs.Prelude.{◌≡◌, Bool, true, false, not, ◌&&◌, ◌||◌, List, [], ◌∷◌, ℕ, ◌<◌, get_or, if◌then◌else◌, ◌==◌}
use Rattle.std.specs.Bool.{beq}
use Rattle.ground.specs.Plain.{◌<?◌}
use Rattle.ground.specs.Counting.Words.{some}
use Rattle.packet.specs.Kinds.{fixed_kind}
use Rattle.judge.specs.declared.seen.Seen.{Seen}
use Rattle.judge.specs.Lowest.{lowest}
use Rattle.judge.specs.Seen.{active_seen, eos_seen, lacking_seen, numbered_seen, refused_seen, seen_at, unidle_seen}
use Rattle.judge.specs.Verdict.{DOUBTFUL, HELD, SURE, eos_wrong, exact, fixed_exact, gid_differs, highest, missing, repeats, takes}

-- the first of 01's clauses that holds, in its order; 0 where none does
unfoldable pub lcas_cause : (ports : List Seen) (count : ℕ) → ℕ
lcas_cause ports n =
    if some n (λ i. refused_seen (seen_at ports i)) then 1
    else if some n (λ i. lacking_seen (seen_at ports i)) then 2
    else if repeats ports n then 3
    else if gid_differs ports n then 4
    else if eos_wrong ports n then 5
    else if missing ports n then 6
    else if not (exact ports n) then 7
    else 0

-- a fixed group's own clauses (request 2026-12), in its order, under the same numbers
unfoldable pub fixed_cause : (ports : List Seen) (count : ℕ) → ℕ
fixed_cause ports n =
    if missing ports n then 6
    else if some n (λ i. refused_seen (seen_at ports i)) then 1
    else if some n (λ i. lacking_seen (seen_at ports i)) then 2
    else if repeats ports n then 3
    else if not (fixed_exact ports n) then 7
    else 0

-- by the kind of packet
unfoldable pub cause_of : (kind : ℕ) (ports : List Seen) (count : ℕ) → ℕ
cause_of kind ports n = if kind == fixed_kind then fixed_cause ports n else lcas_cause ports n

-- The mark by its cause. By 01 the clauses 1 to 5 hold and the other two leave it doubtful; each of a fixed group's holds.
unfoldable pub mark_of : (kind cause : ℕ) → ℕ
mark_of kind c = if c == 0 then SURE else if kind == fixed_kind || c <? 6 then HELD else DOUBTFUL

-- The same clauses by number, and the order in which the documents have them.

unfoldable pub clause_of : (kind : ℕ) (ports : List Seen) (count cause : ℕ) → Bool
clause_of kind ports n c =
    if c == 1 then some n (λ i. refused_seen (seen_at ports i))
    else if c == 2 then some n (λ i. lacking_seen (seen_at ports i))
    else if c == 3 then repeats ports n
    else if c == 4 then gid_differs ports n
    else if c == 5 then eos_wrong ports n
    else if c == 6 then missing ports n
    else if c == 7 then not (if kind == fixed_kind then fixed_exact ports n else exact ports n)
    else false

unfoldable pub causes_of : (kind : ℕ) → List ℕ
causes_of kind =
    if kind == fixed_kind then 6 ∷ 1 ∷ 2 ∷ 3 ∷ 7 ∷ []
    else 1 ∷ 2 ∷ 3 ∷ 4 ∷ 5 ∷ 6 ∷ 7 ∷ []

-- the clause at place p of that order
abbrev pub clause_at : (kind : ℕ) (ports : List Seen) (count p : ℕ) → Bool
clause_at kind ports n p = clause_of kind ports n (get_or (causes_of kind) p 0)

-- The port.

-- GID of port i, which is not IDLE, is not that of a lower one
unfoldable pub gid_unlike : (ports : List Seen) (k gid : ℕ) → Bool
gid_unlike ports k gid = some k (λ j. unidle_seen (seen_at ports j) && not (beq ((seen_at ports j).gid == 0) (gid == 0)))

-- Clause c applies to port i: it was refused, it lacks a frame, its number is a lower port's too, its GID is not a lower port's, it has EOS and is not the
-- highest or is that and has none, it has no whole ruling packet. That the numbers are not 0 to n-1 is no one port's.
unfoldable pub applies : (ports : List Seen) (top cause port : ℕ) → Bool
applies ports top c i =
    let p = seen_at ports i in
    if c == 1 then refused_seen p
    else if c == 2 then lacking_seen p
    else if c == 3 then numbered_seen p && takes ports i p.number
    else if c == 4 then unidle_seen p && gid_unlike ports i p.gid
    else if c == 5 then not (beq (eos_seen p) (active_seen p && p.number == top))
    else if c == 6 then not p.whole
    else false

-- the lowest port to which clause c applies; 255: none
unfoldable pub blamed_by : (ports : List Seen) (count cause : ℕ) → ℕ
blamed_by ports n c =
    if some n (applies ports (highest ports n) c) then lowest n (applies ports (highest ports n) c) else 255

-- to which the clause applies that decides
unfoldable pub blamed_of : (kind : ℕ) (ports : List Seen) (count : ℕ) → ℕ
blamed_of kind ports n = blamed_by ports n (cause_of kind ports n)

-- clause c applies to the port, and to none that is lower
pub record Blamed (ports : List Seen) (n c port : ℕ) : Type 0 where
  pub below : port < n
  pub applied : applies ports (highest ports n) c port ≡ true
  pub lowest_of_lem : (j : ℕ) → j < port → applies ports (highest ports n) c j ≡ false
