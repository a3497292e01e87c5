-- What the code finds on its way to the verdict: one walk over the ports, then the verdict by it.
use Rattle.std.specs.Prelude.{Bool, not, ◌&&◌, ◌||◌, List, ℕ, ◌+◌, if◌then◌else◌, ◌==◌}
use Rattle.std.specs.Bool.{beq}
use Rattle.ground.specs.Plain.{◌<?◌}
use Rattle.ground.specs.Counting.Words.{some, every, count, greatest}
use Rattle.judge.specs.declared.seen.Seen.{Seen}
use Rattle.judge.specs.declared.verdict.Tally.{Tally}
use Rattle.judge.specs.Seen.{active_seen, eos_seen, lacking_seen, numbered_seen, refused_seen, seen_at, unidle_seen}
use Rattle.judge.specs.Verdict.{takes}

abbrev pub tally_of : List Seen → ℕ → Tally
tally_of ports n =
    record {
      refused = some n (λ i. refused_seen (seen_at ports i));
      lacking = some n (λ i. lacking_seen (seen_at ports i));
      zero = some n (λ i. unidle_seen (seen_at ports i) && (seen_at ports i).gid == 0);
      other = some n (λ i. unidle_seen (seen_at ports i) && not ((seen_at ports i).gid == 0));
      active = some n (λ i. active_seen (seen_at ports i));
      eos = some n (λ i. eos_seen (seen_at ports i));
      missing = some n (λ i. not (seen_at ports i).whole);
      highest = greatest n (λ i. active_seen (seen_at ports i)) (λ i. (seen_at ports i).number);
      numbered = count n (λ i. numbered_seen (seen_at ports i));
    }

-- one port more
abbrev pub tally_with : Tally → Seen → Tally
tally_with t p =
    record {
      refused = t.refused || refused_seen p;
      lacking = t.lacking || lacking_seen p;
      zero = t.zero || (unidle_seen p && p.gid == 0);
      other = t.other || (unidle_seen p && not (p.gid == 0));
      active = t.active || active_seen p;
      eos = t.eos || eos_seen p;
      missing = t.missing || not p.whole;
      highest = if active_seen p && t.highest <? p.number then p.number else t.highest;
      numbered = t.numbered + (if numbered_seen p then 1 else 0);
    }

unfoldable pub eos_alone_by : (ports : List Seen) (count top : ℕ) → Bool
eos_alone_by ports n top = every n (λ i. beq (eos_seen (seen_at ports i)) (active_seen (seen_at ports i) && (seen_at ports i).number == top))

unfoldable pub exact_to : (ports : List Seen) (count limit : ℕ) → Bool
exact_to ports n limit = every limit (λ q. takes ports n q)

-- the first of the clauses that hold an epoch of any group, 0 where none does
abbrev pub common_cause : (t : Tally) (repeated : Bool) → ℕ
common_cause t repeated =
    if t.refused then 1
    else if t.lacking then 2
    else if repeated then 3
    else 0

-- the first clause that holds the epoch, 0 where none does
abbrev pub held_cause : (t : Tally) (repeated alone : Bool) → ℕ
held_cause t repeated alone =
    if t.refused then 1
    else if t.lacking then 2
    else if repeated then 3
    else if t.zero && t.other then 4
    else if t.active && not alone && not (not t.eos && t.missing) then 5
    else 0

-- the first that leaves it doubtful
abbrev pub doubt_cause : (unseen exact : Bool) → ℕ
doubt_cause unseen exact = if unseen then 6 else if exact then 0 else 7

-- of a fixed group
abbrev pub fixed_cause_with : (t : Tally) (repeated exact : Bool) → ℕ
fixed_cause_with t repeated exact =
    if t.missing then 6
    else if t.refused then 1
    else if t.lacking then 2
    else if repeated then 3
    else if exact then 0
    else 7
