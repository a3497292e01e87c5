-- Held epochs: a refused packet, a lacking frame or numbers that repeat hold the epoch; and of one that is not held none of these can be said.
use Rattle.std.specs.Prelude.{◌≡◌, refl, ◌≢◌, Bool, true, false, not, ◌&&◌, ◌||◌, List, ℕ, ◌<◌, eqb}
use Rattle.std.proofs.Common.{true≢false}
use Rattle.std.proofs.lemmas.Bool.{not-false}
use Rattle.ground.specs.Counting.Words.{some}
use Rattle.ground.specs.Counting.Laws.Tests.{none_at, some_at}
use Rattle.ground.specs.Truth.{and-true, or_left, or_right, cond_by, fails, same_test}
use Rattle.judge.specs.declared.seen.Seen.{Seen}
use Rattle.judge.specs.Laws.Numbers.{repeats_apart}
use Rattle.judge.specs.Laws.Ports.{lacks_here}
use Rattle.judge.specs.Marked.{NotHeld}
use Rattle.judge.specs.Seen.{lacking_seen, refused_seen, seen_at, unidle_seen}
use Rattle.packet.specs.Kinds.{fixed_kind}
use Rattle.judge.specs.Verdict.{HELD, eos_wrong, fixed_held, fixed_verdict, gid_differs, held_by, judge_of, lcas_verdict, missing, repeats}

abbrev some_refused : List Seen → ℕ → Bool
some_refused ports n = some n (λ i. refused_seen (seen_at ports i))

abbrev some_lacking : List Seen → ℕ → Bool
some_lacking ports n = some n (λ i. lacking_seen (seen_at ports i))

held : (ports : List Seen) (n : ℕ) → held_by ports n ≡ true → lcas_verdict ports n ≡ HELD
unfolding lcas_verdict
held ports n e = rw e

-- where one of three tests holds a fixed group is held too
fixed_held_lem : (ports : List Seen) (n : ℕ) → (missing ports n || some_refused ports n || some_lacking ports n) ≡ true → fixed_verdict ports n ≡ HELD
unfolding fixed_verdict fixed_held
fixed_held_lem ports n e = rw e

by_kind : (kind : ℕ) (ports : List Seen) (n : ℕ) → fixed_verdict ports n ≡ HELD → lcas_verdict ports n ≡ HELD → judge_of kind ports n ≡ HELD
unfolding judge_of
by_kind kind ports n f l = cond_by (λ (m : ℕ). m ≡ HELD) (eqb kind fixed_kind) (fixed_verdict ports n) (lcas_verdict ports n) (λ e. f) (λ e. l)

-- 'a ruling packet that arrived whole was refused with 5, 6 or 7'
pub refused : (kind : ℕ) (ports : List Seen) (n i : ℕ) → i < n → refused_seen (seen_at ports i) ≡ true → judge_of kind ports n ≡ HELD
unfolding held_by
refused kind ports n i b t =
    let some_is : some_refused ports n ≡ true = some_at n (λ j. refused_seen (seen_at ports j)) i b t in
    by_kind kind ports n
    (fixed_held_lem ports n (or_left (missing ports n || some_refused ports n) (some_lacking ports n) (or_right (missing ports n) (some_refused ports n) some_is)))
    (held ports n (rw some_is))

-- 'a port ruled active lacks a frame'
pub lacking : (kind : ℕ) (ports : List Seen) (n i : ℕ) → i < n → lacking_seen (seen_at ports i) ≡ true → judge_of kind ports n ≡ HELD
unfolding held_by
lacking kind ports n i b t =
    let some_is : some_lacking ports n ≡ true = some_at n (λ j. lacking_seen (seen_at ports j)) i b t in
    let l : (some_refused ports n || some_lacking ports n) ≡ true = or_right (some_refused ports n) (some_lacking ports n) some_is in
    by_kind kind ports n (fixed_held_lem ports n (or_right (missing ports n || some_refused ports n) (some_lacking ports n) some_is)) (held ports n (rw l))

-- none of the five
pub none : (a b c d e : Bool) → (a || b || c || d || e) ≡ false → (a ≡ false) × (b ≡ false) × (c ≡ false) × (d ≡ false) × (e ≡ false)
none true b c d e h = absurd (true≢false h)
none false true c d e h = absurd (true≢false h)
none false false true d e h = absurd (true≢false h)
none false false false true e h = absurd (true≢false h)
none false false false false e h = (refl, refl, refl, refl, h)

gids_alike : (ports : List Seen) (n : ℕ) → gid_differs ports n ≡ false → (i j : ℕ) → i < n → j < n
    → unidle_seen (seen_at ports i) ≡ true → unidle_seen (seen_at ports j) ≡ true → eqb (seen_at ports i).gid 0 ≡ true → eqb (seen_at ports j).gid 0 ≡ true
unfolding gid_differs
gids_alike ports n e i j bi bj ui uj z =
    let one : some n (λ k. unidle_seen (seen_at ports k) && eqb (seen_at ports k).gid 0) ≡ true =
    some_at n (λ k. unidle_seen (seen_at ports k) && eqb (seen_at ports k).gid 0) i bi (and-true (unidle_seen (seen_at ports i)) _ ui z) in
    let rest : some n (λ k. unidle_seen (seen_at ports k) && not (eqb (seen_at ports k).gid 0)) ≡ false = rw one at e in
    let at_j : (unidle_seen (seen_at ports j) && not (eqb (seen_at ports j).gid 0)) ≡ false =
    none_at n (λ k. unidle_seen (seen_at ports k) && not (eqb (seen_at ports k).gid 0)) rest j bj in
    not-false (eqb (seen_at ports j).gid 0) (rw uj at at_j)

unheld_is : (ports : List Seen) (n : ℕ) → held_by ports n ≡ false → NotHeld ports n
unfolding held_by
unheld_is ports n e =
    let h = none (some_refused ports n) (some_lacking ports n) (repeats ports n) (gid_differs ports n) (eos_wrong ports n) e in
    record {
      accepted = λ i b. none_at n (λ k. refused_seen (seen_at ports k)) h.0 i b;
      here = λ i b. lacks_here (seen_at ports i) (none_at n (λ k. lacking_seen (seen_at ports k)) h.1 i b);
      apart = repeats_apart ports n h.2;
      gid = λ i j bi bj ui uj. same_test _ _ (gids_alike ports n h.3 i j bi bj ui uj) (gids_alike ports n h.3 j i bj bi uj ui);
      eos = h.4;
    }

pub unheld : (ports : List Seen) (n : ℕ) → lcas_verdict ports n ≢ HELD → held_by ports n ≡ false
unheld ports n d = fails (held_by ports n) (λ (e : held_by ports n ≡ true). d (held ports n e))

pub not_held : (ports : List Seen) (n : ℕ) → lcas_verdict ports n ≢ HELD → NotHeld ports n
not_held ports n d = unheld_is ports n (unheld ports n d)
