-- What a report sees of each port.
use Rattle.std.specs.Prelude.{◌≡◌, List, ℕ, ◌≤◌, ◌<◌, replicate}
use Rattle.std.proofs.Common.{ap, ◌∙◌, arith}
use Rattle.std.proofs.lemmas.List.{length-replicate}
use Rattle.ground.specs.Counting.Each.{each, get_or_each}
use Rattle.judge.specs.declared.seen.Seen.{Seen}
use Rattle.judge.specs.Seen.{seen_at}
use Rattle.receiver.specs.Laws.Sizes.{size_is}
use Rattle.receiver.specs.Report.{no_seen, seen_all, seen_of}
use Rattle.rows.specs.declared.group.Group.{Group}

-- of a list of what is seen
pub seen_each : (n : ℕ) (f : ℕ → Seen) (i : ℕ) → n ≤ 64 → i < n → seen_at (each n f (replicate 64 no_seen)) i ≡ f i
seen_each n f i h b = get_or_each n f (replicate 64 no_seen) i no_seen b (rw (length-replicate {A = Seen} 64 no_seen) (omega arith))

pub seen_at_lem : (g : Group) (s : List (List ℕ)) (n i : ℕ) → n ≤ 64 → i < n → seen_at (seen_all g s n) i ≡ seen_of g s i
unfolding seen_all
seen_at_lem g s n i h b = ap (λ (k : ℕ). seen_at (each k (seen_of g s) (replicate 64 no_seen)) i) (size_is n h) ∙ seen_each n (seen_of g s) i h b
