-- What a report sees of each port, and that the order of its payload is read from the packets that rule and from nothing else.
use Rattle.std.specs.Prelude.{◌≡◌, Bool, ◌&&◌, ◌||◌, List, ℕ, ◌≤◌, ◌<◌, eqb}
use Rattle.std.proofs.Math.Path.{refl}
use Rattle.std.proofs.Common.{sym, ◌∙◌}
use Rattle.std.proofs.Math.Dec.{ltb}
use Rattle.ground.specs.Counting.Laws.Numbers.{count_ext}
use Rattle.ground.specs.Counting.Laws.Tests.{last_that_ext}
use Rattle.ground.specs.Table.{tabulate_ext}
use Rattle.judge.specs.declared.seen.Seen.{Seen}
use Rattle.judge.specs.Order.{active_in, has_rank, order_of, port_of, rank_of}
use Rattle.judge.specs.Seen.{active_seen, seen_at}
use Rattle.packet.specs.Words.{EOS, FIXED, NORM}
use Rattle.receiver.specs.Laws.Seen.{seen_at_lem}
use Rattle.receiver.specs.Report.{seen_all, seen_of}
use Rattle.rows.specs.declared.group.Group.{Group}
use Rattle.rows.specs.Laws.Port.{port_step}
use Rattle.rows.specs.Port.{Port, port_at}
use Rattle.step.specs.Arrival.{flag_of}
use Rattle.invariant.specs.Reports.{SameRule, ruled_by}

pub seen_whole : (g : Group) (s : List (List ℕ)) (i : ℕ) → (seen_of g s i).whole ≡ flag_of (port_at s i).step.whole
unfolding seen_of
seen_whole g s i = rw (port_step s i) refl

pub seen_good : (g : Group) (s : List (List ℕ)) (i : ℕ) → (seen_of g s i).good ≡ (ruled_by g (port_at s i)).good
unfolding seen_of port_at
seen_good g s i = refl

seen_word : (g : Group) (s : List (List ℕ)) (i : ℕ) → (seen_of g s i).word ≡ (ruled_by g (port_at s i)).word
unfolding seen_of port_at
seen_word g s i = refl

seen_number : (g : Group) (s : List (List ℕ)) (i : ℕ) → (seen_of g s i).number ≡ (ruled_by g (port_at s i)).number
unfolding seen_of port_at
seen_number g s i = refl

-- what the order looks at
abbrev active_of : Group → Port → Bool
active_of g p = flag_of p.step.whole && (ruled_by g p).good && (eqb (ruled_by g p).word NORM || eqb (ruled_by g p).word EOS || eqb (ruled_by g p).word FIXED)

active_is : (g : Group) (s : List (List ℕ)) (n i : ℕ) → n ≤ 64 → i < n → active_seen (seen_at (seen_all g s n) i) ≡ active_of g (port_at s i)
active_is g s n i h b = rw (seen_at_lem g s n i h b, seen_whole g s i, seen_good g s i, seen_word g s i) refl

number_is : (g : Group) (s : List (List ℕ)) (n i : ℕ) → n ≤ 64 → i < n → (seen_at (seen_all g s n) i).number ≡ (ruled_by g (port_at s i)).number
number_is g s n i h b = rw (seen_at_lem g s n i h b, seen_number g s i) refl

module _ (g : Group) (s t : List (List ℕ)) (n : ℕ) (h : n ≤ 64) (same : SameRule n s t) where
  abbrev S : List Seen
  S = seen_all g s n

  abbrev T : List Seen
  T = seen_all g t n

  active_same : (i : ℕ) → i < n → active_seen (seen_at S i) ≡ active_seen (seen_at T i)
  active_same i b = active_is g s n i h b ∙ rw (same.whole i b, same.ruling i b) refl ∙ sym (active_is g t n i h b)

  number_same : (i : ℕ) → i < n → (seen_at S i).number ≡ (seen_at T i).number
  number_same i b = number_is g s n i h b ∙ rw (same.ruling i b) refl ∙ sym (number_is g t n i h b)

  members_same : active_in S n ≡ active_in T n
  unfolding active_in
  members_same = count_ext n (λ i. active_seen (seen_at S i)) (λ i. active_seen (seen_at T i)) active_same

  rank_same : (q : ℕ) → rank_of S n q ≡ rank_of T n q
  unfolding rank_of
  rank_same q =
      count_ext n (λ j. active_seen (seen_at S j) && ltb (seen_at S j).number q) (λ j. active_seen (seen_at T j) && ltb (seen_at T j).number q)
      (λ j b. rw (active_same j b, number_same j b) refl)

  port_same : (r : ℕ) → port_of S n r ≡ port_of T n r
  unfolding port_of
  port_same r = last_that_ext n (has_rank S n r) (has_rank T n r) (λ j b. rw (active_same j b, number_same j b, rank_same (seen_at T j).number) refl)

  pub order_same : order_of S n ≡ order_of T n
  unfolding order_of
  order_same = rw (tabulate_ext 64 (port_of S n) (port_of T n) (λ r b. port_same r), members_same) refl
