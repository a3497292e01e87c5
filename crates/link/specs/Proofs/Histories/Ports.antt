-- What slots send as n ports see it, each port its own slot's words and numbers, where all that are not IDLE reach a port: the same X, the same ranks, and the numbering of demand 2.
use Rattle.std.specs.Prelude.{◌≡◌, ◌≢◌, true, cond, ◌&&◌, ℕ, ◌≤◌, ◌<◌, eqb, ltb}
use Rattle.std.proofs.Common.{◌∙◌, sym, ap, true≢false}
use Rattle.ground.specs.Truth.{and_left, or_left}
use Rattle.packet.specs.Words.{DNU, EOS, IDLE}
use Rattle.sender.specs.Ranks.{no_rank}
use Rattle.ground.specs.Counting.Words.{Apart, One, count}
use Rattle.link.specs.Sending.{Pairing, Reached}
use Rattle.link.specs.Proofs.Histories.Numbering.{Numbered, numbered_word}
use Rattle.link.specs.Proofs.Histories.Reaching.{AllReach, count_paired}
use Rattle.link.specs.Proofs.Histories.Ruling.{active_word, rank_by, x_by}

-- active and DNU members are not IDLE

numbered_not_idle : (w : ℕ) → numbered_word w ≡ true → w ≢ IDLE
numbered_not_idle w t e = true≢false (sym t ∙ ap numbered_word e)

active_numbered : (w : ℕ) → active_word w ≡ true → numbered_word w ≡ true
active_numbered w t = or_left (active_word w) (eqb w DNU) t

module _ (n slots : ℕ) (slot_of : ℕ → ℕ) (o : Pairing n slots slot_of) (word number : ℕ → ℕ) (covered : (slot : ℕ) → slot < slots → word slot ≢ IDLE → Reached n slot_of slot) where
  abbrev words : ℕ → ℕ
  words p = word (slot_of p)

  abbrev numbers : ℕ → ℕ
  numbers p = number (slot_of p)

  all_numbered : AllReach n slots slot_of o (λ s. numbered_word (word s))
  all_numbered s b t = covered s b (numbered_not_idle (word s) t)

  all_active : AllReach n slots slot_of o (λ s. active_word (word s))
  all_active s b t = all_numbered s b (active_numbered (word s) t)

  pub x_ports : x_by n words ≡ x_by slots word
  x_ports = count_paired n slots slot_of o (λ s. active_word (word s)) all_active

  -- how many active members have a number below q
  below_ports : (q : ℕ) → count n (λ p. active_word (words p) && ltb (numbers p) q) ≡ count slots (λ s. active_word (word s) && ltb (number s) q)
  below_ports q =
      count_paired n slots slot_of o (λ s. active_word (word s) && ltb (number s) q)
      (λ s b t. all_active s b (and_left (active_word (word s)) (ltb (number s) q) t))

  pub rank_ports : (p : ℕ) → rank_by n words numbers p ≡ rank_by slots word number (slot_of p)
  rank_ports p = ap (λ (r : ℕ). cond (active_word (word (slot_of p))) r no_rank) (below_ports (number (slot_of p)))

  pub numbered_ports : Numbered slots word number → Numbered n words numbers
  numbered_ports w = record { once = once; low = low; each = each; eos = eos; highest_eos = highest_eos }
    where
      many : count n (λ p. numbered_word (words p)) ≡ count slots (λ s. numbered_word (word s))
      many = count_paired n slots slot_of o (λ s. numbered_word (word s)) all_numbered

      once : Apart n (λ p. numbered_word (words p)) numbers
      once p q hp hq tp tq e = o.once p q hp hq (w.once (slot_of p) (slot_of q) (o.below p hp) (o.below q hq) tp tq e)

      low : (p : ℕ) → p < n → numbered_word (words p) ≡ true → numbers p < count n (λ j. numbered_word (words j))
      low p b t = rw many (w.low (slot_of p) (o.below p b) t)

      each : (q : ℕ) → q < count n (λ j. numbered_word (words j)) → One n (λ p. numbered_word (words p) && eqb (numbers p) q)
      each q b =
          let s = w.each q (rw many at b) in
          let r = all_numbered s.at s.below (and_left (numbered_word (word s.at)) (eqb (number s.at) q) s.holds) in
          record { at = r.port; below = r.below; holds = ap (λ (k : ℕ). numbered_word (word k) && eqb (number k) q) r.is ∙ s.holds }

      eos : (p : ℕ) → p < n → words p ≡ EOS → (j : ℕ) → j < n → active_word (words j) ≡ true → numbers j ≤ numbers p
      eos p b e j hj t = w.eos (slot_of p) (o.below p b) e (slot_of j) (o.below j hj) t

      highest_eos : (p : ℕ) → p < n → active_word (words p) ≡ true → ((j : ℕ) → j < n → active_word (words j) ≡ true → numbers j ≤ numbers p) → words p ≡ EOS
      highest_eos p b t l =
          w.highest_eos (slot_of p) (o.below p b) t
          (λ s hs ts.
          let r = all_active s hs ts in
          rw r.is at (l r.port r.below (ap (λ (k : ℕ). active_word (word k)) r.is ∙ ts)))
