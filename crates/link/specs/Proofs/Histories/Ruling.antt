-- 'The packets of one epoch rule the payload of the next epoch': X and every slot's rank, read off the packets of the epoch before.
use Rattle.std.specs.Prelude.{◌≡◌, Bool, true, cond, ◌&&◌, ◌||◌, ℕ, suc, ◌≤◌, eqb, ltb}
use Rattle.std.proofs.Common.{◌∙◌, lt-ltb}
use Rattle.std.proofs.Math.Path.{ap}
use Rattle.ground.specs.Counting.Laws.Numbers.{count_le}
use Rattle.ground.specs.Counting.Laws.Ranks.{rank}
use Rattle.ground.specs.Counting.Words.{count}
use Rattle.ground.specs.Truth.{and-true}
use Rattle.packet.specs.Words.{EOS, NORM}
use Rattle.sender.specs.Epochs.{on_table, packet_fields, rank_in, sender_run}
use Rattle.sender.specs.Theorems.Epochs.{Shows, rules_next}
use Rattle.sender.specs.declared.board.Board.{Board}
use Rattle.sender.specs.Laws.Carrying.{board_size}
use Rattle.sender.specs.Ranks.{carriers_in, carries, no_rank, rank_at, rank_of, row_at}
use Rattle.sender.specs.Table.{slot_count}
use Rattle.link.specs.History.{Allowed, History, number_sent, sender_at, word_sent, x_at}
use Rattle.link.specs.Proofs.Histories.Senders.{left, sender_at_sound, size_at}

-- Of the words and numbers that n slots send: an active member sends NORM or EOS; X is how many there are; the rank of one is how many of them have a smaller number.

abbrev pub active_word : ℕ → Bool
active_word w = eqb w NORM || eqb w EOS

abbrev pub x_by : ℕ → (ℕ → ℕ) → ℕ
x_by n word = count n (λ s. active_word (word s))

abbrev pub rank_by : ℕ → (ℕ → ℕ) → (ℕ → ℕ) → ℕ → ℕ
rank_by n word number slot = cond (active_word (word slot)) (rank n (λ s. active_word (word s)) number slot) no_rank

module _ (h : History) (a : Allowed h) where
  lent : (i : ℕ) → (ltb (h.gid i) 2 && ltb (h.ack i) 2) ≡ true
  lent i = and-true (ltb (h.gid i) 2) (ltb (h.ack i) 2) (lt-ltb (h.gid i) 2 (a.gid i)) (lt-ltb (h.ack i) 2 (a.ack i))

  -- what rules is the board that went out in the packets of the epoch before
  pub rules : (i : ℕ) → (sender_at h (suc i)).ruling ≡ (sender_at h i).outgoing
  unfolding sender_at
  rules i =
      rules_next (sender_run (sender_at h i) (on_table (h.before (suc i)))) (h.gid (suc i)) (h.mst (suc i)) (h.ack (suc i)) (lent (suc i))
      ∙ (left (sender_at h i) (h.before (suc i))).outgoing

  shown_size : (i : ℕ) (b : Board) → Shows b (sender_at h i).table.count → slot_count b.count ≡ h.slots
  shown_size i b o = ap (λ (c : Board). slot_count c.count) o.is ∙ board_size o.source ∙ ap slot_count o.slots ∙ size_at h a i

  pub going_size : (i : ℕ) → slot_count (sender_at h i).outgoing.count ≡ h.slots
  going_size i = shown_size i (sender_at h i).outgoing (sender_at_sound h i).outgoing

  pub ruling_size : (i : ℕ) → slot_count (sender_at h i).ruling.count ≡ h.slots
  ruling_size i = shown_size i (sender_at h i).ruling (sender_at_sound h i).ruling

  pub x_le : (i : ℕ) → x_at h i ≤ h.slots
  unfolding carriers_in
  x_le i = rw (ruling_size i) (count_le h.slots (λ s. carries (row_at (sender_at h i).ruling.rows s)))

  pub x_next : (i : ℕ) → x_at h (suc i) ≡ x_by h.slots (word_sent h i)
  unfolding carriers_in packet_fields
  x_next i =
      ap (λ (b : Board). carriers_in b.rows (slot_count b.count)) (rules i)
      ∙ ap (λ (n : ℕ). carriers_in (sender_at h i).outgoing.rows n) (going_size i)

  pub rank_next : (i slot : ℕ) → rank_in (sender_at h (suc i)) slot ≡ rank_by h.slots (word_sent h i) (number_sent h i) slot
  unfolding rank_at rank_of packet_fields
  rank_next i slot =
      ap (λ (b : Board). rank_at b.rows (slot_count b.count) slot) (rules i)
      ∙ ap (λ (n : ℕ). rank_at (sender_at h i).outgoing.rows n slot) (going_size i)
