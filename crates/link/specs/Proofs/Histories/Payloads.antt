-- The payload of every slot: the bytes of its rank in the client's group frame, and without a rank whatever is given.
use Rattle.std.specs.Prelude.{◌≡◌, refl, Bool, true, false, cond, List, ℕ, ◌<◌, length, replicate}
use Rattle.std.proofs.Common.{◌∙◌, arith, lt-ltb, ne_eqb}
use Rattle.std.proofs.Math.Path.{ap}
use Rattle.std.proofs.lemmas.List.{length-replicate}
use Rattle.packet.specs.Kinds.{payload_right}
use Rattle.ground.specs.Table.{length_tabulate}
use Rattle.payload.specs.Answers.{Sizes}
use Rattle.payload.specs.Laws.Fits.{spread_one_done}
use Rattle.payload.specs.Order.{member_byte, member_frame}
use Rattle.payload.specs.Spreading.{spread_one}
use Rattle.sender.specs.declared.epochs.Sender.{Sender}
use Rattle.sender.specs.Epochs.{payload_bytes, rank_in, x_of}
use Rattle.sender.specs.Ranks.{no_rank}
use Rattle.sender.specs.Table.{slot_count}
use Rattle.link.specs.History.{Allowed, Handed, History, has_rank, payload_sent, sender_at, x_at}
use Rattle.link.specs.Sending.{Client, epoch_at}
use Rattle.link.specs.Proofs.Histories.Ruling.{x_le}
use Rattle.link.specs.Proofs.Histories.Senders.{sender_in, size_at}

bytes_are : (s : Sender) (slot P : ℕ) (frame member : List ℕ) → slot < slot_count s.table.count → payload_right s.table.kind P ≡ true → s.begun ≡ true → payload_bytes s slot P frame member ≡ spread_one (x_of s) P (rank_in s slot) frame member
unfolding payload_bytes
bytes_are s slot P frame member below own begun = rw (lt-ltb slot (slot_count s.table.count) below, own, begun) refl

module _ (h : History) (a : Allowed h) (P : ℕ) (client : Client) (c : Handed h P client) (x : ℕ) where
  abbrev X : ℕ
  X = x_at h (epoch_at h.kind x)

  abbrev rank_of : ℕ → ℕ
  rank_of slot = rank_in (sender_at h (epoch_at h.kind x)) slot

  x_few : X < no_rank
  x_few = let l = x_le h a (epoch_at h.kind x) in let m = a.most in omega arith

  sizes_at : Sizes X P
  sizes_at = record { ranks = (let l = x_le h a (epoch_at h.kind x) in let m = a.most in omega arith); least = c.least; most = c.most }

  -- by its rank, whatever that is
  payload_is : (slot : ℕ) → slot < h.slots → payload_sent h P client x slot ≡ member_frame X P (client x) (rank_of slot)
  unfolding payload_sent
  payload_is slot b =
      bytes_are (sender_at h (epoch_at h.kind x)) slot P (client x) (replicate P 0) (rw (size_at h a (epoch_at h.kind x)) b) (rw (sender_in h a (epoch_at h.kind x)).kind c.payload_right_lem) (sender_in h a (epoch_at h.kind x)).begun
      ∙ spread_one_done X P (rank_of slot) (client x) (replicate P 0) sizes_at (c.whole x) (length-replicate P 0)

  module _ (unranked : ℕ → ℕ → List ℕ) (slot : ℕ) (b : slot < h.slots) where
    -- what the lines carry
    abbrev carried : List ℕ
    carried = cond (has_rank h x slot) (payload_sent h P client x slot) (unranked x slot)

    pub carried_ranked : (r : ℕ) → r < X → rank_of slot ≡ r → carried ≡ member_frame X P (client x) r
    unfolding has_rank
    carried_ranked r l e =
        let few = x_few in
        rw (ne_eqb (rank_of slot) no_rank (λ (z : rank_of slot ≡ no_rank). omega arith)) (payload_is slot b ∙ ap (member_frame X P (client x)) e)

    pub carried_length : length (unranked x slot) ≡ P → length carried ≡ P
    carried_length l = go (has_rank h x slot)
      where
        go : (t : Bool) → length (cond t (payload_sent h P client x slot) (unranked x slot)) ≡ P
        go true = ap length (payload_is slot b) ∙ length_tabulate P (member_byte X (client x) (rank_of slot))
        go false = l
