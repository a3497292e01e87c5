-- A host may spread a group frame over all members at once and send each block from the slot with that rank: it is what the slot's own payload is.
use Rattle.std.specs.Prelude.{◌≡◌, true, List, ℕ, ◌+◌, ◌*◌, ◌/◌, ◌%◌, ◌<◌, get_or, length, replicate}
use Rattle.std.proofs.Common.{sym, ◌∙◌, arith, lt-ltb}
use Rattle.std.proofs.Math.Arith.{digits_lt, digits_div, digits_mod}
use Rattle.packet.specs.Kinds.{payload_right}
use Rattle.ground.specs.Counting.Each.{get_or_each}
use Rattle.ground.specs.Table.{get_or_tabulate}
use Rattle.payload.specs.declared.answer.Answer.TheVariants.{Done}
use Rattle.payload.specs.Joining.{whole_answer}
use Rattle.payload.specs.Order.{member_byte}
use Rattle.payload.specs.Spreading.{one_answer, spread_all}
use Rattle.sender.specs.declared.epochs.Sender.{Sender}
use Rattle.sender.specs.Epochs.{payload_bytes, rank_in, ranks_of, x_of}
use Rattle.sender.specs.Laws.Sizes.{size_le}
use Rattle.sender.specs.Ranks.{no_rank, rank_at, ranks_in}
use Rattle.sender.specs.Table.{slot_count}

-- the ranks that a sender tells are those that payload goes by
pub ranks_told : (s : Sender) (slot : ℕ) → slot < (ranks_of s).count → get_or (ranks_of s).ranks slot 0 ≡ rank_in s slot
unfolding ranks_of ranks_in
ranks_told s slot b =
    let n : ℕ = slot_count s.ruling.count in
    let small = size_le s.ruling.count in
    get_or_each n (λ i. rank_at s.ruling.rows n i) (replicate 64 no_rank) slot 0 b (omega arith)

-- block r of all members is the payload of the slot whose rank is r, byte by byte
pub by_rank : (s : Sender) (slot r P : ℕ) (frame members member : List ℕ) → s.begun ≡ true → payload_right s.table.kind P ≡ true → slot < slot_count s.table.count → slot < (ranks_of s).count
    → get_or (ranks_of s).ranks slot 0 ≡ r → r < x_of s → whole_answer (x_of s) P (length frame) (length members) ≡ Done → one_answer (x_of s) P (length frame) (length member) ≡ Done
    → (k : ℕ) → k < P → get_or (spread_all (x_of s) P frame members) (r * P + k) 0 ≡ get_or (payload_bytes s slot P frame member) k 0
unfolding payload_bytes
by_rank s slot r P frame members member begun own below told rank inside whole one k b =
    let X : ℕ = x_of s in
    let is : rank_in s slot ≡ r = sym (ranks_told s slot told) ∙ rank in
    rw (whole, lt-ltb slot (slot_count s.table.count) below, own, begun, one, is)
    (get_or_tabulate (X * P) (λ j. member_byte X frame (j / P) (j % P)) (r * P + k) 0 (digits_lt inside b)
    ∙ rw (digits_div r b, digits_mod r b)
    (sym (get_or_tabulate P (member_byte X frame r) k 0 b)))
