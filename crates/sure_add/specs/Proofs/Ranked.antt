-- Over calls: a slot that is active at a start has a rank in the next epoch.
use Rattle.std.specs.Prelude.{◌≡◌, ◌≢◌, true, false, ℕ, ◌+◌, ◌<◌, eqb}
use Rattle.std.proofs.Common.{sym, ap, subst, ◌∙◌, arith}
use Rattle.ground.specs.Counting.Laws.Numbers.{count_le}
use Rattle.ground.specs.Counting.Laws.Ranks.{rank, rank_lt}
use Rattle.packet.specs.Kinds.{fixed_kind}
use Rattle.sender.specs.declared.board.Board.{Board}
use Rattle.sender.specs.declared.epochs.Sender.{Sender}
use Rattle.sender.specs.Board.{board_of}
use Rattle.sender.specs.Calls.Call.{Report}
use Rattle.sender.specs.Commands.{start_of}
use Rattle.sender.specs.Epochs.{rank_in}
use Rattle.sender.specs.Laws.Carrying.{rank_active}
use Rattle.sender.specs.Laws.Kept.{group_call, sound_run, sound_start}
use Rattle.sender.specs.Laws.Sizes.{size_le}
use Rattle.sender.specs.Laws.Speaking.{added_pending}
use Rattle.sender.specs.Numbering.{number_in, slots_in, state_in}
use Rattle.sender.specs.Ranks.{no_rank, rank_at}
use Rattle.sender.specs.Table.{is_active, slot_count}
use Rattle.sure_add.specs.Proofs.Over as Over
use Rattle.sure_add.specs.Rounds.{Asked, Path, Rounds, before, table_of}
use Rattle.sure_add.specs.Within.{RankWithin, bound}

module _ (r : Rounds) (a b slot port restore : ℕ) (lcas : eqb r.kind fixed_kind ≡ false) (path : Path r a b slot port (bound r.kind a b restore)) (asked : Asked r a slot port restore (bound r.kind a b restore)) where
  slot_first : slot < slots_in (table_of r slot 0)
  unfolding table_of
  slot_first = (added_pending (before r) slot (sound_run (start_of r.kind r.slots).table r.calls (sound_start r.kind r.slots)) asked.accepted).below

  slot_below : (k : ℕ) → slot < slots_in (table_of r slot k)
  slot_below = Over.along r slot (λ t. slot < slots_in t) (λ t e mst ack so. subst (λ (n : ℕ). slot < n) (sym (ap slot_count (group_call t (Report e mst ack)).count)) so) slot_first

  ranked : (k : ℕ) → is_active (state_in (table_of r slot k) slot) ≡ true → (s : Sender) → s.ruling ≡ board_of (table_of r slot k) → rank_in s slot ≢ no_rank
  ranked k active s rules none =
      let t = table_of r slot k in
      let e : rank_in s slot ≡ rank (slots_in t) (λ i. is_active (state_in t i)) (number_in t) slot =
      ap (λ (x : Board). rank_at x.rows (slot_count x.count) slot) rules ∙ rank_active t slot (slot_below k) active in
      let l = rank_lt (slots_in t) (λ i. is_active (state_in t i)) (number_in t) slot (slot_below k) active in
      let c = count_le (slots_in t) (λ i. is_active (state_in t i)) in
      let z = size_le t.count in
      omega arith

  pub carries : RankWithin (table_of r slot) slot 0 (bound r.kind a b restore + 1)
  carries =
      let w = Over.joins r a b slot port restore lcas path asked in
      record { at = w.at; after = w.after; within = let l = w.within in omega arith; ranked = ranked w.at w.active }
