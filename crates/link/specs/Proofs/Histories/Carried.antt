-- A slot that is active at an epoch's start has a rank in the next epoch.
use Rattle.std.specs.Prelude.{◌≡◌, true, ℕ, suc, ◌*◌, ◌/◌, ◌≤◌, ◌<◌}
use Rattle.std.proofs.Common.{ap, ◌∙◌, arith, ne_eqb}
use Rattle.std.proofs.Math.Bool.{not}
use Rattle.ground.specs.Counting.Laws.Numbers.{count_le}
use Rattle.ground.specs.Counting.Laws.Ranks.{rank, rank_lt}
use Rattle.sender.specs.declared.board.Board.{Board}
use Rattle.sender.specs.Epochs.{rank_in}
use Rattle.sender.specs.Laws.Carrying.{rank_active}
use Rattle.sender.specs.Laws.Sizes.{size_le}
use Rattle.sender.specs.Numbering.{number_in, slots_in, state_in}
use Rattle.sender.specs.Ranks.{no_rank, rank_at}
use Rattle.sender.specs.Table.{is_active, slot_count}
use Rattle.packet.specs.Laws.Clock.{by}
use Rattle.link.specs.History.{Allowed, History, has_rank, sender_at}
use Rattle.link.specs.Proofs.Histories.Ruling.{rules}
use Rattle.link.specs.Proofs.Histories.Tables.{board_at_lem}
use Rattle.link.specs.Sending.{epoch_at, epoch_start}

epoch_is : (kind t x : ℕ) → epoch_start kind t ≤ x → x < epoch_start kind (suc t) → epoch_at kind x ≡ t
epoch_is kind t x lo hi = by (λ L E N l. t * L ≤ x → x < suc t * L → x / L ≡ t) (λ a b. omega arith) (λ a b. omega arith) kind lo hi

module _ (h : History) (al : Allowed h) where
  ranked : (t slot : ℕ) → slot < slots_in (sender_at h t).table → is_active (state_in (sender_at h t).table slot) ≡ true → rank_in (sender_at h (suc t)) slot < no_rank
  ranked t slot b a =
      let tab = (sender_at h t).table in
      let e : rank_in (sender_at h (suc t)) slot ≡ rank (slots_in tab) (λ i. is_active (state_in tab i)) (number_in tab) slot =
      ap (λ (x : Board). rank_at x.rows (slot_count x.count) slot) (rules h al t ∙ board_at_lem h al t) ∙ rank_active tab slot b a in
      let l = rank_lt (slots_in tab) (λ i. is_active (state_in tab i)) (number_in tab) slot b a in
      let c = count_le (slots_in tab) (λ i. is_active (state_in tab i)) in
      let z = size_le tab.count in
      omega arith

  pub carries_next : (t slot : ℕ) → slot < slots_in (sender_at h t).table → is_active (state_in (sender_at h t).table slot) ≡ true
      → (x : ℕ) → epoch_start h.kind (suc t) ≤ x → x < epoch_start h.kind (suc (suc t)) → has_rank h x slot ≡ true
  unfolding has_rank
  carries_next t slot b a x lo hi =
      let l = ranked t slot b a in
      rw (epoch_is h.kind (suc t) x lo hi) (ap not (ne_eqb (rank_in (sender_at h (suc t)) slot) no_rank (λ z. omega arith)))
