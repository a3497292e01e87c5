-- 'Then the member is active within 34 + a + b epochs of the add. With a wait-to-restore of r epochs the bound is 34 + a + b + r' (02, 2026-13).
use Rattle.std.specs.Prelude.{◌≡◌, ◌≢◌, true, ℕ, suc, ◌+◌, ◌≤◌, ◌<◌}
use Rattle.packet.specs.Kinds.{mst_epochs}
use Rattle.sender.specs.declared.epochs.Sender.{Sender}
use Rattle.sender.specs.declared.table.Table.{Table}
use Rattle.sender.specs.Board.{board_of}
use Rattle.sender.specs.Epochs.{rank_in}
use Rattle.sender.specs.Numbering.{state_in}
use Rattle.sender.specs.Ranks.{no_rank}
use Rattle.sender.specs.Table.{is_active}
use Rattle.link.specs.History.{History, has_rank}
use Rattle.link.specs.Sending.{epoch_start}

-- 34 is 32 + 2, the epochs in which MST has spoken of every number and two more: of VC-12 these are 8. One start until the ADD goes out, a on its way, one until its epoch is reported, r, at most 31 (of VC-12 7) until MST speaks of its number, b on the way back, and one until that packet is whole.
unfoldable pub bound : (kind a b r : ℕ) → ℕ
bound kind a b r = mst_epochs kind + 2 + a + b + r

-- the slot is active in the table at some start after t, at most so many after it
pub record ActiveWithin (table : ℕ → Table) (slot t most : ℕ) : Type 0 where
  pub at : ℕ
  pub after : t < at
  pub within : at ≤ t + most
  pub active : is_active (state_in (table at) slot) ≡ true

-- the slot carries traffic, having a rank, in all frames of some epoch after t, at most so many after it
pub record CarriesWithin (h : History) (slot t most : ℕ) : Type 0 where
  pub epoch : ℕ
  pub after : t < epoch
  pub within : epoch ≤ t + most
  pub carries : (x : ℕ) → epoch_start h.kind epoch ≤ x → x < epoch_start h.kind (suc epoch) → has_rank h x slot ≡ true

-- over calls: it has a rank in the epoch behind some start after t, which is at most so many after t: in every sender that is ruled by the board of that start, as it is in that epoch ('The packets of one epoch rule the payload of the next epoch').
pub record RankWithin (table : ℕ → Table) (slot t most : ℕ) : Type 0 where
  pub at : ℕ
  pub after : t < at
  pub within : at + 1 ≤ t + most
  pub ranked : (s : Sender) → s.ruling ≡ board_of (table at) → rank_in s slot ≢ no_rank
