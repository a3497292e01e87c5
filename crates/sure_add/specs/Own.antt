-- 'its number not held by another OK port' (02, 2026-13): then the OK by which the member becomes active is its own port's.
use Rattle.std.specs.Prelude.{◌≡◌, ◌≢◌, true, false, ℕ, ◌+◌, ◌≤◌, ◌<◌}
use Rattle.packet.specs.Kinds.{mst_fails}
use Rattle.packet.specs.Mst.{Spoken}
use Rattle.reply.specs.Members.{ok_state}
use Rattle.reply.specs.Waiting.{standing_at}
use Rattle.sender.specs.Numbering.{number_in, state_in}
use Rattle.sender.specs.Table.{is_active}
use Rattle.sure_add.specs.Rounds.{Rounds, number_of, ports, seen, table_of}

module _ (r : Rounds) (a b slot port most : ℕ) where
  -- the number with which the slot was added
  abbrev pub own : ℕ
  own = number_in (table_of r slot 0) slot

  pub record NumberFree : Type 0 where
    -- at no report from that of the first ADD on is another port OK under it
    pub alone : (k other : ℕ) → a + 2 ≤ k → k ≤ most → other < ports r k → other ≢ port → (standing_at (seen r k) (ports r k) other).state ≡ ok_state → (standing_at (seen r k) (ports r k) other).number ≢ own
    -- and no OK of it was under way: what is handed before the first such reply says none
    pub none_under_way : (k : ℕ) → k < a + 2 + b → r.handed k ≡ true → Spoken r.kind (number_of r k) own → mst_fails (r.mst k) own ≡ true

  -- the first start at which the slot is active, and the report whose reply was handed then
  pub record OwnOk : Type 0 where
    pub at : ℕ
    pub within : at ≤ most
    pub active : is_active (state_in (table_of r slot at) slot) ≡ true
    pub not_before : (k : ℕ) → k < at → is_active (state_in (table_of r slot k) slot) ≡ false
    pub report : ℕ
    pub is : report + b + 1 ≡ at
    pub from : a + 2 ≤ report
    pub ok : (standing_at (seen r report) (ports r report) port).state ≡ ok_state
    pub under : (standing_at (seen r report) (ports r report) port).number ≡ own
