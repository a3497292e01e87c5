-- The way back in one call: what the far end says in the epoch before the oldest one not yet reported, which after a report is the epoch just reported.
use Rattle.std.specs.Prelude.{Bool, ◌&&◌, [], ◌∷◌, ℕ, length, if◌then◌else◌, ◌==◌}
use Rattle.ground.specs.Counting.Words.{some}
use Rattle.ground.specs.Types.{Bytes, Rows}
pub use Rattle.judge.specs.Lowest.{lowest}
use Rattle.phases.specs.Sizes.{ports_in}
use Rattle.receiver.specs.Lengths.{rows_fit}
use Rattle.receiver.specs.Report.{seen_of}
use Rattle.receiver.specs.Seen.{carried_at}
use Rattle.rows.specs.declared.group.Group.{Group}
use Rattle.rows.specs.Group.{group_at}

-- the packet that rules port i is whole and good
abbrev pub good_at : (g : Group) (s : Rows) (i : ℕ) → Bool
good_at g s i = (seen_of g s i).whole && (seen_of g s i).good

-- four bytes: 1, and the epoch, MST and RS-Ack of a packet
abbrev pub said_by : (epoch mst ack : ℕ) → Bytes
said_by epoch mst ack = 1 ∷ epoch ∷ mst ∷ ack ∷ []

abbrev pub silence : Bytes
silence = 0 ∷ 0 ∷ 0 ∷ 0 ∷ []

-- that of port i
unfoldable pub said_at : (g : Group) (s : Rows) (i : ℕ) → Bytes
said_at g s i = let c = carried_at g s i in said_by c.epoch c.mst c.rs_ack

-- of the lowest port whose packet is whole and good, or nothing
unfoldable pub heard_of : (g : Group) (s : Rows) (n : ℕ) → Bytes
heard_of g s n = if some n (good_at g s) then said_at g s (lowest n (good_at g s)) else silence

unfoldable pub heard_fit : (n : ℕ) (rows : ℕ) (out : ℕ) → Bool
heard_fit n rows out = rows_fit n rows && out == 4

unfoldable pub heard_answer : (s : Rows) (out : ℕ) → ℕ
heard_answer s out = if heard_fit (ports_in (group_at s)) (length s) out then 0 else 9

unfoldable pub heard_out : (s : Rows) (out : Bytes) → Bytes
heard_out s out = if heard_fit (ports_in (group_at s)) (length s) (length out) then heard_of (group_at s) s (ports_in (group_at s)) else out
