-- Demand 3, proved.
use Rattle.std.specs.Prelude.{◌≡◌, List, ℕ, suc, ◌+◌, ◌/◌, ◌<◌, length}
use Rattle.link.specs.Assumed.{Assumed}
use Rattle.link.specs.Demand3.{Demand3, Reported, Started, Time, UntilBegun, own_run, standing}
use Rattle.link.specs.FixedGroup.{AssumedFixed, FixedGroup, InPlaces, Numbered, ToldSure, fixed_sent, sending_fixed, sending_these, sure_report}
use Rattle.link.specs.Heard.{Hears, SaysBack, expected_heard}
use Rattle.link.specs.History.{Allowed, Handed, History, sending_of}
use Rattle.link.specs.Link.{AssumedOver, Link, epoch_frames, expected}
use Rattle.link.specs.Proofs.FixedGroups.Over.{fixed_over}
use Rattle.link.specs.Proofs.FixedGroups.Packets.{any_sent}
use Rattle.link.specs.Proofs.FixedGroups.Reported.{expected_sure, told_sure}
use Rattle.link.specs.Proofs.FixedGroups.SaysBack.{fixed_says}
use Rattle.link.specs.Proofs.FixedGroups.Sure.{fixed_lawful}
use Rattle.link.specs.Proofs.Heard as Heard
use Rattle.link.specs.Proofs.Histories.Lawful.{history_lawful}
use Rattle.link.specs.Proofs.Histories.Ours.{ours}
use Rattle.link.specs.Proofs.Histories.SaysBack.{history_says, ours_say}
use Rattle.link.specs.Proofs.Over.{over, until_begun}
use Rattle.link.specs.Running.{Moment}
use Rattle.link.specs.Sending.{Client, Lawful, epoch_number}
use Rattle.packet.specs.Kinds.{fixed_kind}
use Rattle.packet.specs.Layout.{h4_of}

-- over any sending side
pub demand3_over : (k : Link) → AssumedOver k → Demand3 k
demand3_over k a = over k a

-- for our sender's histories, as the minutes have it
pub demand3 : (k : Link) → Assumed k → Demand3 k
demand3 k a = demand3_over k (ours k a)

-- the multiframe number is spared until receiving begins, and no longer (request 2026-04)
pub spared_until : (k : Link) → AssumedOver k → (m₀ : Moment) → Started k m₀ → (at : Time k) → UntilBegun k (own_run k m₀) at
spared_until k a m₀ o at = until_begun k a m₀ o at

-- Our sender's histories keep the laws of a sending side, whatever slots with no rank carry and whichever slots reach a port.
pub histories_lawful : (h : History) → Allowed h → (P : ℕ) (client : Client) → Handed h P client
    → (unranked : ℕ → ℕ → List ℕ) → ((x slot : ℕ) → slot < h.slots → length (unranked x slot) ≡ P) → Lawful (sending_of h P client unranked) P client
histories_lawful = history_lawful

-- The way back. The reports so far are of as many epochs as there are, behind the one that was gathered. So the last of them is the epoch numbered suc (F / 16) + many from the stream's start on, and after its report the call reads what was
-- given at the start of that epoch, where some packet of it came as sent; where every one came changed, it reads nothing.
pub heard_over : (k : Link) → AssumedOver k → (mst ack : ℕ → ℕ) → SaysBack k.sending mst ack → (m₀ : Moment) → Started k m₀ → (at : Time k) (o : Reported k (own_run k m₀) at) → 0 < o.many
    → Hears (standing k (own_run k m₀) at) (expected_heard k mst ack (suc (o.F / epoch_frames k) + o.many))
heard_over = Heard.heard_over

-- our sender's histories say back what was lent to the start of each epoch
pub histories_say : (h : History) → Allowed h → (P : ℕ) (client : Client) (unranked : ℕ → ℕ → List ℕ) → SaysBack (sending_of h P client unranked) h.mst h.ack
histories_say = history_says

pub heard : (k : Link) (a : Assumed k) (m₀ : Moment) → Started k m₀ → (at : Time k) (o : Reported k (own_run k m₀) at) → 0 < o.many
    → Hears (standing k (own_run k m₀) at) (expected_heard k a.history.mst a.history.ack (suc (o.F / epoch_frames k) + o.many))
heard k a m₀ = heard_over k (ours k a) a.history.mst a.history.ack (ours_say k a) m₀

-- for fixed groups (request 2026-12)
pub demand3_fixed : (k : Link) → AssumedFixed k → Demand3 k
demand3_fixed k a = demand3_over k (fixed_over k a)

pub fixed_groups_lawful : (f : FixedGroup) → Numbered f → (P : ℕ) (client : Client) → Lawful (sending_fixed f P client) P client
fixed_groups_lawful = fixed_lawful

-- 'All other nibbles are .. not looked at in reading': whatever nibbles a neighbour's packets have beside SQ, MFI2 and the word in their places, some such group sends them
pub fixed_any : (f : FixedGroup) (packet : (i slot : ℕ) → List ℕ) (i slot : ℕ) → InPlaces (epoch_number fixed_kind f.first i) (f.number slot) (packet i slot)
    → fixed_sent (sending_these f packet) i slot ≡ h4_of (packet i slot)
fixed_any = any_sent

-- every epoch of such a link is expected sure, with the client's bytes, and every report that its receiver makes is
pub fixed_expected : (k : Link) → AssumedFixed k → (i : ℕ) (out : List ℕ) → expected k i out ≡ sure_report k (suc i) out
fixed_expected = expected_sure

-- and says back nothing but the number of each epoch
pub fixed_groups_say : (f : FixedGroup) → Numbered f → (P : ℕ) (client : Client) → SaysBack (sending_fixed f P client) (λ i. 0) (λ i. 0)
fixed_groups_say = fixed_says

pub fixed_all_sure : (k : Link) → AssumedFixed k → (m₀ : Moment) → Started k m₀ → (at : Time k) → ToldSure k (standing k (own_run k m₀) at)
fixed_all_sure = told_sure
