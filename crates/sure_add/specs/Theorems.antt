-- An add that is sure to finish (02, 2026-13), proved: over frames, and over calls.
use Rattle.std.specs.Prelude.{◌≡◌, ◌≢◌, true, false, not, ℕ, suc, ◌+◌, ◌/◌, ◌≤◌, ◌<◌, get_or, ◌==◌}
use Rattle.packet.specs.Kinds.{fixed_kind, mst_fails}
use Rattle.packet.specs.Mst.{Spoken}
use Rattle.receiver.specs.Shown.{reply_of}
use Rattle.sender.specs.Answers.Answer.{Done}
use Rattle.sender.specs.Commands.{add_of}
use Rattle.sender.specs.Numbering.{slots_in, state_in}
use Rattle.sender.specs.Table.{is_active, is_add}
use Rattle.link.specs.Assumed.{Assumed}
use Rattle.link.specs.Demand3.{Reported, Started, Time, own_run, standing}
use Rattle.link.specs.History.{Allowed, History, has_rank, sender_at}
use Rattle.link.specs.Link.{Link, epoch_frames, kind_of}
use Rattle.link.specs.Proofs.Histories.Carried as Carried
use Rattle.link.specs.Running.{Moment}
use Rattle.link.specs.Sending.{epoch_start}
use Rattle.sure_add.specs.AsAsked.{AsAsked}
use Rattle.sure_add.specs.AsSent.{AsSent, has_holder}
use Rattle.sure_add.specs.Joined.{Adding, Joined, table_at}
use Rattle.sure_add.specs.Own.{OwnOk, NumberFree}
use Rattle.sure_add.specs.Proofs.Frames as Frames
use Rattle.sure_add.specs.Proofs.Over as Over
use Rattle.sure_add.specs.Proofs.Owning as Owning
use Rattle.sure_add.specs.Proofs.Ranked as Ranked
use Rattle.sure_add.specs.Proofs.Settled as Settled
use Rattle.sure_add.specs.Rounds.{Asked, Path, Rounds, before, table_of}
use Rattle.sure_add.specs.Within.{ActiveWithin, CarriesWithin, RankWithin, bound}

-- Over frames: sender, lines, receiver, reply, back packets and reports, closed. Whatever the ports' times, on undamaged lines no port is ever FAIL, so that none waits to restore.
pub sure_add : (k : Link) (m₀ : Moment) (a b slot t : ℕ) (j : Joined k m₀ a b (t + bound (kind_of k) a b 0)) → Adding k m₀ a b (t + bound (kind_of k) a b 0) j slot t
    → ActiveWithin (table_at j) slot t (bound (kind_of k) a b 0)
sure_add = Frames.joins

-- after each report MST says OK of exactly the numbers of the slots that are not IDLE in that epoch
pub heard_back : (k : Link) (a : Assumed k) → AsSent k → (m₀ : Moment) → Started k m₀ → (at : Time k) (w : Reported k (own_run k m₀) at) → 1 ≤ w.many → (e q : ℕ) → Spoken (kind_of k) e q
    → mst_fails (get_or (reply_of (standing k (own_run k m₀) at).rows e) 0 0) q ≡ not (has_holder a.history (suc (w.F / epoch_frames k) + w.many) q)
heard_back = Frames.hears_back

-- Over calls: whatever befalls the other ports, and with a wait-to-restore.
pub sure_add_over : (r : Rounds) (a b slot port restore : ℕ) → (r.kind == fixed_kind) ≡ false → Path r a b slot port (bound r.kind a b restore) → Asked r a slot port restore (bound r.kind a b restore)
    → ActiveWithin (table_of r slot) slot 0 (bound r.kind a b restore)
sure_add_over = Over.joins

-- where no other slot is ADD at the add, none is while it lasts
pub settled_at_once : (r : Rounds) (slot : ℕ) → (add_of (before r) slot).answer ≡ Done → ((j : ℕ) → j < slots_in (before r) → j ≢ slot → is_add (state_in (before r) j) ≡ false)
    → (k j : ℕ) → j < slots_in (table_of r slot k) → j ≢ slot → is_add (state_in (table_of r slot k) j) ≡ false
settled_at_once = Settled.none_since

-- the request's first sentences, with all that they let be so asked at the add and, of the ports, at the reports from that of the first ADD on
pub as_asked : (r : Rounds) (a b slot port : ℕ) → (r.kind == fixed_kind) ≡ false → Path r a b slot port (bound r.kind a b 0) → AsAsked r a slot port (bound r.kind a b 0)
    → ActiveWithin (table_of r slot) slot 0 (bound r.kind a b 0)
as_asked = Settled.asked_so

-- where no other OK port has the number and no OK of it was under way, the port itself is OK under it at the report whose reply makes the slot active
pub own_ok : (r : Rounds) (a b slot port restore : ℕ) → (r.kind == fixed_kind) ≡ false → Path r a b slot port (bound r.kind a b restore) → Asked r a slot port restore (bound r.kind a b restore)
    → NumberFree r a b slot port (bound r.kind a b restore) → OwnOk r a b slot port (bound r.kind a b restore)
own_ok = Owning.owns

-- 'Sales ask when a new member carries traffic': a slot that is active at a start has a rank in the next epoch.
pub carries_next : (h : History) → Allowed h → (t slot : ℕ) → slot < slots_in (sender_at h t).table → is_active (state_in (sender_at h t).table slot) ≡ true
    → (x : ℕ) → epoch_start h.kind (suc t) ≤ x → x < epoch_start h.kind (suc (suc t)) → has_rank h x slot ≡ true
carries_next = Carried.carries_next

-- so it carries traffic in an epoch at most one later, 35 + a + b after the add
pub sure_traffic : (k : Link) (m₀ : Moment) (a b slot t : ℕ) (j : Joined k m₀ a b (t + bound (kind_of k) a b 0)) → Adding k m₀ a b (t + bound (kind_of k) a b 0) j slot t
    → CarriesWithin j.out.history slot t (bound (kind_of k) a b 0 + 1)
sure_traffic = Frames.carries

-- and over calls, 35 + a + b + r after it
pub sure_traffic_over : (r : Rounds) (a b slot port restore : ℕ) → (r.kind == fixed_kind) ≡ false → Path r a b slot port (bound r.kind a b restore) → Asked r a slot port restore (bound r.kind a b restore)
    → RankWithin (table_of r slot) slot 0 (bound r.kind a b restore + 1)
sure_traffic_over = Ranked.carries
