-- The add over frames: the loop of sender, link, receiver, reply, back packets and reports, closed.
-- The idea: by start T the slots of the table at start T - (a + 1) have been heard (Undamaged), so from start t + a + 2 on every reply that speaks of the new member's number says OK of it; and until one has come back the slot stays ADD under its number, since no other is ADD.
use Rattle.std.specs.Prelude.{◌≡◌, ◌⊎◌, ◌≢◌, Bool, true, false, cond, ◌&&◌, ℕ, zero, suc, ◌+◌, ◌-◌, ◌*◌, ◌/◌, ◌%◌, ◌≤◌, ◌<◌, eqb, leb, get_or}
use Rattle.std.proofs.Math.Path.{refl, ap, subst}
use Rattle.std.proofs.Common.{sym, ◌∙◌, inl, inr, ⊎_elim, true≢false, length-append, eq-eqb, le-leb}
use Rattle.std.proofs.Math.Bool.{not}
use mathlib.Core.List.{List, [], ◌∷◌, ◌++◌}
use native.Mathlib.Omega.{arith}
use Rattle.std.proofs.Math.ListN.{length}
use Rattle.ground.specs.Table.{length_tabulate}
use Rattle.ground.specs.Truth.{and-true, eq_or_ne}
use Rattle.ground.specs.Counting.Laws.Tests.{some_at}
use Rattle.packet.specs.Kinds.{epochs, mst_epochs, mst_fails}
use Rattle.packet.specs.Laws.Mst.{SpokenSoon, spoken_soon}
use Rattle.packet.specs.Mst.{Spoken}
use Rattle.packet.specs.Ruling.{read_row}
use Rattle.packet.specs.Symbols.{packet_row}
use Rattle.receiver.specs.Shown.{reply_of}
use Rattle.sender.specs.declared.table.State.TheVariants.{Active}
use Rattle.sender.specs.declared.table.Table.{Table}
use Rattle.sender.specs.Calls.{Call, outcome_of, run}
use Rattle.sender.specs.Calls.Call.{AddSlot, Report}
use Rattle.sender.specs.Commands.{add_of}
use Rattle.sender.specs.Laws.Kept.{Sound, group_call, sound_run}
use Rattle.sender.specs.Laws.Runs.{run_append}
use Rattle.sender.specs.Laws.Speaking.{BecomesActive, Pending, acts, added_pending, active_or_pending, pending_low}
use Rattle.sender.specs.Numbering.{number_in, slots_in, state_in}
use Rattle.sender.specs.Reports.{report_of}
use Rattle.sender.specs.Table.{is_active, is_member, slot_count}
use Rattle.link.specs.Demand3.{Reported, Started, Time, own_run, standing}
use Rattle.link.specs.History.{Allowed, History, fields_sent, packet_sent, sender_at}
use Rattle.link.specs.Assumed.{Assumed}
use Rattle.link.specs.Link.{Link, epoch_frames, expected, kind_of, road_of}
use Rattle.link.specs.Moments.{coming, reached}
use Rattle.link.specs.Proofs.Fair.{Fair}
use Rattle.link.specs.Proofs.Histories.Carried.{carries_next}
use Rattle.link.specs.Proofs.Histories.Ours.{ours}
use Rattle.link.specs.Proofs.Histories.Packets.{packet_epoch}
use Rattle.link.specs.Proofs.Histories.Senders.{sender_at_sound, sender_in, size_at}
use Rattle.link.specs.Proofs.Histories.Tables.{ack_at, mst_at, packet_read, table_next}
use Rattle.link.specs.Proofs.Judged.Fairness.{fair}
use Rattle.link.specs.Proofs.Standing.{Lined}
use Rattle.link.specs.Proofs.Transport.EachCall.{calls_do}
use Rattle.link.specs.Proofs.Transport.Starts.{AtStart, at_start_lem}
use Rattle.link.specs.Proofs.Transport.Times.{Phase, phase}
use Rattle.link.specs.Proofs.Transport.Times.Phase.{before, first, later}
use Rattle.link.specs.Road.{L}
use Rattle.link.specs.Running.{Moment, has_begun}
use Rattle.link.specs.Sending.{Sending, epoch_number}
use Rattle.sure_add.specs.AsSent.{AsSent, has_holder}
use Rattle.sure_add.specs.Joined.{Adding, Joined, at_start, come_back, report_by, table_at}
use Rattle.sure_add.specs.Proofs.Others.{NoOther, none_added, none_told}
use Rattle.sure_add.specs.Proofs.Undamaged.{AsTable, empty, from_start, heard_last, mst_table}
use Rattle.sure_add.specs.Within.{ActiveWithin, CarriesWithin, bound}

-- After each report MST says OK of exactly the numbers that are held in its epoch.
module _ (k : Link) (a : Assumed k) (as_sent_lem : AsSent k) (m₀ : Moment) (o : Started k m₀) where
  pub hears_back : (at : Time k) (w : Reported k (own_run k m₀) at) → 1 ≤ w.many → (e q : ℕ) → Spoken (kind_of k) e q
      → mst_fails (get_or (reply_of (standing k (own_run k m₀) at).rows e) 0 0) q ≡ not (has_holder a.history (suc (w.F / epoch_frames k) + w.many) q)
  unfolding road_of
  hears_back at w some e q sp =
      mst_table k a as_sent_lem (standing k (own_run k m₀) at) (lined (phase (road_of k) m₀ (fair k (ours k a)) (calls_do (road_of k) (fair k (ours k a))) (from_start k a as_sent_lem m₀ o) at.t at.done at.rest at.is_order))
      (suc (w.F / epoch_frames k) + w.many)
      (subst (λ (n : ℕ). AsTable k a as_sent_lem (standing k (own_run k m₀) at) (suc (w.F / epoch_frames k) + n)) many
      (heard_last k a as_sent_lem m₀ o at.t at.done at.rest at.is_order w.F w.beginning (subst (λ (n : ℕ). 1 ≤ n) (sym many) some)))
      e q sp
    where
      many : length (standing k (own_run k m₀) at).told ≡ w.many
      many = ap length w.are ∙ length_tabulate w.many (λ j. expected k (suc (w.F / epoch_frames k) + j) (k.output j))

      lined : Phase (road_of k) m₀ at.t at.done (standing k (own_run k m₀) at) (coming (road_of k) at.t at.rest) → Lined (road_of k) (standing k (own_run k m₀) at)
      lined (before b un) = b.lined
      lined (first F b come c) = c.open_at.lined
      lined (later F i b come c v) = c.open_at.lined

-- what is handed over of a packet of the way back
pub report_at_lem : (h : History) → Allowed h → (i slot : ℕ) → slot < h.slots → report_by (read_row h.kind (packet_row h.kind (packet_sent h i slot))) ≡ Report (epoch_number h.kind h.first i) (h.mst i) (h.ack i) ∷ []
report_at_lem h al i slot b =
    ap report_by (packet_read h al i slot b)
    ∙ ap (λ (e : ℕ). Report e (fields_sent h i slot).mst (fields_sent h i slot).rs_ack ∷ []) (packet_epoch h al i slot)
    ∙ ap (λ (m : ℕ). Report (epoch_number h.kind h.first i) m (fields_sent h i slot).rs_ack ∷ []) (mst_at h al i slot)
    ∙ ap (λ (c : ℕ). Report (epoch_number h.kind h.first i) (h.mst i) c ∷ []) (ack_at h al i slot)

-- of a list that is at most one long all stands behind a place in it, or nothing
behind : (xs ys zs : List Call) → xs ++ ys ≡ zs → length zs ≤ 1 → (ys ≡ zs) ⊎ (ys ≡ [])
behind [] ys zs e l = inl e
behind (x ∷ xs) ys zs e l = inr (empty ys (let n : suc (length (xs ++ ys)) ≡ length zs = ap length e in let m = length-append xs ys in omega arith))

count_run : (t : Table) (cs : List Call) → (run t cs).count ≡ t.count
count_run t [] = refl
count_run t (c ∷ cs) = count_run (outcome_of t c).table cs ∙ (group_call t c).count

-- our slot is ADD, and no other
record Lone (t : Table) (i q : ℕ) : Type 0 where
  pending : Pending t i q
  none : NoOther i t

-- a report leaves it so or makes it active
told : (t : Table) (i q : ℕ) → Lone t i q → (e mst ack : ℕ) → (state_in (report_of t e mst ack).table i ≡ Active) ⊎ Lone (report_of t e mst ack).table i q
told t i q l e mst ack =
    ⊎_elim (λ (c : BecomesActive t i q e mst (report_of t e mst ack).table). inl c.active)
    (λ (w : Pending (report_of t e mst ack).table i q). inr (record { pending = w; none = none_told i t l.pending.sound l.none e mst ack }))
    (active_or_pending t i q l.pending e mst ack (λ j h d x. absurd (true≢false (sym x ∙ l.none j h d))))

module _ (k : Link) (m₀ : Moment) (a b slot t : ℕ) (j : Joined k m₀ a b (t + bound (kind_of k) a b 0)) (add : Adding k m₀ a b (t + bound (kind_of k) a b 0) j slot t) where
  abbrev h : History
  h = j.out.history

  abbrev al : Allowed j.out.history
  al = j.out.allowed

  abbrev tab : ℕ → Table
  tab u = (sender_at h u).table

  abbrev number : ℕ → ℕ
  number T = epoch_number j.back.kind j.back.first T

  abbrev until : ℕ
  until = t + bound (kind_of k) a b 0

  until_is : until ≡ t + (mst_epochs (kind_of k) + 2 + a + b)
  unfolding bound
  until_is = omega arith

  -- the table that the add finds, and leaves
  abbrev found : Table
  found = run (tab t) add.earlier

  abbrev new : Table
  new = (add_of found slot).table

  abbrev q : ℕ
  q = number_in new slot

  sound_at : Sound found
  sound_at = sound_run (tab t) add.earlier (sender_at_sound h t).table

  lone_first : Lone new slot q
  lone_first =
      record {
        pending = added_pending found slot sound_at add.accepted;
        none = none_added slot found sound_at add.settled add.accepted;
      }

  low : q < 64
  low = pending_low new slot q lone_first.pending

  -- what is handed at a start
  abbrev rep : ℕ → List Call
  rep u = come_back j u

  abbrev Out : Table → Type 0
  Out v = (state_in v slot ≡ Active) ⊎ Lone v slot q

  after_rep : (v : Table) → Lone v slot q → (u : ℕ) → Out (run v (rep u))
  after_rep v l u = go (leb (b + 1) u)
    where
      go : (c : Bool) → Out (run v (cond c (report_by (read_row j.back.kind (packet_row j.back.kind (packet_sent j.back (u - (b + 1)) j.from)))) []))
      go false = inr l
      go true =
          subst (λ (cs : List Call). Out (run v cs)) (sym (report_at_lem j.back j.back_allowed (u - (b + 1)) j.from j.from_below))
          (told v slot q l (number (u - (b + 1))) (j.back.mst (u - (b + 1))) (j.back.ack (u - (b + 1))))

  -- behind the add that report, or nothing
  after_add : Out (run new add.later)
  after_add =
      ⊎_elim (λ (e : add.later ≡ rep (suc t)). subst (λ (cs : List Call). Out (run new cs)) (sym e) (after_rep new lone_first (suc t)))
      (λ (e : add.later ≡ []). subst (λ (cs : List Call). Out (run new cs)) (sym e) (inr lone_first))
      (behind add.earlier add.later (rep (suc t)) add.one_report (one (leb (b + 1) (suc t))))
    where
      one : (c : Bool) → length (cond c (report_by (read_row j.back.kind (packet_row j.back.kind (packet_sent j.back (suc t - (b + 1)) j.from)))) []) ≤ 1
      one false = omega arith
      one true = let e = ap length (report_at_lem j.back j.back_allowed (suc t - (b + 1)) j.from j.from_below) in omega arith

  tab_first : tab (suc t) ≡ run new add.later
  tab_first = table_next h al t ∙ ap (λ (cs : List Call). run (tab t) cs) add.command ∙ run_append (tab t) add.earlier (AddSlot slot ∷ add.later)

  tab_next : (u : ℕ) → suc t ≤ u → suc u ≤ until → tab (suc u) ≡ run (tab u) (rep (suc u))
  tab_next u from l = table_next h al u ∙ ap (λ (cs : List Call). run (tab u) cs) (add.no_other (suc u) (omega arith) l)

  -- active at a start up to u, or waiting at every start from t + 1 to u
  abbrev Come : ℕ → Type 0
  Come u = ActiveWithin tab slot t u

  far_as : (n : ℕ) → suc t + n ≤ until → Come (suc n) ⊎ ((i : ℕ) → suc t ≤ i → i ≤ suc t + n → Lone (tab i) slot q)
  far_as zero l =
      ⊎_elim
      (λ (x : state_in (run new add.later) slot ≡ Active).
      inl (record { at = suc t; after = omega arith; within = omega arith; active = ap (λ (v : Table). is_active (state_in v slot)) tab_first ∙ ap is_active x }))
      (λ (x : Lone (run new add.later) slot q).
      inr (λ i lo hi. let z : suc t ≡ i = omega arith in subst (λ (n : ℕ). Lone (tab n) slot q) z (subst (λ (v : Table). Lone v slot q) (sym tab_first) x)))
      after_add
  far_as (suc n) l =
      ⊎_elim (λ (c : Come (suc n)). inl (record { at = c.at; after = c.after; within = let w = c.within in omega arith; active = c.active }))
      (λ (w : (i : ℕ) → suc t ≤ i → i ≤ suc t + n → Lone (tab i) slot q). on w)
      (far_as n (omega arith))
    where
      u : ℕ
      u = suc t + n

      next : tab (suc u) ≡ run (tab u) (rep (suc u))
      next = tab_next u (omega arith) (omega arith)

      on : ((i : ℕ) → suc t ≤ i → i ≤ suc t + n → Lone (tab i) slot q) → Come (suc (suc n)) ⊎ ((i : ℕ) → suc t ≤ i → i ≤ suc t + suc n → Lone (tab i) slot q)
      on w =
          ⊎_elim (λ (x : state_in (run (tab u) (rep (suc u))) slot ≡ Active).
          inl (record { at = suc u; after = omega arith; within = omega arith; active = ap (λ (v : Table). is_active (state_in v slot)) next ∙ ap is_active x }))
          (λ (x : Lone (run (tab u) (rep (suc u))) slot q).
          inr (λ i lo hi. ⊎_elim (λ (e : i ≡ suc u). rw e (subst (λ (v : Table). Lone v slot q) (sym next) x)) (λ (d : i ≢ suc u). w i lo (omega arith)) (eq_or_ne i (suc u))))
          (after_rep (tab u) (w u (omega arith) (omega arith)) (suc u))

  -- what the reply read at start T says of q, where the slot was ADD at start T - (a + 1)
  begun_road : has_begun (reached (road_of k) m₀ (t * L (road_of k)) []) ≡ 1
  unfolding road_of
  begun_road = add.readable

  delayed : (p : ℕ) → p < (road_of k).ports → (road_of k).delay p ≡ a * L (road_of k)
  unfolding road_of
  delayed p l = j.delayed p l

  fr : Fair (road_of k)
  fr = fair k (ours k j.out)

  at_t : (T : ℕ) → t + 2 ≤ T → AtStart (road_of k) fr (calls_do (road_of k) fr) m₀ (from_start k j.out j.undamaged m₀ j.started) a delayed t begun_road T
  at_t T l = at_start_lem (road_of k) fr (calls_do (road_of k) fr) m₀ (from_start k j.out j.undamaged m₀ j.started) a delayed t begun_road T l

  held_by_slot : (i : ℕ) → Lone (tab i) slot q → has_holder h i q ≡ true
  held_by_slot i l =
      some_at h.slots (λ s. is_member (state_in (tab i) s) && eqb (number_in (tab i) s) q) slot (rw (size_at h al i) at l.pending.below)
      (and-true (is_member (state_in (tab i) slot)) _ (ap is_member l.pending.add) (eq-eqb (number_in (tab i) slot) q l.pending.number))

  replies : (T i : ℕ) → t + 2 ≤ T → i + a + 1 ≡ T → Lone (tab i) slot q → Spoken (kind_of k) (number T) q → mst_fails (get_or (reply_of (at_start k m₀ T).rows (number T)) 0 0) q ≡ false
  unfolding road_of
  replies T i l is lone sp =
      let z = at_t T l in
      let same : z.i ≡ i = (let e = z.epoch in omega arith) in
      mst_table k j.out j.undamaged (at_start k m₀ T) z.stands.open_at.lined i
      (subst (λ (n : ℕ). AsTable k j.out j.undamaged (at_start k m₀ T) n) (z.last ∙ same)
      (heard_last k j.out j.undamaged m₀ j.started (T * epoch_frames k) [] (k.order (T * epoch_frames k)) refl z.F z.beginning z.told))
      (number T) q sp
      ∙ ap not (held_by_slot i lone)

  -- the start whose reply speaks of q
  soon : SpokenSoon (kind_of k) (j.back.first + (t + (a + 2))) q
  soon = spoken_soon (kind_of k) (j.back.first + (t + (a + 2))) q low

  abbrev told_at : ℕ
  told_at = t + (a + 2) + soon.after

  spoken_then : Spoken (kind_of k) (number told_at) q
  unfolding epoch_number
  spoken_then =
      let e : j.back.first + (t + (a + 2)) + soon.after ≡ j.back.first + told_at = omega arith in
      subst (λ (n : ℕ). Spoken (kind_of k) (n % epochs j.back.kind) q) e (subst (λ (n : ℕ). Spoken (kind_of k) ((j.back.first + (t + (a + 2)) + soon.after) % epochs n) q) (sym j.back_kind) soon.spoken)

  kind_at : (u : ℕ) → (tab u).kind ≡ kind_of k
  kind_at u = (sender_in h al u).kind ∙ sym (ap (λ (x : Sending). x.kind) j.out.sends)

  rep_is : rep (suc (told_at + b)) ≡ Report (number told_at) (j.back.mst told_at) (j.back.ack told_at) ∷ []
  rep_is =
      let e : suc (told_at + b) - (b + 1) ≡ told_at = omega arith in
      ap (λ (c : Bool). cond c (report_by (read_row j.back.kind (packet_row j.back.kind (packet_sent j.back (suc (told_at + b) - (b + 1)) j.from)))) []) (le-leb (b + 1) (suc (told_at + b)) (omega arith))
      ∙ ap (λ (n : ℕ). report_by (read_row j.back.kind (packet_row j.back.kind (packet_sent j.back n j.from)))) e
      ∙ report_at_lem j.back j.back_allowed told_at j.from j.from_below

  acted : ((i : ℕ) → suc t ≤ i → i ≤ told_at + b → Lone (tab i) slot q) → state_in (tab (suc (told_at + b))) slot ≡ Active
  acted w =
      let m = until_is in
      let n = soon.soon in
      let u : ℕ = told_at + b in
      let l : Lone (tab u) slot q = w u (omega arith) (omega arith) in
      let ok : mst_fails (j.back.mst told_at) q ≡ false =
      ap (λ (v : ℕ). mst_fails v q) (j.mst told_at (omega arith)) ∙ replies told_at (t + 1 + soon.after) (omega arith) (omega arith) (w (t + 1 + soon.after) (omega arith) (omega arith)) spoken_then in
      ap (λ (v : Table). state_in v slot) (tab_next u (omega arith) (omega arith) ∙ ap (λ (cs : List Call). run (tab u) cs) rep_is)
      ∙ acts (tab u) slot q l.pending (number told_at) (j.back.mst told_at) (j.back.ack told_at) (subst (λ (n : ℕ). Spoken n (number told_at) q) (sym (kind_at u)) spoken_then) ok

  pub joins : ActiveWithin (table_at j) slot t (bound (kind_of k) a b 0)
  joins =
      let m = until_is in
      let n = soon.soon in
      ⊎_elim (λ (c : Come (suc (a + 1 + soon.after + b))). record { at = c.at; after = c.after; within = let w = c.within in omega arith; active = c.active })
      (λ (w : (i : ℕ) → suc t ≤ i → i ≤ suc t + (a + 1 + soon.after + b) → Lone (tab i) slot q).
      record { at = suc (told_at + b); after = omega arith; within = omega arith; active = ap is_active (acted (λ i lo hi. w i lo (omega arith))) })
      (far_as (a + 1 + soon.after + b) (omega arith))

  -- and carries traffic in the next epoch
  slot_below : (u : ℕ) → slot < slots_in (tab u)
  slot_below u =
      subst (λ (n : ℕ). slot < n) (ap slot_count (group_call found (AddSlot slot)).count ∙ ap slot_count (count_run (tab t) add.earlier) ∙ size_at h al t ∙ sym (size_at h al u)) lone_first.pending.below

  pub carries : CarriesWithin j.out.history slot t (bound (kind_of k) a b 0 + 1)
  carries =
      let w = joins in
      record {
        epoch = suc w.at;
        after = let l = w.after in omega arith;
        within = let l = w.within in omega arith;
        carries = carries_next h al w.at slot (slot_below w.at) w.active;
      }
