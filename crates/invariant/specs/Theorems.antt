-- What holds of the receiver on every state, or after a start that is answered 0 and any calls.
use Rattle.std.specs.Prelude.{◌≡◌, ◌⊎◌, ◌≢◌, Bool, true, false, not, ◌&&◌, List, [], ◌∷◌, ℕ, suc, ◌+◌, ◌-◌, ◌*◌, ◌%◌, ◌≤◌, ◌<◌, get_or, length, ◌==◌}
use Rattle.ground.specs.Drawn.{fill_at}
use Rattle.ground.specs.Table.{tabulate}
use Rattle.judge.specs.Cause.{cause_of, mark_of}
use Rattle.judge.specs.Marked.{Standing}
use Rattle.judge.specs.Numbers.{number_at}
use Rattle.judge.specs.Order.{active_in, order_of, port_of}
use Rattle.judge.specs.Verdict.{HELD, SURE, judge_of}
use Rattle.packet.specs.Kinds.{epoch_after, epoch_of, fixed_kind, frames, tags}
use Rattle.packet.specs.Layout.{fields_of}
use Rattle.packet.specs.Ruling.{fields_in}
use Rattle.packet.specs.Words.{FIXED}
use Rattle.phases.specs.Beginning.{begins, foremost}
use Rattle.phases.specs.Settling.{settled_of}
use Rattle.phases.specs.Sizes.{known_kind, ports_in}
use Rattle.receiver.specs.Anew.{anew_answer, anew_rows}
use Rattle.receiver.specs.Cause.{cause_out}
use Rattle.receiver.specs.Fetch.{due_in, fetch_of, lent_fits, report_if_due}
use Rattle.receiver.specs.Frame.{frame_of, settled_by, taken_in}
use Rattle.receiver.specs.Behind.{Near, behind_in}
use Rattle.receiver.specs.Heard.{heard_of as said_of, silence}
use Rattle.receiver.specs.Laws.Behind as Behind
use Rattle.receiver.specs.Laws.Carried as Carried
use Rattle.receiver.specs.Report.{frame_bytes, report_byte, ruling_epoch, seen_all, seen_of}
use Rattle.receiver.specs.Seen.{carried_at, other_at}
use Rattle.receiver.specs.Settings.{settings_of}
use Rattle.receiver.specs.Shown.{reply_of}
use Rattle.receiver.specs.Starting.{start_as_answer}
use Rattle.reply.specs.Members as R
use Rattle.reply.specs.Members.{fail_state, idle_state, ok_state}
use Rattle.reply.specs.Telling.{ack_of}
use Rattle.reply.specs.Waiting.{no_standing}
use Rattle.reply.specs.Zero.{states_of}
use Rattle.rows.specs.declared.group.Group.{Group}
use Rattle.rows.specs.Group.{group_at}
use Rattle.rows.specs.Member.{member_at}
use Rattle.rows.specs.Port.{port_at}
use Rattle.rows.specs.Step.{step_at}
use Rattle.step.specs.Arrival.{flag_of, in_step}
use Rattle.store.specs.Frames.{h4_at, place_in}
use Rattle.store.specs.Marks.{first_mark}
use Rattle.invariant.specs.Calls.{Receiver, ReceiverCall, port_after, receiver_after, receiver_run, started_with}
use Rattle.invariant.specs.Claims.{Claimed, HandedBy, HandedLast, tag_in}
use Rattle.invariant.specs.Kept.Group.{Kept}
use Rattle.invariant.specs.Proofs.Kept.Calls as EachCall
use Rattle.invariant.specs.Words.{Unflagged}
use Rattle.invariant.specs.Heard.{Fourth, Recorded, Second}
use Rattle.invariant.specs.Live.{Live, heard_of, is_heard}
use Rattle.invariant.specs.Proofs.Calls as Calls
use Rattle.invariant.specs.Proofs.Claimed as Claims
use Rattle.invariant.specs.Proofs.Live.Calls as Lives
use Rattle.invariant.specs.Proofs.Live.Lost as Losing
use Rattle.invariant.specs.Proofs.Numbered as Numbered
use Rattle.invariant.specs.Proofs.OwnBits.Calls as OwnBits
use Rattle.invariant.specs.Proofs.Read.Anew as Anew
use Rattle.invariant.specs.Proofs.Read.Behind as Waiting
use Rattle.invariant.specs.Proofs.Read.Heard as Back
use Rattle.invariant.specs.Proofs.Read.InOrder as Following
use Rattle.invariant.specs.Proofs.Read.Sizes as Settings
use Rattle.invariant.specs.Proofs.Reports.Ack as Ack
use Rattle.invariant.specs.Proofs.Reports.Bytes as Bytes
use Rattle.invariant.specs.Proofs.Reports.Cause as Cause
use Rattle.invariant.specs.Proofs.Reports.Fixed as Fixed
use Rattle.invariant.specs.Proofs.Reports.HandedAgain as Again
use Rattle.invariant.specs.Proofs.Reports.Held as Held
use Rattle.invariant.specs.Proofs.Reports.Order as Order
use Rattle.invariant.specs.Proofs.Reports.Seen as Seen
use Rattle.invariant.specs.Proofs.Ruled as Rules
use Rattle.invariant.specs.Proofs.Settles as Settles
use Rattle.invariant.specs.Proofs.Times.Between as Between
use Rattle.invariant.specs.Proofs.Times.Calls as Times
use Rattle.invariant.specs.Proofs.Times.Waits as Waits
use Rattle.invariant.specs.Read.{AllSaidIn, HeardFrom, Stopped, flag_calls, heards_of}
use Rattle.invariant.specs.Reports.{ByNumber, Given, HeldReport, Others, Refused, SameRule, Stored, Unstopped, ack_in, next_report, passed_rows, port_seen, report_ports, reports_of, successive}
use Rattle.invariant.specs.Ruled.{OneEpoch}
use Rattle.step.specs.OwnCount.{without_mfi2}
use Rattle.step.specs.Run.{in_step_at}
use Rattle.step.specs.Words.{InStepExactly}
use Rattle.invariant.specs.Times.{SameShown, outcomes_of, standing_in, standings_after}
use Rattle.invariant.specs.Waits.{Claimant, InARow, Unclaimed, Zeros, saw_of}

-- After any calls.

pub kept : (kind count P W : ℕ) (hold restore : List ℕ) (rows : List (List ℕ)) (store : List ℕ) → start_as_answer kind count P W (length store) hold restore (length rows) ≡ 0 → (calls : List ReceiverCall)
    → Kept (receiver_run (started_with kind count P W hold restore rows store) calls).rows
kept = Calls.kept

-- one call keeps it, whatever store is lent with it
pub frame_kept : (s : List (List ℕ)) → Kept s → (i : ℕ) (failed : Bool) (h : ℕ) (payload store : List ℕ) → Kept (frame_of s i failed h payload store).rows
frame_kept = EachCall.frame_kept

pub fetch_kept : (s : List (List ℕ)) → Kept s → (store out report : List ℕ) → Kept (fetch_of s store out report).rows
fetch_kept = EachCall.fetch_kept

-- R-7: after a frame, stopping, beginning and gathering may be tested always or only where taken_of says so
pub settles_always : (s : List (List ℕ)) → Kept s → (i : ℕ) (failed : Bool) (h : ℕ) → i < (group_at s).count → (store : List ℕ)
    → settled_by (taken_in s i failed h).settles (group_at s).count store (port_after s i failed h) ≡ settled_of (group_at s).count store (port_after s i failed h)
settles_always s k i failed h b store = Settles.settles_always s k i failed h b store

-- Every frame that a port claims was handed in one of the calls, and has been claimed after each call since: it is the last one handed with its tag since the port joined.
pub claimed_handed : (tag : ℕ) (bytes : List ℕ) (h4 kind count P W : ℕ) (hold restore : List ℕ) (rows : List (List ℕ)) (store : List ℕ) → start_as_answer kind count P W (length store) hold restore (length rows) ≡ 0
    → (calls : List ReceiverCall) (j : ℕ) → j < count
    → Claimed (receiver_run (started_with kind count P W hold restore rows store) calls).rows (receiver_run (started_with kind count P W hold restore rows store) calls).store j tag bytes h4
    → HandedLast tag bytes h4 (started_with kind count P W hold restore rows store) calls j
claimed_handed = Claims.claimed_handed

-- as a relation between two calls: it was claimed before, or is the one just handed
pub call_claimed : (tag : ℕ) (bytes : List ℕ) (h4 : ℕ) (x : Receiver) (c : ReceiverCall) → Kept x.rows → (j : ℕ) → j < (group_at x.rows).count
    → Claimed (receiver_after x c).rows (receiver_after x c).store j tag bytes h4 → Claimed x.rows x.store j tag bytes h4 ⊎ HandedBy tag bytes h4 x c j
call_claimed = Claims.call_claimed

-- a port's first mark says that all frames of the oldest epoch stand in the store
pub mark_claimed : (s : List (List ℕ)) (store : List ℕ) (j : ℕ) → flag_of (group_at s).begun ≡ true → first_mark (port_at s j).marks ≡ true → (d : ℕ) → d < frames (group_at s).kind
    → Claimed s store j (tag_in (group_at s) d) (tabulate (group_at s).payload (λ k. get_or store (place_in (group_at s) j d + k) 0)) (h4_at (group_at s) j d store)
mark_claimed = Claims.mark_claimed

-- all packets that rule are of one epoch, the one before the oldest
pub one_epoch : (kind count P W : ℕ) (hold restore : List ℕ) (rows : List (List ℕ)) (store : List ℕ) → start_as_answer kind count P W (length store) hold restore (length rows) ≡ 0 → (calls : List ReceiverCall)
    → OneEpoch (started_with kind count P W hold restore rows store) calls
one_epoch = Rules.one_epoch

-- of H4, on every state, a packet that rules and is read as good carries that epoch's number (request 2026-04)
pub own_number_lem : (g : Group) (s : List (List ℕ)) (i : ℕ) → without_mfi2 g.kind ≡ false → (seen_of g s i).good ≡ true → (fields_of (port_at s i).ruling).epoch ≡ ruling_epoch g
own_number_lem = Numbered.own_number_lem

-- of a packet without MFI2 the step rule sees to it: after any calls each whole one that rules carries that number, whatever else it says (request 2026-01)
pub own_count : (kind count P W : ℕ) (hold restore : List ℕ) (rows : List (List ℕ)) (store : List ℕ) → start_as_answer kind count P W (length store) hold restore (length rows) ≡ 0 → (calls : List ReceiverCall) (j : ℕ) → j < count
    → (let s = (receiver_run (started_with kind count P W hold restore rows store) calls).rows in
    without_mfi2 kind ≡ true → (seen_of (group_at s) s j).whole ≡ true → (fields_in kind (port_at s j).ruling).epoch ≡ ruling_epoch (group_at s))
own_count = OwnBits.own_count

-- so of every kind after any calls: a packet that rules, is whole and read as good carries its epoch's number
pub ruling_number : (kind count P W : ℕ) (hold restore : List ℕ) (rows : List (List ℕ)) (store : List ℕ) → start_as_answer kind count P W (length store) hold restore (length rows) ≡ 0 → (calls : List ReceiverCall) (j : ℕ) → j < count
    → (let s = (receiver_run (started_with kind count P W hold restore rows store) calls).rows in
    (seen_of (group_at s) s j).whole ≡ true → (seen_of (group_at s) s j).good ≡ true → (fields_in kind (port_at s j).ruling).epoch ≡ ruling_epoch (group_at s))
ruling_number = Numbered.ruling_number

-- VC-12's step rule in the request's words: 'in step after two whole packets in a row whose counts differ by one'. After any calls with no flagged frame of the port, it is in step exactly if the bytes that it has heard end so.
pub step_words : (kind count P W : ℕ) (hold restore : List ℕ) (rows : List (List ℕ)) (store : List ℕ) → start_as_answer kind count P W (length store) hold restore (length rows) ≡ 0
    → without_mfi2 kind ≡ true → (calls : List ReceiverCall) (j : ℕ) → j < count → Unflagged j calls
    → InStepExactly kind (heard_of j (started_with kind count P W hold restore rows store) calls []) (port_at (receiver_run (started_with kind count P W hold restore rows store) calls).rows j).step.count
step_words kind count P W hold restore rows store e free calls j b none = Lives.step_words kind count P W hold restore rows store e calls j b free none

-- The packet being gathered (request 2026-04): in every phase the symbols of a run's last frames stand at their own places, and at own MFI1 7 of a port in step it is the packet that came.
pub live_row : (kind count P W : ℕ) (hold restore : List ℕ) (rows : List (List ℕ)) (store : List ℕ) → start_as_answer kind count P W (length store) hold restore (length rows) ≡ 0
    → (calls : List ReceiverCall) (j : ℕ) → j < count
    → Live kind (port_at (receiver_run (started_with kind count P W hold restore rows store) calls).rows j) (heard_of j (started_with kind count P W hold restore rows store) calls [])
live_row = Lives.live_row

-- Losing step (request 2026-04), of H4 and of the frames heard of a port, after any start and any calls, of a port in step.

-- `breaks` is the number of the latest heard frames in a row that do not count by the own count, and `odd` says whether the last packet that ended had a right CRC and another MFI2
pub recorded : (kind count P W : ℕ) (hold restore : List ℕ) (rows : List (List ℕ)) (store : List ℕ) → start_as_answer kind count P W (length store) hold restore (length rows) ≡ 0
    → (calls : List ReceiverCall) (j : ℕ) → j < count → without_mfi2 kind ≡ false
    → (let p = port_at (receiver_run (started_with kind count P W hold restore rows store) calls).rows j in
    in_step_at kind p.step.count ≡ true → Recorded kind p (heard_of j (started_with kind count P W hold restore rows store) calls []))
recorded = Losing.recorded

-- a frame that is not flagged and not answered 1, 9 or 11 is answered 12 exactly if it is the fourth in a row that breaks the count or ends the second packet in a row with right CRC and another MFI2, whether the port has joined and receiving has begun or not
pub lost_heard : (kind count P W : ℕ) (hold restore : List ℕ) (rows : List (List ℕ)) (store : List ℕ) → start_as_answer kind count P W (length store) hold restore (length rows) ≡ 0
    → (calls : List ReceiverCall) (j : ℕ) → j < count → without_mfi2 kind ≡ false
    → (let x = receiver_run (started_with kind count P W hold restore rows store) calls in
    let next = (port_at x.rows j).step.next in
    let heard = heard_of j (started_with kind count P W hold restore rows store) calls [] in
    in_step_at kind (port_at x.rows j).step.count ≡ true → (h : ℕ) (payload : List ℕ) → is_heard (frame_of x.rows j false h payload x.store).answer ≡ true
    → ((frame_of x.rows j false h payload x.store).answer ≡ 12 → Fourth kind next h heard ⊎ Second kind next h heard)
    × (Fourth kind next h heard ⊎ Second kind next h heard → (frame_of x.rows j false h payload x.store).answer ≡ 12))
lost_heard = Losing.lost_heard

-- Reports, on every state.

-- The minutes' item 1: the bytes of a report that is not held are the join under one order, sixteen group frames, and the output beyond them stays.
pub report_bytes_lem : (s : List (List ℕ)) (store out report : List ℕ) → lent_fits s store out report ≡ true → due_in (group_at s) (ports_in (group_at s)) s ≡ true
    → judge_of (group_at s).kind (seen_all (group_at s) s (ports_in (group_at s))) (ports_in (group_at s)) ≢ HELD
    → (fetch_of s store out report).out
    ≡ fill_at 0 (frames (group_at s).kind * frame_bytes (group_at s) (seen_all (group_at s) s (ports_in (group_at s))) (ports_in (group_at s)))
    (report_byte (group_at s) (seen_all (group_at s) s (ports_in (group_at s))) (ports_in (group_at s)) store) out
report_bytes_lem = Bytes.report_bytes_lem

-- the order is read from the packets that rule and from nothing else
pub order_same : (g : Group) (s t : List (List ℕ)) (n : ℕ) → n ≤ 64 → SameRule n s t → order_of (seen_all g s n) n ≡ order_of (seen_all g t n) n
order_same g s t n h same = Seen.order_same g s t n h same

-- The minutes' item 2: a report one of whose whole ruling packets is refused is held, and no output byte changes.

pub held_report : (s : List (List ℕ)) (i : ℕ) → Refused s i → due_in (group_at s) (ports_in (group_at s)) s ≡ true → HeldReport (report_if_due (group_at s) (ports_in (group_at s)) s) (group_at s).oldest
held_report s i o = Held.held_report s i o

pub held_out : (s : List (List ℕ)) (i : ℕ) → Refused s i → (store out report : List ℕ) → (fetch_of s store out report).out ≡ out
held_out s i o = Held.held_out s i o

-- The cause of a report, byte 3 of its record: by the packets of the ports that the report saw, the first clause in 01's order that holds; and the mark is what that cause makes of it. With none due it is 0.

pub report_cause : (s : List (List ℕ)) (store out report : List ℕ) → Given s store out report
    → get_or (fetch_of s store out report).report 3 0 ≡ cause_of (group_at s).kind (seen_all (group_at s) s (ports_in (group_at s))) (ports_in (group_at s))
report_cause = Cause.report_cause

pub mark_cause : (s : List (List ℕ)) (store out report : List ℕ) → Given s store out report
    → get_or (fetch_of s store out report).report 0 0 ≡ mark_of (group_at s).kind (get_or (fetch_of s store out report).report 3 0)
mark_cause = Cause.mark_cause

pub none_cause : (s : List (List ℕ)) (store out report : List ℕ) → lent_fits s store out report ≡ true → due_in (group_at s) (ports_in (group_at s)) s ≡ false
    → get_or (fetch_of s store out report).report 3 0 ≡ 0
none_cause = Cause.none_cause

-- after any calls the cause is read before the report is fetched: what is read then is what the next fetch says
pub cause_read : (kind count P W : ℕ) (hold restore : List ℕ) (rows : List (List ℕ)) (store : List ℕ) → start_as_answer kind count P W (length store) hold restore (length rows) ≡ 0
    → (calls : List ReceiverCall) (out report lent : List ℕ) → length lent ≡ 2
    → (let x = receiver_run (started_with kind count P W hold restore rows store) calls in
    Given x.rows x.store out report → get_or (cause_out x.rows lent) 0 0 ≡ get_or (fetch_of x.rows x.store out report).report 3 0)
cause_read kind count P W hold restore rows store e calls out report lent l o =
    Cause.cause_read (receiver_run (started_with kind count P W hold restore rows store) calls).rows (receiver_run (started_with kind count P W hold restore rows store) calls).store out report o lent l

-- Reports come in order, with no gap, from the first one after a beginning until receiving stops.

pub first_reported : (s : List (List ℕ)) (i : ℕ) (failed : Bool) (h : ℕ) (payload store : List ℕ) → flag_of (group_at s).begun ≡ false
    → flag_of (group_at (frame_of s i failed h payload store).rows).begun ≡ true
    → next_report (group_at (frame_of s i failed h payload store).rows)
    ≡ epoch_after (group_at s).kind (epoch_after (group_at s).kind (epoch_of (group_at s).kind (foremost (group_at s) (port_after s i failed h) (ports_in (group_at s)))))
first_reported = Order.first_reported

pub in_order_lem : (x : Receiver) (calls : List ReceiverCall) → flag_of (group_at x.rows).begun ≡ true → Unstopped x calls
    → reports_of x calls ≡ successive (group_at x.rows).kind (next_report (group_at x.rows)) (length (reports_of x calls))
in_order_lem = Order.in_order_lem

-- 'the host may hand the frame again after a report': a frame answered 11, with no other frame of that port and no stop in between, is then answered 0 and stored
pub again : (x : Receiver) → Kept x.rows → (i : ℕ) (failed : Bool) (h : ℕ) (payload : List ℕ) → (frame_of x.rows i failed h payload x.store).answer ≡ 11
    → (calls : List ReceiverCall) → Others i calls → Unstopped x calls → (reports_of x calls ≡ [] → ⊥) → Stored (receiver_run x calls) i failed h payload
again = Again.again

-- RS-Ack turns over at most once a report, at no other call, and there as 01 says.

pub frame_ack : (s : List (List ℕ)) (i : ℕ) (failed : Bool) (h : ℕ) (payload store : List ℕ) → ack_in (frame_of s i failed h payload store).rows ≡ ack_in s
frame_ack = Ack.frame_ack

pub none_ack : (s : List (List ℕ)) (store out report : List ℕ) → (lent_fits s store out report && due_in (group_at s) (ports_in (group_at s)) s) ≡ false
    → ack_in (fetch_of s store out report).rows ≡ ack_in s
none_ack = Ack.none_ack

-- after a report of any mark it is `ack_of` of the ports that the report saw: it turns over exactly where `turns` says so of their words and numbers and those of the report before
pub report_ack : (s : List (List ℕ)) (store out report : List ℕ) → Given s store out report
    → ack_in (fetch_of s store out report).rows ≡ ack_of (report_ports s store) (ports_in (group_at s)) (ack_in s)
report_ack = Ack.report_ack

-- each of them by its own records as the epoch has passed
pub report_port : (s : List (List ℕ)) (store : List ℕ) (i : ℕ) → i < ports_in (group_at s) → R.port_at (report_ports s store) i ≡ port_seen (passed_rows s store) i
report_port = Ack.report_port

pub report_turns : (s : List (List ℕ)) (store out report : List ℕ) → Given s store out report → ack_in s ≤ 1
    → (ack_in (fetch_of s store out report).rows ≡ ack_in s) ⊎ (ack_in (fetch_of s store out report).rows ≡ 1 - ack_in s)
report_turns = Ack.report_turns

-- 'Only the reply changes' (02, 2026-03): two receivers started alike but for their times, whatever stood in their rows, give the same for ever at the same calls.

-- answers, stores, outputs and the records of reports
pub times_apart : (kind count P W : ℕ) (hold restore hold₂ restore₂ : List ℕ) (rows rows₂ : List (List ℕ)) (store : List ℕ)
    → start_as_answer kind count P W (length store) hold restore (length rows) ≡ 0 → start_as_answer kind count P W (length store) hold₂ restore₂ (length rows₂) ≡ 0
    → (calls : List ReceiverCall)
    → outcomes_of (started_with kind count P W hold restore rows store) calls ≡ outcomes_of (started_with kind count P W hold₂ restore₂ rows₂ store) calls
times_apart = Times.times_apart

-- RS-Ack, and what is shown of the ports but for states
pub times_shown : (kind count P W : ℕ) (hold restore hold₂ restore₂ : List ℕ) (rows rows₂ : List (List ℕ)) (store : List ℕ)
    → start_as_answer kind count P W (length store) hold restore (length rows) ≡ 0 → start_as_answer kind count P W (length store) hold₂ restore₂ (length rows₂) ≡ 0
    → (calls : List ReceiverCall)
    → SameShown (receiver_run (started_with kind count P W hold restore rows store) calls).rows (receiver_run (started_with kind count P W hold₂ restore₂ rows₂ store) calls).rows
times_shown = Times.times_shown

-- two starts in the same rows that are refused alike leave the same receiver
pub times_refused : (kind count P W : ℕ) (hold restore hold₂ restore₂ : List ℕ) (rows : List (List ℕ)) (store : List ℕ)
    → start_as_answer kind count P W (length store) hold restore (length rows) ≡ start_as_answer kind count P W (length store) hold₂ restore₂ (length rows)
    → start_as_answer kind count P W (length store) hold restore (length rows) ≢ 0
    → started_with kind count P W hold restore rows store ≡ started_with kind count P W hold₂ restore₂ rows store
times_refused = Times.times_refused

-- The timers of 2026-03 count reports: no frame, whatever follows from it, and no fetch with none due changes a port's state, its number, its times or its counter.

pub frame_standing : (port : ℕ) (s : List (List ℕ)) (i : ℕ) (failed : Bool) (h : ℕ) (payload store : List ℕ) → standing_in (frame_of s i failed h payload store).rows port ≡ standing_in s port
frame_standing = Between.frame_standing

pub none_standing : (port : ℕ) (s : List (List ℕ)) (store out report : List ℕ) → (lent_fits s store out report && due_in (group_at s) (ports_in (group_at s)) s) ≡ false
    → standing_in (fetch_of s store out report).rows port ≡ standing_in s port
none_standing = Between.none_standing

-- a report leaves what it works out of them, and the times as they are
pub report_standing : (port : ℕ) (s : List (List ℕ)) (store out report : List ℕ) → Given s store out report → port < ports_in (group_at s)
    → standing_in (fetch_of s store out report).rows port
    ≡ (let left = get_or (standings_after s store) port no_standing in left.state ∷ left.number ∷ (member_at s port).hold_off ∷ (member_at s port).restore ∷ left.elapsed ∷ [])
report_standing = Between.report_standing

-- Hold-off and wait-to-restore over the receiver's runs (02, 2026-03), after any start and any calls, of the report that comes next.

-- 'An OK port that loses its claim goes FAIL only when it has stayed so for the hold-off': a report leaves FAIL of an OK port exactly if it is the last of h + 1 in a row that saw the port without its claim, h being the port's hold-off
pub fail_exactly : (kind count P W : ℕ) (hold restore : List ℕ) (rows : List (List ℕ)) (store : List ℕ) → start_as_answer kind count P W (length store) hold restore (length rows) ≡ 0
    → (calls : List ReceiverCall)
    → (let x = receiver_run (started_with kind count P W hold restore rows store) calls in
    let saw = report_ports x.rows x.store ∷ saw_of (started_with kind count P W hold restore rows store) calls [] in
    (out report : List ℕ) → Given x.rows x.store out report → (i : ℕ) → i < count → (member_at x.rows i).state ≡ ok_state
    → ((member_at (fetch_of x.rows x.store out report).rows i).state ≡ fail_state → InARow (Unclaimed count i) (suc (get_or hold i 0)) saw)
    × (InARow (Unclaimed count i) (suc (get_or hold i 0)) saw → (member_at (fetch_of x.rows x.store out report).rows i).state ≡ fail_state))
fail_exactly = Waits.fail_exactly

-- until then it is OK under the number that it had
pub number_kept : (kind count P W : ℕ) (hold restore : List ℕ) (rows : List (List ℕ)) (store : List ℕ) → start_as_answer kind count P W (length store) hold restore (length rows) ≡ 0
    → (calls : List ReceiverCall)
    → (let x = receiver_run (started_with kind count P W hold restore rows store) calls in
    (out report : List ℕ) → Given x.rows x.store out report → (i : ℕ) → i < count → (member_at x.rows i).state ≡ ok_state
    → Unclaimed count i (report_ports x.rows x.store) → (member_at (fetch_of x.rows x.store out report).rows i).state ≢ fail_state
    → ((member_at (fetch_of x.rows x.store out report).rows i).state ≡ ok_state)
    × ((member_at (fetch_of x.rows x.store out report).rows i).state_number ≡ (member_at x.rows i).state_number))
number_kept = Waits.number_kept

-- 'A FAIL port goes OK only when its claim has stood for the wait-to-restore': a report leaves OK of a FAIL port exactly if it is the last of r + 1 in a row that saw the port with its claim, r being its wait-to-restore
pub ok_exactly : (kind count P W : ℕ) (hold restore : List ℕ) (rows : List (List ℕ)) (store : List ℕ) → start_as_answer kind count P W (length store) hold restore (length rows) ≡ 0
    → (calls : List ReceiverCall)
    → (let x = receiver_run (started_with kind count P W hold restore rows store) calls in
    let saw = report_ports x.rows x.store ∷ saw_of (started_with kind count P W hold restore rows store) calls [] in
    (out report : List ℕ) → Given x.rows x.store out report → (i : ℕ) → i < count → (member_at x.rows i).state ≡ fail_state
    → ((member_at (fetch_of x.rows x.store out report).rows i).state ≡ ok_state → InARow (Claimant count i) (suc (get_or restore i 0)) saw)
    × (InARow (Claimant count i) (suc (get_or restore i 0)) saw → (member_at (fetch_of x.rows x.store out report).rows i).state ≡ ok_state))
ok_exactly = Waits.ok_exactly

-- 'Zero and zero is today's behaviour': from a start with empty lists or zeros every report leaves the states that 01's rule gives of the ports that it saw, each under its port's number
pub today : (kind count P W : ℕ) (hold restore : List ℕ) (rows : List (List ℕ)) (store : List ℕ) → start_as_answer kind count P W (length store) hold restore (length rows) ≡ 0
    → (calls : List ReceiverCall) → Zeros hold → Zeros restore
    → (let x = receiver_run (started_with kind count P W hold restore rows store) calls in
    (out report : List ℕ) → Given x.rows x.store out report → (i : ℕ) → i < count
    → ((member_at (fetch_of x.rows x.store out report).rows i).state ≡ get_or (states_of (report_ports x.rows x.store) count) i idle_state)
    × ((member_at (fetch_of x.rows x.store out report).rows i).state_number ≡ (R.port_at (report_ports x.rows x.store) i).number))
today = Waits.today

-- Fixed groups (request 2026-12), on every state: a due report is sure exactly where every port has a whole good ruling packet and brought its frames, and the numbers are 0 to X-1, X being the number of ports. Otherwise it is held.

pub fixed_sure : (s : List (List ℕ)) → (group_at s).kind ≡ fixed_kind → due_in (group_at s) (ports_in (group_at s)) s ≡ true
    → Standing (seen_all (group_at s) s (ports_in (group_at s))) (ports_in (group_at s)) → (report_if_due (group_at s) (ports_in (group_at s)) s).mark ≡ SURE
fixed_sure = Fixed.fixed_sure

pub sure_fixed : (s : List (List ℕ)) → (group_at s).kind ≡ fixed_kind → due_in (group_at s) (ports_in (group_at s)) s ≡ true
    → (report_if_due (group_at s) (ports_in (group_at s)) s).mark ≡ SURE → Standing (seen_all (group_at s) s (ports_in (group_at s))) (ports_in (group_at s))
sure_fixed = Fixed.sure_fixed

pub fixed_else : (s : List (List ℕ)) → (group_at s).kind ≡ fixed_kind → due_in (group_at s) (ports_in (group_at s)) s ≡ true
    → (report_if_due (group_at s) (ports_in (group_at s)) s).mark ≢ SURE → (report_if_due (group_at s) (ports_in (group_at s)) s).mark ≡ HELD
fixed_else = Fixed.fixed_else

-- the order under which a sure one's bytes are joined (report_bytes_lem): all ports, each at the rank of its number
pub fixed_order : (s : List (List ℕ)) → (group_at s).kind ≡ fixed_kind → due_in (group_at s) (ports_in (group_at s)) s ≡ true → (report_if_due (group_at s) (ports_in (group_at s)) s).mark ≡ SURE
    → (active_in (seen_all (group_at s) s (ports_in (group_at s))) (ports_in (group_at s)) ≡ ports_in (group_at s))
    × ((r : ℕ) → r < ports_in (group_at s)
    → (port_of (seen_all (group_at s) s (ports_in (group_at s))) (ports_in (group_at s)) r < ports_in (group_at s))
    × (number_at (seen_all (group_at s) s (ports_in (group_at s))) (port_of (seen_all (group_at s) s (ports_in (group_at s))) (ports_in (group_at s)) r) ≡ r))
fixed_order = Fixed.fixed_order

-- and those bytes, in one: sixteen group frames of all X ports in the order of the numbers that their ruling packets carry, and the output beyond them as it was
pub fixed_bytes : (s : List (List ℕ)) → (group_at s).kind ≡ fixed_kind → due_in (group_at s) (ports_in (group_at s)) s ≡ true → (store out report : List ℕ) → lent_fits s store out report ≡ true
    → (report_if_due (group_at s) (ports_in (group_at s)) s).mark ≡ SURE → ByNumber s store out (fetch_of s store out report).out
fixed_bytes = Fixed.fixed_bytes

-- a whole ruling packet with another word is refused, so its epoch is held (held_report): a stream with LCAS is never read
pub fixed_foreign : (s : List (List ℕ)) (i : ℕ) → (group_at s).kind ≡ fixed_kind → i < ports_in (group_at s) → flag_of (port_at s i).step.whole ≡ true
    → get_or (port_at s i).ruling 10 0 % 16 ≢ FIXED → Refused s i
fixed_foreign = Fixed.fixed_foreign

-- and on every state a group with ports is of a kind that the product knows
pub known_kind_lem : (g : Group) → 0 < ports_in g → known_kind g.kind ≡ true
known_kind_lem = Fixed.known_kind_lem

-- 'A set number of ports never changes while running': X is the number set at the start, after any calls from it
pub fixed_stays : (count P W : ℕ) (hold restore : List ℕ) (rows : List (List ℕ)) (store : List ℕ) → start_as_answer fixed_kind count P W (length store) hold restore (length rows) ≡ 0 → (calls : List ReceiverCall)
    → ((group_at (receiver_run (started_with fixed_kind count P W hold restore rows store) calls).rows).kind ≡ fixed_kind)
    × (ports_in (group_at (receiver_run (started_with fixed_kind count P W hold restore rows store) calls).rows) ≡ count)
fixed_stays = Fixed.fixed_stays

-- and MST reads 00 in every epoch, and RS-Ack 0
pub fixed_told : (count P W : ℕ) (hold restore : List ℕ) (rows : List (List ℕ)) (store : List ℕ) → start_as_answer fixed_kind count P W (length store) hold restore (length rows) ≡ 0 → (calls : List ReceiverCall) (e : ℕ)
    → reply_of (receiver_run (started_with fixed_kind count P W hold restore rows store) calls).rows e ≡ 0 ∷ 0 ∷ []
fixed_told = Fixed.fixed_told

-- What the host reads out beside ports and reply.

-- Seen, on every state: a packet is good exactly if it was read with 0 and carries no other number than the own count's, and then a fetch judges by the word, number and GID that it carries.
pub seen_good : (g : Group) (s : List (List ℕ)) (i : ℕ) → (seen_of g s i).good ≡ (not (other_at g s i) && (carried_at g s i).answer == 0)
seen_good = Carried.seen_good

pub seen_word : (g : Group) (s : List (List ℕ)) (i : ℕ) → (seen_of g s i).good ≡ true → (seen_of g s i).word ≡ (carried_at g s i).word
seen_word = Carried.seen_word

pub seen_number : (g : Group) (s : List (List ℕ)) (i : ℕ) → (seen_of g s i).good ≡ true → (seen_of g s i).number ≡ (carried_at g s i).number
seen_number = Carried.seen_number

pub seen_gid : (g : Group) (s : List (List ℕ)) (i : ℕ) → (seen_of g s i).good ≡ true → (seen_of g s i).gid ≡ (carried_at g s i).gid
seen_gid = Carried.seen_gid

-- Heard, on every state: the packet of the lowest port whose packet is whole and good, or nothing.
pub heard_from : (g : Group) (s : List (List ℕ)) (n : ℕ) → HeardFrom g s n
heard_from = Back.heard_from

-- after any calls of every kind: the epoch heard is the one before the oldest
pub heard_epoch : (kind count P W : ℕ) (hold restore : List ℕ) (rows : List (List ℕ)) (store : List ℕ) → start_as_answer kind count P W (length store) hold restore (length rows) ≡ 0 → (calls : List ReceiverCall)
    → (let s = (receiver_run (started_with kind count P W hold restore rows store) calls).rows in
    let heard = said_of (group_at s) s (ports_in (group_at s)) in
    get_or heard 0 0 ≡ 1 → get_or heard 1 0 ≡ ruling_epoch (group_at s))
heard_epoch = Back.heard_epoch

-- and after a report that one is the epoch of the report
pub heard_reported : (kind count P W : ℕ) (hold restore : List ℕ) (rows : List (List ℕ)) (store : List ℕ) → start_as_answer kind count P W (length store) hold restore (length rows) ≡ 0 → (calls : List ReceiverCall)
    → (let x = receiver_run (started_with kind count P W hold restore rows store) calls in
    (out report : List ℕ) → Given x.rows x.store out report
    → ruling_epoch (group_at (fetch_of x.rows x.store out report).rows) ≡ (report_if_due (group_at x.rows) (ports_in (group_at x.rows)) x.rows).epoch)
heard_reported = Back.heard_reported

-- So over all calls, also across a stop: after each report nothing is heard, or what a packet of the report's epoch says.
pub heard_each : (kind count P W : ℕ) (hold restore : List ℕ) (rows : List (List ℕ)) (store : List ℕ) → start_as_answer kind count P W (length store) hold restore (length rows) ≡ 0 → (calls : List ReceiverCall)
    → (let x = started_with kind count P W hold restore rows store in AllSaidIn (reports_of x calls) (heards_of x calls))
heard_each = Following.heard_each

-- And while receiving goes on the epochs heard follow one another, each the one after the one before: what was said before a turn of RS-Ack is never heard after it. Across a stop they need not.
pub heard_in_order : (kind count P W : ℕ) (hold restore : List ℕ) (rows : List (List ℕ)) (store : List ℕ) → start_as_answer kind count P W (length store) hold restore (length rows) ≡ 0
    → (before calls : List ReceiverCall)
    → (let x = receiver_run (started_with kind count P W hold restore rows store) before in
    flag_of (group_at x.rows).begun ≡ true → Unstopped x calls
    → AllSaidIn (successive kind (next_report (group_at x.rows)) (length (reports_of x calls))) (heards_of x calls))
heard_in_order = Following.heard_in_order

-- nothing is heard until the first epoch is gathered
pub heard_late : (kind count P W : ℕ) (hold restore : List ℕ) (rows : List (List ℕ)) (store : List ℕ) → start_as_answer kind count P W (length store) hold restore (length rows) ≡ 0 → (calls : List ReceiverCall)
    → (let s = (receiver_run (started_with kind count P W hold restore rows store) calls).rows in
    flag_of (group_at s).gathered ≡ false → said_of (group_at s) s (ports_in (group_at s)) ≡ silence)
heard_late = Back.heard_late

-- Behind, on every state: of a port in step it is a number of tags, 0 to 4,095, of VC-12 to 1,023.
pub behind_lt : (g : Group) (s : List (List ℕ)) (n i : ℕ) → in_step g (step_at s i) ≡ true → behind_in g s n i < tags g.kind
behind_lt = Behind.behind_lt

-- On every state receiving begins exactly if every port is ready, one is in step, and none in step lies more than W - 16 behind the foremost, of VC-12 W - 32.

pub near_begins : (g : Group) (s : List (List ℕ)) (n : ℕ) → Near g s n → begins g s n ≡ true
near_begins = Behind.near_begins

pub begins_near : (g : Group) (s : List (List ℕ)) (n : ℕ) → begins g s n ≡ true → Near g s n
begins_near = Behind.begins_near

-- so after any calls a receiver that has not begun is not near
pub near_begun : (kind count P W : ℕ) (hold restore : List ℕ) (rows : List (List ℕ)) (store : List ℕ) → start_as_answer kind count P W (length store) hold restore (length rows) ≡ 0 → (calls : List ReceiverCall)
    → (let s = (receiver_run (started_with kind count P W hold restore rows store) calls).rows in
    Near (group_at s) s (ports_in (group_at s)) → flag_of (group_at s).begun ≡ true)
near_begun = Waiting.near_begun

-- Anew, on every state: it is one flagged frame of every port, and so a run of calls like any other.
pub anew_run : (s : List (List ℕ)) (store : List ℕ) → anew_answer s (length store) ≡ 0
    → (receiver_run (record { rows = s; store = store }) (flag_calls (group_at s).payload (ports_in (group_at s)))).rows ≡ anew_rows s store
anew_run = Anew.anew_run

-- member states, with what waits, and RS-Ack stay
pub anew_standing : (s : List (List ℕ)) (store : List ℕ) (port : ℕ) → standing_in (anew_rows s store) port ≡ standing_in s port
anew_standing = Anew.anew_standing

pub anew_ack : (s : List (List ℕ)) (store : List ℕ) → ack_in (anew_rows s store) ≡ ack_in s
anew_ack = Anew.anew_ack

-- after any calls it stops receiving, and leaves every port flagged failed and not in step
pub anew_stops : (s : List (List ℕ)) (store : List ℕ) → Kept s → anew_answer s (length store) ≡ 0 → Stopped (anew_rows s store)
anew_stops = Anew.anew_stops

-- Settings: after any calls they are those of the start.
pub settings_are : (kind count P W : ℕ) (hold restore : List ℕ) (rows : List (List ℕ)) (store : List ℕ) → start_as_answer kind count P W (length store) hold restore (length rows) ≡ 0 → (calls : List ReceiverCall)
    → (let s = (receiver_run (started_with kind count P W hold restore rows store) calls).rows in
    settings_of (group_at s) (ports_in (group_at s)) ≡ kind ∷ count ∷ P ∷ W ∷ [])
settings_are = Settings.settings_are
