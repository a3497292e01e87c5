-- The code tells of a call by a Result, and loses nothing of its outcome: a refusal has the number of its answer, and a refused call leaves what it was given, so that whoever keeps that knows the whole outcome. A refused start alone leaves something else, the empty group.
use Rattle.std.specs.Result.{result_unwrap_or}
use Rattle.std.specs.Prelude.{Result, Ok, ◌≡◌, refl, Bool, true, false, cond, not, ◌||◌, ◌==◌, ◌&&◌, ◌≢◌, ℕ}
use Rattle.std.proofs.Common.{◌∙◌, ap, ltb, sym}
use Rattle.ground.specs.Refusals.{number_told}
use Rattle.sender.specs.declared.epochs.Sender.{Sender}
use Rattle.sender.specs.declared.refusals.Refusal.{Refusal}
use Rattle.sender.specs.declared.table.Table.{Table}
use Rattle.sender.specs.Answers.{Answer, Outcome, SenderOutcome, answer_back, given, outcome_back, refusal_number, sender_back, sender_told, told}
use Rattle.sender.specs.Answers.Answer.{Done, NoSlot, NotAllowed, WaitOpen, OutOfRange, Field, Length}
use Rattle.sender.specs.Calls.{Call, outcome_of}
use Rattle.sender.specs.Calls.Call.{AddSlot, RemoveSlot, Report, Lapse}
use Rattle.sender.specs.Commands.{add_of, added_to, answered, fresh_of, in_order, lapse_of, remove_of, removed_from, start_of, with_slots}
use Rattle.sender.specs.Epochs.{SenderCall, begin_of, fresh_sender, sender_outcome_of, start_epoch_of, started_sender}
use Rattle.sender.specs.Epochs.SenderCall.{OnTable, StartEpoch}
use Rattle.sender.specs.Reports.{report_of}
use Rattle.sender.specs.Table.{answer_number, is_member, slot_at, slot_count}

-- the number of what is told is the answer's
pub told_number : {T : Type 0} (a : Answer) (x : T) → number_told refusal_number (given a x) ≡ answer_number a
told_number Done x = refl
told_number NoSlot x = refl
told_number NotAllowed x = refl
told_number WaitOpen x = refl
told_number OutOfRange x = refl
told_number Field x = refl
told_number Length x = refl

-- what is told is Err exactly where the answer is not Done
pub told_answer : {T : Type 0} (a : Answer) (x : T) → answer_back (given a x) ≡ a
told_answer Done x = refl
told_answer NoSlot x = refl
told_answer NotAllowed x = refl
told_answer WaitOpen x = refl
told_answer OutOfRange x = refl
told_answer Field x = refl
told_answer Length x = refl

-- and then whoever keeps x keeps it
pub told_kept : {T : Type 0} (a : Answer) (x y : T) → (a ≢ Done → y ≡ x) → result_unwrap_or (given a y) x ≡ y
told_kept Done x y h = refl
told_kept NoSlot x y h = sym (h (λ e. cc))
told_kept NotAllowed x y h = sym (h (λ e. cc))
told_kept WaitOpen x y h = sym (h (λ e. cc))
told_kept OutOfRange x y h = sym (h (λ e. cc))
told_kept Field x y h = sym (h (λ e. cc))
told_kept Length x y h = sym (h (λ e. cc))

in_order_stands : (t : Table) (i : ℕ) (allowed : Bool) (next : Table) → (in_order t i allowed next).answer ≢ Done → (in_order t i allowed next).table ≡ t
in_order_stands t i allowed next = go (ltb i (slot_count t.count)) t.wait allowed
  where
    go : (b w a : Bool) → (cond b (cond w (answered t WaitOpen) (cond a (answered next Done) (answered t NotAllowed))) (answered t NoSlot)).answer ≢ Done
        → (cond b (cond w (answered t WaitOpen) (cond a (answered next Done) (answered t NotAllowed))) (answered t NoSlot)).table ≡ t
    go false w a n = refl
    go true true a n = refl
    go true false false n = refl
    go true false true n = absurd (n refl)

-- a report is never refused
pub report_done : (t : Table) (e mst ack : ℕ) → (outcome_of t (Report e mst ack)).answer ≡ Done
unfolding report_of
report_done t e mst ack = refl

-- a refused call leaves its table
pub refused_stands : (t : Table) (c : Call) → (outcome_of t c).answer ≢ Done → (outcome_of t c).table ≡ t
unfolding add_of remove_of lapse_of
refused_stands t (AddSlot i) n = in_order_stands t i (not (is_member (slot_at t.slots i).state)) (added_to t i) n
refused_stands t (RemoveSlot i) n = in_order_stands t i (is_member (slot_at t.slots i).state) (removed_from t i) n
refused_stands t (Report e mst ack) n = absurd (n (report_done t e mst ack))
refused_stands t Lapse n = go t.wait n
  where
    go : (w : Bool) → (cond w (answered (with_slots t t.slots false) Done) (answered t NotAllowed)).answer ≢ Done
        → (cond w (answered (with_slots t t.slots false) Done) (answered t NotAllowed)).table ≡ t
    go true n = absurd (n refl)
    go false n = refl

pub table_kept : (t : Table) (c : Call) → result_unwrap_or (told (outcome_of t c)) t ≡ (outcome_of t c).table
table_kept t c = told_kept (outcome_of t c).answer t (outcome_of t c).table (refused_stands t c)

-- so that whoever takes the table given where the call is refused has what it leaves
pub table_left : (t : Table) (c : Call) {r : Result Table Refusal} → r ≡ told (outcome_of t c) → result_unwrap_or r t ≡ (outcome_of t c).table
table_left t c e = ap (λ (r : Result Table Refusal). result_unwrap_or r t) e ∙ table_kept t c

-- and the table given and what is told give the outcome
pub nothing_lost : (t : Table) (c : Call) → outcome_back t (told (outcome_of t c)) ≡ outcome_of t c
nothing_lost t c =
    let r : Outcome = outcome_of t c in
    rw (told_kept r.answer t r.table (refused_stands t c), told_answer r.answer r.table) refl

-- and the table that the code gives of one is its whole outcome
pub table_reported : (t : Table) (e mst ack : ℕ) → told (outcome_of t (Report e mst ack)) ≡ Ok (outcome_of t (Report e mst ack)).table
unfolding report_of
table_reported t e mst ack = refl

-- as is the sender that it gives
pub report_told : (s : Sender) (e mst ack : ℕ) → sender_told (sender_outcome_of s (OnTable (Report e mst ack))) ≡ Ok (sender_outcome_of s (OnTable (Report e mst ack))).sender
unfolding report_of
report_told s e mst ack = refl

pub sender_stands : (s : Sender) (c : SenderCall) → (sender_outcome_of s c).answer ≢ Done → (sender_outcome_of s c).sender ≡ s
unfolding start_epoch_of
sender_stands s (OnTable c) n =
    ap (λ (t : Table). record { table = t; outgoing = s.outgoing; ruling = s.ruling; epoch = s.epoch; begun = s.begun; gid = s.gid; mst = s.mst; rs_ack = s.rs_ack })
    (refused_stands s.table c n)
sender_stands s (StartEpoch gid mst ack) n = go (ltb gid 2 && ltb ack 2) n
  where
    go : (b : Bool) → (cond {A = SenderOutcome} b (record { sender = started_sender s gid mst ack; answer = Done }) (record { sender = s; answer = Field })).answer ≢ Done
        → (cond {A = SenderOutcome} b (record { sender = started_sender s gid mst ack; answer = Done }) (record { sender = s; answer = Field })).sender ≡ s
    go true n = absurd (n refl)
    go false n = refl

pub sender_kept : (s : Sender) (c : SenderCall) → result_unwrap_or (sender_told (sender_outcome_of s c)) s ≡ (sender_outcome_of s c).sender
sender_kept s c = told_kept (sender_outcome_of s c).answer s (sender_outcome_of s c).sender (sender_stands s c)

pub sender_left : (s : Sender) (c : SenderCall) {r : Result Sender Refusal} → r ≡ sender_told (sender_outcome_of s c) → result_unwrap_or r s ≡ (sender_outcome_of s c).sender
sender_left s c e = ap (λ (r : Result Sender Refusal). result_unwrap_or r s) e ∙ sender_kept s c

pub sender_lost : (s : Sender) (c : SenderCall) → sender_back s (sender_told (sender_outcome_of s c)) ≡ sender_outcome_of s c
sender_lost s c =
    let r : SenderOutcome = sender_outcome_of s c in
    rw (told_kept r.answer s r.sender (sender_stands s c), told_answer r.answer r.sender) refl

-- a refused start leaves the empty group, which `empty` gives
pub start_lost : (kind count : ℕ) → outcome_back (start_of kind 0).table (told (start_of kind count)) ≡ start_of kind count
unfolding start_of
start_lost kind count = go (count == 0 || ltb 64 count)
  where
    go : (b : Bool) → outcome_back (fresh_of kind 0) (told (cond b (answered (fresh_of kind 0) OutOfRange) (answered (fresh_of kind count) Done))) ≡ cond b (answered (fresh_of kind 0) OutOfRange) (answered (fresh_of kind count) Done)
    go true = refl
    go false = refl

pub begin_lost : (kind count e : ℕ) → sender_back (begin_of kind 0 e).sender (sender_told (begin_of kind count e)) ≡ begin_of kind count e
unfolding begin_of start_of
begin_lost kind count e = go (count == 0 || ltb 64 count)
  where
    begun : Bool → SenderOutcome
    begun b = let r = cond b (answered (fresh_of kind 0) OutOfRange) (answered (fresh_of kind count) Done) in record { sender = fresh_sender r.table e; answer = r.answer }

    go : (b : Bool) → sender_back (fresh_sender (fresh_of kind 0) e) (sender_told (begun b)) ≡ begun b
    go true = refl
    go false = refl
