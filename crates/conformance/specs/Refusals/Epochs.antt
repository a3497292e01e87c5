-- The refusals of a sender with its epochs: the table's calls as they are, the start of an epoch 8, the packet of a slot 1, 9, 2, the payload of a slot 1, 4, 9, 2.
use Rattle.std.specs.Prelude.{refl, Bool, ◌&&◌, ◌||◌, List, [], ◌∷◌, ℕ, ◌*◌, length, if◌then◌else◌, ◌==◌}
use Rattle.std.proofs.Common.{ap}
use Rattle.conformance.specs.Refusals.Receivers.{takes_payload}
use Rattle.ground.specs.Plain.{◌<?◌}
use Rattle.packet.specs.Kinds.{frames, payload_right}
use Rattle.packet.specs.Laws.Writing.{answer_sized, unfit_bytes}
use Rattle.packet.specs.Sent.{sent_fits}
use Rattle.packet.specs.Vc12.{vc12_fits}
use Rattle.packet.specs.Words.{assigned}
use Rattle.packet.specs.Writing.{fitting}
use Rattle.conformance.specs.Refusals.Entries.{Call, Copes, If, Refusal, Unless, copes, either, stateful, stateless}
use Rattle.conformance.specs.Refusals.Packets.{small_of}
use Rattle.conformance.specs.Refusals.Payloads.{ranged}
use Rattle.conformance.specs.Refusals.Tables as table
use Rattle.sender.specs.declared.epochs.Sender.{Sender}
use Rattle.sender.specs.Answers.Answer.{Length, OutOfRange}
use Rattle.sender.specs.declared.table.Table.{Table}
use Rattle.sender.specs.Calls.Call.{AddSlot, Lapse, RemoveSlot, Report}
use Rattle.sender.specs.Commands.{fresh_of}
use Rattle.sender.specs.Epochs.{SenderCall, begin_of, fresh_sender, packet_answer, packet_bytes, packet_fields, payload_answer, payload_bytes, sender_outcome_of, start_epoch_of, x_of}
use Rattle.sender.specs.Epochs.SenderCall.{OnTable, StartEpoch}
use Rattle.sender.specs.Table.{answer_number, slot_count}

abbrev pub start : ℕ × ℕ × ℕ → Call
start (kind, count, epoch) =
    stateful (If 4 (count == 0 || 64 <? count) ∷ [])
    (answer_number (begin_of kind count epoch).answer) [] [] (begin_of kind 0 epoch).sender (begin_of kind count epoch).sender (fresh_sender (fresh_of kind 0) epoch)

pub start_copes : (x : ℕ × ℕ × ℕ) → Copes (start x)
unfolding begin_of
start_copes (kind, count, epoch) =
    let c = table.start_copes (kind, count) in
    record { answers = c.answers; untouched = λ d. refl; as_given = λ k. ap (λ t. fresh_sender t epoch) (c.as_given k); emptied = λ e. ap (λ t. fresh_sender t epoch) (c.emptied e) }

-- a call on a sender: its refusals, and what it answers and leaves
abbrev call_row : (self : Sender) (call : SenderCall) (rs : List Refusal) → Call
call_row self call rs = stateful rs (answer_number (sender_outcome_of self call).answer) [] [] self (sender_outcome_of self call).sender self

-- The table's calls: their refusals are the table's, and what the epoch's start fixed stays.

-- the sender with another table
abbrev over : Sender → Table → Sender
over s t = record { table = t; outgoing = s.outgoing; ruling = s.ruling; epoch = s.epoch; begun = s.begun; gid = s.gid; mst = s.mst; rs_ack = s.rs_ack }

on_table_lem : (self : Sender) (rs : List Refusal) (n : ℕ) (t : Table) → Copes (stateful rs n [] [] self.table t self.table) → Copes (stateful rs n [] [] self (over self t) self)
on_table_lem self rs n t c =
    record { answers = c.answers; untouched = λ d. refl; as_given = λ k. ap (over self) (c.as_given k); emptied = λ e. ap (over self) (c.emptied e) }

abbrev pub add : Sender × ℕ → Call
add (self, slot) = call_row self (OnTable (AddSlot slot)) (table.add (self.table, slot)).refusals

pub add_copes : (x : Sender × ℕ) → Copes (add x)
add_copes (self, slot) = on_table_lem self _ _ _ (table.add_copes (self.table, slot))

abbrev pub remove : Sender × ℕ → Call
remove (self, slot) = call_row self (OnTable (RemoveSlot slot)) (table.remove (self.table, slot)).refusals

pub remove_copes : (x : Sender × ℕ) → Copes (remove x)
remove_copes (self, slot) = on_table_lem self _ _ _ (table.remove_copes (self.table, slot))

abbrev pub report : Sender × ℕ × ℕ × ℕ → Call
report (self, epoch, mst, rs_ack) = call_row self (OnTable (Report epoch mst rs_ack)) []

pub report_copes : (x : Sender × ℕ × ℕ × ℕ) → Copes (report x)
report_copes (self, epoch, mst, rs_ack) = on_table_lem self _ _ _ (table.report_copes (self.table, epoch, mst, rs_ack))

abbrev pub lapse : Sender → Call
lapse self = call_row self (OnTable Lapse) (table.lapse self.table).refusals

pub lapse_copes : (x : Sender) → Copes (lapse x)
lapse_copes self = on_table_lem self _ _ _ (table.lapse_copes self.table)

-- 8: 'a field given for writing is too large'
abbrev pub start_epoch : Sender × ℕ × ℕ × ℕ → Call
start_epoch (self, gid, mst, rs_ack) = call_row self (StartEpoch gid mst rs_ack) (Unless 8 (gid <? 2 && rs_ack <? 2) ∷ [])

pub start_epoch_copes : (x : Sender × ℕ × ℕ × ℕ) → Copes (start_epoch x)
unfolding start_epoch_of
start_epoch_copes (self, gid, mst, rs_ack) = copes _ (λ f. rw f, λ f. rw f (refl, refl, refl))

-- the slot is below the count
abbrev below : Sender → ℕ → Bool
below s i = i <? (if s.table.count <? 64 then s.table.count else 64)

-- In a state that calls returned the packet's fields fit (crates/sender/specs/Theorems/Packets.antt); in any other, fields that do not fit are 8.
abbrev pub packet : Sender × ℕ × List ℕ → Call
packet (self, slot, h4) =
    stateless (Unless 1 (below self slot) ∷ Unless 9 (length h4 == (if self.table.kind == 1 then 32 else 16)) ∷ Unless 2 self.begun ∷ Unless 8 (small_of self.table.kind (packet_fields self slot)) ∷ [])
    (answer_number (packet_answer self slot h4)) (h4 ∷ []) (packet_bytes self slot h4 ∷ [])

pub packet_copes : (x : Sender × ℕ × List ℕ) → Copes (packet x)
unfolding packet_answer packet_bytes packet_fields sent_fits vc12_fits fitting assigned frames slot_count
packet_copes (self, slot, h4) =
    let told = answer_sized self.table.kind (packet_fields self slot) h4 in
    copes _ (
      λ b. (λ l. (λ g. (λ f. rw (b, l, told, l, f, g), λ f. rw (b, l, told, l, f, unfit_bytes self.table.kind (packet_fields self slot) h4 f, g) (refl, refl, refl)), λ g. rw (b, l, g) (refl, refl, refl)), λ l. rw (b, l) (refl, refl, refl)),
      λ b. rw b (refl, refl, refl),
    )

abbrev pub payload : Sender × ℕ × ℕ × List ℕ × List ℕ → Call
payload (self, slot, p, frame, member) =
    stateless
    (Unless 1 (below self slot) ∷ Unless 4 (takes_payload self.table.kind p) ∷ Unless 4 (ranged (x_of self) p) ∷ Unless 9 (length frame == x_of self * p && length member == p) ∷ Unless 2 self.begun ∷ [])
    (answer_number (payload_answer self slot p (length frame) (length member))) (member ∷ []) (payload_bytes self slot p frame member ∷ [])

pub payload_copes : (x : Sender × ℕ × ℕ × List ℕ × List ℕ) → Copes (payload x)
unfolding payload_answer payload_bytes payload_right slot_count
payload_copes (self, slot, p, frame, member) =
    copes _ (
      λ b. (
        λ k. (
          λ s. (λ l. (λ g. rw (b, k, s, l, g), λ g. rw (b, k, s, l, g) (refl, refl, refl)), λ l. rw (b, k, s, l, either self.begun Length, either self.begun member) (refl, refl, refl)),
          λ s. rw (b, k, s, either self.begun OutOfRange, either self.begun member) (refl, refl, refl),
        ),
        λ k. rw (b, k) (refl, refl, refl),
      ),
      λ b. rw b (refl, refl, refl),
    )
