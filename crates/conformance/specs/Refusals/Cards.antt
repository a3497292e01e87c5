-- The refusals of a card with two circuits (02, 2026-06): 'order 1, 14, 15, 3, 2'; a claim 1, 14, a release 1, 14, 15, and the others 1, 14 or 1, then as the group's sender has it.
use Rattle.std.specs.Prelude.{◌≡◌, refl, Bool, true, false, not, ◌&&◌, ◌||◌, List, [], ◌∷◌, ℕ, get_or, length, replicate, if◌then◌else◌, ◌==◌}
use Rattle.std.proofs.Common.{◌∙◌, ap}
use Rattle.ground.specs.Plain.{◌<?◌}
use Rattle.cards.specs.Answers.{Answer, CardOutcome, answer_number, from_sender}
use Rattle.cards.specs.Answers.{Answer as A}
use Rattle.cards.specs.declared.card.Card.{Card}
use Rattle.cards.specs.Calls.{Call as CardCall, outcome_of}
use Rattle.cards.specs.Calls.Call.{AddSlot, Claim, Lapse, Release, RemoveSlot, Report, StartEpoch}
use Rattle.cards.specs.Commands.{claim_of, command_of, group_call_of, release_of, start_of}
use Rattle.cards.specs.Laws.GroupSender.{put_back, sender_number_lem}
use Rattle.cards.specs.Owners.{owned_bytes}
use Rattle.cards.specs.Parts.{empty_sender, group_outcome, is_slot, is_used, marked, owns, refused, sender_of, shown_sender, with_sender}
use Rattle.cards.specs.Readings.{board_shown, outgoing_shown, owned_shown, packet_answer, packet_bytes, payload_answer, payload_bytes, ranks_shown}
use Rattle.conformance.specs.Refusals.Entries.{Call, Copes, If, Refusal, Unless, copes, stateful, stateless}
use Rattle.conformance.specs.Refusals.Epochs as sender
use Rattle.conformance.specs.Refusals.Tables.{idle, member_is, state_at}
use Rattle.sender.specs.declared.epochs.Sender.{Sender}
use Rattle.sender.specs.Answers.{SenderOutcome}
use Rattle.sender.specs.Answers as S
use Rattle.sender.specs.Board.{board_of}
use Rattle.sender.specs.Commands.{fresh_of}
use Rattle.sender.specs.Epochs as E
use Rattle.sender.specs.Epochs.{SenderCall, begin_of, fresh_sender, ranks_of, sender_outcome_of}
use Rattle.sender.specs.Table.{is_member, slot_count}
use Rattle.sender.specs.Table.{answer_number as sender_number}

-- What is asked of a slot, in plain comparisons. Groups are 0 and 1.

abbrev its : Card → ℕ → Sender
its c g = if g == 0 then c.first else c.second

-- 1: 'a group other than the two', or a slot not below its count; one above 64, which no call returns, is taken as 64
abbrev is_there : (c : Card) (group slot : ℕ) → Bool
is_there c g i = g <? 2 && i <? (if (its c g).table.count <? 64 then (its c g).table.count else 64)

-- 14: the owner row has 1 for group 0 and 2 for group 1
abbrev is_its : (c : Card) (group slot : ℕ) → Bool
is_its c g i = get_or c.owners i 0 == (if g == 0 then 1 else 2)

abbrev is_anyones : Card → ℕ → Bool
is_anyones c i = get_or c.owners i 0 == 1 || get_or c.owners i 0 == 2

-- 15: not IDLE in the group's table
abbrev is_in_use : (c : Card) (group slot : ℕ) → Bool
is_in_use c g i = not (idle (state_at (its c g).table i))

-- both groups empty
abbrev pub empty_card : (kind e₀ e₁ : ℕ) → Card
empty_card kind e₀ e₁ = record { owners = replicate 64 0; first = fresh_sender (fresh_of kind 0) e₀; second = fresh_sender (fresh_of kind 0) e₁ }

abbrev pub start : ℕ × ℕ × ℕ × ℕ → Call
start (kind, count, epoch_0, epoch_1) =
    stateful (If 4 (count == 0 || 64 <? count) ∷ [])
    (answer_number (start_of kind count epoch_0 epoch_1).answer) [] []
    (start_of kind 0 epoch_0 epoch_1).card (start_of kind count epoch_0 epoch_1).card (empty_card kind epoch_0 epoch_1)

pub start_copes : (x : ℕ × ℕ × ℕ × ℕ) → Copes (start x)
unfolding start_of
start_copes (kind, count, e₀, e₁) =
    let c = sender.start_copes (kind, count, e₀) in
    let d = sender.start_copes (kind, count, e₁) in
    record {
      answers = sender_number_lem (begin_of kind count e₀).answer ∙ c.answers;
      untouched = λ x. refl;
      as_given = λ k. rw (c.as_given k, d.as_given k) refl;
      emptied = λ k. rw (c.emptied k, d.emptied k) refl;
    }

-- a call of the group's sender is refused as the sender has it
on_sender : (c : Card) (g : ℕ) (rs : List Refusal) (r : SenderOutcome) → Copes (stateful rs (sender_number r.answer) [] [] (sender_of c g) r.sender (sender_of c g))
    → Copes (stateful rs (answer_number (group_outcome c g r).answer) [] [] c (group_outcome c g r).card c)
unfolding group_outcome
on_sender c g rs r h =
    record {
      answers = sender_number_lem r.answer ∙ h.answers;
      untouched = λ x. refl;
      as_given = λ k. ap (λ (s : Sender). with_sender c g s) (h.as_given k) ∙ put_back c g;
      emptied = λ k. ap (λ (s : Sender). with_sender c g s) (h.emptied k) ∙ put_back c g;
    }

-- one test more before it
gate : (b : Bool) (a : Answer) (c : Card) (rs : List Refusal) (r : CardOutcome) → Copes (stateful rs (answer_number r.answer) [] [] c r.card c)
    → Copes (stateful (Unless (answer_number a) b ∷ rs) (answer_number (if b then r else refused c a).answer) [] [] c (if b then r else refused c a).card c)
gate true a c rs r h = record { answers = h.answers; untouched = h.untouched; as_given = h.as_given; emptied = h.emptied }
gate false a c rs r h = record { answers = refl; untouched = λ x. refl; as_given = λ k. refl; emptied = λ k. refl }

command : (c : Card) (g i : ℕ) (rs : List Refusal) (k : SenderCall) → let r = sender_outcome_of (sender_of c g) k in Copes (stateful rs (sender_number r.answer) [] [] (sender_of c g) r.sender (sender_of c g))
    → Copes (stateful (Unless 1 (is_slot c g i) ∷ Unless 14 (owns c g i) ∷ rs) (answer_number (command_of c g i k).answer) [] [] c (command_of c g i k).card c)
unfolding command_of
command c g i rs k h =
    gate (is_slot c g i) A.NoSlot c _ _ (gate (owns c g i) A.Owned c rs (group_outcome c g (sender_outcome_of (sender_of c g) k)) (on_sender c g rs (sender_outcome_of (sender_of c g) k) h))

group_call : (c : Card) (g : ℕ) (rs : List Refusal) (k : SenderCall) → let r = sender_outcome_of (sender_of c g) k in Copes (stateful rs (sender_number r.answer) [] [] (sender_of c g) r.sender (sender_of c g))
    → Copes (stateful (Unless 1 (g <? 2) ∷ rs) (answer_number (group_call_of c g k).answer) [] [] c (group_call_of c g k).card c)
unfolding group_call_of
group_call c g rs k h = gate (g <? 2) A.NoSlot c rs (group_outcome c g (sender_outcome_of (sender_of c g) k)) (on_sender c g rs (sender_outcome_of (sender_of c g) k) h)

-- a call of a group: its refusals, and what it answers and leaves
abbrev call_row : (self : Card) (group : ℕ) (call : CardCall) (rs : List Refusal) → Call
call_row self group call rs = stateful rs (answer_number (outcome_of self group call).answer) [] [] self (outcome_of self group call).card self

abbrev pub claim : Card × ℕ × ℕ → Call
claim (self, group, slot) = call_row self group (Claim slot) (Unless 1 (is_there self group slot) ∷ If 14 (is_anyones self slot) ∷ [])

pub claim_copes : (x : Card × ℕ × ℕ) → Copes (claim x)
unfolding claim_of marked is_slot sender_of slot_count
claim_copes (self, group, slot) = copes _ (λ s. (λ o. rw (s, o) (refl, refl, refl), λ o. rw (s, o) refl), λ s. rw s (refl, refl, refl))

abbrev pub release : Card × ℕ × ℕ → Call
release (self, group, slot) = call_row self group (Release slot) (Unless 1 (is_there self group slot) ∷ Unless 14 (is_its self group slot) ∷ If 15 (is_in_use self group slot) ∷ [])

pub release_copes : (x : Card × ℕ × ℕ) → Copes (release x)
unfolding release_of marked is_slot owns is_used sender_of slot_count
release_copes (self, group, slot) =
    let state = state_at (its self group).table slot in
    let used : (b : Bool) → not (idle state) ≡ b → is_member state ≡ b = λ b u. member_is state ∙ u in
    copes _ (
      λ s. (λ o. (λ u. rw (s, o, used true u) (refl, refl, refl), λ u. rw (s, o, used false u) refl), λ o. rw (s, o) (refl, refl, refl)),
      λ s. rw s (refl, refl, refl),
    )

-- the refusals of the group's sender, behind the card's own
abbrev pub add : Card × ℕ × ℕ → Call
add (self, group, slot) = call_row self group (AddSlot slot) (Unless 1 (is_there self group slot) ∷ Unless 14 (is_its self group slot) ∷ (sender.add (its self group, slot)).refusals)

pub add_copes : (x : Card × ℕ × ℕ) → Copes (add x)
unfolding is_slot owns sender_of slot_count
add_copes (self, group, slot) = command self group slot _ _ (sender.add_copes (sender_of self group, slot))

abbrev pub remove : Card × ℕ × ℕ → Call
remove (self, group, slot) = call_row self group (RemoveSlot slot) (Unless 1 (is_there self group slot) ∷ Unless 14 (is_its self group slot) ∷ (sender.remove (its self group, slot)).refusals)

pub remove_copes : (x : Card × ℕ × ℕ) → Copes (remove x)
unfolding is_slot owns sender_of slot_count
remove_copes (self, group, slot) = command self group slot _ _ (sender.remove_copes (sender_of self group, slot))

abbrev pub report : Card × ℕ × ℕ × ℕ × ℕ → Call
report (self, group, epoch, mst, rs_ack) = call_row self group (Report epoch mst rs_ack) (Unless 1 (group <? 2) ∷ [])

pub report_copes : (x : Card × ℕ × ℕ × ℕ × ℕ) → Copes (report x)
report_copes (self, group, epoch, mst, rs_ack) = group_call self group _ _ (sender.report_copes (sender_of self group, epoch, mst, rs_ack))

abbrev pub lapse : Card × ℕ → Call
lapse (self, group) = call_row self group Lapse (Unless 1 (group <? 2) ∷ (sender.lapse (its self group)).refusals)

pub lapse_copes : (x : Card × ℕ) → Copes (lapse x)
unfolding sender_of
lapse_copes (self, group) = group_call self group _ _ (sender.lapse_copes (sender_of self group))

abbrev pub start_epoch : Card × ℕ × ℕ × ℕ × ℕ → Call
start_epoch (self, group, gid, mst, rs_ack) = call_row self group (StartEpoch gid mst rs_ack) (Unless 1 (group <? 2) ∷ (sender.start_epoch (its self group, gid, mst, rs_ack)).refusals)

pub start_epoch_copes : (x : Card × ℕ × ℕ × ℕ × ℕ) → Copes (start_epoch x)
unfolding sender_of
start_epoch_copes (self, group, gid, mst, rs_ack) = group_call self group _ _ (sender.start_epoch_copes (sender_of self group, gid, mst, rs_ack))

-- a lent slice of an own slot
lent : (s o : Bool) (a : S.Answer) (rs : List Refusal) (new old : List ℕ) → Copes (stateless rs (sender_number a) (old ∷ []) (new ∷ []))
    → Copes (stateless (Unless 1 s ∷ Unless 14 o ∷ rs) (answer_number (if s then (if o then from_sender a else A.Owned) else A.NoSlot)) (old ∷ []) ((if s && o then new else old) ∷ []))
lent true true a rs new old h = record { answers = sender_number_lem a ∙ h.answers; untouched = h.untouched; as_given = h.as_given; emptied = h.emptied }
lent true false a rs new old h = record { answers = refl; untouched = λ x. refl; as_given = λ k. refl; emptied = λ k. refl }
lent false o a rs new old h = record { answers = refl; untouched = λ x. refl; as_given = λ k. refl; emptied = λ k. refl }

abbrev pub packet : Card × ℕ × ℕ × List ℕ → Call
packet (self, group, slot, h4) =
    stateless (Unless 1 (is_there self group slot) ∷ Unless 14 (is_its self group slot) ∷ (sender.packet (its self group, slot, h4)).refusals)
    (answer_number (packet_answer self group slot h4)) (h4 ∷ []) (packet_bytes self group slot h4 ∷ [])

pub packet_copes : (x : Card × ℕ × ℕ × List ℕ) → Copes (packet x)
unfolding packet_answer packet_bytes is_slot owns sender_of slot_count
packet_copes (self, group, slot, h4) =
    lent (is_slot self group slot) (owns self group slot) (E.packet_answer (sender_of self group) slot h4) _ (E.packet_bytes (sender_of self group) slot h4) h4
    (sender.packet_copes (sender_of self group, slot, h4))

abbrev pub payload : Card × ℕ × ℕ × ℕ × List ℕ × List ℕ → Call
payload (self, group, slot, p, frame, member) =
    stateless (Unless 1 (is_there self group slot) ∷ Unless 14 (is_its self group slot) ∷ (sender.payload (its self group, slot, p, frame, member)).refusals)
    (answer_number (payload_answer self group slot p (length frame) (length member))) (member ∷ []) (payload_bytes self group slot p frame member ∷ [])

pub payload_copes : (x : Card × ℕ × ℕ × ℕ × List ℕ × List ℕ) → Copes (payload x)
unfolding payload_answer payload_bytes is_slot owns sender_of slot_count
payload_copes (self, group, slot, p, frame, member) =
    lent (is_slot self group slot) (owns self group slot) (E.payload_answer (sender_of self group) slot p (length frame) (length member)) _
    (E.payload_bytes (sender_of self group) slot p frame member) member (sender.payload_copes (sender_of self group, slot, p, frame, member))

-- Nothing is there before a reading, so what no group is shown stands for what is given.

abbrev pub board : Card × ℕ → Call
board (self, group) =
    stateful (Unless 1 (group <? 2) ∷ [])
    (answer_number (board_shown self group).answer) [] [] (board_of empty_sender.table) (board_shown self group).board (board_of empty_sender.table)

pub board_copes : (x : Card × ℕ) → Copes (board x)
unfolding board_shown shown_sender
board_copes (self, group) = copes _ (λ g. rw g, λ g. rw g (refl, refl, refl))

abbrev pub outgoing : Card × ℕ → Call
outgoing (self, group) =
    stateful (Unless 1 (group <? 2) ∷ [])
    (answer_number (outgoing_shown self group).answer) [] [] empty_sender.outgoing (outgoing_shown self group).board empty_sender.outgoing

pub outgoing_copes : (x : Card × ℕ) → Copes (outgoing x)
unfolding outgoing_shown shown_sender
outgoing_copes (self, group) = copes _ (λ g. rw g, λ g. rw g (refl, refl, refl))

abbrev pub ranks : Card × ℕ → Call
ranks (self, group) =
    stateful (Unless 1 (group <? 2) ∷ [])
    (answer_number (ranks_shown self group).answer) [] [] (ranks_of empty_sender) (ranks_shown self group).ranks (ranks_of empty_sender)

pub ranks_copes : (x : Card × ℕ) → Copes (ranks x)
unfolding ranks_shown shown_sender
ranks_copes (self, group) = copes _ (λ g. rw g, λ g. rw g (refl, refl, refl))

abbrev pub owned : Card × ℕ → Call
owned (self, group) =
    stateful (Unless 1 (group <? 2) ∷ [])
    (answer_number (owned_shown self group).answer) [] [] (replicate 64 0) (owned_shown self group).owned (replicate 64 0)

pub owned_copes : (x : Card × ℕ) → Copes (owned x)
unfolding owned_shown owned_bytes
owned_copes (self, group) = copes _ (λ g. rw g, λ g. rw g (refl, refl, refl))
