-- The refusals of a card's C calls (02, 2026-06): a state of another length is 9, a group other than the two 1, what is no byte 8, then the card's own. The state is lent, so it stands as the state and not among the lent slices: under 4 starting leaves two empty groups in it.
use Rattle.std.specs.Prelude.{◌≡◌, refl, Bool, true, ◌&&◌, ◌||◌, List, [], ◌∷◌, ℕ, length, if◌then◌else◌, ◌==◌}
use Rattle.ground.specs.Plain.{◌<?◌}
use Rattle.ground.specs.Types.{Bytes}
use Rattle.c_cards.specs.Cards.{board_bytes_on, call_answer_on, call_state_on, card_of, outgoing_bytes_on, owned_bytes_on, packet_answer_on, packet_bytes_on, payload_answer_on, payload_bytes_on, put_card, ranks_bytes_on, shown_answer_on, shown_bytes_on, start_answer_on, start_state_on}
use Rattle.c_face.specs.Senders.{are_bytes, sends}
use Rattle.cards.specs.Answers.{answer_number}
use Rattle.cards.specs.Calls.{Call as CardCall, outcome_of}
use Rattle.cards.specs.Calls.Call.{AddSlot, Claim, Lapse, Release, RemoveSlot, Report, StartEpoch}
use Rattle.cards.specs.Commands as card
use Rattle.cards.specs.Readings.{packet_bytes, payload_bytes}
use Rattle.conformance.specs.Refusals.Entries.{Call, Copes, If, Refusal, Unless, behind, copes, first, put_anew, stateful, stateless, tested}
use Rattle.conformance.specs.Refusals.Cards as own
use Rattle.conformance.specs.Refusals.Cards.{empty_card}
use Rattle.conformance.specs.Refusals.Senders.{all_bytes, in_epochs, is_sent, sends_is}
use Rattle.packet.specs.Kinds.{epochs, known_kind}
use Rattle.sender.specs.Commands.{start_of}
use Rattle.sender.specs.Epochs.{begin_of}

-- 858 bytes
abbrev pub is_whole : Bytes → Bool
is_whole state = length state == 858

-- Starting, both groups of a kind: 4, 9, 8.
abbrev pub start_as : ℕ × ℕ × ℕ × ℕ × List ℕ → Call
start_as (kind, count, first_epoch_0, first_epoch_1, state) =
    stateful
    (If 4 (count == 0 || 64 <? count) ∷ Unless 4 (is_sent kind) ∷ Unless 9 (is_whole state) ∷ Unless 8 (in_epochs kind first_epoch_0 && in_epochs kind first_epoch_1) ∷ [])
    (start_answer_on kind count first_epoch_0 first_epoch_1 state) [] []
    state (start_state_on kind count first_epoch_0 first_epoch_1 state) (if is_whole state then put_card (empty_card 0 0 0) state else state)

pub start_as_copes : (x : ℕ × ℕ × ℕ × ℕ × List ℕ) → Copes (start_as x)
unfolding start_answer_on start_state_on card.start_of begin_of start_of epochs
start_as_copes (kind, count, e₀, e₁, state) =
    rw (sends_is kind)
    (copes _ (
      λ o. rw o (refl, refl, refl),
      λ o. (λ k. (λ l. (λ f. rw (o, k, l, f), λ f. rw (o, k, l, f) (refl, refl, refl)), λ l. rw (o, k, l) (refl, refl, refl)), λ k. rw (o, k) (refl, refl, refl)),
    ))

-- for the kind H4
abbrev pub start : ℕ × ℕ × ℕ × List ℕ → Call
start (count, first_epoch_0, first_epoch_1, state) =
    stateful (If 4 (count == 0 || 64 <? count) ∷ Unless 9 (is_whole state) ∷ Unless 8 (first_epoch_0 <? 256 && first_epoch_1 <? 256) ∷ [])
    (start_answer_on 0 count first_epoch_0 first_epoch_1 state) [] []
    state (start_state_on 0 count first_epoch_0 first_epoch_1 state) (if is_whole state then put_card (empty_card 0 0 0) state else state)

pub start_copes : (x : ℕ × ℕ × ℕ × List ℕ) → Copes (start x)
unfolding start_answer_on start_state_on card.start_of begin_of start_of epochs sends known_kind
start_copes (count, e₀, e₁, state) =
    copes _ (λ o. rw o (refl, refl, refl), λ o. (λ l. (λ f. rw (o, l, f), λ f. rw (o, l, f) (refl, refl, refl)), λ l. rw (o, l) (refl, refl, refl)))

-- A call that changes a card: 9, 1 for the group, 8 where the numbers given are no bytes, then the call's own refusals. `fits` is the contract's own test for that.
abbrev pub card_row : (state : Bytes) (group : ℕ) (bytes fits : Bool) (call : CardCall) (rs : List Refusal) → Call
card_row state group bytes fits call rs =
    stateful (Unless 9 (is_whole state) ∷ Unless 1 (group <? 2) ∷ Unless 8 bytes ∷ rs) (call_answer_on fits group call state) [] [] state (call_state_on fits group call state) state

pub call_copes : (state : List ℕ) (group : ℕ) (fits : Bool) (call : CardCall) (rs : List Refusal) → answer_number (outcome_of (card_of state) group call).answer ≡ first rs → Copes (card_row state group fits fits call rs)
unfolding call_answer_on call_state_on
call_copes state group fits call rs e =
    tested 9 (is_whole state) _ _ _ state
    (tested 1 (group <? 2) _ _ _ state (tested 8 fits rs _ _ state (put_anew rs (answer_number (outcome_of (card_of state) group call).answer) _ state e)))

abbrev pub claim : List ℕ × ℕ × ℕ → Call
claim (state, group, slot) = card_row state group true true (Claim slot) (own.claim (card_of state, group, slot)).refusals

pub claim_copes : (x : List ℕ × ℕ × ℕ) → Copes (claim x)
claim_copes (state, group, slot) = call_copes state group true _ _ (own.claim_copes (card_of state, group, slot)).answers

abbrev pub release : List ℕ × ℕ × ℕ → Call
release (state, group, slot) = card_row state group true true (Release slot) (own.release (card_of state, group, slot)).refusals

pub release_copes : (x : List ℕ × ℕ × ℕ) → Copes (release x)
release_copes (state, group, slot) = call_copes state group true _ _ (own.release_copes (card_of state, group, slot)).answers

abbrev pub add : List ℕ × ℕ × ℕ → Call
add (state, group, slot) = card_row state group true true (AddSlot slot) (own.add (card_of state, group, slot)).refusals

pub add_copes : (x : List ℕ × ℕ × ℕ) → Copes (add x)
add_copes (state, group, slot) = call_copes state group true _ _ (own.add_copes (card_of state, group, slot)).answers

abbrev pub remove : List ℕ × ℕ × ℕ → Call
remove (state, group, slot) = card_row state group true true (RemoveSlot slot) (own.remove (card_of state, group, slot)).refusals

pub remove_copes : (x : List ℕ × ℕ × ℕ) → Copes (remove x)
remove_copes (state, group, slot) = call_copes state group true _ _ (own.remove_copes (card_of state, group, slot)).answers

abbrev pub report : List ℕ × ℕ × ℕ × ℕ × ℕ → Call
report (state, group, epoch, mst, rs_ack) =
    card_row state group (all_bytes epoch mst rs_ack) (are_bytes epoch mst rs_ack) (Report epoch mst rs_ack) (own.report (card_of state, group, epoch, mst, rs_ack)).refusals

pub report_copes : (x : List ℕ × ℕ × ℕ × ℕ × ℕ) → Copes (report x)
report_copes (state, group, epoch, mst, rs_ack) =
    call_copes state group (are_bytes epoch mst rs_ack) _ _ (own.report_copes (card_of state, group, epoch, mst, rs_ack)).answers

abbrev pub lapse : List ℕ × ℕ → Call
lapse (state, group) = card_row state group true true Lapse (own.lapse (card_of state, group)).refusals

pub lapse_copes : (x : List ℕ × ℕ) → Copes (lapse x)
lapse_copes (state, group) = call_copes state group true _ _ (own.lapse_copes (card_of state, group)).answers

abbrev pub start_epoch : List ℕ × ℕ × ℕ × ℕ × ℕ → Call
start_epoch (state, group, gid, mst, rs_ack) =
    card_row state group (all_bytes gid mst rs_ack) (are_bytes gid mst rs_ack) (StartEpoch gid mst rs_ack) (own.start_epoch (card_of state, group, gid, mst, rs_ack)).refusals

pub start_epoch_copes : (x : List ℕ × ℕ × ℕ × ℕ × ℕ) → Copes (start_epoch x)
start_epoch_copes (state, group, gid, mst, rs_ack) =
    call_copes state group (are_bytes gid mst rs_ack) _ _ (own.start_epoch_copes (card_of state, group, gid, mst, rs_ack)).answers

-- What a slot sends: 9, 1, then the card's own.

abbrev pub packet : List ℕ × ℕ × ℕ × List ℕ → Call
packet (state, group, slot, h4) =
    stateless (Unless 9 (is_whole state) ∷ Unless 1 (group <? 2) ∷ (own.packet (card_of state, group, slot, h4)).refusals)
    (packet_answer_on state group slot h4) (h4 ∷ []) (packet_bytes_on state group slot h4 ∷ [])

pub packet_copes : (x : List ℕ × ℕ × ℕ × List ℕ) → Copes (packet x)
unfolding packet_answer_on packet_bytes_on
packet_copes (state, group, slot, h4) =
    behind 9 (is_whole state) _ _ _ h4 (behind 1 (group <? 2) _ _ (packet_bytes (card_of state) group slot h4) h4 (own.packet_copes (card_of state, group, slot, h4)))

abbrev pub payload : List ℕ × ℕ × ℕ × ℕ × List ℕ × List ℕ → Call
payload (state, group, slot, p, frame, member) =
    stateless (Unless 9 (is_whole state) ∷ Unless 1 (group <? 2) ∷ (own.payload (card_of state, group, slot, p, frame, member)).refusals)
    (payload_answer_on state group slot p frame member) (member ∷ []) (payload_bytes_on state group slot p frame member ∷ [])

pub payload_copes : (x : List ℕ × ℕ × ℕ × ℕ × List ℕ × List ℕ) → Copes (payload x)
unfolding payload_answer_on payload_bytes_on
payload_copes (state, group, slot, p, frame, member) =
    behind 9 (is_whole state) _ _ _ member
    (behind 1 (group <? 2) _ _ (payload_bytes (card_of state) group slot p frame member) member (own.payload_copes (card_of state, group, slot, p, frame, member)))

-- What is read out whole: 9 for the state, 1 for the group, then 9 for the buffer.

abbrev read_row : (n : ℕ) (state : Bytes) (group : ℕ) (out : Bytes) (left : List ℕ) → Call
read_row n state group out left =
    stateless (Unless 9 (is_whole state) ∷ Unless 1 (group <? 2) ∷ Unless 9 (length out == n) ∷ []) (shown_answer_on n state group out) (out ∷ []) (left ∷ [])

shows : (n : ℕ) (state : List ℕ) (group : ℕ) (new out : List ℕ) → Copes (read_row n state group out (shown_bytes_on n state group new out))
unfolding shown_answer_on shown_bytes_on
shows n state group new out =
    copes _ (
      λ l. (λ g. (λ m. rw (l, g, m), λ m. rw (l, g, m) (refl, refl, refl)), λ g. rw (l, g) (refl, refl, refl)),
      λ l. rw l (refl, refl, refl),
    )

abbrev pub shown : List ℕ × ℕ × List ℕ → Call
shown (state, group, board) = read_row 130 state group board (board_bytes_on state group board)

pub shown_copes : (x : List ℕ × ℕ × List ℕ) → Copes (shown x)
shown_copes (state, group, board) = shows 130 state group _ board

abbrev pub outgoing : List ℕ × ℕ × List ℕ → Call
outgoing (state, group, board) = read_row 130 state group board (outgoing_bytes_on state group board)

pub outgoing_copes : (x : List ℕ × ℕ × List ℕ) → Copes (outgoing x)
outgoing_copes (state, group, board) = shows 130 state group _ board

abbrev pub ranked : List ℕ × ℕ × List ℕ → Call
ranked (state, group, ranks) = read_row 68 state group ranks (ranks_bytes_on state group ranks)

pub ranked_copes : (x : List ℕ × ℕ × List ℕ) → Copes (ranked x)
ranked_copes (state, group, ranks) = shows 68 state group _ ranks

abbrev pub owned : List ℕ × ℕ × List ℕ → Call
owned (state, group, mine) = read_row 64 state group mine (owned_bytes_on state group mine)

pub owned_copes : (x : List ℕ × ℕ × List ℕ) → Copes (owned x)
owned_copes (state, group, mine) = shows 64 state group _ mine
