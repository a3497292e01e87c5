-- The refusals of the sender's C calls: a state of another length is 9, what is no byte 8, then the sender's own. The state is lent, so it stands as the state and not among the lent slices: under 4 starting leaves an empty group in it.
use Rattle.std.specs.Prelude.{◌≡◌, refl, Bool, true, false, not, ◌&&◌, ◌||◌, List, [], ◌∷◌, ℕ, length, if◌then◌else◌, ◌==◌}
use Rattle.std.proofs.Common.{arith, eqb-true}
use Rattle.ground.specs.Plain.{◌<?◌}
use Rattle.ground.specs.Types.{Bytes}
use Rattle.c_face.specs.Boards.{board_bytes_c, outgoing_bytes_c, ranks_bytes_c, shown_answer_c, shown_bytes}
use Rattle.c_face.specs.Keeping.{bytes_of, sender_of}
use Rattle.c_face.specs.Senders.{are_bytes, call_answer_c, call_state_c, packet_answer_c, packet_bytes_c, payload_answer_c, payload_bytes_c, sends, start_answer_c, start_state_c}
use Rattle.conformance.specs.Refusals.Entries.{Call, Copes, If, Refusal, Unless, behind, copes, first, put_anew, stateful, stateless, tested}
use Rattle.conformance.specs.Refusals.Epochs as own
use Rattle.packet.specs.Kinds.{epochs, known_kind}
use Rattle.sender.specs.Calls.Call.{AddSlot, Lapse, RemoveSlot, Report}
use Rattle.sender.specs.Commands.{fresh_of, start_of}
use Rattle.sender.specs.Epochs.{SenderCall, begin_of, fresh_sender, packet_bytes, payload_bytes, sender_outcome_of}
use Rattle.sender.specs.Epochs.SenderCall.{OnTable, StartEpoch}
use Rattle.sender.specs.Table.{answer_number}

-- 397 bytes
abbrev pub is_whole : Bytes → Bool
is_whole state = length state == 397

-- 8: a number that is no byte
abbrev pub all_bytes : (a b c : ℕ) → Bool
all_bytes a b c = a <? 256 && b <? 256 && c <? 256

-- 4: a kind other than H4 and VC-12, whose numbers are 0 and 1; 8: an epoch above 255, of VC-12 above 31
abbrev pub is_sent : ℕ → Bool
is_sent kind = kind == 0 || kind == 1

abbrev pub in_epochs : ℕ → ℕ → Bool
in_epochs kind epoch = epoch <? (if kind == 1 then 32 else 256)

-- Starting, of a kind: 4, 9, 8.
abbrev pub start_as : ℕ × ℕ × ℕ × List ℕ → Call
start_as (kind, count, first_epoch, state) =
    stateful (If 4 (count == 0 || 64 <? count) ∷ Unless 4 (is_sent kind) ∷ Unless 9 (is_whole state) ∷ Unless 8 (in_epochs kind first_epoch) ∷ [])
    (start_answer_c kind count first_epoch state) [] [] state (start_state_c kind count first_epoch state) (if is_whole state then bytes_of (fresh_sender (fresh_of 0 0) 0) else state)

pub sends_is : (kind : ℕ) → sends kind ≡ is_sent kind
unfolding sends known_kind
sends_is kind = go (kind == 0) (kind == 1) (kind == 2) refl refl refl
  where
    go : (a b c : Bool) → (kind == 0) ≡ a → (kind == 1) ≡ b → (kind == 2) ≡ c → ((a || b || c) && not c) ≡ (a || b)
    go true b true ea eb ec = absurd (let z = eqb-true kind 0 ea in let t = eqb-true kind 2 ec in omega arith)
    go false true true ea eb ec = absurd (let z = eqb-true kind 1 eb in let t = eqb-true kind 2 ec in omega arith)
    go true true false ea eb ec = refl
    go true false false ea eb ec = refl
    go false true false ea eb ec = refl
    go false false true ea eb ec = refl
    go false false false ea eb ec = refl

pub start_as_copes : (x : ℕ × ℕ × ℕ × List ℕ) → Copes (start_as x)
unfolding start_answer_c start_state_c begin_of start_of epochs
start_as_copes (kind, count, first_epoch, state) =
    rw (sends_is kind)
    (copes _ (
      λ o. rw o (refl, refl, refl),
      λ o. (λ k. (λ l. (λ f. rw (o, k, l, f), λ f. rw (o, k, l, f) (refl, refl, refl)), λ l. rw (o, k, l) (refl, refl, refl)), λ k. rw (o, k) (refl, refl, refl)),
    ))

-- for the kind H4
abbrev pub start : ℕ × ℕ × List ℕ → Call
start (count, first_epoch, state) =
    stateful (If 4 (count == 0 || 64 <? count) ∷ Unless 9 (is_whole state) ∷ Unless 8 (first_epoch <? 256) ∷ [])
    (start_answer_c 0 count first_epoch state) [] [] state (start_state_c 0 count first_epoch state) (if is_whole state then bytes_of (fresh_sender (fresh_of 0 0) 0) else state)

pub start_copes : (x : ℕ × ℕ × List ℕ) → Copes (start x)
unfolding start_answer_c start_state_c begin_of start_of epochs sends known_kind
start_copes (count, first_epoch, state) =
    copes _ (λ o. rw o (refl, refl, refl), λ o. (λ l. (λ f. rw (o, l, f), λ f. rw (o, l, f) (refl, refl, refl)), λ l. rw (o, l) (refl, refl, refl)))

-- A call on a started sender: 9, 8 where the numbers given are no bytes, then the call's own refusals. `fits` is the contract's own test for that.
abbrev pub sender_row : (state : Bytes) (bytes fits : Bool) (call : SenderCall) (rs : List Refusal) → Call
sender_row state bytes fits call rs = stateful (Unless 9 (is_whole state) ∷ Unless 8 bytes ∷ rs) (call_answer_c fits call state) [] [] state (call_state_c fits call state) state

pub call_copes : (state : List ℕ) (fits : Bool) (call : SenderCall) (rs : List Refusal) → answer_number (sender_outcome_of (sender_of state) call).answer ≡ first rs → Copes (sender_row state fits fits call rs)
unfolding call_answer_c call_state_c
call_copes state fits call rs e = tested 9 (is_whole state) _ _ _ state (tested 8 fits rs _ _ state (put_anew rs (answer_number (sender_outcome_of (sender_of state) call).answer) _ state e))

abbrev pub add : List ℕ × ℕ → Call
add (state, slot) = sender_row state true true (OnTable (AddSlot slot)) (own.add (sender_of state, slot)).refusals

pub add_copes : (x : List ℕ × ℕ) → Copes (add x)
add_copes (state, slot) = call_copes state true _ _ (own.add_copes (sender_of state, slot)).answers

abbrev pub remove : List ℕ × ℕ → Call
remove (state, slot) = sender_row state true true (OnTable (RemoveSlot slot)) (own.remove (sender_of state, slot)).refusals

pub remove_copes : (x : List ℕ × ℕ) → Copes (remove x)
remove_copes (state, slot) = call_copes state true _ _ (own.remove_copes (sender_of state, slot)).answers

abbrev pub report : List ℕ × ℕ × ℕ × ℕ → Call
report (state, epoch, mst, rs_ack) = sender_row state (all_bytes epoch mst rs_ack) (are_bytes epoch mst rs_ack) (OnTable (Report epoch mst rs_ack)) []

pub report_copes : (x : List ℕ × ℕ × ℕ × ℕ) → Copes (report x)
report_copes (state, epoch, mst, rs_ack) = call_copes state (are_bytes epoch mst rs_ack) _ _ (own.report_copes (sender_of state, epoch, mst, rs_ack)).answers

abbrev pub lapse : Bytes → Call
lapse state = sender_row state true true (OnTable Lapse) (own.lapse (sender_of state)).refusals

pub lapse_copes : (x : List ℕ) → Copes (lapse x)
lapse_copes state = call_copes state true _ _ (own.lapse_copes (sender_of state)).answers

abbrev pub start_epoch : List ℕ × ℕ × ℕ × ℕ → Call
start_epoch (state, gid, mst, rs_ack) =
    sender_row state (all_bytes gid mst rs_ack) (are_bytes gid mst rs_ack) (StartEpoch gid mst rs_ack) (own.start_epoch (sender_of state, gid, mst, rs_ack)).refusals

pub start_epoch_copes : (x : List ℕ × ℕ × ℕ × ℕ) → Copes (start_epoch x)
start_epoch_copes (state, gid, mst, rs_ack) = call_copes state (are_bytes gid mst rs_ack) _ _ (own.start_epoch_copes (sender_of state, gid, mst, rs_ack)).answers

-- The board, the board going out and the ranks: 9 unless both lengths are right.

pub shows : (n : ℕ) (state new out : List ℕ)
    → Copes (stateless (Unless 9 (is_whole state && length out == n) ∷ []) (shown_answer_c n state out) (out ∷ []) (shown_bytes n state new out ∷ []))
unfolding shown_answer_c shown_bytes
shows n state new out = copes _ (λ l. rw l, λ l. rw l (refl, refl, refl))

abbrev pub shown : List ℕ × List ℕ → Call
shown (state, board) = stateless (Unless 9 (is_whole state && length board == 130) ∷ []) (shown_answer_c 130 state board) (board ∷ []) (board_bytes_c state board ∷ [])

pub shown_copes : (x : List ℕ × List ℕ) → Copes (shown x)
shown_copes (state, board) = shows 130 state _ board

abbrev pub outgoing : List ℕ × List ℕ → Call
outgoing (state, board) = stateless (Unless 9 (is_whole state && length board == 130) ∷ []) (shown_answer_c 130 state board) (board ∷ []) (outgoing_bytes_c state board ∷ [])

pub outgoing_copes : (x : List ℕ × List ℕ) → Copes (outgoing x)
outgoing_copes (state, board) = shows 130 state _ board

abbrev pub ranked : List ℕ × List ℕ → Call
ranked (state, ranks) = stateless (Unless 9 (is_whole state && length ranks == 68) ∷ []) (shown_answer_c 68 state ranks) (ranks ∷ []) (ranks_bytes_c state ranks ∷ [])

pub ranked_copes : (x : List ℕ × List ℕ) → Copes (ranked x)
ranked_copes (state, ranks) = shows 68 state _ ranks

-- What a slot sends: 9, then the sender's own.

abbrev pub packet : List ℕ × ℕ × List ℕ → Call
packet (state, slot, h4) =
    stateless (Unless 9 (is_whole state) ∷ (own.packet (sender_of state, slot, h4)).refusals) (packet_answer_c state slot h4) (h4 ∷ []) (packet_bytes_c state slot h4 ∷ [])

pub packet_copes : (x : List ℕ × ℕ × List ℕ) → Copes (packet x)
unfolding packet_answer_c packet_bytes_c
packet_copes (state, slot, h4) = behind 9 (is_whole state) _ _ (packet_bytes (sender_of state) slot h4) h4 (own.packet_copes (sender_of state, slot, h4))

abbrev pub payload : List ℕ × ℕ × ℕ × List ℕ × List ℕ → Call
payload (state, slot, p, frame, member) =
    stateless (Unless 9 (is_whole state) ∷ (own.payload (sender_of state, slot, p, frame, member)).refusals)
    (payload_answer_c state slot p frame member) (member ∷ []) (payload_bytes_c state slot p frame member ∷ [])

pub payload_copes : (x : List ℕ × ℕ × ℕ × List ℕ × List ℕ) → Copes (payload x)
unfolding payload_answer_c payload_bytes_c
payload_copes (state, slot, p, frame, member) =
    behind 9 (is_whole state) _ _ (payload_bytes (sender_of state) slot p frame member) member (own.payload_copes (sender_of state, slot, p, frame, member))
