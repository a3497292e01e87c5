-- The sender's C calls in terms of the sender's own. A state of another length is refused with 9 before all else (at starting 4 comes before it),
-- a number that is no byte with 8, and then the sender's own refusals follow.
use Rattle.std.specs.Prelude.{Bool, not, ◌&&◌, ◌||◌, ℕ, length, if◌then◌else◌, ◌==◌, Result, Ok, Err}
use Rattle.ground.specs.Plain.{◌<?◌}
use Rattle.ground.specs.Types.{Bytes, Epoch}
use Rattle.packet.specs.Kinds.{epochs, fixed_kind, known_kind}
use Rattle.sender.specs.declared.epochs.Sender.{Sender}
use Rattle.sender.specs.declared.refusals.Refusal.{Refusal}
use Rattle.sender.specs.Answers.{SenderOutcome}
use Rattle.sender.specs.Epochs.{SenderCall, begin_of, packet_answer, packet_bytes, payload_answer, payload_bytes, sender_outcome_of}
use Rattle.sender.specs.Table.{answer_number}
use Rattle.c_face.specs.Keeping.{bytes_of, sender_of, state_bytes}

abbrev pub is_state : Bytes → Bool
is_state state = length state == state_bytes

-- 4: 'group count .. out of range'
abbrev pub outside : ℕ → Bool
outside count = count == 0 || 64 <? count

abbrev pub H4 : ℕ
H4 = 0

-- the kinds of which there are senders: H4, and VC-12 (request 2026-01); of FIXED there are receivers alone
unfoldable pub sends : ℕ → Bool
sends kind = known_kind kind && not (kind == fixed_kind)

abbrev pub no_start : ℕ → ℕ → Bool
no_start kind count = outside count || not (sends kind)

-- an epoch of H4 is 0 to 255, one of VC-12 0 to 31
abbrev pub is_epoch : ℕ → ℕ → Bool
is_epoch kind e = e <? epochs kind

-- Starting, of a kind: 4, 9, 8.
unfoldable pub start_answer_c : (kind count : ℕ) (first : Epoch) (state : Bytes) → ℕ
start_answer_c kind count first state = if no_start kind count then 4 else if is_state state then (if is_epoch kind first then 0 else 8) else 9

-- 4 returns 'an empty group', where there is room for one. It is of H4, and its first epoch has the number 0, whatever was asked for, so that what is out of range beside it needs no second rule.
unfoldable pub start_state_c : (kind count : ℕ) (first : Epoch) (state : Bytes) → Bytes
start_state_c kind count first state =
    if is_state state then (if no_start kind count then bytes_of (begin_of 0 0 0).sender else if is_epoch kind first then bytes_of (begin_of kind count first).sender else state) else state

-- The calls on a started sender: 9, 8 where the numbers given do not fit, then the call's own.
unfoldable pub call_answer_c : (fits : Bool) (call : SenderCall) (state : Bytes) → ℕ
call_answer_c fits call state = if is_state state then (if fits then answer_number (sender_outcome_of (sender_of state) call).answer else 8) else 9

-- a refusal encodes nothing anew
abbrev pub kept_bytes : SenderOutcome → Bytes → Bytes
kept_bytes outcome state = if answer_number outcome.answer == 0 then bytes_of outcome.sender else state

-- the same of what the call tells
abbrev pub told_bytes : Result Sender Refusal → Bytes → Bytes
told_bytes (Ok s) state = bytes_of s
told_bytes (Err e) state = state

unfoldable pub call_state_c : (fits : Bool) (call : SenderCall) (state : Bytes) → Bytes
call_state_c fits call state = if is_state state then (if fits then kept_bytes (sender_outcome_of (sender_of state) call) state else state) else state

abbrev pub are_bytes : (a b c : ℕ) → Bool
are_bytes a b c = a <? 256 && b <? 256 && c <? 256

-- What a slot sends.
unfoldable pub packet_answer_c : (state : Bytes) (slot : ℕ) (h4 : Bytes) → ℕ
packet_answer_c state slot h4 = if is_state state then answer_number (packet_answer (sender_of state) slot h4) else 9

unfoldable pub packet_bytes_c : (state : Bytes) (slot : ℕ) (h4 : Bytes) → Bytes
packet_bytes_c state slot h4 = if is_state state then packet_bytes (sender_of state) slot h4 else h4

unfoldable pub payload_answer_c : (state : Bytes) (slot P : ℕ) (frame member : Bytes) → ℕ
payload_answer_c state slot P frame member = if is_state state then answer_number (payload_answer (sender_of state) slot P (length frame) (length member)) else 9

unfoldable pub payload_bytes_c : (state : Bytes) (slot P : ℕ) (frame member : Bytes) → Bytes
payload_bytes_c state slot P frame member = if is_state state then payload_bytes (sender_of state) slot P frame member else member
