-- A group by itself: what each of its calls gives back and leaves, from its view, the call and, for a claim alone, one bit: the other owns the slot asked for.
use Rattle.std.specs.Prelude.{Bool, true, false, ◌||◌, List, [], ◌∷◌, ℕ, get_or, length, if◌then◌else◌, ◌==◌}
use Rattle.ground.specs.Flags.{one_if}
use Rattle.ground.specs.Plain.{◌<?◌}
use Rattle.ground.specs.Table.{tabulate}
use Rattle.ground.specs.Types.{Bytes}
use Rattle.sender.specs.Board.{board_of}
use Rattle.sender.specs.Calls.{Call as T}
use Rattle.sender.specs.Epochs as E
use Rattle.sender.specs.Epochs.{SenderCall as S, sender_outcome_of}
use Rattle.sender.specs.Table.{is_member, slot_count, slot_at}
use Rattle.cards.specs.Answers.{Answer, from_sender}
use Rattle.cards.specs.Answers.{Answer as A}
use Rattle.cards.specs.Calls.{Call}
use Rattle.cards.specs.Calls.Call.{Claim, Release, AddSlot, RemoveSlot, Report, Lapse, StartEpoch}
use Rattle.cards.specs.Views.{Asked, Reply, View}
use Rattle.cards.specs.Views.Asked.{Do, Packet, Payload, Board, Outgoing, Ranks, Owned}
use Rattle.cards.specs.Views.Reply.{Answered, Wrote, Showed, Ranked, Owns}

abbrev pub slot_in : View → ℕ → Bool
slot_in v i = i <? slot_count v.sender.table.count

abbrev pub own_in : View → ℕ → Bool
own_in v i = get_or v.owned i false

abbrev pub with_own : (v : View) (slot : ℕ) (b : Bool) → View
with_own v i b = record { sender = v.sender; owned = tabulate 64 (λ j. if j == i then b else own_in v j) }

-- what a call leaves and answers
pub record Seen : Type 0 where
  pub view : View
  pub answer : Answer

abbrev pub seen : View → Answer → Seen
seen v a = record { view = v; answer = a }

abbrev pub claim_seen : (v : View) (slot : ℕ) (taken : Bool) → Seen
claim_seen v i taken = if slot_in v i then (if own_in v i || taken then seen v A.Owned else seen (with_own v i true) A.Done) else seen v A.NoSlot

abbrev pub own_seen : (v : View) (slot : ℕ) (r : Seen) → Seen
own_seen v i r = if slot_in v i then (if own_in v i then r else seen v A.Owned) else seen v A.NoSlot

abbrev pub release_seen : View → ℕ → Seen
release_seen v i = own_seen v i (if is_member (slot_at v.sender.table.slots i).state then seen v A.Used else seen (with_own v i false) A.Done)

abbrev pub sent_seen : View → S → Seen
sent_seen v k = let r = sender_outcome_of v.sender k in seen (record { sender = r.sender; owned = v.owned }) (from_sender r.answer)

abbrev pub outcome_seen : (v : View) (call : Call) (taken : Bool) → Seen
outcome_seen v (Claim i) taken = claim_seen v i taken
outcome_seen v (Release i) taken = release_seen v i
outcome_seen v (AddSlot i) taken = own_seen v i (sent_seen v (S.OnTable (T.AddSlot i)))
outcome_seen v (RemoveSlot i) taken = own_seen v i (sent_seen v (S.OnTable (T.RemoveSlot i)))
outcome_seen v (Report e mst ack) taken = sent_seen v (S.OnTable (T.Report e mst ack))
outcome_seen v Lapse taken = sent_seen v (S.OnTable T.Lapse)
outcome_seen v (StartEpoch gid mst ack) taken = sent_seen v (S.StartEpoch gid mst ack)

-- of a slot that is the group's own
abbrev pub own_answer : (v : View) (slot : ℕ) (a : Answer) → Answer
own_answer v i a = if slot_in v i then (if own_in v i then a else A.Owned) else A.NoSlot

abbrev pub own_bytes : (v : View) (slot : ℕ) (new old : Bytes) → Bytes
own_bytes v i new old = if slot_in v i then (if own_in v i then new else old) else old

abbrev pub reply_seen : (v : View) (asked : Asked) (taken : Bool) → Reply
reply_seen v (Do k) taken = Answered (outcome_seen v k taken).answer
reply_seen v (Packet i h4) taken = Wrote (own_answer v i (from_sender (E.packet_answer v.sender i h4))) (own_bytes v i (E.packet_bytes v.sender i h4) h4)
reply_seen v (Payload i p frame member) taken =
    Wrote (own_answer v i (from_sender (E.payload_answer v.sender i p (length frame) (length member)))) (own_bytes v i (E.payload_bytes v.sender i p frame member) member)
reply_seen v Board taken = Showed (record { board = board_of v.sender.table; answer = A.Done })
reply_seen v Outgoing taken = Showed (record { board = v.sender.outgoing; answer = A.Done })
reply_seen v Ranks taken = Ranked (record { ranks = E.ranks_of v.sender; answer = A.Done })
reply_seen v Owned taken = Owns (record { owned = tabulate 64 (λ i. one_if (own_in v i)); answer = A.Done })

abbrev pub view_after : (v : View) (asked : Asked) (taken : Bool) → View
view_after v (Do k) taken = (outcome_seen v k taken).view
view_after v (Packet i h4) taken = v
view_after v (Payload i p frame member) taken = v
view_after v Board taken = v
view_after v Outgoing taken = v
view_after v Ranks taken = v
view_after v Owned taken = v

-- its calls one after the other, each with its bit
abbrev pub replies_seen : (v : View) (ks : List Asked) (bs : List Bool) → List Reply
replies_seen v [] bs = []
replies_seen v (k ∷ ks) [] = []
replies_seen v (k ∷ ks) (b ∷ bs) = reply_seen v k b ∷ replies_seen (view_after v k b) ks bs

abbrev pub view_seen : (v : View) (ks : List Asked) (bs : List Bool) → View
view_seen v [] bs = v
view_seen v (k ∷ ks) [] = v
view_seen v (k ∷ ks) (b ∷ bs) = view_seen (view_after v k b) ks bs
