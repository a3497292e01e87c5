-- The packet of a slot is never refused for its fields: after any calls from a start, each given bytes, it is written once an epoch has started and the lent bytes are as many as a packet has. Its reserved bits are 0.
use Rattle.std.specs.Prelude.{◌≡◌, refl, ◌⊎◌, Bool, true, false, cond, not, ◌&&◌, List, [], ◌∷◌, ℕ, ◌<◌, eqb, ltb, length, Ok, Err}
use Rattle.std.proofs.Common.{◌∙◌, ap, inl, inr, ⊎_elim, arith, lit<}
use borrow.Author.Tests.{eq-eqb, lt-ltb, ltb-true}
use Rattle.ground.specs.Truth.{and_left, and_right}
use Rattle.ground.specs.Counting.Laws.Numbers.{count_le}
use Rattle.packet.specs.Kinds.{epoch_after, epochs, frames, idle_number}
use Rattle.packet.specs.Laws.Reading.{lcas_assigned}
use Rattle.packet.specs.Laws.Writing.{answer_sized, fields_fit as sent-fit}
use Rattle.packet.specs.Reserved.{NoneReservedBy}
use Rattle.packet.specs.Theorems.Reserved.{none_reserved_by}
use Rattle.packet.specs.declared.writer.Unwritten.TheVariants as W
use Rattle.packet.specs.Sent.{sent_answer, sent_fits}
use Rattle.packet.specs.Theorems.Tags.{epoch_after_lt}
use Rattle.packet.specs.Words.{ADD, DNU, EOS, FIXED, IDLE, NORM, assigned}
use Rattle.packet.specs.Writing.{Writing}
use Rattle.sender.specs.Epochs.{SenderCall, begin_of, fresh_sender, packet_answer, packet_bytes, packet_fields, sender_after, sender_outcome_of, sender_run, start_epoch_of, started_epoch, started_sender}
use Rattle.sender.specs.SenderRuns.{AllGiven, Given}
use Rattle.sender.specs.Theorems.Epochs.{SoundSender, sender_sound}
use Rattle.sender.specs.declared.board.Board.{Board}
use Rattle.sender.specs.declared.board.Row.{Row}
use Rattle.sender.specs.declared.epochs.Sender.{Sender}
use Rattle.sender.specs.Answers.{SenderOutcome}
use Rattle.sender.specs.Answers.Answer.{Done, Field}
use Rattle.sender.specs.declared.table.State.{State}
use Rattle.sender.specs.declared.table.State.TheVariants.{Idle, Add, Active, Dnu}
use Rattle.sender.specs.declared.table.Table.{Table}
use Rattle.sender.specs.Board.{board_of, highest, row_of, word_of}
use Rattle.sender.specs.Epochs.SenderCall.{OnTable, StartEpoch}
use Rattle.sender.specs.Laws.Carrying.{board_row, row_number}
use Rattle.sender.specs.Laws.Kept.{Sound, group_call, start_kind}
use Rattle.sender.specs.Laws.Sizes.{size_le}
use Rattle.sender.specs.Numbering.{number_in, slots_in, state_in}
use Rattle.sender.specs.Outcomes.{written}
use Rattle.sender.specs.Ranks.{row_at}
use Rattle.sender.specs.Table.{answer_number, is_member, slot_count}

-- what a packet's fields ask beside the row
record Fit (s : Sender) : Type 0 where
  epoch : s.epoch < epochs s.table.kind
  mst : s.mst < 256
  gid : s.gid < 2
  ack : s.rs_ack < 2

fit_fresh : (kind count e : ℕ) → e < epochs kind → Fit (begin_of kind count e).sender
unfolding begin_of fresh_sender
fit_fresh kind count e h = record { epoch = rw (start_kind kind count) h; mst = lit< tt; gid = lit< tt; ack = lit< tt }

fit_epoch : (s : Sender) → Fit s → started_epoch s < epochs s.table.kind
unfolding started_epoch
fit_epoch s o = go s.begun
  where
    go : (b : Bool) → cond b (epoch_after s.table.kind s.epoch) s.epoch < epochs s.table.kind
    go true = epoch_after_lt s.table.kind s.epoch
    go false = o.epoch

fit_started : (s : Sender) (gid mst ack : ℕ) → mst < 256 → Fit s → Fit (start_epoch_of s gid mst ack).sender
unfolding start_epoch_of started_sender
fit_started s gid mst ack h o = go (ltb gid 2 && ltb ack 2) refl
  where
    go : (b : Bool) → (ltb gid 2 && ltb ack 2) ≡ b
        → Fit (cond {A = SenderOutcome} b (record { sender = started_sender s gid mst ack; answer = Done }) (record { sender = s; answer = Field })).sender
    go true e =
        record {
          epoch = fit_epoch s o;
          mst = h;
          gid = ltb-true gid 2 (and_left (ltb gid 2) (ltb ack 2) e);
          ack = ltb-true ack 2 (and_right (ltb gid 2) (ltb ack 2) e);
        }
    go false e = o

fit_call : (s : Sender) (c : SenderCall) → Given c → Fit s → Fit (sender_outcome_of s c).sender
fit_call s (OnTable c) g o = record { epoch = rw (group_call s.table c).kind o.epoch; mst = o.mst; gid = o.gid; ack = o.ack }
fit_call s (StartEpoch gid mst ack) g o = fit_started s gid mst ack g o

fit_run : (s : Sender) (cs : List SenderCall) → AllGiven cs → Fit s → Fit (sender_run s cs)
fit_run s [] g o = o
fit_run s (c ∷ cs) g o = fit_run (sender_outcome_of s c).sender cs g.1 (fit_call s c g.0 o)

-- a state's word is assigned and not FIXED
word_fits : (s : State) (last : Bool) → (not (eqb (word_of s last).0 FIXED) && assigned (word_of s last)) ≡ true
word_fits Idle last = lcas_assigned IDLE refl
word_fits Add last = lcas_assigned ADD refl
word_fits Active true = lcas_assigned EOS refl
word_fits Active false = lcas_assigned NORM refl
word_fits Dnu last = lcas_assigned DNU refl

own_word : (t : Table) (i : ℕ) → (not (eqb (row_of t.slots (slots_in t) i).word.0 FIXED) && assigned (row_of t.slots (slots_in t) i).word) ≡ true
unfolding row_of
own_word t i = word_fits (state_in t i) (highest t.slots (slots_in t) (number_in t i))

row_fits : (t : Table) (i : ℕ) → i < slots_in t → (not (eqb (row_at (board_of t).rows i).word.0 FIXED) && assigned (row_at (board_of t).rows i).word) ≡ true
row_fits t i h = ap (λ (r : Row). not (eqb r.word.0 FIXED) && assigned r.word) (board_row t i h) ∙ own_word t i

-- a number is below 64 or the idle number
number_fits : (t : Table) → Sound t → (i : ℕ) → i < slots_in t → (number_in t i < 64) ⊎ (number_in t i ≡ idle_number t.kind)
number_fits t o i h = go (is_member (state_in t i)) refl
  where
    go : (b : Bool) → is_member (state_in t i) ≡ b → (number_in t i < 64) ⊎ (number_in t i ≡ idle_number t.kind)
    go true e =
        let l = o.numbered.top i h e in
        let k = count_le (slots_in t) (λ j. is_member (state_in t j)) in
        let z = size_le t.count in
        let low : number_in t i < 64 = omega arith in
        inl low
    go false e = inr (o.numbered.idles i h e)

-- the fields of a slot's packet fit
fields_fit : (s : Sender) → Fit s → SoundSender s → (i : ℕ) → i < slots_in s.table → sent_fits s.table.kind (packet_fields s i) ≡ true
unfolding packet_fields
fields_fit s o w i h = sent-fit s.table.kind (packet_fields s i) o.epoch o.mst number o.gid o.ack refl word
  where
    t : Table
    t = w.outgoing.source

    below : i < slots_in t
    below = rw w.outgoing.slots h

    number_is : (row_at s.outgoing.rows i).number ≡ number_in t i
    number_is = ap (λ (b : Board). (row_at b.rows i).number) w.outgoing.is ∙ row_number t i below

    number : ((row_at s.outgoing.rows i).number < 64) ⊎ ((row_at s.outgoing.rows i).number ≡ idle_number s.table.kind)
    number =
        ⊎_elim (λ (l : number_in t i < 64). inl (rw number_is l)) (λ (e : number_in t i ≡ idle_number t.kind). inr (number_is ∙ e ∙ ap idle_number w.kind))
        (number_fits t w.outgoing.sound i below)

    word : (not (eqb (row_at s.outgoing.rows i).word.0 FIXED) && assigned (row_at s.outgoing.rows i).word) ≡ true
    word = rw w.outgoing.is (row_fits t i below)

all_right : (s : Sender) (i : ℕ) (h4 : List ℕ) → i < slots_in s.table → length h4 ≡ frames s.table.kind → s.begun ≡ true → sent_fits s.table.kind (packet_fields s i) ≡ true → packet_answer s i h4 ≡ Done
unfolding packet_answer
all_right s i h4 l k b f =
    rw (lt-ltb i (slot_count s.table.count) l, answer_sized s.table.kind (packet_fields s i) h4, eq-eqb (length h4) (frames s.table.kind) k, f, b)

pub packet_done : (kind count e : ℕ) (cs : List SenderCall) → e < epochs kind → AllGiven cs → (sender_after kind count e cs).begun ≡ true
    → (i : ℕ) → i < slots_in (sender_after kind count e cs).table → (h4 : List ℕ) → length h4 ≡ frames (sender_after kind count e cs).table.kind → packet_answer (sender_after kind count e cs) i h4 ≡ Done
packet_done kind count e cs h g b i l h4 k =
    let s = sender_after kind count e cs in
    all_right s i h4 l k b (fields_fit s (fit_run (begin_of kind count e).sender cs g (fit_fresh kind count e h)) (sender_sound kind count e cs) i l)

pub written_done : (w : Writing) → written w ≡ Done → w ≡ Ok tt
written_done (Ok u) e = refl
written_done (Err W.Length) e = absurd (let n = ap answer_number e in omega arith)
written_done (Err W.Field) e = absurd (let n = ap answer_number e in omega arith)

module _ (s : Sender) (i : ℕ) (h4 : List ℕ) (below : i < slots_in s.table) (room : length h4 ≡ frames s.table.kind) (begun : s.begun ≡ true) where
  zeros_in : packet_answer s i h4 ≡ Done → NoneReservedBy s.table.kind (packet_bytes s i h4)
  unfolding packet_answer packet_bytes packet_fields
  zeros_in e =
      rw (lt-ltb i (slot_count s.table.count) below, eq-eqb (length h4) (frames s.table.kind) room, begun)
      (none_reserved_by s.table.kind (packet_fields s i) h4 (written_done (sent_answer s.table.kind (packet_fields s i) h4) (rw (lt-ltb i (slot_count s.table.count) below, eq-eqb (length h4) (frames s.table.kind) room, begun) at e)) refl)

-- 'Our sender still writes zeros' (request 2026-08): after any calls from a start, in the bytes of every slot's packet
pub packet_zeros : (kind count e : ℕ) (cs : List SenderCall) → e < epochs kind → AllGiven cs → (sender_after kind count e cs).begun ≡ true
    → (i : ℕ) → i < slots_in (sender_after kind count e cs).table → (h4 : List ℕ) → length h4 ≡ frames (sender_after kind count e cs).table.kind → NoneReservedBy (sender_after kind count e cs).table.kind (packet_bytes (sender_after kind count e cs) i h4)
packet_zeros kind count e cs h g b i l h4 k = zeros_in (sender_after kind count e cs) i h4 l k b (packet_done kind count e cs h g b i l h4 k)
