-- Every packet that a sender of C calls writes (request 2026-01: of every kind of sender). After a C start that was done and any C calls, each slot's packet is written with 0 once an epoch has started: its fields fit the kind's,
-- it has a byte for each frame of an epoch, each byte counts at its place (of VC-12: says the start at place 0 and nowhere else, and has the count's bits at places 0 to 4), and it reads back as what the sender says.
use Rattle.std.proofs.Math.Path.{◌≡◌, refl}
use Rattle.std.proofs.Common.{sym, ap, ◌∙◌, ⊎_elim, arith}
use Rattle.std.specs.Prelude.{Bool, not, ◌&&◌, ◌||◌, List, [], ◌∷◌, ℕ, ◌≤◌, ◌<◌, get_or, length, if◌then◌else◌, ◌==◌, Ok}
use Rattle.std.proofs.Math.Bool.{true, false}
use borrow.Author.Tests.{eq-eqb, lt-ltb, ltb-false, ltb-true}
use Rattle.c_face.specs.Keeping.{sender_of}
use Rattle.c_face.specs.Runs.{numbers_fit, meant, run_c}
use Rattle.c_face.specs.Senders.{are_bytes, is_epoch, is_state, outside, packet_answer_c, packet_bytes_c, sends, start_answer_c, start_state_c}
use Rattle.c_face.specs.Theorems.CratesOwn.{packet_own}
use Rattle.c_face.specs.Theorems.Runs.{runs_own, runs_sized}
use Rattle.ground.specs.Plain.{◌<?◌}
use Rattle.ground.specs.Truth.{and_left, and_right, le_or_lt, neither}
use Rattle.packet.specs.AsSent.{Sent}
use Rattle.packet.specs.Counts.{counts}
use Rattle.packet.specs.Kinds.{epoch_of, epochs, frames, place_of, tag_of}
use Rattle.packet.specs.Theorems.Sent.{sent_as}
use Rattle.packet.specs.Ruling.{read_row}
use Rattle.packet.specs.Sent.{sent_answer, sent_bytes, sent_fits}
use Rattle.packet.specs.Symbols.{packet_row}
use Rattle.sender.specs.Commands.{fresh_of, start_of}
use Rattle.sender.specs.Epochs.{SenderCall, begin_of, fresh_sender, packet_answer, packet_bytes, packet_fields, sender_after, sender_outcome_of, sender_run, start_epoch_of, started_sender}
use Rattle.sender.specs.SenderRuns.{AllGiven}
use Rattle.sender.specs.Theorems.Packets.{packet_done, written_done}
use Rattle.sender.specs.declared.epochs.Sender.{Sender}
use Rattle.sender.specs.Answers.{SenderOutcome}
use Rattle.sender.specs.Epochs.SenderCall.{OnTable, StartEpoch}
use Rattle.sender.specs.Answers.Answer.{Done, Field}
use Rattle.sender.specs.Laws.Kept.{group_call, start_kind}
use Rattle.sender.specs.Laws.Sizes.{size_large, size_small}
use Rattle.sender.specs.Table.{answer_number, slot_count}

pub record WrittenC (kind : ℕ) (state : List ℕ) (slot : ℕ) (bytes : List ℕ) : Type 0 where
  pub answer : packet_answer_c state slot bytes ≡ 0
  pub fields : sent_fits kind (packet_fields (sender_of state) slot) ≡ true
  pub long : length (packet_bytes_c state slot bytes) ≡ frames kind
  pub told : (x : ℕ) → (packet_fields (sender_of state) slot).epoch ≡ epoch_of kind (tag_of kind x) → counts kind (tag_of kind x) (get_or (packet_bytes_c state slot bytes) (place_of kind (tag_of kind x)) 0) ≡ true
  pub reads : read_row kind (packet_row kind (packet_bytes_c state slot bytes)) ≡ Ok (packet_fields (sender_of state) slot)

-- the calls of an epoch that are not refused for a number that is no byte are given bytes
meant_given : (cs : List SenderCall) → AllGiven (meant cs)
meant_given [] = tt
meant_given (OnTable c ∷ cs) = go (numbers_fit (OnTable c)) (meant_given cs)
  where
    go : (b : Bool) → AllGiven (meant cs) → AllGiven (if b then OnTable c ∷ meant cs else meant cs)
    go true rest = (tt, rest)
    go false rest = rest
meant_given (StartEpoch gid mst ack ∷ cs) = go (are_bytes gid mst ack) refl (meant_given cs)
  where
    go : (b : Bool) → are_bytes gid mst ack ≡ b → AllGiven (meant cs) → AllGiven (if b then StartEpoch gid mst ack ∷ meant cs else meant cs)
    go true e rest = (ltb-true mst 256 (and_right (gid <? 256) (mst <? 256) (and_left (gid <? 256 && mst <? 256) (ack <? 256) e)), rest)
    go false e rest = rest

-- kind and count stay
record Same (s r : Sender) : Type 0 where
  kind : r.table.kind ≡ s.table.kind
  count : r.table.count ≡ s.table.count

same_start : (s : Sender) (gid mst ack : ℕ) → Same s (start_epoch_of s gid mst ack).sender
unfolding start_epoch_of started_sender
same_start s gid mst ack = go (gid <? 2 && ack <? 2)
  where
    started : SenderOutcome
    started = record { sender = started_sender s gid mst ack; answer = Done }

    refused : SenderOutcome
    refused = record { sender = s; answer = Field }

    go : (b : Bool) → Same s (if b then started else refused).sender
    go true = record { kind = refl; count = refl }
    go false = record { kind = refl; count = refl }

same_run : (s : Sender) (cs : List SenderCall) → Same s (sender_run s cs)
same_run s [] = record { kind = refl; count = refl }
same_run s (OnTable c ∷ cs) =
    let g = group_call s.table c in
    let o = same_run (sender_outcome_of s (OnTable c)).sender cs in
    record { kind = o.kind ∙ g.kind; count = o.count ∙ g.count }
same_run s (StartEpoch gid mst ack ∷ cs) =
    let g = same_start s gid mst ack in
    let o = same_run (sender_outcome_of s (StartEpoch gid mst ack)).sender cs in
    record { kind = o.kind ∙ g.kind; count = o.count ∙ g.count }

-- what the last of three tests gives, where all hold
module _ {A : Type 0} (a b c : Bool) (ea : a ≡ true) (eb : b ≡ true) (ec : c ≡ true) where
  third : (x n l s d : A) → (if a then (if b then (if c then x else n) else l) else s) ≡ d → x ≡ d
  third x n l s d e = rw (ea, eb, ec) at e

  three : (x y : A) → (if a && b && c then x else y) ≡ x
  three x y = rw (ea, eb, ec) refl

-- a slot's packet, once it is answered 0
module _ (s : Sender) (slot : ℕ) (bytes : List ℕ) (below : slot < slot_count s.table.count) (room : length bytes ≡ frames s.table.kind) (begun : s.begun ≡ true) where
  sent_done : packet_answer s slot bytes ≡ Done → sent_answer s.table.kind (packet_fields s slot) bytes ≡ Ok tt
  unfolding packet_answer
  sent_done e =
      written_done (sent_answer s.table.kind (packet_fields s slot) bytes)
      (third _ _ _ (lt-ltb slot (slot_count s.table.count) below) (eq-eqb (length bytes) (frames s.table.kind) room) begun _ _ _ _ Done e)

  sent_bytes_lem : packet_bytes s slot bytes ≡ sent_bytes s.table.kind (packet_fields s slot) bytes
  unfolding packet_bytes
  sent_bytes_lem = three _ _ _ (lt-ltb slot (slot_count s.table.count) below) (eq-eqb (length bytes) (frames s.table.kind) room) begun _ bytes

module _ (kind count first : ℕ) (state : List ℕ) (done : start_answer_c kind count first state ≡ 0) where
  abbrev after : List SenderCall → List ℕ
  after calls = run_c (start_state_c kind count first state) calls

  -- what a start that was done was asked for
  record Asked : Type 0 where
    inside : outside count ≡ false
    epoch : first < epochs kind

  asked : Asked
  unfolding start_answer_c
  asked = go (outside count) (not (sends kind)) (is_state state) (is_epoch kind first) refl refl done
    where
      go : (o n l f : Bool) → outside count ≡ o → is_epoch kind first ≡ f → ◌≡◌ {A = ℕ} (if o || n then 4 else if l then (if f then 0 else 8) else 9) 0 → Asked
      go true n l f eo ef e = absurd (omega arith)
      go false true l f eo ef e = absurd (omega arith)
      go false false false f eo ef e = absurd (omega arith)
      go false false true false eo ef e = absurd (omega arith)
      go false false true true eo ef e = record { inside = eo; epoch = ltb-true first (epochs kind) ef }

  table_kind : (begin_of kind count first).sender.table.kind ≡ kind
  unfolding begin_of fresh_sender
  table_kind = start_kind kind count

  table_count : (begin_of kind count first).sender.table.count ≡ count
  unfolding begin_of fresh_sender start_of fresh_of
  table_count = rw asked.inside refl

  size_is : slot_count count ≡ count
  size_is =
      let n = neither (count == 0) (64 <? count) asked.inside in
      let most : count ≤ 64 = ltb-false 64 count n.1 in
      ⊎_elim (λ (l : 64 ≤ count). size_large count l ∙ (omega arith)) (λ (l : count < 64). size_small count l) (le_or_lt 64 count)

  pub packets_written : (calls : List SenderCall) → (sender_of (after calls)).begun ≡ true → (slot : ℕ) → slot < count → (bytes : List ℕ) → length bytes ≡ frames kind → WrittenC kind (after calls) slot bytes
  packets_written calls begun slot below bytes room =
      record { answer = own.0 ∙ ap answer_number answered; fields = w.fits; long = rw bytes_are w.long; told = λ x e. rw bytes_are (w.told x e); reads = rw bytes_are w.reads }
    where
      s : Sender
      s = sender_of (after calls)

      run : Sender
      run = sender_after kind count first (meant calls)

      is : s ≡ run
      is = runs_own kind count first state calls done

      same : Same (begin_of kind count first).sender run
      same = same_run (begin_of kind count first).sender (meant calls)

      run_kind : run.table.kind ≡ kind
      run_kind = same.kind ∙ table_kind

      run_size : slot_count run.table.count ≡ count
      run_size = ap slot_count (same.count ∙ table_count) ∙ size_is

      kind_is : s.table.kind ≡ kind
      kind_is = ap (λ (r : Sender). r.table.kind) is ∙ run_kind

      size : slot_count s.table.count ≡ count
      size = ap (λ (r : Sender). slot_count r.table.count) is ∙ run_size

      begun_run_lem : run.begun ≡ true
      begun_run_lem = sym (ap (λ (r : Sender). r.begun) is) ∙ begun

      below_run : slot < slot_count run.table.count
      below_run = rw run_size below

      own : (packet_answer_c (after calls) slot bytes ≡ answer_number (packet_answer s slot bytes)) × (packet_bytes_c (after calls) slot bytes ≡ packet_bytes s slot bytes)
      own = packet_own (after calls) slot bytes (runs_sized kind count first state calls done)

      answered : packet_answer s slot bytes ≡ Done
      answered =
          ap (λ (r : Sender). packet_answer r slot bytes) is
          ∙ packet_done kind count first (meant calls) asked.epoch (meant_given calls) begun_run_lem slot below_run bytes (room ∙ ap frames (sym run_kind))

      there : slot < slot_count s.table.count
      there = rw size below

      room_is : length bytes ≡ frames s.table.kind
      room_is = room ∙ ap frames (sym kind_is)

      sent : sent_answer kind (packet_fields s slot) bytes ≡ Ok tt
      sent = ap (λ (k : ℕ). sent_answer k (packet_fields s slot) bytes) (sym kind_is) ∙ sent_done s slot bytes there room_is begun answered

      w : Sent kind (packet_fields s slot) bytes
      w = sent_as kind (packet_fields s slot) bytes sent

      bytes_are : packet_bytes_c (after calls) slot bytes ≡ sent_bytes kind (packet_fields s slot) bytes
      bytes_are = own.1 ∙ sent_bytes_lem s slot bytes there room_is begun ∙ ap (λ (k : ℕ). sent_bytes k (packet_fields s slot) bytes) kind_is
