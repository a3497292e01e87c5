-- Every run of C calls from a C start is the sender's own run, read through the state's bytes. So what is proved of the sender's runs, demand 2 among it, holds of the C host's.
use Rattle.std.proofs.Math.Path.{◌≡◌}
use Rattle.std.specs.Prelude.{refl, Bool, cond, not, ◌&&◌, List, [], ◌∷◌, ℕ, eqb, ltb, length, replicate}
use Rattle.std.proofs.Common.{◌∙◌, ap, true≢false, arith, eq-eqb}
use Rattle.std.proofs.Math.Bool.{true, false}
use Rattle.std.proofs.lemmas.List.{length-replicate}
use Rattle.ground.specs.Counting.Each.{length_each}
use Rattle.ground.specs.Table.{length_tabulate}
use Rattle.sender.specs.Board.{board_of, no_row, row_of, rows_of}
use Rattle.sender.specs.SenderRuns.{Demand2Kept}
use Rattle.sender.specs.Theorems.Epochs.{demand2_kept}
use Rattle.sender.specs.declared.epochs.Sender.{Sender}
use Rattle.sender.specs.Answers.{SenderOutcome, Answer}
use Rattle.sender.specs.Answers.Answer.{Done, NotAllowed, Field}
use Rattle.sender.specs.declared.table.Table.{Table}
use Rattle.sender.specs.Calls.{Call, outcome_of}
use Rattle.sender.specs.Calls.Call.{AddSlot, RemoveSlot, Report, Lapse}
use Rattle.sender.specs.Commands.{add_of, added_to, answered, in_order, lapse_of, remove_of, removed_from, start_of, with_slots}
use Rattle.sender.specs.Epochs.{SenderCall, begin_of, fresh_sender, sender_outcome_of, sender_run, start_epoch_of, started_sender}
use Rattle.sender.specs.Epochs.SenderCall.{OnTable, StartEpoch}
use Rattle.sender.specs.Laws.Kept.{Sound, sound_call, sound_start}
use Rattle.sender.specs.Numbering.{Demand2}
use Rattle.sender.specs.Reports.{report_of}
use Rattle.sender.specs.Table.{answer_number, is_member, slot_count, slot_at}
use Rattle.sender.specs.Theorems.Demand2.{sound_demand2}
use Rattle.c_face.specs.Keeping.{Whole, bytes_of, byte_at, sender_of}
use Rattle.c_face.specs.Runs.{numbers_fit, meant, run_c}
use Rattle.c_face.specs.Senders.{call_state_c, is_epoch, is_state, kept_bytes, no_start, start_answer_c, start_state_c}
use Rattle.c_face.specs.Theorems.Round.{round}

-- what a start or a call leaves
pub record Keepable (s : Sender) : Type 0 where
  pub table : Sound s.table
  pub outgoing : length s.outgoing.rows ≡ 64
  pub ruling : length s.ruling.rows ≡ 64

pub keepable_whole : (s : Sender) → Keepable s → Whole s
keepable_whole s h = record { slots = h.table.whole; outgoing = h.outgoing; ruling = h.ruling }

board_whole : (t : Table) → length (board_of t).rows ≡ 64
unfolding board_of rows_of
board_whole t =
    length_each (slot_count t.count) (λ i. row_of t.slots (slot_count t.count) i) (replicate 64 (no_row t.kind)) ∙ length-replicate 64 (no_row t.kind)

pub keepable_begin : (kind count first : ℕ) → Keepable (begin_of kind count first).sender
unfolding begin_of fresh_sender
keepable_begin kind count first = record { table = sound_start kind count; outgoing = board_whole (start_of kind count).table; ruling = board_whole (start_of kind count).table }

pub keepable_call : (s : Sender) (c : SenderCall) → Keepable s → Keepable (sender_outcome_of s c).sender
unfolding start_epoch_of started_sender
keepable_call s (OnTable c) h = record { table = sound_call s.table c h.table; outgoing = h.outgoing; ruling = h.ruling }
keepable_call s (StartEpoch gid mst ack) h = go (ltb gid 2 && ltb ack 2)
  where
    go : (b : Bool) → Keepable (cond {A = SenderOutcome} b (record { sender = started_sender s gid mst ack; answer = Done }) (record { sender = s; answer = Field })).sender
    go true = record { table = h.table; outgoing = board_whole s.table; ruling = h.outgoing }
    go false = h

keepable_run : (s : Sender) (cs : List SenderCall) → Keepable s → Keepable (sender_run s cs)
keepable_run s [] h = h
keepable_run s (c ∷ cs) h = keepable_run (sender_outcome_of s c).sender cs (keepable_call s c h)

-- a refusal leaves the sender as given
unfoldable pub refuses : Answer → Bool
refuses a = eqb (answer_number a) 0

order_given : (t next : Table) (i : ℕ) (allowed : Bool) → refuses (in_order t i allowed next).answer ≡ false → (in_order t i allowed next).table ≡ t
unfolding refuses
order_given t next i allowed k = go (ltb i (slot_count t.count)) t.wait allowed refl refl k
  where
    go : (b w a : Bool) → ltb i (slot_count t.count) ≡ b → t.wait ≡ w → eqb (answer_number (in_order t i a next).answer) 0 ≡ false → (in_order t i a next).table ≡ t
    go true true a eb ew k = rw (eb, ew) refl
    go true false true eb ew k = absurd (true≢false (rw (eb, ew) at k))
    go true false false eb ew k = rw (eb, ew) refl
    go false w a eb ew k = rw eb refl

lapse_given : (t : Table) (w : Bool) → refuses (cond w (answered (with_slots t t.slots false) Done) (answered t NotAllowed)).answer ≡ false
    → (cond w (answered (with_slots t t.slots false) Done) (answered t NotAllowed)).table ≡ t
unfolding refuses
lapse_given t true k = absurd (true≢false k)
lapse_given t false k = refl

epoch_given_lem : (s next : Sender) (b : Bool) → refuses (cond {A = SenderOutcome} b (record { sender = next; answer = Done }) (record { sender = s; answer = Field })).answer ≡ false
    → (cond {A = SenderOutcome} b (record { sender = next; answer = Done }) (record { sender = s; answer = Field })).sender ≡ s
unfolding refuses
epoch_given_lem s next true k = absurd (true≢false k)
epoch_given_lem s next false k = refl

table_given : (t : Table) (c : Call) → refuses (outcome_of t c).answer ≡ false → (outcome_of t c).table ≡ t
unfolding add_of remove_of report_of lapse_of refuses
table_given t (AddSlot i) k = order_given t (added_to t i) i (not (is_member (slot_at t.slots i).state)) k
table_given t (RemoveSlot i) k = order_given t (removed_from t i) i (is_member (slot_at t.slots i).state) k
table_given t (Report e mst ack) k = absurd (true≢false k)
table_given t Lapse k = lapse_given t t.wait k

pub call_given : (s : Sender) (c : SenderCall) → refuses (sender_outcome_of s c).answer ≡ false → (sender_outcome_of s c).sender ≡ s
unfolding start_epoch_of
call_given s (OnTable c) k =
    ap (λ (t : Table). record { table = t; outgoing = s.outgoing; ruling = s.ruling; epoch = s.epoch; begun = s.begun; gid = s.gid; mst = s.mst; rs_ack = s.rs_ack })
    (table_given s.table c k)
call_given s (StartEpoch gid mst ack) k = epoch_given_lem s (started_sender s gid mst ack) (ltb gid 2 && ltb ack 2) k

-- A state in which a sender is keepable, and what a C call makes of it.
pub record Keeps (state : List ℕ) (s : Sender) : Type 0 where
  pub sized : length state ≡ 397
  pub is : sender_of state ≡ s
  pub keepable : Keepable s

bytes_keep : (s : Sender) → Keepable s → Keeps (bytes_of s) s
unfolding bytes_of
bytes_keep s h = record { sized = length_tabulate 397 (byte_at s); is = round s (keepable_whole s h); keepable = h }

kept_call : (state : List ℕ) (s : Sender) (c : SenderCall) → Keeps state s → Keeps (kept_bytes (sender_outcome_of s c) state) (sender_outcome_of s c).sender
unfolding refuses
kept_call state s c k = go (refuses (sender_outcome_of s c).answer) refl
  where
    go : (b : Bool) → refuses (sender_outcome_of s c).answer ≡ b → Keeps (cond b (bytes_of (sender_outcome_of s c).sender) state) (sender_outcome_of s c).sender
    go true e = bytes_keep (sender_outcome_of s c).sender (keepable_call s c k.keepable)
    go false e = rw (call_given s c e) k

pub call_keeps : (state : List ℕ) (s : Sender) (c : SenderCall) → Keeps state s → Keeps (call_state_c true c state) (sender_outcome_of s c).sender
unfolding call_state_c
call_keeps state s c k = rw (eq-eqb (length state) 397 k.sized, k.is) (kept_call state s c k)

pub unfit_keeps : (state : List ℕ) (s : Sender) (c : SenderCall) → Keeps state s → Keeps (call_state_c false c state) s
unfolding call_state_c
unfit_keeps state s c k = rw (eq-eqb (length state) 397 k.sized) k

run_keeps : (state : List ℕ) (s : Sender) (cs : List SenderCall) → Keeps state s → Keeps (run_c state cs) (sender_run s (meant cs))
run_keeps state s [] k = k
run_keeps state s (c ∷ cs) k = go (λ t u w. run_keeps t u cs w) (numbers_fit c)
  where
    go : ((t : List ℕ) (u : Sender) → Keeps t u → Keeps (run_c t cs) (sender_run u (meant cs))) → (b : Bool)
        → Keeps (run_c (call_state_c b c state) cs) (sender_run s (cond b (c ∷ meant cs) (meant cs)))
    go rest true = rest (call_state_c true c state) (sender_outcome_of s c).sender (call_keeps state s c k)
    go rest false = rest (call_state_c false c state) s (unfit_keeps state s c k)

module _ (kind count first : ℕ) (state : List ℕ) (cs : List SenderCall) (done : start_answer_c kind count first state ≡ 0) where
  pub start_keeps : Keeps (start_state_c kind count first state) (begin_of kind count first).sender
  unfolding start_answer_c start_state_c
  start_keeps = go (no_start kind count) (is_state state) (is_epoch kind first) done
    where
      go : (o l f : Bool) → ◌≡◌ {A = ℕ} (cond o 4 (cond l (cond f 0 8) 9)) 0
          → Keeps (cond l (cond o (bytes_of (begin_of 0 0 0).sender) (cond f (bytes_of (begin_of kind count first).sender) state)) state) (begin_of kind count first).sender
      go true l f e = absurd (omega arith)
      go false false f e = absurd (omega arith)
      go false true false e = absurd (omega arith)
      go false true true e = bytes_keep (begin_of kind count first).sender (keepable_begin kind count first)

  -- any C calls after a C start that was done: the state holds the sender's own run
  pub runs_own : sender_of (run_c (start_state_c kind count first state) cs) ≡ sender_run (begin_of kind count first).sender (meant cs)
  runs_own = (run_keeps (start_state_c kind count first state) (begin_of kind count first).sender cs start_keeps).is

  -- in as many bytes
  pub runs_sized : length (run_c (start_state_c kind count first state) cs) ≡ 397
  runs_sized = (run_keeps (start_state_c kind count first state) (begin_of kind count first).sender cs start_keeps).sized

  -- and demand 2 holds of its table
  pub runs_demand2 : Demand2 (sender_of (run_c (start_state_c kind count first state) cs)).table
  runs_demand2 =
      rw runs_own
      (sound_demand2 (sender_run (begin_of kind count first).sender (meant cs)).table (keepable_run (begin_of kind count first).sender (meant cs) (keepable_begin kind count first)).table)

  -- and of both tables that an epoch's start keeps
  pub runs_demand2_kept : Demand2Kept (sender_of (run_c (start_state_c kind count first state) cs))
  runs_demand2_kept = rw runs_own (demand2_kept kind count first (meant cs))
