-- Demand 3 begins at the sender's own packets and payload. Here they are the bytes that its C calls write: after the C calls of a history up to its i-th epoch, and any calls on the table after it, each slot's packet and payload are those that the history sends.
use Rattle.std.specs.Prelude.{◌≡◌, refl, Bool, true, ◌&&◌, List, [], ◌∷◌, ◌++◌, ℕ, zero, suc, ◌<◌, length, replicate, if◌then◌else◌}
use Rattle.std.proofs.Math.Path.{sym, ap}
use Rattle.std.proofs.Common.{◌∙◌, arith, lt-ltb}
use Rattle.std.proofs.lemmas.List.{length-replicate}
use Rattle.c_face.specs.Keeping.{sender_of}
use Rattle.c_face.specs.Runs.{numbers_fit, meant, run_c}
use Rattle.c_face.specs.Senders.{packet_bytes_c, payload_bytes_c, start_answer_c, start_state_c}
use Rattle.c_face.specs.Theorems.CratesOwn.{packet_own, payload_own}
use Rattle.c_face.specs.Theorems.Runs.{runs_own, runs_sized}
use Rattle.ground.specs.Plain.{◌<?◌}
use Rattle.ground.specs.Truth.{and-true}
use Rattle.link.specs.History.{Allowed, Handed, History, calls_to, packet_sent, payload_sent, sender_at}
use Rattle.link.specs.Proofs.Histories.Senders.{sender_in, sender_run_lem, size_at}
use Rattle.link.specs.Sending.{Client, epoch_at}
use Rattle.link.specs.Proofs.Histories.Packets.{packet_any}
use Rattle.link.specs.Proofs.Histories.Ruling.{x_le}
use Rattle.packet.specs.Kinds.{frames, payload_right}
use Rattle.payload.specs.Answers.{Sizes}
use Rattle.payload.specs.Laws.Fits.{spread_one_done}
use Rattle.payload.specs.Order.{member_frame}
use Rattle.payload.specs.Spreading.{spread_one}
use Rattle.sender.specs.Epochs.{SenderCall, begin_of, on_table, packet_bytes, payload_bytes, rank_in, sender_run, x_of}
use Rattle.sender.specs.Theorems.Epochs.{fixed}
use Rattle.sender.specs.declared.epochs.Sender.{Sender}
use Rattle.sender.specs.Calls.{Call}
use Rattle.sender.specs.Epochs.SenderCall.{OnTable, StartEpoch}
use Rattle.sender.specs.Laws.Runs.{sender_append}
use Rattle.sender.specs.Table.{slot_count}

-- calls on the table that a C host can make: each number of a report is a byte
abbrev pub Bytes : List Call → Type 0
Bytes [] = Unit {0}
Bytes (c ∷ cs) = (numbers_fit (OnTable c) ≡ true) × Bytes cs

abbrev AllFit : List SenderCall → Type 0
AllFit [] = Unit {0}
AllFit (c ∷ cs) = (numbers_fit c ≡ true) × AllFit cs

fit_append : (a b : List SenderCall) → AllFit a → AllFit b → AllFit (a ++ b)
fit_append [] b fa fb = fb
fit_append (c ∷ a) b fa fb = (fa.0, fit_append a b fa.1 fb)

fit_table : (cs : List Call) → Bytes cs → AllFit (on_table cs)
fit_table [] f = tt
fit_table (c ∷ cs) f = (f.0, fit_table cs f.1)

-- so none is refused for its numbers
all_meant : (cs : List SenderCall) → AllFit cs → meant cs ≡ cs
all_meant [] f = refl
all_meant (c ∷ cs) f = ap (λ (b : Bool). if b then c ∷ meant cs else meant cs) f.0 ∙ ap (λ (l : List SenderCall). c ∷ l) (all_meant cs f.1)

-- what a payload call picks where nothing is refused
picks_payload : (b c g : Bool) (new old : List ℕ) → b ≡ true → c ≡ true → g ≡ true → (if b && c && g then new else old) ≡ new
picks_payload b c g new old eb ec eg = rw (eb, ec, eg) refl

-- A history with reports of bytes, and a C start of its kind, slots and first epoch that was done.
module _ (h : History) (a : Allowed h) (bytes : (i : ℕ) → Bytes (h.before i)) (state : List ℕ) (done : start_answer_c h.kind h.slots h.first state ≡ 0) where
  -- the state after the C calls of the history up to the start of its i-th epoch, and those on the table after it
  abbrev pub state_c : ℕ → List Call → List ℕ
  state_c i after = run_c (start_state_c h.kind h.slots h.first state) (calls_to h i ++ on_table after)

  fit_before : (i : ℕ) → AllFit (on_table (h.before i) ++ (StartEpoch (h.gid i) (h.mst i) (h.ack i) ∷ []))
  fit_before i =
      let g = a.gid i in
      let k = a.ack i in
      fit_append (on_table (h.before i)) (StartEpoch (h.gid i) (h.mst i) (h.ack i) ∷ []) (fit_table (h.before i) (bytes i)) (
        and-true (h.gid i <? 256 && h.mst i <? 256) (h.ack i <? 256)
            (and-true (h.gid i <? 256) (h.mst i <? 256) (lt-ltb (h.gid i) 256 (omega arith)) (lt-ltb (h.mst i) 256 (a.mst i))) (lt-ltb (h.ack i) 256 (omega arith)),
        tt,
      )

  fit_to : (i : ℕ) → AllFit (calls_to h i)
  fit_to zero = fit_before zero
  fit_to (suc i) =
      fit_append (calls_to h i) (on_table (h.before (suc i)) ++ (StartEpoch (h.gid (suc i)) (h.mst (suc i)) (h.ack (suc i)) ∷ [])) (fit_to i) (fit_before (suc i))

  -- the sender in the state is the history's, with the calls after its start
  pub sender_is : (i : ℕ) (after : List Call) → Bytes after → sender_of (state_c i after) ≡ sender_run (sender_at h i) (on_table after)
  sender_is i after f =
      runs_own h.kind h.slots h.first state (calls_to h i ++ on_table after) done
      ∙ ap (sender_run (begin_of h.kind h.slots h.first).sender) (all_meant (calls_to h i ++ on_table after) (fit_append (calls_to h i) (on_table after) (fit_to i) (fit_table after f)))
      ∙ sender_append (begin_of h.kind h.slots h.first).sender (calls_to h i) (on_table after)
      ∙ ap (λ (s : Sender). sender_run s (on_table after)) (sym (sender_run_lem h i))

  sized : (i : ℕ) (after : List Call) → length (state_c i after) ≡ 397
  sized i after = runs_sized h.kind h.slots h.first state (calls_to h i ++ on_table after) done

  packet_written : (i slot : ℕ) → slot < h.slots → (h4 : List ℕ) → length h4 ≡ frames h.kind → packet_bytes (sender_at h i) slot h4 ≡ packet_sent h i slot
  packet_written i slot b h4 l = packet_any h a i slot b h4 l

  -- levelspruce_sender_packet writes what the history sends
  pub packet_same : (i slot : ℕ) (after : List Call) → Bytes after → slot < h.slots → (h4 : List ℕ) → length h4 ≡ frames h.kind → packet_bytes_c (state_c i after) slot h4 ≡ packet_sent h i slot
  packet_same i slot after f b h4 l =
      (packet_own (state_c i after) slot h4 (sized i after)).1
      ∙ ap (λ (s : Sender). packet_bytes s slot h4) (sender_is i after f)
      ∙ (fixed (sender_at h i) after).bytes slot h4
      ∙ packet_written i slot b h4 l

  module _ (P : ℕ) (client : Client) (c : Handed h P client) where
    sizes : (x : ℕ) → Sizes (x_of (sender_at h (epoch_at h.kind x))) P
    sizes x = record { ranks = (let l = x_le h a (epoch_at h.kind x) in let m = a.most in omega arith); least = c.least; most = c.most }

    payload_written : (x slot : ℕ) → slot < h.slots → (member : List ℕ) → length member ≡ P
        → payload_bytes (sender_at h (epoch_at h.kind x)) slot P (client x) member
        ≡ member_frame (x_of (sender_at h (epoch_at h.kind x))) P (client x) (rank_in (sender_at h (epoch_at h.kind x)) slot)
    unfolding payload_bytes
    payload_written x slot b member l =
        let s : Sender = sender_at h (epoch_at h.kind x) in
        picks_payload (slot <? slot_count (sender_at h (epoch_at h.kind x)).table.count) (payload_right (sender_at h (epoch_at h.kind x)).table.kind P) (sender_at h (epoch_at h.kind x)).begun
        (spread_one (x_of (sender_at h (epoch_at h.kind x))) P (rank_in (sender_at h (epoch_at h.kind x)) slot) (client x) member) member
        (lt-ltb slot (slot_count (sender_at h (epoch_at h.kind x)).table.count) (rw (size_at h a (epoch_at h.kind x)) b)) (rw (sender_in h a (epoch_at h.kind x)).kind c.payload_right_lem) (sender_in h a (epoch_at h.kind x)).begun
        ∙ spread_one_done (x_of s) P (rank_in s slot) (client x) member (sizes x) (c.whole x) l

    -- and levelspruce_sender_payload, frame by frame
    pub payload_same : (x slot : ℕ) (after : List Call) → Bytes after → slot < h.slots → (member : List ℕ) → length member ≡ P
        → payload_bytes_c (state_c (epoch_at h.kind x) after) slot P (client x) member ≡ payload_sent h P client x slot
    unfolding payload_sent
    payload_same x slot after f b member l =
        (payload_own (state_c (epoch_at h.kind x) after) slot P (client x) member (sized (epoch_at h.kind x) after)).1
        ∙ ap (λ (s : Sender). payload_bytes s slot P (client x) member) (sender_is (epoch_at h.kind x) after f)
        ∙ (fixed (sender_at h (epoch_at h.kind x)) after).carried slot P (client x) member
        ∙ payload_written x slot b member l
        ∙ sym (payload_written x slot b (replicate P 0) (length-replicate P 0))
