-- The sender in each epoch of a history: it is one made by calls from a start, and what it then stands at.
use Rattle.std.specs.Prelude.{◌≡◌, Bool, true, cond, List, [], ◌∷◌, ◌++◌, ltb}
use Rattle.std.proofs.Math.Path.{refl, sym, ap}
use Rattle.std.proofs.Common.{◌∙◌, ap₂, ⊎_elim, arith}
use Prim.Native.Nat.{ℕ, zero, suc, ◌≤◌, ◌<◌}
use borrow.Author.Tests.{lt-ltb, le-ltb, ne_eqb}
use Rattle.ground.specs.Truth.{and-true, le_or_lt}
use Rattle.packet.specs.Kinds.{epoch_after}
use Rattle.packet.specs.Theorems.Tags.{epoch_from, epoch_on}
use Rattle.sender.specs.Commands.{fresh_of, start_of}
use Rattle.sender.specs.Epochs.{SenderCall, begin_of, fresh_sender, on_table, sender_after, sender_outcome_of, sender_run, start_epoch_of, started_epoch, started_sender}
use Rattle.sender.specs.SenderRuns.{AllGiven}
use Rattle.sender.specs.Theorems.Epochs.{SoundSender, sender_sound}
use Rattle.sender.specs.declared.epochs.Sender.{Sender}
use Rattle.sender.specs.Answers.{SenderOutcome}
use Rattle.sender.specs.Answers.Answer.{Done, Field}
use Rattle.sender.specs.declared.table.Table.{Table}
use Rattle.sender.specs.Calls.{Call}
use Rattle.sender.specs.Epochs.SenderCall.{OnTable, StartEpoch}
use Rattle.sender.specs.Laws.Kept.{group_call}
use Rattle.sender.specs.Laws.Runs.{sender_append}
use Rattle.sender.specs.Laws.Sizes.{size_large, size_small}
use Rattle.sender.specs.Table.{slot_count}
use Rattle.link.specs.History.{Allowed, History, calls_before, calls_to, sender_at, started_on}
use Rattle.link.specs.Sending.{epoch_number}

-- all calls up to and with the start of the i-th epoch

started_run : (h : History) (i : ℕ) (s : Sender) → started_on h i s ≡ sender_run s (calls_before h i)
started_run h i s = sym (sender_append s (on_table (h.before i)) (StartEpoch (h.gid i) (h.mst i) (h.ack i) ∷ []))

pub sender_run_lem : (h : History) (i : ℕ) → sender_at h i ≡ sender_after h.kind h.slots h.first (calls_to h i)
unfolding sender_at
sender_run_lem h zero = started_run h zero (begin_of h.kind h.slots h.first).sender
sender_run_lem h (suc i) =
    ap (started_on h (suc i)) (sender_run_lem h i)
    ∙ started_run h (suc i) (sender_after h.kind h.slots h.first (calls_to h i))
    ∙ sym (sender_append (begin_of h.kind h.slots h.first).sender (calls_to h i) (calls_before h (suc i)))

pub sender_at_sound : (h : History) (i : ℕ) → SoundSender (sender_at h i)
sender_at_sound h i = rw (sender_run_lem h i) (sender_sound h.kind h.slots h.first (calls_to h i))

-- every number lent is a byte
given_append : (a b : List SenderCall) → AllGiven a → AllGiven b → AllGiven (a ++ b)
given_append [] b ga gb = gb
given_append (c ∷ a) b ga gb = (ga.0, given_append a b ga.1 gb)

given_table : (cs : List Call) → AllGiven (on_table cs)
given_table [] = tt
given_table (c ∷ cs) = (tt, given_table cs)

given_before : (h : History) → Allowed h → (i : ℕ) → AllGiven (calls_before h i)
given_before h a i = given_append (on_table (h.before i)) (StartEpoch (h.gid i) (h.mst i) (h.ack i) ∷ []) (given_table (h.before i)) (a.mst i, tt)

pub given_to : (h : History) → Allowed h → (i : ℕ) → AllGiven (calls_to h i)
given_to h a zero = given_before h a zero
given_to h a (suc i) = given_append (calls_to h i) (calls_before h (suc i)) (given_to h a i) (given_before h a (suc i))

-- what commands and reports leave as it was
pub record Left (s r : Sender) : Type 0 where
  pub count : r.table.count ≡ s.table.count
  pub kind : r.table.kind ≡ s.table.kind
  pub outgoing : r.outgoing ≡ s.outgoing
  pub epoch : r.epoch ≡ s.epoch
  pub begun : r.begun ≡ s.begun

pub left : (s : Sender) (cs : List Call) → Left s (sender_run s (on_table cs))
left s [] = record { count = refl; kind = refl; outgoing = refl; epoch = refl; begun = refl }
left s (c ∷ cs) =
    let o = left (sender_outcome_of s (OnTable c)).sender cs in
    let g = group_call s.table c in
    record { count = o.count ∙ g.count; kind = o.kind ∙ g.kind; outgoing = o.outgoing; epoch = o.epoch; begun = o.begun }

later_epoch : (s : Sender) → s.begun ≡ true → started_epoch s ≡ epoch_after s.table.kind s.epoch
unfolding started_epoch
later_epoch s b = rw b

-- the sender in its i-th epoch
pub record InEpoch (h : History) (i : ℕ) (s : Sender) : Type 0 where
  pub begun : s.begun ≡ true
  pub epoch : s.epoch ≡ epoch_number h.kind h.first i
  pub gid : s.gid ≡ h.gid i
  pub mst : s.mst ≡ h.mst i
  pub ack : s.rs_ack ≡ h.ack i
  pub count : s.table.count ≡ h.slots
  pub kind : s.table.kind ≡ h.kind

module _ (h : History) (a : Allowed h) where
  -- the start of an epoch is not refused
  pub started_is : (i : ℕ) (s : Sender) → started_on h i s ≡ started_sender (sender_run s (on_table (h.before i))) (h.gid i) (h.mst i) (h.ack i)
  unfolding start_epoch_of
  started_is i s =
      let r : Sender = sender_run s (on_table (h.before i)) in
      ap
      (λ (b : Bool). (cond {A = SenderOutcome} b (record { sender = started_sender r (h.gid i) (h.mst i) (h.ack i); answer = Done }) (record { sender = r; answer = Field })).sender)
      (and-true (ltb (h.gid i) 2) (ltb (h.ack i) 2) (lt-ltb (h.gid i) 2 (a.gid i)) (lt-ltb (h.ack i) 2 (a.ack i)))

  in_started : (i : ℕ) (s : Sender) → s.table.count ≡ h.slots → s.table.kind ≡ h.kind → started_epoch (sender_run s (on_table (h.before i))) ≡ epoch_number h.kind h.first i → InEpoch h i (started_on h i s)
  unfolding started_sender
  in_started i s c k e =
      let o = left s (h.before i) in
      rw (started_is i s)
      (record { begun = refl; epoch = e; gid = refl; mst = refl; ack = refl; count = o.count ∙ c; kind = o.kind ∙ k })

  fresh_table : (start_of h.kind h.slots).table ≡ fresh_of h.kind h.slots
  unfolding start_of
  fresh_table =
      let some = a.some in
      let most = a.most in
      rw (ne_eqb h.slots 0 (λ (z : h.slots ≡ 0). omega arith), le-ltb 64 h.slots most) refl

  fresh_count : (start_of h.kind h.slots).table.count ≡ h.slots
  unfolding fresh_of
  fresh_count = ap (λ (t : Table). t.count) fresh_table

  fresh_kind : (start_of h.kind h.slots).table.kind ≡ h.kind
  unfolding fresh_of
  fresh_kind = ap (λ (t : Table). t.kind) fresh_table

  first_number : h.first ≡ epoch_number h.kind h.first zero
  unfolding epoch_number
  first_number = sym (epoch_from h.kind h.first a.first)

  begin_in : InEpoch h zero (started_on h zero (begin_of h.kind h.slots h.first).sender)
  unfolding begin_of fresh_sender started_epoch
  begin_in =
      let o = left (begin_of h.kind h.slots h.first).sender (h.before zero) in
      in_started zero (begin_of h.kind h.slots h.first).sender fresh_count fresh_kind (rw (o.begun, o.epoch) first_number)

  next_number : (i : ℕ) → epoch_after h.kind (epoch_number h.kind h.first i) ≡ epoch_number h.kind h.first (suc i)
  unfolding epoch_number
  next_number i = epoch_on h.kind h.first i

  next_in : (i : ℕ) (s : Sender) → InEpoch h i s → InEpoch h (suc i) (started_on h (suc i) s)
  next_in i s w =
      let o = left s (h.before (suc i)) in
      in_started (suc i) s w.count w.kind
      (later_epoch (sender_run s (on_table (h.before (suc i)))) (o.begun ∙ w.begun)
      ∙ ap₂ epoch_after (o.kind ∙ w.kind) (o.epoch ∙ w.epoch)
      ∙ next_number i)

  pub sender_in : (i : ℕ) → InEpoch h i (sender_at h i)
  unfolding sender_at
  sender_in zero = begin_in
  sender_in (suc i) = next_in i (sender_at h i) (sender_in i)

  -- how many slots there are
  slots_are : slot_count h.slots ≡ h.slots
  slots_are =
      let most = a.most in
      ⊎_elim (λ (g : 64 ≤ h.slots). size_large h.slots g ∙ (omega arith)) (λ (g : h.slots < 64). size_small h.slots g) (le_or_lt 64 h.slots)

  pub size_at : (i : ℕ) → slot_count (sender_at h i).table.count ≡ h.slots
  size_at i = ap slot_count (sender_in i).count ∙ slots_are
