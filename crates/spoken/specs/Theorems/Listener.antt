-- The listener (item 1 of the minutes): after each start of an epoch she holds exactly the board going out, which shows one table.
use Rattle.std.specs.Prelude.{◌≡◌, Bool, cond, ◌&&◌, List, [], ◌∷◌, ◌++◌, ℕ}
use Rattle.std.proofs.Math.Path.{refl}
use Rattle.std.proofs.Common.{sym, ◌∙◌, ap}
use Rattle.std.proofs.Math.Bool.{true, false}
use Rattle.std.proofs.Math.Dec.{ltb}
use Rattle.sender.specs.Board.{board_of}
use Rattle.sender.specs.Commands.{start_of}
use Rattle.sender.specs.Epochs.{SenderCall, begin_of, fresh_sender, sender_after, sender_outcome_of, sender_run, start_epoch_of, started_sender}
use Rattle.sender.specs.declared.board.Board.{Board}
use Rattle.sender.specs.declared.epochs.Sender.{Sender}
use Rattle.sender.specs.Answers.{SenderOutcome}
use Rattle.sender.specs.Answers.{Answer as A}
use Rattle.sender.specs.declared.table.Table.{Table}
use Rattle.sender.specs.Epochs.SenderCall.{OnTable, StartEpoch}
use Rattle.sender.specs.Laws.Kept.{Sound, group_call, sound_call, sound_start}
use Rattle.sender.specs.Theorems.Demand2.{sound_demand2}
use Rattle.spoken.specs.Said.{OneTable}
use Rattle.spoken.specs.Answers.{Applied}
use Rattle.spoken.specs.Answers.Answer.{Done}
use Rattle.spoken.specs.Listening.{Moment, calls_in, hears_call, known_after, known_now, known_with, told_from}
use Rattle.spoken.specs.Taking.{taken_of}
use Rattle.spoken.specs.Theorems.Applied.{outright}

-- a board that shows one table of this kind and count, sound as calls leave it
record Of (kind count : ℕ) (b : Board) : Type 0 where
  source : Table
  sound : Sound source
  is : b ≡ board_of source
  kind_is : source.kind ≡ kind
  count_is : source.count ≡ count

record Known (kind count : ℕ) (s : Sender) : Type 0 where
  sound : Sound s.table
  kind_is : s.table.kind ≡ kind
  count_is : s.table.count ≡ count
  outgoing : Of kind count (taken_of s)

told_whole : (kind count : ℕ) (known now : Board) → Of kind count known → Of kind count now → told_from known known now ≡ record { board = now; answer = Done }
told_whole kind count known now h n =
    rw (h.is, n.is) (outright h.source n.source (h.kind_is ∙ sym n.kind_is) (h.count_is ∙ sym n.count_is))

module _ (kind count : ℕ) where
  known_fresh : (t : Table) (e : ℕ) → Sound t → t.kind ≡ kind → t.count ≡ count → Known kind count (fresh_sender t e)
  unfolding fresh_sender
  known_fresh t e o k c = record { sound = o; kind_is = k; count_is = c; outgoing = record { source = t; sound = o; is = refl; kind_is = k; count_is = c } }

  known_started : (s : Sender) (gid mst ack : ℕ) → Known kind count s → Known kind count (start_epoch_of s gid mst ack).sender
  unfolding start_epoch_of started_sender
  known_started s gid mst ack o = go (ltb gid 2 && ltb ack 2)
    where
      go : (b : Bool) → Known kind count (cond {A = SenderOutcome} b (record { sender = started_sender s gid mst ack; answer = A.Done }) (record { sender = s; answer = A.Field })).sender
      go true =
          record {
            sound = o.sound;
            kind_is = o.kind_is;
            count_is = o.count_is;
            outgoing = record { source = s.table; sound = o.sound; is = refl; kind_is = o.kind_is; count_is = o.count_is };
          }
      go false = o

  known_call : (s : Sender) (c : SenderCall) → Known kind count s → Known kind count (sender_outcome_of s c).sender
  known_call s (OnTable c) o =
      let g = group_call s.table c in
      record { sound = sound_call s.table c o.sound; kind_is = g.kind ∙ o.kind_is; count_is = g.count ∙ o.count_is; outgoing = o.outgoing }
  known_call s (StartEpoch gid mst ack) o = known_started s gid mst ack o

  -- one who hears every start
  hears_own : (s : Sender) (c : SenderCall) → Known kind count s → hears_call (taken_of s) s c ≡ taken_of (sender_outcome_of s c).sender
  hears_own s (OnTable c) o = refl
  hears_own s (StartEpoch gid mst ack) o =
      ap (λ (a : Applied). a.board)
      (told_whole kind count (taken_of s) (taken_of (start_epoch_of s gid mst ack).sender) o.outgoing (known_started s gid mst ack o).outgoing)

  hears_all : (s : Sender) (cs : List SenderCall) → Known kind count s → known_after (taken_of s) s cs ≡ taken_of (sender_run s cs)
  hears_all s [] o = refl
  hears_all s (c ∷ cs) o =
      ap (λ (b : Board). known_after b (sender_outcome_of s c).sender cs) (hears_own s c o) ∙ hears_all (sender_outcome_of s c).sender cs (known_call s c o)

  known_run : (s : Sender) (cs : List SenderCall) → Known kind count s → Known kind count (sender_run s cs)
  known_run s [] o = o
  known_run s (c ∷ cs) o = known_run (sender_outcome_of s c).sender cs (known_call s c o)

  -- one who hears some of them
  known_of : (known : Board) (s : Sender) (hears : Bool) → Of kind count known → Of kind count (taken_of s) → Of kind count (known_now known s hears)
  known_of known s true h o = rw (told_whole kind count known (taken_of s) h o) o
  known_of known s false h o = h

  with_of : (known : Board) (s : Sender) (ms : List Moment) → Of kind count known → Known kind count s → Of kind count (known_with known s ms)
  with_of known s [] h o = h
  with_of known s (m ∷ ms) h o =
      let k = known_call s m.call o in
      with_of (known_now known (sender_outcome_of s m.call).sender m.hears) (sender_outcome_of s m.call).sender ms
      (known_of known (sender_outcome_of s m.call).sender m.hears h k.outgoing) k

  with_last : (known : Board) (s : Sender) (ms : List Moment) (m : Moment) → Of kind count known → Known kind count s → m.hears ≡ true
      → known_with known s (ms ++ (m ∷ [])) ≡ taken_of (sender_run s (calls_in (ms ++ (m ∷ []))))
  with_last known s [] m h o e =
      rw e (ap (λ (a : Applied). a.board) (told_whole kind count known (taken_of (sender_outcome_of s m.call).sender) h (known_call s m.call o).outgoing))
  with_last known s (x ∷ ms) m h o e =
      let k = known_call s x.call o in
      with_last (known_now known (sender_outcome_of s x.call).sender x.hears) (sender_outcome_of s x.call).sender ms m
      (known_of known (sender_outcome_of s x.call).sender x.hears h k.outgoing) k e

module _ (kind count e : ℕ) where
  abbrev begun : Sender
  begun = (begin_of kind count e).sender

  abbrev slots : ℕ
  slots = (start_of kind count).table.count

  abbrev sort : ℕ
  sort = (start_of kind count).table.kind

  known : Known sort slots begun
  unfolding begin_of
  known = known_fresh sort slots (start_of kind count).table e (sound_start kind count) refl refl

  -- Whatever calls come, with epochs started among them: who begins with the start's board and hears each start holds the board going out.
  pub listener : (cs : List SenderCall) → known_after (taken_of begun) begun cs ≡ taken_of (sender_after kind count e cs)
  listener cs = hears_all sort slots begun cs known

  -- and each list that she is told fits the board that she holds
  pub listener_done : (cs : List SenderCall) (c : SenderCall)
      → told_from (taken_of (sender_after kind count e cs)) (taken_of (sender_after kind count e cs)) (taken_of (sender_outcome_of (sender_after kind count e cs) c).sender)
      ≡ record { board = taken_of (sender_outcome_of (sender_after kind count e cs) c).sender; answer = Done }
  listener_done cs c =
      let o = known_run sort slots begun cs known in
      told_whole sort slots _ _ o.outgoing (known_call sort slots (sender_after kind count e cs) c o).outgoing

  -- One who missed any of them is told by one list from the last board heard, and then holds the board going out.
  pub caught_up : (ms : List Moment) (m : Moment) → m.hears ≡ true
      → known_with (taken_of begun) begun (ms ++ (m ∷ [])) ≡ taken_of (sender_after kind count e (calls_in (ms ++ (m ∷ []))))
  caught_up ms m h = with_last sort slots (taken_of begun) begun ms m known.outgoing known h

  -- Two who hear the same start hold the same board, whatever either missed before.
  pub both_same : (ms ns : List Moment) (m n : Moment) → m.hears ≡ true → n.hears ≡ true → calls_in (ms ++ (m ∷ [])) ≡ calls_in (ns ++ (n ∷ []))
      → known_with (taken_of begun) begun (ms ++ (m ∷ [])) ≡ known_with (taken_of begun) begun (ns ++ (n ∷ []))
  both_same ms ns m n h g same =
      caught_up ms m h ∙ ap (λ (cs : List SenderCall). taken_of (sender_after kind count e cs)) same ∙ sym (caught_up ns n g)

  -- At no time does anyone hold half of an old order: what is known is the board of one table, as demand 2 asks.
  pub one_table : (ms : List Moment) → OneTable (known_with (taken_of begun) begun ms)
  one_table ms =
      let o = with_of sort slots (taken_of begun) begun ms known.outgoing known in
      record { source = o.source; is = o.is; demand2 = sound_demand2 o.source o.sound }
