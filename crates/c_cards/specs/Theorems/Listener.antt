-- 'A board is taken only at an epoch's start, so no list ever mixes two orders.' (02, 2026-10) Over C: whatever a host calls and whenever it tells, who begins with the board of the start holds the board of the table at the last start of an
-- epoch before the last telling, and every list fits the board that she holds.
use Rattle.std.specs.Prelude.{◌≡◌, Bool, cond, ◌&&◌, ℕ, eqb, ltb, length}
use Rattle.std.proofs.Math.Path.{refl, ap}
use Rattle.std.proofs.Common.{sym, ◌∙◌}
use Rattle.std.proofs.Math.Bool.{true, false}
use mathlib.Core.List.{List, [], ◌∷◌}
use borrow.Author.Tests.{eq-eqb}
use Rattle.sender.specs.Board.{board_of}
use Rattle.sender.specs.declared.epochs.Sender.{Sender}
use Rattle.sender.specs.declared.table.Table.{Table}
use Rattle.sender.specs.Calls.{Call, outcome_of}
use Rattle.sender.specs.Commands.{start_of}
use Rattle.sender.specs.Epochs.{SenderCall, begin_of, fresh_sender, sender_outcome_of, start_epoch_of, started_sender}
use Rattle.sender.specs.Epochs.SenderCall.{OnTable, StartEpoch}
use Rattle.sender.specs.Laws.Kept.{Sound, group_call, sound_call, sound_start}
use Rattle.sender.specs.Table.{answer_number}
use Rattle.sender.specs.Theorems.Demand2.{sound_demand2}
use Rattle.spoken.specs.Changes.{answer_number as spoken_number, compared_of}
use Rattle.spoken.specs.Theorems.Applied.{compared_done}
use Rattle.c_face.specs.Boards.{board_bytes_of, outgoing_bytes_c, shown_bytes}
use Rattle.c_cards.specs.Changes.{applied_answer_c, applied_bytes_c, changes_bytes_of}
use Rattle.c_cards.specs.Going.{changes_answer_c, changes_bytes_c, changes_told_c, going_answer, going_changes, going_told}
use Rattle.c_face.specs.Keeping.{sender_of}
use Rattle.c_cards.specs.Listening.{Heard, Holds, Host, Roomy, Said, answers_to, heard_after, heard_of, sender_host, told_table}
use Rattle.c_cards.specs.Listening.Said.{Make, Tell}
use Rattle.c_face.specs.Runs.{numbers_fit}
use Rattle.c_face.specs.Senders.{are_bytes, call_answer_c, call_state_c, start_answer_c, start_state_c}
use Rattle.c_face.specs.Theorems.Runs.{Keeps, call_keeps, start_keeps, unfit_keeps}
use Rattle.c_cards.specs.Theorems.Told.{applied_answer, applied_bytes, back, board_long}

-- ---- one telling, of the boards of two tables of one kind and count

module _ (t u : Table) (k : t.kind ≡ u.kind) (c : t.count ≡ u.count) (changes : List ℕ) (room : length changes ≡ 322) where
  abbrev old : List ℕ
  old = board_bytes_of (board_of t)

  tell_answer : going_answer (board_of u) old changes ≡ 0
  unfolding going_answer
  tell_answer =
      rw (eq-eqb (length old) 130 (board_long (board_of t)), eq-eqb (length changes) 322 room, back t) (ap spoken_number (compared_done t u k c))

  tell_changes : going_changes (board_of u) old changes ≡ changes_bytes_of (compared_of (board_of t) (board_of u)).changes
  unfolding going_changes
  tell_changes = rw (tell_answer, back t)

  tell_told : going_told (board_of u) old changes ≡ board_bytes_of (board_of u)
  unfolding going_told
  tell_told = rw tell_answer

  tell_fits : applied_answer_c old (going_changes (board_of u) old changes) ≡ 0
  tell_fits = rw tell_changes (applied_answer t u k c changes room)

  tell_held : applied_bytes_c old (going_changes (board_of u) old changes) ≡ board_bytes_of (board_of u)
  tell_held = rw tell_changes (applied_bytes t u k c changes room)

-- ---- any host whose telling takes the board of the last start's table

-- of one kind and count, and as calls leave it
pub record Fine (kind count : ℕ) (t : Table) : Type 0 where
  pub kind_is : t.kind ≡ kind
  pub count_is : t.count ≡ count
  pub sound : Sound t

-- what a telling does where the board of a table goes out
pub record TakesFrom {C : Type 0} (host : Host C) (state : List ℕ) (last : Table) : Type 0 where
  pub answer : (told changes : List ℕ) → host.answer state told changes ≡ going_answer (board_of last) told changes
  pub changes : (told changes : List ℕ) → host.changes state told changes ≡ going_changes (board_of last) told changes
  pub told : (told changes : List ℕ) → host.told state told changes ≡ going_told (board_of last) told changes

-- one telling of such a host
module _ {C : Type 0} (host : Host C) (state : List ℕ) (last t : Table) (h : Heard) (from : TakesFrom host state last) (k : t.kind ≡ last.kind) (c : t.count ≡ last.count) (es : h.state ≡ state)
    (et : h.told ≡ board_bytes_of (board_of t)) (eh : h.held ≡ board_bytes_of (board_of t)) (changes : List ℕ) (room : length changes ≡ 322) where
  written : host.changes h.state h.told changes ≡ going_changes (board_of last) (board_bytes_of (board_of t)) changes
  written = rw (es, et) (from.changes (board_bytes_of (board_of t)) changes)

  number : host.answer h.state h.told changes ≡ 0
  number = rw (es, et) (from.answer (board_bytes_of (board_of t)) changes ∙ tell_answer t last k c changes room)

  fitted : applied_answer_c h.held (host.changes h.state h.told changes) ≡ 0
  fitted = rw (written, eh) (tell_fits t last k c changes room)

  kept : host.told h.state h.told changes ≡ board_bytes_of (board_of last)
  kept = rw (es, et) (from.told (board_bytes_of (board_of t)) changes ∙ tell_told t last k c changes room)

  holding : applied_bytes_c h.held (host.changes h.state h.told changes) ≡ board_bytes_of (board_of last)
  holding = rw (written, eh) (tell_held t last k c changes room)

module _ {C : Type 0} (host : Host C) (kind count : ℕ) (Q : List ℕ → Table → Type 0)
    (takes : (state : List ℕ) (last : Table) → Q state last → TakesFrom host state last)
    (fine : (state : List ℕ) (last : Table) → Q state last → Fine kind count last)
    (next : (state : List ℕ) (last : Table) (call : C) → Q state last → Q (host.left state call) (cond (host.starts state call) (host.table state) last)) where
  pub holds_after : (state : List ℕ) (last t : Table) (h : Heard) (ms : List (Said C)) → Q state last → Fine kind count t → h.state ≡ state → h.told ≡ board_bytes_of (board_of t) → h.held ≡ board_bytes_of (board_of t) → Roomy ms
      → Holds (heard_after host h ms) (told_table host state last t ms) (answers_to host h ms)
  holds_after state last t h [] q f es et eh room = record { told = et; held = eh; demand2 = sound_demand2 t f.sound; done = tt }
  holds_after state last t h (Make call ∷ ms) q f es et eh room =
      holds_after (host.left state call) (cond (host.starts state call) (host.table state) last) t (heard_of host h (Make call)) ms (next state last call q) f (ap (λ (s : List ℕ). host.left s call) es) et eh room
  holds_after state last t h (Tell changes ∷ ms) q f es et eh room =
      let k : t.kind ≡ last.kind = f.kind_is ∙ sym (fine state last q).kind_is in
      let c : t.count ≡ last.count = f.count_is ∙ sym (fine state last q).count_is in
      let from : TakesFrom host state last = takes state last q in
      let rest : Holds (heard_after host (heard_of host h (Tell changes)) ms) (told_table host state last last ms) (answers_to host (heard_of host h (Tell changes)) ms) =
      holds_after state last last (heard_of host h (Tell changes)) ms q (fine state last q) es
      (kept host state last t h from k c es et eh changes room.0) (holding host state last t h from k c es et eh changes room.0) room.1 in
      record {
        told = rest.told;
        held = rest.held;
        demand2 = rest.demand2;
        done = (number host state last t h from k c es et eh changes room.0, (fitted host state last t h from k c es et eh changes room.0, rest.done));
      }

-- ---- a sender

module _ (kind count : ℕ) where
  record Taken (state : List ℕ) (last : Table) : Type 0 where
    sender : Sender
    keeps : Keeps state sender
    going : sender.outgoing ≡ board_of last
    now : Fine kind count sender.table
    fine : Fine kind count last

  taken_from : (state : List ℕ) (last : Table) → Taken state last → TakesFrom sender_host state last
  unfolding changes_answer_c changes_bytes_c changes_told_c
  taken_from state last q =
      record {
        answer = λ told changes. rw (eq-eqb (length state) 397 q.keeps.sized, q.keeps.is, q.going);
        changes = λ told changes. rw (eq-eqb (length state) 397 q.keeps.sized, q.keeps.is, q.going);
        told = λ told changes. rw (eq-eqb (length state) 397 q.keeps.sized, q.keeps.is, q.going);
      }

  fine_call : (s : Sender) (c : Call) → Fine kind count s.table → Fine kind count (outcome_of s.table c).table
  fine_call s c f =
      let g = group_call s.table c in record { kind_is = g.kind ∙ f.kind_is; count_is = g.count ∙ f.count_is; sound = sound_call s.table c f.sound }

  module _ (state : List ℕ) (last : Table) (q : Taken state last) where
    abbrev s : Sender
    s = q.sender

    number_is : (f : Bool) (c : SenderCall) → call_answer_c f c state ≡ cond f (answer_number (sender_outcome_of s c).answer) 8
    unfolding call_answer_c
    number_is f c = rw (eq-eqb (length state) 397 q.keeps.sized, q.keeps.is) refl

    next_table : (f : Bool) (c : Call) → Taken (call_state_c f (OnTable c) state) last
    next_table true c =
        record { sender = (sender_outcome_of s (OnTable c)).sender; keeps = call_keeps state s (OnTable c) q.keeps; going = q.going; now = fine_call s c q.now; fine = q.fine }
    next_table false c = record { sender = s; keeps = unfit_keeps state s (OnTable c) q.keeps; going = q.going; now = q.now; fine = q.fine }

    module _ (gid mst ack : ℕ) where
      abbrev start : SenderCall
      start = StartEpoch gid mst ack

      -- a start that is not refused fixes the board of the table now
      next_start : (f b : Bool) → (ltb gid 2 && ltb ack 2) ≡ b → Taken (call_state_c f start state) (cond (eqb (call_answer_c f start state) 0) (sender_of state).table last)
      unfolding start_epoch_of started_sender
      next_start true true e =
          let number : call_answer_c true start state ≡ 0 = number_is true start ∙ rw e refl in
          rw (number, q.keeps.is)
          (record { sender = (sender_outcome_of s start).sender; keeps = call_keeps state s start q.keeps; going = rw e refl; now = rw e q.now; fine = q.now })
      next_start true false e =
          let number : call_answer_c true start state ≡ 8 = number_is true start ∙ rw e refl in
          rw number (record { sender = (sender_outcome_of s start).sender; keeps = call_keeps state s start q.keeps; going = rw e q.going; now = rw e q.now; fine = q.fine })
      next_start false b e =
          rw (number_is false start) (record { sender = s; keeps = unfit_keeps state s start q.keeps; going = q.going; now = q.now; fine = q.fine })

    next_call : (c : SenderCall) → Taken (sender_host.left state c) (cond (sender_host.starts state c) (sender_host.table state) last)
    next_call (OnTable c) = next_table (numbers_fit (OnTable c)) c
    next_call (StartEpoch gid mst ack) = next_start gid mst ack (are_bytes gid mst ack) (ltb gid 2 && ltb ack 2) refl

module _ (kind count first : ℕ) (state : List ℕ) (done : start_answer_c kind count first state ≡ 0) where
  abbrev begun : List ℕ
  begun = start_state_c kind count first state

  abbrev fresh : Table
  fresh = (start_of kind count).table

  begins : Taken fresh.kind fresh.count begun fresh
  unfolding begin_of fresh_sender
  begins =
      record {
        sender = (begin_of kind count first).sender;
        keeps = start_keeps kind count first state [] done;
        going = refl;
        now = record { kind_is = refl; count_is = refl; sound = sound_start kind count };
        fine = record { kind_is = refl; count_is = refl; sound = sound_start kind count };
      }

  -- levelspruce_sender_board_going shows the board of the start
  pub begun_board : (lent : List ℕ) → length lent ≡ 130 → outgoing_bytes_c begun lent ≡ board_bytes_of (board_of fresh)
  unfolding shown_bytes
  begun_board lent l =
      rw (eq-eqb (length begun) 397 begins.keeps.sized, eq-eqb (length lent) 130 l) (ap (λ (s : Sender). board_bytes_of s.outgoing) begins.keeps.is ∙ ap board_bytes_of begins.going)

  pub listener_bytes : (lent : List ℕ) → length lent ≡ 130 → (ms : List (Said SenderCall)) → Roomy ms
      → (let board = outgoing_bytes_c begun lent in let h : Heard = record { state = begun; told = board; held = board } in
      Holds (heard_after sender_host h ms) (told_table sender_host begun fresh fresh ms) (answers_to sender_host h ms))
  listener_bytes lent l ms room =
      holds_after sender_host fresh.kind fresh.count (Taken fresh.kind fresh.count) (taken_from fresh.kind fresh.count) (λ s last q. q.fine) (λ s last c q. next_call fresh.kind fresh.count s last q c)
      begun fresh fresh _ ms begins begins.fine refl (begun_board lent l) (begun_board lent l) room
