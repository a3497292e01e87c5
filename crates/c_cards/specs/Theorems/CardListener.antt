-- The same of a card's group (02, 2026-06 and 2026-10), whatever the host calls for either group, singly or in work orders: who begins with the board of the start holds the board of the table that the group had at the last start of its
-- epochs before the last telling.
use Rattle.std.specs.Prelude.{◌≡◌, ◌≢◌, Bool, cond, ◌&&◌, List, [], ◌∷◌, eqb, ltb, get_or, length}
use Rattle.std.proofs.Math.Path.{refl}
use Rattle.std.proofs.Common.{◌∙◌, ap, ⊎_elim, true≢false, arith}
use Rattle.std.proofs.Math.Bool.{true, false}
use Prim.Native.Nat.{ℕ, zero, suc, ◌<◌}
use borrow.Author.Tests.{eq-eqb, eqb-false, eqb-true, lt-ltb}
use Rattle.ground.specs.Truth.{cond_by, eq_or_ne}
use Rattle.cards.specs.Answers.{answer_number, from_sender, CardOutcome}
use Rattle.cards.specs.Calls.{Call, outcome_of}
use Rattle.cards.specs.Calls.Call.{Claim, Release, AddSlot, RemoveSlot, Report, Lapse, StartEpoch}
use Rattle.cards.specs.Commands.{claim_of, command_of, group_call_of, of_own, release_of, sent_of, start_of}
use Rattle.cards.specs.Answers.{Answer as A}
use Rattle.cards.specs.declared.card.Card.{Card}
use Rattle.cards.specs.Laws.Seeing.{sender_marked, sender_outcome}
use Rattle.cards.specs.Owners.{has_owner, mark_of}
use Rattle.cards.specs.Parts as P
use Rattle.cards.specs.Readings.{outgoing_shown}
use Rattle.cards.specs.Theorems.Apart.{others_keep}
use Rattle.cards.specs.Views.{Asked as Q, View, view_of}
use Rattle.orders.specs.declared.commands.Kind as K
use Rattle.orders.specs.Orders.{call_by}
use Rattle.sender.specs.Board.{board_of}
use Rattle.sender.specs.Calls.{Call as T}
use Rattle.sender.specs.Commands as S
use Rattle.sender.specs.declared.epochs.Sender.{Sender}
use Rattle.sender.specs.Answers.{SenderOutcome}
use Rattle.sender.specs.declared.table.Table.{Table}
use Rattle.sender.specs.Epochs.{SenderCall as E, begin_of, fresh_sender, sender_outcome_of, start_epoch_of, started_sender}
use Rattle.sender.specs.Laws.Kept.{group_call, sound_start}
use Rattle.c_face.specs.Boards.{board_bytes_of}
use Rattle.c_cards.specs.CardCalls.{CardCall, Made, back_of, fitting, left_by, row_call, rows_made}
use Rattle.c_cards.specs.CardCalls.CardCall.{Do, Packet, Payload, Board, Going, Ranks, Owned, Changes, NoKind}
use Rattle.c_cards.specs.CardCalls.Made.{One, Order}
use Rattle.c_cards.specs.Cards.{call_answer_on, call_state_on, outgoing_bytes_on, part_in, shown_bytes_on, start_answer_on, start_state_on}
use Rattle.c_cards.specs.Going.{changes_answer_on, changes_bytes_on, changes_told_on}
use Rattle.c_face.specs.Keeping.{sender_of}
use Rattle.c_cards.specs.Listening.{Heard, Holds, Roomy, Said, answers_to, call_starts, card_host, heard_after, left_on, starts_on, told_table}
use Rattle.c_cards.specs.Orders.{kind_of}
use Rattle.c_cards.specs.Theorems.CardApart.{order_left, singles_left}
use Rattle.c_cards.specs.Theorems.CardRuns.{KeepsCard, call_keeps, card_is, start_keeps}
use Rattle.c_cards.specs.Theorems.Listener.{Fine, TakesFrom, holds_after}

-- a sender after calls of which none starts an epoch
record Still (s r : Sender) : Type 0 where
  outgoing : r.outgoing ≡ s.outgoing
  kind : r.table.kind ≡ s.table.kind
  count : r.table.count ≡ s.table.count

still : (s : Sender) → Still s s
still s = record { outgoing = refl; kind = refl; count = refl }

still_is : (s r : Sender) → r ≡ s → Still s r
still_is s r e = rw e (still s)

module _ (c : Card) (g : ℕ) where
  abbrev Stays : CardOutcome → Type 0
  Stays r = Still (P.sender_of c g) (P.sender_of r.card g)

  stays_sent : (t : T) → Stays (sent_of c g (E.OnTable t))
  stays_sent t =
      let e = sender_outcome c g (sender_outcome_of (P.sender_of c g) (E.OnTable t)) in
      let o = group_call (P.sender_of c g).table t in
      rw e (record { outgoing = refl; kind = o.kind; count = o.count })

  stays_marked : (i m : ℕ) → Stays (P.marked c i m)
  stays_marked i m = still_is (P.sender_of c g) (P.sender_of (P.marked c i m).card g) (sender_marked c g i m)

  stays_own : (i : ℕ) (r : CardOutcome) → Stays r → Stays (of_own c g i r)
  stays_own i r h = cond_by Stays (P.is_slot c g i) _ _ (λ s. cond_by Stays (P.owns c g i) _ _ (λ o. h) (λ o. still (P.sender_of c g))) (λ s. still (P.sender_of c g))

  stays_command : (i : ℕ) (t : T) → Stays (command_of c g i (E.OnTable t))
  unfolding command_of
  stays_command i t = stays_own i (sent_of c g (E.OnTable t)) (stays_sent t)

  stays_group : (t : T) → Stays (group_call_of c g (E.OnTable t))
  unfolding group_call_of
  stays_group t = cond_by Stays (ltb g 2) _ _ (λ l. stays_sent t) (λ l. still (P.sender_of c g))

  stays_claim : (i : ℕ) → Stays (claim_of c g i)
  unfolding claim_of
  stays_claim i =
      cond_by Stays (P.is_slot c g i) _ _ (λ s. cond_by Stays (has_owner c.owners i) _ _ (λ o. still (P.sender_of c g)) (λ o. stays_marked i (mark_of g))) (λ s. still (P.sender_of c g))

  stays_release : (i : ℕ) → Stays (release_of c g i)
  unfolding release_of
  stays_release i =
      stays_own i (cond (P.is_used c g i) (P.refused c A.Used) (P.marked c i 0)) (cond_by Stays (P.is_used c g i) _ _ (λ u. still (P.sender_of c g)) (λ u. stays_marked i 0))

  own_still : (call : Call) → call_starts call ≡ false → Stays (outcome_of c g call)
  own_still (Claim slot) e = stays_claim slot
  own_still (Release slot) e = stays_release slot
  own_still (AddSlot slot) e = stays_command slot (T.AddSlot slot)
  own_still (RemoveSlot slot) e = stays_command slot (T.RemoveSlot slot)
  own_still (Report epoch mst ack) e = stays_group (T.Report epoch mst ack)
  own_still Lapse e = stays_group T.Lapse
  own_still (StartEpoch gid mst ack) e = absurd (true≢false e)

  others_still : (h : ℕ) (call : Call) → g < 2 → h ≢ g → Stays (outcome_of c h call)
  unfolding view_of
  others_still h call hg n = still_is (P.sender_of c g) (P.sender_of (outcome_of c h call).card g) (ap (λ (v : View). v.sender) (others_keep c g h (Q.Do call) hg n))

  any_still : (h : ℕ) (call : Call) → g < 2 → call_starts call ≡ false → Stays (outcome_of c h call)
  any_still h call hg e = ⊎_elim (λ (s : h ≡ g). rw s (own_still call e)) (λ (n : h ≢ g). others_still h call hg n) (eq_or_ne h g)

quiet : (b x : Bool) → (b && false && x) ≡ false
quiet true x = refl
quiet false x = refl

module _ (g : ℕ) (hg : g < 2) (kind count : ℕ) where
  record Taken (state : List ℕ) (last : Table) : Type 0 where
    card : Card
    keeps : KeepsCard state card
    going : (P.sender_of card g).outgoing ≡ board_of last
    kind_is : (P.sender_of card g).table.kind ≡ kind
    count_is : (P.sender_of card g).table.count ≡ count
    fine : Fine kind count last

  -- the group's table in the state
  table_is : (state : List ℕ) (last : Table) (q : Taken state last) → sender_of (part_in g state) ≡ P.sender_of q.card g
  table_is state last q = q.keeps.part g hg

  now : (state : List ℕ) (last : Table) (q : Taken state last) → Fine kind count (sender_of (part_in g state)).table
  now state last q = rw (table_is state last q) (record { kind_is = q.kind_is; count_is = q.count_is; sound = (q.keeps.keepable.part g hg).table })

  going_is : (c : Card) → (outgoing_shown c g).board ≡ (P.sender_of c g).outgoing
  unfolding outgoing_shown P.shown_sender
  going_is c = rw (lt-ltb g 2 hg) refl

  taken_from : (state : List ℕ) (last : Table) → Taken state last → TakesFrom (card_host g) state last
  unfolding changes_answer_on changes_bytes_on changes_told_on
  taken_from state last q =
      record {
        answer = λ told changes. rw (eq-eqb (length state) 858 q.keeps.sized, lt-ltb g 2 hg, card_is state q.card q.keeps, going_is q.card, q.going) refl;
        changes = λ told changes. rw (eq-eqb (length state) 858 q.keeps.sized, lt-ltb g 2 hg, card_is state q.card q.keeps, going_is q.card, q.going) refl;
        told = λ told changes. rw (eq-eqb (length state) 858 q.keeps.sized, lt-ltb g 2 hg, card_is state q.card q.keeps, going_is q.card, q.going) refl;
      }

  module _ (state : List ℕ) (last : Table) (q : Taken state last) where
    abbrev c : Card
    c = q.card

    taken_still : (f : Bool) (h : ℕ) (call : Call) → Stays c g (outcome_of c h call) → Taken (call_state_on f h call state) last
    taken_still true h call e =
        record {
          card = (outcome_of c h call).card;
          keeps = call_keeps state c h call true q.keeps;
          going = e.outgoing ∙ q.going;
          kind_is = e.kind ∙ q.kind_is;
          count_is = e.count ∙ q.count_is;
          fine = q.fine;
        }
    taken_still false h call e =
        record { card = c; keeps = call_keeps state c h call false q.keeps; going = q.going; kind_is = q.kind_is; count_is = q.count_is; fine = q.fine }

    unstarted : (h : ℕ) (call : Call) → call_starts call ≡ false → Taken (call_state_on (fitting call) h call state) last
    unstarted h call e = taken_still (fitting call) h call (any_still c g h call hg e)

    number_is : (f : Bool) (call : Call) → call_answer_on f g call state ≡ cond f (answer_number (outcome_of c g call).answer) 8
    unfolding call_answer_on
    number_is f call = rw (eq-eqb (length state) 858 q.keeps.sized, lt-ltb g 2 hg, card_is state c q.keeps) refl

    module _ (gid mst ack : ℕ) where
      abbrev start : Call
      start = StartEpoch gid mst ack

      abbrev r : SenderOutcome
      r = start_epoch_of (P.sender_of c g) gid mst ack

      start_number : answer_number (outcome_of c g start).answer ≡ answer_number (from_sender r.answer)
      unfolding group_call_of P.group_outcome
      start_number = rw (lt-ltb g 2 hg) refl

      start_sender : P.sender_of (outcome_of c g start).card g ≡ r.sender
      unfolding group_call_of
      start_sender = rw (lt-ltb g 2 hg) (sender_outcome c g r)

      next_start : (f b : Bool) → (ltb gid 2 && ltb ack 2) ≡ b → Taken (call_state_on f g start state) (cond (eqb (call_answer_on f g start state) 0) (sender_of (part_in g state)).table last)
      unfolding start_epoch_of started_sender
      next_start true true e =
          let number : call_answer_on true g start state ≡ 0 = number_is true start ∙ start_number ∙ rw e refl in
          let sent : P.sender_of (outcome_of c g start).card g ≡ started_sender (P.sender_of c g) gid mst ack = start_sender ∙ rw e refl in
          rw number
          (record {
            card = (outcome_of c g start).card;
            keeps = call_keeps state c g start true q.keeps;
            going = rw (sent, table_is state last q) refl;
            kind_is = rw sent q.kind_is;
            count_is = rw sent q.count_is;
            fine = now state last q;
          })
      next_start true false e =
          let number : call_answer_on true g start state ≡ 8 = number_is true start ∙ start_number ∙ rw e refl in
          let sent : P.sender_of (outcome_of c g start).card g ≡ P.sender_of c g = start_sender ∙ rw e refl in
          rw number (taken_still true g start (still_is (P.sender_of c g) (P.sender_of (outcome_of c g start).card g) sent))
      next_start false b e =
          rw (number_is false start)
          (record { card = c; keeps = call_keeps state c g start false q.keeps; going = q.going; kind_is = q.kind_is; count_is = q.count_is; fine = q.fine })

    abbrev After : (h : ℕ) (k : CardCall) → Type 0
    After h k = Taken (left_by state h k) (cond (starts_on g state (One (record { group = h; call = k }))) (sender_of (part_in g state)).table last)

    next_start_by : (h gid mst ack : ℕ) → After h (Do (StartEpoch gid mst ack))
    next_start_by h gid mst ack = go (eqb h g) refl
      where
        go : (b : Bool) → eqb h g ≡ b → After h (Do (StartEpoch gid mst ack))
        go true e = rw (e, eqb-true h g e) (next_start gid mst ack (fitting (StartEpoch gid mst ack)) (ltb gid 2 && ltb ack 2) refl)
        go false e = rw e (taken_still (fitting (StartEpoch gid mst ack)) h (StartEpoch gid mst ack) (others_still c g h (StartEpoch gid mst ack) hg (eqb-false h g e)))

    next_one : (h : ℕ) (k : CardCall) → After h k
    next_one h (Do (Claim slot)) = rw (quiet (eqb h g) (eqb (back_of state g (Do (Claim slot))).number 0)) (unstarted h (Claim slot) refl)
    next_one h (Do (Release slot)) = rw (quiet (eqb h g) (eqb (back_of state g (Do (Release slot))).number 0)) (unstarted h (Release slot) refl)
    next_one h (Do (AddSlot slot)) = rw (quiet (eqb h g) (eqb (back_of state g (Do (AddSlot slot))).number 0)) (unstarted h (AddSlot slot) refl)
    next_one h (Do (RemoveSlot slot)) = rw (quiet (eqb h g) (eqb (back_of state g (Do (RemoveSlot slot))).number 0)) (unstarted h (RemoveSlot slot) refl)
    next_one h (Do (Report epoch mst ack)) = rw (quiet (eqb h g) (eqb (back_of state g (Do (Report epoch mst ack))).number 0)) (unstarted h (Report epoch mst ack) refl)
    next_one h (Do Lapse) = rw (quiet (eqb h g) (eqb (back_of state g (Do Lapse)).number 0)) (unstarted h Lapse refl)
    next_one h (Do (StartEpoch gid mst ack)) = next_start_by h gid mst ack
    next_one h (Packet slot h4) = rw (quiet (eqb h g) (eqb (back_of state g (Packet slot h4)).number 0)) q
    next_one h (Payload slot p frame member) = rw (quiet (eqb h g) (eqb (back_of state g (Payload slot p frame member)).number 0)) q
    next_one h (Board board) = rw (quiet (eqb h g) (eqb (back_of state g (Board board)).number 0)) q
    next_one h (Going board) = rw (quiet (eqb h g) (eqb (back_of state g (Going board)).number 0)) q
    next_one h (Ranks ranks) = rw (quiet (eqb h g) (eqb (back_of state g (Ranks ranks)).number 0)) q
    next_one h (Owned owned) = rw (quiet (eqb h g) (eqb (back_of state g (Owned owned)).number 0)) q
    next_one h (Changes told changes) = rw (quiet (eqb h g) (eqb (back_of state g (Changes told changes)).number 0)) q
    next_one h NoKind = rw (quiet (eqb h g) (eqb (back_of state g NoKind).number 0)) q

    -- a row of a work order starts no epoch
    row_starts : (k : K.Kind) (i : ℕ) → call_starts (call_by k i) ≡ false
    row_starts K.Kind.Add i = refl
    row_starts K.Kind.Remove i = refl
    row_starts K.Kind.Claim i = refl
    row_starts K.Kind.Release i = refl

    next_row : (row : List ℕ) → Taken (left_by state (get_or row 1 0) (row_call row)) last
    next_row row = go (ltb 3 (get_or row 0 0))
      where
        go : (b : Bool) → Taken (left_by state (get_or row 1 0) (cond b NoKind (Do (call_by (kind_of (get_or row 0 0)) (get_or row 2 0))))) last
        go true = q
        go false = unstarted (get_or row 1 0) (call_by (kind_of (get_or row 0 0)) (get_or row 2 0)) (row_starts (kind_of (get_or row 0 0)) (get_or row 2 0))

  next_rows : (state : List ℕ) (last : Table) (rows : List (List ℕ)) → Taken state last → Taken (singles_left state (rows_made rows)) last
  next_rows state last [] q = q
  next_rows state last (row ∷ rows) q = next_rows (left_by state (get_or row 1 0) (row_call row)) last rows (next_row state last q row)

  next_order : (state : List ℕ) (last : Table) (commands : List (List ℕ)) (answers : List ℕ) → Taken state last → Taken (left_on state (Order commands answers)) last
  next_order state last commands answers q = rw (order_left g state q.keeps.sized commands answers) (go (eqb (length commands) (length answers)))
    where
      go : (b : Bool) → Taken (singles_left state (cond b (rows_made commands) [])) last
      go true = next_rows state last commands q
      go false = q

  next_made : (state : List ℕ) (last : Table) (m : Made) → Taken state last → Taken (left_on state m) (cond (starts_on g state m) (sender_of (part_in g state)).table last)
  next_made state last (One m) q = next_one state last q m.group m.call
  next_made state last (Order commands answers) q = next_order state last commands answers q

module _ (kind count e₀ e₁ : ℕ) (state : List ℕ) (done : start_answer_on kind count e₀ e₁ state ≡ 0) (g : ℕ) (hg : g < 2) where
  abbrev begun : List ℕ
  begun = start_state_on kind count e₀ e₁ state

  abbrev fresh : Table
  fresh = (S.start_of kind count).table

  abbrev first : Card
  first = (start_of kind count e₀ e₁).card

  record Begins (s : Sender) : Type 0 where
    going : s.outgoing ≡ board_of fresh
    table : s.table ≡ fresh

  begins_at : (h : ℕ) → h < 2 → Begins (P.sender_of first h)
  unfolding start_of P.sender_of begin_of fresh_sender
  begins_at zero l = record { going = refl; table = refl }
  begins_at (suc zero) l = record { going = refl; table = refl }
  begins_at (suc (suc h)) l = absurd (omega arith)

  begins : Taken g hg fresh.kind fresh.count begun fresh
  begins =
      let b = begins_at g hg in
      record {
        card = first;
        keeps = start_keeps kind count e₀ e₁ state [] done;
        going = b.going;
        kind_is = ap (λ (t : Table). t.kind) b.table;
        count_is = ap (λ (t : Table). t.count) b.table;
        fine = record { kind_is = refl; count_is = refl; sound = sound_start kind count };
      }

  -- levelspruce_card_board_going shows the board of the start
  pub card_begun_board : (lent : List ℕ) → length lent ≡ 130 → outgoing_bytes_on begun g lent ≡ board_bytes_of (board_of fresh)
  unfolding shown_bytes_on
  card_begun_board lent l =
      rw (eq-eqb (length begun) 858 begins.keeps.sized, lt-ltb g 2 hg, eq-eqb (length lent) 130 l, card_is begun begins.card begins.keeps, going_is g hg fresh.kind fresh.count begins.card)
      (ap board_bytes_of begins.going)

  pub card_listener : (lent : List ℕ) → length lent ≡ 130 → (ms : List (Said Made)) → Roomy ms
      → (let board = outgoing_bytes_on begun g lent in let h : Heard = record { state = begun; told = board; held = board } in
      Holds (heard_after (card_host g) h ms) (told_table (card_host g) begun fresh fresh ms) (answers_to (card_host g) h ms))
  card_listener lent l ms room =
      holds_after (card_host g) fresh.kind fresh.count (Taken g hg fresh.kind fresh.count) (taken_from g hg fresh.kind fresh.count) (λ s last q. q.fine)
      (λ s last m q. next_made g hg fresh.kind fresh.count s last m q)
      begun fresh fresh _ ms begins begins.fine refl (card_begun_board lent l) (card_begun_board lent l) room
