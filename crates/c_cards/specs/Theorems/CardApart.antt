-- 'For any calls, what one group is answered and what its board shows depend on its own calls and on which slots the other holds, and on nothing else. A claim is the one answer through which the other's holdings show.' (02, 2026-06)
-- Of the C calls, on any bytes of a card's length: answers, lent bytes, and what is left of the group in the state.
use Rattle.std.specs.Prelude.{◌≡◌, ◌≢◌, Bool, eqb, ltb, get_or, length}
use Rattle.std.proofs.Math.Path.{refl, ap}
use Rattle.std.proofs.Common.{◌∙◌, sym}
use Rattle.std.proofs.Math.Bool.{true, false, cond}
use mathlib.Core.List.{List, [], ◌∷◌, ◌++◌}
use Prim.Native.Nat.{ℕ, ◌<◌}
use borrow.Author.Tests.{eq-eqb, eqb-false, eqb-true, lt-ltb}
use Rattle.ground.specs.Table.{length_tabulate, tabulate}
use Rattle.ground.specs.Truth.{cond_by}
use Rattle.sender.specs.declared.board.Board.{Board as SenderBoard}
use Rattle.sender.specs.Epochs.{sender_outcome_of}
use Rattle.cards.specs.declared.card.Card.{Card}
use Rattle.cards.specs.Alone.{outcome_seen, reply_seen}
use Rattle.cards.specs.Answers.{answer_number}
use Rattle.cards.specs.Calls.{Call, outcome_of}
use Rattle.cards.specs.Calls.Call.{Claim, Release, AddSlot, RemoveSlot, Report, Lapse, StartEpoch}
use Rattle.cards.specs.Laws.Seeing.{owners_outcome, view_is}
use Rattle.cards.specs.Laws.Ways.{by_ways}
use Rattle.cards.specs.Owners.{owner_in, with_owner}
use Rattle.cards.specs.Parts as P
use Rattle.cards.specs.Theorems.Apart.{others_keep, own_reply, own_view}
use Rattle.cards.specs.Views as L
use Rattle.cards.specs.Views.{Asked as Q, Reply, View, reply_to, view_of}
use Rattle.cards.specs.Views.Reply.{Answered, Wrote, Showed, Ranked, Owns}
use Rattle.orders.specs.Orders.{call_by}
use Rattle.c_face.specs.Boards.{board_bytes_of, ranks_bytes_of}
use Rattle.c_cards.specs.CardCalls.{Back, CardCall, Made, Same, Single, answered, back_of, back_to, bit_of, bits_of, calls_of, claim_bit, fitting, left_after, left_by, own_answers, row_call, rows_made, singles, slots_of}
use Rattle.c_cards.specs.CardCalls.CardCall.{Do, Packet, Payload, Board, Going, Ranks, Owned, Changes, NoKind}
use Rattle.c_cards.specs.CardCalls.Made.{One, Order}
use Rattle.c_cards.specs.Cards.{call_answer_on, call_state_on, card_of, is_card, owners_in, packet_answer_on, packet_bytes_on, part_in, payload_answer_on, payload_bytes_on, put_own, shown_answer_on, shown_bytes_on}
use Rattle.c_cards.specs.Going.{changes_answer_on, changes_bytes_on, changes_told_on, going_answer, going_changes, going_told}
use Rattle.c_face.specs.Keeping.{bytes_of, sender_of}
use Rattle.c_cards.specs.Orders.{command_answer_on, command_state_on, kind_answer_on, kind_of, kind_state_on, order_answer_on, order_answers_on, order_state_on, orders_on}
use Rattle.c_cards.specs.Theorems.CardRuns.{others_part, own_part, own_row, part_of}
use Rattle.c_cards.specs.Theorems.Ordered.{all_fit, call_length}

-- ---- what a group has of a state: its part and its slots

record Has : Type 0 where
  part : List ℕ
  slots : List Bool

abbrev has_of : ℕ → List ℕ → Has
has_of g state = record { part = part_in g state; slots = slots_of g state }

-- as the library sees it
abbrev view_in : Has → View
view_in h = record { sender = sender_of h.part; owned = h.slots }

abbrev from_view : View → Has
from_view v = record { part = bytes_of v.sender; slots = v.owned }

row_owned : (g : ℕ) (state : List ℕ) → tabulate 64 (λ i. P.owns (card_of state) g i) ≡ slots_of g state
unfolding P.owns card_of slots_of
row_owned g state = refl

view_of_lem : (g : ℕ) (state : List ℕ) → view_of g (card_of state) ≡ view_in (has_of g state)
view_of_lem g state = view_is g (card_of state) (view_in (has_of g state)) (part_of g state) (row_owned g state)

owned_row : (g : ℕ) (c : Card) (state : List ℕ) → owners_in state ≡ c.owners → slots_of g state ≡ (view_of g c).owned
unfolding slots_of view_of P.owns
owned_row g c state e = rw e refl

view_sender : (g : ℕ) (c : Card) → P.sender_of c g ≡ (view_of g c).sender
unfolding view_of
view_sender g c = refl

put_has : (g : ℕ) (c : Card) (state : List ℕ) → length state ≡ 858 → length c.owners ≡ 64 → has_of g (put_own g c state) ≡ from_view (view_of g c)
put_has g c state sized row =
    rw (own_part c state sized g, owned_row g c (put_own g c state) (own_row c state sized g row), view_sender g c) refl

-- every call leaves an owner row of 64
marked_row : (c : Card) (i m : ℕ) → length (P.marked c i m).card.owners ≡ 64
unfolding P.marked with_owner
marked_row c i m = length_tabulate 64 (λ j. cond (eqb j i) m (owner_in c.owners j))

row_read : (state : List ℕ) → length (card_of state).owners ≡ 64
unfolding card_of owners_in
row_read state = length_tabulate 64 (λ i. get_or state i 0)

call_row_lem : (c : Card) (g : ℕ) (k : Call) → length c.owners ≡ 64 → length (outcome_of c g k).card.owners ≡ 64
call_row_lem c g k l =
    by_ways (λ r. length r.card.owners ≡ 64) c g (λ a. l) (λ i m h. marked_row c i m)
    (λ s h. ap (λ (row : List ℕ). length row) (owners_outcome c g (sender_outcome_of (P.sender_of c g) s)) ∙ l) k

left_length : (state : List ℕ) (g : ℕ) (k : CardCall) → length (left_by state g k) ≡ length state
left_length state g (Do call) = call_length (fitting call) g call state
left_length state g (Packet slot h4) = refl
left_length state g (Payload slot p frame member) = refl
left_length state g (Board board) = refl
left_length state g (Going board) = refl
left_length state g (Ranks ranks) = refl
left_length state g (Owned owned) = refl
left_length state g (Changes told changes) = refl
left_length state g NoKind = refl

-- ---- what comes back, by the library's reply

abbrev asked_in : CardCall → Q
asked_in (Do call) = Q.Do call
asked_in (Packet slot h4) = Q.Packet slot h4
asked_in (Payload slot p frame member) = Q.Payload slot p frame member
asked_in (Board board) = Q.Board
asked_in (Going board) = Q.Outgoing
asked_in (Ranks ranks) = Q.Ranks
asked_in (Owned owned) = Q.Owned
asked_in (Changes told changes) = Q.Outgoing
asked_in NoKind = Q.Owned

abbrev number_in : Reply → ℕ
number_in (Answered a) = answer_number a
number_in (Wrote a bytes) = answer_number a
number_in (Showed o) = answer_number o.answer
number_in (Ranked o) = answer_number o.answer
number_in (Owns o) = answer_number o.answer

abbrev bytes_in : Reply → List ℕ
bytes_in (Answered a) = []
bytes_in (Wrote a bytes) = bytes
bytes_in (Showed o) = board_bytes_of o.board
bytes_in (Ranked o) = ranks_bytes_of o.ranks
bytes_in (Owns o) = o.owned

abbrev no_board : SenderBoard
no_board = record { rows = []; count = 0; wait = false }

abbrev board_in : Reply → SenderBoard
board_in (Answered a) = no_board
board_in (Wrote a bytes) = no_board
board_in (Showed o) = o.board
board_in (Ranked o) = no_board
board_in (Owns o) = no_board

abbrev wrote : Reply → Back
wrote r = record { number = number_in r; lent = bytes_in r ∷ [] }

abbrev showed : ℕ → List ℕ → Reply → Back
showed n out r = record { number = cond (eqb (length out) n) 0 9; lent = cond (eqb (length out) n) (bytes_in r) out ∷ [] }

abbrev back_by : CardCall → Reply → Back
back_by (Do call) r = answered (cond (fitting call) (number_in r) 8)
back_by (Packet slot h4) r = wrote r
back_by (Payload slot p frame member) r = wrote r
back_by (Board board) r = showed 130 board r
back_by (Going board) r = showed 130 board r
back_by (Ranks ranks) r = showed 68 ranks r
back_by (Owned owned) r = showed 64 owned r
back_by (Changes told changes) r =
    record { number = going_answer (board_in r) told changes; lent = going_told (board_in r) told changes ∷ going_changes (board_in r) told changes ∷ [] }
back_by NoKind r = answered 8

module _ (g : ℕ) (hg : g < 2) (state : List ℕ) (sized : length state ≡ 858) where
  back_is : (k : CardCall) → back_of state g k ≡ back_by k (reply_to (card_of state) g (asked_in k))
  unfolding call_answer_on packet_answer_on packet_bytes_on payload_answer_on payload_bytes_on shown_answer_on shown_bytes_on changes_answer_on changes_told_on changes_bytes_on
  back_is (Do call) = rw (eq-eqb (length state) 858 sized, lt-ltb g 2 hg) refl
  back_is (Packet slot h4) = rw (eq-eqb (length state) 858 sized, lt-ltb g 2 hg) refl
  back_is (Payload slot p frame member) = rw (eq-eqb (length state) 858 sized, lt-ltb g 2 hg) refl
  back_is (Board board) = rw (eq-eqb (length state) 858 sized, lt-ltb g 2 hg) refl
  back_is (Going board) = rw (eq-eqb (length state) 858 sized, lt-ltb g 2 hg) refl
  back_is (Ranks ranks) = rw (eq-eqb (length state) 858 sized, lt-ltb g 2 hg) refl
  back_is (Owned owned) = rw (eq-eqb (length state) 858 sized, lt-ltb g 2 hg) refl
  back_is (Changes told changes) = rw (eq-eqb (length state) 858 sized, lt-ltb g 2 hg) refl
  back_is NoKind = refl

  -- the bit is the library's
  call_bit : (call : Call) → L.bit_of (card_of state) g (Q.Do call) ≡ claim_bit state g call
  unfolding P.owns card_of
  call_bit (Claim slot) = refl
  call_bit (Release slot) = refl
  call_bit (AddSlot slot) = refl
  call_bit (RemoveSlot slot) = refl
  call_bit (Report epoch mst ack) = refl
  call_bit Lapse = refl
  call_bit (StartEpoch gid mst ack) = refl

  bit_is : (k : CardCall) → L.bit_of (card_of state) g (asked_in k) ≡ bit_of state g k
  bit_is (Do call) = call_bit call
  bit_is (Packet slot h4) = refl
  bit_is (Payload slot p frame member) = refl
  bit_is (Board board) = refl
  bit_is (Going board) = refl
  bit_is (Ranks ranks) = refl
  bit_is (Owned owned) = refl
  bit_is (Changes told changes) = refl
  bit_is NoKind = refl

-- ---- one call, from what the group has, the call and the bit alone

abbrev back_seen : Has → CardCall → Bool → Back
back_seen h k b = back_by k (reply_seen (view_in h) (asked_in k) b)

abbrev call_seen : Has → Call → Bool → Has
call_seen h call b =
    let r = outcome_seen (view_in h) call b in cond (fitting call) (cond (eqb (answer_number r.answer) 0) (from_view r.view) h) h

abbrev left_seen : Has → CardCall → Bool → Has
left_seen h (Do call) b = call_seen h call b
left_seen h (Packet slot h4) b = h
left_seen h (Payload slot p frame member) b = h
left_seen h (Board board) b = h
left_seen h (Going board) b = h
left_seen h (Ranks ranks) b = h
left_seen h (Owned owned) b = h
left_seen h (Changes told changes) b = h
left_seen h NoKind b = h

module _ (g : ℕ) (hg : g < 2) (state : List ℕ) (sized : length state ≡ 858) where
  reply_seen_lem : (k : CardCall) → reply_to (card_of state) g (asked_in k) ≡ reply_seen (view_in (has_of g state)) (asked_in k) (bit_of state g k)
  reply_seen_lem k =
      own_reply (card_of state) g hg (asked_in k)
      ∙ ap (λ (v : View). reply_seen v (asked_in k) (L.bit_of (card_of state) g (asked_in k))) (view_of_lem g state)
      ∙ ap (λ (b : Bool). reply_seen (view_in (has_of g state)) (asked_in k) b) (bit_is g hg state sized k)

  back_seen_lem : (k : CardCall) → back_of state g k ≡ back_seen (has_of g state) k (bit_of state g k)
  back_seen_lem k = back_is g hg state sized k ∙ ap (back_by k) (reply_seen_lem k)

  view_left : (call : Call) → view_of g (outcome_of (card_of state) g call).card ≡ (outcome_seen (view_in (has_of g state)) call (claim_bit state g call)).view
  view_left call =
      own_view (card_of state) g hg (Q.Do call)
      ∙ ap (λ (v : View). (outcome_seen v call (L.bit_of (card_of state) g (Q.Do call))).view) (view_of_lem g state)
      ∙ ap (λ (b : Bool). (outcome_seen (view_in (has_of g state)) call b).view) (call_bit g hg state sized call)

  call_left : (call : Call) → has_of g (call_state_on (fitting call) g call state) ≡ call_seen (has_of g state) call (claim_bit state g call)
  unfolding call_state_on
  call_left call =
      rw (eq-eqb (length state) 858 sized, lt-ltb g 2 hg)
      (go (fitting call) (answer_number (outcome_of (card_of state) g call).answer) (answer_number (outcome_seen (view_in (has_of g state)) call (claim_bit state g call)).answer) (ap number_in (reply_seen_lem (Do call))))
    where
      put : has_of g (put_own g (outcome_of (card_of state) g call).card state) ≡ from_view (outcome_seen (view_in (has_of g state)) call (claim_bit state g call)).view
      put = put_has g (outcome_of (card_of state) g call).card state sized (call_row_lem (card_of state) g call (row_read state)) ∙ ap from_view (view_left call)

      done : (b : Bool) → has_of g (cond b (put_own g (outcome_of (card_of state) g call).card state) state)
          ≡ cond b (from_view (outcome_seen (view_in (has_of g state)) call (claim_bit state g call)).view) (has_of g state)
      done true = put
      done false = refl

      go : (f : Bool) (n m : ℕ) → n ≡ m → has_of g (cond f (cond (eqb n 0) (put_own g (outcome_of (card_of state) g call).card state) state) state)
          ≡ cond f (cond (eqb m 0) (from_view (outcome_seen (view_in (has_of g state)) call (claim_bit state g call)).view) (has_of g state)) (has_of g state)
      go true n m e = rw (← e) (done (eqb n 0))
      go false n m e = refl

  left_seen_lem : (k : CardCall) → has_of g (left_by state g k) ≡ left_seen (has_of g state) k (bit_of state g k)
  left_seen_lem (Do call) = call_left call
  left_seen_lem (Packet slot h4) = refl
  left_seen_lem (Payload slot p frame member) = refl
  left_seen_lem (Board board) = refl
  left_seen_lem (Going board) = refl
  left_seen_lem (Ranks ranks) = refl
  left_seen_lem (Owned owned) = refl
  left_seen_lem (Changes told changes) = refl
  left_seen_lem NoKind = refl

  -- a call of the other group, and of no group, leaves it all
  others_slots : (h : ℕ) → h ≢ g → (call : Call) → slots_of g (call_state_on (fitting call) h call state) ≡ slots_of g state
  unfolding call_state_on
  others_slots h n call =
      let S : List ℕ → Type 0 = λ t. slots_of g t ≡ slots_of g state in
      cond_by S (is_card state) _ state
      (λ l.
      cond_by S (ltb h 2) _ state
      (λ t. cond_by S (fitting call) _ state (λ f. cond_by S (eqb (answer_number (outcome_of (card_of state) h call).answer) 0) _ state (λ d. put) (λ d. refl)) (λ f. refl))
      (λ t. refl))
      (λ l. refl)
    where
      put : slots_of g (put_own h (outcome_of (card_of state) h call).card state) ≡ slots_of g state
      put =
          owned_row g (outcome_of (card_of state) h call).card (put_own h (outcome_of (card_of state) h call).card state)
          (own_row (outcome_of (card_of state) h call).card state sized h (call_row_lem (card_of state) h call (row_read state)))
          ∙ ap (λ (v : View). v.owned) (others_keep (card_of state) g h (Q.Do call) hg n ∙ view_of_lem g state)

  others_leave : (h : ℕ) → h ≢ g → (k : CardCall) → has_of g (left_by state h k) ≡ has_of g state
  others_leave h n (Do call) = rw (others_part (fitting call) g h call state hg n, others_slots h n call) refl
  others_leave h n (Packet slot h4) = refl
  others_leave h n (Payload slot p frame member) = refl
  others_leave h n (Board board) = refl
  others_leave h n (Going board) = refl
  others_leave h n (Ranks ranks) = refl
  others_leave h n (Owned owned) = refl
  others_leave h n (Changes told changes) = refl
  others_leave h n NoKind = refl

-- ---- lists of single calls

abbrev pub singles_left : List ℕ → List Single → List ℕ
singles_left state [] = state
singles_left state (m ∷ ms) = singles_left (left_by state m.group m.call) ms

abbrev singles_back : ℕ → List ℕ → List Single → List Back
singles_back g state [] = []
singles_back g state (m ∷ ms) = let rest = singles_back g (left_by state m.group m.call) ms in cond (eqb m.group g) (back_of state g m.call ∷ rest) rest

abbrev backs_seen : Has → List CardCall → List Bool → List Back
backs_seen h [] bs = []
backs_seen h (k ∷ ks) [] = []
backs_seen h (k ∷ ks) (b ∷ bs) = back_seen h k b ∷ backs_seen (left_seen h k b) ks bs

abbrev has_seen : Has → List CardCall → List Bool → Has
has_seen h [] bs = h
has_seen h (k ∷ ks) [] = h
has_seen h (k ∷ ks) (b ∷ bs) = has_seen (left_seen h k b) ks bs

record AsAlone (g : ℕ) (state : List ℕ) (ms : List Single) : Type 0 where
  backs : singles_back g state ms ≡ backs_seen (has_of g state) (calls_of g ms) (bits_of g state ms)
  has : has_of g (singles_left state ms) ≡ has_seen (has_of g state) (calls_of g ms) (bits_of g state ms)

as_alone : (g : ℕ) → g < 2 → (state : List ℕ) → length state ≡ 858 → (ms : List Single) → AsAlone g state ms
as_alone g hg state sized [] = record { backs = refl; has = refl }
as_alone g hg state sized (m ∷ ms) =
    go (as_alone g hg (left_by state m.group m.call) (left_length state m.group m.call ∙ sized) ms) (eqb m.group g) refl
  where
    go : AsAlone g (left_by state m.group m.call) ms → (b : Bool) → eqb m.group g ≡ b → AsAlone g state (m ∷ ms)
    go rest true e =
        let next : has_of g (left_by state m.group m.call) ≡ left_seen (has_of g state) m.call (bit_of state g m.call) =
        ap (λ (h : ℕ). has_of g (left_by state h m.call)) (eqb-true m.group g e) ∙ left_seen_lem g hg state sized m.call in
        record {
          backs = rw (e, rest.backs, next, back_seen_lem g hg state sized m.call) refl;
          has = rw (e, rest.has, next) refl;
        }
    go rest false e =
        let kept : has_of g (left_by state m.group m.call) ≡ has_of g state = others_leave g hg state sized m.group (eqb-false m.group g e) m.call in
        record { backs = rw (e, rest.backs, kept) refl; has = rw (e, rest.has, kept) refl }

-- ---- a work order is the single calls of its rows

left_append : (state : List ℕ) (ms ns : List Single) → singles_left state (ms ++ ns) ≡ singles_left (singles_left state ms) ns
left_append state [] ns = refl
left_append state (m ∷ ms) ns = left_append (left_by state m.group m.call) ms ns

back_append : (g : ℕ) (state : List ℕ) (ms ns : List Single) → singles_back g state (ms ++ ns) ≡ singles_back g state ms ++ singles_back g (singles_left state ms) ns
back_append g state [] ns = refl
back_append g state (m ∷ ms) ns = go (eqb m.group g) (back_append g (left_by state m.group m.call) ms ns)
  where
    go : (b : Bool)
        → singles_back g (left_by state m.group m.call) (ms ++ ns)
        ≡ singles_back g (left_by state m.group m.call) ms ++ singles_back g (singles_left (left_by state m.group m.call) ms) ns
        → cond b (back_of state g m.call ∷ singles_back g (left_by state m.group m.call) (ms ++ ns)) (singles_back g (left_by state m.group m.call) (ms ++ ns))
        ≡ cond b (back_of state g m.call ∷ singles_back g (left_by state m.group m.call) ms) (singles_back g (left_by state m.group m.call) ms)
        ++ singles_back g (singles_left (left_by state m.group m.call) ms) ns
    go true e = ap (λ (l : List Back). back_of state g m.call ∷ l) e
    go false e = e

module _ (state row : List ℕ) where
  abbrev call : Call
  call = call_by (kind_of (get_or row 0 0)) (get_or row 2 0)

  row_left : command_state_on state row ≡ left_by state (get_or row 1 0) (row_call row)
  unfolding kind_state_on
  row_left = go (ltb 3 (get_or row 0 0))
    where
      go : (b : Bool) → cond b state (call_state_on true (get_or row 1 0) call state) ≡ left_by state (get_or row 1 0) (cond b NoKind (Do call))
      go true = refl
      go false = ap (λ (f : Bool). call_state_on f (get_or row 1 0) call state) (sym (all_fit (kind_of (get_or row 0 0)) (get_or row 2 0)))

  row_back : (g : ℕ) → get_or row 1 0 ≡ g → answered (command_answer_on state row) ≡ back_of state g (row_call row)
  unfolding kind_answer_on
  row_back g e = rw e (go (ltb 3 (get_or row 0 0)))
    where
      go : (b : Bool) → answered (cond b 8 (call_answer_on true g call state)) ≡ back_of state g (cond b NoKind (Do call))
      go true = refl
      go false = ap (λ (f : Bool). answered (call_answer_on f g call state)) (sym (all_fit (kind_of (get_or row 0 0)) (get_or row 2 0)))

rows_left_lem : (state : List ℕ) (rows : List (List ℕ)) → (orders_on state rows).state ≡ singles_left state (rows_made rows)
rows_left_lem state [] = refl
rows_left_lem state (row ∷ rows) = rows_left_lem (command_state_on state row) rows ∙ ap (λ (t : List ℕ). singles_left t (rows_made rows)) (row_left state row)

rows_back : (g : ℕ) (state : List ℕ) (rows : List (List ℕ)) → own_answers g rows (orders_on state rows).numbers ≡ singles_back g state (rows_made rows)
rows_back g state [] = refl
rows_back g state (row ∷ rows) =
    go (eqb (get_or row 1 0) g) refl (rows_back g (command_state_on state row) rows ∙ ap (λ (t : List ℕ). singles_back g t (rows_made rows)) (row_left state row))
  where
    go : (b : Bool) → eqb (get_or row 1 0) g ≡ b
        → own_answers g rows (orders_on (command_state_on state row) rows).numbers ≡ singles_back g (left_by state (get_or row 1 0) (row_call row)) (rows_made rows)
        → cond b (answered (command_answer_on state row) ∷ own_answers g rows (orders_on (command_state_on state row) rows).numbers)
        (own_answers g rows (orders_on (command_state_on state row) rows).numbers)
        ≡ cond b (back_of state g (row_call row) ∷ singles_back g (left_by state (get_or row 1 0) (row_call row)) (rows_made rows))
        (singles_back g (left_by state (get_or row 1 0) (row_call row)) (rows_made rows))
    go true e rest = rw (row_back state row g (eqb-true (get_or row 1 0) g e), rest) refl
    go false e rest = rest

module _ (g : ℕ) (state : List ℕ) (sized : length state ≡ 858) (commands : List (List ℕ)) (answers : List ℕ) where
  abbrev pub order_made : List Single
  order_made = cond (eqb (length commands) (length answers)) (rows_made commands) []

  pub order_left : order_state_on state commands answers ≡ singles_left state order_made
  unfolding order_state_on
  order_left = rw (eq-eqb (length state) 858 sized) (go (eqb (length commands) (length answers)))
    where
      go : (b : Bool) → cond b (orders_on state commands).state state ≡ singles_left state (cond b (rows_made commands) [])
      go true = rows_left_lem state commands
      go false = refl

  order_back : cond (eqb (order_answer_on state commands answers) 0) (own_answers g commands (order_answers_on state commands answers)) [] ≡ singles_back g state order_made
  unfolding order_answer_on order_answers_on
  order_back = rw (eq-eqb (length state) 858 sized) (go (eqb (length commands) (length answers)))
    where
      go : (b : Bool) → cond (eqb (cond b 0 9) 0) (own_answers g commands (cond b (orders_on state commands).numbers answers)) [] ≡ singles_back g state (cond b (rows_made commands) [])
      go true = rows_back g state commands
      go false = refl

rows_length : (state : List ℕ) (ms : List Single) → length (singles_left state ms) ≡ length state
rows_length state [] = refl
rows_length state (m ∷ ms) = rows_length (left_by state m.group m.call) ms ∙ left_length state m.group m.call

record AsSingles (g : ℕ) (state : List ℕ) (ms : List Made) : Type 0 where
  left : left_after state ms ≡ singles_left state (singles ms)
  back : back_to g state ms ≡ singles_back g state (singles ms)

as_singles : (g : ℕ) (state : List ℕ) → length state ≡ 858 → (ms : List Made) → AsSingles g state ms
as_singles g state sized [] = record { left = refl; back = refl }
as_singles g state sized (One m ∷ ms) =
    let rest = as_singles g (left_by state m.group m.call) (left_length state m.group m.call ∙ sized) ms in
    record { left = rest.left; back = ap (λ (l : List Back). cond (eqb m.group g) (back_of state g m.call ∷ l) l) rest.back }
as_singles g state sized (Order commands answers ∷ ms) =
    let left = order_left g state sized commands answers in
    let made = order_made g state sized commands answers in
    let rest = as_singles g (singles_left state made) (rows_length state made ∙ sized) ms in
    record {
      left = ap (λ (t : List ℕ). left_after t ms) left ∙ rest.left ∙ sym (left_append state made (singles ms));
      back = rw (order_back g state sized commands answers, left, rest.back) (sym (back_append g state made (singles ms)));
    }

-- ---- the theorem

-- Two states with the same part and slots of a group, and two lists of calls with the same calls of it, single or in work orders, and the same bit at each of its claims: it gets the same back, and has the same in the end.
pub card_apart : (g : ℕ) → g < 2 → (s t : List ℕ) → length s ≡ 858 → length t ≡ 858 → part_in g s ≡ part_in g t → slots_of g s ≡ slots_of g t
    → (ms ns : List Made) → calls_of g (singles ms) ≡ calls_of g (singles ns) → bits_of g s (singles ms) ≡ bits_of g t (singles ns) → Same g s t ms ns
card_apart g hg s t ls lt part slots ms ns calls bits =
    record {
      back = one.back ∙ l.backs ∙ rw (part, slots, calls, bits) refl ∙ sym r.backs ∙ sym two.back;
      part = ap (part_in g) one.left ∙ ap (λ (h : Has). h.part) same ∙ sym (ap (part_in g) two.left);
      slots = ap (slots_of g) one.left ∙ ap (λ (h : Has). h.slots) same ∙ sym (ap (slots_of g) two.left);
    }
  where
    one : AsSingles g s ms
    one = as_singles g s ls ms

    two : AsSingles g t ns
    two = as_singles g t lt ns

    l : AsAlone g s (singles ms)
    l = as_alone g hg s ls (singles ms)

    r : AsAlone g t (singles ns)
    r = as_alone g hg t lt (singles ns)

    same : has_of g (singles_left s (singles ms)) ≡ has_of g (singles_left t (singles ns))
    same = l.has ∙ rw (part, slots, calls, bits) refl ∙ sym r.has
