-- The card in a state's bytes, part by part, and each way out of the card's C calls, as the definitions have it.
use mathlib.Core.Path.{◌≡◌, refl, ◌∙◌, sym, ap}
use mathlib.Core.Bool.{Bool, true, false, cond}
use mathlib.Core.List.{List, ◌++◌}
use Prim.Native.Nat.{ℕ, ◌+◌, ◌≤◌, ◌<◌}
use native.Mathlib.Omega.{arith}
use lib.Dec.{eqb, ltb}
use lib.ListN.{length, get_or, take, drop}
use borrow.Author.Tests.{eq-eqb, ne_eqb, eqb-true, lt-ltb, ltb-true}
use Rattle.ground.specs.Drawn.{fill_at, fill_at_all}
use Rattle.ground.specs.Table.{tabulate, tabulate_self}
use Rattle.std.specs.Prelude.{Result, Ok, Err, not}
use Rattle.ground.specs.Refusals.{number_told}
use Rattle.cards.specs.declared.refusals.Refusal.{Refusal}
use Rattle.cards.specs.Answers.{Answer, CardOutcome, answer_number, board_told, given, group_answer, only_told, owned_told, ranks_told, refusal_number, told}
use Rattle.cards.specs.Answers.Answer.{Done, NoSlot, NotAllowed, WaitOpen, OutOfRange, Field, Length, Owned, Used}
use Rattle.cards.specs.Theorems.Told.{told_number}
use Rattle.sender.specs.Commands as S
use Rattle.cards.specs.declared.card.Card.{Card}
use Rattle.cards.specs.Calls.{Call, outcome_of}
use Rattle.cards.specs.Commands.{start_of}
use Rattle.cards.specs.Laws.Alike.{Alike, AlikeAfter, alike_call, alike_payload, alike_shown}
use Rattle.cards.specs.Owners.{owner_in}
use Rattle.cards.specs.Parts as P
use Rattle.cards.specs.Readings.{board_shown, outgoing_shown, owned_shown, payload_answer, payload_bytes, ranks_shown}
use Rattle.sender.specs.Board.{board_of}
use Rattle.sender.specs.declared.board.Board.{Board}
use Rattle.sender.specs.declared.ranks.Ranks.{Ranks}
use Rattle.sender.specs.declared.epochs.Sender.{Sender}
use Rattle.sender.specs.Epochs.{begin_of, ranks_of}
use Rattle.c_face.specs.Boards.{board_bytes_of, ranks_bytes_of}
use Rattle.c_cards.specs.Cards.{alone, are_epochs, behind, bytes_behind, call_answer_on, call_state_on, card_of, is_card, kept_card, owners_in, packet_answer_on, packet_bytes_on, part_at, part_in, payload_answer_on, payload_bytes_on, put_card, put_own, refusal_of, shown_answer_on, shown_bytes_on, start_answer_on, start_state_on, told_card}
use Rattle.c_face.specs.Keeping.{byte_at, bytes_of, sender_of}
use Rattle.c_cards.specs.Laws.Slots.{slot_packet, slot_packet_answer, slot_packet_bytes}
use Rattle.c_face.specs.Senders.{no_start, outside, sends}
use Rattle.c_face.proofs.SenderCalls.{neither_left}
use Rattle.c_cards.specs.Theorems.CardRuns.{part_of}
use Rattle.c_cards.proofs.Parts.{mid_is, put_is}

-- where the two parts begin
pub first_at : (g : ℕ) → g ≡ 0 → part_at g ≡ 64
first_at g z = rw (eq-eqb g 0 z)

pub second_at : (g : ℕ) → (g ≡ 0 → ⊥) → part_at g ≡ 461
second_at g z = rw (ne_eqb g 0 z)

-- the part of a group, lent for reading and for writing
module _ (g a : ℕ) (state : List ℕ) (at : part_at g ≡ a) (sized : length state ≡ 858) (low : a + 397 ≤ 858) where
  pub read_part : take 397 (drop a state) ≡ part_in g state
  unfolding part_in
  read_part = mid_is a 397 state (omega arith) ∙ ap (λ (m : ℕ). tabulate 397 (λ k. get_or state (m + k) 0)) (sym at)

  pub write_part : (s : Sender) (new : List ℕ) → new ≡ bytes_of s → take a state ++ (new ++ drop 397 (drop a state)) ≡ fill_at (part_at g) 397 (byte_at s) state
  unfolding bytes_of
  write_part s new e =
      ap (λ (l : List ℕ). take a state ++ (l ++ drop 397 (drop a state))) e
      ∙ put_is a 397 state (omega arith) (byte_at s)
      ∙ ap (λ (m : ℕ). fill_at m 397 (byte_at s) state) (sym at)

pub card_alone : (g : ℕ) (state owners : List ℕ) (s : Sender) → owners ≡ owners_in state → s ≡ sender_of (part_in g state)
    → record { owners = owners; first = s; second = s } ≡ alone g (card_of state)
unfolding card_of
card_alone g state owners s eo es = rw (eo, es, ← part_of g state) refl

both : {A : Type 0} (b : Bool) (x : A) → cond b x x ≡ x
both true x = refl
both false x = refl

alone_alike : (g : ℕ) (c : Card) → Alike g (alone g c) c
unfolding P.sender_of
alone_alike g c = record { owners = refl; sender = both (eqb g 0) (P.sender_of c g) }

pub own_whole : (g : ℕ) (c : Card) (s : Sender) (state mid out : List ℕ) → length c.owners ≡ 64 → mid ≡ fill_at 0 (length c.owners) (λ k. get_or c.owners k 0) state
    → s ≡ P.sender_of c g → out ≡ fill_at (part_at g) 397 (byte_at s) mid → out ≡ put_own g c state
unfolding put_own
own_whole g c s state mid out l em es eo =
    eo ∙ ap (λ (x : Sender). fill_at (part_at g) 397 (byte_at x) mid) es
    ∙ ap (λ (x : List ℕ). fill_at (part_at g) 397 (byte_at (P.sender_of c g)) x) (em ∙ ap (λ (n : ℕ). fill_at 0 n (owner_in c.owners) state) l)

pub owned_whole : (owned d out : List ℕ) → length owned ≡ 64 → length d ≡ 64 → out ≡ fill_at 0 (length owned) (λ k. get_or owned k 0) d → out ≡ owned
owned_whole owned d out l m e = e ∙ fill_at_all (length owned) (λ k. get_or owned k 0) d (m ∙ sym l) ∙ tabulate_self owned 0

-- what a call tells keeps what its outcome does
kept_told : (g : ℕ) (a : Answer) (c : Card) (state : List ℕ) → told_card g (given a c) state ≡ kept_card g (record { card = c; answer = a }) state
kept_told g Done c state = refl
kept_told g NoSlot c state = refl
kept_told g NotAllowed c state = refl
kept_told g WaitOpen c state = refl
kept_told g OutOfRange c state = refl
kept_told g Field c state = refl
kept_told g Length c state = refl
kept_told g Owned c state = refl
kept_told g Used c state = refl

-- a start in range is done
begun : (kind count e₀ e₁ : ℕ) → no_start kind count ≡ false → told (start_of kind count e₀ e₁) ≡ Ok (start_of kind count e₀ e₁).card
unfolding start_of begin_of S.start_of
begun kind count e₀ e₁ o = rw (neither_left (outside count) (not (sends kind)) o) refl

-- what the two groups are shown is not refused
shown_ok : {T : Type 0} (g : ℕ) (x : T) → g < 2 → given (group_answer g) x ≡ Ok x
shown_ok g x h = rw (lt-ltb g 2 h)

shown_is : {T : Type 0} (g : ℕ) (x : T) {y : T} → g < 2 → Ok y ≡ given (group_answer g) x → y ≡ x
shown_is {T} g x {y} h e = let same : ◌≡◌ {A = Result T Refusal} (Ok y) (Ok x) = e ∙ shown_ok g x h in cc

shown_not : {T : Type 0} (g : ℕ) (x : T) {r : Refusal} → g < 2 → Err r ≡ given (group_answer g) x → ⊥
shown_not g x {r} h e = let same : Err r ≡ Ok x = e ∙ shown_ok g x h in cc

module _ (kind count e₀ e₁ : ℕ) (state : List ℕ) where
  pub start_none : (length state ≡ 858 → ⊥) → no_start kind count ≡ true → (4 ≡ start_answer_on kind count e₀ e₁ state) × (state ≡ start_state_on kind count e₀ e₁ state)
  unfolding start_answer_on start_state_on
  start_none d o = rw (ne_eqb (length state) 858 d, o) (refl, refl)

  pub start_length : (length state ≡ 858 → ⊥) → no_start kind count ≡ false → (9 ≡ start_answer_on kind count e₀ e₁ state) × (state ≡ start_state_on kind count e₀ e₁ state)
  unfolding start_answer_on start_state_on
  start_length d o = rw (ne_eqb (length state) 858 d, o) (refl, refl)

  pub start_outside : (out : List ℕ) → length state ≡ 858 → no_start kind count ≡ true → out ≡ put_card (start_of 0 0 0 0).card state
      → (4 ≡ start_answer_on kind count e₀ e₁ state) × (out ≡ start_state_on kind count e₀ e₁ state)
  unfolding start_answer_on start_state_on
  start_outside out l o h = rw (eq-eqb (length state) 858 l, o) (refl, h)

  pub start_unfit : length state ≡ 858 → no_start kind count ≡ false → are_epochs kind e₀ e₁ ≡ false
      → (8 ≡ start_answer_on kind count e₀ e₁ state) × (state ≡ start_state_on kind count e₀ e₁ state)
  unfolding start_answer_on start_state_on
  start_unfit l o b = rw (eq-eqb (length state) 858 l, o, b) (refl, refl)

  pub start_is : no_start kind count ≡ false → {c : Card} → Ok c ≡ told (start_of kind count e₀ e₁) → c ≡ (start_of kind count e₀ e₁).card
  start_is o {c} e = let same : ◌≡◌ {A = Result Card Refusal} (Ok c) (Ok (start_of kind count e₀ e₁).card) = e ∙ begun kind count e₀ e₁ o in cc

  pub start_not : no_start kind count ≡ false → {r : Refusal} → Err r ≡ told (start_of kind count e₀ e₁) → ⊥
  start_not o {r} e = let same : Err r ≡ Ok (start_of kind count e₀ e₁).card = e ∙ begun kind count e₀ e₁ o in cc

  pub start_done : (out : List ℕ) → length state ≡ 858 → no_start kind count ≡ false → are_epochs kind e₀ e₁ ≡ true → out ≡ put_card (start_of kind count e₀ e₁).card state
      → (0 ≡ start_answer_on kind count e₀ e₁ state) × (out ≡ start_state_on kind count e₀ e₁ state)
  unfolding start_answer_on start_state_on
  start_done out l o b h = rw (eq-eqb (length state) 858 l, o, b) (refl, h)

-- 9 and 1, and behind them
pub record Open (state : List ℕ) (g : ℕ) : Type 0 where
  pub sized : length state ≡ 858
  pub group : g < 2

module _ (state : List ℕ) (g r : ℕ) (e : r ≡ refusal_of (length state) g) where
  pub shut : (r ≡ 0 → ⊥) → (n : ℕ) (new old : List ℕ) → (r ≡ behind state g n) × (old ≡ bytes_behind state g new old)
  unfolding refusal_of
  shut d n new old = go (is_card state) (ltb g 2) e
    where
      go : (b t : Bool) → r ≡ cond b (cond t 0 1) 9 → (r ≡ cond b (cond t n 1) 9) × (old ≡ cond b (cond t new old) old)
      go true true z = absurd (d z)
      go true false z = (z, refl)
      go false t z = (z, refl)

  pub opened : r ≡ 0 → Open state g
  unfolding refusal_of
  opened z = go (is_card state) (ltb g 2) refl refl e
    where
      go : (b t : Bool) → is_card state ≡ b → ltb g 2 ≡ t → r ≡ cond b (cond t 0 1) 9 → Open state g
      go true true eb et w = record { sized = eqb-true (length state) 858 eb; group = ltb-true g 2 et }
      go true false eb et w = absurd (omega arith)
      go false t eb et w = absurd (omega arith)

  pub call_shut : (r ≡ 0 → ⊥) → (fits : Bool) (call : Call) → (r ≡ call_answer_on fits g call state) × (state ≡ call_state_on fits g call state)
  unfolding call_answer_on call_state_on
  call_shut d fits call = shut d _ _ state

  pub packet_shut : (r ≡ 0 → ⊥) → (slot : ℕ) (h4 : List ℕ) → (r ≡ packet_answer_on state g slot h4) × (h4 ≡ packet_bytes_on state g slot h4)
  unfolding packet_answer_on packet_bytes_on
  packet_shut d slot h4 = shut d _ _ h4

  pub payload_shut : (r ≡ 0 → ⊥) → (slot p : ℕ) (frame member : List ℕ) → (r ≡ payload_answer_on state g slot p frame member) × (member ≡ payload_bytes_on state g slot p frame member)
  unfolding payload_answer_on payload_bytes_on
  payload_shut d slot p frame member = shut d _ _ member

  pub shown_shut : (r ≡ 0 → ⊥) → (n : ℕ) (new out : List ℕ) → (r ≡ shown_answer_on n state g out) × (out ≡ shown_bytes_on n state g new out)
  unfolding shown_answer_on shown_bytes_on
  shown_shut d n new out = shut d _ _ out

put_alike : (g : ℕ) (c d : Card) (state : List ℕ) → Alike g c d → put_own g c state ≡ put_own g d state
unfolding put_own
put_alike g c d state a =
    ap (λ (row : List ℕ). fill_at (part_at g) 397 (byte_at (P.sender_of c g)) (fill_at 0 64 (owner_in row) state)) a.owners
    ∙ ap (λ (s : Sender). fill_at (part_at g) 397 (byte_at s) (fill_at 0 64 (owner_in d.owners) state)) a.sender

kept_alike : (g : ℕ) (r q : CardOutcome) (state : List ℕ) → AlikeAfter g r q → kept_card g r state ≡ kept_card g q state
kept_alike g r q state a =
    ap (λ (x : Answer). cond (eqb (answer_number x) 0) (put_own g r.card state) state) a.answer
    ∙ ap (λ (l : List ℕ). cond (eqb (answer_number q.answer) 0) l state) (put_alike g r.card q.card state a.card)

module _ (state : List ℕ) (g : ℕ) (o : Open state g) where
  pub packet_by : (slot : ℕ) (h4 : List ℕ) (owner : ℕ) (part : List ℕ) (r : ℕ) (out : List ℕ) → owner ≡ owner_in (owners_in state) slot → part ≡ part_in g state
      → r ≡ slot_packet_answer owner g (sender_of part) slot h4 → out ≡ slot_packet_bytes owner g (sender_of part) slot h4
      → (r ≡ packet_answer_on state g slot h4) × (out ≡ packet_bytes_on state g slot h4)
  packet_by slot h4 owner part r out eo ep er eb =
      let e = slot_packet state g slot h4 o.sized o.group in
      ((rw (eo, ep) at er) ∙ e.0, (rw (eo, ep) at eb) ∙ e.1)

  pub call_unfit : (fits : Bool) (call : Call) → fits ≡ false → (8 ≡ call_answer_on fits g call state) × (state ≡ call_state_on fits g call state)
  unfolding call_answer_on call_state_on
  call_unfit fits call f = rw (eq-eqb (length state) 858 o.sized, lt-ltb g 2 o.group, f) (refl, refl)

  module _ (c : Card) (ec : c ≡ alone g (card_of state)) where
    alike : Alike g c (card_of state)
    alike = rw ec (alone_alike g (card_of state))

    pub call_kept : (fits : Bool) (call : Call) (t : Result Card Refusal) (r : ℕ) (out : List ℕ) → fits ≡ true → t ≡ told (outcome_of c g call)
        → (r ≡ number_told refusal_number t) × (out ≡ told_card g t state)
        → (r ≡ call_answer_on fits g call state) × (out ≡ call_state_on fits g call state)
    unfolding call_answer_on call_state_on
    call_kept fits call t r out f es k =
        let outcome : CardOutcome = outcome_of c g call in
        let a : AlikeAfter g outcome (outcome_of (card_of state) g call) = alike_call g c (card_of state) alike call in
        rw (eq-eqb (length state) 858 o.sized, lt-ltb g 2 o.group, f) (
          k.0 ∙ ap (number_told refusal_number) es ∙ told_number outcome.answer outcome.card ∙ ap answer_number a.answer,
          k.1 ∙ ap (λ (x : Result Card Refusal). told_card g x state) es ∙ kept_told g outcome.answer outcome.card state ∙ kept_alike g outcome (outcome_of (card_of state) g call) state a,
        )

    pub payload_own : (slot p : ℕ) (frame member : List ℕ) (x : Result (Unit {0}) Refusal) (r : ℕ) (out : List ℕ) → x ≡ only_told (payload_answer c g slot p (length frame) (length member))
        → out ≡ payload_bytes c g slot p frame member → r ≡ number_told refusal_number x
        → (r ≡ payload_answer_on state g slot p frame member) × (out ≡ payload_bytes_on state g slot p frame member)
    unfolding payload_answer_on payload_bytes_on
    payload_own slot p frame member x r out ex eo er =
        let a = alike_payload g c (card_of state) alike slot p (length frame) (length member) frame member in
        rw (eq-eqb (length state) 858 o.sized, lt-ltb g 2 o.group) (er ∙ ap (number_told refusal_number) ex ∙ told_number _ tt ∙ ap answer_number a.0, eo ∙ a.1)

    pub board_own : {y : Board} → Ok y ≡ board_told (board_shown c g) → board_bytes_of y ≡ board_bytes_of (board_shown (card_of state) g).board
    unfolding board_shown
    board_own e = ap board_bytes_of (shown_is g _ o.group e) ∙ ap (λ (s : Sender). board_bytes_of (board_of s.table)) (alike_shown g c (card_of state) alike)

    pub board_not : {r : Refusal} → Err r ≡ board_told (board_shown c g) → ⊥
    unfolding board_shown
    board_not e = shown_not g _ o.group e

    pub outgoing_own : {y : Board} → Ok y ≡ board_told (outgoing_shown c g) → board_bytes_of y ≡ board_bytes_of (outgoing_shown (card_of state) g).board
    unfolding outgoing_shown
    outgoing_own e = ap board_bytes_of (shown_is g _ o.group e) ∙ ap (λ (s : Sender). board_bytes_of s.outgoing) (alike_shown g c (card_of state) alike)

    pub outgoing_not : {r : Refusal} → Err r ≡ board_told (outgoing_shown c g) → ⊥
    unfolding outgoing_shown
    outgoing_not e = shown_not g _ o.group e

    pub ranks_own : {y : Ranks} → Ok y ≡ ranks_told (ranks_shown c g) → ranks_bytes_of y ≡ ranks_bytes_of (ranks_shown (card_of state) g).ranks
    unfolding ranks_shown
    ranks_own e = ap ranks_bytes_of (shown_is g _ o.group e) ∙ ap (λ (s : Sender). ranks_bytes_of (ranks_of s)) (alike_shown g c (card_of state) alike)

    pub ranks_not : {r : Refusal} → Err r ≡ ranks_told (ranks_shown c g) → ⊥
    unfolding ranks_shown
    ranks_not e = shown_not g _ o.group e

    pub owned_own : {y : List ℕ} → Ok y ≡ owned_told (owned_shown c g) → y ≡ (owned_shown (card_of state) g).owned
    unfolding owned_shown
    owned_own e = shown_is g _ o.group e ∙ ap (λ (d : Card). (owned_shown d g).owned) ec

    pub owned_not : {r : Refusal} → Err r ≡ owned_told (owned_shown c g) → ⊥
    unfolding owned_shown
    owned_not e = shown_not g _ o.group e

  pub shown_room : (n : ℕ) (new out : List ℕ) → (length out ≡ n → ⊥) → (9 ≡ shown_answer_on n state g out) × (out ≡ shown_bytes_on n state g new out)
  unfolding shown_answer_on shown_bytes_on
  shown_room n new out d = rw (eq-eqb (length state) 858 o.sized, lt-ltb g 2 o.group, ne_eqb (length out) n d) (refl, refl)

  pub shown_done : (n : ℕ) (new out left : List ℕ) → length out ≡ n → left ≡ new → (0 ≡ shown_answer_on n state g out) × (left ≡ shown_bytes_on n state g new out)
  unfolding shown_answer_on shown_bytes_on
  shown_done n new out left m e = rw (eq-eqb (length state) 858 o.sized, lt-ltb g 2 o.group, eq-eqb (length out) n m) (refl, e)
