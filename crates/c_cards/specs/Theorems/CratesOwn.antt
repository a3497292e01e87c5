-- Each C call is the crate's own function: the same answer, by its number, and the same lent bytes.
use Rattle.std.specs.Prelude.{◌≡◌, Bool, ◌&&◌, ◌||◌, List, [], ◌∷◌, ℕ, ◌<◌, eqb, ltb, length}
use Rattle.std.proofs.Math.Path.{refl}
use Rattle.std.proofs.Common.{sym}
use Rattle.std.proofs.Math.Bool.{true, false, cond}
use borrow.Author.Tests.{eq-eqb, eqb-true, lt-ltb}
use Rattle.ground.specs.Flags.{one_if}
use Rattle.cards.specs.Answers.{answer_number as card_number, from_sender}
use Rattle.cards.specs.Calls.{Call, outcome_of}
use Rattle.cards.specs.Commands.{start_of as card_start}
use Rattle.cards.specs.Readings as card
use Rattle.paths.specs.Answers.{answer_of}
use Rattle.paths.specs.Answers.{number_of as plan_number}
use Rattle.paths.specs.Checking.{checked_of}
use Rattle.paths.specs.Planning.{plan_of}
use Rattle.sender.specs.Commands.{answered, fresh_of, start_of}
use Rattle.sender.specs.Answers.Answer.{Done, OutOfRange}
use Rattle.sender.specs.Answers.{Outcome}
use Rattle.sender.specs.Epochs.{begin_of}
use Rattle.c_face.specs.Boards.{board_bytes_of, ranks_bytes_of}
use Rattle.c_cards.specs.Cards.{are_epochs, board_bytes_on, call_answer_on, call_state_on, card_of, is_card, kept_card, outgoing_bytes_on, owned_bytes_on, packet_answer_on, packet_bytes_on, payload_answer_on, payload_bytes_on, put_card, ranks_bytes_on, shown_answer_on, shown_bytes_on, start_answer_on, start_state_on}
use Rattle.c_cards.specs.Plans.{check_answer_c, check_byte_c, lent_answer, lent_bytes, plan_answer_c, plan_bytes_c, plan_bytes_of}
use Rattle.c_face.specs.Senders.{H4, no_start, outside, sends}
use Rattle.c_face.specs.Theorems.CratesOwn.{h4_epochs, h4_sent}

-- levelspruce_paths_plan and levelspruce_paths_check are paths::plan and paths::check, with room for their result
lent_own : (number size : ℕ) (new out : List ℕ) → length out ≡ size → (lent_answer number size out ≡ number) × (number ≡ 0 → lent_bytes number size new out ≡ new)
unfolding lent_answer lent_bytes
lent_own number size new out h = rw (eq-eqb (length out) size h) (go (eqb number 0) refl, λ z. rw (eq-eqb number 0 z) refl)
  where
    go : (b : Bool) → eqb number 0 ≡ b → cond b 0 number ≡ number
    go true e = sym (eqb-true number 0 e)
    go false e = refl

pub plan_own : (delays : List ℕ) (k W : ℕ) (out : List ℕ) → length out ≡ 65
    → (plan_answer_c delays k W out ≡ plan_number (plan_of delays k W).answer)
    × (plan_number (plan_of delays k W).answer ≡ 0 → plan_bytes_c delays k W out ≡ plan_bytes_of (plan_of delays k W))
unfolding plan_of
plan_own delays k W out h = lent_own (plan_number (answer_of delays k W)) 65 (plan_bytes_of (plan_of delays k W)) out h

pub check_own : (delays : List ℕ) (k W : ℕ) (set out : List ℕ) → length out ≡ 1
    → (check_answer_c delays k W out ≡ plan_number (checked_of delays k W set).answer)
    × (plan_number (checked_of delays k W set).answer ≡ 0 → check_byte_c delays k W set out ≡ one_if (checked_of delays k W set).accepted ∷ [])
unfolding checked_of
check_own delays k W set out h = lent_own (plan_number (answer_of delays k W)) 1 (one_if (checked_of delays k W set).accepted ∷ []) out h

-- levelspruce_card_start_as is Card::start of a kind that has senders, where the state has its length and the first epochs are such of the kind. Empty groups are of H4, and their first epochs have the number 0.
module _ (kind count e₀ e₁ : ℕ) (state : List ℕ) (sized : length state ≡ 858) where
  pub card_start_own : sends kind ≡ true → are_epochs kind e₀ e₁ ≡ true → start_answer_on kind count e₀ e₁ state ≡ card_number (card_start kind count e₀ e₁).answer
  unfolding start_answer_on card_start begin_of start_of
  card_start_own s f = rw (eq-eqb (length state) 858 sized, s, f) (go (outside count))
    where
      go : (b : Bool) → cond (b || false) 4 0 ≡ card_number (from_sender (cond {A = Outcome} b (answered (fresh_of kind 0) OutOfRange) (answered (fresh_of kind count) Done)).answer)
      go true = refl
      go false = refl

  pub card_start_state_own : no_start kind count ≡ false → are_epochs kind e₀ e₁ ≡ true → start_state_on kind count e₀ e₁ state ≡ put_card (card_start kind count e₀ e₁).card state
  unfolding start_state_on
  card_start_state_own o f = rw (eq-eqb (length state) 858 sized, o, f) refl

  pub card_start_empty_own : no_start kind count ≡ true → start_state_on kind count e₀ e₁ state ≡ put_card (card_start 0 0 0 0).card state
  unfolding start_state_on
  card_start_empty_own o = rw (eq-eqb (length state) 858 sized, o) refl

-- levelspruce_card_start is levelspruce_card_start_as with the kind H4, as the sender's is
pub card_start_as_h4 : (count e₀ e₁ : ℕ) (state : List ℕ)
    → (start_answer_on H4 count e₀ e₁ state ≡ cond (outside count) 4 (cond (is_card state) (cond (ltb e₀ 256 && ltb e₁ 256) 0 8) 9))
    × (start_state_on H4 count e₀ e₁ state
    ≡ cond (is_card state) (cond (outside count) (put_card (card_start H4 count 0 0).card state) (cond (ltb e₀ 256 && ltb e₁ 256) (put_card (card_start H4 count e₀ e₁).card state) state)) state)
unfolding start_answer_on start_state_on card_start begin_of start_of
card_start_as_h4 count e₀ e₁ state = rw (h4_sent, h4_epochs) (go (outside count) refl)
  where
    go : (b : Bool) → outside count ≡ b
        → (◌≡◌ {A = ℕ} (cond (outside count || false) 4 (cond (is_card state) (cond (ltb e₀ 256 && ltb e₁ 256) 0 8) 9)) (cond (outside count) 4 (cond (is_card state) (cond (ltb e₀ 256 && ltb e₁ 256) 0 8) 9)))
        × (cond (is_card state) (cond (outside count || false) (put_card (card_start 0 0 0 0).card state) (cond (ltb e₀ 256 && ltb e₁ 256) (put_card (card_start H4 count e₀ e₁).card state) state)) state
        ≡ cond (is_card state) (cond (outside count) (put_card (card_start H4 count 0 0).card state) (cond (ltb e₀ 256 && ltb e₁ 256) (put_card (card_start H4 count e₀ e₁).card state) state)) state)
    go true e = rw e (refl, refl)
    go false e = rw e (refl, refl)

-- the other calls of a card are the card's own on the card in the state, for either group
module _ (state : List ℕ) (g : ℕ) (sized : length state ≡ 858) (group : g < 2) where
  pub card_call_own : (call : Call)
      → (call_answer_on true g call state ≡ card_number (outcome_of (card_of state) g call).answer) × (call_state_on true g call state ≡ kept_card g (outcome_of (card_of state) g call) state)
  unfolding call_answer_on call_state_on
  card_call_own call = rw (eq-eqb (length state) 858 sized, lt-ltb g 2 group) (refl, refl)

  pub card_packet_own : (slot : ℕ) (h4 : List ℕ)
      → (packet_answer_on state g slot h4 ≡ card_number (card.packet_answer (card_of state) g slot h4)) × (packet_bytes_on state g slot h4 ≡ card.packet_bytes (card_of state) g slot h4)
  unfolding packet_answer_on packet_bytes_on
  card_packet_own slot h4 = rw (eq-eqb (length state) 858 sized, lt-ltb g 2 group) (refl, refl)

  pub card_payload_own : (slot P : ℕ) (frame member : List ℕ)
      → (payload_answer_on state g slot P frame member ≡ card_number (card.payload_answer (card_of state) g slot P (length frame) (length member)))
      × (payload_bytes_on state g slot P frame member ≡ card.payload_bytes (card_of state) g slot P frame member)
  unfolding payload_answer_on payload_bytes_on
  card_payload_own slot P frame member = rw (eq-eqb (length state) 858 sized, lt-ltb g 2 group) (refl, refl)

  pub card_board_own : (board : List ℕ) → length board ≡ 130
      → (shown_answer_on 130 state g board ≡ 0)
      × (board_bytes_on state g board ≡ board_bytes_of (card.board_shown (card_of state) g).board)
      × (outgoing_bytes_on state g board ≡ board_bytes_of (card.outgoing_shown (card_of state) g).board)
  unfolding shown_answer_on shown_bytes_on
  card_board_own board l = rw (eq-eqb (length state) 858 sized, lt-ltb g 2 group, eq-eqb (length board) 130 l) (refl, refl, refl)

  pub card_ranks_own : (ranks : List ℕ) → length ranks ≡ 68
      → (shown_answer_on 68 state g ranks ≡ 0) × (ranks_bytes_on state g ranks ≡ ranks_bytes_of (card.ranks_shown (card_of state) g).ranks)
  unfolding shown_answer_on shown_bytes_on
  card_ranks_own ranks l = rw (eq-eqb (length state) 858 sized, lt-ltb g 2 group, eq-eqb (length ranks) 68 l) (refl, refl)

  pub card_owned_own : (owned : List ℕ) → length owned ≡ 64
      → (shown_answer_on 64 state g owned ≡ 0) × (owned_bytes_on state g owned ≡ (card.owned_shown (card_of state) g).owned)
  unfolding shown_answer_on shown_bytes_on
  card_owned_own owned l = rw (eq-eqb (length state) 858 sized, lt-ltb g 2 group, eq-eqb (length owned) 64 l) (refl, refl)
