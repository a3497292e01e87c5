-- Each way out of the calls that tell the changes of the board going out, as the definitions have it.
use mathlib.Core.Path.{◌≡◌, refl, sym, ◌∙◌, ap}
use mathlib.Core.List.{List}
use Prim.Native.Nat.{ℕ}
use native.Mathlib.Omega.{arith}
use lib.ListN.{length}
use borrow.Author.Tests.{eq-eqb, lt-ltb, ne_eqb}
use Rattle.cards.specs.Parts as P
use Rattle.cards.specs.Readings.{outgoing_shown}
use Rattle.sender.specs.declared.board.Board.{Board}
use Rattle.sender.specs.declared.epochs.Sender.{Sender}
use Rattle.spoken.specs.Changes.{answer_number, compared_of}
use Rattle.spoken.specs.Answers.{Compared}
use Rattle.spoken.specs.Taking.{taken_of}
use Rattle.c_face.specs.Boards.{board_bytes_of}
use Rattle.c_cards.specs.Cards.{card_of, part_in, refusal_of}
use Rattle.c_cards.specs.Changes.{board_from, changes_bytes_of}
use Rattle.c_cards.specs.Going.{changes_answer_c, changes_answer_on, changes_bytes_c, changes_bytes_on, changes_told_c, changes_told_on, going_answer, going_changes, going_told}
use Rattle.c_face.specs.Keeping.{sender_of}
use Rattle.c_cards.specs.Theorems.CardRuns.{part_of}
use Rattle.c_cards.proofs.TwoGroups.{Open, shut}

module _ (going : Board) (told changes : List ℕ) where
  abbrev pub Tells : ℕ → List ℕ → List ℕ → Type 0
  Tells n left list = (n ≡ going_answer going told changes) × (left ≡ going_told going told changes) × (list ≡ going_changes going told changes)

  tell_kept : (n : ℕ) → going_answer going told changes ≡ n → (n ≡ 0 → ⊥) → Tells n told changes
  unfolding going_told going_changes
  tell_kept n e d = (sym e, rw (e, ne_eqb n 0 d) refl, rw (e, ne_eqb n 0 d) refl)

  pub tell_first : (length told ≡ 130 → ⊥) → Tells 9 told changes
  unfolding going_answer
  tell_first d = tell_kept 9 (rw (ne_eqb (length told) 130 d)) (λ z. omega arith)

  pub tell_second : length told ≡ 130 → (length changes ≡ 322 → ⊥) → Tells 9 told changes
  unfolding going_answer
  tell_second l d = tell_kept 9 (rw (eq-eqb (length told) 130 l, ne_eqb (length changes) 322 d)) (λ z. omega arith)

  module _ (l : length told ≡ 130) (m : length changes ≡ 322) (r : Compared) (e : r ≡ compared_of (board_from told) going) (n : ℕ) (en : n ≡ answer_number r.answer) where
    tell_own : going_answer going told changes ≡ n
    unfolding going_answer
    tell_own = rw (eq-eqb (length told) 130 l, eq-eqb (length changes) 322 m) (sym (en ∙ ap (λ (q : Compared). answer_number q.answer) e))

    pub tell_refusal : (n ≡ 0 → ⊥) → Tells n told changes
    tell_refusal d = tell_kept n tell_own d

    pub tell_done : (left list : List ℕ) → n ≡ 0 → left ≡ board_bytes_of going → list ≡ changes_bytes_of r.changes → Tells 0 left list
    unfolding going_told going_changes
    tell_done left list z eb ec = (sym (tell_own ∙ z), rw (tell_own, z) eb, rw (tell_own, z) (ec ∙ ap (λ (q : Compared). changes_bytes_of q.changes) e))

-- of a sender
module _ (state told changes : List ℕ) where
  abbrev pub SenderTells : ℕ → List ℕ → List ℕ → Type 0
  SenderTells n left list = (n ≡ changes_answer_c state told changes) × (left ≡ changes_told_c state told changes) × (list ≡ changes_bytes_c state told changes)

  pub sender_shut : (length state ≡ 397 → ⊥) → SenderTells 9 told changes
  unfolding changes_answer_c changes_told_c changes_bytes_c
  sender_shut d = rw (ne_eqb (length state) 397 d) (refl, refl, refl)

  pub sender_tells : length state ≡ 397 → (s : Sender) (going : Board) (n : ℕ) (left list : List ℕ) → s ≡ sender_of state → going ≡ taken_of s → Tells going told changes n left list → SenderTells n left list
  unfolding changes_answer_c changes_told_c changes_bytes_c
  sender_tells l s going n left list es eg t =
      let e : going ≡ taken_of (sender_of state) = eg ∙ ap taken_of es in rw (eq-eqb (length state) 397 l, ← e) t

-- of a card's group
module _ (state : List ℕ) (g : ℕ) (told changes : List ℕ) where
  abbrev pub CardTells : ℕ → List ℕ → List ℕ → Type 0
  CardTells n left list = (n ≡ changes_answer_on state g told changes) × (left ≡ changes_told_on state g told changes) × (list ≡ changes_bytes_on state g told changes)

  pub card_shut : (r : ℕ) → r ≡ refusal_of (length state) g → (r ≡ 0 → ⊥) → CardTells r told changes
  unfolding changes_answer_on changes_told_on changes_bytes_on
  card_shut r e d =
      let a = shut state g r e d (going_answer (outgoing_shown (card_of state) g).board told changes) (going_told (outgoing_shown (card_of state) g).board told changes) told in
      let b = shut state g r e d (going_answer (outgoing_shown (card_of state) g).board told changes) (going_changes (outgoing_shown (card_of state) g).board told changes) changes in
      (a.0, a.1, b.1)

  going_is : Open state g → (outgoing_shown (card_of state) g).board ≡ taken_of (sender_of (part_in g state))
  unfolding outgoing_shown P.shown_sender
  going_is o = rw (lt-ltb g 2 o.group) (ap taken_of (part_of g state))

  pub card_tells : Open state g → (s : Sender) (going : Board) (n : ℕ) (left list : List ℕ) → s ≡ sender_of (part_in g state) → going ≡ taken_of s → Tells going told changes n left list → CardTells n left list
  unfolding changes_answer_on changes_told_on changes_bytes_on
  card_tells o s going n left list es eg t =
      let e : going ≡ (outgoing_shown (card_of state) g).board = eg ∙ ap taken_of es ∙ sym (going_is o) in
      rw (eq-eqb (length state) 858 o.sized, lt-ltb g 2 o.group, ← e) t
