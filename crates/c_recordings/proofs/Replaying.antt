-- Each way out of the replay's C calls, as the definitions have it.
use mathlib.Core.Path.{◌≡◌, refl, ◌∙◌, sym, ap}
use mathlib.Core.Bool.{Bool}
use mathlib.Core.List.{List}
use Prim.Native.Nat.{ℕ, ◌≤◌, ◌<◌}
use lib.ListN.{drop, get_or, length}
use borrow.Author.Tests.{eq-eqb, le-leb, lt-leb, ne_eqb}
use Rattle.ground.specs.Drawn.{fill_at, fill_at_all}
use Rattle.ground.specs.Flags.{one_if}
use Rattle.replay_lines.specs.declared.lengths.Lengths.{Lengths}
use Rattle.replay_lines.specs.declared.replay.Replay.{Replay}
use Rattle.replay_lines.specs.declared.turns.Replayed.{Replayed}
use Rattle.replay_lines.specs.Lengths.{lengths_of}
use Rattle.replay_lines.specs.Replay.{beginning}
use Rattle.replay_lines.specs.Turn.{placed, turn_of, turn_out, turn_rows, turn_said, turn_store}
use Rattle.c_recordings.specs.Replays.{begin_answer_c, begin_state_c, bytes_of, last_c, lengths_answer_c, out_length_c, replay_of, store_length_c, turn_answer_c, turn_at_c, turn_c, turn_out_c, turn_rows_c, turn_said_c, turn_state_c, turn_store_c, turn_wants_c, turn_written_c}

-- a state written whole
pub put_all : (r : Replay) (bytes d out : List ℕ) → length d ≡ 17 → bytes ≡ bytes_of r → out ≡ fill_at 0 (length bytes) (λ k. get_or bytes k 0) d → out ≡ bytes_of r
unfolding bytes_of
put_all r bytes d out l e o = o ∙ ap (λ (b : List ℕ). fill_at 0 (length b) (λ k. get_or b k 0) d) e ∙ fill_at_all 17 (λ k. get_or (bytes_of r) k 0) d l

module _ (recording : List ℕ) (l : Lengths) (e : l ≡ lengths_of recording) (s o : ℕ) where
  pub lengths_refused : (l.answer ≡ 0 → ⊥) → (l.answer ≡ lengths_answer_c recording) × (s ≡ store_length_c recording s) × (o ≡ out_length_c recording o)
  unfolding store_length_c out_length_c
  lengths_refused z =
      let a = ap (λ (x : Lengths). x.answer) e in
      let f = ne_eqb (lengths_of recording).answer 0 (λ (y : (lengths_of recording).answer ≡ 0). z (a ∙ y)) in
      (a, rw f refl, rw f refl)

  pub lengths_done : l.answer ≡ 0 → (0 ≡ lengths_answer_c recording) × (l.store ≡ store_length_c recording s) × (l.out ≡ out_length_c recording o)
  unfolding store_length_c out_length_c
  lengths_done z =
      let a : (lengths_of recording).answer ≡ 0 = sym (ap (λ (x : Lengths). x.answer) e) ∙ z in
      let f = eq-eqb (lengths_of recording).answer 0 a in
      (sym a, rw f (ap (λ (x : Lengths). x.store) e), rw f (ap (λ (x : Lengths). x.out) e))

module _ (state : List ℕ) where
  pub begin_refused : (length state ≡ 17 → ⊥) → (9 ≡ begin_answer_c state) × (state ≡ begin_state_c state)
  unfolding begin_answer_c begin_state_c
  begin_refused d = rw (ne_eqb (length state) 17 d) (refl, refl)

  pub begin_done : (r : Replay) (after : List ℕ) → length state ≡ 17 → r ≡ beginning → after ≡ bytes_of r → (0 ≡ begin_answer_c state) × (after ≡ begin_state_c state)
  unfolding begin_answer_c begin_state_c
  begin_done r after l e h = rw (eq-eqb (length state) 17 l) (refl, h ∙ ap bytes_of e)

module _ (state text : List ℕ) (at last : ℕ) (rows : List (List ℕ)) (store out said : List ℕ) (written wants : ℕ) where
  -- what a turn for C is to leave
  abbrev pub Left : (answer : ℕ) (state' : List ℕ) (at' : ℕ) (rows' : List (List ℕ)) (store' out' said' : List ℕ) (written' wants' : ℕ) → Type 0
  Left answer state' at' rows' store' out' said' written' wants' =
      (answer ≡ turn_answer_c state text at last rows store out (length said))
      × (state' ≡ turn_state_c state text at last rows store out (length said))
      × (at' ≡ turn_at_c state text at last rows store out (length said))
      × (rows' ≡ turn_rows_c state text at last rows store out (length said))
      × (store' ≡ turn_store_c state text at last rows store out (length said))
      × (out' ≡ turn_out_c state text at last rows store out (length said))
      × (said' ≡ turn_said_c state text at last rows store out said)
      × (written' ≡ turn_written_c state text at last rows store out (length said) written)
      × (wants' ≡ turn_wants_c state text at last rows store out (length said) wants)

  pub turn_length : (length state ≡ 17 → ⊥) → Left 9 state at rows store out said written wants
  unfolding turn_answer_c turn_state_c turn_at_c turn_rows_c turn_store_c turn_out_c turn_said_c turn_written_c turn_wants_c
  turn_length d = rw (ne_eqb (length state) 17 d) (refl, refl, refl, refl, refl, refl, refl, refl, refl)

  pub turn_place : length state ≡ 17 → length text < at → Left 9 state at rows store out said written wants
  unfolding turn_answer_c turn_state_c turn_at_c turn_rows_c turn_store_c turn_out_c turn_said_c turn_written_c turn_wants_c
  turn_place l h = rw (eq-eqb (length state) 17 l, lt-leb at (length text) h) (refl, refl, refl, refl, refl, refl, refl, refl, refl)

  -- the crate's own turn, and what it left
  module _ (l : length state ≡ 17) (h : at ≤ length text) (r : Replay) (ended : Bool) (er : r ≡ replay_of state) (ee : ended ≡ last_c last) (t : Replayed)
      (rows' : List (List ℕ)) (store' out' said' : List ℕ)
      (own : (t ≡ placed at (turn_of r (drop at text) ended rows store out (length said)))
      × (rows' ≡ turn_rows r (drop at text) ended rows store out (length said))
      × (store' ≡ turn_store r (drop at text) ended rows store out (length said))
      × (out' ≡ turn_out r rows store out (length said))
      × (said' ≡ turn_said r (drop at text) ended rows store out said)) where
    e : t ≡ placed at (turn_c state text at last rows store out (length said))
    e = rw (er, ee) at own.0

    answer_is : t.answer ≡ (turn_c state text at last rows store out (length said)).answer
    unfolding placed
    answer_is = ap (λ (x : Replayed). x.answer) e

    pub turn_refused : (t.answer ≡ 0 → ⊥) → Left t.answer state at rows' store' out' said' written wants
    unfolding turn_answer_c turn_state_c turn_at_c turn_rows_c turn_store_c turn_out_c turn_said_c turn_written_c turn_wants_c
    turn_refused z =
        let f = ne_eqb (turn_c state text at last rows store out (length said)).answer 0 (λ y. z (answer_is ∙ y)) in
        rw (eq-eqb (length state) 17 l, le-leb at (length text) h, f)
        (answer_is, refl, refl, rw (er, ee) at own.1, rw (er, ee) at own.2, rw er at own.3, rw (er, ee) at own.4, refl, refl)

    pub turn_done : (wanted : ℕ) (after : List ℕ) → t.answer ≡ 0 → after ≡ bytes_of t.replay → wanted ≡ one_if t.wants
        → Left 0 after t.used rows' store' out' said' t.written wanted
    unfolding placed turn_answer_c turn_state_c turn_at_c turn_rows_c turn_store_c turn_out_c turn_said_c turn_written_c turn_wants_c
    turn_done wanted after z a w =
        let y : (turn_c state text at last rows store out (length said)).answer ≡ 0 = sym answer_is ∙ z in
        rw (eq-eqb (length state) 17 l, le-leb at (length text) h, y)
        (refl, a ∙ ap (λ (x : Replayed). bytes_of x.replay) e, ap (λ (x : Replayed). x.used) e, rw (er, ee) at own.1, rw (er, ee) at own.2, rw er at own.3, rw (er, ee) at own.4, ap (λ (x : Replayed). x.written) e, w ∙ ap (λ (x : Replayed). one_if x.wants) e)
