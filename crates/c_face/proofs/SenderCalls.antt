-- Each way out of the sender's C calls, as the definitions have it.
use mathlib.Core.Path.{◌≡◌, refl, ◌∙◌, sym, ap}
use mathlib.Core.Bool.{Bool, true, false, not, ◌&&◌, ◌||◌, true≢false}
use mathlib.Core.List.{List}
use mathlib.Core.Logic.{⊎_elim}
use Prim.Native.Nat.{ℕ, ◌/◌, ◌≤◌, ◌<◌}
use native.Mathlib.Omega.{arith}
use lib.Dec.{eqb, ltb}
use lib.ListN.{length}
use borrow.Author.Tests.{eq-eqb, ne_eqb, ltb-true, not-false}
use Rattle.ground.specs.Truth.{and_left, and_right, le_or_lt}
use Rattle.packet.specs.Laws.Clock.{by}
use Rattle.packet.specs.Laws.Known as Known
use Rattle.packet.specs.Kinds as K
use Rattle.packet.specs.Kinds.{epochs, known_kind}
use Rattle.packet.specs.Theorems.Tags.{epochs_fit}
use Rattle.sender.specs.declared.epochs.Sender.{Sender}
use Rattle.sender.specs.declared.refusals.Refusal.{Refusal}
use Rattle.sender.specs.Answers.{SenderOutcome, Answer, given, only_told, refusal_number, sender_told}
use Rattle.sender.specs.Answers.Answer.{Done, NoSlot, NotAllowed, WaitOpen, OutOfRange, Field, Length}
use Rattle.sender.specs.Commands.{start_of}
use Rattle.sender.specs.Theorems.Told.{told_number}
use Rattle.ground.specs.Refusals.{number_told}
use Rattle.std.specs.Prelude.{Result, Ok}
use Rattle.sender.specs.Epochs.{SenderCall, begin_of, packet_answer, packet_bytes, payload_answer, payload_bytes, sender_outcome_of}
use Rattle.c_face.specs.Keeping.{bytes_of, sender_of}
use Rattle.c_face.specs.Senders.{are_bytes, call_answer_c, call_state_c, is_epoch, kept_bytes, no_start, outside, packet_answer_c, packet_bytes_c, payload_answer_c, payload_bytes_c, sends, start_answer_c, start_state_c, told_bytes}

pub record Three (a b c : ℕ) : Type 0 where
  pub first : a < 256
  pub second : b < 256
  pub third : c < 256

pub three_said : (a b c : ℕ) → are_bytes a b c ≡ true → Three a b c
three_said a b c t =
    let u = and_left (ltb a 256 && ltb b 256) (ltb c 256) t in
    record {
      first = ltb-true a 256 (and_left (ltb a 256) (ltb b 256) u);
      second = ltb-true b 256 (and_right (ltb a 256) (ltb b 256) u);
      third = ltb-true c 256 (and_right (ltb a 256 && ltb b 256) (ltb c 256) t);
    }

-- what a call tells keeps what its outcome does
kept_told : (a : Answer) (s : Sender) (state : List ℕ) → told_bytes (given a s) state ≡ kept_bytes (record { sender = s; answer = a }) state
kept_told Done s state = refl
kept_told NoSlot s state = refl
kept_told NotAllowed s state = refl
kept_told WaitOpen s state = refl
kept_told OutOfRange s state = refl
kept_told Field s state = refl
kept_told Length s state = refl

module _ (state : List ℕ) (fits : Bool) (call : SenderCall) where
  pub call_length : (length state ≡ 397 → ⊥) → (9 ≡ call_answer_c fits call state) × (state ≡ call_state_c fits call state)
  unfolding call_answer_c call_state_c
  call_length d = rw (ne_eqb (length state) 397 d) (refl, refl)

  pub call_unfit : length state ≡ 397 → fits ≡ false → (8 ≡ call_answer_c fits call state) × (state ≡ call_state_c fits call state)
  unfolding call_answer_c call_state_c
  call_unfit l f = rw (eq-eqb (length state) 397 l, f) (refl, refl)

  pub call_kept : (s : Sender) (told : Result Sender Refusal) (r : ℕ) (out : List ℕ) → length state ≡ 397 → fits ≡ true → s ≡ sender_of state
      → told ≡ sender_told (sender_outcome_of s call) → (r ≡ number_told refusal_number told) × (out ≡ told_bytes told state)
      → (r ≡ call_answer_c fits call state) × (out ≡ call_state_c fits call state)
  unfolding call_answer_c call_state_c
  call_kept s told r out l f es e k =
      let o : SenderOutcome = sender_outcome_of s call in
      rw (eq-eqb (length state) 397 l, f, ← es)
      (k.0 ∙ ap (number_told refusal_number) e ∙ told_number o.answer o.sender, k.1 ∙ ap (λ (t : Result Sender Refusal). told_bytes t state) e ∙ kept_told o.answer o.sender state)

-- a number that is no byte is no kind
pub unknown : (kind : ℕ) → 255 < kind → false ≡ sends kind
unfolding sends
unknown kind h = rw (Known.unknown kind h) refl

pub known_sent : (kind : ℕ) (known : Bool) → known ≡ known_kind kind → (known && not (eqb kind 2)) ≡ sends kind
unfolding sends
known_sent kind known e = ap (λ (b : Bool). b && not (eqb kind 2)) e

pub sent_byte : (kind : ℕ) → sends kind ≡ true → kind < 256
sent_byte kind t = ⊎_elim (λ (h : 256 ≤ kind). absurd (true≢false (sym t ∙ sym (unknown kind (omega arith))))) (λ (h : kind < 256). h) (le_or_lt 256 kind)

pub neither_left : (b c : Bool) → (b || c) ≡ false → b ≡ false
neither_left true c h = absurd (true≢false h)
neither_left false c h = refl

-- a start in range is done
begun : (kind count e : ℕ) → no_start kind count ≡ false → sender_told (begin_of kind count e) ≡ Ok (begin_of kind count e).sender
unfolding begin_of start_of
begun kind count e o = rw (neither_left (outside count) (not (sends kind)) o) refl

neither : (b c : Bool) → (b || c) ≡ false → c ≡ false
neither true c h = absurd (true≢false h)
neither false c h = h

-- a start that is not refused with 4 has a kind that is a byte
pub kind_byte : (kind count : ℕ) → no_start kind count ≡ false → kind < 256
kind_byte kind count o = sent_byte kind (not-false (sends kind) (neither (outside count) (not (sends kind)) o))

-- how many epochs a kind has, by how many frames they and it have
pub epochs_by : (kind tags frames : ℕ) → tags ≡ K.tags kind → frames ≡ K.frames kind → tags / frames ≡ epochs kind
epochs_by kind tags frames t f = rw (t, f) (by (λ f e t l. t / f ≡ e) refl refl kind)

pub epoch_byte : (kind e : ℕ) → is_epoch kind e ≡ true → e < 256
epoch_byte kind e t = let l = ltb-true e (epochs kind) t in let m = epochs_fit kind in omega arith

module _ (kind count first : ℕ) (state : List ℕ) where
  pub start_none : (length state ≡ 397 → ⊥) → no_start kind count ≡ true → (4 ≡ start_answer_c kind count first state) × (state ≡ start_state_c kind count first state)
  unfolding start_answer_c start_state_c
  start_none d o = rw (ne_eqb (length state) 397 d, o) (refl, refl)

  pub start_length : (length state ≡ 397 → ⊥) → no_start kind count ≡ false → (9 ≡ start_answer_c kind count first state) × (state ≡ start_state_c kind count first state)
  unfolding start_answer_c start_state_c
  start_length d o = rw (ne_eqb (length state) 397 d, o) (refl, refl)

  pub start_outside : (out : List ℕ) → length state ≡ 397 → no_start kind count ≡ true → out ≡ bytes_of (begin_of 0 0 0).sender
      → (4 ≡ start_answer_c kind count first state) × (out ≡ start_state_c kind count first state)
  unfolding start_answer_c start_state_c
  start_outside out l o h = rw (eq-eqb (length state) 397 l, o) (refl, h)

  pub start_unfit : length state ≡ 397 → no_start kind count ≡ false → is_epoch kind first ≡ false → (8 ≡ start_answer_c kind count first state) × (state ≡ start_state_c kind count first state)
  unfolding start_answer_c start_state_c
  start_unfit l o b = rw (eq-eqb (length state) 397 l, o, b) (refl, refl)

  pub start_done : {told : Result Sender Refusal} (r : ℕ) (out : List ℕ) → length state ≡ 397 → no_start kind count ≡ false → is_epoch kind first ≡ true → told ≡ sender_told (begin_of kind count first)
      → (r ≡ number_told refusal_number told) × (out ≡ told_bytes told state) → (r ≡ start_answer_c kind count first state) × (out ≡ start_state_c kind count first state)
  unfolding start_answer_c start_state_c
  start_done r out l o b e k =
      let t = e ∙ begun kind count first o in
      rw (eq-eqb (length state) 397 l, o, b) (k.0 ∙ ap (number_told refusal_number) t, k.1 ∙ ap (λ (u : Result Sender Refusal). told_bytes u state) t)

module _ (state : List ℕ) (slot : ℕ) (h4 : List ℕ) where
  pub packet_length : (length state ≡ 397 → ⊥) → (9 ≡ packet_answer_c state slot h4) × (h4 ≡ packet_bytes_c state slot h4)
  unfolding packet_answer_c packet_bytes_c
  packet_length d = rw (ne_eqb (length state) 397 d) (refl, refl)

  pub packet_own : (s : Sender) (a : Result (Unit {0}) Refusal) (r : ℕ) (out : List ℕ) → length state ≡ 397 → s ≡ sender_of state
      → a ≡ only_told (packet_answer s slot h4) → out ≡ packet_bytes s slot h4 → r ≡ number_told refusal_number a
      → (r ≡ packet_answer_c state slot h4) × (out ≡ packet_bytes_c state slot h4)
  unfolding packet_answer_c packet_bytes_c
  packet_own s a r out l es ea eo er =
      rw (eq-eqb (length state) 397 l, ← es) (er ∙ ap (number_told refusal_number) ea ∙ told_number (packet_answer s slot h4) tt, eo)

module _ (state : List ℕ) (slot P : ℕ) (frame member : List ℕ) where
  pub payload_length : (length state ≡ 397 → ⊥) → (9 ≡ payload_answer_c state slot P frame member) × (member ≡ payload_bytes_c state slot P frame member)
  unfolding payload_answer_c payload_bytes_c
  payload_length d = rw (ne_eqb (length state) 397 d) (refl, refl)

  pub payload_own : (s : Sender) (a : Result (Unit {0}) Refusal) (r : ℕ) (out : List ℕ) → length state ≡ 397 → s ≡ sender_of state
      → a ≡ only_told (payload_answer s slot P (length frame) (length member)) → out ≡ payload_bytes s slot P frame member → r ≡ number_told refusal_number a
      → (r ≡ payload_answer_c state slot P frame member) × (out ≡ payload_bytes_c state slot P frame member)
  unfolding payload_answer_c payload_bytes_c
  payload_own s a r out l es ea eo er =
      rw (eq-eqb (length state) 397 l, ← es) (er ∙ ap (number_told refusal_number) ea ∙ told_number (payload_answer s slot P (length frame) (length member)) tt, eo)
