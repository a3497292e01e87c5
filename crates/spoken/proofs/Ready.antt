-- A text spoken, be it of changes or of a whole board: refused, or put at the front of a buffer with room.
use Rattle.std.specs.Prelude.{◌≡◌, Bool, true, false, List, [], ◌++◌, ℕ, ◌+◌, ◌≤◌, drop, length, refl, Result, Ok, Err, if◌then◌else◌}
use Rattle.std.proofs.Common.{◌∙◌, arith, ltb-false}
use Rattle.std.proofs.Math.Dec.{ltb}
use Rattle.std.proofs.Math.Seq.{sets-eq}
use Rattle.text.specs.Output.{Put}
use Rattle.spoken.specs.Answers.{Answer, Speech, told_by, told_length}
use Rattle.spoken.specs.Answers.Answer.{Done, Unfit, Length}
use Rattle.spoken.specs.declared.lists.Refusal.{Refusal}
use Rattle.spoken.specs.declared.lists.Refusal.TheVariants as R
use Rattle.spoken.specs.Speaking.{SPEECH-ROOM, spoken_answer}

module _ (can : Bool) (text out : List ℕ) where
  abbrev pub is_told : Bool → Bool
  is_told short = if short then false else can

  abbrev pub answer_at : Bool → Answer
  answer_at short = if short then Length else if can then Done else Unfit

  abbrev pub speech_at : Bool → Speech
  speech_at short = record { answer = answer_at short; written = if is_told short then length text else 0 }

  abbrev pub bytes_at : Bool → List ℕ
  bytes_at short = if is_told short then text ++ drop (length text) out else out

  abbrev pub short : Bool
  short = ltb (length out) SPEECH-ROOM

-- what is known where it was asked whether the buffer has room
abbrev pub Asked : (out : List ℕ) (r : Result (Unit {0}) Refusal) → Type 0
Asked out r = r ≡ told_by {T = Unit {0}} (spoken_answer true out) tt

no_room_at : (can : Bool) (text out : List ℕ) (s : Bool) (refusal : Refusal) → Err refusal ≡ told_by {T = Unit {0}} (answer_at true text out s) tt
    → (Err refusal ≡ told_length (speech_at can text out s)) × (out ≡ bytes_at can text out s)
no_room_at can text out true refusal e = (cc, refl)
no_room_at can text out false refusal e = cc

room_at : (text out : List ℕ) (s : Bool) → Ok tt ≡ told_by {T = Unit {0}} (answer_at true text out s) tt → s ≡ false
room_at text out true e = cc
room_at text out false e = refl

pub is_ready : (out : List ℕ) → Asked out (Ok tt) → SPEECH-ROOM ≤ length out
is_ready out f = ltb-false (length out) SPEECH-ROOM (room_at [] out (short true [] out) f)

module _ (can : Bool) (text out : List ℕ) where
  pub is_refused : (refusal : Refusal) → Asked out (Err refusal)
      → (Err refusal ≡ told_length (speech_at can text out (short can text out))) × (out ≡ bytes_at can text out (short can text out))
  is_refused refusal f = no_room_at can text out (short can text out) refusal f

  -- what cannot be said, where there is room
  pub is_unfit : Asked out (Ok tt) → can ≡ false → (Err R.Unfit ≡ told_length (speech_at can text out (short can text out))) × (out ≡ bytes_at can text out (short can text out))
  is_unfit f e = rw (room_at text out (short can text out) f, e) (refl, refl)

  pub is_done : (written : ℕ) (new : List ℕ) → Asked out (Ok tt) → can ≡ true → Put text 0 out written new → length text ≤ length out
      → (Ok written ≡ told_length (speech_at can text out (short can text out))) × (new ≡ bytes_at can text out (short can text out))
  is_done written new f e p l =
      let w : written ≡ length text = p.behind ∙ (omega arith) in
      let z : 0 + length text ≡ length text = omega arith in
      let n : new ≡ text ++ drop (length text) out = p.bytes ∙ sets-eq text out 0 (omega arith) ∙ rw z in
      rw (room_at text out (short can text out) f, e) (rw w, n)
