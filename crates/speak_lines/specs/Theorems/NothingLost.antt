-- What the code gives says all that the definitions do: nothing of a refused call is lost.
use Rattle.std.specs.Prelude.{◌≡◌, Bool, true, false, List, ℕ, length, nat_lt, refl}
use Rattle.ground.specs.Refusals.{number_told}
use Rattle.session_lines.specs.Consoles.{refusal_number}
use Rattle.spoken.specs.Speaking.{SPEECH-ROOM}
use Rattle.speak_lines.specs.declared.listening.Listener.{Listener}
use Rattle.speak_lines.specs.Listening.{feed_of, finish_of, heard_back, told}

module _ (l : Listener) (out : List ℕ) where
  pub heard_whole : (input : List ℕ) → heard_back l (told (feed_of l input out)) ≡ feed_of l input out
  unfolding feed_of
  heard_whole input = go (nat_lt (length out) SPEECH-ROOM) refl
    where
      go : (b : Bool) → nat_lt (length out) SPEECH-ROOM ≡ b → heard_back l (told (feed_of l input out)) ≡ feed_of l input out
      go true h = rw h
      go false h = rw h

  pub ended_whole : heard_back l (told (finish_of l out)) ≡ finish_of l out
  unfolding finish_of
  ended_whole = go (nat_lt (length out) SPEECH-ROOM) refl
    where
      go : (b : Bool) → nat_lt (length out) SPEECH-ROOM ≡ b → heard_back l (told (finish_of l out)) ≡ finish_of l out
      go true h = rw h
      go false h = rw h

-- and 01's number is the same
module _ (l : Listener) (out : List ℕ) where
  pub heard_number : (input : List ℕ) → number_told refusal_number (told (feed_of l input out)) ≡ (feed_of l input out).answer
  unfolding feed_of
  heard_number input = go (nat_lt (length out) SPEECH-ROOM) refl
    where
      go : (b : Bool) → nat_lt (length out) SPEECH-ROOM ≡ b → number_told refusal_number (told (feed_of l input out)) ≡ (feed_of l input out).answer
      go true h = rw h
      go false h = rw h

  pub ended_number : number_told refusal_number (told (finish_of l out)) ≡ (finish_of l out).answer
  unfolding finish_of
  ended_number = go (nat_lt (length out) SPEECH-ROOM) refl
    where
      go : (b : Bool) → nat_lt (length out) SPEECH-ROOM ≡ b → number_told refusal_number (told (finish_of l out)) ≡ (finish_of l out).answer
      go true h = rw h
      go false h = rw h
