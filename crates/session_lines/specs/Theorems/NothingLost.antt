-- What the code gives says all that the definitions do: nothing of a refused call is lost, nor of a line that goes on.
use Rattle.std.specs.Prelude.{◌≡◌, Bool, true, false, List, ℕ, length, nat_lt, refl}
use Rattle.ground.specs.Refusals.{number_told}
use Rattle.session_lines.specs.Consoles.{refusal_number}
use Rattle.session_lines.specs.declared.kept.Kept.{Kept}
use Rattle.session_lines.specs.declared.session.Session.{Session}
use Rattle.session_lines.specs.Gathering as G
use Rattle.session_lines.specs.Gathering.{gathered_back, gathered_of}
use Rattle.session_lines.specs.Laws.Feeding.{used_all}
use Rattle.session_lines.specs.Output.{ROOM}
use Rattle.session_lines.specs.Session.{fed_back, feed_of, finish_of, has_end, told}

module _ (s : Session) (out : List ℕ) where
  pub fed_whole : (input : List ℕ) → fed_back s (told (feed_of s input out)) ≡ feed_of s input out
  unfolding feed_of
  fed_whole input = go (nat_lt (length out) ROOM) refl
    where
      go : (b : Bool) → nat_lt (length out) ROOM ≡ b → fed_back s (told (feed_of s input out)) ≡ feed_of s input out
      go true h = rw h
      go false h = rw h

  pub finished_whole : fed_back s (told (finish_of s out)) ≡ finish_of s out
  unfolding finish_of
  finished_whole = go (nat_lt (length out) ROOM) refl
    where
      go : (b : Bool) → nat_lt (length out) ROOM ≡ b → fed_back s (told (finish_of s out)) ≡ finish_of s out
      go true h = rw h
      go false h = rw h

-- and 01's number is the same
module _ (s : Session) (out : List ℕ) where
  pub fed_number : (input : List ℕ) → number_told refusal_number (told (feed_of s input out)) ≡ (feed_of s input out).answer
  unfolding feed_of
  fed_number input = go (nat_lt (length out) ROOM) refl
    where
      go : (b : Bool) → nat_lt (length out) ROOM ≡ b → number_told refusal_number (told (feed_of s input out)) ≡ (feed_of s input out).answer
      go true h = rw h
      go false h = rw h

  pub finished_number : number_told refusal_number (told (finish_of s out)) ≡ (finish_of s out).answer
  unfolding finish_of
  finished_number = go (nat_lt (length out) ROOM) refl
    where
      go : (b : Bool) → nat_lt (length out) ROOM ≡ b → number_told refusal_number (told (finish_of s out)) ≡ (finish_of s out).answer
      go true h = rw h
      go false h = rw h

-- where a line goes on the part is used whole
pub gathered_whole : (k : Kept) (input : List ℕ) → gathered_back input (G.told (gathered_of k input)) ≡ gathered_of k input
unfolding gathered_of
gathered_whole k input = go (has_end input) refl
  where
    go : (b : Bool) → has_end input ≡ b → gathered_back input (G.told (gathered_of k input)) ≡ gathered_of k input
    go true h = rw h
    go false h = rw (h, used_all input h)
