-- What the code gives says all that the definitions do: nothing of a refused call is lost, and 01's numbers are the same.
use Rattle.std.specs.Prelude.{◌≡◌, Bool, true, false, List, ℕ, Result, Ok, Err, nat_lt, length, refl}
use Rattle.std.specs.Result.{result_unwrap_or}
use Rattle.std.proofs.Common.{◌∙◌, ap}
use Rattle.ground.specs.Refusals.{number_told}
use Rattle.sender.specs.declared.board.Board.{Board}
use Rattle.spoken.specs.Answers.{board_back, changes_back, length_back, refusal_number, told_board, told_by, told_changes, told_length}
use Rattle.spoken.specs.Answers.{Answer, Applied, Compared, Speech}
use Rattle.spoken.specs.Answers.Answer.{Done, Unfit, Counts, Length}
use Rattle.spoken.specs.declared.lists.Changes.{Changes}
use Rattle.spoken.specs.declared.lists.Refusal.{Refusal}
use Rattle.spoken.specs.Applying.{applied_of, fits}
use Rattle.spoken.specs.Changes.{answer_number, comparable, compared_of, no_changes}
use Rattle.spoken.specs.Speaking.{SPEECH-ROOM, can_speak, speak_answer, speech_of}
use Rattle.spoken.specs.SpeakingRuns.{can_speak_whole, runs_speech_of, whole_answer, whole_speech_of}

pub applied_whole : (b : Board) (cs : Changes) → board_back b (told_board (applied_of b cs)) ≡ applied_of b cs
unfolding applied_of
applied_whole b cs = go (fits b cs) refl
  where
    go : (f : Bool) → fits b cs ≡ f → board_back b (told_board (applied_of b cs)) ≡ applied_of b cs
    go true e = rw e
    go false e = rw e

pub compared_known : (old new : Board) → changes_back no_changes (told_changes (compared_of old new)) ≡ compared_of old new
unfolding compared_of
compared_known old new = go (comparable old new) refl
  where
    go : (f : Bool) → comparable old new ≡ f → changes_back no_changes (told_changes (compared_of old new)) ≡ compared_of old new
    go true e = rw e
    go false e = rw e

module _ (out : List ℕ) where
  abbrev short : Bool
  short = nat_lt (length out) SPEECH-ROOM

  pub speech_whole : (cs : Changes) → length_back (told_length (speech_of cs out)) ≡ speech_of cs out
  unfolding speech_of speak_answer
  speech_whole cs = go short (can_speak cs) refl refl
    where
      go : (s f : Bool) → short ≡ s → can_speak cs ≡ f → length_back (told_length (speech_of cs out)) ≡ speech_of cs out
      go true f h e = rw h
      go false true h e = rw (h, e)
      go false false h e = rw (h, e)

  pub runs_speech_whole : (cs : Changes) → length_back (told_length (runs_speech_of cs out)) ≡ runs_speech_of cs out
  unfolding runs_speech_of speak_answer
  runs_speech_whole cs = go short (can_speak cs) refl refl
    where
      go : (s f : Bool) → short ≡ s → can_speak cs ≡ f → length_back (told_length (runs_speech_of cs out)) ≡ runs_speech_of cs out
      go true f h e = rw h
      go false true h e = rw (h, e)
      go false false h e = rw (h, e)

  pub whole_speech_known : (b : Board) → length_back (told_length (whole_speech_of b out)) ≡ whole_speech_of b out
  unfolding whole_speech_of whole_answer
  whole_speech_known b = go short (can_speak_whole b) refl refl
    where
      go : (s f : Bool) → short ≡ s → can_speak_whole b ≡ f → length_back (told_length (whole_speech_of b out)) ≡ whole_speech_of b out
      go true f h e = rw h
      go false true h e = rw (h, e)
      go false false h e = rw (h, e)

-- the number of what a call gives is that of its answer
pub numbers_same : {T : Type 0} (a : Answer) (given : T) → number_told refusal_number (told_by a given) ≡ answer_number a
numbers_same Done given = refl
numbers_same Unfit given = refl
numbers_same Counts given = refl
numbers_same Length given = refl

-- So whoever takes the board that was given, no changes or 0 in place of a refused result has what the call leaves.
pub board_left : (given : Board) {r : Result Board Refusal} {a : Applied} → r ≡ told_board a → board_back given (told_board a) ≡ a → result_unwrap_or r given ≡ a.board
board_left given {r} {a} e w = go r (ap (board_back given) e ∙ w)
  where
    go : (r : Result Board Refusal) → board_back given r ≡ a → result_unwrap_or r given ≡ a.board
    go (Ok b) h = ap (λ (x : Applied). x.board) h
    go (Err refusal) h = ap (λ (x : Applied). x.board) h

pub changes_left : (none : Changes) {r : Result Changes Refusal} {c : Compared} → r ≡ told_changes c → changes_back none (told_changes c) ≡ c → result_unwrap_or r none ≡ c.changes
changes_left none {r} {c} e w = go r (ap (changes_back none) e ∙ w)
  where
    go : (r : Result Changes Refusal) → changes_back none r ≡ c → result_unwrap_or r none ≡ c.changes
    go (Ok cs) h = ap (λ (x : Compared). x.changes) h
    go (Err refusal) h = ap (λ (x : Compared). x.changes) h

pub length_left : {r : Result ℕ Refusal} {s : Speech} → r ≡ told_length s → length_back (told_length s) ≡ s → result_unwrap_or r 0 ≡ s.written
length_left {r} {s} e w = go r (ap length_back e ∙ w)
  where
    go : (r : Result ℕ Refusal) → length_back r ≡ s → result_unwrap_or r 0 ≡ s.written
    go (Ok n) h = ap (λ (x : Speech). x.written) h
    go (Err refusal) h = ap (λ (x : Speech). x.written) h
