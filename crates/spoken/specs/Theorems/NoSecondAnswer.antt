-- No second result, board, list of changes or lent byte meets what the calls promise. A refused call gives its refusal alone, and then the board that it was given, no changes or no byte written: no second outcome either.
use Rattle.std.specs.Prelude.{◌≡◌, List, ℕ, Result}
use Rattle.std.proofs.Common.{◌∙◌, ap, sym}
use Rattle.sender.specs.declared.board.Board.{Board}
use Rattle.sender.specs.declared.epochs.Sender.{Sender}
use Rattle.spoken.specs.declared.lists.Changes.{Changes}
use Rattle.spoken.specs.declared.lists.Refusal.{Refusal}
use Rattle.spoken.specs.Answers.{board_back, changes_back, length_back, told_board, told_changes, told_length}
use Rattle.spoken.specs.Applying.{applied_of}
use Rattle.spoken.specs.Changes.{compared_of, no_changes}
use Rattle.spoken.specs.Speaking.{speech_bytes, speech_of}
use Rattle.spoken.specs.Taking.{taken_of}
use Rattle.spoken.specs.Theorems.NothingLost.{applied_whole, compared_known, speech_whole}

pub compared_only : (old new : Board) (r q : Result Changes Refusal) → r ≡ told_changes (compared_of old new) → q ≡ told_changes (compared_of old new)
    → (r ≡ q) × (changes_back no_changes r ≡ compared_of old new)
compared_only old new r q a b = (a ∙ sym b, ap (changes_back no_changes) a ∙ compared_known old new)

pub applied_only : (board : Board) (cs : Changes) (r q : Result Board Refusal) → r ≡ told_board (applied_of board cs) → q ≡ told_board (applied_of board cs)
    → (r ≡ q) × (board_back board r ≡ applied_of board cs)
applied_only board cs r q a b = (a ∙ sym b, ap (board_back board) a ∙ applied_whole board cs)

pub taken_only : (s : Sender) (r q : Board) → r ≡ taken_of s → q ≡ taken_of s → r ≡ q
taken_only s r q a b = a ∙ sym b

-- what speak promises of its result r and of the bytes t that it leaves
pub record Says (cs : Changes) (out : List ℕ) (r : Result ℕ Refusal) (t : List ℕ) : Type 0 where
  pub speech : r ≡ told_length (speech_of cs out)
  pub bytes : t ≡ speech_bytes cs out

pub speech_only : (cs : Changes) (out : List ℕ) (r q : Result ℕ Refusal) (t u : List ℕ) → Says cs out r t → Says cs out q u
    → (r ≡ q) × (t ≡ u) × (length_back r ≡ speech_of cs out)
speech_only cs out r q t u a b = (a.speech ∙ sym b.speech, a.bytes ∙ sym b.bytes, ap length_back a.speech ∙ speech_whole out cs)
