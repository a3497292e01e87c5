-- Each C call is the receiver's own function: the same answer and the same lent bytes.
use Rattle.std.specs.Prelude.{◌≡◌, refl, Bool, true, false, cond, List, [], ℕ, ◌<◌, length}
use Rattle.std.proofs.Common.{lt-ltb, ne_eqb}
use Rattle.receiver.specs.Frame.{frame_of}
use Rattle.receiver.specs.Starting.{start_answer, start_as_answer, start_as_rows, start_rows}
use Rattle.c_receiver.specs.Receivers.{H4, failed_c, start_as_answer_c, start_as_rows_c}

-- levelspruce_receiver_start is levelspruce_receiver_start_as with the kind H4 and empty lists
pub start_as_own : (ports P W store : ℕ) (s : List (List ℕ))
    → (start_answer H4 ports P W store (length s) ≡ start_as_answer_c H4 ports P W store [] [] (length s))
    × (start_rows H4 ports P W store s ≡ start_as_rows_c H4 ports P W store [] [] s)
start_as_own ports P W store s = (refl, refl)

-- and that one is receiver::start_as, of every kind that is a byte
pub start_as_named : (kind ports P W store : ℕ) (hold restore : List ℕ) (s : List (List ℕ)) → kind < 256
    → (start_as_answer_c kind ports P W store hold restore (length s) ≡ start_as_answer kind ports P W store hold restore (length s))
    × (start_as_rows_c kind ports P W store hold restore s ≡ start_as_rows kind ports P W store hold restore s)
start_as_named kind ports P W store hold restore s h = rw (lt-ltb kind 256 h) (refl, refl)

-- levelspruce_receiver_start (for the kind H4), _fetch, _ports and _reply promise the receiver's own definitions as they stand, so that no law is needed; levelspruce_receiver_frame is receiver::frame, told of the flag by 1 or 0
pub frame_own : (s : List (List ℕ)) (i : ℕ) (failed : Bool) (h : ℕ) (payload store : List ℕ)
    → frame_of s i (failed_c (cond failed 1 0)) h payload store ≡ frame_of s i failed h payload store
frame_own s i true h payload store = refl
frame_own s i false h payload store = refl

-- or by any other number for 1
pub any_failed : (failed : ℕ) → (failed ≡ 0 → ⊥) → failed_c failed ≡ true
any_failed failed d = rw (ne_eqb failed 0 d) refl
