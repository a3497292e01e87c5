-- What `session_lines::run` leaves of a session, which feeds it by `feed_any` as any console: what Cuts and Told say of a host that feeds it
-- by `feed_of` is said of that too.
use Rattle.std.specs.Prelude.{◌≡◌, refl, Bool, true, false, List, [], ◌∷◌, ◌++◌, ℕ, zero, suc, ◌≤◌, drop, length, nat_lt, take, IfOk, Option, Result}
use Rattle.std.specs.Io.KnownBytes.{Consumes}
use Rattle.std.proofs.Common.{ap, append_assoc, append-nil, arith, length-drop, sym, take-append-drop, ◌∙◌}
use Rattle.ground.specs.Types.{Bytes}
use Rattle.session_lines.specs.Consoles.{fed_by, fed_bytes_by, finished_by, finished_bytes_by, left_at_end, left_by_part}
use Rattle.session_lines.specs.declared.console.Refusal.{Refusal}
use Rattle.session_lines.specs.declared.session.Session.{Session}
use Rattle.session_lines.specs.Laws.Feeding.{used_some}
use Rattle.session_lines.specs.Laws.Telling.{Stands, once, start}
use Rattle.session_lines.specs.Output.{ROOM}
use Rattle.session_lines.specs.Running.{Ran, left_by_parts, left_by_whole, left_up_to}
use Rattle.session_lines.specs.Running.Ran.{Ended, Refused}
use Rattle.session_lines.specs.Runs.{Host, fed_once, fed_parts, fed_up_to, joined, left_of}
use Rattle.session_lines.specs.Session.{answered_by, beginning, fed_session, fed_text, feed_bytes, feed_of, finish_bytes, finish_of, has_end, has_line, kept_by, kept_in, last_session, last_text, said_by, told, used_of}
use Rattle.session_lines.specs.Theorems.Cuts.{buffer_room, left_is, session_is}
use Rattle.session_lines.specs.Theorems.Told.{ended_told}
use Rattle.session_lines.specs.Told.{told_table}
use Rattle.text.specs.Text.{lines_of}

-- A session fed as any console is: a part, and the end of the input.
module _ (s : Session) (out : List ℕ) where
  module _ (input : List ℕ) where
    pub session_fed : fed_by ROOM kept_in kept_by answered_by said_by s input out ≡ told (feed_of s input out)
    unfolding fed_by feed_of fed_session fed_text
    session_fed = go (nat_lt (length out) ROOM) (has_end input) refl refl
      where
        go : (a b : Bool) → nat_lt (length out) ROOM ≡ a → has_end input ≡ b → fed_by ROOM kept_in kept_by answered_by said_by s input out ≡ told (feed_of s input out)
        go true b h e = rw h
        go false true h e = rw (h, e)
        go false false h e = rw (h, e)

    pub session_said : fed_bytes_by ROOM kept_in said_by s input out ≡ feed_bytes s input out
    unfolding fed_bytes_by feed_bytes fed_text
    session_said = refl

  pub session_finished : finished_by ROOM kept_in answered_by said_by s out ≡ told (finish_of s out)
  unfolding finished_by finish_of last_session last_text
  session_finished = go (nat_lt (length out) ROOM) (has_line s) refl refl
    where
      go : (a b : Bool) → nat_lt (length out) ROOM ≡ a → has_line s ≡ b → finished_by ROOM kept_in answered_by said_by s out ≡ told (finish_of s out)
      go true b h e = rw h
      go false true h e = rw (h, e)
      go false false h e = rw (h, e)

  pub session_ended : finished_bytes_by ROOM kept_in said_by s out ≡ finish_bytes s out
  unfolding finished_bytes_by finish_bytes last_text
  session_ended = refl

part_is : (s : Session) (input : List ℕ) → left_by_part ROOM kept_in kept_by answered_by said_by s input ≡ fed_session s input
unfolding fed_session
part_is s input = refl

end_is : (s : Session) → left_at_end ROOM kept_in answered_by said_by s ≡ last_session s
unfolding last_session
end_is s = refl

-- a part fed whole is what the host of Runs does with it
up_to : (n : ℕ) (h : Host) (part : List ℕ) → ROOM ≤ length h.buffer
    → ((fed_up_to n h part).session ≡ left_up_to ROOM kept_in kept_by answered_by said_by n h.session part) × (ROOM ≤ length (fed_up_to n h part).buffer)
up_to zero h part r = (refl, r)
up_to (suc n) h [] r = (refl, r)
up_to (suc n) h (b ∷ part) r =
    let P : List ℕ = b ∷ part in
    let more = up_to n (fed_once h P) (left_of h P) (buffer_room h P r) in (
      more.0
          ∙ rw (session_is h P r, left_is h P r, part_is h.session P),
      more.1,
    )

parts_kept : (h : Host) (parts : List (List ℕ)) → ROOM ≤ length h.buffer
    → (fed_parts h parts).session ≡ left_by_parts ROOM kept_in kept_by answered_by said_by h.session parts
unfolding left_by_whole
parts_kept h [] r = refl
parts_kept h (p ∷ ps) r =
    let one = up_to (length p) h p r in
    parts_kept (fed_up_to (length p) h p) ps one.1
    ∙ ap (λ (s : Session). left_by_parts ROOM kept_in kept_by answered_by said_by s ps) one.0

-- Parts leave a run's session as they leave that of the host of `cut_anywhere`, through any buffer with room.
pub parts_alike : (h : Host) (parts : List (List ℕ)) → ROOM ≤ length h.buffer
    → left_by_parts ROOM kept_in kept_by answered_by said_by h.session parts ≡ (fed_parts h parts).session
parts_alike h parts r = sym (parts_kept h parts r)

whole_stands : (n : ℕ) (s : Session) (input part : List ℕ) → length part ≤ n → Stands s input
    → Stands (left_up_to ROOM kept_in kept_by answered_by said_by n s part) (input ++ part)
whole_stands zero s input [] l o = rw append-nil o
whole_stands zero s input (b ∷ part) l o = absurd (omega arith)
whole_stands (suc n) s input [] l o = rw append-nil o
whole_stands (suc n) s input (b ∷ part) l o =
    let P : List ℕ = b ∷ part in
    let u = used_some P (omega arith) in
    let d = length-drop (used_of P) P in
    let more = whole_stands n (fed_session s P) (input ++ take (used_of P) P) (drop (used_of P) P) (omega arith) (once s input P o) in
    rw (part_is s P) (rw (append_assoc input (take (used_of P) P) (drop (used_of P) P), take-append-drop (used_of P) P) at more)

parts_stand : (s : Session) (input : List ℕ) (parts : List (List ℕ)) → Stands s input
    → Stands (left_by_parts ROOM kept_in kept_by answered_by said_by s parts) (input ++ joined parts)
unfolding left_by_whole
parts_stand s input [] o = rw append-nil o
parts_stand s input (p ∷ ps) o =
    let more =
    parts_stand (left_up_to ROOM kept_in kept_by answered_by said_by (length p) s p) (input ++ p) ps
    (whole_stands (length p) s input p (omega arith) o) in
    rw (append_assoc input p (joined ps)) at more

-- What a run leaves of a session that begins is the table that all lines of the input told, the last one with or without its end; and that
-- input is what the reader gave, as far as it says what it has.
pub ran_told : (out : List ℕ) (more rest : Option Bytes) (r : Result Session Refusal)
    → Ran ROOM kept_in kept_by answered_by said_by beginning out more rest r
    → IfOk r (λ s. (input : List ℕ) × Consumes more rest input × (s.table ≡ told_table (lines_of input)))
ran_told out more rest r (Refused h) = tt
ran_told out more rest r (Ended h parts k) =
    let s : Session = left_by_parts ROOM kept_in kept_by answered_by said_by beginning parts in
    (joined parts, k, ap (λ (t : Session). t.table) (end_is s) ∙ ended_told s (joined parts) (parts_stand beginning [] parts start))
