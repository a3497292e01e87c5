-- A turn on a text from a place on, by what it finds there.
use Rattle.std.specs.Prelude.{◌≡◌, ℕ, ◌+◌, Bool, true, false, cond, ◌&&◌, List, drop, replicate}
use Rattle.std.proofs.Math.Path.{refl, ap}
use native.Mathlib.Omega.{arith}
use Rattle.recording.specs.declared.record.Record.{Record}
use Rattle.recording.specs.declared.record.Record.TheVariants.{Frame, Malformed, Long, Unfinished, End}
use Rattle.recording.specs.Later.{later}
use Rattle.recording.specs.Theorems.Later.{last_later, record_later, slice_later}
use Rattle.recording.specs.Record.{last_record, record_in}
use Rattle.replay_lines.specs.declared.replay.Phase.{Phase}
use Rattle.replay_lines.specs.declared.replay.Replay.{Replay}
use Rattle.replay_lines.specs.declared.turns.Replayed.{Replayed}
use Rattle.replay_lines.specs.Turn.{answered_turn, framed_turn, is_open, payload_at, placed, record_now, turned}
use Rattle.text.specs.Fields.{bytes_in}

-- a turn that uses nothing leaves the place
pub stays : (at : ℕ) (t : Replayed) → t.used ≡ 0 → record { replay = t.replay; answer = t.answer; used = at; written = t.written; wants = t.wants } ≡ placed at t
unfolding placed
stays at t e =
    let z : at + 0 ≡ at = omega arith in
    rw (e, z) refl

-- the place of the next line
module _ (at next n : ℕ) (e : next ≡ at + n) where
  pub turned_placed : (r : Replay) (written : ℕ) (wants : Bool) → turned r next written wants ≡ placed at (turned r n written wants)
  unfolding placed
  turned_placed r written wants = rw e refl

  pub answered_placed : (r : Replay) (phase : Phase) (number : ℕ) → answered_turn r phase number next ≡ placed at (answered_turn r phase number n)
  unfolding placed answered_turn
  answered_placed r phase number = rw e refl

  pub framed_placed : (r : Replay) → framed_turn r next ≡ placed at (framed_turn r n)
  unfolding placed framed_turn
  framed_placed r = rw e refl

  -- the payload lies in the rest, so much sooner
  pub payload_placed : (size : ℕ) (text : List ℕ) → payload_at size next text ≡ payload_at size n (drop at text)
  unfolding payload_at
  payload_placed size text =
      let s : next + size + size ≡ at + (n + size + size) = omega arith in
      ap (λ (d : List ℕ). bytes_in d (replicate size 0)) (rw (s, e) (slice_later at n (n + size + size) text))

open_later : (at : ℕ) (x : Record) → is_open (later at x) ≡ is_open x
open_later at (Frame port h4 flag place next) = refl
open_later at (Malformed next) = refl
open_later at Long = refl
open_later at Unfinished = refl
open_later at End = refl

-- the record at a place
abbrev pub record_there : (ports size at : ℕ) (last : Bool) (rest : List ℕ) → Record
record_there ports size at last rest = cond (is_open (record_in ports size at rest) && last) (last_record ports size at rest) (record_in ports size at rest)

pub now_later : (ports size at : ℕ) (last : Bool) (rest : List ℕ) → record_there ports size at last rest ≡ later at (record_now ports size last rest)
unfolding record_now
now_later ports size at last rest =
    rw (record_later ports size at rest, last_later ports size at rest, open_later at (record_in ports size 0 rest)) (go (is_open (record_in ports size 0 rest) && last))
  where
    go : (b : Bool) → cond b (later at (last_record ports size 0 rest)) (later at (record_in ports size 0 rest)) ≡ later at (cond b (last_record ports size 0 rest) (record_in ports size 0 rest))
    go true = refl
    go false = refl
