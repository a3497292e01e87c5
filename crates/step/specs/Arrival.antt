-- What one frame of a port does (01, 'Step', 'Beginning', 'Window'), decided on the group's and the port's records.
use Rattle.std.specs.declared.option.Option.{Option}
use Rattle.std.specs.declared.option.Option.TheVariants.{None, Some}
use Rattle.std.specs.Prelude.{Bool, true, false, is_some, not, ◌&&◌, ◌||◌, ℕ, if◌then◌else◌, ◌==◌}
pub use Rattle.ground.specs.Flags.{flag_of}
use Rattle.ground.specs.Plain.{◌<?◌}
use Rattle.ground.specs.Types.{Tag}
use Rattle.packet.specs.Kinds.{distance_of, ends_epoch, epochs_in, first_tag, starts_epoch}
use Rattle.rows.specs.declared.group.Group.{Group}
use Rattle.rows.specs.declared.step.Step.{Step}
use Rattle.step.specs.declared.arrival.Taken.{Taken}
use Rattle.step.specs.declared.run.Run.{Run}
use Rattle.step.specs.Run.{in_step_at, no_run, run_on, with_bits}

-- whether a frame is stored, and how far it lies after the window's first
abbrev pub is_kept : Taken → Bool
is_kept t = is_some t.kept

abbrev pub or_zero : Option ℕ → ℕ
or_zero None = 0
or_zero (Some d) = d

abbrev pub kept_at : Taken → ℕ
kept_at t = or_zero t.kept

abbrev pub run_of : Step → Run
run_of s = record { count = s.count; next = s.next; breaks = s.breaks; odd = s.odd; bits = s.bits }

unfoldable pub in_step : Group → Step → Bool
in_step g s = in_step_at g.kind s.count

-- 'It is readable while in step, if joined or in step ever since the beginning.'
unfoldable pub readable : Group → Step → Bool
readable g s = flag_of g.begun && in_step g s && (flag_of s.joined || flag_of s.ever_since)

-- how far a tag lies after the first frame of the oldest epoch not yet reported or gathered
unfoldable pub distance_in : Group → Tag → ℕ
distance_in g tag = distance_of g.kind tag (first_tag g.kind g.oldest)

-- The step record afterwards. 'losing step undoes' joining; what was stored and what rules stay.

abbrev pub step_to : (s : Step) (failed : ℕ) (run : Run) (joined since later : ℕ) → Step
step_to s failed run joined since later =
    record {
      spare = s.spare;
      heard = 1;
      failed = failed;
      count = run.count;
      next = run.next;
      joined = joined;
      ever_since = since;
      joined_at = later;
      whole = s.whole;
      breaks = run.breaks;
      odd = run.odd;
      bits = run.bits;
    }

abbrev pub lost : (s : Step) (failed : ℕ) (run : Run) → Step
lost s failed run = step_to s failed run 0 0 0

abbrev pub advanced : Step → Run → Step
advanced s run = step_to s 0 run s.joined s.ever_since s.joined_at

abbrev pub joined_at : (s : Step) (run : Run) (later : ℕ) → Step
joined_at s run later = step_to s 0 run 1 s.ever_since later

-- Stopping, beginning and gathering can follow only before the beginning, where a port that was in step no longer is, and where the last frame of the epoch that is gathered comes.
abbrev pub settles_at : (g : Group) (before now : Step) → Bool
settles_at g before now = not (flag_of g.begun) || in_step g before && not (in_step g now)

-- 10: 'signal-fail flag set on the frame', 'port recorded unreadable, its step lost'
unfoldable pub flagged : Group → Step → Taken
flagged g s =
    let now = lost s 1 (with_bits s.bits no_run) in
    record { step = now; answer = 10; counted = false; kept = None; joins = false; settles = settles_at g s now }

-- 12: 'port not in step after this frame', 'step record advanced, frame not stored'
unfoldable pub counts_on : (g : Group) (s : Step) (run : Run) → Taken
counts_on g s run =
    let now = lost s 0 run in
    record { step = now; answer = 12; counted = not (run.count == 0); kept = None; joins = false; settles = settles_at g s now }

-- 'A frame in step of a port that has not joined is answered 0 and dropped.'
unfoldable pub frame_dropped : (g : Group) (s : Step) (run : Run) → Taken
frame_dropped g s run = record { step = advanced s run; answer = 0; counted = true; kept = None; joins = false; settles = not (flag_of g.begun) }

-- 11: 'frame in step, but outside the window', 'state as given'
unfoldable pub outside : Step → Taken
outside s = record { step = s; answer = 11; counted = false; kept = None; joins = false; settles = false }

-- a frame of a joined port, d after the window's first
unfoldable pub keeps : (g : Group) (s : Step) (run : Run) (distance : ℕ) → Taken
keeps g s run d =
    record {
      step = advanced s run;
      answer = 0;
      counted = true;
      kept = Some d;
      joins = false;
      settles = not (flag_of g.gathered) && ends_epoch g.kind d && epochs_in g.kind d == 0;
    }

-- 'A port joins at its first epoch start in the window'
unfoldable pub joining : (g : Group) (s : Step) (run : Run) (distance : ℕ) → Taken
joining g s run d =
    record { step = joined_at s run (epochs_in g.kind d); answer = 0; counted = true; kept = Some d; joins = true; settles = false }

-- 'A frame lies in the window when its tag is 0 to W-1 after the first frame of the oldest epoch'; '11 goes only to a joined port'
unfoldable pub by_window : (g : Group) (s : Step) (run : Run) (distance : ℕ) → Taken
by_window g s run d = if d <? g.window then keeps g s run d else outside s

unfoldable pub by_start : (g : Group) (s : Step) (run : Run) (distance : ℕ) → Taken
by_start g s run d = if starts_epoch g.kind s.next && d <? g.window then joining g s run d else frame_dropped g s run

-- a frame in step: 'Frames take their tag from the receiver's own count' (request 2026-04), which is the tag that was to come next
unfoldable pub arrives : (g : Group) (s : Step) (run : Run) → Taken
arrives g s run =
    if not (flag_of g.begun) then frame_dropped g s run
    else if flag_of s.joined then by_window g s run (distance_in g s.next)
    else by_start g s run (distance_in g s.next)

-- 'For frames: .. 10, 12, 11.' The H4 byte of a flagged frame is not looked at. By another it ends an odd packet or not.
unfoldable pub taken_of : (g : Group) (s : Step) (flag odd : Bool) (h4 : ℕ) → Taken
taken_of g s flag odd h =
    if flag then flagged g s
    else (let run = run_on g.kind (run_of s) odd h in
    if in_step_at g.kind run.count then arrives g s run else counts_on g s run)
