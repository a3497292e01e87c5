-- A frame's arrival (01, 'The receiver'; 'For frames: 1, 9, 10, 12, 11').
use Rattle.std.specs.Prelude.{Bool, true, List, [], ℕ, get_or, length, set, if◌then◌else◌, ◌==◌}
use Rattle.ground.specs.Plain.{◌<?◌}
use Rattle.ground.specs.Types.{Bytes, Rows, Tag}
use Rattle.packet.specs.Kinds.{ends_epoch, epochs_in, place_of, tag_after, tag_before}
use Rattle.packet.specs.Symbols.{with_symbol}
use Rattle.phases.specs.Settling.{settled_of}
use Rattle.phases.specs.Sizes.{ports_in}
use Rattle.receiver.specs.Lengths.{frame_fits}
use Rattle.rows.specs.declared.group.Group.{Group}
use Rattle.rows.specs.Group.{group_at}
use Rattle.rows.specs.Packets.{marks_at, packets_at, put_marks, put_packets}
use Rattle.rows.specs.Step.{put_step, step_at, with_next}
use Rattle.step.specs.declared.arrival.Taken.{Taken}
use Rattle.step.specs.Arrival.{taken_of, is_kept, kept_at}
use Rattle.step.specs.OwnCount.{ends_odd}
use Rattle.store.specs.Frames.{place_in, stored_at}
use Rattle.store.specs.Marks.{cut_from, marked_at}

-- the receiver's own tag of a counted frame (request 2026-04): the one before the tag to come
abbrev pub own_tag : ℕ → Taken → ℕ
own_tag kind t = tag_before kind t.step.next

-- 'sixteen nibbles of the packet being gathered': a counted frame's symbol goes to the place of its tag there
unfoldable pub gathered_by : (kind : ℕ) (pair : List (List ℕ)) (counted : Bool) (tag : Tag) (h4 : ℕ) → List (List ℕ)
gathered_by kind pair counted tag h = if counted then set pair 0 (with_symbol kind (get_or pair 0 []) (place_of kind tag) h) else pair

-- joining at an epoch drops what the port had stored from that epoch on; the last frame of an epoch marks it
unfoldable pub marks_by : (kind : ℕ) (marks : Bytes) (t : Taken) → Bytes
marks_by kind marks t =
    if t.joins then cut_from marks t.step.joined_at else if is_kept t then (if ends_epoch kind (kept_at t) then marked_at marks (epochs_in kind (kept_at t)) else marks) else marks

-- the port's rows after a frame
unfoldable pub port_rows : (kind : ℕ) (s : Rows) (port : ℕ) (t : Taken) (h4 : ℕ) → Rows
port_rows kind s i t h =
    put_marks (put_packets (put_step s i t.step) i (gathered_by kind (packets_at s i) t.counted (own_tag kind t) h)) i (marks_by kind (marks_at s i) t)

-- the port's rows after a frame that changes its next tag and one symbol alone
unfoldable pub steady_rows : (kind next h4 port : ℕ) (s : Rows) → Rows
steady_rows kind next h i s =
    put_packets (put_step s i (with_next (step_at s i) (tag_after kind next))) i (gathered_by kind (packets_at s i) true next h)

-- the store after a frame
unfoldable pub store_by : (g : Group) (port : ℕ) (t : Taken) (h4 : ℕ) (payload store : Bytes) → Bytes
store_by g i t h payload store = if is_kept t then stored_at store (place_in g i (kept_at t)) payload h else store

unfoldable pub settled_by : (settles : Bool) (ports : ℕ) (store : Bytes) (s : Rows) → Rows
settled_by settles n store s = if settles then settled_of n store s else s

-- what a call with a frame leaves
pub record FrameOutcome : Type 0 where
  pub answer : ℕ
  pub rows : Rows
  pub store : Bytes

-- A frame in step outside the window leaves all as given.
unfoldable pub taken_frame :
    (g : Group) (ports : ℕ) (s : Rows) (port : ℕ) (t : Taken) (h4 : ℕ) (payload store : Bytes) → FrameOutcome
taken_frame g n s i t h payload store =
    if t.answer == 11
    then (record { answer = t.answer; rows = s; store = store })
    else (record {
      answer = t.answer;
      rows = settled_by t.settles n (store_by g i t h payload store) (port_rows g.kind s i t h);
      store = store_by g i t h payload store;
    })

-- whether the frame ends an odd packet, by the packet being gathered and the tag to come
abbrev pub odd_in : (s : Rows) (port h4 : ℕ) → Bool
odd_in s i h = ends_odd (group_at s).kind (get_or (packets_at s i) 0 []) (step_at s i).next h

-- what the frame does, where it is neither 1 nor 9
abbrev pub taken_in : (s : Rows) (port : ℕ) (failed : Bool) (h4 : ℕ) → Taken
taken_in s i failed h = taken_of (group_at s) (step_at s i) failed (odd_in s i h) h

abbrev pub decided_frame : (s : Rows) (port : ℕ) (failed : Bool) (h4 : ℕ) (payload store : Bytes) → FrameOutcome
decided_frame s i failed h payload store = taken_frame (group_at s) (ports_in (group_at s)) s i (taken_in s i failed h) h payload store

-- 1: 'port not below the group's count'; 9: 'payload, store .. length wrong'
unfoldable pub refusal_by : (g : Group) (ports port rows payload store : ℕ) → ℕ
refusal_by g n i rows payload store = if i <? n then (if frame_fits g n rows payload store then 0 else 9) else 1

abbrev pub frame_refusal : (s : Rows) (port payload store : ℕ) → ℕ
frame_refusal s i payload store = refusal_by (group_at s) (ports_in (group_at s)) i (length s) payload store

-- A refusal changes nothing.
unfoldable pub frame_of : (s : Rows) (port : ℕ) (failed : Bool) (h4 : ℕ) (payload store : Bytes) → FrameOutcome
frame_of s i failed h payload store =
    if frame_refusal s i (length payload) (length store) == 0
    then decided_frame s i failed h payload store
    else (record { answer = frame_refusal s i (length payload) (length store); rows = s; store = store })
