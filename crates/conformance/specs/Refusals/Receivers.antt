-- The refusals of the receiver: a start 4, 9; a frame 1, 9, 10, 12, 11; a fetch and what is read out 9. The state's rows stand as the state and not among the lent slices. Under 10 and 12 the state changes and no lent byte does.
use Rattle.std.specs.Prelude.{◌≡◌, refl, Bool, true, false, not, ◌&&◌, ◌||◌, List, [], ◌∷◌, ℕ, ◌+◌, ◌-◌, ◌*◌, ◌/◌, ◌%◌, get_or, length, if◌then◌else◌, ◌==◌}
use Rattle.std.proofs.Common.{ap, arith}
use Rattle.std.proofs.Math.Nat.{mod-mod}
use Rattle.c_receiver.specs.Receivers.{failed_c, kind_c, start_as_answer_c, start_as_rows_c}
use Rattle.conformance.specs.Refusals.Entries.{Call, Copes, If, Refusal, Under, Unless, copes, done, either, first, refused, stateful, stateless}
use Rattle.ground.specs.Counting.Words.{every}
use Rattle.ground.specs.Circle.{after}
use Rattle.ground.specs.Plain.{◌<?◌, ◌≤?◌}
use Rattle.packet.specs.Kinds.{distance_of, first_tag, frames, lead, payload_right, tags}
use Rattle.phases.specs.Sizes.{known_kind, ports_in, sized, start_sized, store_for}
use Rattle.receiver.specs.Fetch.{fetch_of, lent_fits}
use Rattle.receiver.specs.Frame.{FrameOutcome, frame_of, odd_in, refusal_by, store_by, taken_frame}
use Rattle.receiver.specs.Lengths.{fetch_fits, frame_fits, output_for, rows_fit}
use Rattle.receiver.specs.Shown.{ports_answer, ports_out, reply_answer, reply_fit, reply_out, shown_fit}
use Rattle.receiver.specs.Starting.{empty_group, sized_answer, sized_fits, sized_rows, start_answer, start_as_answer, start_as_rows, start_fits, start_right, start_rows, times_within}
use Rattle.rows.specs.declared.group.Group.{Group}
use Rattle.rows.specs.declared.step.Step.{Step}
use Rattle.rows.specs.Group.{group_at, group_of, group_row, put_group}
use Rattle.rows.specs.Rows.{put_row, row_in}
use Rattle.rows.specs.Step.{step_at}
use Rattle.step.specs.declared.arrival.Taken.{Taken}
use Rattle.step.specs.Arrival.{counts_on, distance_in, flagged, frame_dropped, joining, keeps, outside, run_of, taken_of}
use Rattle.step.specs.Laws.Arrival.{taken_by}
use Rattle.step.specs.Run.{in_step_at, run_on}

-- how many frames an epoch has, and how many tags there are; of VC-12, whose kind is 1, 'An epoch is 32 frames' and 'Tags run 0 to 1,023' (02, 2026-01)
abbrev pub frames_of : ℕ → ℕ
frames_of kind = if kind == 1 then 32 else 16

abbrev pub tags_of : ℕ → ℕ
tags_of kind = if kind == 1 then 1024 else 4096

-- 'P is 136'
abbrev pub takes_payload : ℕ → ℕ → Bool
takes_payload kind payload = not (kind == 1) || payload == 136

-- of kind H4, VC12 or FIXED; '1 to 64 ports', 'P from 1 to 2,340', 'The window W is 16 to 2,048 frames', of VC-12 '32 to 512': from an epoch's frames to half the tags
abbrev pub ranged : (kind count payload window : ℕ) → Bool
ranged kind count payload window =
    (kind == 0 || kind == 1 || kind == 2)
    && 1 ≤? count
    && count ≤? 64
    && 1 ≤? payload
    && payload ≤? 2340
    && frames_of kind ≤? window
    && window ≤? tags_of kind / 2

-- and that a start takes
abbrev pub start_ranged : (kind count payload window : ℕ) → Bool
start_ranged kind count payload window = ranged kind count payload window && takes_payload kind payload

-- Starting. 'The lent store is exactly ports x W x (P+1) bytes', and the state has five rows a port and one.
abbrev pub start : ℕ × ℕ × ℕ × ℕ × ℕ × List (List ℕ) → Call
start (kind, count, payload, window, store, state) =
    stateful (Unless 4 (start_ranged kind count payload window) ∷ Unless 9 (length state == count * 5 + 1 && store == count * window * (payload + 1)) ∷ [])
    (start_answer kind count payload window store (length state)) [] [] state (start_rows kind count payload window store state) (put_group state (empty_group kind))

pub start_copes : (x : ℕ × ℕ × ℕ × ℕ × ℕ × List (List ℕ)) → Copes (start x)
unfolding start_as_answer start_as_rows payload_right start_right start_sized times_within sized_answer sized_rows sized_fits start_fits known_kind sized frames tags
start_copes (kind, count, payload, window, store, state) = copes _ (λ s. (λ f. rw (s, f), λ f. rw (s, f) (refl, refl, refl)), λ s. rw s (refl, refl, refl))

-- 'a count above 5,000 is number 4' (02, 2026-03), and a list that is neither as long as there are ports nor empty is 9
abbrev pub times_in_range : List ℕ → Bool
times_in_range counts = every (length counts) (λ i. get_or counts i 0 ≤? 5000)

abbrev pub start_as_refusals : (kind count payload window store : ℕ) (hold restore : List ℕ) (rows : ℕ) → List Refusal
start_as_refusals kind count payload window store hold restore rows =
    Unless 4 (times_in_range hold && times_in_range restore && start_ranged kind count payload window)
    ∷ Unless 9
    ((length hold == 0 || length hold == count)
    && (length restore == 0 || length restore == count)
    && (rows == count * 5 + 1 && store == count * window * (payload + 1)))
    ∷ []

abbrev pub start_as : ℕ × ℕ × ℕ × ℕ × ℕ × List ℕ × List ℕ × List (List ℕ) → Call
start_as (kind, count, payload, window, store, hold_off, restore, state) =
    stateful (start_as_refusals kind count payload window store hold_off restore (length state))
    (start_as_answer kind count payload window store hold_off restore (length state)) [] [] state
    (start_as_rows kind count payload window store hold_off restore state) (put_group state (empty_group kind))

pub start_as_copes : (x : ℕ × ℕ × ℕ × ℕ × ℕ × List ℕ × List ℕ × List (List ℕ)) → Copes (start_as x)
unfolding start_as_answer start_as_rows payload_right start_right start_sized times_within sized_answer sized_rows sized_fits start_fits known_kind sized frames tags
start_as_copes (kind, count, payload, window, store, hold_off, restore, state) =
    copes _ (λ s. (λ f. rw (s, f), λ f. rw (s, f) (refl, refl, refl)), λ s. rw s (refl, refl, refl))

-- after a start answered 4 the rows, if there are any, hold a group without ports
pub emptied_empty : (kind : ℕ) (rows : List (List ℕ)) → ports_in (group_at (put_group rows (empty_group kind))) ≡ 0
unfolding ports_in known_kind sized group_at group_of group_row put_group put_row row_in
emptied_empty kind [] = refl
emptied_empty kind (r ∷ rs) = either (sized kind 0 0 0) 0

-- for the kind H4
abbrev pub start_c : ℕ × ℕ × ℕ × ℕ × List (List ℕ) → Call
start_c (ports, payload, window, store_bytes, state) = start (0, ports, payload, window, store_bytes, state)

pub start_c_copes : (x : ℕ × ℕ × ℕ × ℕ × List (List ℕ)) → Copes (start_c x)
start_c_copes (ports, payload, window, store_bytes, state) = start_copes (0, ports, payload, window, store_bytes, state)

-- of the kind that is named; a number that is no byte names none
abbrev pub start_as_c : ℕ × ℕ × ℕ × ℕ × ℕ × List ℕ × List ℕ × List (List ℕ) → Call
start_as_c (kind, ports, payload, window, store_bytes, hold_off, restore, state) =
    stateful (start_as_refusals (kind_c kind) ports payload window store_bytes hold_off restore (length state))
    (start_as_answer_c kind ports payload window store_bytes hold_off restore (length state)) [] [] state
    (start_as_rows_c kind ports payload window store_bytes hold_off restore state) (put_group state (empty_group (kind_c kind)))

pub start_as_c_copes : (x : ℕ × ℕ × ℕ × ℕ × ℕ × List ℕ × List ℕ × List (List ℕ)) → Copes (start_as_c x)
start_as_c_copes (kind, ports, payload, window, store_bytes, hold_off, restore, state) =
    start_as_copes (kind_c kind, ports, payload, window, store_bytes, hold_off, restore, state)

-- What a frame does to a port, where `odd` says whether it ends an odd packet: 10, 12, 11. 'A port is in step when 32 frames in a row' count, of VC-12 64; 'its tag is 0 to W-1 after the first frame of the oldest epoch'; '11 goes only to a joined port'.

-- how far the tag to come lies after the first frame of the oldest epoch, whose tag is 8 before 16 x that epoch, of VC-12 32 x that epoch
abbrev pub ahead : Group → Step → ℕ
ahead g s =
    if g.kind == 1 then (s.next + (1024 - g.oldest * 32 % 1024)) % 1024
    else (s.next + (4096 - (g.oldest * 16 + 4088) % 4096)) % 4096

ahead_is : (g : Group) (s : Step) → distance_in g s.next ≡ ahead g s
unfolding distance_in distance_of after first_tag frames tags lead
ahead_is g s = go (g.kind == 1) refl
  where
    go : (b : Bool) → (g.kind == 1) ≡ b → distance_in g s.next ≡ ahead g s
    go true e = rw e (ap (λ (n : ℕ). (s.next + (1024 - n)) % 1024) (omega arith))
    go false e = rw e (ap (λ (n : ℕ). (s.next + (4096 - n)) % 4096) (mod-mod (g.oldest * 16 + 4088) 4096))

window_is : (g : Group) (s : Step) (b : Bool) → (distance_in g s.next <? g.window) ≡ b → (ahead g s <? g.window) ≡ b
window_is g s b e = rw (ahead_is g s) at e

abbrev pub port_refusals : (g : Group) (s : Step) (failed odd : Bool) (h4 : ℕ) → List Refusal
port_refusals g s failed odd h4 =
    If 10 failed
    ∷ Unless 12 (frames_of g.kind * 2 ≤? (run_on g.kind (run_of s) odd h4).count)
    ∷ If 11 (not (g.begun == 0) && not (s.joined == 0) && not (ahead g s <? g.window))
    ∷ []

-- what holds of each way a frame can go, with its number, holds of the frame
by_number_lem : (P : Taken → ℕ → Type 0) (g : Group) (s : Step) (failed odd : Bool) (h4 : ℕ)
    → P (flagged g s) 10 → P (counts_on g s (run_on g.kind (run_of s) odd h4)) 12 → P (frame_dropped g s (run_on g.kind (run_of s) odd h4)) 0
    → P (keeps g s (run_on g.kind (run_of s) odd h4) (distance_in g s.next)) 0 → P (outside s) 11 → P (joining g s (run_on g.kind (run_of s) odd h4) (distance_in g s.next)) 0
    → P (taken_of g s failed odd h4) (first (port_refusals g s failed odd h4))
unfolding in_step_at frames
by_number_lem P g s failed odd h4 ten twelve dropped kept eleven joined =
    taken_by (λ t. P t (first (port_refusals g s failed odd h4))) g s failed odd h4
    (λ f. rw f ten)
    (λ f e. rw (f, e) twelve)
    (λ f e b. rw (f, e, b) dropped)
    (λ f e b j w. rw (f, e, b, j, window_is g s true w) kept)
    (λ f e b j w. rw (f, e, b, j, window_is g s false w) eleven)
    (λ f e b j t w. rw (f, e, b, j) joined)
    (λ f e b j w. rw (f, e, b, j) dropped)

abbrev pub decide : Group × Step × Bool × Bool × ℕ → Call
decide (group, step, failed, odd, h4) =
    stateful (port_refusals group step failed odd h4) (taken_of group step failed odd h4).answer [] [] step (taken_of group step failed odd h4).step step

pub decide_copes : (x : Group × Step × Bool × Bool × ℕ) → Copes (decide x)
unfolding flagged counts_on frame_dropped keeps outside joining
decide_copes (group, step, failed, odd, h4) =
    by_number_lem (λ t n. Under (stateful (port_refusals group step failed odd h4) t.answer [] [] step t.step step) n) group step failed odd h4
    (refused _ 10 (refl, refl, tt)) (refused _ 12 (refl, refl, tt)) (done _ refl) (done _ refl) (refused _ 11 (refl, refl, refl)) (done _ refl)

-- A frame: 1, 9, 10, 12, 11.

-- how many ports there are: of a group out of range, which no start leaves, none
abbrev pub ports_of : Group → ℕ
ports_of g = if ranged g.kind g.count g.payload g.window then g.count else 0

-- an empty group has any number of rows
abbrev pub rows_of : ℕ → ℕ → Bool
rows_of n rows = n == 0 || rows == n * 5 + 1

abbrev pub store_of : Group → ℕ
store_of g = ports_of g * g.window * (g.payload + 1)

abbrev pub frame : List (List ℕ) × ℕ × Bool × ℕ × List ℕ × List ℕ → Call
frame (state, port, failed, h4, payload, store) =
    stateful
    (Unless 1 (port <? ports_of (group_at state))
    ∷ Unless 9 (rows_of (ports_of (group_at state)) (length state) && length payload == (group_at state).payload && length store == store_of (group_at state))
    ∷ port_refusals (group_at state) (step_at state port) failed (odd_in state port h4) h4)
    (frame_of state port failed h4 payload store).answer (store ∷ []) ((frame_of state port failed h4 payload store).store ∷ [])
    state (frame_of state port failed h4 payload store).rows state

frames_on : (b l : Bool) (g : Group) (n : ℕ) (s : List (List ℕ)) (i : ℕ) (failed odd : Bool) (h4 : ℕ) (payload store : List ℕ)
    → (let o : FrameOutcome =
    if (if b then (if l then 0 else 9) else 1) == 0
    then taken_frame g n s i (taken_of g (step_at s i) failed odd h4) h4 payload store
    else (record { answer = if b then (if l then 0 else 9) else 1; rows = s; store = store }) in
    Copes (stateful (Unless 1 b ∷ Unless 9 l ∷ port_refusals g (step_at s i) failed odd h4) o.answer (store ∷ []) (o.store ∷ []) s o.rows s))
unfolding taken_frame store_by flagged counts_on frame_dropped keeps outside joining
frames_on false l g n s i failed odd h4 payload store = refused _ 1 (refl, refl, refl)
frames_on true false g n s i failed odd h4 payload store = refused _ 9 (refl, refl, refl)
frames_on true true g n s i failed odd h4 payload store =
    by_number_lem
    (λ t k.
    let o = taken_frame g n s i t h4 payload store in
    Under (stateful (Unless 1 true ∷ Unless 9 true ∷ port_refusals g (step_at s i) failed odd h4) o.answer (store ∷ []) (o.store ∷ []) s o.rows s) k)
    g (step_at s i) failed odd h4
    (refused _ 10 (refl, refl, tt)) (refused _ 12 (refl, refl, tt)) (done _ refl) (done _ refl) (refused _ 11 (refl, refl, refl)) (done _ refl)

pub frame_copes : (x : List (List ℕ) × ℕ × Bool × ℕ × List ℕ × List ℕ) → Copes (frame x)
unfolding frame_of refusal_by frame_fits rows_fit store_for ports_in known_kind sized frames tags
frame_copes (state, port, failed, h4, payload, store) = frames_on _ _ (group_at state) (ports_of (group_at state)) state port failed (odd_in state port h4) h4 payload store

abbrev pub frame_c : List (List ℕ) × ℕ × ℕ × ℕ × List ℕ × List ℕ → Call
frame_c (state, port, failed, h4, payload, store) = frame (state, port, failed_c failed, h4, payload, store)

pub frame_c_copes : (x : List (List ℕ) × ℕ × ℕ × ℕ × List ℕ × List ℕ) → Copes (frame_c x)
frame_c_copes (state, port, failed, h4, payload, store) = frame_copes (state, port, failed_c failed, h4, payload, store)

-- A fetch. 'The lent output holds at least ports x 16 x P bytes', of VC-12 32 x P, and the record eight.
abbrev pub fetch : List (List ℕ) × List ℕ × List ℕ × List ℕ → Call
fetch (state, store, out, report) =
    stateful
    (Unless 9
    (rows_of (ports_of (group_at state)) (length state)
    && length store == store_of (group_at state)
    && ports_of (group_at state) * frames_of (group_at state).kind * (group_at state).payload ≤? length out
    && length report == 8)
    ∷ [])
    (fetch_of state store out report).answer (out ∷ report ∷ []) ((fetch_of state store out report).out ∷ (fetch_of state store out report).report ∷ [])
    state (fetch_of state store out report).rows state

pub fetch_copes : (x : List (List ℕ) × List ℕ × List ℕ × List ℕ) → Copes (fetch x)
unfolding fetch_of lent_fits fetch_fits rows_fit store_for output_for ports_in known_kind sized frames tags
fetch_copes (state, store, out, report) = copes _ (λ l. rw l, λ l. rw l (refl, refl, refl))

-- The ports read out, each port's eight bytes a lent slice, and the reply's two bytes.

abbrev pub ports : List (List ℕ) × List (List ℕ) → Call
ports (state, out) =
    stateless (Unless 9 (rows_of (ports_of (group_at state)) (length state) && length out == ports_of (group_at state)) ∷ [])
    (ports_answer state (length out)) out (ports_out state out)

pub ports_copes : (x : List (List ℕ) × List (List ℕ)) → Copes (ports x)
unfolding ports_answer ports_out shown_fit rows_fit ports_in known_kind sized frames tags
ports_copes (state, out) = copes _ (λ l. rw l, λ l. rw l (refl, refl, refl))

abbrev pub reply : List (List ℕ) × ℕ × List ℕ → Call
reply (state, epoch, out) =
    stateless (Unless 9 (rows_of (ports_of (group_at state)) (length state) && length out == 2) ∷ [])
    (reply_answer state (length out)) (out ∷ []) (reply_out state epoch out ∷ [])

pub reply_copes : (x : List (List ℕ) × ℕ × List ℕ) → Copes (reply x)
unfolding reply_answer reply_out reply_fit rows_fit ports_in known_kind sized frames tags
reply_copes (state, epoch, out) = copes _ (λ l. rw l, λ l. rw l (refl, refl, refl))
