-- However a recording is cut into parts, and however often a host calls between them, the output is the same: the whole output of the joined
-- recording. The proof goes call by call: what is printed, and what is still to come of it, stays.
use Rattle.std.specs.Prelude.{◌≡◌, ℕ, zero, suc, ◌+◌, ◌-◌, ◌*◌, ◌<◌, ◌≤◌, Bool, true, false, cond, ltb, ◌⊎◌, List, [], ◌∷◌, ◌++◌, length, take, drop, replicate, ◌==◌, ◌≢◌, nat_eq, nat_le, nat_lt}
use Rattle.std.proofs.Math.Path.{refl, sym, ap}
use Rattle.std.proofs.Common.{◌∙◌, inl, inr, mul-le-mul_left, mul-le-mul_right, take-take}
use Rattle.std.proofs.Math.Bool.{false≢true}
use mathlib.Core.List.{append_assoc, append-nil}
use native.Mathlib.Omega.{arith}
use lib.ListN.{length-append, length-drop, length-replicate}
use Rattle.std.proofs.Math.Seq.{slice, drop-length, drop-nil, take-append_seam}
use borrow.Author.Tests.{le-leb, lt-leb, lt-ltb, ltb-false, ltb-true}
use Rattle.ground.specs.Finding.{index_of}
use Rattle.ground.specs.Truth.{and-true}
use Rattle.packet.specs.Kinds.{frames}
use Rattle.receiver.specs.Fetch.{fetch_of}
use Rattle.receiver.specs.Frame.{frame_of}
use Rattle.receiver.specs.Laws.Sizes.{start_sizes_of}
use Rattle.recording.specs.declared.opening.Opening.{Opening}
use Rattle.recording.specs.declared.opening.Opening.TheVariants as O
use Rattle.recording.specs.Theorems.Lines.{IsLine, going_to, is_line, is_settled, line_going, line_lies, line_opens, opening_settled, opens_to}
use Rattle.recording.specs.Theorems.Lines.IsLine.{frame, malformed}
use Rattle.recording.specs.declared.pairs.Settings.{Settings as GroupSettings}
use Rattle.recording.specs.declared.record.Record.{Record}
use Rattle.recording.specs.declared.record.Record.TheVariants.{Frame, Malformed, Long, Unfinished, End}
use Rattle.recording.specs.Line.{MOST, found_of}
use Rattle.recording.specs.Opening.{line_opening, opening_in}
use Rattle.recording.specs.Record.{last_record, line_record, record_in}
use Rattle.replay_lines.specs.declared.replay.Phase.{Phase}
use Rattle.replay_lines.specs.declared.replay.Phase.TheVariants.{Settings, Reading, Fetching, Skipping, Ended}
use Rattle.replay_lines.specs.declared.replay.Replay.{Replay}
use Rattle.replay_lines.specs.Coming.{behind_of, desk_of, is_done, to_come, to_come_by}
use Rattle.replay_lines.specs.Deeds.{Deed, begins_with, closed, does, has_read, joined, joined_from, last_calls, run, turns_left, wants_within, with_end}
use Rattle.replay_lines.specs.Deeds.Deed.{Call, Close, Read}
use Rattle.replay_lines.specs.Laws.Lent.{Lent, lent_is}
use Rattle.replay_lines.specs.Laws.Lengths.{fetch_record_alike, fetch_rows_alike, length_fetch_out, length_fetch_rows, length_frame_rows, length_frame_store, length_part, length_started_rows}
use Rattle.replay_lines.specs.Laws.Starts.{start_sized_lem, start_stored}
use Rattle.replay_lines.specs.Laws.Texts.{behind_append, behind_none, first_of, free_all, free_behind, goes_on_lem, lines_first, lines_last, no_lines}
use Rattle.replay_lines.specs.Output.{ROOM, answer_text}
use Rattle.replay_lines.specs.Replay.{next_line, output_of, store_of}
use Rattle.replay_lines.specs.Runs.{Host, answer, called, calls, desk_after, output_from, said_to, whole_output}
use Rattle.replay_lines.specs.Theorems.Ends.{called_narrow, calls_narrow, ends}
use Rattle.replay_lines.specs.Theorems.Lines.{bad_first_line, bad_settings}
use Rattle.replay_lines.specs.Theorems.Used.{line_closed}
use Rattle.replay_lines.specs.Turn as T
use Rattle.replay_lines.specs.Turn.{over, in_phase}
use Rattle.rows.specs.Rows.{rows_for}
use Rattle.text.specs.Text.{LINE-END, ahead, lines_of}

module _ (out : List ℕ) where
  -- buffers of the right lengths
  abbrev pub LentBy : Phase → Host → Type 0
  LentBy Settings h = Unit {0}
  LentBy Reading h = Lent h.replay (length h.rows) (length h.store) (length h.out) (length h.buffer)
  LentBy Fetching h = Lent h.replay (length h.rows) (length h.store) (length h.out) (length h.buffer)
  LentBy Skipping h = Lent h.replay (length h.rows) (length h.store) (length h.out) (length h.buffer)
  LentBy Ended h = Unit {0}

  pub record Fit (h : Host) : Type 0 where
    pub room : ROOM ≤ length h.buffer
    pub full : 321 ≤ length h.rows
    pub same : length h.out ≡ length out
    pub enough : length h.store ≤ length out
    pub lent : LentBy h.replay.phase h

  -- one call keeps what is printed and still to come; the last text has no more behind it
  pub record Keeps (last : Bool) (h g : Host) : Type 0 where
    pub fit : Fit g
    pub whole : (more : List ℕ) (later : List (List ℕ)) → (last ≡ true → more ≡ []) → g.said ++ to_come out g more later ≡ h.said ++ to_come out h more later

-- a host by its parts
abbrev host : Phase → ℕ → ℕ → ℕ → ℕ → ℕ → ℕ → List (List ℕ) → List ℕ → List ℕ → List ℕ → List ℕ → List ℕ → Host
host phase line left kind ports size window rows store lent buffer text said =
    record {
      replay = record { phase = phase; line = line; left = left; kind = kind; ports = ports; size = size; window = window };
      rows = rows;
      store = store;
      out = lent;
      buffer = buffer;
      text = text;
      said = said;
    }

over_room : (text buffer : List ℕ) → ROOM ≤ length buffer → ROOM ≤ length (over text buffer)
over_room text buffer h =
    let n = length-append text (drop (length text) buffer) in
    let d = length-drop (length text) buffer in
    omega arith

-- the same settings in another phase
same_lent : {r : Replay} {phase : Phase} {line left rows store out said : ℕ} → Lent r rows store out said → Lent (in_phase r phase line left) rows store out said
same_lent l = record { room = l.room; ports_most = l.ports_most; size_most = l.size_most; rows_there = l.rows_there; store_there = l.store_there; out_there = l.out_there }

-- lent as much as before
lent_again : {r : Replay} {rows store out said rows' store' out' said' : ℕ} → rows' ≡ rows → store' ≡ store → out' ≡ out → ROOM ≤ said' → Lent r rows store out said → Lent r rows' store' out' said'
lent_again a b c d l = record { room = d; ports_most = l.ports_most; size_most = l.size_most; rows_there = rw a l.rows_there; store_there = rw b l.store_there; out_there = rw c l.out_there }

-- what a call has written at the front of the buffer
written : (said text buffer more : List ℕ) → (said ++ take (length text) (over text buffer)) ++ more ≡ said ++ (text ++ more)
written said text buffer more = rw (take-append_seam text (drop (length text) buffer)) (append_assoc said text more)

module _ (out : List ℕ) (line left kind ports size window : ℕ) (rows : List (List ℕ)) (store lent buffer text said : List ℕ) where
  ended_keeps : (last : Bool) → Fit out (host Ended line left kind ports size window rows store lent buffer text said)
      → Keeps out last (host Ended line left kind ports size window rows store lent buffer text said) (called last (host Ended line left kind ports size window rows store lent buffer text said))
  unfolding called T.turn_of T.turn_rows T.turn_store T.turn_out T.turn_said
  ended_keeps last f =
      record {
        fit = record { room = f.room; full = f.full; same = f.same; enough = f.enough; lent = tt };
        whole = λ more later g. rw append-nil;
      }

  abbrev skipping : Host
  skipping = host Skipping line left kind ports size window rows store lent buffer text said

  skip_keeps : (last : Bool) → Fit out skipping → Keeps out last skipping (called last skipping)
  unfolding called T.turn_of T.turn_rows T.turn_store T.turn_out T.turn_said T.skip_turn
  skip_keeps last f = go (nat_lt (index_of LINE-END text) (length text)) last refl
    where
      go : (b l : Bool) → nat_lt (index_of LINE-END text) (length text) ≡ b → Keeps out l skipping (called l skipping)
      go true l e =
          let h = ltb-true (index_of LINE-END text) (length text) e in
          rw e (record { fit = record { room = f.room; full = f.full; same = f.same; enough = f.enough; lent = same_lent f.lent }; whole = λ more later g. rw (behind_append text more h, append-nil said) })
      go false true e =
          let h = ltb-false (index_of LINE-END text) (length text) e in
          rw e
          (record {
            fit = record { room = f.room; full = f.full; same = f.same; enough = f.enough; lent = same_lent f.lent };
            whole = λ more later g. rw (g refl, drop-length text, append-nil said, append-nil text, behind_none text h);
          })
      go false false e =
          let h = ltb-false (index_of LINE-END text) (length text) e in
          rw e
          (record {
            fit = record { room = f.room; full = f.full; same = f.same; enough = f.enough; lent = same_lent f.lent };
            whole = λ more later g. rw (free_behind text more (free_all text h), drop-length text, append-nil said);
          })

-- a fetch into another output of the same length
module _ (r : Replay) (rows : List (List ℕ)) (store lent out : List ℕ) (e : length lent ≡ length out) where
  record_alike : T.fetch_record_by r rows store lent ≡ T.fetch_record_by (in_phase r Reading r.line 0) rows store out
  unfolding T.fetch_record_by
  record_alike = fetch_record_alike (take (rows_for r.ports) rows) (take (store_of r.ports r.size r.window) store) out _ lent e

  rows_alike : T.fetch_rows_by r rows store lent ≡ T.fetch_rows_by (in_phase r Reading r.line 0) rows store out
  unfolding T.fetch_rows_by
  rows_alike = ap (λ (x : List (List ℕ)). x ++ drop (rows_for r.ports) rows) (fetch_rows_alike (take (rows_for r.ports) rows) (take (store_of r.ports r.size r.window) store) out _ lent e)

  report_alike : T.report_printed r rows store lent ≡ T.report_printed (in_phase r Reading r.line 0) rows store out
  unfolding T.report_printed
  report_alike = rw (record_alike, rows_alike)

  length_rows : rows_for r.ports ≤ length rows → length (T.fetch_rows_by r rows store lent) ≡ length rows
  unfolding T.fetch_rows_by
  length_rows h = length_part (rows_for r.ports) rows (fetch_of (take (rows_for r.ports) rows) (take (store_of r.ports r.size r.window) store) lent (replicate 8 0)).rows h (length_fetch_rows (take (rows_for r.ports) rows) (take (store_of r.ports r.size r.window) store) lent (replicate 8 0))

  length_out : length (T.fetch_out_by r rows store lent) ≡ length lent
  unfolding T.fetch_out_by
  length_out = length_fetch_out (take (rows_for r.ports) rows) (take (store_of r.ports r.size r.window) store) lent (replicate 8 0)

module _ (out : List ℕ) (line kind ports size window : ℕ) (rows : List (List ℕ)) (store lent buffer text said : List ℕ) where
  abbrev fetching : ℕ → Host
  fetching left = host Fetching line left kind ports size window rows store lent buffer text said

  report_keeps : (left : ℕ) (last : Bool) → Fit out (fetching left) → Keeps out last (fetching left) (called last (fetching left))
  unfolding called T.turn_of T.turn_rows T.turn_store T.turn_out T.turn_said T.report_turn T.report_rows T.report_out T.report_said T.fetched_turn T.fetched_said T.read_on_turn T.reported_turn
  report_keeps zero last f =
      let t = lent_is (fetching zero).replay (length rows) (length store) (length lent) (length buffer) f.lent in
      rw t (record { fit = record { room = f.room; full = f.full; same = f.same; enough = f.enough; lent = same_lent f.lent }; whole = λ more later g. rw (append-nil said) })
  report_keeps (suc k) last f = go (T.is_due (fetching (suc k)).replay rows store lent) refl
    where
      r : Replay
      r = (fetching (suc k)).replay

      t : T.is_lent (fetching (suc k)).replay (length rows) (length store) (length lent) (length buffer) ≡ true
      t = lent_is (fetching (suc k)).replay (length rows) (length store) (length lent) (length buffer) f.lent

      ra : T.fetch_rows_by (fetching (suc k)).replay rows store lent ≡ T.fetch_rows_by (in_phase (fetching (suc k)).replay Reading line 0) rows store out
      ra = rows_alike (fetching (suc k)).replay rows store lent out f.same

      ca : T.fetch_record_by (fetching (suc k)).replay rows store lent ≡ T.fetch_record_by (in_phase (fetching (suc k)).replay Reading line 0) rows store out
      ca = record_alike (fetching (suc k)).replay rows store lent out f.same

      pa : T.report_printed (fetching (suc k)).replay rows store lent ≡ T.report_printed (in_phase (fetching (suc k)).replay Reading line 0) rows store out
      pa = report_alike (fetching (suc k)).replay rows store lent out f.same

      lr : length (T.fetch_rows_by (fetching (suc k)).replay rows store lent) ≡ length rows
      lr = length_rows (fetching (suc k)).replay rows store lent out f.same f.lent.rows_there

      lo : length (T.fetch_out_by (fetching (suc k)).replay rows store lent) ≡ length lent
      lo = length_out (fetching (suc k)).replay rows store lent out f.same

      due : T.is_due (fetching (suc k)).replay rows store lent ≡ T.is_due (in_phase (fetching (suc k)).replay Reading line 0) rows store out
      due = ap (λ (x : List ℕ). ltb 0 (lib.ListN.get_or x 0 0)) ca

      less : suc k - 1 ≡ k
      less = omega arith

      some : ltb 0 (suc k) ≡ true
      some = lt-ltb 0 (suc k) (omega arith)

      go : (b : Bool) → T.is_due (fetching (suc k)).replay rows store lent ≡ b → Keeps out last (fetching (suc k)) (called last (fetching (suc k)))
      go true e =
          let d = sym due ∙ e in
          rw (t, some, e, less)
          (record {
            fit =
                record {
                  room = over_room (T.report_printed (fetching (suc k)).replay rows store lent) buffer f.room;
                  full = rw lr f.full;
                  same = lo ∙ f.same;
                  enough = f.enough;
                  lent = same_lent (lent_again lr refl lo (over_room (T.report_printed (fetching (suc k)).replay rows store lent) buffer f.room) f.lent);
                };
            whole = λ more later g.
                written said (T.report_printed (fetching (suc k)).replay rows store lent) buffer _
                ∙ rw (d, ra, pa) (ap (λ (x : List ℕ). said ++ x) (sym (append_assoc (T.report_printed (in_phase (fetching (suc k)).replay Reading line 0) rows store out) _ _)));
          })
      go false e =
          let d = sym due ∙ e in
          rw (t, some, e)
          (record {
            fit = record { room = f.room; full = rw lr f.full; same = lo ∙ f.same; enough = f.enough; lent = same_lent (lent_again lr refl lo f.room f.lent) };
            whole = λ more later g. rw (d, ra, append-nil said);
          })

-- a frame keeps the lengths of rows and store
module _ (r : Replay) (port h4 : ℕ) (flag : Bool) (payload : List ℕ) (rows : List (List ℕ)) (store : List ℕ) where
  framed_rows_lem : rows_for r.ports ≤ length rows → length (T.framed_rows r port h4 flag payload rows store) ≡ length rows
  unfolding T.framed_rows
  framed_rows_lem h =
      length_part (rows_for r.ports) rows (frame_of (take (rows_for r.ports) rows) port flag h4 payload (take (store_of r.ports r.size r.window) store)).rows h
      (length_frame_rows (take (rows_for r.ports) rows) port flag h4 payload (take (store_of r.ports r.size r.window) store))

  framed_store_lem : store_of r.ports r.size r.window ≤ length store → length (T.framed_store r port h4 flag payload rows store) ≡ length store
  unfolding T.framed_store
  framed_store_lem h =
      length_part (store_of r.ports r.size r.window) store (frame_of (take (rows_for r.ports) rows) port flag h4 payload (take (store_of r.ports r.size r.window) store)).store h
      (length_frame_store (take (rows_for r.ports) rows) port flag h4 payload (take (store_of r.ports r.size r.window) store))

long_line : (ports size : ℕ) (l : List ℕ) → MOST < length l → line_record ports size 0 0 l ≡ Malformed 0
unfolding line_record
long_line ports size l m = rw (lt-leb (length l) MOST m)

-- a part of a text's front is a part of the text
front_slice : (n p e : ℕ) (t : List ℕ) → e ≤ length (take n t) → slice p e t ≡ slice p e (take n t)
front_slice n p e t h =
    let m = lib.ListN.length-take n t in
    ap (drop p) (sym (take-take e n t (omega arith)))

payload_alike : (size place : ℕ) (t l : List ℕ) → slice place (place + size + size) t ≡ slice place (place + size + size) l → T.payload_at size place t ≡ T.payload_at size place l
unfolding T.payload_at
payload_alike size place t l e = rw e

module _ (out : List ℕ) (line left kind ports size window : ℕ) (rows : List (List ℕ)) (store lent buffer text said : List ℕ) where
  abbrev reading : Host
  reading = host Reading line left kind ports size window rows store lent buffer text said

  -- no line has ended
  wait_keeps : (last : Bool) → Fit out reading → T.now_in reading.replay text last ≡ End → Keeps out last reading (called last reading)
  unfolding called T.turn_of T.turn_rows T.turn_store T.turn_out T.turn_said T.read_turn T.read_rows T.read_store T.read_said
  wait_keeps last f e =
      let t = lent_is reading.replay (length rows) (length store) (length lent) (length buffer) f.lent in
      rw (t, e) (record { fit = record { room = f.room; full = f.full; same = f.same; enough = f.enough; lent = f.lent }; whole = λ more later g. rw (append-nil said) })

  open_keeps : (last : Bool) → Fit out reading → T.now_in reading.replay text last ≡ Unfinished → Keeps out last reading (called last reading)
  unfolding called T.turn_of T.turn_rows T.turn_store T.turn_out T.turn_said T.read_turn T.read_rows T.read_store T.read_said
  open_keeps last f e =
      let t = lent_is reading.replay (length rows) (length store) (length lent) (length buffer) f.lent in
      rw (t, e) (record { fit = record { room = f.room; full = f.full; same = f.same; enough = f.enough; lent = f.lent }; whole = λ more later g. rw (append-nil said) })

  -- a line too long: it is malformed however it goes on
  long_keeps : (last : Bool) → Fit out reading → T.now_in reading.replay text last ≡ Long → length text ≤ index_of LINE-END text → MOST < length text → Keeps out last reading (called last reading)
  unfolding called T.turn_of T.turn_rows T.turn_store T.turn_out T.turn_said T.read_turn T.read_rows T.read_store T.read_said T.answered_turn T.answered_said said_to desk_after
  long_keeps last f e h k =
      let t = lent_is reading.replay (length rows) (length store) (length lent) (length buffer) f.lent in
      rw (t, e)
      (record {
        fit =
            record {
              room = over_room (answer_text 13 (next_line line)) buffer f.room;
              full = f.full;
              same = f.same;
              enough = f.enough;
              lent = same_lent (lent_again refl refl refl (over_room (answer_text 13 (next_line line)) buffer f.room) f.lent);
            };
        whole = λ more later g.
            let w = goes_on_lem text more (free_all text h) (omega arith) in
            written said (answer_text 13 (next_line line)) buffer _ ∙ rw (w.lines, long_line ports size w.line (let q = w.long in omega arith), drop-length text);
      })

  -- a line that is whole
  module _ (last : Bool) (f : Fit out reading) (n : ℕ) (l : List ℕ) (now : T.now_in reading.replay text last ≡ line_record ports size 0 n l)
      (lines : (more : List ℕ) → (last ≡ true → more ≡ []) → lines_of (text ++ more) ≡ l ∷ lines_of (drop n text ++ more))
      (parts : (p e : ℕ) → e ≤ length l → slice p e text ≡ slice p e l) where
    frame_keeps : (port h4 : ℕ) (flag : Bool) (place next : ℕ) → line_record ports size 0 n l ≡ Frame port h4 flag place next → Keeps out last reading (called last reading)
    unfolding called T.turn_of T.turn_rows T.turn_store T.turn_out T.turn_said T.read_turn T.read_rows T.read_store T.read_said T.framed_turn said_to desk_after
    frame_keeps port h4 flag place next e =
        let t = lent_is reading.replay (length rows) (length store) (length lent) (length buffer) f.lent in
        let q = now ∙ e in
        let s : Frame port h4 flag place next ≡ Frame port h4 flag place n = sym e ∙ (line_going ports size 0 n n l ∙ ap (going_to n) e) in
        let z : next ≡ n = cc in
        let i : line_record ports size 0 0 l ≡ Frame port h4 flag place 0 = line_going ports size 0 0 n l ∙ ap (going_to 0) e in
        let y = payload_alike size place text l (parts place (place + size + size) ((line_lies ports size n l).within port h4 flag place next e)) in
        let lr = framed_rows_lem reading.replay port h4 flag (T.payload_at size place text) rows store f.lent.rows_there in
        let ls = framed_store_lem reading.replay port h4 flag (T.payload_at size place text) rows store f.lent.store_there in
        rw (t, q)
        (record {
          fit = record { room = f.room; full = framed_full lr; same = f.same; enough = framed_enough ls; lent = framed_lent lr ls };
          whole = λ more later g. rw (lines more g, i, z, y, append-nil said);
        })
      where
        framed_full : length (T.framed_rows reading.replay port h4 flag (T.payload_at size place text) rows store) ≡ length rows → 321 ≤ length (T.framed_rows reading.replay port h4 flag (T.payload_at size place text) rows store)
        framed_full lr = rw lr f.full

        framed_enough : length (T.framed_store reading.replay port h4 flag (T.payload_at size place text) rows store) ≡ length store → length (T.framed_store reading.replay port h4 flag (T.payload_at size place text) rows store) ≤ length out
        framed_enough ls = rw ls f.enough

        framed_lent : length (T.framed_rows reading.replay port h4 flag (T.payload_at size place text) rows store) ≡ length rows
            → length (T.framed_store reading.replay port h4 flag (T.payload_at size place text) rows store) ≡ length store
            → Lent (in_phase reading.replay Fetching (next_line line) window) (length (T.framed_rows reading.replay port h4 flag (T.payload_at size place text) rows store)) (length (T.framed_store reading.replay port h4 flag (T.payload_at size place text) rows store)) (length lent) (length buffer)
        framed_lent lr ls = same_lent (lent_again lr ls refl f.room f.lent)

    malformed_keeps : (next : ℕ) → line_record ports size 0 n l ≡ Malformed next → Keeps out last reading (called last reading)
    unfolding called T.turn_of T.turn_rows T.turn_store T.turn_out T.turn_said T.read_turn T.read_rows T.read_store T.read_said T.answered_turn T.answered_said said_to desk_after
    malformed_keeps next e =
        let t = lent_is reading.replay (length rows) (length store) (length lent) (length buffer) f.lent in
        let q = now ∙ e in
        let s : Malformed next ≡ Malformed n = sym e ∙ (line_going ports size 0 n n l ∙ ap (going_to n) e) in
        let z : next ≡ n = cc in
        let i : line_record ports size 0 0 l ≡ Malformed 0 = line_going ports size 0 0 n l ∙ ap (going_to 0) e in
        rw (t, q)
        (record {
          fit =
              record {
                room = over_room (answer_text 13 (next_line line)) buffer f.room;
                full = f.full;
                same = f.same;
                enough = f.enough;
                lent = same_lent (lent_again refl refl refl (over_room (answer_text 13 (next_line line)) buffer f.room) f.lent);
              };
          whole = λ more later g. written said (answer_text 13 (next_line line)) buffer _ ∙ rw (lines more g, i, z);
        })

    line_keeps : Keeps out last reading (called last reading)
    line_keeps = go (line_record ports size 0 n l) refl (is_line ports size 0 n l)
      where
        go : (x : Record) → line_record ports size 0 n l ≡ x → IsLine x → Keeps out last reading (called last reading)
        go (Frame port h4 flag place next) e frame = frame_keeps port h4 flag place next e
        go (Malformed next) e malformed = malformed_keeps next e
        go Long e none = elim none [ ]
        go Unfinished e none = elim none [ ]
        go End e none = elim none [ ]

  -- what stands at the beginning of the text
  now_nothing : (last : Bool) → (length text == 0) ≡ true → T.now_in reading.replay text last ≡ End
  unfolding T.record_now record_in found_of
  now_nothing last a = rw a

  module _ (last : Bool) (a : nat_eq (length text) 0 ≡ false) where
    now_line : ltb (index_of LINE-END text) (length text) ≡ true → T.now_in reading.replay text last ≡ line_record ports size 0 (0 + index_of LINE-END text + 1) (first_of text)
    unfolding T.record_now record_in found_of
    now_line b = rw (a, b, line_closed (is_line ports size 0 (0 + index_of LINE-END text + 1) (first_of text)))

    module _ (b : ltb (index_of LINE-END text) (length text) ≡ false) where
      now_long : ltb MOST (length text) ≡ true → T.now_in reading.replay text last ≡ Long
      unfolding T.record_now record_in found_of
      now_long c = rw (a, b, c)

      now_open : ltb MOST (length text) ≡ false → last ≡ false → T.now_in reading.replay text last ≡ Unfinished
      unfolding T.record_now record_in found_of
      now_open c t = rw (a, b, c, t)

      now_last : ltb MOST (length text) ≡ false → last ≡ true → T.now_in reading.replay text last ≡ line_record ports size 0 (0 + length text) text
      unfolding T.record_now record_in found_of last_record
      now_last c t = rw (a, b, c, t)

  some_text : nat_eq (length text) 0 ≡ false → 0 < length text
  some_text a = go (length text) (borrow.Author.Tests.eqb-false (length text) 0 a)
    where
      go : (n : ℕ) → (n ≢ 0) → 0 < n
      go zero d = absurd (d refl)
      go (suc n) d = omega arith

  read_keeps : (last : Bool) → Fit out reading → Keeps out last reading (called last reading)
  read_keeps last f = go (length text == 0) (nat_lt (index_of LINE-END text) (length text)) (nat_lt MOST (length text)) last refl refl refl
    where
      go : (a b c l : Bool) → (length text == 0) ≡ a → nat_lt (index_of LINE-END text) (length text) ≡ b → nat_lt MOST (length text) ≡ c → Keeps out l reading (called l reading)
      go true b c l ea eb ec = wait_keeps l f (now_nothing l ea)
      go false true c l ea eb ec =
          let h = ltb-true (index_of LINE-END text) (length text) eb in
          let z : 0 + index_of LINE-END text + 1 ≡ index_of LINE-END text + 1 = omega arith in
          line_keeps l f (0 + index_of LINE-END text + 1) (first_of text) (now_line l ea eb) (λ more g. rw z (lines_first text more h)) (λ p e k. front_slice (index_of LINE-END text) p e text k)
      go false false true l ea eb ec = long_keeps l f (now_long l ea eb ec) (ltb-false (index_of LINE-END text) (length text) eb) (ltb-true MOST (length text) ec)
      go false false false false ea eb ec = open_keeps false f (now_open false ea eb ec refl)
      go false false false true ea eb ec =
          let h = ltb-false (index_of LINE-END text) (length text) eb in
          let z : 0 + length text ≡ length text = omega arith in
          line_keeps true f (0 + length text) text (now_last true ea eb ec refl)
          (λ more g. rw (g refl, append-nil, append-nil, z, drop-length text, no_lines) (lines_last text (free_all text h) (some_text ea)))
          (λ p e k. refl)

-- the first line
record FirstBad (t : List ℕ) : Type 0 where
  line : List ℕ
  rest : List (List ℕ)
  lines : lines_of t ≡ line ∷ rest
  bad : line_opening 0 line ≡ O.Malformed

-- an epoch's output is no longer than the store
output_le : (k p s w : ℕ) → frames k ≤ w → output_of k p s ≤ store_of p s w
output_le k p s w h =
    let a : p * frames k ≤ p * w = mul-le-mul_left p h in
    let b : p * frames k * s ≤ p * w * s = mul-le-mul_right s a in
    let c : p * w * s ≤ p * w * (s + 1) = mul-le-mul_left (p * w) (omega arith) in
    omega arith

long_opening : (l : List ℕ) → MOST < length l → line_opening 0 l ≡ O.Malformed
unfolding line_opening
long_opening l m = rw (lt-leb (length l) MOST m)

module _ (out : List ℕ) (line left kind ports size window : ℕ) (rows : List (List ℕ)) (store lent buffer text said : List ℕ) where
  abbrev starting : Host
  starting = host Settings line left kind ports size window rows store lent buffer text said

  open_lent_lem : Fit out starting → T.open_lent (length rows) (length buffer) ≡ true
  open_lent_lem f = and-true (nat_le ROOM (length buffer)) (nat_le 321 (length rows)) (le-leb ROOM (length buffer) f.room) (le-leb 321 (length rows) f.full)

  -- nothing is done
  first_waits : (last : Bool) → Fit out starting → (x : Opening) → opening_in 0 last text ≡ x → (x ≡ O.Unfinished) ⊎ (x ≡ O.End) → Keeps out last starting (called last starting)
  unfolding called T.turn_of T.turn_rows T.turn_store T.turn_out T.turn_said T.open_turn T.open_rows T.open_said
  first_waits last f x e (inl u) =
      let t = open_lent_lem f in
      rw (t, e ∙ u) (record { fit = record { room = f.room; full = f.full; same = f.same; enough = f.enough; lent = tt }; whole = λ more later g. rw (append-nil said) })
  first_waits last f x e (inr u) =
      let t = open_lent_lem f in
      rw (t, e ∙ u) (record { fit = record { room = f.room; full = f.full; same = f.same; enough = f.enough; lent = tt }; whole = λ more later g. rw (append-nil said) })

  -- the first line is refused, whatever follows
  first_refused : (last : Bool) → Fit out starting → opening_in 0 last text ≡ O.Malformed
      → ((more : List ℕ) → (last ≡ true → more ≡ []) → FirstBad (text ++ more))
      → Keeps out last starting (called last starting)
  unfolding called T.turn_of T.turn_rows T.turn_store T.turn_out T.turn_said T.open_turn T.open_rows T.open_said T.answered_turn T.answered_said
  first_refused last f e lines =
      let t = open_lent_lem f in
      rw (t, e)
      (record {
        fit = record { room = over_room (answer_text 13 (next_line line)) buffer f.room; full = f.full; same = f.same; enough = f.enough; lent = tt };
        whole = λ more later g.
            let w = lines more g in
            written said (answer_text 13 (next_line line)) buffer [] ∙ rw w.lines (ap (λ (x : List ℕ). said ++ x) (sym (bad_first_line out (desk_of starting) w.line (w.rest ++ later) refl w.bad)));
      })

  -- the first line is whole
  module _ (last : Bool) (f : Fit out starting) (n : ℕ) (l : List ℕ) (now : opening_in 0 last text ≡ line_opening n l)
      (lines : (more : List ℕ) → (last ≡ true → more ≡ []) → lines_of (text ++ more) ≡ l ∷ lines_of (drop n text ++ more)) where
    settings_four : (s : GroupSettings) (next : ℕ) → line_opening n l ≡ O.Settings s next → T.startable s (length store) ≡ false → Keeps out last starting (called last starting)
    unfolding called T.turn_of T.turn_rows T.turn_store T.turn_out T.turn_said T.open_turn T.open_rows T.open_said T.open_with_turn T.open_with_rows T.open_with_said T.answered_turn T.answered_said
    settings_four s next e b =
        let t = open_lent_lem f in
        let i : line_opening 0 l ≡ O.Settings s 0 = line_opens 0 n l ∙ ap (opens_to 0) e in
        rw (t, now ∙ e, b)
        (record {
          fit = record { room = over_room (answer_text 4 (next_line line)) buffer f.room; full = f.full; same = f.same; enough = f.enough; lent = tt };
          whole = λ more later g. written said (answer_text 4 (next_line line)) buffer [] ∙ rw (lines more g) (ap (λ (x : List ℕ). said ++ x) (sym (bad_settings out (desk_of starting) l (lines_of (drop n text ++ more) ++ later) refl s 0 i b)));
        })

    settings_set : (s : GroupSettings) (next : ℕ) → line_opening n l ≡ O.Settings s next → T.startable s (length store) ≡ true → Keeps out last starting (called last starting)
    unfolding called T.turn_of T.turn_rows T.turn_store T.turn_out T.turn_said T.open_turn T.open_rows T.open_said T.open_with_turn T.open_with_rows T.open_with_said said_to desk_after
    settings_set s next e b =
        let t = open_lent_lem f in
        let q : O.Settings s next ≡ O.Settings s n = sym e ∙ (line_opens n n l ∙ ap (opens_to n) e) in
        let z : next ≡ n = cc in
        let i : line_opening 0 l ≡ O.Settings s 0 = line_opens 0 n l ∙ ap (opens_to 0) e in
        let p = s.ports in
        let c = start_sizes_of s.kind p s.size s.window (start_sized_lem s (length store) b) in
        let d = start_stored s (length store) b in
        let k = output_le s.kind p s.size s.window c.wide in
        let m : rows_for p ≤ length rows = (let x = c.few_ports in let y = f.full in omega arith) in
        let zs = T.cleared_rows rows in
        let lz : length zs ≡ length rows = length-replicate (length rows) _ in
        let mz : rows_for p ≤ length zs = rw lz m in
        let lr = length_part (rows_for p) zs (T.started_rows s (take (rows_for p) zs)) mz (length_started_rows s (take (rows_for p) zs)) ∙ lz in
        let ls : length (T.cleared_store store) ≡ length store = length-replicate (length store) 0 in
        let o = f.same in
        let v = f.enough in
        rw (t, now ∙ e, b)
        (record {
          fit =
              record {
                room = f.room;
                full = rw lr f.full;
                same = f.same;
                enough = rw ls f.enough;
                lent = record { room = f.room; ports_most = c.few_ports; size_most = c.few_bytes; rows_there = rw lr m; store_there = rw ls d; out_there = omega arith };
              };
          whole = λ more later g. rw (lines more g, i, z, b, append-nil said);
        })

    opened_keeps : Keeps out last starting (called last starting)
    opened_keeps = go (line_opening n l) refl
      where
        go : (x : Opening) → line_opening n l ≡ x → Keeps out last starting (called last starting)
        go (O.Settings s next) e = by (T.startable s (length store)) refl
          where
            by : (b : Bool) → T.startable s (length store) ≡ b → Keeps out last starting (called last starting)
            by true b = settings_set s next e b
            by false b = settings_four s next e b
        go O.Malformed e = first_refused last f (now ∙ e) (λ more g. record { line = l; rest = lines_of (drop n text ++ more); lines = lines more g; bad = line_opens 0 n l ∙ ap (opens_to 0) e })
        go O.Unfinished e = first_waits last f O.Unfinished (now ∙ e) (inl refl)
        go O.End e = first_waits last f O.End (now ∙ e) (inr refl)

  first_nothing : (last : Bool) → (length text == 0) ≡ true → opening_in 0 last text ≡ O.End
  unfolding opening_in found_of
  first_nothing last a = rw a

  module _ (last : Bool) (a : nat_eq (length text) 0 ≡ false) where
    first_line_lem : ltb (index_of LINE-END text) (length text) ≡ true → opening_in 0 last text ≡ line_opening (0 + index_of LINE-END text + 1) (first_of text)
    unfolding opening_in found_of
    first_line_lem b = rw (a, b)

    module _ (b : ltb (index_of LINE-END text) (length text) ≡ false) where
      first_long : ltb MOST (length text) ≡ true → opening_in 0 last text ≡ O.Malformed
      unfolding opening_in found_of
      first_long c = rw (a, b, c)

      first_open : ltb MOST (length text) ≡ false → last ≡ false → opening_in 0 last text ≡ O.Unfinished
      unfolding opening_in found_of
      first_open c t = rw (a, b, c, t)

      first_last : ltb MOST (length text) ≡ false → last ≡ true → opening_in 0 last text ≡ line_opening (0 + length text) text
      unfolding opening_in found_of
      first_last c t = rw (a, b, c, t)

  some_first : nat_eq (length text) 0 ≡ false → 0 < length text
  some_first a = go (length text) (borrow.Author.Tests.eqb-false (length text) 0 a)
    where
      go : (n : ℕ) → (n ≢ 0) → 0 < n
      go zero d = absurd (d refl)
      go (suc n) d = omega arith

  first_keeps : (last : Bool) → Fit out starting → Keeps out last starting (called last starting)
  first_keeps last f = go (length text == 0) (nat_lt (index_of LINE-END text) (length text)) (nat_lt MOST (length text)) last refl refl refl
    where
      go : (a b c l : Bool) → (length text == 0) ≡ a → nat_lt (index_of LINE-END text) (length text) ≡ b → nat_lt MOST (length text) ≡ c → Keeps out l starting (called l starting)
      go true b c l ea eb ec = first_waits l f O.End (first_nothing l ea) (inr refl)
      go false true c l ea eb ec =
          let h = ltb-true (index_of LINE-END text) (length text) eb in
          let z : 0 + index_of LINE-END text + 1 ≡ index_of LINE-END text + 1 = omega arith in
          opened_keeps l f (0 + index_of LINE-END text + 1) (first_of text) (first_line_lem l ea eb) (λ more g. rw z (lines_first text more h))
      go false false true l ea eb ec =
          let h = ltb-false (index_of LINE-END text) (length text) eb in
          let k = ltb-true MOST (length text) ec in
          first_refused l f (first_long l ea eb ec)
          (λ more g. let w = goes_on_lem text more (free_all text h) (some_first ea) in record { line = w.line; rest = lines_of (behind_of more); lines = w.lines; bad = long_opening w.line (let q = w.long in omega arith) })
      go false false false false ea eb ec = first_waits false f O.Unfinished (first_open false ea eb ec refl) (inl refl)
      go false false false true ea eb ec =
          let h = ltb-false (index_of LINE-END text) (length text) eb in
          let z : 0 + length text ≡ length text = omega arith in
          opened_keeps true f (0 + length text) text (first_last true ea eb ec refl)
          (λ more g. rw (g refl, append-nil, append-nil, z, drop-length text, no_lines) (lines_last text (free_all text h) (some_first ea)))

-- one call
call_keeps : (out : List ℕ) (last : Bool) (h : Host) → Fit out h → Keeps out last h (called last h)
call_keeps out last h = by h.replay.phase h.replay.line h.replay.left h.replay.kind h.replay.ports h.replay.size h.replay.window h.rows h.store h.out h.buffer h.text h.said
  where
    by : (phase : Phase) (line left kind ports size window : ℕ) (rows : List (List ℕ)) (store lent buffer text said : List ℕ) → Fit out (host phase line left kind ports size window rows store lent buffer text said)
        → Keeps out last (host phase line left kind ports size window rows store lent buffer text said) (called last (host phase line left kind ports size window rows store lent buffer text said))
    by Settings line left kind ports size window rows store lent buffer text said f = first_keeps out line left kind ports size window rows store lent buffer text said last f
    by Reading line left kind ports size window rows store lent buffer text said f = read_keeps out line left kind ports size window rows store lent buffer text said last f
    by Fetching line left kind ports size window rows store lent buffer text said f = report_keeps out line kind ports size window rows store lent buffer text said left last f
    by Skipping line left kind ports size window rows store lent buffer text said f = skip_keeps out line left kind ports size window rows store lent buffer text said last f
    by Ended line left kind ports size window rows store lent buffer text said f = ended_keeps out line left kind ports size window rows store lent buffer text said last f

-- between two parts: all text is used, and no line is half read
abbrev pub is_between : Phase → Bool
is_between Settings = true
is_between Reading = true
is_between Fetching = false
is_between Skipping = false
is_between Ended = true

pub record Closed (h : Host) : Type 0 where
  pub used : h.text ≡ []
  pub between_parts : is_between h.replay.phase ≡ true

no_text : (text : List ℕ) → (length text == 0) ≡ true → text ≡ []
no_text [] e = refl
no_text (b ∷ text) e = absurd (let z = borrow.Author.Tests.eqb-true (length (b ∷ text)) 0 e in omega arith)

-- a call with the last text that wants more leaves nothing half read
module _ (out : List ℕ) (line left kind ports size window : ℕ) (rows : List (List ℕ)) (store lent buffer text said : List ℕ) where
  abbrev host_in : Phase → Host
  host_in phase = host phase line left kind ports size window rows store lent buffer text said

  ended_closes : Closed (called true (host_in Ended))
  unfolding called T.turn_of
  ended_closes = record { used = drop-length text; between_parts = refl }

  skip_closes : (answer true (host_in Skipping)).wants ≡ true → Closed (called true (host_in Skipping))
  unfolding called T.turn_of T.skip_turn
  skip_closes w = go (nat_lt (index_of LINE-END text) (length text)) refl w
    where
      go : (b : Bool) → nat_lt (index_of LINE-END text) (length text) ≡ b → (answer true (host_in Skipping)).wants ≡ true → Closed (called true (host_in Skipping))
      go true e w = absurd (false≢true (rw e at w))
      go false e w = rw e (record { used = drop-length text; between_parts = refl })

  report_goes_on : Fit out (host_in Fetching) → (answer true (host_in Fetching)).wants ≢ true
  unfolding T.turn_of T.report_turn T.fetched_turn T.read_on_turn T.reported_turn
  report_goes_on f w =
      let t = lent_is (host_in Fetching).replay (length rows) (length store) (length lent) (length buffer) f.lent in
      go (nat_lt 0 left) (T.is_due (host_in Fetching).replay rows store lent) (rw t at w)
    where
      go : (a b : Bool) → (cond a (cond b (T.reported_turn (host_in Fetching).replay (length (T.report_printed (host_in Fetching).replay rows store lent))) (T.read_on_turn (host_in Fetching).replay)) (T.read_on_turn (host_in Fetching).replay)).wants ≢ true
      go true true e = false≢true e
      go true false e = false≢true e
      go false b e = false≢true e

  read_closes : Fit out (host_in Reading) → (answer true (host_in Reading)).wants ≡ true → Closed (called true (host_in Reading))
  unfolding called T.turn_of T.read_turn T.framed_turn T.answered_turn
  read_closes f w = go (length text == 0) (nat_lt (index_of LINE-END text) (length text)) (nat_lt MOST (length text)) refl refl refl
    where
      t : T.is_lent (host_in Reading).replay (length rows) (length store) (length lent) (length buffer) ≡ true
      t = lent_is (host_in Reading).replay (length rows) (length store) (length lent) (length buffer) f.lent

      no_line_lem : (x : Record) → IsLine x → T.now_in (host_in Reading).replay text true ≢ x
      no_line_lem (Frame port h4 flag place next) frame e = false≢true (rw (t, e) at w)
      no_line_lem (Malformed next) malformed e = false≢true (rw (t, e) at w)
      no_line_lem Long none e = elim none [ ]
      no_line_lem Unfinished none e = elim none [ ]
      no_line_lem End none e = elim none [ ]

      go : (a b c : Bool) → (length text == 0) ≡ a → nat_lt (index_of LINE-END text) (length text) ≡ b → nat_lt MOST (length text) ≡ c → Closed (called true (host_in Reading))
      go true b c ea eb ec =
          let n = now_nothing out line left kind ports size window rows store lent buffer text said true ea in
          rw (t, n) (record { used = no_text text ea; between_parts = refl })
      go false true c ea eb ec =
          absurd
          (no_line_lem (line_record ports size 0 (0 + index_of LINE-END text + 1) (first_of text)) (is_line ports size 0 (0 + index_of LINE-END text + 1) (first_of text)) (now_line out line left kind ports size window rows store lent buffer text said true ea eb))
      go false false true ea eb ec =
          let n = now_long out line left kind ports size window rows store lent buffer text said true ea eb ec in
          absurd (false≢true (rw (t, n) at w))
      go false false false ea eb ec =
          absurd
          (no_line_lem (line_record ports size 0 (0 + length text) text) (is_line ports size 0 (0 + length text) text) (now_last out line left kind ports size window rows store lent buffer text said true ea eb ec refl))

  first_closes : Fit out (host_in Settings) → (answer true (host_in Settings)).wants ≡ true → Closed (called true (host_in Settings))
  unfolding called T.turn_of T.open_turn T.open_with_turn T.answered_turn
  first_closes f w = go (length text == 0) (nat_lt (index_of LINE-END text) (length text)) (nat_lt MOST (length text)) refl refl refl
    where
      t : T.open_lent (length rows) (length buffer) ≡ true
      t = open_lent_lem out line left kind ports size window rows store lent buffer text said f

      set : (s : GroupSettings) (next : ℕ) (b : Bool) → T.startable s (length store) ≡ b → opening_in 0 true text ≢ O.Settings s next
      set s next true b e = false≢true (rw (t, e, b) at w)
      set s next false b e = false≢true (rw (t, e, b) at w)

      settled : (x : Opening) → is_settled x ≡ true → opening_in 0 true text ≢ x
      settled (O.Settings s next) k e = set s next (T.startable s (length store)) refl e
      settled O.Malformed k e = false≢true (rw (t, e) at w)
      settled O.Unfinished k e = false≢true k
      settled O.End k e = false≢true k

      go : (a b c : Bool) → (length text == 0) ≡ a → nat_lt (index_of LINE-END text) (length text) ≡ b → nat_lt MOST (length text) ≡ c → Closed (called true (host_in Settings))
      go true b c ea eb ec =
          let n = first_nothing out line left kind ports size window rows store lent buffer text said true ea in
          rw (t, n) (record { used = no_text text ea; between_parts = refl })
      go false true c ea eb ec =
          absurd
          (settled (line_opening (0 + index_of LINE-END text + 1) (first_of text)) (opening_settled (0 + index_of LINE-END text + 1) (first_of text)) (first_line_lem out line left kind ports size window rows store lent buffer text said true ea eb))
      go false false true ea eb ec = absurd (settled O.Malformed refl (first_long out line left kind ports size window rows store lent buffer text said true ea eb ec))
      go false false false ea eb ec =
          absurd
          (settled (line_opening (0 + length text) text) (opening_settled (0 + length text) text) (first_last out line left kind ports size window rows store lent buffer text said true ea eb ec refl))

call_closes : (out : List ℕ) (h : Host) → Fit out h → (answer true h).wants ≡ true → Closed (called true h)
call_closes out h = by h.replay.phase h.replay.line h.replay.left h.replay.kind h.replay.ports h.replay.size h.replay.window h.rows h.store h.out h.buffer h.text h.said
  where
    by : (phase : Phase) (line left kind ports size window : ℕ) (rows : List (List ℕ)) (store lent buffer text said : List ℕ) → Fit out (host phase line left kind ports size window rows store lent buffer text said)
        → (answer true (host phase line left kind ports size window rows store lent buffer text said)).wants ≡ true → Closed (called true (host phase line left kind ports size window rows store lent buffer text said))
    by Settings line left kind ports size window rows store lent buffer text said f w = first_closes out line left kind ports size window rows store lent buffer text said f w
    by Reading line left kind ports size window rows store lent buffer text said f w = read_closes out line left kind ports size window rows store lent buffer text said f w
    by Fetching line left kind ports size window rows store lent buffer text said f w = absurd (report_goes_on out line left kind ports size window rows store lent buffer text said f w)
    by Skipping line left kind ports size window rows store lent buffer text said f w = skip_closes out line left kind ports size window rows store lent buffer text said w
    by Ended line left kind ports size window rows store lent buffer text said f w = ended_closes out line left kind ports size window rows store lent buffer text said

-- calls with the last text until one wants more
record Closes (out : List ℕ) (h g : Host) : Type 0 where
  fit : Fit out g
  closed_up : Closed g
  whole : (later : List (List ℕ)) → g.said ++ to_come out g [] later ≡ h.said ++ to_come out h [] later

closes : (out : List ℕ) (n : ℕ) (h : Host) → Fit out h → wants_within n true h ≡ true → Closes out h (calls (suc n) true h)
unfolding calls wants_within
closes out zero h f e =
    let k = call_keeps out true h f in
    rw e (record { fit = k.fit; closed_up = call_closes out h f e; whole = λ later. k.whole [] later (λ t. refl) })
closes out (suc n) h f e =
    let k = call_keeps out true h f in
    go (answer true h).wants refl (λ w. closes out n (called true h) k.fit w)
  where
    go : (b : Bool) → (answer true h).wants ≡ b → (wants_within n true (called true h) ≡ true → Closes out (called true h) (calls (suc n) true (called true h)))
        → Closes out h (cond (answer true h).wants (called true h) (calls (suc n) true (called true h)))
    go true b on =
        let k = call_keeps out true h f in
        rw b (record { fit = k.fit; closed_up = call_closes out h f b; whole = λ later. k.whole [] later (λ t. refl) })
    go false b on =
        let k = call_keeps out true h f in
        let c = on (rw b at e) in
        rw b (record { fit = c.fit; closed_up = c.closed_up; whole = λ later. c.whole later ∙ k.whole [] later (λ t. refl) })

-- between two parts nothing is still to come but later lines
closed_comes : (out : List ℕ) (phase : Phase) (h : Host) (more : List ℕ) (later : List (List ℕ)) → h.text ≡ [] → is_between phase ≡ true
    → to_come_by out phase h more later ≡ to_come_by out phase h [] (lines_of more ++ later)
closed_comes out Settings h more later e b = rw (e, no_lines)
closed_comes out Reading h more later e b = rw (e, no_lines)
closed_comes out Fetching h more later e b = absurd (false≢true b)
closed_comes out Skipping h more later e b = absurd (false≢true b)
closed_comes out Ended h more later e b = refl

read_same : (out : List ℕ) (phase : Phase) (h : Host) (part more : List ℕ) (later : List (List ℕ)) → to_come_by out phase (has_read h part) more later ≡ to_come_by out phase h (part ++ more) later
read_same out Settings h part more later = rw append_assoc
read_same out Reading h part more later = rw append_assoc
read_same out Fetching h part more later = rw append_assoc
read_same out Skipping h part more later = rw append_assoc
read_same out Ended h part more later = refl

read_lent : (out : List ℕ) (phase : Phase) (h : Host) (part : List ℕ) → LentBy out phase h → LentBy out phase (has_read h part)
read_lent out Settings h part l = tt
read_lent out Reading h part l = l
read_lent out Fetching h part l = l
read_lent out Skipping h part l = l
read_lent out Ended h part l = tt

-- the lines of a part that is closed, and of what is behind it
some_lines : (b : ℕ) (t : List ℕ) (a : ℕ) (ls : List (List ℕ)) → ahead a (lines_of (b ∷ t) ++ ls) ≡ ahead a (lines_of (b ∷ t)) ++ ls
unfolding lines_of
some_lines b t a ls = go (b == LINE-END) (lines_of t)
  where
    go : (x : Bool) (ps : List (List ℕ)) → ahead a (cond x ([] ∷ ps) (ahead b ps) ++ ls) ≡ ahead a (cond x ([] ∷ ps) (ahead b ps)) ++ ls
    go true ps = refl
    go false [] = refl
    go false (p ∷ ps) = refl

with_end_lines : (t rest : List ℕ) → lines_of (with_end t ++ rest) ≡ lines_of t ++ lines_of rest
unfolding lines_of
with_end_lines [] rest = refl
with_end_lines (b ∷ []) rest = go (b == LINE-END) refl
  where
    go : (x : Bool) → (b == LINE-END) ≡ x → lines_of (with_end (b ∷ []) ++ rest) ≡ lines_of (b ∷ []) ++ lines_of rest
    go true e = rw (e, e) refl
    go false e = rw (e, e) refl
with_end_lines (b ∷ c ∷ t) rest = go (b == LINE-END) refl (with_end_lines (c ∷ t) rest)
  where
    go : (x : Bool) → (b == LINE-END) ≡ x → lines_of (with_end (c ∷ t) ++ rest) ≡ lines_of (c ∷ t) ++ lines_of rest
        → lines_of (with_end (b ∷ c ∷ t) ++ rest) ≡ lines_of (b ∷ c ∷ t) ++ lines_of rest
    go true e i = rw e (ap (λ (ls : List (List ℕ)). [] ∷ ls) i)
    go false e i = rw e (ap (ahead b) i ∙ some_lines c t b (lines_of rest))

record Stands (out : List ℕ) (h : Host) (whole : List ℕ → List (List ℕ) → List ℕ) : Type 0 where
  fit : Fit out h
  narrow : h.replay.window ≤ 2048
  same : (more : List ℕ) (later : List (List ℕ)) → h.said ++ to_come out h more later ≡ whole more later

-- what is printed of the lines G, where `part` has been read since the last part was closed
run_stands : (out : List ℕ) (h : Host) (ds : List Deed) (G : List (List ℕ) → List ℕ) (part : List ℕ) → Stands out h (λ more later. G (lines_of (part ++ more) ++ later))
    → Stands out (run h ds) (λ more later. G (lines_of (joined_from part ds ++ more) ++ later))
run_stands out h [] G part s = s
run_stands out h (Read p ∷ ds) G part s =
    let f = s.fit in
    run_stands out (has_read h p) ds G (part ++ p)
    (record {
      fit = record { room = f.room; full = f.full; same = f.same; enough = f.enough; lent = read_lent out h.replay.phase h p f.lent };
      narrow = s.narrow;
      same = λ more later.
          ap (λ (x : List ℕ). h.said ++ x) (read_same out h.replay.phase h p more later)
          ∙ s.same (p ++ more) later
          ∙ ap (λ (x : List ℕ). G (lines_of x ++ later)) (sym (append_assoc part p more));
    })
run_stands out h (Call ∷ ds) G part s =
    let k = call_keeps out false h s.fit in
    run_stands out (called false h) ds G part
    (record { fit = k.fit; narrow = called_narrow false h s.narrow; same = λ more later. k.whole more later (λ e. absurd (false≢true e)) ∙ s.same more later })
run_stands out h (Close ∷ ds) G part s =
    let g = closed h in
    let c = closes out (turns_left h) h s.fit (ends (turns_left h) true h s.narrow (omega arith)) in
    let t : Stands out g (λ more later. G (lines_of part ++ (lines_of more ++ later))) =
    record {
      fit = c.fit;
      narrow = calls_narrow (suc (turns_left h)) true h s.narrow;
      same = λ more later.
          ap (λ (x : List ℕ). g.said ++ x) (closed_comes out g.replay.phase g more later c.closed_up.used c.closed_up.between_parts)
          ∙ c.whole (lines_of more ++ later)
          ∙ s.same [] (lines_of more ++ later)
          ∙ ap (λ (x : List ℕ). G (lines_of x ++ (lines_of more ++ later))) (append-nil part);
    } in
    let u = run_stands out g ds (λ ls. G (lines_of part ++ ls)) [] t in
    record {
      fit = u.fit;
      narrow = u.narrow;
      same = λ more later.
          let J : List ℕ = joined_from [] ds in
          let e : lines_of ((with_end part ++ J) ++ more) ≡ lines_of part ++ lines_of (J ++ more) = ap lines_of (append_assoc (with_end part) J more) ∙ with_end_lines part (J ++ more) in
          u.same more later ∙ ap G (sym (append_assoc (lines_of part) (lines_of (J ++ more)) later) ∙ ap (λ (ls : List (List ℕ)). ls ++ later) (sym e));
    }

last_stands : (out : List ℕ) (n : ℕ) (h : Host) (whole : List ℕ) → Fit out h → h.said ++ to_come out h [] [] ≡ whole → (last_calls n h).said ++ to_come out (last_calls n h) [] [] ≡ whole
last_stands out zero h whole f e = e
last_stands out (suc n) h whole f e = let k = call_keeps out true h f in last_stands out n (called true h) whole k.fit (k.whole [] [] (λ t. refl) ∙ e)

module _ (rows : List (List ℕ)) (store out buffer : List ℕ) (a : 321 ≤ length rows) (b : length store ≤ length out) (c : ROOM ≤ length buffer) where
  abbrev start : Host
  start = begins_with rows store out buffer

  stands : (ds : List Deed) → Stands out (run start ds) (λ more later. output_from out (desk_of start) (lines_of (joined ds ++ more) ++ later))
  stands ds =
      run_stands out start ds (output_from out (desk_of start)) []
      (record { fit = record { room = c; full = a; same = refl; enough = b; lent = tt }; narrow = omega arith; same = λ more later. refl })

  at_end_lem : (ds : List Deed) → (run start ds).said ++ to_come out (run start ds) [] [] ≡ whole_output out rows store (joined ds)
  unfolding whole_output
  at_end_lem ds =
      (stands ds).same [] [] ∙ ap (output_from out (desk_of start)) (append-nil (lines_of (joined ds ++ [])) ∙ ap lines_of (append-nil (joined ds)))

  -- 'Running a recording cut between any two lines, with the state carried over, gives the joined output', and cut anywhere: whatever a host reads, calls and closes, and
  -- however often it calls at the end, what it has written and what is still to come is the whole output of the joined recording
  pub cut_anywhere : (ds : List Deed) (n : ℕ) → (last_calls n (run start ds)).said ++ to_come out (last_calls n (run start ds)) [] [] ≡ whole_output out rows store (joined ds)
  cut_anywhere ds n = last_stands out n (run start ds) (whole_output out rows store (joined ds)) (stands ds).fit (at_end_lem ds)

nothing_comes : (out : List ℕ) (phase : Phase) (h : Host) → h.text ≡ [] → is_done phase ≡ true → to_come_by out phase h [] [] ≡ []
nothing_comes out Settings h e t = rw (e, no_lines)
nothing_comes out Reading h e t = rw (e, no_lines)
nothing_comes out Fetching h e t = absurd (false≢true t)
nothing_comes out Skipping h e t = rw (e, drop-nil, no_lines)
nothing_comes out Ended h e t = refl

between_done : (phase : Phase) → is_between phase ≡ true → is_done phase ≡ true
between_done Settings e = refl
between_done Reading e = refl
between_done Fetching e = e
between_done Skipping e = refl
between_done Ended e = refl

run_append : (h : Host) (ds es : List Deed) → run h (ds ++ es) ≡ run (run h ds) es
run_append h [] es = refl
run_append h (d ∷ ds) es = run_append (does h d) ds es

module _ (rows : List (List ℕ)) (store out buffer : List ℕ) (a : 321 ≤ length rows) (b : length store ≤ length out) (c : ROOM ≤ length buffer) where
  -- then the host has written the whole output of the joined recording
  pub cut_whole : (ds : List Deed) (n : ℕ) → (last_calls n (run (begins_with rows store out buffer) ds)).text ≡ []
      → is_done (last_calls n (run (begins_with rows store out buffer) ds)).replay.phase ≡ true
      → (last_calls n (run (begins_with rows store out buffer) ds)).said ≡ whole_output out rows store (joined ds)
  cut_whole ds n e t =
      let g = last_calls n (run (begins_with rows store out buffer) ds) in
      sym (append-nil g.said) ∙ (ap (λ (x : List ℕ). g.said ++ x) (sym (nothing_comes out g.replay.phase g e t)) ∙ cut_anywhere rows store out buffer a b c ds n)

  -- So it has when it has closed the last part, whatever came before, with no more said of it.
  pub closed_whole : (ds : List Deed) → (run (begins_with rows store out buffer) (ds ++ (Close ∷ []))).said ≡ whole_output out rows store (joined (ds ++ (Close ∷ [])))
  closed_whole ds =
      let h = run (begins_with rows store out buffer) ds in
      let s = stands rows store out buffer a b c ds in
      let k = (closes out (turns_left h) h s.fit (ends (turns_left h) true h s.narrow (omega arith))).closed_up in
      let r = run_append (begins_with rows store out buffer) ds (Close ∷ []) in
      cut_whole (ds ++ (Close ∷ [])) 0 (rw r k.used) (rw r (between_done (closed h).replay.phase k.between_parts))
