-- However the input is cut into reads the output is the same: what the lines of the whole input are answered, one behind the other.
use Rattle.std.specs.Prelude.{◌≡◌, refl, Bool, true, false, drop, length}
use Rattle.std.proofs.Common.{sym, ◌∙◌, arith, length-append, length-drop, take-append-drop, le-ltb, lt-ltb, ltb-false, ltb-true}
use Rattle.std.proofs.Math.Path.{ap}
use mathlib.Core.List.{List, [], ◌∷◌, ◌++◌, append_assoc, append-nil}
use Prim.Native.Nat.{ℕ, zero, suc, ◌+◌, ◌≤◌, ◌<◌}
use Rattle.std.proofs.Math.ListN.{take}
use Rattle.std.proofs.Math.Seq.{take_all, take-append_seam}
use Rattle.ground.specs.Finding.{index_of}
use Rattle.sender.specs.declared.table.Table.{Table}
use Rattle.session_lines.specs.declared.line.Line.{Line}
use Rattle.session_lines.specs.declared.session.Session.{Session}
use Rattle.session_lines.specs.Kept.{line_in, nothing_kept}
use Rattle.session_lines.specs.Laws.Feeding.{used_some}
use Rattle.session_lines.specs.Laws.Holding.{Holds, holds_more, holds_nothing, kept_line}
use Rattle.text.specs.Laws.Lines.{Free, free_append, free_line, free_take, last_line, with_end_lem}
use Rattle.session_lines.specs.Line.{line_of}
use Rattle.session_lines.specs.Output.{ROOM}
use Rattle.session_lines.specs.Replies.{output_of, reply_of}
use Rattle.session_lines.specs.Runs.{Host, answers_to, ended_run, fed_once, fed_parts, fed_up_to, host_output, joined, left_of, whole_output}
use Rattle.session_lines.specs.Session.{beginning, fed_session, fed_text, feed_bytes, feed_of, finish_bytes, finish_of, has_end, kept_with, last_text, over, said_to, table_after, used_of}
use Rattle.text.specs.Text.{LINE-END, lines_of}

-- a host that stands where the rest of the input brings the whole output to `whole rest`
record Stands (h : Host) (whole : List ℕ → List ℕ) : Type 0 where
  line : List ℕ
  free : Free line
  holds : Holds line h.session.kept
  room : ROOM ≤ length h.buffer
  same : (rest : List ℕ) → h.said ++ answers_to h.session.table (lines_of (line ++ rest)) ≡ whole rest

over_room : (text out : List ℕ) → ROOM ≤ length out → ROOM ≤ length (over text out)
over_room text out h =
    let n = length-append text (drop (length text) out) in
    let d = length-drop (length text) out in
    omega arith

-- what a call gives a host whose buffer has room
module _ (h : Host) (part : List ℕ) (room : ROOM ≤ length h.buffer) where
  pub session_is : (fed_once h part).session ≡ fed_session h.session part
  unfolding fed_once feed_of
  session_is = rw (le-ltb (length h.buffer) ROOM room)

  buffer_is : (fed_once h part).buffer ≡ over (fed_text h.session part) h.buffer
  unfolding fed_once feed_bytes
  buffer_is = rw (le-ltb (length h.buffer) ROOM room)

  said_is : (fed_once h part).said ≡ h.said ++ fed_text h.session part
  unfolding fed_once feed_of feed_bytes
  said_is = rw (le-ltb (length h.buffer) ROOM room, take-append_seam (fed_text h.session part) (drop (length (fed_text h.session part)) h.buffer))

  pub left_is : left_of h part ≡ drop (used_of part) part
  unfolding left_of feed_of
  left_is = rw (le-ltb (length h.buffer) ROOM room)

  pub buffer_room : ROOM ≤ length (fed_once h part).buffer
  buffer_room = rw buffer_is (over_room (fed_text h.session part) h.buffer room)

-- a table with no line begun
abbrev fresh_with : Table → Session
fresh_with t = record { table = t; kept = nothing_kept }

same_table : (t : Table) (a b : List ℕ) → line_of a ≡ line_of b → table_after t a ≡ table_after t b
same_table t a b e = ap (λ (l : Line). (reply_of t l).table) e

same_said : (t : Table) (a b : List ℕ) → line_of a ≡ line_of b → said_to t a ≡ said_to t b
same_said t a b e = ap (output_of t) e

-- the same host by its parts
module _ (h : Host) (s : Session) (b said : List ℕ) (whole : List ℕ → List ℕ) (es : h.session ≡ s) (eb : h.buffer ≡ b) (ed : h.said ≡ said) where
  stands_as : (line : List ℕ) → Free line → Holds line s.kept → ROOM ≤ length b
      → ((rest : List ℕ) → said ++ answers_to s.table (lines_of (line ++ rest)) ≡ whole rest) → Stands h whole
  stands_as line f k r same =
      record { line = line; free = f; holds = rw es k; room = rw eb r; same = λ rest. rw (es, ed) (same rest) }

-- a call on a part of the input
module _ (h : Host) (part : List ℕ) (whole : List ℕ → List ℕ) (o : Stands h whole) where
  -- a line ends in it
  line_ended : has_end part ≡ true → Stands (fed_once h part) (λ rest. whole (take (used_of part) part ++ rest))
  unfolding used_of fed_session fed_text
  line_ended e =
      let i : ℕ = index_of LINE-END part in
      let L : List ℕ = o.line ++ take i part in
      let f : Free L = free_append o.line (take i part) o.free (free_take part) in
      let k = holds_more o.line h.session.kept (take i part) o.holds in
      let T : Table = h.session.table in
      let m : line_of (line_in (kept_with h.session part)) ≡ line_of L = kept_line L (kept_with h.session part) k in
      stands_as (fed_once h part)
      (fresh_with (table_after T L))
      (over (said_to T L) h.buffer)
      (h.said ++ said_to T L)
      (λ rest. whole (take (used_of part) part ++ rest))
      (session_is h part o.room ∙ rw e (ap fresh_with (same_table T (line_in (kept_with h.session part)) L m)))
      (buffer_is h part o.room ∙ rw e (ap (λ (l : List ℕ). over l h.buffer) (same_said T (line_in (kept_with h.session part)) L m)))
      (said_is h part o.room ∙ rw e (ap (λ (l : List ℕ). h.said ++ l) (same_said T (line_in (kept_with h.session part)) L m)))
      []
      tt
      holds_nothing
      (over_room (said_to T L) h.buffer o.room)
      (λ rest.
      let c : o.line ++ (take (i + 1) part ++ rest) ≡ L ++ (LINE-END ∷ rest) =
      rw (with_end_lem part (ltb-true i (length part) e)) (rw (append_assoc, append_assoc)) in
      append_assoc h.said (said_to T L) (answers_to (table_after T L) (lines_of rest))
      ∙ ap (λ (ls : List (List ℕ)). h.said ++ answers_to T ls) (sym (free_line L rest f) ∙ ap lines_of (sym c))
      ∙ o.same (take (i + 1) part ++ rest)
      ∙ rw e)

  -- no line ends in it
  line_open : has_end part ≡ false → Stands (fed_once h part) (λ rest. whole (take (used_of part) part ++ rest))
  unfolding used_of fed_session fed_text
  line_open e =
      let i : ℕ = index_of LINE-END part in
      let p : take i part ≡ part = take_all i part (ltb-false i (length part) e) in
      stands_as (fed_once h part)
      (record { table = h.session.table; kept = kept_with h.session part })
      h.buffer
      h.said
      (λ rest. whole (take (used_of part) part ++ rest))
      (session_is h part o.room ∙ rw e)
      (buffer_is h part o.room ∙ rw e)
      (said_is h part o.room ∙ rw e (append-nil h.said))
      (o.line ++ take i part)
      (free_append o.line (take i part) o.free (free_take part))
      (holds_more o.line h.session.kept (take i part) o.holds)
      o.room
      (λ rest. rw (e, append_assoc o.line (take i part) rest) (o.same (take i part ++ rest)))

  once : Stands (fed_once h part) (λ rest. whole (take (used_of part) part ++ rest))
  once = go (has_end part) refl
    where
      go : (b : Bool) → has_end part ≡ b → Stands (fed_once h part) (λ rest. whole (take (used_of part) part ++ rest))
      go true e = line_ended e
      go false e = line_open e

-- the same by another account of the rest
stands_by : (h : Host) (f g : List ℕ → List ℕ) → ((rest : List ℕ) → f rest ≡ g rest) → Stands h f → Stands h g
stands_by h f g e o = record { line = o.line; free = o.free; holds = o.holds; room = o.room; same = λ rest. o.same rest ∙ e rest }

-- a whole part
whole_part : (n : ℕ) (h : Host) (part : List ℕ) (whole : List ℕ → List ℕ) → length part ≤ n → Stands h whole → Stands (fed_up_to n h part) (λ rest. whole (part ++ rest))
whole_part zero h [] whole l o = o
whole_part zero h (b ∷ part) whole l o = absurd (omega arith)
whole_part (suc n) h [] whole l o = o
whole_part (suc n) h (b ∷ part) whole l o =
    let P : List ℕ = b ∷ part in
    let u = used_some P (omega arith) in
    let d = length-drop (used_of P) P in
    rw (left_is h P o.room)
    (stands_by (fed_up_to n (fed_once h P) (drop (used_of P) P))
    (λ rest. whole (take (used_of P) P ++ (drop (used_of P) P ++ rest)))
    (λ rest. whole (P ++ rest))
    (λ rest. ap whole (sym (append_assoc (take (used_of P) P) (drop (used_of P) P) rest) ∙ rw (take-append-drop (used_of P) P)))
    (whole_part n (fed_once h P) (drop (used_of P) P) (λ rest. whole (take (used_of P) P ++ rest)) (omega arith) (once h P whole o)))

-- part after part
all_parts : (h : Host) (parts : List (List ℕ)) (whole : List ℕ → List ℕ) → Stands h whole → Stands (fed_parts h parts) (λ rest. whole (joined parts ++ rest))
all_parts h [] whole o = o
all_parts h (p ∷ ps) whole o =
    stands_by (fed_parts (fed_up_to (length p) h p) ps)
    (λ rest. whole (p ++ (joined ps ++ rest)))
    (λ rest. whole (p ++ joined ps ++ rest))
    (λ rest. ap whole (sym (append_assoc p (joined ps) rest)))
    (all_parts (fed_up_to (length p) h p) ps (λ rest. whole (p ++ rest)) (whole_part (length p) h p whole (omega arith) o))

-- the end of the input
at_end_lem : (h : Host) (whole : List ℕ → List ℕ) → Stands h whole → ended_run h ≡ whole []
unfolding ended_run finish_of finish_bytes last_text lines_of
at_end_lem h whole o =
    rw (le-ltb (length h.buffer) ROOM o.room)
    (ap (λ (l : List ℕ). h.said ++ l) (take-append_seam (last_text h.session) (drop (length (last_text h.session)) h.buffer) ∙ last o.line o.free o.holds) ∙ o.same [])
  where
    last : (line : List ℕ) → Free line → Holds line h.session.kept → last_text h.session ≡ answers_to h.session.table (lines_of (line ++ []))
    last [] f k =
        let c : h.session.kept.count ≤ 0 = (let n = k.count in omega arith) in
        rw (le-ltb 0 h.session.kept.count c)
    last (b ∷ l) f k =
        let c : 0 < h.session.kept.count = (let n = k.count in omega arith) in
        rw (lt-ltb 0 h.session.kept.count c, append-nil l, last_line b l f)
        (same_said h.session.table (line_in h.session.kept) (b ∷ l) (kept_line (b ∷ l) h.session.kept k) ∙ sym (append-nil (said_to h.session.table (b ∷ l))))

start : (buffer : List ℕ) → ROOM ≤ length buffer → Stands (record { session = beginning; buffer = buffer; said = [] }) whole_output
unfolding beginning whole_output
start buffer h = record { line = []; free = tt; holds = holds_nothing; room = h; same = λ rest. refl }

-- The output of a host that feeds the input in any parts, through any buffer with room, is that of the input's lines.
pub cut_anywhere : (buffer : List ℕ) → ROOM ≤ length buffer → (parts : List (List ℕ)) → host_output buffer parts ≡ whole_output (joined parts)
unfolding host_output
cut_anywhere buffer h parts =
    at_end_lem (fed_parts (record { session = beginning; buffer = buffer; said = [] }) parts) (λ rest. whole_output (joined parts ++ rest))
    (all_parts (record { session = beginning; buffer = buffer; said = [] }) parts whole_output (start buffer h))
    ∙ rw append-nil

-- So it is the same whether the input comes in these parts or whole.
pub cuts_alike : (buffer : List ℕ) → ROOM ≤ length buffer → (parts : List (List ℕ)) → host_output buffer parts ≡ host_output buffer (joined parts ∷ [])
cuts_alike buffer h parts = cut_anywhere buffer h parts ∙ ap whole_output (sym (append-nil (joined parts))) ∙ sym (cut_anywhere buffer h (joined parts ∷ []))
