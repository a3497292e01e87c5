-- However the input is cut into reads the output is the same: what the lines of the whole input print, one behind the other.
use Rattle.std.specs.Prelude.{◌≡◌, refl, Bool, true, false, drop, length, take}
use Rattle.std.proofs.Common.{sym, ◌∙◌, arith, length-append, length-drop, take-append-drop, le-ltb, lt-ltb, ltb-true}
use Rattle.std.proofs.Math.Path.{ap}
use mathlib.Core.List.{List, [], ◌∷◌, ◌++◌, append_assoc, append-nil}
use Prim.Native.Nat.{ℕ, zero, suc, ◌+◌, ◌≤◌, ◌<◌}
use Rattle.std.proofs.Math.Seq.{take-append_seam}
use Rattle.ground.specs.Finding.{index_of}
use Rattle.session_lines.specs.declared.kept.Kept.{Kept}
use Rattle.session_lines.specs.Gathering.{gathered_of}
use Rattle.session_lines.specs.Kept.{keep_all, line_in}
use Rattle.session_lines.specs.Laws.Feeding.{used_some}
use Rattle.session_lines.specs.Laws.Holding.{Holds, holds_more, holds_nothing}
use Rattle.session_lines.specs.Runs.{joined}
use Rattle.session_lines.specs.Session.{has_end, over, used_of}
use Rattle.spoken.specs.Speaking.{SPEECH-ROOM}
use Rattle.text.specs.Laws.Lines.{Free, free_append, free_line, free_take, last_line, with_end_lem}
use Rattle.text.specs.Text.{LINE-END, lines_of}
use Rattle.speak_lines.specs.declared.listening.Listener.{Listener}
use Rattle.speak_lines.specs.Laws.Meaning.{Alike, kept_alike, same_after, same_text}
use Rattle.speak_lines.specs.Listening.{after_line, beginning, fed_listener, fed_text, feed_bytes, feed_of, finish_bytes, finish_of, last_text, text_of, with_kept}
use Rattle.speak_lines.specs.Runs.{Host, ended_run, fed_once, fed_parts, fed_up_to, host_output, left_of, printed, whole_output}

-- a host that stands where the rest of the input brings the whole output to `whole rest`
record Stands (h : Host) (whole : List ℕ → List ℕ) : Type 0 where
  line : List ℕ
  free : Free line
  holds : Holds line h.listener.kept
  room : SPEECH-ROOM ≤ length h.buffer
  same : (rest : List ℕ) → h.said ++ printed h.listener (lines_of (line ++ rest)) ≡ whole rest

over_room : (text out : List ℕ) → SPEECH-ROOM ≤ length out → SPEECH-ROOM ≤ length (over text out)
over_room text out h =
    let n = length-append text (drop (length text) out) in
    let d = length-drop (length text) out in
    omega arith

-- what a call gives a host whose buffer has room
module _ (h : Host) (part : List ℕ) (room : SPEECH-ROOM ≤ length h.buffer) where
  pub listener_is : (fed_once h part).listener ≡ fed_listener h.listener part
  unfolding fed_once feed_of
  listener_is = rw (le-ltb (length h.buffer) SPEECH-ROOM room)

  buffer_is : (fed_once h part).buffer ≡ over (fed_text h.listener part) h.buffer
  unfolding fed_once feed_bytes
  buffer_is = rw (le-ltb (length h.buffer) SPEECH-ROOM room)

  said_is : (fed_once h part).said ≡ h.said ++ fed_text h.listener part
  unfolding fed_once feed_of feed_bytes
  said_is = rw (le-ltb (length h.buffer) SPEECH-ROOM room, take-append_seam (fed_text h.listener part) (drop (length (fed_text h.listener part)) h.buffer))

  pub left_is : left_of h part ≡ drop (used_of part) part
  unfolding left_of feed_of gathered_of
  left_is = rw (le-ltb (length h.buffer) SPEECH-ROOM room)

  pub buffer_room : SPEECH-ROOM ≤ length (fed_once h part).buffer
  buffer_room = rw buffer_is (over_room (fed_text h.listener part) h.buffer room)

-- what is kept of a line that has begun is not looked at by the lines behind it
kept_apart : (l : Listener) (k : Kept) (lines : List (List ℕ)) → printed (with_kept l k) lines ≡ printed l lines
unfolding text_of after_line
kept_apart l k [] = refl
kept_apart l k (line ∷ lines) = refl

-- the same host by its parts
module _ (h : Host) (l : Listener) (b said : List ℕ) (whole : List ℕ → List ℕ) (el : h.listener ≡ l) (eb : h.buffer ≡ b) (ed : h.said ≡ said) where
  stands_as : (line : List ℕ) → Free line → Holds line l.kept → SPEECH-ROOM ≤ length b
      → ((rest : List ℕ) → said ++ printed l (lines_of (line ++ rest)) ≡ whole rest) → Stands h whole
  stands_as line f k r same = record { line = line; free = f; holds = rw el k; room = rw eb r; same = λ rest. rw (el, ed) (same rest) }

-- a call on a part of the input
module _ (h : Host) (part : List ℕ) (whole : List ℕ → List ℕ) (o : Stands h whole) where
  abbrev place : ℕ
  place = index_of LINE-END part

  abbrev kept : Kept
  kept = keep_all h.listener.kept (take place part)

  abbrev begun : List ℕ
  begun = o.line ++ take place part

  free : Free begun
  free = free_append o.line (take place part) o.free (free_take part)

  holds : Holds begun kept
  holds = holds_more o.line h.listener.kept (take place part) o.holds

  alike : Alike (line_in kept) begun
  alike = kept_alike begun kept holds

  fed_ended : has_end part ≡ true → (fed_listener h.listener part ≡ after_line h.listener begun) × (fed_text h.listener part ≡ text_of h.listener begun)
  unfolding fed_listener fed_text gathered_of
  fed_ended e = rw e (same_after h.listener (line_in kept) begun alike, same_text h.listener (line_in kept) begun alike)

  fed_open : has_end part ≡ false → (fed_listener h.listener part ≡ with_kept h.listener kept) × (fed_text h.listener part ≡ [])
  unfolding fed_listener fed_text gathered_of
  fed_open e = rw e (refl, refl)

  after_fresh : Holds [] (after_line h.listener begun).kept
  unfolding after_line
  after_fresh = holds_nothing

  -- a line ends in it
  line_ended : has_end part ≡ true → Stands (fed_once h part) (λ rest. whole (take (used_of part) part ++ rest))
  unfolding used_of
  line_ended e =
      let f = fed_ended e in
      let T : List ℕ = text_of h.listener begun in
      stands_as (fed_once h part)
      (after_line h.listener begun)
      (over T h.buffer)
      (h.said ++ T)
      (λ rest. whole (take (used_of part) part ++ rest))
      (listener_is h part o.room ∙ f.0)
      (buffer_is h part o.room ∙ ap (λ (t : List ℕ). over t h.buffer) f.1)
      (said_is h part o.room ∙ ap (λ (t : List ℕ). h.said ++ t) f.1)
      []
      tt
      after_fresh
      (over_room T h.buffer o.room)
      (λ rest.
      let c : o.line ++ (take (place + 1) part ++ rest) ≡ begun ++ (LINE-END ∷ rest) =
      rw (with_end_lem part (ltb-true place (length part) e)) (rw (append_assoc, append_assoc)) in
      append_assoc h.said T (printed (after_line h.listener begun) (lines_of rest))
      ∙ ap (λ (ls : List (List ℕ)). h.said ++ printed h.listener ls) (sym (free_line begun rest free) ∙ ap lines_of (sym c))
      ∙ o.same (take (place + 1) part ++ rest)
      ∙ rw e)

  -- no line ends in it
  line_open : has_end part ≡ false → Stands (fed_once h part) (λ rest. whole (take (used_of part) part ++ rest))
  unfolding used_of
  line_open e =
      let f = fed_open e in
      stands_as (fed_once h part)
      (with_kept h.listener kept)
      h.buffer
      h.said
      (λ rest. whole (take (used_of part) part ++ rest))
      (listener_is h part o.room ∙ f.0)
      (buffer_is h part o.room ∙ ap (λ (t : List ℕ). over t h.buffer) f.1)
      (said_is h part o.room ∙ ap (λ (t : List ℕ). h.said ++ t) f.1 ∙ append-nil h.said)
      begun
      free
      holds
      o.room
      (λ rest.
      ap (λ (t : List ℕ). h.said ++ t) (kept_apart h.listener kept (lines_of (begun ++ rest)))
      ∙ rw (e, append_assoc o.line (take place part) rest) (o.same (take place part ++ rest)))

  once : Stands (fed_once h part) (λ rest. whole (take (used_of part) part ++ rest))
  once = go (has_end part) refl
    where
      go : (b : Bool) → has_end part ≡ b → Stands (fed_once h part) (λ rest. whole (take (used_of part) part ++ rest))
      go true e = line_ended e
      go false e = line_open e

-- the same by another account of the rest
stands_by : (h : Host) (f g : List ℕ → List ℕ) → ((rest : List ℕ) → f rest ≡ g rest) → Stands h f → Stands h g
stands_by h f g e o = record { line = o.line; free = o.free; holds = o.holds; room = o.room; same = λ rest. o.same rest ∙ e rest }

-- a whole part
whole_part : (n : ℕ) (h : Host) (part : List ℕ) (whole : List ℕ → List ℕ) → length part ≤ n → Stands h whole → Stands (fed_up_to n h part) (λ rest. whole (part ++ rest))
whole_part zero h [] whole l o = o
whole_part zero h (b ∷ part) whole l o = absurd (omega arith)
whole_part (suc n) h [] whole l o = o
whole_part (suc n) h (b ∷ part) whole l o =
    let P : List ℕ = b ∷ part in
    let u = used_some P (omega arith) in
    let d = length-drop (used_of P) P in
    rw (left_is h P o.room)
    (stands_by (fed_up_to n (fed_once h P) (drop (used_of P) P))
    (λ rest. whole (take (used_of P) P ++ (drop (used_of P) P ++ rest)))
    (λ rest. whole (P ++ rest))
    (λ rest. ap whole (sym (append_assoc (take (used_of P) P) (drop (used_of P) P) rest) ∙ rw (take-append-drop (used_of P) P)))
    (whole_part n (fed_once h P) (drop (used_of P) P) (λ rest. whole (take (used_of P) P ++ rest)) (omega arith) (once h P whole o)))

-- part after part
all_parts : (h : Host) (parts : List (List ℕ)) (whole : List ℕ → List ℕ) → Stands h whole → Stands (fed_parts h parts) (λ rest. whole (joined parts ++ rest))
all_parts h [] whole o = o
all_parts h (p ∷ ps) whole o =
    stands_by (fed_parts (fed_up_to (length p) h p) ps)
    (λ rest. whole (p ++ (joined ps ++ rest)))
    (λ rest. whole (p ++ joined ps ++ rest))
    (λ rest. ap whole (sym (append_assoc p (joined ps) rest)))
    (all_parts (fed_up_to (length p) h p) ps (λ rest. whole (p ++ rest)) (whole_part (length p) h p whole (omega arith) o))

-- the end of the input
at_end_lem : (h : Host) (whole : List ℕ → List ℕ) → Stands h whole → ended_run h ≡ whole []
unfolding ended_run finish_of finish_bytes last_text lines_of
at_end_lem h whole o =
    rw (le-ltb (length h.buffer) SPEECH-ROOM o.room)
    (ap (λ (l : List ℕ). h.said ++ l) (take-append_seam (last_text h.listener) (drop (length (last_text h.listener)) h.buffer) ∙ last o.line o.free o.holds) ∙ o.same [])
  where
    last : (line : List ℕ) → Free line → Holds line h.listener.kept → last_text h.listener ≡ printed h.listener (lines_of (line ++ []))
    last [] f k =
        let c : h.listener.kept.count ≤ 0 = (let n = k.count in omega arith) in
        rw (le-ltb 0 h.listener.kept.count c)
    last (b ∷ l) f k =
        let c : 0 < h.listener.kept.count = (let n = k.count in omega arith) in
        rw (lt-ltb 0 h.listener.kept.count c, append-nil l, last_line b l f)
        (same_text h.listener (line_in h.listener.kept) (b ∷ l) (kept_alike (b ∷ l) h.listener.kept k) ∙ sym (append-nil (text_of h.listener (b ∷ l))))

start : (runs : Bool) (buffer : List ℕ) → SPEECH-ROOM ≤ length buffer → Stands (record { listener = beginning runs; buffer = buffer; said = [] }) (whole_output runs)
unfolding beginning whole_output
start runs buffer h = record { line = []; free = tt; holds = holds_nothing; room = h; same = λ rest. refl }

-- The output of a host that feeds the input in any parts, through any buffer with room, is that of the input's lines.
pub cut_anywhere : (runs : Bool) (buffer : List ℕ) → SPEECH-ROOM ≤ length buffer → (parts : List (List ℕ)) → host_output runs buffer parts ≡ whole_output runs (joined parts)
unfolding host_output
cut_anywhere runs buffer h parts =
    at_end_lem (fed_parts (record { listener = beginning runs; buffer = buffer; said = [] }) parts) (λ rest. whole_output runs (joined parts ++ rest))
    (all_parts (record { listener = beginning runs; buffer = buffer; said = [] }) parts (whole_output runs) (start runs buffer h))
    ∙ rw append-nil

-- So it is the same whether the input comes in these parts or whole.
pub cuts_alike : (runs : Bool) (buffer : List ℕ) → SPEECH-ROOM ≤ length buffer → (parts : List (List ℕ)) → host_output runs buffer parts ≡ host_output runs buffer (joined parts ∷ [])
cuts_alike runs buffer h parts = cut_anywhere runs buffer h parts ∙ ap (whole_output runs) (sym (append-nil (joined parts))) ∙ sym (cut_anywhere runs buffer h (joined parts ∷ []))
