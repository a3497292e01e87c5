-- What `session_lines::run` leaves of a listener, which feeds it by `feed_any` as any console: what Cuts says of a host that feeds it by
-- `feed_of` is said of that too.
use Rattle.std.specs.Prelude.{◌≡◌, refl, Bool, true, false, List, [], ◌∷◌, ◌++◌, ℕ, zero, suc, ◌+◌, ◌≤◌, ◌<◌, drop, length, nat_lt, take, IfOk, Option, Result}
use Rattle.std.specs.Io.KnownBytes.{Consumes}
use Rattle.std.proofs.Common.{ap, append_assoc, append-nil, arith, le-ltb, length-drop, lt-ltb, ltb-true, sym, take-append-drop, ◌∙◌}
use Rattle.ground.specs.Finding.{index_of}
use Rattle.ground.specs.Types.{Bytes}
use Rattle.session_lines.specs.Consoles.{fed_by, fed_bytes_by, finished_by, finished_bytes_by, left_at_end, left_by_part}
use Rattle.session_lines.specs.declared.console.Refusal.{Refusal}
use Rattle.session_lines.specs.declared.kept.Kept.{Kept}
use Rattle.session_lines.specs.Gathering.{gathered_of}
use Rattle.session_lines.specs.Kept.{keep_all, line_in, nothing_kept}
use Rattle.session_lines.specs.Laws.Feeding.{used_some}
use Rattle.session_lines.specs.Laws.Holding.{Holds, holds_more, holds_nothing}
use Rattle.session_lines.specs.Running.{Ran, left_by_parts, left_by_whole, left_up_to}
use Rattle.session_lines.specs.Running.Ran.{Ended, Refused}
use Rattle.session_lines.specs.Runs.{joined}
use Rattle.session_lines.specs.Session.{has_end, used_of}
use Rattle.spoken.specs.Speaking.{SPEECH-ROOM}
use Rattle.text.specs.Laws.Lines.{Free, free_append, free_line, free_take, last_line, with_end_lem}
use Rattle.text.specs.Text.{LINE-END, lines_of}
use Rattle.speak_lines.specs.declared.listening.Listener.{Listener}
use Rattle.speak_lines.specs.Laws.Meaning.{Alike, kept_alike, same_after}
use Rattle.speak_lines.specs.Listening.{after_line, beginning, fed_listener, fed_text, feed_bytes, feed_of, finish_bytes, finish_of, has_line, kept_in, last_listener, last_text, text_of, told, with_kept}
use Rattle.speak_lines.specs.Runs.{Host, fed_once, fed_parts, fed_up_to, left_of}
use Rattle.speak_lines.specs.Theorems.Cuts.{buffer_room, left_is, listener_is}
use Rattle.speak_lines.specs.Told.{behind, same_but_kept}

-- A listener fed as any console is: a part, and the end of the input.
module _ (l : Listener) (out : List ℕ) where
  module _ (input : List ℕ) where
    pub listener_fed : fed_by SPEECH-ROOM kept_in with_kept after_line text_of l input out ≡ told (feed_of l input out)
    unfolding fed_by feed_of fed_listener fed_text gathered_of
    listener_fed = go (nat_lt (length out) SPEECH-ROOM) (has_end input) refl refl
      where
        go : (a b : Bool) → nat_lt (length out) SPEECH-ROOM ≡ a → has_end input ≡ b
            → fed_by SPEECH-ROOM kept_in with_kept after_line text_of l input out ≡ told (feed_of l input out)
        go true b h e = rw h
        go false true h e = rw (h, e)
        go false false h e = rw (h, e)

    pub listener_said : fed_bytes_by SPEECH-ROOM kept_in text_of l input out ≡ feed_bytes l input out
    unfolding fed_bytes_by feed_bytes fed_text gathered_of
    listener_said = refl

  pub listener_finished : finished_by SPEECH-ROOM kept_in after_line text_of l out ≡ told (finish_of l out)
  unfolding finished_by finish_of last_listener last_text
  listener_finished = go (nat_lt (length out) SPEECH-ROOM) (has_line l) refl refl
    where
      go : (a b : Bool) → nat_lt (length out) SPEECH-ROOM ≡ a → has_line l ≡ b → finished_by SPEECH-ROOM kept_in after_line text_of l out ≡ told (finish_of l out)
      go true b h e = rw h
      go false true h e = rw (h, e)
      go false false h e = rw (h, e)

  pub listener_ended : finished_bytes_by SPEECH-ROOM kept_in text_of l out ≡ finish_bytes l out
  unfolding finished_bytes_by finish_bytes last_text
  listener_ended = refl

part_is : (l : Listener) (input : List ℕ) → left_by_part SPEECH-ROOM kept_in with_kept after_line text_of l input ≡ fed_listener l input
unfolding fed_listener gathered_of
part_is l input = refl

-- a part fed whole is what the host of Runs does with it
up_to : (n : ℕ) (h : Host) (part : List ℕ) → SPEECH-ROOM ≤ length h.buffer
    → ((fed_up_to n h part).listener ≡ left_up_to SPEECH-ROOM kept_in with_kept after_line text_of n h.listener part) × (SPEECH-ROOM ≤ length (fed_up_to n h part).buffer)
up_to zero h part r = (refl, r)
up_to (suc n) h [] r = (refl, r)
up_to (suc n) h (b ∷ part) r =
    let P : List ℕ = b ∷ part in
    let more = up_to n (fed_once h P) (left_of h P) (buffer_room h P r) in
    (more.0 ∙ rw (listener_is h P r, left_is h P r, part_is h.listener P), more.1)

-- Parts leave a run's listener as they leave that of the host of `cut_anywhere`, through any buffer with room.
pub parts_alike : (h : Host) (parts : List (List ℕ)) → SPEECH-ROOM ≤ length h.buffer
    → left_by_parts SPEECH-ROOM kept_in with_kept after_line text_of h.listener parts ≡ (fed_parts h parts).listener
unfolding left_by_whole
parts_alike h [] r = refl
parts_alike h (p ∷ ps) r =
    let one = up_to (length p) h p r in
    ap (λ (l : Listener). left_by_parts SPEECH-ROOM kept_in with_kept after_line text_of l ps) (sym one.0) ∙ parts_alike (fed_up_to (length p) h p) ps one.1

same_kept : (one other : Listener) → one ≡ other → same_but_kept one other
same_kept one other e = ap (λ (l : Listener). with_kept l one.kept) e

-- a listener who has used so much input: but for the line that has begun he is behind the lines that have ended
record Stands (from l : Listener) (input : List ℕ) : Type 0 where
  line : List ℕ
  free : Free line
  holds : Holds line l.kept
  done : List (List ℕ)
  lines : (rest : List ℕ) → lines_of (input ++ rest) ≡ done ++ lines_of (line ++ rest)
  left : same_but_kept l (behind from done)

behind_append : (l : Listener) (x y : List (List ℕ)) → behind l (x ++ y) ≡ behind (behind l x) y
behind_append l [] y = refl
behind_append l (line ∷ x) y = behind_append (after_line l line) x y

-- what is kept is not looked at by the line that is done
kept_apart : (l : Listener) (k : Kept) (line : List ℕ) → after_line (with_kept l k) line ≡ after_line l line
unfolding after_line
kept_apart l k line = refl

fresh : (l : Listener) (line : List ℕ) → (after_line l line).kept ≡ nothing_kept
unfolding after_line
fresh l line = refl

-- a line done behind those that were
module _ (from l : Listener) (done : List (List ℕ)) (e : same_but_kept l (behind from done)) (line begun : List ℕ) (a : Alike line begun) where
  one_more : after_line l line ≡ behind from (done ++ (begun ∷ []))
  one_more =
      same_after l line begun a
      ∙ ap (λ (x : Listener). after_line x begun) e
      ∙ kept_apart (behind from done) l.kept begun
      ∙ sym (behind_append from done (begun ∷ []))

module _ (from l : Listener) (input part : List ℕ) (o : Stands from l input) where
  abbrev place : ℕ
  place = index_of LINE-END part

  abbrev kept : Kept
  kept = keep_all l.kept (take place part)

  abbrev begun : List ℕ
  begun = o.line ++ take place part

  free_begun : Free begun
  free_begun = free_append o.line (take place part) o.free (free_take part)

  holds_begun : Holds begun kept
  holds_begun = holds_more o.line l.kept (take place part) o.holds

  line_ended : has_end part ≡ true → Stands from (fed_listener l part) (input ++ take (used_of part) part)
  unfolding used_of fed_listener gathered_of
  line_ended e =
      let c : (rest : List ℕ) → take (place + 1) part ++ rest ≡ take place part ++ (LINE-END ∷ rest) =
      (λ (rest : List ℕ). rw (with_end_lem part (ltb-true place (length part) e)) (append_assoc (take place part) (LINE-END ∷ []) rest)) in
      rw e
      (record {
        line = [];
        free = tt;
        holds = rw (fresh l (line_in kept)) holds_nothing;
        done = o.done ++ (begun ∷ []);
        lines = λ rest.
            ap lines_of (append_assoc input (take (place + 1) part) rest)
            ∙ o.lines (take (place + 1) part ++ rest)
            ∙ ap (λ (x : List ℕ). o.done ++ lines_of x) (ap (λ (x : List ℕ). o.line ++ x) (c rest) ∙ sym (append_assoc o.line (take place part) (LINE-END ∷ rest)))
            ∙ ap (λ (ls : List (List ℕ)). o.done ++ ls) (free_line begun rest free_begun)
            ∙ sym (append_assoc o.done (begun ∷ []) (lines_of rest));
        left = same_kept (after_line l (line_in kept)) (behind from (o.done ++ (begun ∷ []))) (one_more from l o.done o.left (line_in kept) begun (kept_alike begun kept holds_begun));
      })

  line_open : has_end part ≡ false → Stands from (fed_listener l part) (input ++ take (used_of part) part)
  unfolding used_of fed_listener gathered_of
  line_open e =
      rw e
      (record {
        line = begun;
        free = free_begun;
        holds = holds_begun;
        done = o.done;
        lines = λ rest.
            ap lines_of (append_assoc input (take place part) rest)
            ∙ o.lines (take place part ++ rest)
            ∙ ap (λ (x : List ℕ). o.done ++ lines_of x) (sym (append_assoc o.line (take place part) rest));
        left = ap (λ (x : Listener). with_kept x kept) o.left;
      })

  once : Stands from (fed_listener l part) (input ++ take (used_of part) part)
  once = go (has_end part) refl
    where
      go : (b : Bool) → has_end part ≡ b → Stands from (fed_listener l part) (input ++ take (used_of part) part)
      go true e = line_ended e
      go false e = line_open e

whole_stands : (n : ℕ) (from l : Listener) (input part : List ℕ) → length part ≤ n → Stands from l input
    → Stands from (left_up_to SPEECH-ROOM kept_in with_kept after_line text_of n l part) (input ++ part)
whole_stands zero from l input [] h o = rw append-nil o
whole_stands zero from l input (b ∷ part) h o = absurd (omega arith)
whole_stands (suc n) from l input [] h o = rw append-nil o
whole_stands (suc n) from l input (b ∷ part) h o =
    let P : List ℕ = b ∷ part in
    let u = used_some P (omega arith) in
    let d = length-drop (used_of P) P in
    let more =
    whole_stands n from (fed_listener l P) (input ++ take (used_of P) P) (drop (used_of P) P) (omega arith) (once from l input P o) in
    rw (part_is l P) (rw (append_assoc input (take (used_of P) P) (drop (used_of P) P), take-append-drop (used_of P) P) at more)

parts_stand : (from l : Listener) (input : List ℕ) (parts : List (List ℕ)) → Stands from l input
    → Stands from (left_by_parts SPEECH-ROOM kept_in with_kept after_line text_of l parts) (input ++ joined parts)
unfolding left_by_whole
parts_stand from l input [] o = rw append-nil o
parts_stand from l input (p ∷ ps) o =
    let more =
    parts_stand from (left_up_to SPEECH-ROOM kept_in with_kept after_line text_of (length p) l p) (input ++ p) ps
    (whole_stands (length p) from l input p (omega arith) o) in
    rw (append_assoc input p (joined ps)) at more

ended : (from l : Listener) (input : List ℕ) → Stands from l input
    → same_but_kept (left_at_end SPEECH-ROOM kept_in after_line text_of l) (behind from (lines_of input))
unfolding lines_of
ended from l input o = go o.line o.free o.holds refl
  where
    all : lines_of input ≡ o.done ++ lines_of o.line
    all = ap lines_of (sym (append-nil input)) ∙ o.lines [] ∙ ap (λ (x : List ℕ). o.done ++ lines_of x) (append-nil o.line)

    go : (line : List ℕ) → Free line → Holds line l.kept → o.line ≡ line
        → same_but_kept (left_at_end SPEECH-ROOM kept_in after_line text_of l) (behind from (lines_of input))
    go [] f k q =
        let c : l.kept.count ≤ 0 = (let n = k.count in omega arith) in
        let z : lines_of input ≡ o.done = all ∙ ap (λ (x : List ℕ). o.done ++ lines_of x) q ∙ append-nil o.done in
        rw (le-ltb 0 l.kept.count c) (o.left ∙ ap (λ (ls : List (List ℕ)). with_kept (behind from ls) l.kept) (sym z))
    go (b ∷ x) f k q =
        let c : 0 < l.kept.count = (let n = k.count in omega arith) in
        let z : lines_of input ≡ o.done ++ ((b ∷ x) ∷ []) = all ∙ ap (λ (y : List ℕ). o.done ++ lines_of y) q ∙ ap (λ (ls : List (List ℕ)). o.done ++ ls) (last_line b x f) in
        rw (lt-ltb 0 l.kept.count c)
        (same_kept (after_line l (line_in l.kept)) (behind from (lines_of input)) (one_more from l o.done o.left (line_in l.kept) (b ∷ x) (kept_alike (b ∷ x) l.kept k) ∙ ap (behind from) (sym z)))

start : (runs : Bool) → Stands (beginning runs) (beginning runs) []
unfolding beginning
start runs = record { line = []; free = tt; holds = holds_nothing; done = []; lines = λ rest. refl; left = refl }

-- What a run leaves of a listener who begins is what all lines of the input leave, the last one with or without its end, so that `follows`,
-- `holds` and `told_exactly` speak of it; and that input is what the reader gave, as far as it says what it has.
pub ran_behind : (runs : Bool) (out : List ℕ) (more rest : Option Bytes) (r : Result Listener Refusal)
    → Ran SPEECH-ROOM kept_in with_kept after_line text_of (beginning runs) out more rest r
    → IfOk r (λ l. (input : List ℕ) × Consumes more rest input × same_but_kept l (behind (beginning runs) (lines_of input)))
ran_behind runs out more rest r (Refused h) = tt
ran_behind runs out more rest r (Ended h parts k) =
    let l : Listener = left_by_parts SPEECH-ROOM kept_in with_kept after_line text_of (beginning runs) parts in
    (joined parts, k, ended (beginning runs) l (joined parts) (parts_stand (beginning runs) (beginning runs) [] parts (start runs)))
