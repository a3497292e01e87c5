-- The lines for a listener put one behind the other, and how long they are at most.
use Rattle.std.specs.Prelude.{Result, Ok, Err}
use Rattle.std.specs.Result.{result_unwrap_or}
use mathlib.Core.Path.{◌≡◌, refl, sym, ◌∙◌, ap}
use mathlib.Core.Bool.{Bool, true, false, cond}
use mathlib.Core.List.{List, [], ◌∷◌, ◌++◌}
use Prim.Native.Nat.{ℕ, zero, suc, ◌+◌, ◌/◌, ◌%◌, ◌≤◌}
use native.Mathlib.Omega.{arith}
use lib.Dec.{eqb, ltb}
use lib.ListN.{drop, length, length-append}
use lib.Seq.{sets-eq}
use borrow.Author.Tests.{le-ltb}
use Rattle.ground.specs.Truth.{cond_by}
use Rattle.session_lines.specs.declared.line.Line.{Line}
use Rattle.session_lines.specs.declared.line.Line.TheVariants.{Size, Add, Remove, Report, Lapse, Board, Malformed}
use Rattle.session_lines.specs.Output.{ROOM}
use Rattle.session_lines.specs.Session.{over}
use Rattle.session_lines.specs.Shown.{shown_bytes, shown_length}
use Rattle.session_lines.specs.Told.{is_size}
use Rattle.sender.specs.declared.board.Board.{Board as BoardRows}
use Rattle.sender.specs.declared.table.Table.{Table}
use Rattle.sender.specs.Board.{board_of}
use Rattle.spoken.specs.declared.lists.Changes.{Changes}
use Rattle.spoken.specs.Answers.{Compared, Speech, length_back, told_changes, told_length}
use Rattle.spoken.specs.Changes.{compared_of, no_changes}
use Rattle.spoken.specs.declared.lists.Refusal.{Refusal}
use Rattle.spoken.specs.Theorems.NothingLost.{compared_known}
use Rattle.spoken.specs.Speaking.{SPEECH-ROOM, can_speak, changes_speak, speech_bytes, speech_of, spoken_text, wait_line}
use Rattle.spoken.specs.SpeakingRuns.{can_speak_whole, lines_in, runs_speech_bytes, runs_speech_of, runs_text, whole_speech_bytes, whole_speech_of, whole_text}
use Rattle.text.specs.Ascii.{ascii}
use Rattle.text.specs.Laws.Lengths.{decimal_le}
use Rattle.text.specs.Laws.Putting.{is_put, put_then}
use Rattle.text.specs.Output.{Put, decimal_text, digits_before, ended, number_text, put_bytes, put_next}
use Rattle.text.specs.Text.{LINE-END, TAB}
use Rattle.speak_lines.specs.Lines.{board_lines, cause_text, change_lines, done_text, named_text, numbered_text, refused_text, why_text}

-- what a call of the writers in crates/text says
abbrev pub Said : List ℕ → ℕ → List ℕ → ℕ → List ℕ → Type 0
Said text at out next new = (next ≡ put_next text at out) × (new ≡ put_bytes text at out)

-- a text at the front of a buffer
abbrev pub Stands : List ℕ → List ℕ → ℕ → List ℕ → Type 0
Stands text out next new = (next ≡ length text) × (new ≡ over text out)

-- the front of a line, of at most so many bytes
pub record Front (most : ℕ) (text out : List ℕ) (next : ℕ) (new : List ℕ) : Type 0 where
  pub put : Put text 0 out next new
  pub short : length text ≤ most

pub first : (most : ℕ) (x : List ℕ) {out new : List ℕ} {next : ℕ} → length x ≤ most → most ≤ length out → Said x 0 out next new → Front most x out next new
first most x {out} h r s = let l : 0 + length x ≤ length out = omega arith in record { put = is_put l s; short = h }

-- a text behind it
pub more : (n m : ℕ) (x y : List ℕ) {out mid new : List ℕ} {next last : ℕ} → length y ≤ m → n + m ≤ length out → Front n x out next mid → Said y next mid last new
    → Front (n + m) (x ++ y) out last new
more n m x y {out} {mid} {new} {next} {last} h r f s =
    let b = f.put.behind in
    let k = f.put.kept in
    let l = f.short in
    let a = length-append x y in
    let g : next + length y ≤ length mid = omega arith in
    record { put = put_then f.put (is_put g s); short = omega arith }

pub stands : (most : ℕ) {text out new : List ℕ} {next : ℕ} → most ≤ length out → Front most text out next new → Stands text out next new
stands most {text} {out} r f =
    let s = f.short in
    let z : 0 + length text ≡ length text = omega arith in
    let l : 0 + length text ≤ length out = omega arith in
    (rw z at f.put.behind, rw z at (f.put.bytes ∙ sets-eq text out 0 l))

before_le : (most n : ℕ) (text : List ℕ) → length (digits_before most n text) ≤ most + length text
before_le zero n text = omega arith
before_le (suc most) n text = go (ltb 0 n) (before_le most (n / 10) ((48 + n % 10) ∷ text))
  where
    go : (b : Bool) → length (digits_before most (n / 10) ((48 + n % 10) ∷ text)) ≤ most + suc (length text)
        → length (cond b (digits_before most (n / 10) ((48 + n % 10) ∷ text)) text) ≤ suc most + length text
    go true h = omega arith
    go false h = omega arith

pub number_le : (n mark : ℕ) → length (ended (number_text n) mark) ≤ 21
unfolding number_text
number_le n mark = let h = before_le 19 (n / 10) ((48 + n % 10) ∷ []) in simp length-append (omega arith)

pub short_le : (n mark : ℕ) → length (ended (decimal_text n) mark) ≤ 4
short_le n mark = let h = decimal_le n in simp length-append (omega arith)

pub named_le : (line : Line) → length (named_text line) ≤ 12
named_le (Size n) = omega arith
named_le (Add n) = omega arith
named_le (Remove n) = omega arith
named_le (Report epoch mst ack) = omega arith
named_le Lapse = omega arith
named_le Board = omega arith
named_le Malformed = omega arith

pub numbered_le : (line : Line) → length (numbered_text line) ≤ 21
numbered_le (Size n) = number_le n TAB
numbered_le (Add n) = number_le n TAB
numbered_le (Remove n) = number_le n TAB
numbered_le (Report epoch mst ack) = omega arith
numbered_le Lapse = omega arith
numbered_le Board = omega arith
numbered_le Malformed = omega arith

cause_le : (line : Line) → length (cause_text line) ≤ 16
cause_le (Size n) = omega arith
cause_le (Add n) = omega arith
cause_le (Remove n) = omega arith
cause_le (Report epoch mst ack) = omega arith
cause_le Lapse = omega arith
cause_le Board = omega arith
cause_le Malformed = omega arith

pub why_le : (line : Line) (number : ℕ) → length (why_text line number) ≤ 16
why_le line number =
    cond_by (λ (t : List ℕ). length t ≤ 16) (eqb number 1) (ascii "no such slot\n") (cond (eqb number 3) (ascii "a wait is open\n") (cause_text line)) (λ e. omega arith)
    (λ e. cond_by (λ (t : List ℕ). length t ≤ 16) (eqb number 3) (ascii "a wait is open\n") (cause_text line) (λ d. omega arith) (λ d. cause_le line))

-- a refused line, one piece behind the other
module _ (line : Line) (number place : ℕ) (out : List ℕ) (r : SPEECH-ROOM ≤ length out) where
  pub refused_stands : {m1 m2 m3 m4 m5 m6 new : List ℕ} {n1 n2 n3 n4 n5 n6 last : ℕ} → Said (ascii "answer\t") 0 out n1 m1 → Said (ended (decimal_text number) TAB) n1 m1 n2 m2 → Said (ascii "line\t") n2 m2 n3 m3
      → Said (ended (number_text place) TAB) n3 m3 n4 m4 → Said (named_text line) n4 m4 n5 m5 → Said (numbered_text line) n5 m5 n6 m6
      → Said (why_text line number) n6 m6 last new → Stands (refused_text line number place) out last new
  unfolding refused_text
  refused_stands a b c d e f g =
      let p = first 7 (ascii "answer\t") (omega arith) (omega arith) a in
      let q = more 7 4 _ (ended (decimal_text number) TAB) (short_le number TAB) (omega arith) p b in
      let s = more 11 5 _ (ascii "line\t") (omega arith) (omega arith) q c in
      let t = more 16 21 _ (ended (number_text place) TAB) (number_le place TAB) (omega arith) s d in
      let u = more 37 12 _ (named_text line) (named_le line) (omega arith) t e in
      let v = more 49 21 _ (numbered_text line) (numbered_le line) (omega arith) u f in
      stands 86 (omega arith) (more 70 16 _ (why_text line number) (why_le line number) (omega arith) v g)

module _ (line : Line) (count : ℕ) (out : List ℕ) (b : Bool) (e : b ≡ is_size line) where
  pub done_size : {mid new : List ℕ} {next last : ℕ} → b ≡ true → SPEECH-ROOM ≤ length out → Said (ascii "size\t") 0 out next mid → Said (ended (decimal_text count) LINE-END) next mid last new
      → Stands (done_text line count) out last new
  unfolding done_text
  done_size h r s t =
      let p = first 5 (ascii "size\t") (omega arith) (omega arith) s in
      rw (← e, h) (stands 9 (omega arith) (more 5 4 _ (ended (decimal_text count) LINE-END) (short_le count LINE-END) (omega arith) p t))

  pub done_none : b ≡ false → Stands (done_text line count) out 0 out
  unfolding done_text
  done_none h = rw (← e, h) (refl, refl)

-- a text that is told or not
told_or_not : (b : Bool) (text out : List ℕ) → (cond b (length text) 0 ≡ length (cond b text [])) × (cond b (text ++ drop (length text) out) out ≡ over (cond b text []) out)
told_or_not true text out = (refl, refl)
told_or_not false text out = (refl, refl)

-- how many bytes are written, none where nothing can be said
written_is : (r : Result ℕ Refusal) → result_unwrap_or r 0 ≡ (length_back r).written
written_is (Ok written) = refl
written_is (Err refusal) = refl

pub told_written : (r : Result ℕ Refusal) (s : Speech) (n : ℕ) → r ≡ told_length s → length_back (told_length s) ≡ s → n ≡ result_unwrap_or r 0 → n ≡ s.written
told_written r s n e w f = f ∙ written_is r ∙ rw e (ap (λ (x : Speech). x.written) w)

-- between boards of different sizes no change is told
pub none_told : (runs : Bool) → change_lines runs no_changes ≡ []
unfolding change_lines no_changes can_speak changes_speak runs_text lines_in spoken_text wait_line
none_told true = refl
none_told false = refl

pub uncompared : (a b : BoardRows) (refusal : Refusal) → Err refusal ≡ told_changes (compared_of a b) → (compared_of a b).changes ≡ no_changes
uncompared a b refusal e = ap (λ (c : Compared). c.changes) (sym (rw (← e) at (compared_known a b)))

module _ (runs : Bool) (out new : List ℕ) (s : Speech) (r : SPEECH-ROOM ≤ length out) where
  pub board_runs : runs ≡ true → (t : Table) (d : BoardRows) → d ≡ board_of t → (s ≡ whole_speech_of d out) × (new ≡ whole_speech_bytes d out) → Stands (board_lines runs t) out s.written new
  unfolding board_lines whole_speech_of whole_speech_bytes
  board_runs h t d f e =
      let x = told_or_not (can_speak_whole d) (whole_text d) out in
      rw (h, ← f, e.0, e.1, le-ltb (length out) SPEECH-ROOM r) x

  pub changes_runs : runs ≡ true → (cs : Changes) → (s ≡ runs_speech_of cs out) × (new ≡ runs_speech_bytes cs out) → Stands (change_lines runs cs) out s.written new
  unfolding change_lines runs_speech_of runs_speech_bytes
  changes_runs h cs e =
      let x = told_or_not (can_speak cs) (runs_text cs) out in
      rw (h, e.0, e.1, le-ltb (length out) SPEECH-ROOM r) x

  pub changes_each : runs ≡ false → (cs : Changes) → (s ≡ speech_of cs out) × (new ≡ speech_bytes cs out) → Stands (change_lines runs cs) out s.written new
  unfolding change_lines speech_of speech_bytes
  changes_each h cs e =
      let x = told_or_not (can_speak cs) (spoken_text cs) out in
      rw (h, e.0, e.1, le-ltb (length out) SPEECH-ROOM r) x

pub board_each : (runs : Bool) (t : Table) (out new : List ℕ) (n : ℕ) → SPEECH-ROOM ≤ length out → runs ≡ false → (n ≡ shown_length t out) × (new ≡ shown_bytes t out)
    → Stands (board_lines runs t) out n new
unfolding board_lines shown_length shown_bytes
board_each runs t out new n r h e =
    let q : ROOM ≤ length out = omega arith in
    rw (h, e.0, e.1, le-ltb (length out) ROOM q) (refl, refl)
