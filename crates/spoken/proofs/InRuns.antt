-- The lines of runs put one behind the other, how long they are at most, and each way out of telling them.
use Rattle.std.specs.List.{list_all}
use Rattle.std.proofs.lemmas.List.Folds.{list_all_more}
use mathlib.Core.Path.{◌≡◌, refl, sym, ◌∙◌, ap}
use mathlib.Core.Bool.{Bool, true, false, cond, ◌&&◌, false≢true}
use mathlib.Core.List.{List, [], ◌∷◌, ◌++◌, append_assoc, append-nil}
use Prim.Native.Nat.{ℕ, zero, suc, ◌+◌, ◌-◌, ◌*◌, ◌≤◌, ◌<◌}
use native.Mathlib.Numerals.{add-one}
use native.Mathlib.Omega.{arith}
use lib.Dec.{eqb, leb}
use lib.ListN.{drop, drop_of_length-le, length, length-append, length-take, take}
use lib.Seq.{drop-cons, get_or-take}
use borrow.Author.Tests.{eq-eqb, eqb-false, le-leb, leb-true, lt-leb, ne_eqb}
use Rattle.ground.specs.Flags.{one_if}
use Rattle.ground.specs.Table.{get_or_tabulate}
use Rattle.ground.specs.Truth.{cond_by}
use Rattle.sender.specs.declared.board.Board.{Board}
use Rattle.sender.specs.declared.board.Row.{Row}
use Rattle.sender.specs.Ranks.{row_at}
use Rattle.text.specs.Ascii.{ascii}
use Rattle.text.specs.Laws.Lengths.{decimal_le, small_le, word_le}
use Rattle.text.specs.Laws.Putting.{put_then, room}
use Rattle.text.specs.Output.{Put, decimal_text, ended, word_text}
use Rattle.text.specs.Text.{LINE-END, TAB}
use Rattle.spoken.specs.declared.lists.Change.{Change}
use Rattle.spoken.specs.declared.lists.Changes.{Changes}
use Rattle.spoken.specs.declared.runs.Run.{Run}
use Rattle.spoken.specs.Applying.{change_in}
use Rattle.spoken.specs.Changes.{no_change}
use Rattle.spoken.specs.Laws.Runs.{Whole, further, whole_longer, whole_single}
use Rattle.spoken.specs.Runs.{continues, longer, runs_from, runs_of, single}
use Rattle.spoken.specs.Speaking.{SPEECH-ROOM, can_speak, change_text, is_shown, wait_line}
use Rattle.spoken.specs.SpeakingRuns.{are_text, can_speak_whole, is_unnumbered, line_text, lines_in, many_shown, many_text, numbers_text, one_shown, rows_speak, rows_text, run_lines, slots_speak, run_text, runs_text, shown_text, slots_text, standing, standing_at, still_waits, were_text, whole_text}
use Rattle.spoken.proofs.Saying.{Said, can_count, can_slots, change_le, first_put, row_le, slot_le, wait_le}

-- a text that crates/text has put, and one behind it
pub said_then : (x y : List ℕ) {out mid new : List ℕ} {at next last : ℕ} → at + length (x ++ y) ≤ length out → Said x at out next mid → Put y next mid last new
    → Put (x ++ y) at out last new
said_then x y h p q = put_then (first_put x y h p) q

pub said_room : (x y out : List ℕ) (at : ℕ) {mid : List ℕ} {next : ℕ} → at + length (x ++ y) ≤ length out → Said x at out next mid → next + length y ≤ length mid
said_room x y out at h p = room (first_put x y h p) y h

-- each text by its case
module _ (first last mark : ℕ) where
  pub numbers_alike : first ≡ last → numbers_text first last mark ≡ ended (decimal_text first) mark
  unfolding numbers_text
  numbers_alike e = rw (eq-eqb first last e)

  pub numbers_to : (first ≡ last → ⊥) → numbers_text first last mark ≡ ended (decimal_text first) TAB ++ (ended (ascii "to") TAB ++ ended (decimal_text last) mark)
  unfolding numbers_text
  numbers_to d = rw (ne_eqb first last d)

module _ (first last : Row) (mark : ℕ) (b : Bool) (e : b ≡ is_unnumbered first last) where
  pub rows_idle : b ≡ true → rows_text first last mark ≡ ended (ascii "IDLE") mark
  unfolding rows_text
  rows_idle t = rw (← e, t)

  pub rows_numbered : b ≡ false → rows_text first last mark ≡ ended (word_text first.word) TAB ++ numbers_text first.number last.number mark
  unfolding rows_text
  rows_numbered f = rw (← e, f)

module _ (run : Run) where
  pub run_one : run.first.slot ≡ run.last.slot → run_text run ≡ change_text run.first
  unfolding run_text
  run_one e = rw (eq-eqb run.first.slot run.last.slot e)

  pub run_many : (run.first.slot ≡ run.last.slot → ⊥) → run_text run ≡ many_text run
  unfolding run_text
  run_many d = rw (ne_eqb run.first.slot run.last.slot d)

  pub shown_one : run.first.slot ≡ run.last.slot → shown_text run ≡ one_shown run.first
  unfolding shown_text
  shown_one e = rw (eq-eqb run.first.slot run.last.slot e)

  pub shown_many : (run.first.slot ≡ run.last.slot → ⊥) → shown_text run ≡ many_shown run
  unfolding shown_text
  shown_many d = rw (ne_eqb run.first.slot run.last.slot d)

  pub line_shown : (shown : Bool) → shown ≡ true → line_text shown run ≡ shown_text run
  unfolding line_text
  line_shown shown e = rw e

  pub line_run : (shown : Bool) → shown ≡ false → line_text shown run ≡ run_text run
  unfolding line_text
  line_run shown e = rw e

numbers_le : (first last mark : ℕ) → length (numbers_text first last mark) ≤ 11
unfolding numbers_text
numbers_le first last mark =
    let a = decimal_le first in
    let b = decimal_le last in
    cond_by (λ (t : List ℕ). length t ≤ 11) (eqb first last) (ended (decimal_text first) mark) (ended (decimal_text first) TAB ++ (ended (ascii "to") TAB ++ ended (decimal_text last) mark))
    (λ e. simp length-append (omega arith)) (λ e. simp length-append (omega arith))

slots_le : (from to : ℕ) → from < 100 → to < 100 → length (slots_text from to) ≤ 15
unfolding slots_text numbers_text
slots_le from to h g =
    let a = small_le from h in
    let b = small_le to g in
    cond_by (λ (t : List ℕ). length (ended (ascii "slots") TAB ++ t) ≤ 15) (eqb from to) (ended (decimal_text from) TAB) (ended (decimal_text from) TAB ++ (ended (ascii "to") TAB ++ ended (decimal_text to) TAB))
    (λ e. simp length-append (omega arith)) (λ e. simp length-append (omega arith))

rows_le : (first last : Row) (mark : ℕ) → length (rows_text first last mark) ≤ 16
unfolding rows_text
rows_le first last mark =
    let a = word_le first.word in
    let b = numbers_le first.number last.number mark in
    cond_by (λ (t : List ℕ). length t ≤ 16) (eqb first.word.0 5 && eqb first.number 255 && eqb last.number 255) (ended (ascii "IDLE") mark)
    (ended (word_text first.word) TAB ++ numbers_text first.number last.number mark) (λ e. simp length-append (omega arith)) (λ e. simp length-append (omega arith))

were_le : (first last : Row) → length (were_text first last) ≤ 20
unfolding were_text
were_le first last = let a = rows_le first last 9 in simp length-append (omega arith)

are_le : (first last : Row) → length (are_text first last) ≤ 20
unfolding are_text
are_le first last = let a = rows_le first last 10 in simp length-append (omega arith)

module _ (run : Run) (w : Whole run) (b : run.last.slot < 64) where
  abbrev far : ℕ
  far = run.last.slot - run.first.slot

  low : run.first.slot < 64
  low = let r = w.rising in omega arith

  far_apart : (run.first.slot ≡ run.last.slot → ⊥) → 0 < far
  far_apart d = let r = w.rising in omega arith

  many_le : length (many_text run) ≤ 55
  unfolding many_text
  many_le =
      let l = low in
      let x = slots_le run.first.slot run.last.slot (omega arith) (omega arith) in
      let y = were_le run.first.old run.last.old in
      let z = are_le run.first.new run.last.new in
      simp length-append (omega arith)

  many_shown_le : length (many_shown run) ≤ 31
  unfolding many_shown
  many_shown_le =
      let l = low in
      let x = slots_le run.first.slot run.last.slot (omega arith) (omega arith) in
      let z = rows_le run.first.new run.last.new LINE-END in
      simp length-append (omega arith)

  one_shown_le : length (one_shown run.first) ≤ 17
  unfolding one_shown
  one_shown_le =
      let l = low in
      let x = slot_le run.first.slot (omega arith) in
      let z = row_le run.first.new LINE-END in
      simp length-append (omega arith)

  run_le : length (run_text run) ≤ 34 * suc far
  unfolding run_text
  run_le =
      let one = change_le run.first low in
      let many = many_le in
      cond_by (λ (t : List ℕ). length t ≤ 34 * suc far) (eqb run.first.slot run.last.slot) _ (many_text run) (λ e. omega arith)
      (λ e. let d = far_apart (eqb-false run.first.slot run.last.slot e) in omega arith)

  shown_le : length (shown_text run) ≤ 34 * suc far
  unfolding shown_text
  shown_le =
      let one = one_shown_le in
      let many = many_shown_le in
      cond_by (λ (t : List ℕ). length t ≤ 34 * suc far) (eqb run.first.slot run.last.slot) (one_shown run.first) (many_shown run) (λ e. omega arith) (λ e. omega arith)

  line_le : (shown : Bool) → length (line_text shown run) ≤ 34 * suc far
  unfolding line_text
  line_le true = shown_le
  line_le false = run_le

abbrev Below : List Change → Type 0
Below l = (k : ℕ) → k < length l → (change_in l k).slot < 64

from_le : (shown : Bool) (run : Run) (rest : List Change) → Whole run → run.last.slot < 64 → Below rest
    → length (run_lines shown (runs_from run rest)) ≤ 34 * (suc (run.last.slot - run.first.slot) + length rest)
from_le shown run [] w b r = let l = line_le run w b shown in simp length-append (omega arith)
from_le shown run (next ∷ rest) w b r =
    let s : next.slot < 64 = r 0 (omega arith) in
    let t : Below rest = (λ k h. r (suc k) (omega arith)) in
    cond_by (λ (runs : List Run). length (run_lines shown runs) ≤ 34 * (suc (run.last.slot - run.first.slot) + suc (length rest))) (continues run next)
    (runs_from (longer run next) rest) (run ∷ runs_from (single next) rest)
    (λ e.
    let f = further run next w e in
    let m = from_le shown (longer run next) rest (whole_longer run next w e) s t in
    omega arith)
    (λ e.
    let l = line_le run w b shown in
    let m = from_le shown (single next) rest (whole_single next) s t in
    let z : next.slot - next.slot ≡ 0 = omega arith in
    simp length-append (omega arith))

runs_le : (shown : Bool) (list : List Change) → Below list → length (run_lines shown (runs_of list)) ≤ 34 * length list
runs_le shown [] b = omega arith
runs_le shown (change ∷ rest) b =
    let m = from_le shown (single change) rest (whole_single change) (b 0 (omega arith)) (λ k h. b (suc k) (omega arith)) in
    let z : change.slot - change.slot ≡ 0 = omega arith in
    omega arith

pub lines_le : (shown : Bool) (list : List Change) (n : ℕ) → ((k : ℕ) → k < n → (change_in list k).slot < 64) → length (lines_in shown list n) ≤ 34 * n
unfolding lines_in
lines_le shown list n h =
    let m = length-take n list in
    let b : Below (take n list) = (λ k g. rw (get_or-take n list k no_change (omega arith)) (h k (omega arith))) in
    let l = runs_le shown (take n list) b in
    omega arith

-- What is put so far, and what the changes behind it still make of the run that has begun.
module _ (shown : Bool) (first : Change) (rest : List Change) where
  abbrev pub all_lines : List ℕ
  all_lines = run_lines shown (runs_of (first ∷ rest))

  pub record Telling (run : Run) (k : ℕ) (out₀ : List ℕ) (at : ℕ) (out : List ℕ) : Type 0 where
    pub done : List ℕ
    pub put : Put done 0 out₀ at out
    pub still : done ++ run_lines shown (runs_from run (drop k rest)) ≡ all_lines

  pub telling_none : (out : List ℕ) → Telling (single first) 0 out 0 out
  telling_none out = record { done = []; put = record { behind = omega arith; bytes = refl; kept = refl }; still = refl }

  module _ {run : Run} {k at : ℕ} {out₀ out : List ℕ} (t : Telling run k out₀ at out) where
    module _ (h : k < length rest) (b : Bool) (e : b ≡ continues run (change_in rest k)) where
      abbrev next : Change
      next = change_in rest k

      rest_is : drop k rest ≡ next ∷ drop (suc k) rest
      rest_is = drop-cons rest k no_change h

      with_next : t.done ++ run_lines shown (runs_from run (next ∷ drop (suc k) rest)) ≡ all_lines
      with_next = ap (λ (l : List Change). t.done ++ run_lines shown (runs_from run l)) (sym rest_is) ∙ t.still

      -- the next change makes the run longer
      pub telling_longer : b ≡ true → Telling (longer run next) (k + 1) out₀ at out
      telling_longer g = record { done = t.done; put = t.put; still = rw add-one (rw (← e, g) at with_next) }

      -- or ends it
      module _ (g : b ≡ false) where
        then_next : t.done ++ (line_text shown run ++ run_lines shown (runs_from (single next) (drop (suc k) rest))) ≡ all_lines
        then_next = rw (← e, g) at with_next

        pub line_room : length all_lines ≤ length out₀ → at + length (line_text shown run) ≤ length out
        line_room l =
            let a = ap length then_next in
            let c = length-append t.done (line_text shown run ++ run_lines shown (runs_from (single next) (drop (suc k) rest))) in
            let d = length-append (line_text shown run) (run_lines shown (runs_from (single next) (drop (suc k) rest))) in
            let p = t.put.behind in
            let q = t.put.kept in
            omega arith

        pub telling_next : {last : ℕ} {new : List ℕ} → Put (line_text shown run) at out last new → Telling (single next) (k + 1) out₀ last new
        telling_next p =
            record {
              done = t.done ++ line_text shown run;
              put = put_then t.put p;
              still = rw add-one (append_assoc t.done (line_text shown run) _ ∙ then_next);
            }

    module _ (h : length rest ≤ k) where
      last_still : t.done ++ line_text shown run ≡ all_lines
      last_still =
          ap (λ (l : List ℕ). t.done ++ l) (sym (append-nil (line_text shown run)))
          ∙ ap (λ (l : List Change). t.done ++ run_lines shown (runs_from run l)) (sym (drop_of_length-le rest {i = k} h))
          ∙ t.still

      pub last_room : length all_lines ≤ length out₀ → at + length (line_text shown run) ≤ length out
      last_room l =
          let a = ap length last_still in
          let b = length-append t.done (line_text shown run) in
          let p = t.put.behind in
          let q = t.put.kept in
          omega arith

      pub telling_all : {last : ℕ} {new : List ℕ} → Put (line_text shown run) at out last new → Put all_lines 0 out₀ last new
      telling_all p = rw (← last_still) (put_then t.put p)

-- the lines of the changes that are looked at
pub runs_taken : (shown : Bool) (list : List Change) (n : ℕ) (spoken : List Change) → spoken ≡ take n list → run_lines shown (runs_of spoken) ≡ lines_in shown list n
unfolding lines_in
runs_taken shown list n spoken s = rw s

-- the lines of changes that can be spoken have room
module _ (cs : Changes) where
  pub runs_room : can_speak cs ≡ true → length (lines_in false cs.list cs.count) ≤ 2176
  runs_room e = let a = lines_le false cs.list cs.count (can_slots cs e) in let n = can_count cs e in omega arith

  pub runs_text_le : can_speak cs ≡ true → length (runs_text cs) ≤ SPEECH-ROOM
  unfolding runs_text
  runs_text_le e =
      let a = runs_room e in
      let b = wait_le cs.wait in
      simp length-append (omega arith)

  pub wait_behind : {at : ℕ} {out new : List ℕ} → can_speak cs ≡ true → SPEECH-ROOM ≤ length out → Put (lines_in false cs.list cs.count) 0 out at new
      → at + length (wait_line cs.wait) ≤ length new
  wait_behind e h p =
      let a = runs_room e in
      let b = wait_le cs.wait in
      let x = p.behind in
      let y = p.kept in
      omega arith

-- a board as it stands
pub rows_listed : (rows : List Row) (n : ℕ) → n ≤ length rows → rows_speak rows n ≡ list_all (λ (r : Row). is_shown r.word) (take n rows)
unfolding rows_speak
rows_listed rows zero h = refl
rows_listed rows (suc n) h =
    let o = rows_listed rows n (omega arith) in
    let m = list_all_more (λ (r : Row). is_shown r.word) rows n (record { word = record { 0 = 0 }; number = 0 }) (omega arith) in
    ap (λ (b : Bool). b && is_shown (row_at rows n).word) o ∙ sym m ∙ ap (λ (k : ℕ). list_all (λ (r : Row). is_shown r.word) (take k rows)) (add-one n)

pub slots_listed : (rows : List Row) (count n : ℕ) (r : Bool) → length rows ≡ 64 → count ≤ 64 → n ≡ count
    → r ≡ list_all (λ (row : Row). is_shown row.word) (take n rows) → r ≡ slots_speak rows count
slots_listed rows count n r l m s e = e ∙ rw (s, le-leb count 64 m) (sym (rows_listed rows count (omega arith)))

pub slots_many : (rows : List Row) (count : ℕ) → 64 < count → leb count 64 ≡ slots_speak rows count
slots_many rows count m = rw (lt-leb count 64 m)

standing_at_lem : (rows : List Row) (k : ℕ) → k < 64 → change_in (standing rows) k ≡ standing_at rows k
unfolding standing
standing_at_lem rows k h = get_or_tabulate 64 (standing_at rows) k no_change h

pub runs_standing : (board : Board) (list : List Change) (n : ℕ) → n ≡ board.count → list ≡ standing board.rows
    → run_lines true (runs_of (take n list)) ≡ lines_in true (standing board.rows) board.count
unfolding lines_in
runs_standing board list n e f = rw (e, f)

still_le : (wait : Bool) → length (still_waits wait) ≤ 9
unfolding still_waits
still_le wait = let a = decimal_le (one_if wait) in simp length-append (omega arith)

module _ (board : Board) where
  pub whole_count : can_speak_whole board ≡ true → board.count ≤ 64
  unfolding can_speak_whole
  whole_count e = go (leb board.count 64) refl e
    where
      go : (b : Bool) → leb board.count 64 ≡ b → cond b (rows_speak board.rows board.count) false ≡ true → board.count ≤ 64
      go true l f = leb-true board.count 64 l
      go false l f = absurd (false≢true f)

  pub whole_room : can_speak_whole board ≡ true → length (lines_in true (standing board.rows) board.count) ≤ 2176
  whole_room e =
      let n = whole_count e in
      let a =
      lines_le true (standing board.rows) board.count
      (λ k h. let s = ap (λ (c : Change). c.slot) (standing_at_lem board.rows k (omega arith)) in omega arith) in
      omega arith

  pub whole_text_le : can_speak_whole board ≡ true → length (whole_text board) ≤ SPEECH-ROOM
  unfolding whole_text
  whole_text_le e =
      let a = whole_room e in
      let b = still_le board.wait in
      simp length-append (omega arith)

  pub still_behind : {at : ℕ} {out new : List ℕ} → can_speak_whole board ≡ true → SPEECH-ROOM ≤ length out → Put (lines_in true (standing board.rows) board.count) 0 out at new
      → at + length (still_waits board.wait) ≤ length new
  still_behind e h p =
      let a = whole_room e in
      let b = still_le board.wait in
      let x = p.behind in
      let y = p.kept in
      omega arith
