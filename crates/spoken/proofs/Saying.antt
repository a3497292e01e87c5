-- The lines put one behind the other, how long they are at most, and each way out of speaking.
use mathlib.Core.Path.{◌≡◌, refl, sym, ◌∙◌}
use mathlib.Core.Bool.{Bool, true, false, cond, not, ◌&&◌, false≢true}
use mathlib.Core.List.{List, ◌++◌}
use Prim.Native.Nat.{ℕ, zero, suc, ◌+◌, ◌*◌, ◌≤◌, ◌<◌}
use native.Mathlib.Omega.{arith}
use lib.Dec.{leb, ltb}
use lib.ListN.{length, length-append, take}
use lib.Seq.{length-take-le}
use borrow.Author.Tests.{le-leb, leb-true, lt-leb, ltb-true}
use Rattle.ground.specs.Truth.{and_left}
use Rattle.ground.specs.Counting.Laws.Tests.{every_at, every_ext, every_fails, every_on}
use Rattle.sender.specs.declared.board.Row.{Row}
use Rattle.text.specs.Ascii.{ascii}
use Rattle.text.specs.Laws.Lengths.{decimal_le, small_le, word_le}
use Rattle.text.specs.Laws.Putting.{is_put, put_then, room, shorter}
use Rattle.text.specs.Output.{Put, put_bytes, put_next}
use Rattle.spoken.specs.declared.lists.Change.{Change}
use Rattle.spoken.specs.declared.lists.Changes.{Changes}
use Rattle.spoken.specs.declared.lists.WaitChange.{WaitChange}
use Rattle.spoken.specs.declared.lists.WaitChange.TheVariants.{Same, Opened, Closed}
use Rattle.spoken.specs.Applying.{change_in, rises_at}
use Rattle.spoken.specs.Changes.{same_row}
use Rattle.spoken.proofs.Fitting.{taken_change, taken_rises}
use Rattle.spoken.specs.Speaking.{SPEECH-ROOM, can_speak, change_lines, change_text, changes_speak, is_shown, now_text, row_text, slot_text, speaks_by, spoken_text, wait_line, was_text}

-- what a call of the writers in crates/text says
abbrev pub Said : List ℕ → ℕ → List ℕ → ℕ → List ℕ → Type 0
Said text at out next new = (next ≡ put_next text at out) × (new ≡ put_bytes text at out)

-- two texts, one behind the other
pub first_put : (x y : List ℕ) {out mid : List ℕ} {at next : ℕ} → at + length (x ++ y) ≤ length out → Said x at out next mid → Put x at out next mid
first_put x y {out} {mid} {at} h p = is_put (shorter x y at (length out) h) p

pub both_put : (x y : List ℕ) {out mid new : List ℕ} {at next last : ℕ} → at + length (x ++ y) ≤ length out → Said x at out next mid → Said y next mid last new
    → Put (x ++ y) at out last new
both_put x y h p q = let f = first_put x y h p in put_then f (is_put (room f y h) q)

-- three texts
pub three_put : (x y z : List ℕ) {out mid low new : List ℕ} {at next last end : ℕ} → at + length (x ++ (y ++ z)) ≤ length out → Said x at out next mid → Said y next mid last low
    → Said z last low end new → Put (x ++ (y ++ z)) at out end new
three_put x y z h p q r = let f = first_put x (y ++ z) h p in put_then f (both_put y z (room f (y ++ z) h) q r)

-- the room that each of three needs
pub one_of_three : (x y z : List ℕ) (at n : ℕ) → at + length (x ++ y ++ z) ≤ n → at + length x ≤ n
one_of_three x y z at n h = shorter x y at n (shorter (x ++ y) z at n h)

pub two_of_three : {x out mid : List ℕ} {at next : ℕ} (y z : List ℕ) → at + length (x ++ y ++ z) ≤ length out → Put x at out next mid → next + length y ≤ length mid
two_of_three {x} {out} {mid} {at} y z h p = room p y (shorter (x ++ y) z at (length out) h)

pub three_of_three : {x y out mid low : List ℕ} {at next last : ℕ} (z : List ℕ) → at + length (x ++ y ++ z) ≤ length out → Put x at out next mid → Put y next mid last low
    → last + length z ≤ length low
three_of_three {x} {y} z h p q = room (put_then p q) z h

pub slot_le : (i : ℕ) → i < 100 → length (slot_text i) ≤ 8
unfolding slot_text
slot_le i h = let a = small_le i h in simp length-append (omega arith)

pub row_le : (r : Row) (mark : ℕ) → length (row_text r mark) ≤ 9
unfolding row_text
row_le r mark = let a = word_le r.word in let b = decimal_le r.number in simp length-append (omega arith)

was_le : (r : Row) → length (was_text r) ≤ 13
unfolding was_text
was_le r = let a = row_le r 9 in simp length-append (omega arith)

now_le : (r : Row) → length (now_text r) ≤ 13
unfolding now_text
now_le r = let a = row_le r 10 in simp length-append (omega arith)

pub change_le : (c : Change) → c.slot < 64 → length (change_text c) ≤ 34
unfolding change_text
change_le c h =
    let a = slot_le c.slot (omega arith) in
    let b = was_le c.old in
    let d = now_le c.new in
    simp length-append (omega arith)

lines_le : (list : List Change) (n : ℕ) → ((k : ℕ) → k < n → (change_in list k).slot < 64) → length (change_lines list n) ≤ 34 * n
lines_le list zero h = omega arith
lines_le list (suc n) h =
    let a = lines_le list n (λ k b. h k (omega arith)) in
    let b = change_le (change_in list n) (h n (omega arith)) in
    simp length-append (omega arith)

pub wait_le : (w : WaitChange) → length (wait_line w) ≤ 12
unfolding wait_line
wait_le Same = omega arith
wait_le Opened = omega arith
wait_le Closed = omega arith

-- the wait's line
pub wait_same : (w : WaitChange) (at : ℕ) (out : List ℕ) → w ≡ Same → Put (wait_line w) at out at out
unfolding wait_line
wait_same w at out e = rw e (record { behind = omega arith; bytes = refl; kept = refl })

pub wait_opened : (w : WaitChange) {at next : ℕ} {out new : List ℕ} → w ≡ Opened → at + length (wait_line w) ≤ length out → Said (ascii "wait\topen\n") at out next new
    → Put (wait_line w) at out next new
unfolding wait_line
wait_opened w e h p = rw e (is_put (rw e at h) p)

pub wait_closed : (w : WaitChange) {at next : ℕ} {out new : List ℕ} → w ≡ Closed → at + length (wait_line w) ≤ length out → Said (ascii "wait\tclosed\n") at out next new
    → Put (wait_line w) at out next new
unfolding wait_line
wait_closed w e h p = rw e (is_put (rw e at h) p)

module _ (list : List Change) (i : ℕ) {at : ℕ} {out new : List ℕ} (long : SPEECH-ROOM ≤ length out) (p : Put (change_lines list i) 0 out at new) where
  pub change_room : i < 64 → ((k : ℕ) → k < i + 1 → (change_in list k).slot < 64) → at + length (change_text (change_in list i)) ≤ length new
  change_room h s =
      let a = lines_le list i (λ k b. s k (omega arith)) in
      let b = change_le (change_in list i) (s i (omega arith)) in
      let d = p.behind in
      let e = p.kept in
      omega arith

  pub wait_room : i ≤ 64 → ((k : ℕ) → k < i → (change_in list k).slot < 64) → (w : WaitChange) → at + length (wait_line w) ≤ length new
  wait_room h s w =
      let a = lines_le list i s in
      let b = wait_le w in
      let d = p.behind in
      let e = p.kept in
      omega arith

-- one change more is judged
module _ (list : List Change) (k : ℕ) (r : Bool) (e : r ≡ speaks_by (change_in list k) (rises_at list k)) where
  pub speak_on : changes_speak list k ≡ true → r ≡ true → changes_speak list (k + 1) ≡ true
  unfolding changes_speak
  speak_on f t = every_on (λ j. speaks_by (change_in list j) (rises_at list j)) k f (sym e ∙ t)

  pub speak_fails : (n : ℕ) → k < n → r ≡ false → false ≡ changes_speak list n
  unfolding changes_speak
  speak_fails n h t = sym (every_fails n (λ j. speaks_by (change_in list j) (rises_at list j)) k h (sym e ∙ t))

pub taken_speak : (list : List Change) (n : ℕ) → changes_speak (take n list) n ≡ changes_speak list n
unfolding changes_speak
taken_speak list n = every_ext n _ _ (λ k h. rw (taken_change list n k h, taken_rises list n k h) refl)

pub taken_lines : (list : List Change) (n m : ℕ) → m ≤ n → change_lines (take n list) m ≡ change_lines list m
taken_lines list n zero h = refl
taken_lines list n (suc m) h = rw (taken_lines list n m (omega arith), taken_change list n m (omega arith)) refl

pub lines_taken : (cs : Changes) (spoken : List Change) → cs.count ≤ 64 → length cs.list ≡ 64 → spoken ≡ take cs.count cs.list
    → change_lines spoken (length spoken) ≡ change_lines cs.list cs.count
lines_taken cs spoken h l s =
    let n : length (take cs.count cs.list) ≡ cs.count = length-take-le cs.count cs.list (omega arith) in
    rw (s, n) (taken_lines cs.list cs.count cs.count (omega arith))

module _ (cs : Changes) where
  pub cannot_many : 64 < cs.count → leb cs.count 64 ≡ can_speak cs
  unfolding can_speak
  cannot_many h = rw (lt-leb cs.count 64 h)

  pub can_each : (spoken : List Change) (r : Bool) → cs.count ≤ 64 → length cs.list ≡ 64 → spoken ≡ take cs.count cs.list → r ≡ changes_speak spoken (length spoken) → r ≡ can_speak cs
  unfolding can_speak
  can_each spoken r h l s e =
      let n : length (take cs.count cs.list) ≡ cs.count = length-take-le cs.count cs.list (omega arith) in
      e ∙ rw (s, n, le-leb cs.count 64 h) (taken_speak cs.list cs.count)

  can_parts : can_speak cs ≡ true → (cs.count ≤ 64) × (changes_speak cs.list cs.count ≡ true)
  unfolding can_speak
  can_parts e = go (leb cs.count 64) refl e
    where
      go : (b : Bool) → leb cs.count 64 ≡ b → cond b (changes_speak cs.list cs.count) false ≡ true → (cs.count ≤ 64) × (changes_speak cs.list cs.count ≡ true)
      go true l f = (leb-true cs.count 64 l, f)
      go false l f = absurd (false≢true f)

  pub can_count : can_speak cs ≡ true → cs.count ≤ 64
  can_count e = (can_parts e).0

  pub can_slots : can_speak cs ≡ true → (k : ℕ) → k < cs.count → (change_in cs.list k).slot < 64
  unfolding changes_speak
  can_slots e k h =
      let c = change_in cs.list k in
      let f = every_at cs.count (λ j. speaks_by (change_in cs.list j) (rises_at cs.list j)) (can_parts e).1 k h in
      let a = and_left (ltb c.slot 64 && rises_at cs.list k && not (same_row c.old c.new) && is_shown c.old.word) (is_shown c.new.word) f in
      let b = and_left (ltb c.slot 64 && rises_at cs.list k && not (same_row c.old c.new)) (is_shown c.old.word) a in
      let d = and_left (ltb c.slot 64 && rises_at cs.list k) (not (same_row c.old c.new)) b in
      ltb-true c.slot 64 (and_left (ltb c.slot 64) (rises_at cs.list k) d)

  pub said_le : can_speak cs ≡ true → length (spoken_text cs) ≤ SPEECH-ROOM
  unfolding spoken_text
  said_le e =
      let a = lines_le cs.list cs.count (can_slots e) in
      let b = wait_le cs.wait in
      let n = can_count e in
      simp length-append (omega arith)
