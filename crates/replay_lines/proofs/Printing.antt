-- The printed lines put one behind the other, and how long they are at most.
use Rattle.std.proofs.Common.{◌≡◌, ℕ, zero, suc, ◌+◌, ◌*◌, ◌/◌, ◌%◌, ◌<◌, ◌≤◌, Bool, true, false, cond, ◌||◌, eqb, ltb, List, [], ◌∷◌, ◌++◌, length, get_or, refl, ap, ◌∙◌, arith, length-append, eq-eqb, ne_eqb}
use lib.Seq.{sets-eq}
use Rattle.replay_lines.specs.Output.{ROOM, answer_text, blamed_text, cause_text, change_text, changes_text, count_in, epoch_text, mark_text, place_text, port_text, report_text, state_line, state_text, why_text}
use Rattle.replay_lines.specs.Turn.{over}
use Rattle.text.specs.Ascii.{ascii}
use Rattle.text.specs.Laws.Lengths.{decimal_le, small_le}
use Rattle.text.specs.Laws.Putting.{is_put, put_then, room}
use Rattle.text.specs.Output.{Put, decimal_text, digits_before, ended, number_text, put_bytes, put_next}
use Rattle.text.specs.Text.{LINE-END, TAB}

-- one text more, where all have room
pub put_more : (y : List ℕ) {x out mid new : List ℕ} {at next last : ℕ} → Put x at out next mid → at + length (x ++ y) ≤ length out → (last ≡ put_next y next mid) × (new ≡ put_bytes y next mid) → Put (x ++ y) at out last new
put_more y p h e = put_then p (is_put (room p y h) e)

pub put_over : {text out new : List ℕ} {next : ℕ} → Put text 0 out next new → length text ≤ length out → (next ≡ length text) × (new ≡ over text out)
put_over {text} {out} p h =
    let z : 0 + length text ≡ length text = omega arith in
    let r : 0 + length text ≤ length out = omega arith in
    (rw z at p.behind, rw z at (p.bytes ∙ sets-eq text out 0 r))

-- words
pub mark_held : (m : ℕ) → m ≡ 1 → ended (mark_text m) TAB ≡ 104 ∷ 101 ∷ 108 ∷ 100 ∷ 9 ∷ []
unfolding mark_text
mark_held m a = rw (eq-eqb m 1 a)

pub mark_doubtful : (m : ℕ) → (m ≡ 1 → ⊥) → m ≡ 2 → ended (mark_text m) TAB ≡ 100 ∷ 111 ∷ 117 ∷ 98 ∷ 116 ∷ 102 ∷ 117 ∷ 108 ∷ 9 ∷ []
unfolding mark_text
mark_doubtful m a b = rw (ne_eqb m 1 a, eq-eqb m 2 b)

pub mark_sure : (m : ℕ) → (m ≡ 1 → ⊥) → (m ≡ 2 → ⊥) → ended (mark_text m) TAB ≡ 115 ∷ 117 ∷ 114 ∷ 101 ∷ 9 ∷ []
unfolding mark_text
mark_sure m a b = rw (ne_eqb m 1 a, ne_eqb m 2 b)

pub cause_refused : (c : ℕ) → c ≡ 1 → cause_text c ≡ ascii "a ruling packet was refused"
unfolding cause_text
cause_refused c e = ap cause_text e

pub cause_lacking : (c : ℕ) → c ≡ 2 → cause_text c ≡ ascii "an active port lacks a frame"
unfolding cause_text
cause_lacking c e = ap cause_text e

pub cause_repeated : (c : ℕ) → c ≡ 3 → cause_text c ≡ ascii "numbers of active and DNU ports repeat"
unfolding cause_text
cause_repeated c e = ap cause_text e

pub cause_gid : (c : ℕ) → c ≡ 4 → cause_text c ≡ ascii "GID differs among ports that are not IDLE"
unfolding cause_text
cause_gid c e = ap cause_text e

pub cause_eos : (c : ℕ) → c ≡ 5 → cause_text c ≡ ascii "EOS is not on the highest active port alone"
unfolding cause_text
cause_eos c e = ap cause_text e

pub cause_unseen : (c : ℕ) → c ≡ 6 → cause_text c ≡ ascii "a port has no whole ruling packet"
unfolding cause_text
cause_unseen c e = ap cause_text e

pub cause_numbers :
    (c : ℕ) → (c ≡ 1 → ⊥) → (c ≡ 2 → ⊥) → (c ≡ 3 → ⊥) → (c ≡ 4 → ⊥) → (c ≡ 5 → ⊥) → (c ≡ 6 → ⊥) → cause_text c ≡ ascii "the numbers are not 0 to n - 1"
unfolding cause_text
cause_numbers c a b d e f g = rw (ne_eqb c 1 a, ne_eqb c 2 b, ne_eqb c 3 d, ne_eqb c 4 e, ne_eqb c 5 f, ne_eqb c 6 g)

pub state_idle : (s : ℕ) → s ≡ 0 → ended (state_text s) TAB ≡ 73 ∷ 68 ∷ 76 ∷ 69 ∷ 9 ∷ []
unfolding state_text
state_idle s a = rw (eq-eqb s 0 a)

pub state_fail : (s : ℕ) → (s ≡ 0 → ⊥) → s ≡ 1 → ended (state_text s) TAB ≡ 70 ∷ 65 ∷ 73 ∷ 76 ∷ 9 ∷ []
unfolding state_text
state_fail s a b = rw (ne_eqb s 0 a, eq-eqb s 1 b)

pub state_ok : (s : ℕ) → (s ≡ 0 → ⊥) → (s ≡ 1 → ⊥) → ended (state_text s) TAB ≡ 79 ∷ 75 ∷ 9 ∷ []
unfolding state_text
state_ok s a b = rw (ne_eqb s 0 a, ne_eqb s 1 b)

-- lengths
either_le : (b : Bool) (x y : List ℕ) (n : ℕ) → length x ≤ n → length y ≤ n → length (cond b x y) ≤ n
either_le true x y n h k = h
either_le false x y n h k = k

before_le : (most n : ℕ) (text : List ℕ) → length (digits_before most n text) ≤ most + length text
before_le zero n text = omega arith
before_le (suc most) n text = go (ltb 0 n) (before_le most (n / 10) ((48 + n % 10) ∷ text))
  where
    go : (b : Bool) → length (digits_before most (n / 10) ((48 + n % 10) ∷ text)) ≤ most + suc (length text)
        → length (cond b (digits_before most (n / 10) ((48 + n % 10) ∷ text)) text) ≤ suc most + length text
    go true h = omega arith
    go false h = omega arith

number_le : (n : ℕ) → length (number_text n) ≤ 20
unfolding number_text
number_le n = let h = before_le 19 (n / 10) ((48 + n % 10) ∷ []) in omega arith

mark_le : (m : ℕ) → length (mark_text m) ≤ 8
unfolding mark_text
mark_le m = either_le (eqb m 1) _ _ 8 (omega arith) (either_le (eqb m 2) _ _ 8 (omega arith) (omega arith))

state_le : (s : ℕ) → length (state_text s) ≤ 4
unfolding state_text
state_le s = either_le (eqb s 0) _ _ 4 (omega arith) (either_le (eqb s 1) _ _ 4 (omega arith) (omega arith))

pub answer_le : (n line : ℕ) → length (answer_text n line) ≤ ROOM
unfolding answer_text
answer_le n line = let a = decimal_le n in let b = number_le line in simp length-append (omega arith)

cause_le : (c : ℕ) → length (cause_text c) ≤ 43
unfolding cause_text
cause_le c =
    either_le (eqb c 1) _ _ 43 (omega arith) (either_le (eqb c 2) _ _ 43 (omega arith) (either_le (eqb c 3) _ _ 43 (omega arith) (either_le (eqb c 4) _ _ 43 (omega arith) (either_le (eqb c 5) _ _ 43 (omega arith) (either_le (eqb c 6) _ _ 43 (omega arith) (omega arith))))))

blamed_le : (port : ℕ) → length (blamed_text port) ≤ 10
unfolding blamed_text
blamed_le port =
    let a = decimal_le port in
    either_le (eqb port 255) _ _ 10 (omega arith) (simp length-append (omega arith))

why_le : (cause port : ℕ) → length (why_text cause port) ≤ 59
unfolding why_text
why_le cause port =
    let a = cause_le cause in
    let b = blamed_le port in
    simp length-append (omega arith)

place_le : (mark line cause port : ℕ) → length (place_text mark line cause port) ≤ 80
unfolding place_text
place_le mark line cause port =
    let a = number_le line in
    let b = why_le cause port in
    either_le (eqb mark 1 || eqb mark 2) _ _ 80 (simp length-append (omega arith)) (simp length-append (omega arith))

pub epoch_le : (epoch mark bytes line cause port : ℕ) → length (epoch_text epoch mark bytes line cause port) ≤ 131
unfolding epoch_text
epoch_le epoch mark bytes line cause port =
    let a = decimal_le epoch in
    let b = mark_le mark in
    let c = number_le bytes in
    let d = place_le mark line cause port in
    simp length-append (omega arith)

pub state_line_le : (port state : ℕ) → port < 100 → length (state_line port state) ≤ 17
unfolding state_line port_text
state_line_le port state h =
    let a = small_le port h in
    let b = state_le (state / 256) in
    let c = decimal_le (state % 256) in
    simp length-append (omega arith)

pub changes_le : (before after : List ℕ) (n : ℕ) → n ≤ 64 → length (changes_text before after n) ≤ 17 * n
changes_le before after zero h = omega arith
changes_le before after (suc n) h =
    let a = changes_le before after n (omega arith) in
    let b = either_le (eqb (get_or before n 0) (get_or after n 0)) [] (state_line n (get_or after n 0)) 17 (omega arith) (state_line_le n (get_or after n 0) (omega arith)) in
    simp length-append (omega arith)

-- why a report is held or doubtful, by the tests on port and mark

pub blamed_none : (port : ℕ) → port ≡ 255 → blamed_text port ≡ ascii "\n"
unfolding blamed_text
blamed_none port e = ap blamed_text e

pub blamed_some : (port : ℕ) → (port ≡ 255 → ⊥) → blamed_text port ≡ ascii "\tport\t" ++ ended (decimal_text port) LINE-END
unfolding blamed_text
blamed_some port d = rw (ne_eqb port 255 d)

pub place_why : (mark line cause port : ℕ) → (eqb mark 1 || eqb mark 2) ≡ true → place_text mark line cause port ≡ ended (number_text line) TAB ++ why_text cause port
unfolding place_text
place_why mark line cause port e = rw e

pub place_sure : (mark line cause port : ℕ) → (eqb mark 1 || eqb mark 2) ≡ false → place_text mark line cause port ≡ ended (number_text line) LINE-END
unfolding place_text
place_sure mark line cause port e = rw e

-- a port more
module _ (before after : List ℕ) (i : ℕ) {start at : ℕ} {out mid : List ℕ} (p : Put (changes_text before after i) start out at mid) where
  pub room_for_one : i < 64 → start + 17 * 64 ≤ length out → at + 17 ≤ length mid
  room_for_one h r =
      let a = changes_le before after i (omega arith) in
      let b = p.behind in
      let c = p.kept in
      omega arith

  pub one_more : {next : ℕ} {new : List ℕ} → Put (change_text i (get_or before i 0) (get_or after i 0)) at mid next new → Put (changes_text before after (i + 1)) start out next new
  one_more q = let s : i + 1 ≡ suc i = omega arith in rw s (put_then p q)

pub change_none : (port old new : ℕ) → old ≡ new → (out : List ℕ) (at : ℕ) → Put (change_text port old new) at out at out
change_none port old new e out at = rw (eq-eqb old new e) (record { behind = omega arith; bytes = refl; kept = refl })

pub change_some : (port old new : ℕ) → (old ≡ new → ⊥) → {out mid : List ℕ} {at next : ℕ} → Put (state_line port new) at out next mid → Put (change_text port old new) at out next mid
change_some port old new d p = rw (ne_eqb old new d) p

pub changes_none : (before after out : List ℕ) (start : ℕ) → Put (changes_text before after 0) start out start out
changes_none before after out start = record { behind = omega arith; bytes = refl; kept = refl }

pub report_le : (rec : List ℕ) (blamed line : ℕ) (before after : List ℕ) (n : ℕ) → n ≤ 64 → length (report_text rec blamed line before after n) ≤ ROOM
unfolding report_text
report_le rec blamed line before after n h =
    let a = epoch_le (get_or rec 1 0) (get_or rec 0 0) (count_in rec) line (get_or rec 3 0) blamed in
    let b = changes_le before after n h in
    simp length-append (omega arith)
