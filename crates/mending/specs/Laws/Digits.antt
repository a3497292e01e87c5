-- A frame's line with another second digit of H4 is the same frame with that count.
use Rattle.std.specs.Prelude.{◌≡◌, refl, Bool, true, false, cond, ◌&&◌, List, [], ◌∷◌, ◌++◌, ℕ, ◌+◌, ◌-◌, ◌*◌, ◌/◌, ◌%◌, ◌≤◌, ◌<◌, eqb, leb, ltb, get_or, set, Some, None}
use Rattle.std.proofs.Common.{sym, ◌∙◌, get_or-append-add}
use Rattle.std.proofs.Math.Path.{ap, ap₂}
use native.Mathlib.Omega.{arith}
use Rattle.std.proofs.Math.ListN.{length, length-set}
use borrow.Author.Tests.{eqb-true, le-leb, lt-ltb, ltb-true}
use Rattle.ground.specs.Finite.{below, below_at}
use Rattle.ground.specs.Truth.{and_left, and_right}
use Rattle.mending.specs.Laws.Automaton.{set_behind}
use Rattle.mending.specs.Laws.Layout.{Layout, frame_layout}
use Rattle.mending.specs.Lines.{Line, capital, digit_in, digit_place, record_of, with_digit}
use Rattle.recording.specs.declared.record.Record.TheVariants.{Frame}
use Rattle.recording.specs.Line.{MOST}
use Rattle.recording.specs.Record.{flag_in, frame_by, line_record}
use Rattle.text.specs.Fields.{are_digits, digit_of, hex_of, is_hex, number_of, value_of}
use Rattle.text.specs.Text.{LINE-END, TAB, ahead, fields_of}

-- Fields hold no tab

abbrev pub NoTab : List ℕ → Type 0
NoTab [] = Unit {0}
NoTab (b ∷ l) = (eqb b TAB ≡ false) × NoTab l

field_first : (x y : List ℕ) → NoTab x → fields_of (x ++ (TAB ∷ y)) ≡ x ∷ fields_of y
unfolding fields_of
field_first [] y f = refl
field_first (b ∷ x) y f = rw f.0 (ap (ahead b) (field_first x y f.1))

field_last : (x : List ℕ) → NoTab x → fields_of x ≡ x ∷ []
unfolding fields_of
field_last [] f = refl
field_last (b ∷ x) f = rw f.0 (ap (ahead b) (field_last x f.1))

pub digit_no_tab : (b : ℕ) → digit_of b < 16 → eqb b TAB ≡ false
unfolding digit_of
digit_no_tab b h = go (eqb b TAB) refl
  where
    go : (t : Bool) → eqb b TAB ≡ t → t ≡ false
    go true e = let s : digit_of b ≡ 16 = ap digit_of (eqb-true b TAB e) in absurd (omega arith)
    go false e = refl

pub digits_no_tab : (base : ℕ) (l : List ℕ) → base ≤ 16 → are_digits base l ≡ true → NoTab l
digits_no_tab base [] h t = tt
digits_no_tab base (b ∷ l) h t =
    let d = ltb-true (digit_of b) base (and_left (ltb (digit_of b) base) (are_digits base l) t) in
    (digit_no_tab b (omega arith), digits_no_tab base l h (and_right (ltb (digit_of b) base) (are_digits base l) t))

flag_no_tab : (f : ℕ) (flag : Bool) → flag_in (f ∷ []) ≡ Some flag → eqb f TAB ≡ false
unfolding flag_in
flag_no_tab f flag e = go (eqb f TAB) refl
  where
    go : (t : Bool) → eqb f TAB ≡ t → t ≡ false
    go true k =
        let s : flag_in (f ∷ []) ≡ None = ap (λ (b : ℕ). flag_in (b ∷ [])) (eqb-true f TAB k) in
        let z : ◌≡◌ {A = ℕ} 0 1 = cc in
        absurd (omega arith)
    go false k = refl

number_digits : (f : List ℕ) (n : ℕ) → number_of 9 f ≡ Some n → are_digits 10 f ≡ true
unfolding number_of
number_digits f n e = go (ltb 0 (length f) && leb (length f) 9 && leb (length f) 9 && are_digits 10 f) refl e
  where
    go : (t : Bool) → (ltb 0 (length f) && leb (length f) 9 && leb (length f) 9 && are_digits 10 f) ≡ t → cond t (Some (value_of 10 0 f)) None ≡ Some n → are_digits 10 f ≡ true
    go true t k = and_right (ltb 0 (length f) && leb (length f) 9 && leb (length f) 9) (are_digits 10 f) t
    go false t k = let z : ◌≡◌ {A = ℕ} 0 1 = cc in absurd (omega arith)

payload_digits : (n : ℕ) (f : List ℕ) → is_hex n f ≡ true → are_digits 16 f ≡ true
unfolding is_hex
payload_digits n f t = and_right (eqb (length f) n) (are_digits 16 f) t

-- Two digits of H4

hex_of_lem : (x y : ℕ) → digit_of x < 16 → digit_of y < 16 → hex_of 2 (x ∷ y ∷ []) ≡ Some (digit_of x * 16 + digit_of y)
unfolding hex_of
hex_of_lem x y h k =
    let e : (0 * 16 + digit_of x) * 16 + digit_of y ≡ digit_of x * 16 + digit_of y = omega arith in
    rw (lt-ltb (digit_of x) 16 h, lt-ltb (digit_of y) 16 k) (ap Some e)

module _ (ports size port h4 : ℕ) (flag : Bool) (line : List ℕ) (l : Layout ports size port h4 flag line) where
  layout_fields : fields_of line ≡ l.front ∷ (l.high ∷ l.low ∷ []) ∷ (l.flagged ∷ []) ∷ l.payload ∷ []
  layout_fields =
      let three : List ℕ = l.payload in
      let two : List ℕ = l.flagged ∷ TAB ∷ three in
      let one : List ℕ = l.high ∷ l.low ∷ TAB ∷ two in
      let e3 = field_last l.payload (digits_no_tab 16 l.payload (omega arith) (payload_digits (size + size) l.payload l.payload_is)) in
      let e2 = field_first (l.flagged ∷ []) three (flag_no_tab l.flagged flag l.flag_is, tt) in
      let e1 = field_first (l.high ∷ l.low ∷ []) two (digit_no_tab l.high l.high_digit, (digit_no_tab l.low l.low_digit, tt)) in
      let e0 = field_first l.front one (digits_no_tab 10 l.front (omega arith) (number_digits l.front port l.port_is)) in
      ap fields_of l.line_is
      ∙ (e0 ∙ ap (λ (fs : List (List ℕ)). l.front ∷ fs) (e1 ∙ ap (λ (fs : List (List ℕ)). (l.high ∷ l.low ∷ []) ∷ fs) (e2 ∙ ap (λ (fs : List (List ℕ)). (l.flagged ∷ []) ∷ fs) e3)))

  -- a line so laid out is that frame's
  layout_frame : (place : ℕ) → place + (size + size) ≡ length line → line_record ports size 0 0 line ≡ Frame port h4 flag place 0
  unfolding line_record frame_by
  layout_frame place p =
      let x = l.high_digit in
      let y = l.low_digit in
      let z = l.h4_is in
      let d = l.payload_length in
      let q : 0 + length line - length l.payload ≡ place = omega arith in
      let h : hex_of 2 (l.high ∷ l.low ∷ []) ≡ Some h4 = hex_of_lem l.high l.low x y ∙ ap Some (sym z) in
      rw (le-leb (length line) MOST l.most, layout_fields, l.port_is, h, l.flag_is, l.payload_is, q, lt-ltb port ports l.below, lt-ltb h4 256 (omega arith))

  -- its second digit
  digit_at : length line - (size + size + 4) ≡ length l.front + 2
  digit_at = let w = l.whole in omega arith

  digit_is : get_or line (length line - (size + size + 4)) 0 ≡ l.low
  digit_is = ap (λ (n : ℕ). get_or line n 0) digit_at ∙ (ap (λ (t : List ℕ). get_or t (length l.front + 2) 0) l.line_is ∙ get_or-append-add l.front (TAB ∷ l.high ∷ l.low ∷ TAB ∷ l.flagged ∷ TAB ∷ l.payload) 2 0)

  high_is : get_or line (length line - (size + size + 4) - 1) 0 ≡ l.high
  high_is =
      let e : length line - (size + size + 4) - 1 ≡ length l.front + 1 = (let w = l.whole in omega arith) in
      ap (λ (n : ℕ). get_or line n 0) e
      ∙ (ap (λ (t : List ℕ). get_or t (length l.front + 1) 0) l.line_is ∙ get_or-append-add l.front (TAB ∷ l.high ∷ l.low ∷ TAB ∷ l.flagged ∷ TAB ∷ l.payload) 1 0)

  -- another one there
  layout_with : (d : ℕ) → digit_of d < 16 → Layout ports size port (digit_of l.high * 16 + digit_of d) flag (set line (length line - (size + size + 4)) d)
  layout_with d h =
      let e : set line (length line - (size + size + 4)) d ≡ l.front ++ (TAB ∷ l.high ∷ d ∷ TAB ∷ l.flagged ∷ TAB ∷ l.payload) =
      ap (λ (n : ℕ). set line n d) digit_at ∙ (ap (λ (t : List ℕ). set t (length l.front + 2) d) l.line_is ∙ set_behind l.front (TAB ∷ l.high ∷ l.low ∷ TAB ∷ l.flagged ∷ TAB ∷ l.payload) 2 d) in
      let n = length-set line (length line - (size + size + 4)) d in
      let w = l.whole in
      let m = l.most in
      record {
        front = l.front;
        high = l.high;
        low = d;
        flagged = l.flagged;
        payload = l.payload;
        line_is = e;
        port_is = l.port_is;
        below = l.below;
        high_digit = l.high_digit;
        low_digit = h;
        h4_is = refl;
        flag_is = l.flag_is;
        payload_is = l.payload_is;
        payload_length = l.payload_length;
        whole = omega arith;
        most = omega arith;
      }

-- Capitals

capital_test : ℕ → Bool
capital_test n = eqb (digit_of (capital n)) n

capital_tests : below 16 capital_test ≡ true
unfolding capital_test capital digit_of
capital_tests = refl

pub capital_digit : (n : ℕ) → n < 16 → digit_of (capital n) ≡ n
unfolding capital_test
capital_digit n h = eqb-true (digit_of (capital n)) n (below_at 16 capital_test capital_tests n h)

-- no digit is a line's end
pub digit_no_end : (b : ℕ) → digit_of b < 16 → eqb b LINE-END ≡ false
unfolding digit_of
digit_no_end b h = go (eqb b LINE-END) refl
  where
    go : (t : Bool) → eqb b LINE-END ≡ t → t ≡ false
    go true e = let s : digit_of b ≡ 16 = ap digit_of (eqb-true b LINE-END e) in absurd (omega arith)
    go false e = refl

-- A frame's line

module _ (ports size : ℕ) (l : Line) (port h4 : ℕ) (flag : Bool) (place next : ℕ) (e : record_of ports size l ≡ Frame port h4 flag place next) where
  layout : Layout ports size port h4 flag l.bytes
  unfolding record_of
  layout = (frame_layout ports size 0 0 port h4 flag place next l.bytes e).layout

  -- its digit says its count, and lies in it
  pub digit_count : digit_of (digit_in size l) ≡ h4 % 16
  unfolding digit_place
  digit_count =
      let d = layout.low_digit in
      let z = layout.h4_is in
      let c : digit_of (digit_in size l) ≡ digit_of layout.low = ap digit_of (digit_is ports size port h4 flag l.bytes layout) in
      omega arith

  pub digit_within : digit_place size l < length l.bytes
  unfolding digit_place
  digit_within = let w = layout.whole in omega arith

  pub digit_some : 1 < digit_place size l
  unfolding digit_place
  digit_some = let w = layout.whole in omega arith

  -- so is the first digit one
  pub high_digit : digit_of (get_or l.bytes (digit_place size l - 1) 0) < 16
  unfolding digit_place
  high_digit =
      let d = layout.high_digit in
      let c = ap digit_of (high_is ports size port h4 flag l.bytes layout) in
      omega arith

  -- with another count
  pub with_count : (n : ℕ) → n < 16 → record_of ports size (with_digit size l (capital n)) ≡ Frame port (h4 / 16 * 16 + n) flag place next
  unfolding record_of digit_place
  with_count n h =
      let f = frame_layout ports size 0 0 port h4 flag place next l.bytes e in
      let c = capital_digit n h in
      let d = layout.low_digit in
      let z = layout.h4_is in
      let m = length-set l.bytes (length l.bytes - (size + size + 4)) (capital n) in
      let p = f.place_is in
      let k : digit_of layout.high * 16 + digit_of (capital n) ≡ h4 / 16 * 16 + n = omega arith in
      layout_frame ports size port (digit_of layout.high * 16 + digit_of (capital n)) flag (set l.bytes (length l.bytes - (size + size + 4)) (capital n))
      (layout_with ports size port h4 flag l.bytes layout (capital n) (omega arith)) place (omega arith)
      ∙ ap₂ (λ (x y : ℕ). Frame port x flag place y) k (sym f.next_is)
