-- What a frame's line is made of, byte for byte: the port's digits, the two of H4, the flag and the payload, parted by tabs.
use Rattle.std.specs.Prelude.{◌≡◌, refl, Bool, true, false, cond, ◌&&◌, List, [], ◌∷◌, ◌++◌, ℕ, suc, ◌+◌, ◌-◌, ◌*◌, ◌≤◌, ◌<◌, eqb, leb, ltb, length, Option, Some, None}
use Rattle.std.proofs.Common.{sym, ap, ◌∙◌, arith, length-append, eqb-true, leb-true, ltb-true}
use Rattle.std.proofs.lemmas.Bool.{false≢true}
use Rattle.ground.specs.Truth.{and_left, and_right}
use Rattle.recording.specs.declared.record.Record.{Record}
use Rattle.recording.specs.declared.record.Record.TheVariants.{Frame, Malformed, Long, Unfinished, End}
use Rattle.recording.specs.Line.{MOST}
use Rattle.recording.specs.Record.{flag_in, frame_by, line_record, record_by}
use Rattle.text.specs.Ascii.{ascii}
use Rattle.text.specs.Fields.{are_digits, digit_of, hex_of, is_hex, number_of, same_bytes, value_of}
use Rattle.text.specs.Text.{TAB, ahead, fields_of, parted}

-- fields with tabs between them
abbrev joined : List (List ℕ) → List ℕ
joined [] = []
joined (p ∷ []) = p
joined (p ∷ q ∷ ps) = p ++ (TAB ∷ joined (q ∷ ps))

joined_ahead : (b : ℕ) (p : List ℕ) (ps : List (List ℕ)) → joined ((b ∷ p) ∷ ps) ≡ b ∷ joined (p ∷ ps)
joined_ahead b p [] = refl
joined_ahead b p (q ∷ ps) = refl

-- a line is its fields, of which it has one at least
record Joined (line : List ℕ) (fields : List (List ℕ)) : Type 0 where
  some : 0 < length fields
  is : joined fields ≡ line

fields_joined : (line : List ℕ) → Joined line (fields_of line)
unfolding fields_of
fields_joined [] = record { some = omega arith; is = refl }
fields_joined (b ∷ line) = go (eqb b TAB) refl (parted TAB ([] ∷ []) line) (fields_joined line)
  where
    go : (t : Bool) → eqb b TAB ≡ t → (ps : List (List ℕ)) → Joined line ps → Joined (b ∷ line) (cond t ([] ∷ ps) (ahead b ps))
    go t e [] h = absurd (let k = h.some in omega arith)
    go true e (p ∷ ps) h = record { some = omega arith; is = ap (λ (l : List ℕ). TAB ∷ l) h.is ∙ ap (λ (n : ℕ). n ∷ line) (sym (eqb-true b TAB e)) }
    go false e (p ∷ ps) h = record { some = omega arith; is = joined_ahead b p ps ∙ ap (λ (l : List ℕ). b ∷ l) h.is }

-- what a frame says of the fields that it was read from
record Said (ports : ℕ) (a b : Option ℕ) (flag : Option Bool) (payload : Bool) (place n p h : ℕ) (f : Bool) (q m : ℕ) : Type 0 where
  port_is : a ≡ Some p
  h4_is : b ≡ Some h
  flag_is : flag ≡ Some f
  place_is : place ≡ q
  next_is : n ≡ m
  below : p < ports
  payload_is : payload ≡ true

frame_said : (ports : ℕ) (a b : Option ℕ) (flag : Option Bool) (payload : Bool) (place n p h : ℕ) (f : Bool) (q m : ℕ) → frame_by ports a b flag payload place n ≡ Frame p h f q m → Said ports a b flag payload place n p h f q m
unfolding frame_by
frame_said ports (Some x) (Some y) (Some flag) payload place n p h f q m e = go (ltb x ports && ltb y 256 && payload) refl e
  where
    go : (t : Bool) → (ltb x ports && ltb y 256 && payload) ≡ t → cond t (Frame x y flag place n) (Malformed n) ≡ Frame p h f q m → Said ports (Some x) (Some y) (Some flag) payload place n p h f q m
    go true t e =
        let xp : x ≡ p = cc in
        let bx = ltb-true x ports (and_left (ltb x ports) (ltb y 256) (and_left (ltb x ports && ltb y 256) payload t)) in
        record {
          port_is = ap Some xp;
          h4_is = (cc);
          flag_is = (cc);
          place_is = (cc);
          next_is = (cc);
          below = omega arith;
          payload_is = and_right (ltb x ports && ltb y 256) payload t;
        }
    go false t e = let z : ◌≡◌ {A = ℕ} 0 1 = cc in absurd (omega arith)
frame_said ports (Some x) (Some y) None payload place n p h f q m e = let z : ◌≡◌ {A = ℕ} 0 1 = cc in absurd (omega arith)
frame_said ports (Some x) None flag payload place n p h f q m e = let z : ◌≡◌ {A = ℕ} 0 1 = cc in absurd (omega arith)
frame_said ports None b flag payload place n p h f q m e = let z : ◌≡◌ {A = ℕ} 0 1 = cc in absurd (omega arith)

-- two hex digits
record Two (b : List ℕ) (h : ℕ) : Type 0 where
  high : ℕ
  low : ℕ
  is : b ≡ high ∷ low ∷ []
  high_digit : digit_of high < 16
  low_digit : digit_of low < 16
  value : h ≡ digit_of high * 16 + digit_of low

two_digits : (b : List ℕ) (h : ℕ) → length b ≡ 2 → are_digits 16 b ≡ true → value_of 16 0 b ≡ h → Two b h
two_digits [] h k d v = absurd (omega arith)
two_digits (x ∷ []) h k d v = absurd (omega arith)
two_digits (x ∷ y ∷ []) h k d v =
    let dx = ltb-true (digit_of x) 16 (and_left (ltb (digit_of x) 16) (ltb (digit_of y) 16 && true) d) in
    let dy = ltb-true (digit_of y) 16 (and_left (ltb (digit_of y) 16) true (and_right (ltb (digit_of x) 16) (ltb (digit_of y) 16 && true) d)) in
    record { high = x; low = y; is = refl; high_digit = dx; low_digit = dy; value = omega arith }
two_digits (x ∷ y ∷ z ∷ b) h k d v = absurd (omega arith)

hex_two : (b : List ℕ) (h : ℕ) → hex_of 2 b ≡ Some h → Two b h
unfolding hex_of
hex_two b h e = go (ltb 0 (length b) && eqb (length b) 2 && leb (length b) 8 && are_digits 16 b) refl e
  where
    go : (t : Bool) → (ltb 0 (length b) && eqb (length b) 2 && leb (length b) 8 && are_digits 16 b) ≡ t → cond t (Some (value_of 16 0 b)) None ≡ Some h → Two b h
    go true t e =
        let t3 = and_left (ltb 0 (length b) && eqb (length b) 2 && leb (length b) 8) (are_digits 16 b) t in
        let t2 = and_left (ltb 0 (length b) && eqb (length b) 2) (leb (length b) 8) t3 in
        let k = eqb-true (length b) 2 (and_right (ltb 0 (length b)) (eqb (length b) 2) t2) in
        two_digits b h k (and_right (ltb 0 (length b) && eqb (length b) 2 && leb (length b) 8) (are_digits 16 b) t) (cc)
    go false t e = let z : ◌≡◌ {A = ℕ} 0 1 = cc in absurd (omega arith)

-- a flag is one byte
record One (f : List ℕ) : Type 0 where
  byte : ℕ
  is : f ≡ byte ∷ []

one_byte : (f : List ℕ) (b : ℕ) → same_bytes f (b ∷ []) ≡ true → One f
one_byte [] b t = absurd (false≢true t)
one_byte (a ∷ []) b t = record { byte = a; is = refl }
one_byte (a ∷ c ∷ f) b t = absurd (false≢true (and_right (eqb a b) false t))

flag_one : (f : List ℕ) (flag : Bool) → flag_in f ≡ Some flag → One f
unfolding flag_in
flag_one f flag e = go (same_bytes f (ascii "0")) (same_bytes f (ascii "1")) refl refl e
  where
    go : (a b : Bool) → same_bytes f (ascii "0") ≡ a → same_bytes f (ascii "1") ≡ b → cond a (Some false) (cond b (Some true) None) ≡ Some flag → One f
    go true b s t k = one_byte f 48 s
    go false true s t k = one_byte f 49 t
    go false false s t k = let z : ◌≡◌ {A = ℕ} 0 1 = cc in absurd (omega arith)

pub hex_length : (digits : ℕ) (field : List ℕ) → is_hex digits field ≡ true → length field ≡ digits
unfolding is_hex
hex_length digits field t = eqb-true (length field) digits (and_left (eqb (length field) digits) (are_digits 16 field) t)

-- a frame's line
pub record Layout (ports size port h4 : ℕ) (flag : Bool) (line : List ℕ) : Type 0 where
  pub front : List ℕ
  pub high : ℕ
  pub low : ℕ
  pub flagged : ℕ
  pub payload : List ℕ
  pub line_is : line ≡ front ++ (TAB ∷ high ∷ low ∷ TAB ∷ flagged ∷ TAB ∷ payload)
  pub port_is : number_of 9 front ≡ Some port
  pub below : port < ports
  pub high_digit : digit_of high < 16
  pub low_digit : digit_of low < 16
  pub h4_is : h4 ≡ digit_of high * 16 + digit_of low
  pub flag_is : flag_in (flagged ∷ []) ≡ Some flag
  pub payload_is : is_hex (size + size) payload ≡ true
  pub payload_length : length payload ≡ size + size
  pub whole : length line ≡ length front + 6 + (size + size)
  pub most : length line ≤ MOST

pub record Framed (ports size end next port h4 : ℕ) (flag : Bool) (place n : ℕ) (line : List ℕ) : Type 0 where
  pub layout : Layout ports size port h4 flag line
  pub place_is : place + (size + size) ≡ end
  pub next_is : n ≡ next

-- A line of four fields that reads as a frame: the second is two hexadecimal digits and the third one, so that the line is known byte by byte but for the port's field and the payload, and the payload's place follows from the lengths.
four_fields : (ports size end next port h4 : ℕ) (flag : Bool) (place n : ℕ) (line a b c d : List ℕ) → joined (a ∷ b ∷ c ∷ d ∷ []) ≡ line → length line ≤ end → length line ≤ MOST
    → frame_by ports (number_of 9 a) (hex_of 2 b) (flag_in c) (is_hex (size + size) d) (end - length d) next ≡ Frame port h4 flag place n
    → Framed ports size end next port h4 flag place n line
four_fields ports size end next port h4 flag place n line a b c d j k m e =
    let s = frame_said ports (number_of 9 a) (hex_of 2 b) (flag_in c) (is_hex (size + size) d) (end - length d) next port h4 flag place n e in
    let two = hex_two b h4 s.h4_is in
    let one = flag_one c flag s.flag_is in
    let dl = hex_length (size + size) d s.payload_is in
    let is : line ≡ a ++ (TAB ∷ two.high ∷ two.low ∷ TAB ∷ one.byte ∷ TAB ∷ d) =
    sym j ∙ ap (λ (x : List ℕ). a ++ (TAB ∷ (x ++ (TAB ∷ (c ++ (TAB ∷ d)))))) two.is ∙ ap (λ (x : List ℕ). a ++ (TAB ∷ two.high ∷ two.low ∷ TAB ∷ (x ++ (TAB ∷ d)))) one.is in
    let w : length line ≡ length a + length (TAB ∷ two.high ∷ two.low ∷ TAB ∷ one.byte ∷ TAB ∷ d) =
    ap length is ∙ length-append a (TAB ∷ two.high ∷ two.low ∷ TAB ∷ one.byte ∷ TAB ∷ d) in
    let q = s.place_is in
    record {
      layout = record {
        front = a;
        high = two.high;
        low = two.low;
        flagged = one.byte;
        payload = d;
        line_is = is;
        port_is = s.port_is;
        below = s.below;
        high_digit = two.high_digit;
        low_digit = two.low_digit;
        h4_is = two.value;
        flag_is = ap flag_in (sym one.is) ∙ s.flag_is;
        payload_is = s.payload_is;
        payload_length = dl;
        whole = omega arith;
        most = m;
      };
      place_is = omega arith;
      next_is = sym s.next_is;
    }

fields_framed : (ports size end next port h4 : ℕ) (flag : Bool) (place n : ℕ) (line : List ℕ) (fs : List (List ℕ)) → joined fs ≡ line → length line ≤ end → length line ≤ MOST
    → record_by ports size end next fs ≡ Frame port h4 flag place n → Framed ports size end next port h4 flag place n line
fields_framed ports size end next port h4 flag place n line [] j k m e = let z : ◌≡◌ {A = ℕ} 0 1 = cc in absurd (omega arith)
fields_framed ports size end next port h4 flag place n line (a ∷ []) j k m e = let z : ◌≡◌ {A = ℕ} 0 1 = cc in absurd (omega arith)
fields_framed ports size end next port h4 flag place n line (a ∷ b ∷ []) j k m e = let z : ◌≡◌ {A = ℕ} 0 1 = cc in absurd (omega arith)
fields_framed ports size end next port h4 flag place n line (a ∷ b ∷ c ∷ []) j k m e = let z : ◌≡◌ {A = ℕ} 0 1 = cc in absurd (omega arith)
fields_framed ports size end next port h4 flag place n line (a ∷ b ∷ c ∷ d ∷ []) j k m e = four_fields ports size end next port h4 flag place n line a b c d j k m e
fields_framed ports size end next port h4 flag place n line (a ∷ b ∷ c ∷ d ∷ f ∷ rest) j k m e = let z : ◌≡◌ {A = ℕ} 0 1 = cc in absurd (omega arith)

pub frame_layout : (ports size at next port h4 : ℕ) (flag : Bool) (place n : ℕ) (line : List ℕ) → line_record ports size at next line ≡ Frame port h4 flag place n
    → Framed ports size (at + length line) next port h4 flag place n line
unfolding line_record
frame_layout ports size at next port h4 flag place n line e = go (leb (length line) MOST) refl e
  where
    go : (t : Bool) → leb (length line) MOST ≡ t → cond t (record_by ports size (at + length line) next (fields_of line)) (Malformed next) ≡ Frame port h4 flag place n
        → Framed ports size (at + length line) next port h4 flag place n line
    go true t e = fields_framed ports size (at + length line) next port h4 flag place n line (fields_of line) (fields_joined line).is (omega arith) (leb-true (length line) MOST t) e
    go false t e = let z : ◌≡◌ {A = ℕ} 0 1 = cc in absurd (omega arith)

-- a line's record, where the line lies somewhere else and another one is the next
abbrev pub placed_at : ℕ → ℕ → Record → Record
placed_at at n (Frame port h4 flag place next) = Frame port h4 flag (at + place) n
placed_at at n (Malformed next) = Malformed n
placed_at at n Long = Long
placed_at at n Unfinished = Unfinished
placed_at at n End = End

frame_placed : (ports : ℕ) (a b : Option ℕ) (flag : Option Bool) (payload : Bool) (at place n : ℕ) → frame_by ports a b flag payload (at + place) n ≡ placed_at at n (frame_by ports a b flag payload place 0)
unfolding frame_by
frame_placed ports (Some x) (Some y) (Some flag) payload at place n = go (ltb x ports && ltb y 256 && payload)
  where
    go : (t : Bool) → cond t (Frame x y flag (at + place) n) (Malformed n) ≡ placed_at at n (cond t (Frame x y flag place 0) (Malformed 0))
    go true = refl
    go false = refl
frame_placed ports (Some x) (Some y) None payload at place n = refl
frame_placed ports (Some x) None flag payload at place n = refl
frame_placed ports None b flag payload at place n = refl

fields_placed : (ports size at n : ℕ) (line : List ℕ) (fs : List (List ℕ)) → joined fs ≡ line → record_by ports size (at + length line) n fs ≡ placed_at at n (record_by ports size (0 + length line) 0 fs)
fields_placed ports size at n line [] j = refl
fields_placed ports size at n line (a ∷ []) j = refl
fields_placed ports size at n line (a ∷ b ∷ []) j = refl
fields_placed ports size at n line (a ∷ b ∷ c ∷ []) j = refl
fields_placed ports size at n line (a ∷ b ∷ c ∷ d ∷ []) j =
    let w : length line ≡ length a + suc (length (b ++ (TAB ∷ (c ++ (TAB ∷ d))))) = ap length (sym j) ∙ length-append a (TAB ∷ (b ++ (TAB ∷ (c ++ (TAB ∷ d))))) in
    let x = length-append b (TAB ∷ (c ++ (TAB ∷ d))) in
    let y = length-append c (TAB ∷ d) in
    let z : (at + length line) - length d ≡ at + ((0 + length line) - length d) = omega arith in
    ap (λ (place : ℕ). frame_by ports (number_of 9 a) (hex_of 2 b) (flag_in c) (is_hex (size + size) d) place n) z
    ∙ frame_placed ports (number_of 9 a) (hex_of 2 b) (flag_in c) (is_hex (size + size) d) at ((0 + length line) - length d) n
fields_placed ports size at n line (a ∷ b ∷ c ∷ d ∷ f ∷ rest) j = refl

pub line_placed : (ports size at n : ℕ) (line : List ℕ) → line_record ports size at n line ≡ placed_at at n (line_record ports size 0 0 line)
unfolding line_record
line_placed ports size at n line = go (leb (length line) MOST)
  where
    go : (t : Bool) → cond t (record_by ports size (at + length line) n (fields_of line)) (Malformed n) ≡ placed_at at n (cond t (record_by ports size (0 + length line) 0 (fields_of line)) (Malformed 0))
    go true = fields_placed ports size at n line (fields_of line) (fields_joined line).is
    go false = refl
