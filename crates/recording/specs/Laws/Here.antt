-- A line that has digits, tabs and its end where a frame's line has them is that frame.
-- Its fields hold no tab and no line end, being digits; so the first line end is the one at the end, the tabs are the only ones, and parting the line gives these fields.
use Rattle.std.specs.Prelude.{◌≡◌, Bool, true, false, cond, ◌&&◌, List, [], ◌∷◌, ◌++◌, ℕ, suc, ◌+◌, ◌-◌, ◌≤◌, ◌<◌, eqb, leb, ltb, Option, Some, None, is_some}
use Rattle.std.proofs.Math.Path.{refl, sym}
use Rattle.std.proofs.Common.{ap, ◌∙◌, drop-drop, length-take-le}
use Rattle.std.proofs.lemmas.Bool.{false≢true}
use native.Mathlib.Omega.{arith}
use lib.ListN.{drop, get_or, length, take, take-append-drop}
use Rattle.std.proofs.Math.Seq.{slice, length-slice}
use borrow.Author.Tests.{eq-eqb, eqb-true}
use Rattle.ground.specs.Finding.{index_after, index_of}
use Rattle.ground.specs.Truth.{and_left, and_right}
use Rattle.recording.specs.Record.{flag_in, frame_by, is_frame, record_in}
use Rattle.recording.specs.declared.record.Record.{Record}
use Rattle.recording.specs.Laws.Parting.{found_ends, line_short, record_ends}
use Rattle.recording.specs.Line.{MOST, found_of}
use Rattle.recording.specs.declared.record.Record.TheVariants.{Frame, Malformed}
use Rattle.text.specs.Ascii.{ascii}
use Rattle.text.specs.Fields.{are_digits, digit_of, hex_of, is_hex, number_of, same_bytes, value_of}
use Rattle.text.specs.Laws.Parted.{index_le}
use Rattle.text.specs.Laws.Slices.{fields_last, fields_more, slice_more, take_slice}
use Rattle.text.specs.Text.{LINE-END, TAB, fields_of}

-- tabs behind the port, the H4 and the flag, and the line's end
unfoldable pub parted_at : ℕ → ℕ → List ℕ → Bool
parted_at first end l = eqb (get_or l first 0) TAB && eqb (get_or l (first + 3) 0) TAB && eqb (get_or l (first + 5) 0) TAB && eqb (get_or l end 0) LINE-END

-- the fields by their places
unfoldable pub frame_behind : ℕ → ℕ → ℕ → ℕ → ℕ → List ℕ → Record
frame_behind ports size at first end l =
    frame_by ports (number_of 9 (slice at first l)) (hex_of 2 (slice (first + 1) (first + 3) l)) (flag_in (slice (first + 4) (first + 5) l)) (is_hex (size + size) (slice (first + 6) end l)) (first + 6) (end + 1)

-- a piece ends in its text
pub piece_within : (m : ℕ) (l : List ℕ) (at limit : ℕ) → at ≤ length l → at + index_of m (slice at limit l) ≤ length l
piece_within m l at limit h =
    let a = index_le m (slice at limit l) in
    let b = lib.ListN.length-drop at (take limit l) in
    let c = lib.ListN.length-take limit l in
    omega arith

-- bytes that are not the mark
abbrev Without : ℕ → List ℕ → Type 0
Without m [] = Unit {0}
Without m (b ∷ l) = (eqb b m ≡ false) × Without m l

without_append : (m : ℕ) (x y : List ℕ) → Without m x → Without m y → Without m (x ++ y)
without_append m [] y f g = g
without_append m (b ∷ x) y f g = (f.0, without_append m x y f.1 g)

digits_without : (m base : ℕ) → ltb (digit_of m) base ≡ false → (l : List ℕ) → are_digits base l ≡ true → Without m l
digits_without m base z [] t = tt
digits_without m base z (b ∷ l) t = (go (eqb b m) refl, digits_without m base z l (and_right (ltb (digit_of b) base) (are_digits base l) t))
  where
    go : (x : Bool) → eqb b m ≡ x → eqb b m ≡ false
    go true e =
        let q : ltb (digit_of m) base ≡ true = ap (λ (n : ℕ). ltb (digit_of n) base) (sym (eqb-true b m e)) ∙ and_left (ltb (digit_of b) base) (are_digits base l) t in
        absurd (false≢true (sym z ∙ q))
    go false e = e

one_byte : (f : List ℕ) (b : ℕ) → same_bytes f (b ∷ []) ≡ true → f ≡ b ∷ []
one_byte [] b t = absurd (false≢true t)
one_byte (a ∷ []) b t = ap (λ (n : ℕ). n ∷ []) (eqb-true a b (and_left (eqb a b) true t))
one_byte (a ∷ c ∷ f) b t = absurd (false≢true (and_right (eqb a b) false t))

flag_without : (m : ℕ) → eqb 48 m ≡ false → eqb 49 m ≡ false → (f : List ℕ) → is_some (flag_in f) ≡ true → Without m f
unfolding flag_in
flag_without m y z f h = go (same_bytes f (ascii "0")) (same_bytes f (ascii "1")) refl refl h
  where
    go : (a b : Bool) → same_bytes f (ascii "0") ≡ a → same_bytes f (ascii "1") ≡ b → is_some (cond a (Some false) (cond b (Some true) None)) ≡ true → Without m f
    go true b s t k = rw (one_byte f 48 s) (y, tt)
    go false true s t k = rw (one_byte f 49 t) (z, tt)
    go false false s t k = absurd (false≢true k)

index_without : (m : ℕ) (x y : List ℕ) → Without m x → index_of m (x ++ (m ∷ y)) ≡ length x
unfolding index_of index_after
index_without m [] y f = rw (eq-eqb m m refl)
index_without m (b ∷ x) y f = rw f.0 (ap suc (index_without m x y f.1))

index_none : (m : ℕ) (x : List ℕ) → Without m x → index_of m x ≡ length x
unfolding index_of index_after
index_none m [] f = refl
index_none m (b ∷ x) f = rw f.0 (ap suc (index_none m x f.1))

-- a part, one byte of it and what is behind that
part_at : (l : List ℕ) (a q e : ℕ) → a ≤ q → q < e → e ≤ length l → slice a e l ≡ slice a q l ++ (get_or l q 0 ∷ slice (q + 1) e l)
part_at l a q e h k m =
    let s : a + (q - a) ≡ q = omega arith in
    let x : take (q - a) (slice a e l) ≡ slice a q l = rw s at (take_slice a (q - a) e l (omega arith)) in
    let y : drop (q - a) (slice a e l) ≡ slice q e l = rw s at (drop-drop (q - a) a (take e l)) in
    let z : slice q e l ≡ get_or l q 0 ∷ slice (q + 1) e l = slice_more l e e (sym (length-take-le e l m)) q k in
    sym (take-append-drop (q - a) (slice a e l)) ∙ (ap (λ (t : List ℕ). t ++ drop (q - a) (slice a e l)) x ∙ ap (λ (t : List ℕ). slice a q l ++ t) (y ∙ z))

index_at : (m : ℕ) (l : List ℕ) (a q e : ℕ) → a ≤ q → q < e → e ≤ length l → get_or l q 0 ≡ m → Without m (slice a q l) → q ≡ a + index_of m (slice a e l)
index_at m l a q e h k j g f =
    let n = length-slice a q l (omega arith) in
    let p : slice a e l ≡ slice a q l ++ (m ∷ slice (q + 1) e l) = rw g at (part_at l a q e h k j) in
    let w : index_of m (slice a e l) ≡ length (slice a q l) = ap (index_of m) p ∙ index_without m (slice a q l) (slice (q + 1) e l) f in
    omega arith

joins : (m : ℕ) (l : List ℕ) (a q e : ℕ) → a ≤ q → q < e → e ≤ length l → eqb (get_or l q 0) m ≡ false → Without m (slice a q l) → Without m (slice (q + 1) e l) → Without m (slice a e l)
joins m l a q e h k j z f g = rw (part_at l a q e h k j) (without_append m (slice a q l) (get_or l q 0 ∷ slice (q + 1) e l) f (z, g))

-- what a frame says of its fields
record Told (port h4 : Option ℕ) (flag : Option Bool) (payload : Bool) : Type 0 where
  port_there : is_some port ≡ true
  h4_there : is_some h4 ≡ true
  flag_there : is_some flag ≡ true
  payload_there : payload ≡ true

frame_told : (ports : ℕ) (port h4 : Option ℕ) (flag : Option Bool) (payload : Bool) (place next : ℕ) → is_frame (frame_by ports port h4 flag payload place next) ≡ true → Told port h4 flag payload
unfolding frame_by
frame_told ports (Some x) (Some y) (Some flag) payload place next t = go (ltb x ports && ltb y 256 && payload) refl t
  where
    go : (b : Bool) → (ltb x ports && ltb y 256 && payload) ≡ b → is_frame (cond b (Frame x y flag place next) (Malformed next)) ≡ true → Told (Some x) (Some y) (Some flag) payload
    go true e u = record { port_there = refl; h4_there = refl; flag_there = refl; payload_there = and_right (ltb x ports && ltb y 256) payload e }
    go false e u = absurd (false≢true u)
frame_told ports (Some x) (Some y) None payload place next t = absurd (false≢true t)
frame_told ports (Some x) None flag payload place next t = absurd (false≢true t)
frame_told ports None h4 flag payload place next t = absurd (false≢true t)

value_if : (b : Bool) (n : ℕ) → is_some (cond b (Some n) None) ≡ true → b ≡ true
value_if true n t = refl
value_if false n t = t

number_digits : (f : List ℕ) → is_some (number_of 9 f) ≡ true → are_digits 10 f ≡ true
unfolding number_of
number_digits f t =
    and_right (ltb 0 (length f) && leb (length f) 9 && leb (length f) 9) (are_digits 10 f) (value_if (ltb 0 (length f) && leb (length f) 9 && leb (length f) 9 && are_digits 10 f) (value_of 10 0 f) t)

hex_digits : (f : List ℕ) → is_some (hex_of 2 f) ≡ true → are_digits 16 f ≡ true
unfolding hex_of
hex_digits f t =
    and_right (ltb 0 (length f) && eqb (length f) 2 && leb (length f) 8) (are_digits 16 f) (value_if (ltb 0 (length f) && eqb (length f) 2 && leb (length f) 8 && are_digits 16 f) (value_of 16 0 f) t)

payload_digits : (n : ℕ) (f : List ℕ) → is_hex n f ≡ true → are_digits 16 f ≡ true
unfolding is_hex
payload_digits n f t = and_right (eqb (length f) n) (are_digits 16 f) t

-- neither a tab nor a line end is a digit
not_digit : (base : ℕ) → base ≤ 16 → (ltb (digit_of TAB) base ≡ false) × (ltb (digit_of LINE-END) base ≡ false)
unfolding digit_of
not_digit base h = (borrow.Author.Tests.le-ltb 16 base h, borrow.Author.Tests.le-ltb 16 base h)

-- the fields of such a line
record Clean (l : List ℕ) (at first end : ℕ) : Type 0 where
  port : (Without TAB (slice at first l)) × (Without LINE-END (slice at first l))
  h4 : (Without TAB (slice (first + 1) (first + 3) l)) × (Without LINE-END (slice (first + 1) (first + 3) l))
  flag : (Without TAB (slice (first + 4) (first + 5) l)) × (Without LINE-END (slice (first + 4) (first + 5) l))
  payload : (Without TAB (slice (first + 6) end l)) × (Without LINE-END (slice (first + 6) end l))

record Tabs (l : List ℕ) (first end : ℕ) : Type 0 where
  one : get_or l first 0 ≡ TAB
  two : get_or l (first + 3) 0 ≡ TAB
  three : get_or l (first + 5) 0 ≡ TAB
  four : get_or l end 0 ≡ LINE-END

parted_says : (l : List ℕ) (first end : ℕ) → parted_at first end l ≡ true → Tabs l first end
unfolding parted_at
parted_says l first end t =
    let a = eqb (get_or l first 0) TAB in
    let b = eqb (get_or l (first + 3) 0) TAB in
    let c = eqb (get_or l (first + 5) 0) TAB in
    let d = eqb (get_or l end 0) LINE-END in
    let t3 : (a && b && c) ≡ true = and_left (a && b && c) d t in
    let t2 : (a && b) ≡ true = and_left (a && b) c t3 in
    record {
      one = eqb-true (get_or l first 0) TAB (and_left a b t2);
      two = eqb-true (get_or l (first + 3) 0) TAB (and_right a b t2);
      three = eqb-true (get_or l (first + 5) 0) TAB (and_right (a && b) c t3);
      four = eqb-true (get_or l end 0) LINE-END (and_right (a && b && c) d t);
    }

module _ (ports size : ℕ) (l : List ℕ) (at first end : ℕ) (h : at ≤ first) (w : end ≡ first + 6 + (size + size)) (k : end < length l) (tabs : Tabs l first end) (clean : Clean l at first end) where
  line_fields : fields_of (slice at end l) ≡ slice at first l ∷ slice (first + 1) (first + 3) l ∷ slice (first + 4) (first + 5) l ∷ slice (first + 6) end l ∷ []
  line_fields =
      let j : end ≤ length l = omega arith in
      let s4 : first + 3 + 1 ≡ first + 4 = omega arith in
      let s6 : first + 5 + 1 ≡ first + 6 = omega arith in
      let e1 = index_at TAB l at first end h (omega arith) j tabs.one clean.port.0 in
      let e2 = index_at TAB l (first + 1) (first + 3) end (omega arith) (omega arith) j tabs.two clean.h4.0 in
      let e3 = index_at TAB l (first + 4) (first + 5) end (omega arith) (omega arith) j tabs.three clean.flag.0 in
      let n = length-slice (first + 6) end l j in
      let i = index_none TAB (slice (first + 6) end l) clean.payload.0 in
      let e4 : end ≡ first + 6 + index_of TAB (slice (first + 6) end l) = omega arith in
      let f3 : fields_of (slice (first + 4) end l) ≡ slice (first + 4) (first + 5) l ∷ slice (first + 6) end l ∷ [] =
      rw s6 at (fields_more l (first + 4) end (first + 5) (omega arith) j e3 (omega arith)) ∙ ap (λ (fs : List (List ℕ)). slice (first + 4) (first + 5) l ∷ fs) (fields_last l (first + 6) end end (omega arith) j e4 (omega arith)) in
      let f2 : fields_of (slice (first + 1) end l) ≡ slice (first + 1) (first + 3) l ∷ fields_of (slice (first + 4) end l) = rw s4 at (fields_more l (first + 1) end (first + 3) (omega arith) j e2 (omega arith)) in
      fields_more l at end first (omega arith) j e1 (omega arith) ∙ ap (λ (fs : List (List ℕ)). slice at first l ∷ fs) (f2 ∙ ap (λ (fs : List (List ℕ)). slice (first + 1) (first + 3) l ∷ fs) f3)

  line_free : Without LINE-END (slice at end l)
  line_free =
      let j : end ≤ length l = omega arith in
      let s4 : first + 3 + 1 ≡ first + 4 = omega arith in
      let s6 : first + 5 + 1 ≡ first + 6 = omega arith in
      let tab : (x : ℕ) → x ≡ TAB → eqb x LINE-END ≡ false = λ x e. rw e in
      let g3 = joins LINE-END l (first + 4) (first + 5) end (omega arith) (omega arith) j (tab (get_or l (first + 5) 0) tabs.three) clean.flag.1 (rw s6 clean.payload.1) in
      let g2 = joins LINE-END l (first + 1) (first + 3) end (omega arith) (omega arith) j (tab (get_or l (first + 3) 0) tabs.two) clean.h4.1 (rw s4 g3) in
      joins LINE-END l at first end h (omega arith) j (tab (get_or l first 0) tabs.one) clean.port.1 g2

  by_fields : end - at ≤ MOST → frame_behind ports size at first end l ≡ record_in ports size at (drop at l)
  unfolding frame_behind
  by_fields m =
      let j : end ≤ length l = omega arith in
      let n = length-slice (first + 6) end l j in
      let s : end - (end - (first + 6)) ≡ first + 6 = omega arith in
      let e = index_at LINE-END l at end (length l) (omega arith) k (omega arith) tabs.four line_free in
      let found = sym (found_ends l at (omega arith) end e k) in
      record_ends ports size l at (found_of at (drop at l)) refl end found _
      (line_short ports size l at end (end + 1) (omega arith) j m _ (rw (line_fields, n, s) refl))

behind_told : (ports size : ℕ) (l : List ℕ) (at first end : ℕ) → is_frame (frame_behind ports size at first end l) ≡ true
    → Told (number_of 9 (slice at first l)) (hex_of 2 (slice (first + 1) (first + 3) l)) (flag_in (slice (first + 4) (first + 5) l)) (is_hex (size + size) (slice (first + 6) end l))
unfolding frame_behind
behind_told ports size l at first end v = frame_told ports (number_of 9 (slice at first l)) (hex_of 2 (slice (first + 1) (first + 3) l)) (flag_in (slice (first + 4) (first + 5) l)) (is_hex (size + size) (slice (first + 6) end l)) (first + 6) (end + 1) v

-- where it is a frame by its fields it is that record
pub here_is : (ports size : ℕ) (l : List ℕ) (at first end : ℕ) → at ≤ first → end ≡ first + 6 + (size + size) → end < length l → end - at ≤ MOST → parted_at first end l ≡ true
    → is_frame (frame_behind ports size at first end l) ≡ true → frame_behind ports size at first end l ≡ record_in ports size at (drop at l)
here_is ports size l at first end h w k m t u = by_fields ports size l at first end h w k (parted_says l first end t) (clean_by (behind_told ports size l at first end u)) m
  where
    clean_by : Told (number_of 9 (slice at first l)) (hex_of 2 (slice (first + 1) (first + 3) l)) (flag_in (slice (first + 4) (first + 5) l)) (is_hex (size + size) (slice (first + 6) end l)) → Clean l at first end
    clean_by v =
        let p = number_digits (slice at first l) v.port_there in
        let x = hex_digits (slice (first + 1) (first + 3) l) v.h4_there in
        let d = payload_digits (size + size) (slice (first + 6) end l) v.payload_there in
        let ten = not_digit 10 (omega arith) in
        let sixteen = not_digit 16 (omega arith) in
        record {
          port = (digits_without TAB 10 ten.0 (slice at first l) p, digits_without LINE-END 10 ten.1 (slice at first l) p);
          h4 = (digits_without TAB 16 sixteen.0 (slice (first + 1) (first + 3) l) x, digits_without LINE-END 16 sixteen.1 (slice (first + 1) (first + 3) l) x);
          flag = (flag_without TAB refl refl (slice (first + 4) (first + 5) l) v.flag_there, flag_without LINE-END refl refl (slice (first + 4) (first + 5) l) v.flag_there);
          payload = (digits_without TAB 16 sixteen.0 (slice (first + 6) end l) d, digits_without LINE-END 16 sixteen.1 (slice (first + 6) end l) d);
        }
