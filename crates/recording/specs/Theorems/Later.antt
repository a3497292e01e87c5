-- What is read from a place of a text on is what is read of the rest alone, later by the place.
-- A line's fields do not go by where it begins: only the place of the payload and that of the next line do, and both are counted from there.
use Rattle.std.specs.Prelude.{◌≡◌, Bool, ◌&&◌, List, [], ◌∷◌, ℕ, zero, suc, ◌+◌, ◌-◌, leb, drop, take, Option, Some, None}
use Rattle.std.proofs.Math.Path.{refl}
use Rattle.std.proofs.Common.{sym, ap, ◌∙◌, drop-drop}
use Rattle.std.proofs.Math.Bool.{true, false, cond}
use native.Mathlib.Omega.{arith}
use Rattle.std.proofs.Math.Dec.{eqb, ltb}
use Rattle.std.proofs.Math.ListN.{length}
use Rattle.std.proofs.Math.Seq.{slice, take-nil}
use Rattle.ground.specs.Finding.{index_of}
use Rattle.recording.specs.declared.record.Record.{Record}
use Rattle.recording.specs.declared.record.Record.TheVariants.{Frame, Malformed, Long, Unfinished, End}
use Rattle.recording.specs.Theorems.Lines.{line_opens, opens_to, weight, weight_fields}
use Rattle.recording.specs.Later.{later, opens_later}
use Rattle.recording.specs.Line.{MOST, first_line, found_of}
use Rattle.recording.specs.declared.opening.Opening.{Opening}
use Rattle.recording.specs.declared.pairs.Settings.{Settings}
use Rattle.recording.specs.declared.opening.Opening.TheVariants as O
use Rattle.recording.specs.Opening.{line_opening, opening_in}
use Rattle.recording.specs.Record.{flag_in, frame_by, last_record, line_record, record_by, record_in}
use Rattle.text.specs.Fields.{hex_of, is_hex, number_of}
use Rattle.text.specs.Text.{LINE-END, fields_of}

frame_later : (ports : ℕ) (p h : Option ℕ) (flag : Option Bool) (payload : Bool) (at place n : ℕ) → frame_by ports p h flag payload (at + place) (at + n) ≡ later at (frame_by ports p h flag payload place n)
unfolding frame_by
frame_later ports (Some x) (Some y) (Some flag) payload at place n = go (ltb x ports && ltb y 256 && payload)
  where
    go : (b : Bool) → cond b (Frame x y flag (at + place) (at + n)) (Malformed (at + n)) ≡ later at (cond b (Frame x y flag place n) (Malformed n))
    go true = refl
    go false = refl
frame_later ports (Some x) (Some y) None payload at place n = refl
frame_later ports (Some x) None flag payload at place n = refl
frame_later ports None h flag payload at place n = refl

fields_later : (ports size at end n : ℕ) (fs : List (List ℕ)) → weight fs ≡ suc end → record_by ports size (at + end) (at + n) fs ≡ later at (record_by ports size end n fs)
unfolding weight
fields_later ports size at end n [] h = refl
fields_later ports size at end n (a ∷ []) h = refl
fields_later ports size at end n (a ∷ b ∷ []) h = refl
fields_later ports size at end n (a ∷ b ∷ c ∷ []) h = refl
fields_later ports size at end n (a ∷ b ∷ c ∷ d ∷ []) h =
    let e : at + end - length d ≡ at + (end - length d) = omega arith in
    rw e (frame_later ports (number_of 9 a) (hex_of 2 b) (flag_in c) (is_hex (size + size) d) at (end - length d) n)
fields_later ports size at end n (a ∷ b ∷ c ∷ d ∷ e ∷ rest) h = refl

line_later : (ports size at n : ℕ) (line : List ℕ) → line_record ports size at (at + n) line ≡ later at (line_record ports size 0 n line)
unfolding line_record
line_later ports size at n line = go (leb (length line) MOST)
  where
    go : (b : Bool) → cond b (record_by ports size (at + length line) (at + n) (fields_of line)) (Malformed (at + n)) ≡ later at (cond b (record_by ports size (0 + length line) n (fields_of line)) (Malformed n))
    go true = let z : 0 + length line ≡ length line = omega arith in rw z (fields_later ports size at (length line) n (fields_of line) (weight_fields line))
    go false = refl

opening_later_line : (at n : ℕ) (line : List ℕ) → line_opening (at + n) line ≡ opens_later at (line_opening n line)
opening_later_line at n line = line_opens (at + n) 0 line ∙ (go (line_opening 0 line) ∙ ap (opens_later at) (sym (line_opens n 0 line)))
  where
    go : (x : Opening) → opens_to (at + n) x ≡ opens_later at (opens_to n x)
    go (O.Settings settings next) = refl
    go O.Malformed = refl
    go O.Unfinished = refl
    go O.End = refl

module _ (ports size at : ℕ) (rest : List ℕ) where
  pub record_later : record_in ports size at rest ≡ later at (record_in ports size 0 rest)
  unfolding record_in found_of
  record_later = go (eqb (length rest) 0) (ltb (index_of LINE-END rest) (length rest)) (ltb MOST (length rest)) refl refl refl
    where
      go : (a b c : Bool) → eqb (length rest) 0 ≡ a → ltb (index_of LINE-END rest) (length rest) ≡ b → ltb MOST (length rest) ≡ c → record_in ports size at rest ≡ later at (record_in ports size 0 rest)
      go true b c ea eb ec = rw ea refl
      go false true c ea eb ec =
          let e : at + index_of LINE-END rest + 1 ≡ at + (0 + index_of LINE-END rest + 1) = omega arith in
          rw (ea, eb, e) (line_later ports size at (0 + index_of LINE-END rest + 1) (first_line rest))
      go false false true ea eb ec = rw (ea, eb, ec) refl
      go false false false ea eb ec = rw (ea, eb, ec) refl

  pub last_later : last_record ports size at rest ≡ later at (last_record ports size 0 rest)
  unfolding last_record
  last_later = go (eqb (length rest) 0)
    where
      go : (b : Bool) → cond b End (line_record ports size at (at + length rest) rest) ≡ later at (cond b End (line_record ports size 0 (0 + length rest) rest))
      go true = refl
      go false = let z : 0 + length rest ≡ length rest = omega arith in rw z (line_later ports size at (length rest) rest)

pub opening_later : (at : ℕ) (last : Bool) (rest : List ℕ) → opening_in at last rest ≡ opens_later at (opening_in 0 last rest)
unfolding opening_in found_of
opening_later at last rest = go (eqb (length rest) 0) (ltb (index_of LINE-END rest) (length rest)) (ltb MOST (length rest)) last refl refl refl
  where
    go : (a b c l : Bool) → eqb (length rest) 0 ≡ a → ltb (index_of LINE-END rest) (length rest) ≡ b → ltb MOST (length rest) ≡ c → opening_in at l rest ≡ opens_later at (opening_in 0 l rest)
    go true b c l ea eb ec = rw ea refl
    go false true c l ea eb ec =
        let e : at + index_of LINE-END rest + 1 ≡ at + (0 + index_of LINE-END rest + 1) = omega arith in
        rw (ea, eb, e) (opening_later_line at (0 + index_of LINE-END rest + 1) (first_line rest))
    go false false true l ea eb ec = rw (ea, eb, ec) refl
    go false false false false ea eb ec = rw (ea, eb, ec) refl
    go false false false true ea eb ec =
        let z : 0 + length rest ≡ length rest = omega arith in
        rw (ea, eb, ec, z) (opening_later_line at (length rest) rest)

-- a part of the rest is the part of the text that lies so much later
front_later : (at n : ℕ) (l : List ℕ) → drop at (take (at + n) l) ≡ take n (drop at l)
front_later zero n l = let z : 0 + n ≡ n = omega arith in rw z refl
front_later (suc at) n [] = let z : suc at + n ≡ suc (at + n) = omega arith in rw (z, take-nil) refl
front_later (suc at) n (b ∷ l) = let z : suc at + n ≡ suc (at + n) = omega arith in rw z (front_later at n l)

pub slice_later : (at place end : ℕ) (l : List ℕ) → slice (at + place) (at + end) l ≡ slice place end (drop at l)
slice_later at place end l = sym (drop-drop place at (take (at + end) l)) ∙ ap (drop place) (front_later at end l)

-- and back: what was found from a place on lies so much sooner in the rest
module _ (at : ℕ) where
  pub frame_sooner : (x : Record) (port h4 : ℕ) (flag : Bool) (place next : ℕ) → later at x ≡ Frame port h4 flag place next
      → (place ≡ at + (place - at)) × (next ≡ at + (next - at)) × (x ≡ Frame port h4 flag (place - at) (next - at))
  frame_sooner (Frame p h f a b) port h4 flag place next e =
      let ep : p ≡ port = cc in
      let eh : h ≡ h4 = cc in
      let ef : f ≡ flag = cc in
      let ea : at + a ≡ place = cc in
      let eb : at + b ≡ next = cc in
      let da : place - at ≡ a = omega arith in
      let db : next - at ≡ b = omega arith in
      (omega arith, omega arith, rw (da, db, ep, eh, ef) refl)
  frame_sooner (Malformed b) port h4 flag place next e = let z : ◌≡◌ {A = ℕ} 0 1 = cc in absurd (omega arith)
  frame_sooner Long port h4 flag place next e = let z : ◌≡◌ {A = ℕ} 0 1 = cc in absurd (omega arith)
  frame_sooner Unfinished port h4 flag place next e = let z : ◌≡◌ {A = ℕ} 0 1 = cc in absurd (omega arith)
  frame_sooner End port h4 flag place next e = let z : ◌≡◌ {A = ℕ} 0 1 = cc in absurd (omega arith)

  pub malformed_sooner : (x : Record) (next : ℕ) → later at x ≡ Malformed next → (next ≡ at + (next - at)) × (x ≡ Malformed (next - at))
  malformed_sooner (Frame p h f a b) next e = let z : ◌≡◌ {A = ℕ} 0 1 = cc in absurd (omega arith)
  malformed_sooner (Malformed b) next e =
      let eb : at + b ≡ next = cc in
      let db : next - at ≡ b = omega arith in
      (omega arith, rw db refl)
  malformed_sooner Long next e = let z : ◌≡◌ {A = ℕ} 0 1 = cc in absurd (omega arith)
  malformed_sooner Unfinished next e = let z : ◌≡◌ {A = ℕ} 0 1 = cc in absurd (omega arith)
  malformed_sooner End next e = let z : ◌≡◌ {A = ℕ} 0 1 = cc in absurd (omega arith)

  pub long_sooner : (x : Record) → later at x ≡ Long → x ≡ Long
  long_sooner (Frame p h f a b) e = let z : ◌≡◌ {A = ℕ} 0 1 = cc in absurd (omega arith)
  long_sooner (Malformed b) e = let z : ◌≡◌ {A = ℕ} 0 1 = cc in absurd (omega arith)
  long_sooner Long e = refl
  long_sooner Unfinished e = let z : ◌≡◌ {A = ℕ} 0 1 = cc in absurd (omega arith)
  long_sooner End e = let z : ◌≡◌ {A = ℕ} 0 1 = cc in absurd (omega arith)

  pub unfinished_sooner : (x : Record) → later at x ≡ Unfinished → x ≡ Unfinished
  unfinished_sooner (Frame p h f a b) e = let z : ◌≡◌ {A = ℕ} 0 1 = cc in absurd (omega arith)
  unfinished_sooner (Malformed b) e = let z : ◌≡◌ {A = ℕ} 0 1 = cc in absurd (omega arith)
  unfinished_sooner Long e = let z : ◌≡◌ {A = ℕ} 0 1 = cc in absurd (omega arith)
  unfinished_sooner Unfinished e = refl
  unfinished_sooner End e = let z : ◌≡◌ {A = ℕ} 0 1 = cc in absurd (omega arith)

  pub end_sooner : (x : Record) → later at x ≡ End → x ≡ End
  end_sooner (Frame p h f a b) e = let z : ◌≡◌ {A = ℕ} 0 1 = cc in absurd (omega arith)
  end_sooner (Malformed b) e = let z : ◌≡◌ {A = ℕ} 0 1 = cc in absurd (omega arith)
  end_sooner Long e = let z : ◌≡◌ {A = ℕ} 0 1 = cc in absurd (omega arith)
  end_sooner Unfinished e = let z : ◌≡◌ {A = ℕ} 0 1 = cc in absurd (omega arith)
  end_sooner End e = refl

-- and of a first line
module _ (at : ℕ) where
  pub settings_sooner : (x : Opening) (s : Settings) (next : ℕ) → opens_later at x ≡ O.Settings s next → (next ≡ at + (next - at)) × (x ≡ O.Settings s (next - at))
  settings_sooner (O.Settings r n) s next e =
      let es : r ≡ s = cc in
      let eb : at + n ≡ next = cc in
      let db : next - at ≡ n = omega arith in
      (omega arith, rw (db, es) refl)
  settings_sooner O.Malformed s next e = let z : ◌≡◌ {A = ℕ} 0 1 = cc in absurd (omega arith)
  settings_sooner O.Unfinished s next e = let z : ◌≡◌ {A = ℕ} 0 1 = cc in absurd (omega arith)
  settings_sooner O.End s next e = let z : ◌≡◌ {A = ℕ} 0 1 = cc in absurd (omega arith)

  pub malformed_opens : (x : Opening) → opens_later at x ≡ O.Malformed → x ≡ O.Malformed
  malformed_opens (O.Settings r n) e = let z : ◌≡◌ {A = ℕ} 0 1 = cc in absurd (omega arith)
  malformed_opens O.Malformed e = refl
  malformed_opens O.Unfinished e = let z : ◌≡◌ {A = ℕ} 0 1 = cc in absurd (omega arith)
  malformed_opens O.End e = let z : ◌≡◌ {A = ℕ} 0 1 = cc in absurd (omega arith)

  pub unfinished_opens : (x : Opening) → opens_later at x ≡ O.Unfinished → x ≡ O.Unfinished
  unfinished_opens (O.Settings r n) e = let z : ◌≡◌ {A = ℕ} 0 1 = cc in absurd (omega arith)
  unfinished_opens O.Malformed e = let z : ◌≡◌ {A = ℕ} 0 1 = cc in absurd (omega arith)
  unfinished_opens O.Unfinished e = refl
  unfinished_opens O.End e = let z : ◌≡◌ {A = ℕ} 0 1 = cc in absurd (omega arith)

  pub end_opens : (x : Opening) → opens_later at x ≡ O.End → x ≡ O.End
  end_opens (O.Settings r n) e = let z : ◌≡◌ {A = ℕ} 0 1 = cc in absurd (omega arith)
  end_opens O.Malformed e = let z : ◌≡◌ {A = ℕ} 0 1 = cc in absurd (omega arith)
  end_opens O.Unfinished e = let z : ◌≡◌ {A = ℕ} 0 1 = cc in absurd (omega arith)
  end_opens O.End e = refl
