-- What a line says does not go by where the next one is, and its payload lies in it.
-- The place of the next line is only handed on: each case of the definition gives the same record with another place (`going_to`, `opens_to`). The payload's place is that of the last field, which has two digits a byte.
use Rattle.std.specs.Prelude.{◌≡◌, refl, Bool, true, false, cond, ◌&&◌, List, [], ◌∷◌, ℕ, suc, ◌+◌, ◌-◌, ◌≤◌, eqb, leb, ltb, length, Option, Some, None}
use Rattle.std.proofs.Common.{arith, eqb-true}
use Rattle.ground.specs.Truth.{and_left, and_right}
use Rattle.text.specs.Fields.{are_digits, hex_of, is_hex, number_of}
use Rattle.text.specs.Text.{TAB, ahead, fields_of, parted}
use Rattle.recording.specs.Line.{MOST}
use Rattle.recording.specs.declared.opening.Opening.{Opening}
use Rattle.recording.specs.declared.opening.Opening.TheVariants as O
use Rattle.recording.specs.Opening.{line_opening, opened, opened_by, opening_by, settings_by}
use Rattle.recording.specs.Pairs.{first_pairs, pairs_from, settings_of}
use Rattle.recording.specs.Record.{Lies, flag_in, frame_by, line_record, record_by}
use Rattle.recording.specs.declared.pairs.Awaited.{Awaited}
use Rattle.recording.specs.declared.pairs.Awaited.TheVariants as A
use Rattle.recording.specs.declared.pairs.Pairs.{Pairs}
use Rattle.recording.specs.declared.record.Record.{Record}
use Rattle.recording.specs.declared.record.Record.TheVariants.{End, Frame, Long, Malformed, Unfinished}

-- a frame or a malformed line, with another next line
abbrev pub going_to : ℕ → Record → Record
going_to n (Frame port h4 flag place next) = Frame port h4 flag place n
going_to n (Malformed next) = Malformed n
going_to n Long = Long
going_to n Unfinished = Unfinished
going_to n End = End

frame_going : (ports : ℕ) (p h : Option ℕ) (flag : Option Bool) (payload : Bool) (place n m : ℕ) → frame_by ports p h flag payload place n ≡ going_to n (frame_by ports p h flag payload place m)
unfolding frame_by
frame_going ports (Some x) (Some y) (Some flag) payload place n m = go (ltb x ports && ltb y 256 && payload)
  where
    go : (b : Bool) → cond b (Frame x y flag place n) (Malformed n) ≡ going_to n (cond b (Frame x y flag place m) (Malformed m))
    go true = refl
    go false = refl
frame_going ports (Some x) (Some y) None payload place n m = refl
frame_going ports (Some x) None flag payload place n m = refl
frame_going ports None h flag payload place n m = refl

record_going : (ports size end n m : ℕ) (fs : List (List ℕ)) → record_by ports size end n fs ≡ going_to n (record_by ports size end m fs)
record_going ports size end n m [] = refl
record_going ports size end n m (a ∷ []) = refl
record_going ports size end n m (a ∷ b ∷ []) = refl
record_going ports size end n m (a ∷ b ∷ c ∷ []) = refl
record_going ports size end n m (a ∷ b ∷ c ∷ d ∷ []) = frame_going ports (number_of 9 a) (hex_of 2 b) (flag_in c) (is_hex (size + size) d) (end - length d) n m
record_going ports size end n m (a ∷ b ∷ c ∷ d ∷ e ∷ rest) = refl

pub line_going : (ports size at n m : ℕ) (line : List ℕ) → line_record ports size at n line ≡ going_to n (line_record ports size at m line)
unfolding line_record
line_going ports size at n m line = go (leb (length line) MOST)
  where
    go : (b : Bool) → cond b (record_by ports size (at + length line) n (fields_of line)) (Malformed n) ≡ going_to n (cond b (record_by ports size (at + length line) m (fields_of line)) (Malformed m))
    go true = record_going ports size (at + length line) n m (fields_of line)
    go false = refl

-- the same of a first line
abbrev pub opens_to : ℕ → Opening → Opening
opens_to n (O.Settings settings next) = O.Settings settings n
opens_to n O.Malformed = O.Malformed
opens_to n O.Unfinished = O.Unfinished
opens_to n O.End = O.End

opened_opens : (p : Pairs) (n m : ℕ) → opened p n ≡ opens_to n (opened p m)
unfolding opened
opened_opens p n m = go p.awaited
  where
    go : (a : Awaited) → opened_by a (settings_of p) n ≡ opens_to n (opened_by a (settings_of p) m)
    go A.Name = refl
    go A.Kind = refl
    go (A.Time t i) = refl
    go A.Nothing = refl

settings_opens : (a b c : Option ℕ) (pairs : List (List ℕ)) (n m : ℕ) → settings_by a b c pairs n ≡ opens_to n (settings_by a b c pairs m)
unfolding settings_by
settings_opens (Some x) (Some y) (Some z) pairs n m = opened_opens (pairs_from (first_pairs x y z) pairs) n m
settings_opens (Some x) (Some y) None pairs n m = refl
settings_opens (Some x) None c pairs n m = refl
settings_opens None b c pairs n m = refl

opening_opens : (n m : ℕ) (fs : List (List ℕ)) → opening_by n fs ≡ opens_to n (opening_by m fs)
opening_opens n m [] = refl
opening_opens n m (a ∷ []) = refl
opening_opens n m (a ∷ b ∷ []) = refl
opening_opens n m (a ∷ b ∷ c ∷ pairs) = settings_opens (number_of 9 a) (number_of 9 b) (number_of 9 c) pairs n m

pub line_opens : (n m : ℕ) (line : List ℕ) → line_opening n line ≡ opens_to n (line_opening m line)
unfolding line_opening
line_opens n m line = go (leb (length line) MOST)
  where
    go : (b : Bool) → cond b (opening_by n (fields_of line)) O.Malformed ≡ opens_to n (cond b (opening_by m (fields_of line)) O.Malformed)
    go true = opening_opens n m (fields_of line)
    go false = refl

-- a first line that is whole is settings or malformed
abbrev pub is_settled : Opening → Bool
is_settled (O.Settings settings next) = true
is_settled O.Malformed = true
is_settled O.Unfinished = false
is_settled O.End = false

opened_settled : (p : Pairs) (n : ℕ) → is_settled (opened p n) ≡ true
unfolding opened
opened_settled p n = go p.awaited
  where
    go : (a : Awaited) → is_settled (opened_by a (settings_of p) n) ≡ true
    go A.Name = refl
    go A.Kind = refl
    go (A.Time t i) = refl
    go A.Nothing = refl

settings_settled : (a b c : Option ℕ) (pairs : List (List ℕ)) (n : ℕ) → is_settled (settings_by a b c pairs n) ≡ true
unfolding settings_by
settings_settled (Some x) (Some y) (Some z) pairs n = opened_settled (pairs_from (first_pairs x y z) pairs) n
settings_settled (Some x) (Some y) None pairs n = refl
settings_settled (Some x) None c pairs n = refl
settings_settled None b c pairs n = refl

fields_settled : (n : ℕ) (fs : List (List ℕ)) → is_settled (opening_by n fs) ≡ true
fields_settled n [] = refl
fields_settled n (a ∷ []) = refl
fields_settled n (a ∷ b ∷ []) = refl
fields_settled n (a ∷ b ∷ c ∷ pairs) = settings_settled (number_of 9 a) (number_of 9 b) (number_of 9 c) pairs n

pub opening_settled : (n : ℕ) (line : List ℕ) → is_settled (line_opening n line) ≡ true
unfolding line_opening
opening_settled n line = go (leb (length line) MOST)
  where
    go : (b : Bool) → is_settled (cond b (opening_by n (fields_of line)) O.Malformed) ≡ true
    go true = fields_settled n (fields_of line)
    go false = refl

-- a line is a frame or malformed, and names the next one
pub data IsLine : Record → Type 0 where
  frame : {port h4 : ℕ} {flag : Bool} {place next : ℕ} → IsLine (Frame port h4 flag place next)
  malformed : {next : ℕ} → IsLine (Malformed next)

frame_line_lem : (ports : ℕ) (p h : Option ℕ) (flag : Option Bool) (payload : Bool) (place n : ℕ) → IsLine (frame_by ports p h flag payload place n)
unfolding frame_by
frame_line_lem ports (Some x) (Some y) (Some flag) payload place n = go (ltb x ports && ltb y 256 && payload)
  where
    go : (b : Bool) → IsLine (cond b (Frame x y flag place n) (Malformed n))
    go true = frame
    go false = malformed
frame_line_lem ports (Some x) (Some y) None payload place n = malformed
frame_line_lem ports (Some x) None flag payload place n = malformed
frame_line_lem ports None h flag payload place n = malformed

record_line : (ports size end n : ℕ) (fs : List (List ℕ)) → IsLine (record_by ports size end n fs)
record_line ports size end n [] = malformed
record_line ports size end n (a ∷ []) = malformed
record_line ports size end n (a ∷ b ∷ []) = malformed
record_line ports size end n (a ∷ b ∷ c ∷ []) = malformed
record_line ports size end n (a ∷ b ∷ c ∷ d ∷ []) = frame_line_lem ports (number_of 9 a) (hex_of 2 b) (flag_in c) (is_hex (size + size) d) (end - length d) n
record_line ports size end n (a ∷ b ∷ c ∷ d ∷ e ∷ rest) = malformed

pub is_line : (ports size at n : ℕ) (line : List ℕ) → IsLine (line_record ports size at n line)
unfolding line_record
is_line ports size at n line = go (leb (length line) MOST)
  where
    go : (b : Bool) → IsLine (cond b (record_by ports size (at + length line) n (fields_of line)) (Malformed n))
    go true = record_line ports size (at + length line) n (fields_of line)
    go false = malformed

-- the fields of a line, with what parts them, are as long as the line
unfoldable pub weight : List (List ℕ) → ℕ
weight [] = 0
weight (p ∷ ps) = suc (length p) + weight ps

weight_ahead : (b : ℕ) (ps : List (List ℕ)) (n : ℕ) → weight ps ≡ suc n → weight (ahead b ps) ≡ suc (suc n)
unfolding weight
weight_ahead b [] n h = absurd (omega arith)
weight_ahead b (p ∷ ps) n h = omega arith

pub weight_fields : (line : List ℕ) → weight (fields_of line) ≡ suc (length line)
unfolding weight fields_of
weight_fields [] = refl
weight_fields (b ∷ line) = go (eqb b TAB) (weight_fields line)
  where
    go : (t : Bool) → weight (parted TAB ([] ∷ []) line) ≡ suc (length line) → weight (cond t ([] ∷ parted TAB ([] ∷ []) line) (ahead b (parted TAB ([] ∷ []) line))) ≡ suc (suc (length line))
    go true h = omega arith
    go false h = weight_ahead b (parted TAB ([] ∷ []) line) (length line) h

lies_none : (size end n : ℕ) → Lies size end (Malformed n)
lies_none size end n = record { within = λ port h4 flag place next e. let z : ◌≡◌ {A = ℕ} 0 1 = cc in absurd (omega arith) }

frame_lies : (ports : ℕ) (p h : Option ℕ) (flag : Option Bool) (payload : Bool) (place n size end : ℕ) → (payload ≡ true → place + size + size ≤ end) → Lies size end (frame_by ports p h flag payload place n)
unfolding frame_by
frame_lies ports (Some x) (Some y) (Some flag) payload place n size end h = go (ltb x ports && ltb y 256 && payload) refl
  where
    go : (b : Bool) → (ltb x ports && ltb y 256 && payload) ≡ b → Lies size end (cond b (Frame x y flag place n) (Malformed n))
    go true t = record { within = λ port h4 f q next e. let z : place ≡ q = cc in rw (← z) (h (and_right (ltb x ports && ltb y 256) payload t)) }
    go false t = lies_none size end n
frame_lies ports (Some x) (Some y) None payload place n size end h = lies_none size end n
frame_lies ports (Some x) None flag payload place n size end h = lies_none size end n
frame_lies ports None hh flag payload place n size end h = lies_none size end n

hex_length : (digits : ℕ) (field : List ℕ) → is_hex digits field ≡ true → length field ≡ digits
unfolding is_hex
hex_length digits field t = eqb-true (length field) digits (and_left (eqb (length field) digits) (are_digits 16 field) t)

record_lies : (ports size end n : ℕ) (fs : List (List ℕ)) → weight fs ≡ suc end → Lies size end (record_by ports size end n fs)
unfolding weight
record_lies ports size end n [] h = lies_none size end n
record_lies ports size end n (a ∷ []) h = lies_none size end n
record_lies ports size end n (a ∷ b ∷ []) h = lies_none size end n
record_lies ports size end n (a ∷ b ∷ c ∷ []) h = lies_none size end n
record_lies ports size end n (a ∷ b ∷ c ∷ d ∷ []) h =
    frame_lies ports (number_of 9 a) (hex_of 2 b) (flag_in c) (is_hex (size + size) d) (end - length d) n size end
    (λ (t : is_hex (size + size) d ≡ true). let l = hex_length (size + size) d t in let w : length d ≤ end = omega arith in omega arith)
record_lies ports size end n (a ∷ b ∷ c ∷ d ∷ e ∷ rest) h = lies_none size end n

pub line_lies : (ports size n : ℕ) (line : List ℕ) → Lies size (length line) (line_record ports size 0 n line)
unfolding line_record
line_lies ports size n line = go (leb (length line) MOST)
  where
    go : (b : Bool) → Lies size (length line) (cond b (record_by ports size (0 + length line) n (fields_of line)) (Malformed n))
    go true = let z : 0 + length line ≡ length line = omega arith in rw z (record_lies ports size (length line) n (fields_of line) (weight_fields line))
    go false = lies_none size (length line) n
