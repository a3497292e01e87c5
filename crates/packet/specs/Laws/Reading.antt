-- Packets as they are read, over the kind of packet: what crates above know of reading.
use Rattle.std.specs.Prelude.{◌≡◌, ℕ, Bool, true, false, ◌||◌, List, take, drop, slice_index, refl, if◌then◌else◌, ◌==◌, Ok, Err}
use Rattle.std.proofs.Common.{ap, arith}
use Rattle.std.proofs.lemmas.Bool.{false≢true}
use Rattle.ground.specs.Finite.{same_bits}
use Rattle.ground.specs.Polynomial.{check}
use Rattle.ground.specs.Truth.{cond_by}
use Rattle.packet.specs.Crc.{crc_of}
use Rattle.packet.specs.declared.layout.Fields.{Fields}
use Rattle.packet.specs.declared.reader.Unread.TheVariants.{Crc, Fixed, Unassigned}
use Rattle.packet.specs.declared.words.Word.{Word}
use Rattle.packet.specs.Kinds.{vc12_kind}
use Rattle.packet.specs.Layout.{byte_of, carried_in, fields_of}
use Rattle.packet.specs.Reading.{read_fields, read_nibbles, reading_number, Reading}
use Rattle.packet.specs.Ruling.{read_row, ruling_by, ruling_of}
use Rattle.packet.specs.Vc12.{read_vc12_bits, read_vc12_row, row_bits, vc12_divisor, vc12_fields}
use Rattle.packet.specs.Words.{ADD, DNU, EOS, FIXED, IDLE, NORM, assigned}

-- what holds of a wrong CRC, and of any fields under a right one, holds of every row that is read
pub row_by : (P : Reading → Type 0) → P (Err Crc) → ((f : Fields) → P (read_fields f)) → (kind : ℕ) (row : List ℕ) → P (read_row kind row)
unfolding read_row read_vc12_row read_vc12_bits read_nibbles
row_by P crc right kind row =
    cond_by P (kind == vc12_kind) (read_vc12_row row) (read_nibbles row)
    (λ v. cond_by P (same_bits (check vc12_divisor (take 29 (row_bits row))) (drop 29 (row_bits row))) (read_fields (vc12_fields (row_bits row))) (Err Crc) (λ e. right (vc12_fields (row_bits row))) (λ e. crc))
    (λ v. cond_by P (crc_of (take 14 row) == carried_in row) (read_fields (fields_of row)) (Err Crc) (λ e. right (fields_of row)) (λ e. crc))

-- what a packet rules is what it reads as
pub rules_as_read : (kind epoch : ℕ) (row : List ℕ) → ruling_of kind epoch row ≡ ruling_by (read_row kind row)
unfolding ruling_of
rules_as_read kind epoch row = refl

-- The five words of LCAS: they are assigned, and a packet that reads well has one of them.

abbrev pub is_lcas : (word : ℕ) → Bool
is_lcas word = word == ADD || word == NORM || word == EOS || word == IDLE || word == DNU

pub lcas_assigned : (word : ℕ) → is_lcas word ≡ true → assigned (record { 0 = word }) ≡ true
unfolding assigned
lcas_assigned word e = go (word == FIXED) (word == ADD) (word == NORM) (word == EOS) (word == IDLE) (word == DNU) e
  where
    go : (x a b c d e : Bool) → (a || b || c || d || e) ≡ true → (x || a || b || c || d || e) ≡ true
    go true a b c d e h = refl
    go false a b c d e h = h

assigned_lcas : (word : Word) → (word.0 == FIXED) ≡ false → assigned word ≡ true → is_lcas word.0 ≡ true
unfolding assigned
assigned_lcas word x a = rw x at a

abbrev Known : Reading → Type 0
Known r = (ruling_by r).good ≡ true → is_lcas (ruling_by r).word ≡ true

pub good_word : (kind : ℕ) (row : List ℕ) → (ruling_by (read_row kind row)).good ≡ true → is_lcas (ruling_by (read_row kind row)).word ≡ true
good_word kind row = row_by Known (λ e. absurd (false≢true e)) known kind row
  where
    known : (f : Fields) → (ruling_by (read_fields f)).good ≡ true → is_lcas (ruling_by (read_fields f)).word ≡ true
    known f =
        cond_by Known (f.word.0 == FIXED) (Err Fixed) (if assigned f.word then Ok f else Err Unassigned) (λ x e. absurd (false≢true e))
        (λ x. cond_by Known (assigned f.word) (Ok f) (Err Unassigned) (λ a e. assigned_lcas f.word x a) (λ a e. absurd (false≢true e)))

-- H4.

pub h4_read : (kind : ℕ) (row : List ℕ) (q : Reading) → (kind == vc12_kind) ≡ false → read_row kind row ≡ q → read_nibbles row ≡ q
unfolding read_row
h4_read kind row q clock e = rw clock at e

-- a packet that reads well has the fields that are read
pub fields_of_read : (f : Fields) (row : List ℕ) → read_nibbles row ≡ Ok f → fields_of row ≡ f
unfolding read_nibbles
fields_of_read f row e = go (crc_of (take 14 row) == carried_in row) ((fields_of row).word.0 == FIXED) (assigned (fields_of row).word) refl refl refl
  where
    go : (c x a : Bool) → (crc_of (take 14 row) == carried_in row) ≡ c → ((fields_of row).word.0 == FIXED) ≡ x → assigned (fields_of row).word ≡ a → fields_of row ≡ f
    go true false true hc hx ha = let w : Ok (fields_of row) ≡ Ok f = rw (hc, hx, ha) at e in cc
    go true false false hc hx ha = absurd (let w : Err Unassigned ≡ Ok f = rw (hc, hx, ha) at e in let n = ap reading_number w in omega arith)
    go true true a hc hx ha = absurd (let w : Err Fixed ≡ Ok f = rw (hc, hx) at e in let n = ap reading_number w in omega arith)
    go false x a hc hx ha = absurd (let w : Err Crc ≡ Ok f = rw hc at e in let n = ap reading_number w in omega arith)

-- MFI2 is its two nibbles
pub epoch_read : (row : List ℕ) → (fields_of row).epoch ≡ byte_of (slice_index row 8) (slice_index row 9)
unfolding fields_of
epoch_read row = refl
