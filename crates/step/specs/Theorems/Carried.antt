-- A packet rules as it is read, but where it carries another number.
use Rattle.std.specs.Prelude.{◌≡◌, refl, Bool, true, false, cond, not, ◌||◌, List, ℕ, ◌%◌, eqb, drop, get_or, take, Ok, Err}
use Rattle.std.proofs.Common.{eqb-true}
use Rattle.ground.specs.Finite.{same_bits}
use Rattle.ground.specs.Polynomial.{check}
use Rattle.ground.specs.Truth.{cond_by}
use Rattle.packet.specs.Crc.{crc_of}
use Rattle.packet.specs.declared.layout.Fields.{Fields}
use Rattle.packet.specs.declared.reader.Unread.TheVariants.{Crc, Unassigned}
use Rattle.packet.specs.Fixed.{fixed_fields, fixed_ruling_of, read_fixed_nibbles}
use Rattle.packet.specs.Kinds.{fixed_kind, vc12_kind}
use Rattle.packet.specs.Layout.{byte_of, carried_in, fields_of}
use Rattle.packet.specs.Reading.{read_fields, read_nibbles, Reading}
use Rattle.packet.specs.Ruling.{fields_in, read_row, refused, ruling_by, ruling_of}
use Rattle.packet.specs.Vc12.{read_vc12_bits, read_vc12_row, row_bits, vc12_divisor, vc12_fields}
use Rattle.packet.specs.Words.{FIXED}
use Rattle.step.specs.Carried.{other_number, reading_in}
use Rattle.step.specs.OwnCount.{own_number, own_ruling, ruling_in, without_mfi2}

pub ruled_as_read : (kind epoch : ℕ) (row : List ℕ) → own_ruling kind epoch row ≡ cond (other_number kind epoch row) refused (ruling_by (reading_in kind row))
unfolding own_ruling other_number ruling_in reading_in fixed_ruling_of ruling_of
ruled_as_read kind epoch row = go (without_mfi2 kind || own_number epoch row) (eqb kind fixed_kind)
  where
    go : (own fixed : Bool)
        → cond own (cond fixed (ruling_by (read_fixed_nibbles row)) (ruling_by (read_row kind row))) refused ≡ cond (not own) refused (ruling_by (cond fixed (read_fixed_nibbles row) (read_row kind row)))
    go true true = refl
    go true false = refl
    go false fixed = refl

-- What holds of a wrong CRC and of another word than FIXED under any number, of the fields of a right CRC under their own, and of a fixed group's packet under its own, holds of every reading under the number that stands in the row.
pub read_as : (P : ℕ → Reading → Type 0) → ((epoch : ℕ) → P epoch (Err Crc)) → ((epoch : ℕ) → P epoch (Err Unassigned)) → ((f : Fields) → P f.epoch (read_fields f)) → ((epoch sq : ℕ) → P epoch (Ok (fixed_fields epoch sq)))
    → (kind : ℕ) (row : List ℕ) → P (fields_in kind row).epoch (reading_in kind row)
unfolding reading_in read_row read_vc12_row read_vc12_bits read_nibbles read_fixed_nibbles fields_in fields_of
read_as P crc other right fixed kind row =
    cond_by (P (fields_in kind row).epoch) (eqb kind fixed_kind) (read_fixed_nibbles row) (read_row kind row)
    (λ e.
    let z = eqb-true kind fixed_kind e in
    rw z
    (cond_by (P (byte_of (get_or row 8 0) (get_or row 9 0))) (eqb (get_or row 10 0 % 16) FIXED)
    (Ok (fixed_fields (byte_of (get_or row 8 0) (get_or row 9 0)) (byte_of (get_or row 6 0) (get_or row 7 0)))) (Err Unassigned)
    (λ w. fixed (byte_of (get_or row 8 0) (get_or row 9 0)) (byte_of (get_or row 6 0) (get_or row 7 0))) (λ w. other (byte_of (get_or row 8 0) (get_or row 9 0)))))
    (λ e. by_row (eqb kind vc12_kind))
  where
    by_row : (b : Bool)
        → P (cond b (vc12_fields (row_bits row)) (fields_of row)).epoch (cond b (read_vc12_row row) (read_nibbles row))
    by_row true =
        cond_by (P (vc12_fields (row_bits row)).epoch) (same_bits (check vc12_divisor (take 29 (row_bits row))) (drop 29 (row_bits row))) (read_fields (vc12_fields (row_bits row))) (Err Crc)
        (λ w. right (vc12_fields (row_bits row))) (λ w. crc (vc12_fields (row_bits row)).epoch)
    by_row false =
        cond_by (P (fields_of row).epoch) (eqb (crc_of (take 14 row)) (carried_in row)) (read_fields (fields_of row)) (Err Crc)
        (λ w. right (fields_of row)) (λ w. crc (fields_of row).epoch)
