-- Each way out of reading and writing, as the definitions have it.
use Rattle.std.proofs.Common.{◌≡◌, ℕ, ◌/◌, ◌%◌, ◌<◌, ◌≤◌, true, false, List, [], ◌∷◌, ◌++◌, length, get_or, take, set, refl, ap, ◌∙◌, arith, le-ltb, lt-ltb, eq-eqb, ne_eqb, Ok, Err}
use Rattle.packet.specs.declared.layout.Fields.{Fields}
use Rattle.packet.specs.declared.reader.Unread.TheVariants.{Crc}
use Rattle.packet.specs.declared.writer.Unwritten.TheVariants.{Length, Field}
use Rattle.packet.specs.ByTable.{crc_with, read_nibbles_with}
use Rattle.packet.specs.Crc.{crc_of}
use Rattle.packet.specs.Fixed.{fixed_fields, fixed_nibbles, read_fixed_nibbles, write_fixed_answer, write_fixed_bytes}
use Rattle.packet.specs.Layout.{byte_of, carried_in, data_of, fields_of, h4_of, nibbles_of, sealed_of}
use Rattle.packet.specs.Reading.{read_fields, Reading}
use Rattle.packet.specs.Shares.{shares_of}
use Rattle.packet.specs.Theorems.ByTable.{crc_with_lem}
use Rattle.packet.specs.Writing.{fitting, write_answer, write_bytes}

module _ (table : List (List ℕ)) (ns : List ℕ) (sum carried : ℕ) (e : sum ≡ crc_with table ns) (h : carried ≡ carried_in ns) where
  pub read_crc : (sum ≡ carried → ⊥) → Err Crc ≡ read_nibbles_with table ns
  unfolding read_nibbles_with
  read_crc d = rw (← e, ← h, ne_eqb sum carried d)

  pub read_good : sum ≡ carried → (f : Fields) (r : Reading) → f ≡ fields_of ns → r ≡ read_fields f → r ≡ read_nibbles_with table ns
  unfolding read_nibbles_with
  read_good same f r is by = by ∙ rw (← e, ← h, eq-eqb sum carried same, ← is) refl

-- the CRC in its two places
pub sealed_nibbles : {table : List (List ℕ)} → table ≡ shares_of → (f : Fields) (d : List ℕ) (c : ℕ) → d ≡ data_of f ++ (0 ∷ 0 ∷ []) → c ≡ crc_with table d
    → set (set d 14 (c / 16)) 15 (c % 16) ≡ nibbles_of f
unfolding nibbles_of sealed_of data_of
sealed_nibbles right f d c e h =
    let l : length d ≡ 16 = ap length e in
    let is : c ≡ crc_of (take 14 d) = h ∙ crc_with_lem right d (omega arith) in
    rw (is, e)

module _ (f : Fields) (s : List ℕ) where
  pub write_length : (length s ≡ 16 → ⊥) → (Err Length ≡ write_answer f s) × (s ≡ write_bytes f s)
  unfolding write_answer write_bytes
  write_length d = rw (ne_eqb (length s) 16 d) (refl, refl)

  pub write_field : length s ≡ 16 → fitting f ≡ false → (Err Field ≡ write_answer f s) × (s ≡ write_bytes f s)
  unfolding write_answer write_bytes
  write_field h b = rw (eq-eqb (length s) 16 h, b) (refl, refl)

  pub write_done : length s ≡ 16 → fitting f ≡ true → (ns image t : List ℕ) → ns ≡ nibbles_of f → image ≡ h4_of ns → t ≡ image
      → (Ok tt ≡ write_answer f s) × (t ≡ write_bytes f s)
  unfolding write_answer write_bytes h4_of
  write_done h b ns image t e g k = rw (eq-eqb (length s) 16 h, b) (refl, (k ∙ rw (g, e) refl))

-- a fixed group's packet (request 2026-12)
pub fixed_packet : (ns : List ℕ) (e q : ℕ) (f : Fields) → get_or ns 10 0 % 16 ≡ 0 → e ≡ byte_of (get_or ns 8 0) (get_or ns 9 0) → q ≡ byte_of (get_or ns 6 0) (get_or ns 7 0) → f ≡ fixed_fields e q
    → Ok f ≡ read_fixed_nibbles ns
unfolding read_fixed_nibbles
fixed_packet ns e q f w he hq hf = rw (eq-eqb (get_or ns 10 0 % 16) 0 w, hf, he, hq)

module _ (e q : ℕ) (s : List ℕ) where
  pub fixed_length : (length s ≡ 16 → ⊥) → (Err Length ≡ write_fixed_answer e q s) × (s ≡ write_fixed_bytes e q s)
  unfolding write_fixed_answer write_fixed_bytes
  fixed_length d = rw (ne_eqb (length s) 16 d) (refl, refl)

  pub fixed_epoch : length s ≡ 16 → 256 ≤ e → (Err Field ≡ write_fixed_answer e q s) × (s ≡ write_fixed_bytes e q s)
  unfolding write_fixed_answer write_fixed_bytes
  fixed_epoch h a = rw (eq-eqb (length s) 16 h, le-ltb e 256 a) (refl, refl)

  pub fixed_sq : length s ≡ 16 → e < 256 → 256 ≤ q → (Err Field ≡ write_fixed_answer e q s) × (s ≡ write_fixed_bytes e q s)
  unfolding write_fixed_answer write_fixed_bytes
  fixed_sq h a b = rw (eq-eqb (length s) 16 h, lt-ltb e 256 a, le-ltb q 256 b) (refl, refl)

  pub fixed_done : length s ≡ 16 → e < 256 → q < 256 → (ns image t : List ℕ) → ns ≡ fixed_nibbles e q → image ≡ h4_of ns → t ≡ image
      → (Ok tt ≡ write_fixed_answer e q s) × (t ≡ write_fixed_bytes e q s)
  unfolding write_fixed_answer write_fixed_bytes h4_of
  fixed_done h a b ns image t i g k = rw (eq-eqb (length s) 16 h, lt-ltb e 256 a, lt-ltb q 256 b) (refl, (k ∙ rw (g, i) refl))
