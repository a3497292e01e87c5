-- By the table of shares (request 2026-02) a packet is read as 01 says.
use Rattle.std.specs.Prelude.{◌≡◌, ℕ, zero, suc, ◌<◌, ◌≤◌, List, length, take, bit_xor, refl, if◌then◌else◌, ◌==◌}
use Rattle.std.proofs.Common.{◌∙◌, ap₂, arith}
use Rattle.std.proofs.Math.Path.{ap}
use Rattle.packet.specs.ByTable.{crc_with, read_nibbles_with, read_row_with, ruling_with}
use Rattle.packet.specs.Crc.{crc_of}
use Rattle.packet.specs.Kinds.{vc12_kind}
use Rattle.packet.specs.Reading.{read_nibbles, read_under, Reading}
use Rattle.packet.specs.Ruling.{read_row, ruling_by, ruling_of}
use Rattle.packet.specs.Shares.{byte_at, joined_by, joined_to, share_in, share_of, shares_of}
use Rattle.packet.specs.Theorems.Shares.{every_share, joined}
use Rattle.packet.specs.Vc12.{read_vc12_row}

byte_lt : (ns : List ℕ) (p : ℕ) → byte_at ns p < 256
byte_lt ns p = omega arith

module _ {table : List (List ℕ)} (right : table ≡ shares_of) where
  same_shares : (ns : List ℕ) (p : ℕ) → p ≤ 7 → joined_by (share_in table) (byte_at ns) p ≡ joined_by share_of (byte_at ns) p
  same_shares ns zero h = refl
  same_shares ns (suc p) h = ap₂ bit_xor (same_shares ns p (omega arith)) (every_share right p (byte_at ns p) (omega arith) (byte_lt ns p))

  pub crc_with_lem : (ns : List ℕ) → 14 ≤ length ns → crc_with table ns ≡ crc_of (take 14 ns)
  unfolding crc_with joined_to
  crc_with_lem ns many = same_shares ns 7 (omega arith) ∙ joined ns many

  pub read_nibbles_with_lem : (ns : List ℕ) → 14 ≤ length ns → read_nibbles_with table ns ≡ read_nibbles ns
  unfolding read_nibbles_with read_nibbles
  read_nibbles_with_lem ns many = ap (λ (crc : ℕ). read_under crc ns) (crc_with_lem ns many)

  pub read_row_with_lem : (kind : ℕ) (row : List ℕ) → 14 ≤ length row → read_row_with table kind row ≡ read_row kind row
  unfolding read_row_with read_row
  read_row_with_lem kind row many = ap (λ (r : Reading). if kind == vc12_kind then read_vc12_row row else r) (read_nibbles_with_lem row many)

  pub ruling_with_lem : (kind epoch : ℕ) (row : List ℕ) → 14 ≤ length row → ruling_with table kind epoch row ≡ ruling_of kind epoch row
  unfolding ruling_with ruling_of
  ruling_with_lem kind epoch row many = ap ruling_by (read_row_with_lem kind row many)
