-- The reserved bits (request 2026-08): packets with none of them set, and packets that are alike beside them. H4 has 26 and VC-12 four.
use Rattle.std.specs.Prelude.{◌≡◌, ℕ, ◌/◌, ◌%◌, ◌<◌, ◌≤◌, false, List, get_or, slice_index_or, cond, ◌==◌}
use Rattle.ground.specs.Types.{Bytes}
use Rattle.packet.specs.Kinds.{vc12_kind}
use Rattle.packet.specs.Vc12.{row_bits}
use Rattle.packet.specs.declared.layout.Fields.{Fields}

-- frame by frame: of the frames with RS-Ack and with GID the first three bits, of five others all four
pub record NoneReserved (h4 : Bytes) : Type 0 where
  pub mfi1_10 : get_or h4 2 0 / 32 ≡ 0
  pub mfi1_11 : get_or h4 3 0 / 16 ≡ 0
  pub mfi1_12 : get_or h4 4 0 / 16 ≡ 0
  pub mfi1_13 : get_or h4 5 0 / 16 ≡ 0
  pub mfi1_3 : get_or h4 11 0 / 32 ≡ 0
  pub mfi1_4 : get_or h4 12 0 / 16 ≡ 0
  pub mfi1_5 : get_or h4 13 0 / 16 ≡ 0

-- the four bits after GID
pub record NoneReservedVc12 (bytes : Bytes) : Type 0 where
  pub bit_17 : get_or bytes 16 0 % 2 ≡ 0
  pub bit_18 : get_or bytes 17 0 % 2 ≡ 0
  pub bit_19 : get_or bytes 18 0 % 2 ≡ 0
  pub bit_20 : get_or bytes 19 0 % 2 ≡ 0

abbrev pub NoneReservedBy : (kind : ℕ) (bytes : Bytes) → Type 0
NoneReservedBy kind bytes = cond (kind == vc12_kind) (NoneReservedVc12 bytes) (NoneReserved bytes)

-- H4, frame by frame: all bits of MST, SQ, MFI2 and the word, and the last one of the frames with RS-Ack and with GID
pub record SameBeside (row other : List ℕ) : Type 0 where
  pub mfi1_8 : get_or row 0 0 % 16 ≡ get_or other 0 0 % 16
  pub mfi1_9 : get_or row 1 0 % 16 ≡ get_or other 1 0 % 16
  pub mfi1_10 : get_or row 2 0 % 2 ≡ get_or other 2 0 % 2
  pub mfi1_14 : get_or row 6 0 % 16 ≡ get_or other 6 0 % 16
  pub mfi1_15 : get_or row 7 0 % 16 ≡ get_or other 7 0 % 16
  pub mfi1_0 : get_or row 8 0 % 16 ≡ get_or other 8 0 % 16
  pub mfi1_1 : get_or row 9 0 % 16 ≡ get_or other 9 0 % 16
  pub mfi1_2 : get_or row 10 0 % 16 ≡ get_or other 10 0 % 16
  pub mfi1_3 : get_or row 11 0 % 2 ≡ get_or other 11 0 % 2

-- VC-12: the bits before the four and those behind them, up to the CRC
pub record SameBesideVc12 (row other : List ℕ) : Type 0 where
  pub before : (k : ℕ) → k < 16 → slice_index_or (row_bits row) k false ≡ slice_index_or (row_bits other) k false
  pub behind : (k : ℕ) → 20 ≤ k → k < 29 → slice_index_or (row_bits row) k false ≡ slice_index_or (row_bits other) k false

abbrev pub SameBesideBy : (kind : ℕ) (row other : List ℕ) → Type 0
SameBesideBy kind row other = cond (kind == vc12_kind) (SameBesideVc12 row other) (SameBeside row other)

-- the same fields with other reserved bits
abbrev pub with_reserved : ℕ → Fields → Fields
with_reserved r f = record { epoch = f.epoch; word = f.word; gid = f.gid; mst = f.mst; rs_ack = f.rs_ack; sq = f.sq; reserved = r }
