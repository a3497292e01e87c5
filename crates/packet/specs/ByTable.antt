-- A packet read by a table of shares that a function is lent (request 2026-02), whatever stands in it. By `shares_of` it is the reading of 01 (Theorems.ByTable).
use Rattle.std.specs.Prelude.{ℕ, List, if◌then◌else◌, ◌==◌}
use Rattle.packet.specs.declared.ruling.Ruling.{Ruling}
use Rattle.packet.specs.Kinds.{vc12_kind}
use Rattle.packet.specs.Reading.{read_under, Reading}
use Rattle.packet.specs.Ruling.{ruling_by}
use Rattle.packet.specs.Shares.{byte_at, joined_by, share_in}
use Rattle.packet.specs.Vc12.{read_vc12_row}

unfoldable pub crc_with : (table : List (List ℕ)) (nibbles : List ℕ) → ℕ
crc_with table ns = joined_by (share_in table) (byte_at ns) 7

unfoldable pub read_nibbles_with : (table : List (List ℕ)) (nibbles : List ℕ) → Reading
read_nibbles_with table ns = read_under (crc_with table ns) ns

unfoldable pub read_row_with : (table : List (List ℕ)) (kind : ℕ) (row : List ℕ) → Reading
read_row_with table kind row = if kind == vc12_kind then read_vc12_row row else read_nibbles_with table row

unfoldable pub ruling_with : (table : List (List ℕ)) (kind epoch : ℕ) (row : List ℕ) → Ruling
ruling_with table kind epoch row = ruling_by (read_row_with table kind row)
