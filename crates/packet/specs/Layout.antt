-- The layout of a packet (01, 'The control packet').
use Rattle.std.specs.Prelude.{ℕ, ◌+◌, ◌*◌, ◌/◌, ◌%◌, ◌^◌, List, [], ◌∷◌, ◌++◌, slice_index}
use Rattle.ground.specs.Table.{tabulate}
use Rattle.ground.specs.Types.{Bytes}
use Rattle.packet.specs.declared.layout.Fields.{Fields}
use Rattle.packet.specs.Crc.{crc_of}
use Rattle.packet.specs.Words.{word_of}

-- The fourteen data nibbles in the order in which they are sent, MFI1 8 to 15 and then 0 to 5. What 01 calls the reserved bits and the zeros beside RS-Ack and GID are 26 bits of one number, the first one highest (request 2026-08: 'writing takes them').
unfoldable pub data_of : Fields → List ℕ
data_of f =
    (f.mst / 16)
    ∷ (f.mst % 16)
    ∷ (f.reserved / 2 ^ 23 % 8 * 2 + f.rs_ack)
    ∷ (f.reserved / 2 ^ 19 % 16)
    ∷ (f.reserved / 2 ^ 15 % 16)
    ∷ (f.reserved / 2 ^ 11 % 16)
    ∷ (f.sq / 16)
    ∷ (f.sq % 16)
    ∷ (f.epoch / 16)
    ∷ (f.epoch % 16)
    ∷ f.word.0
    ∷ (f.reserved / 2 ^ 8 % 8 * 2 + f.gid)
    ∷ (f.reserved / 2 ^ 4 % 16)
    ∷ (f.reserved % 16)
    ∷ []

-- fourteen data nibbles with their CRC, MFI1 6 and 7
unfoldable pub sealed_of : List ℕ → List ℕ
sealed_of d = d ++ ((crc_of d / 16) ∷ (crc_of d % 16) ∷ [])

-- the sixteen nibbles of a packet
unfoldable pub nibbles_of : Fields → List ℕ
nibbles_of f = sealed_of (data_of f)

-- the H4 bytes that carry sixteen nibbles: the nibble in bits 1 to 4, MFI1 in bits 5 to 8
unfoldable pub h4_of : List ℕ → Bytes
h4_of ns = tabulate 16 (λ i. slice_index ns i % 16 * 16 + (i + 8) % 16)

-- the nibbles that sixteen H4 bytes carry: 'only the high nibbles are looked at'
unfoldable pub highs_of : Bytes → List ℕ
highs_of s = tabulate 16 (λ i. slice_index s i / 16)

abbrev pub byte_of : ℕ → ℕ → ℕ
byte_of high low = high % 16 * 16 + low % 16

-- the CRC that sixteen nibbles carry
unfoldable pub carried_in : List ℕ → ℕ
carried_in ns = byte_of (slice_index ns 14) (slice_index ns 15)

-- the reserved bits and those zeros: 'Reading now hands back all reserved and zero bits of a good packet' (request 2026-08)
abbrev pub reserved_of : List ℕ → ℕ
reserved_of ns =
    slice_index ns 2 % 16 / 2 * 2 ^ 23
    + slice_index ns 3 % 16 * 2 ^ 19
    + slice_index ns 4 % 16 * 2 ^ 15
    + slice_index ns 5 % 16 * 2 ^ 11
    + slice_index ns 11 % 16 / 2 * 2 ^ 8
    + slice_index ns 12 % 16 * 2 ^ 4
    + slice_index ns 13 % 16

-- the fields that sixteen nibbles carry
unfoldable pub fields_of : List ℕ → Fields
fields_of ns =
    record {
      epoch = byte_of (slice_index ns 8) (slice_index ns 9);
      word = word_of (slice_index ns 10);
      gid = slice_index ns 11 % 2;
      mst = byte_of (slice_index ns 0) (slice_index ns 1);
      rs_ack = slice_index ns 2 % 2;
      sq = byte_of (slice_index ns 6) (slice_index ns 7);
      reserved = reserved_of ns;
    }
