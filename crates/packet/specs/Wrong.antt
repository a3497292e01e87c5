-- Wrong readings of 01 and of requests 2026-08, 2026-02, 2026-12 and 2026-01, each as a definition with a run on which it breaks what these say.
use Rattle.std.specs.Prelude.{◌≡◌, ℕ, zero, suc, ◌+◌, ◌-◌, ◌*◌, ◌/◌, ◌%◌, ◌^◌, Bool, true, false, ◌||◌, List, [], ◌∷◌, ◌++◌, get_or, take, replicate, bit_xor, slice_index, slice_index_or, refl, if◌then◌else◌, ◌==◌, Ok, Err}
use Rattle.ground.specs.Bits.{odd}
use Rattle.ground.specs.Polynomial.{check, plus}
use Rattle.ground.specs.Table.{tabulate}
use Rattle.packet.specs.declared.layout.Fields.{Fields}
use Rattle.packet.specs.declared.reader.Unread.TheVariants.{Crc, Fixed, Unassigned}
use Rattle.packet.specs.Crc.{crc_of}
use Rattle.packet.specs.Fixed.{fixed_fields, fixed_nibbles, read_fixed_nibbles}
use Rattle.packet.specs.Kinds.{epoch_of, idle_number, mst_fails, mst_first, vc12_kind}
use Rattle.packet.specs.Layout.{byte_of, carried_in, data_of, fields_of, h4_of, nibbles_of}
use Rattle.packet.specs.Reading.{read_nibbles, Reading}
use Rattle.packet.specs.Shares.{byte_at, joined_to, share_of}
use Rattle.packet.specs.Vc12.{lowest_of, read_vc12_bits, vc12_bits, vc12_bytes, vc12_data, vc12_divisor, vc12_fields}
use Rattle.packet.specs.Words.{FIXED, IDLE, NORM, assigned}
use Rattle.packet.specs.Opened.{packet_open}

-- The epoch as the multiframe. 'A packet is sixteen nibbles, from MFI1 8 to 15 and on to 0 to 7 of the next multiframe': tag 8 is epoch 1's.
wrong_epoch : ℕ → ℕ
wrong_epoch t = t / 16

epoch_breaks : (wrong_epoch 8 ≡ 0) × (epoch_of 0 8 ≡ 1)
unfolding packet_open wrong_epoch
epoch_breaks = (refl, refl)

-- MST's block one epoch late, as source document 002 has it (table 5, note 2). In P8 epoch 0 speaks of numbers 0 to 7.
wrong_first : ℕ → ℕ
wrong_first e = 8 * ((e + 255) % 32)

first_breaks : (wrong_first 0 ≡ 248) × (mst_first 0 0 ≡ 0)
unfolding packet_open wrong_first
first_breaks = (refl, refl)

-- MST's last bit as the lowest number. In P8 the byte BF says OK of number 1 alone.
wrong_fails : ℕ → ℕ → Bool
wrong_fails mst q = odd (mst / 2 ^ (q % 8))

fails_breaks : (wrong_fails 191 1 ≡ true) × (mst_fails 191 1 ≡ false)
unfolding packet_open wrong_fails
fails_breaks = (refl, refl)

-- The word judged before the CRC. 'For reading a packet: 9, 5, 7, 6': a word FIXED under a wrong CRC is 5.
wrong_read : List ℕ → Reading
wrong_read ns =
    if (fields_of ns).word.0 == FIXED then Err Fixed
    else if assigned (fields_of ns).word then (if crc_of (take 14 ns) == carried_in ns then Ok (fields_of ns) else Err Crc)
    else Err Unassigned

read_breaks : (wrong_read (1 ∷ replicate 15 0) ≡ Err Fixed) × (read_nibbles (1 ∷ replicate 15 0) ≡ Err Crc)
unfolding packet_open wrong_read
read_breaks = (refl, refl)

-- Wrong readings of request 2026-08, on a packet with the three bits beside GID set.

-- NORM, SQ 17, epoch 5, GID 1, MST BF, RS-Ack 1
with_reserved_lem : ℕ → Fields
with_reserved_lem z = record { epoch = 5; word = record { 0 = NORM }; gid = 1; mst = 0xBF; rs_ack = 1; sq = 17; reserved = z }

-- Only the twenty reserved bits handed back, the six zeros lost: the byte F3 is written again as 13.
wrong_reserved : List ℕ → ℕ
wrong_reserved ns =
    slice_index ns 3 % 16 * 2 ^ 19 + slice_index ns 4 % 16 * 2 ^ 15 + slice_index ns 5 % 16 * 2 ^ 11 + slice_index ns 12 % 16 * 2 ^ 4 + slice_index ns 13 % 16

reserved_breaks : (slice_index (h4_of (nibbles_of (with_reserved_lem (wrong_reserved (nibbles_of (with_reserved_lem 1792)))))) 11 ≡ 0x13)
    × (slice_index (h4_of (nibbles_of (fields_of (nibbles_of (with_reserved_lem 1792))))) 11 ≡ 0xF3)
unfolding packet_open wrong_reserved with_reserved_lem
reserved_breaks = (refl, refl)

-- The bits written but the CRC taken over zeros: what is written does not read.
wrong_nibbles : ℕ → List ℕ
wrong_nibbles z =
    let sum = crc_of (data_of (with_reserved_lem 0)) in
    data_of (with_reserved_lem z) ++ ((sum / 16) ∷ (sum % 16) ∷ [])

nibbles_break : (read_nibbles (wrong_nibbles 1792) ≡ Err Crc) × (read_nibbles (nibbles_of (with_reserved_lem 1792)) ≡ Ok (with_reserved_lem 1792))
unfolding packet_open wrong_nibbles with_reserved_lem
nibbles_break = (refl, refl)

-- Wrong readings of request 2026-02, on P4 (the last bit alone, CRC 07) and P1 (CRC 99).

p4_data : List ℕ
p4_data = replicate 13 0 ++ (1 ∷ [])

p1_data : List ℕ
p1_data = 15 ∷ 15 ∷ 0 ∷ 0 ∷ 0 ∷ 0 ∷ 15 ∷ 15 ∷ 0 ∷ 0 ∷ 5 ∷ 0 ∷ 0 ∷ 0 ∷ []

-- Places counted from the last byte: P4 joins to DF.
wrong_places : ℕ → List ℕ → ℕ
wrong_places zero ns = 0
wrong_places (suc p) ns = bit_xor (wrong_places p ns) (share_of (6 - p) (byte_at ns p))

places_break : (wrong_places 7 p4_data ≡ 0xDF) × (joined_to 7 p4_data ≡ 0x07)
unfolding packet_open wrong_places p4_data
places_break = (refl, refl)

-- A byte made of its two nibbles the wrong way round: P4 gives 70.
wrong_bytes : ℕ → List ℕ → ℕ
wrong_bytes zero ns = 0
wrong_bytes (suc p) ns = bit_xor (wrong_bytes p ns) (share_of p (byte_of (slice_index ns (p * 2 + 1)) (slice_index ns (p * 2))))

bytes_break : (wrong_bytes 7 p4_data ≡ 0x70) × (joined_to 7 p4_data ≡ 0x07)
unfolding packet_open wrong_bytes p4_data
bytes_break = (refl, refl)

-- The shares added as numbers modulo 256, and not bit by bit: P1 gives 21.
wrong_sums : ℕ → List ℕ → ℕ
wrong_sums zero ns = 0
wrong_sums (suc p) ns = (wrong_sums p ns + share_of p (byte_at ns p)) % 256

sums_break : (wrong_sums 7 p1_data ≡ 0x21) × (joined_to 7 p1_data ≡ 0x99)
unfolding packet_open wrong_sums p1_data
sums_break = (refl, refl)

-- Wrong readings of request 2026-12.

-- The CRC still checked, on SQ 5 in epoch 58: 5.
checked_breaks : (read_nibbles (fixed_nibbles 58 5) ≡ Err Crc) × (read_fixed_nibbles (fixed_nibbles 58 5) ≡ Ok (fixed_fields 58 5))
unfolding packet_open
checked_breaks = (refl, refl)

-- The word judged as in LCAS, on SQ 0 in epoch 0, whose CRC is right: 7.
judged_breaks : (read_nibbles (fixed_nibbles 0 0) ≡ Err Fixed) × (read_fixed_nibbles (fixed_nibbles 0 0) ≡ Ok (fixed_fields 0 0))
unfolding packet_open
judged_breaks = (refl, refl)

-- Wrong readings of request 2026-01.

-- IDLE, SQ 63, count 0, MST all FAIL
vc12_idle : Fields
vc12_idle = record { epoch = 0; word = record { 0 = IDLE }; gid = 0; mst = 0xFF; rs_ack = 0; sq = 63; reserved = 0 }

-- The divisor taken the other way round, x^3+x^2+1: CRC 101 in place of 010.
wrong_divisor : List Bool
wrong_divisor = true ∷ false ∷ true ∷ []

divisor_breaks : (check wrong_divisor (vc12_data vc12_idle) ≡ true ∷ false ∷ true ∷ []) × (check vc12_divisor (vc12_data vc12_idle) ≡ false ∷ true ∷ false ∷ [])
unfolding packet_open wrong_divisor vc12_idle
divisor_breaks = (refl, refl)

-- A frame's whole byte taken for its bit: the first one's 2, which says the start, loses the bit beside it. NORM 63 of count 31 is refused with 5.
vc12_last : Fields
vc12_last = record { epoch = 31; word = record { 0 = NORM }; gid = 1; mst = 0; rs_ack = 1; sq = 63; reserved = 0 }

wrong_lowest : List ℕ → List Bool
wrong_lowest s = tabulate 32 (λ k. get_or s k 0 == 1)

lowest_breaks : (read_vc12_bits (wrong_lowest (vc12_bytes (vc12_bits vc12_last))) ≡ Err Crc) × (read_vc12_bits (lowest_of (vc12_bytes (vc12_bits vc12_last))) ≡ Ok vc12_last)
unfolding packet_open wrong_lowest vc12_last
lowest_breaks = (refl, refl)

-- Two changed bits taken for none that passes, as of H4's packets up to three: bits 11 and 18 of NORM 0 and of NORM 1, seven places apart, make each read as the other, with a reserved bit.
vc12_norm : ℕ → ℕ → Fields
vc12_norm sq reserved = record { epoch = 3; word = record { 0 = NORM }; gid = 0; mst = 0; rs_ack = 0; sq = sq; reserved = reserved }

two_changed : List Bool → List Bool
two_changed l = tabulate 32 (λ k. plus (k == 10 || k == 17) (slice_index_or l k false))

changes_pass : (read_vc12_bits (two_changed (vc12_bits (vc12_norm 0 0))) ≡ Ok (vc12_norm 1 4)) × (read_vc12_bits (two_changed (vc12_bits (vc12_norm 1 0))) ≡ Ok (vc12_norm 0 4))
unfolding packet_open two_changed vc12_norm
changes_pass = (refl, refl)

-- MST's block one count late: in count 0 it 'speaks of numbers 8 x (count mod 8) onward', from 0 on and not from 56.
wrong_vc12_first : ℕ → ℕ
wrong_vc12_first count = 8 * ((count + 7) % 8)

vc12_first_breaks : (tabulate 3 wrong_vc12_first ≡ 56 ∷ 0 ∷ 8 ∷ []) × (tabulate 3 (mst_first vc12_kind) ≡ 0 ∷ 8 ∷ 16 ∷ [])
unfolding packet_open wrong_vc12_first
vc12_first_breaks = (refl, refl)

-- The epoch led by 8, as H4's is: the last eight frames of a packet would be of the next epoch. 'An epoch is 32 frames .. the host says where it starts', and that is where its packet does.
wrong_vc12_epoch : ℕ → ℕ
wrong_vc12_epoch t = (t + 8) % 1024 / 32

vc12_epoch_breaks : (tabulate 32 wrong_vc12_epoch ≡ replicate 24 0 ++ replicate 8 1) × (tabulate 32 (epoch_of vc12_kind) ≡ replicate 32 0)
unfolding packet_open wrong_vc12_epoch
vc12_epoch_breaks = (refl, refl)

-- 63 taken for IDLE by its number: the last of 64 members would be none. 'idle SQ is 63 and the word decides'.
wrong_word : Fields → ℕ
wrong_word f = if f.sq == idle_number vc12_kind then IDLE else f.word.0

word_breaks : (wrong_word (vc12_fields (lowest_of (vc12_bytes (vc12_bits vc12_last)))) ≡ IDLE) × ((vc12_fields (lowest_of (vc12_bytes (vc12_bits vc12_last)))).word.0 ≡ NORM)
unfolding packet_open wrong_word vc12_last
word_breaks = (refl, refl)
