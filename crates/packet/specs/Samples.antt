-- VC-12's packets (request 2026-01) worked out by hand, written and read; the limits of their fields and lengths; and one with two changed bits.
use Rattle.std.specs.Prelude.{◌≡◌, ℕ, false, ◌||◌, List, [], ◌∷◌, replicate, slice_index_or, refl, ◌==◌, Ok}
use Rattle.ground.specs.Polynomial.{plus}
use Rattle.ground.specs.Table.{tabulate}
use Rattle.packet.specs.Fixed.{write_fixed_bytes}
use Rattle.packet.specs.declared.layout.Fields.{Fields}
use Rattle.packet.specs.Reading.{reading_number}
use Rattle.packet.specs.Vc12.{read_vc12_answer, vc12_bits, read_vc12_bits, write_vc12_answer, write_vc12_bytes}
use Rattle.packet.specs.Words.{DNU, EOS, IDLE, NORM}
use Rattle.packet.specs.Writing.{writing_number}
use Rattle.packet.specs.Opened.{packet_open}

-- IDLE, SQ 63, count 0, MST all FAIL
idle : Fields
idle = record { epoch = 0; word = record { 0 = IDLE }; gid = 0; mst = 0xFF; rs_ack = 0; sq = 63; reserved = 0 }

idle_frames : List ℕ
idle_frames = 2 ∷ 0 ∷ 0 ∷ 0 ∷ 0 ∷ 1 ∷ 1 ∷ 1 ∷ 1 ∷ 1 ∷ 1 ∷ 0 ∷ 1 ∷ 0 ∷ 1 ∷ 0 ∷ 0 ∷ 0 ∷ 0 ∷ 0 ∷ 0 ∷ 1 ∷ 1 ∷ 1 ∷ 1 ∷ 1 ∷ 1 ∷ 1 ∷ 1 ∷ 0 ∷ 1 ∷ 0 ∷ []

-- EOS, SQ 0, count 1, GID 1, MST all FAIL
eos : Fields
eos = record { epoch = 1; word = record { 0 = EOS }; gid = 1; mst = 0xFF; rs_ack = 0; sq = 0; reserved = 0 }

eos_frames : List ℕ
eos_frames = 2 ∷ 0 ∷ 0 ∷ 0 ∷ 1 ∷ 0 ∷ 0 ∷ 0 ∷ 0 ∷ 0 ∷ 0 ∷ 0 ∷ 0 ∷ 1 ∷ 1 ∷ 1 ∷ 0 ∷ 0 ∷ 0 ∷ 0 ∷ 0 ∷ 1 ∷ 1 ∷ 1 ∷ 1 ∷ 1 ∷ 1 ∷ 1 ∷ 1 ∷ 1 ∷ 1 ∷ 1 ∷ []

-- NORM, SQ 63, count 31, GID 1, RS-Ack 1, MST all OK
norm : Fields
norm = record { epoch = 31; word = record { 0 = NORM }; gid = 1; mst = 0; rs_ack = 1; sq = 63; reserved = 0 }

norm_frames : List ℕ
norm_frames = 3 ∷ 1 ∷ 1 ∷ 1 ∷ 1 ∷ 1 ∷ 1 ∷ 1 ∷ 1 ∷ 1 ∷ 1 ∷ 0 ∷ 0 ∷ 1 ∷ 0 ∷ 1 ∷ 0 ∷ 0 ∷ 0 ∷ 0 ∷ 1 ∷ 0 ∷ 0 ∷ 0 ∷ 0 ∷ 0 ∷ 0 ∷ 0 ∷ 0 ∷ 0 ∷ 0 ∷ 0 ∷ []

-- all fields different: DNU, SQ 37, count 21, GID 1, RS-Ack 0, reserved 11, MST A5
mixed : Fields
mixed = record { epoch = 21; word = record { 0 = DNU }; gid = 1; mst = 0xA5; rs_ack = 0; sq = 37; reserved = 11 }

mixed_frames : List ℕ
mixed_frames = 3 ∷ 0 ∷ 1 ∷ 0 ∷ 1 ∷ 1 ∷ 0 ∷ 0 ∷ 1 ∷ 0 ∷ 1 ∷ 1 ∷ 1 ∷ 1 ∷ 1 ∷ 1 ∷ 1 ∷ 0 ∷ 1 ∷ 1 ∷ 0 ∷ 1 ∷ 0 ∷ 1 ∷ 0 ∷ 0 ∷ 1 ∷ 0 ∷ 1 ∷ 0 ∷ 0 ∷ 0 ∷ []

written : (write_vc12_bytes idle (replicate 32 0) ≡ idle_frames)
    × (write_vc12_bytes eos (replicate 32 0) ≡ eos_frames)
    × (write_vc12_bytes norm (replicate 32 0) ≡ norm_frames)
    × (write_vc12_bytes mixed (replicate 32 0) ≡ mixed_frames)
unfolding packet_open idle idle_frames eos eos_frames norm norm_frames mixed mixed_frames
written = (refl, refl, refl, refl)

read : (read_vc12_answer idle_frames ≡ Ok idle)
    × (read_vc12_answer eos_frames ≡ Ok eos)
    × (read_vc12_answer norm_frames ≡ Ok norm)
    × (read_vc12_answer mixed_frames ≡ Ok mixed)
unfolding packet_open idle idle_frames eos eos_frames norm norm_frames mixed mixed_frames
read = (refl, refl, refl, refl)

-- all zeros have a right CRC and the word FIXED; all ones have a wrong CRC; a byte too few, one too many
refused : (reading_number (read_vc12_answer (replicate 32 0)) ≡ 7) × (reading_number (read_vc12_answer (replicate 32 1)) ≡ 5)
    × (reading_number (read_vc12_answer (replicate 31 0)) ≡ 9) × (reading_number (read_vc12_answer (replicate 33 0)) ≡ 9)
unfolding packet_open
refused = (refl, refl, refl, refl)

-- the greatest that fits and one more: count, SQ, reserved bits; and FIXED, a word that is unassigned, a byte too few
some : ℕ → ℕ → ℕ → ℕ → Fields
some epoch sq reserved word = record { epoch = epoch; word = record { 0 = word }; gid = 1; mst = 0xFF; rs_ack = 0; sq = sq; reserved = reserved }

answer : ℕ → Fields → ℕ
answer lent f = writing_number (write_vc12_answer f (replicate lent 0))

limits : (answer 32 (some 31 63 15 NORM) ≡ 0) × (answer 32 (some 32 63 15 NORM) ≡ 8) × (answer 32 (some 31 64 15 NORM) ≡ 8)
    × (answer 32 (some 31 63 16 NORM) ≡ 8) × (answer 32 (some 31 63 15 0) ≡ 8) × (answer 32 (some 31 63 15 4) ≡ 8) × (answer 31 (some 32 63 15 NORM) ≡ 9)
unfolding packet_open answer some
limits = (refl, refl, refl, refl, refl, refl, refl)

-- NORM 9 of count 7 with MST 00, its bits 15 and 22, counted from 1, changed: EOS 9 with MST 80
abbrev pub nine : ℕ → ℕ → Fields
nine word mst = record { epoch = 7; word = record { 0 = word }; gid = 0; mst = mst; rs_ack = 0; sq = 9; reserved = 0 }

changed : read_vc12_bits (tabulate 32 (λ k. plus (k == 14 || k == 21) (slice_index_or (vc12_bits (nine NORM 0)) k false))) ≡ Ok (nine EOS 0x80)
unfolding packet_open
changed = refl

abbrev pub sent_of : Fields → List ℕ
sent_of f = write_vc12_bytes f (replicate 32 0)

-- two good packets one bit apart
abbrev pub fixed_sent : ℕ → List ℕ
fixed_sent sq = write_fixed_bytes 58 sq (replicate 16 0)
