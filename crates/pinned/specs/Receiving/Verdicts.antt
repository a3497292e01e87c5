-- Reports judged (01, 'Report of an epoch'), where a packet that did not arrive whole still reads as one; and packets of fixed groups (request 2026-12) at their limits.
use Rattle.std.specs.Prelude.{Bool, true, false, List, [], ◌∷◌, ℕ, ◌+◌, ◌%◌, length, replicate, set, take, if◌then◌else◌, ◌==◌}
use Rattle.pinned.specs.Filled.{nines}
use Rattle.ground.specs.Table.{tabulate}
use Rattle.ground.specs.Types.{Epoch}
use Rattle.judge.specs.declared.seen.Seen.{Seen}
use Rattle.judge.specs.Cause.{blamed_of, cause_of, mark_of}
use Rattle.judge.specs.Order.{order_of}
use Rattle.judge.specs.Verdict.{judge_of}
use Rattle.packet.specs.Fixed.{read_fixed_answer, read_fixed_nibbles, write_fixed_answer, write_fixed_bytes}
use Rattle.packet.specs.Reading.{reading_number}
use Rattle.packet.specs.Writing.{writing_number}
use Rattle.pinned.specs.Opened.{all_open}
use Rattle.tables.specs.Rows.{Pinned, pins, row, same}

-- a port with a good packet that arrived whole, and all frames; one whose packet did not arrive whole; one whose packet was refused
abbrev saw : (word number gid : ℕ) → Seen
saw word number gid = record { whole = true; good = true; word = word; number = number; gid = gid; here = true }

abbrev torn : (word number gid : ℕ) (here : Bool) → Seen
torn word number gid here = record { whole = false; good = true; word = word; number = number; gid = gid; here = here }

abbrev bad : ℕ → ℕ → Seen
bad word number = record { whole = true; good = false; word = word; number = number; gid = 0; here = true }

-- one that has just joined: its frames are here, and what stands in its ruling row reads as refused
abbrev joining : Seen
joining = record { whole = false; good = false; word = 0; number = 0; gid = 0; here = true }

abbrev verdict : List Seen → ℕ
verdict ports = judge_of 0 ports (length ports)

torn_packets : Pinned
unfolding all_open
torn_packets =
    pins "All is judged on whole ruling packets (R-17): what a torn one reads as makes no epoch held, and leaves it doubtful: EOS twice, a number twice, another GID, an active port that lacks a frame (01, 'Report of an epoch'; request 2026-12)"
    (row "EOS twice" (verdict (saw 3 0 0 ∷ torn 3 1 0 true ∷ [])) 2 same
    ∷ row "EOS on the lower" (verdict (saw 3 1 0 ∷ torn 3 0 0 true ∷ [])) 2 same
    ∷ row "a number twice" (verdict (saw 3 0 0 ∷ torn 15 0 0 true ∷ [])) 2 same
    ∷ row "another GID" (verdict (saw 3 0 0 ∷ torn 2 1 1 true ∷ [])) 2 same
    ∷ row "an active port that lacks a frame" (verdict (saw 3 0 0 ∷ torn 2 0 0 false ∷ [])) 2 same
    ∷ row "IDLE" (verdict (saw 3 0 0 ∷ torn 5 255 0 true ∷ [])) 2 same
    ∷ row "alone" (verdict (torn 3 0 0 true ∷ [])) 2 same
    ∷ row "one that has just joined" (verdict (saw 3 0 0 ∷ joining ∷ [])) 2 same
    ∷ [])

others : Pinned
unfolding all_open
others =
    pins "An IDLE port's GID counts for nothing, whichever it is, a DNU port's and an active one's hold the epoch where they differ; an ADD port's number does not fill a gap; EOS below the highest active number holds it, whether or not EOS stands on the highest too, and so do no EOS with a gap in the numbers, and two beside a packet that did not come; ADD's GID counts as an active port's; where none is active there need be no EOS; DNU's number counts among 0 to n-1 and not for EOS; a kind that is not known is judged as H4 (01, 'Report of an epoch'; request 2026-12)"
    (row "an IDLE port's GID 0" (verdict (saw 3 0 1 ∷ saw 5 255 0 ∷ [])) 3 same
    ∷ row "an IDLE port's GID 1" (verdict (saw 3 0 0 ∷ saw 5 255 1 ∷ [])) 3 same
    ∷ row "DNU with the same GID" (verdict (saw 3 0 2 ∷ saw 15 1 2 ∷ [])) 3 same
    ∷ row "DNU with another GID" (verdict (saw 3 0 0 ∷ saw 15 1 1 ∷ [])) 1 same
    ∷ row "active ports with two GIDs" (verdict (saw 2 0 1 ∷ saw 3 1 0 ∷ [])) 1 same
    ∷ row "ADD in a gap" (verdict (saw 2 0 0 ∷ saw 1 1 0 ∷ saw 3 2 0 ∷ [])) 2 same
    ∷ row "EOS below the highest" (verdict (saw 3 0 0 ∷ saw 2 1 0 ∷ [])) 1 same
    ∷ row "no EOS, with a gap" (verdict (saw 2 0 0 ∷ saw 2 2 0 ∷ [])) 1 same
    ∷ row "two EOS beside a packet that did not come" (verdict (saw 3 0 0 ∷ saw 3 1 0 ∷ joining ∷ [])) 1 same
    ∷ row "ADD with GID 0 beside 1" (verdict (saw 3 0 1 ∷ saw 1 1 0 ∷ [])) 1 same
    ∷ row "DNU with GID 0 beside 1" (verdict (saw 3 0 1 ∷ saw 15 1 0 ∷ [])) 1 same
    ∷ row "ADD with GID 1 beside 0" (verdict (saw 3 0 0 ∷ saw 1 1 1 ∷ [])) 1 same
    ∷ row "DNU alone" (verdict (saw 15 0 0 ∷ [])) 3 same
    ∷ row "ADD alone" (verdict (saw 1 0 0 ∷ [])) 3 same
    ∷ row "DNU above EOS" (verdict (saw 15 1 0 ∷ saw 3 0 0 ∷ [])) 3 same
    ∷ row "DNU above a gap" (verdict (saw 15 2 0 ∷ saw 3 0 0 ∷ [])) 2 same
    ∷ row "EOS on the highest too" (verdict (saw 2 0 0 ∷ saw 3 1 0 ∷ saw 3 2 0 ∷ [])) 1 same
    ∷ row "a kind that is not known" (judge_of 1 (saw 3 0 0 ∷ []) 1) 3 same
    ∷ [])

-- four ports with the numbers 0 to 3, EOS on the last, of which the one at i is another
abbrev word : ℕ → ℕ
word i = if i == 3 then 3 else 2

abbrev but : (ℕ → Seen) → ℕ → List Seen
but x i = set (tabulate 4 (λ j. saw (word j) j 0)) i (x i)

abbrev each_place : (ℕ → Seen) → List ℕ
each_place x = tabulate 4 (λ i. verdict (but x i))

abbrev lacks : ℕ → ℕ → Seen
lacks word number = record { whole = true; good = true; word = word; number = number; gid = 0; here = false }

any_place : Pinned
unfolding all_open
any_place =
    pins "Whichever port it is: as it was, with another GID, refused, lacking a frame, with the next port's number, with EOS, and with no whole packet. Active ports and EOS are looked for on every port, EOS below the highest holds the epoch beside a torn packet too, and an IDLE port's GID counts for nothing wherever it stands (01, 'Report of an epoch'; request 2026-12)."
    (row "as it was" (each_place (λ i. saw (word i) i 0)) (3 ∷ 3 ∷ 3 ∷ 3 ∷ []) same
    ∷ row "with another GID" (each_place (λ i. saw (word i) i 1)) (1 ∷ 1 ∷ 1 ∷ 1 ∷ []) same
    ∷ row "refused" (each_place (λ i. bad (word i) i)) (1 ∷ 1 ∷ 1 ∷ 1 ∷ []) same
    ∷ row "lacking a frame" (each_place (λ i. lacks (word i) i)) (1 ∷ 1 ∷ 1 ∷ 1 ∷ []) same
    ∷ row "with the next port's number" (each_place (λ i. saw (word i) ((i + 1) % 4) 0)) (1 ∷ 1 ∷ 1 ∷ 1 ∷ []) same
    ∷ row "with EOS" (each_place (λ i. saw 3 i 0)) (1 ∷ 1 ∷ 1 ∷ 3 ∷ []) same
    ∷ row "with no whole packet" (each_place (λ i. torn (word i) i 0 true)) (2 ∷ 2 ∷ 2 ∷ 2 ∷ []) same
    ∷ row "NORM behind an IDLE port" (verdict (saw 5 255 0 ∷ saw 2 0 0 ∷ [])) 1 same
    ∷ row "NORM before an IDLE port" (verdict (saw 2 0 0 ∷ saw 5 255 0 ∷ [])) 1 same
    ∷ row "an IDLE port's GID at the end" (verdict (saw 2 0 0 ∷ saw 3 1 0 ∷ saw 5 255 1 ∷ [])) 3 same
    ∷ row "an IDLE port's GID at the end, and the other way round" (verdict (saw 2 0 1 ∷ saw 3 1 1 ∷ saw 5 255 0 ∷ [])) 3 same
    ∷ row "EOS below the highest beside a torn packet" (verdict (saw 2 1 0 ∷ saw 3 0 0 ∷ torn 2 2 0 true ∷ [])) 1 same
    ∷ [])

abbrev fixed_place : (ℕ → Seen) → List ℕ
fixed_place x = tabulate 4 (λ i. judge_of 2 (set (tabulate 4 (λ j. saw 0 j 0)) i (x i)) 4)

any_fixed : Pinned
unfolding all_open
any_fixed =
    pins "Of a fixed group, whichever port it is: with another GID, which counts for nothing, refused, lacking a frame, with the next port's number, with a number above 3, and with no whole packet; and with one port (request 2026-12)"
    (row "with another GID" (fixed_place (λ i. saw 0 i 1)) (3 ∷ 3 ∷ 3 ∷ 3 ∷ []) same
    ∷ row "refused" (fixed_place (λ i. bad 0 i)) (1 ∷ 1 ∷ 1 ∷ 1 ∷ []) same
    ∷ row "lacking a frame" (fixed_place (λ i. lacks 0 i)) (1 ∷ 1 ∷ 1 ∷ 1 ∷ []) same
    ∷ row "with the next port's number" (fixed_place (λ i. saw 0 ((i + 1) % 4) 0)) (1 ∷ 1 ∷ 1 ∷ 1 ∷ []) same
    ∷ row "with a number above 3" (fixed_place (λ i. saw 0 (i + 4) 0)) (1 ∷ 1 ∷ 1 ∷ 1 ∷ []) same
    ∷ row "with no whole packet" (fixed_place (λ i. torn 0 i 0 true)) (1 ∷ 1 ∷ 1 ∷ 1 ∷ []) same
    ∷ row "one port" (judge_of 2 (saw 0 0 0 ∷ []) 1) 3 same
    ∷ [])

-- the cause, and the lowest port to which its clause applies, 255 none
abbrev why : (kind : ℕ) (ports : List Seen) → List ℕ
why kind ports = cause_of kind ports (length ports) ∷ blamed_of kind ports (length ports) ∷ []

causes : Pinned
unfolding all_open
causes =
    pins "Each clause alone: none; a refused packet, at the first of two; a frame that lacks; DNU's number, which a lower port has; GID, not an IDLE port's; EOS below the highest, and none on it; no whole packet; a gap, which is no one port's (01, 'Report of an epoch'; request 2026-12)."
    (row "none" (why 0 (saw 2 0 0 ∷ saw 3 1 0 ∷ [])) (0 ∷ 255 ∷ []) same
    ∷ row "a refused packet, at the first of two" (why 0 (saw 3 0 0 ∷ bad 2 1 ∷ bad 2 2 ∷ [])) (1 ∷ 1 ∷ []) same
    ∷ row "a frame that lacks" (why 0 (saw 2 0 0 ∷ lacks 2 1 ∷ lacks 3 2 ∷ [])) (2 ∷ 1 ∷ []) same
    ∷ row "DNU's number, which a lower port has" (why 0 (saw 2 0 0 ∷ saw 3 1 0 ∷ saw 15 0 0 ∷ [])) (3 ∷ 2 ∷ []) same
    ∷ row "GID, not an IDLE port's" (why 0 (saw 5 255 1 ∷ saw 2 0 0 ∷ saw 3 1 1 ∷ [])) (4 ∷ 2 ∷ []) same
    ∷ row "EOS below the highest" (why 0 (saw 3 0 0 ∷ saw 2 1 0 ∷ [])) (5 ∷ 0 ∷ []) same
    ∷ row "none on the highest" (why 0 (saw 2 0 0 ∷ saw 2 1 0 ∷ [])) (5 ∷ 1 ∷ []) same
    ∷ row "no whole packet" (why 0 (saw 3 0 0 ∷ joining ∷ [])) (6 ∷ 1 ∷ []) same
    ∷ row "a gap" (why 0 (saw 2 0 0 ∷ saw 3 2 0 ∷ [])) (7 ∷ 255 ∷ []) same
    ∷ [])

first_cause : Pinned
unfolding all_open
first_cause =
    pins "Of two clauses that hold the one before decides; and the marks by cause, of H4, VC-12 and a fixed group (01, 'Report of an epoch'; request 2026-12)"
    (row "refused before a lacking frame" (why 0 (bad 2 0 ∷ lacks 3 1 ∷ [])) (1 ∷ 0 ∷ []) same
    ∷ row "a lacking frame before a number twice" (why 0 (lacks 2 0 ∷ saw 3 0 0 ∷ [])) (2 ∷ 0 ∷ []) same
    ∷ row "a number twice before GID" (why 0 (saw 2 0 0 ∷ saw 3 0 1 ∷ [])) (3 ∷ 1 ∷ []) same
    ∷ row "GID before EOS" (why 0 (saw 3 0 0 ∷ saw 3 1 1 ∷ [])) (4 ∷ 1 ∷ []) same
    ∷ row "EOS before no whole packet" (why 0 (saw 3 0 0 ∷ saw 3 1 0 ∷ joining ∷ [])) (5 ∷ 0 ∷ []) same
    ∷ row "no whole packet before a gap" (why 1 (saw 3 1 0 ∷ joining ∷ [])) (6 ∷ 1 ∷ []) same
    ∷ row "marks of H4" (tabulate 8 (mark_of 0)) (3 ∷ 1 ∷ 1 ∷ 1 ∷ 1 ∷ 1 ∷ 2 ∷ 2 ∷ []) same
    ∷ row "marks of VC-12" (tabulate 8 (mark_of 1)) (3 ∷ 1 ∷ 1 ∷ 1 ∷ 1 ∷ 1 ∷ 2 ∷ 2 ∷ []) same
    ∷ row "marks of a fixed group" (tabulate 8 (mark_of 2)) (3 ∷ 1 ∷ 1 ∷ 1 ∷ 1 ∷ 1 ∷ 1 ∷ 1 ∷ []) same
    ∷ [])

fixed_causes : Pinned
unfolding all_open
fixed_causes =
    pins "A fixed group's causes, in its own order: no whole packet before a refused one, then frames, numbers twice and a gap; GID and EOS are not asked for (request 2026-12)"
    (row "none, whatever GID and EOS" (why 2 (saw 0 0 0 ∷ saw 0 1 1 ∷ [])) (0 ∷ 255 ∷ []) same
    ∷ row "no whole packet before a refused one" (why 2 (bad 0 0 ∷ joining ∷ [])) (6 ∷ 1 ∷ []) same
    ∷ row "refused before a lacking frame" (why 2 (saw 0 0 0 ∷ bad 0 1 ∷ lacks 0 2 ∷ [])) (1 ∷ 1 ∷ []) same
    ∷ row "a lacking frame before a number twice" (why 2 (lacks 0 0 ∷ saw 0 0 0 ∷ [])) (2 ∷ 0 ∷ []) same
    ∷ row "a number twice" (why 2 (saw 0 0 0 ∷ saw 0 0 0 ∷ [])) (3 ∷ 1 ∷ []) same
    ∷ row "a gap" (why 2 (saw 0 0 0 ∷ saw 0 2 0 ∷ [])) (7 ∷ 255 ∷ []) same
    ∷ [])

orders : Pinned
unfolding all_open
orders =
    pins "Payload goes by the numbers of active ports, however high, and not by what a refused or a torn packet reads as (01, 'Report of an epoch'; request 2026-12)"
    (row "X of three" (order_of (saw 2 9 0 ∷ saw 2 5 0 ∷ saw 3 63 0 ∷ []) 3).x 3 same
    ∷ row "X of three, their order" (take 3 (order_of (saw 2 9 0 ∷ saw 2 5 0 ∷ saw 3 63 0 ∷ []) 3).ports) (1 ∷ 0 ∷ 2 ∷ []) same
    ∷ row "X of one among five" (order_of (bad 2 0 ∷ torn 2 1 0 true ∷ saw 3 2 0 ∷ saw 15 3 0 ∷ saw 1 4 0 ∷ []) 5).x 1 same
    ∷ row "X of one among five, its port" (take 1 (order_of (bad 2 0 ∷ torn 2 1 0 true ∷ saw 3 2 0 ∷ []) 3).ports) (2 ∷ []) same
    ∷ row "64 places" (length (order_of (saw 3 0 0 ∷ []) 1).ports) 64 same
    ∷ [])

abbrev wrote : (epoch : Epoch) (sq : ℕ) (s : List ℕ) → ℕ
wrote epoch sq s = writing_number (write_fixed_answer epoch sq s)

abbrev read : List ℕ → ℕ
read s = reading_number (read_fixed_answer s)

fixed_packets : Pinned
unfolding all_open
fixed_packets =
    pins "A fixed group's packet has its number and its epoch alone, and no CRC: epoch 147 with SQ 180 has B4 at MFI1 14 and 15, 93 at MFI1 0 and 1; and epoch 255 with SQ 255 (request 2026-12)"
    (row "epoch 147 with SQ 180" (write_fixed_bytes 147 180 (nines 16)) (0x08 ∷ 0x09 ∷ 0x0A ∷ 0x0B ∷ 0x0C ∷ 0x0D ∷ 0xBE ∷ 0x4F ∷ 0x90 ∷ 0x31 ∷ 0x02 ∷ 0x03 ∷ 0x04 ∷ 0x05 ∷ 0x06 ∷ 0x07 ∷ []) same
    ∷ row "epoch 255 with SQ 255" (write_fixed_bytes 255 255 (nines 16)) (0x08 ∷ 0x09 ∷ 0x0A ∷ 0x0B ∷ 0x0C ∷ 0x0D ∷ 0xFE ∷ 0xFF ∷ 0xF0 ∷ 0xF1 ∷ 0x02 ∷ 0x03 ∷ 0x04 ∷ 0x05 ∷ 0x06 ∷ 0x07 ∷ []) same
    ∷ row "epoch 256 leaves the bytes" (write_fixed_bytes 256 180 (nines 16)) (nines 16) same
    ∷ row "SQ 256 leaves them" (write_fixed_bytes 147 256 (nines 16)) (nines 16) same
    ∷ row "fifteen bytes stay" (write_fixed_bytes 147 180 (nines 15)) (nines 15) same
    ∷ row "seventeen stay" (write_fixed_bytes 147 180 (nines 17)) (nines 17) same
    ∷ row "the largest is answered 0" (wrote 255 255 (nines 16)) 0 same
    ∷ row "epoch 256 is 8" (wrote 256 255 (nines 16)) 8 same
    ∷ row "SQ 256 is 8" (wrote 255 256 (nines 16)) 8 same
    ∷ row "seventeen bytes are 9, before 8" (wrote 256 255 (nines 17)) 9 same
    ∷ row "fifteen are 9" (wrote 255 255 (nines 15)) 9 same
    ∷ row "the word 0" (read (replicate 16 0x0F)) 0 same
    ∷ row "the word 1" (read (replicate 16 0x1F)) 6 same
    ∷ row "the word 8" (read (replicate 16 0x8F)) 6 same
    ∷ row "the word 15" (read (replicate 16 0xFF)) 6 same
    ∷ row "fifteen bytes read are 9" (read (replicate 15 0x0F)) 9 same
    ∷ row "seventeen are 9" (read (replicate 17 0x0F)) 9 same
    ∷ row "nibbles count by their low four bits" (reading_number (read_fixed_nibbles (replicate 16 16))) 0 same
    ∷ row "the nibble 15 is no word 0" (reading_number (read_fixed_nibbles (replicate 16 15))) 6 same
    ∷ [])
