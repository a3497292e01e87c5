-- Wrong readings of 01 and of request 2026-08, each as a definition with a run on which it breaks what these say.
use Rattle.std.specs.Prelude.{◌≡◌, refl, true, List, [], ◌∷◌, ℕ, zero, suc, ◌/◌, get_or, replicate, set, if◌then◌else◌}
use Rattle.ground.specs.Table.{tabulate}
use Rattle.packet.specs.declared.layout.Fields.{Fields}
use Rattle.packet.specs.Kinds.{mst_fails, mst_first, mst_numbers}
use Rattle.packet.specs.Layout.{h4_of, nibbles_of}
use Rattle.packet.specs.Words.{ADD, EOS, NORM}
use Rattle.sender.specs.Epochs.{begin_of, on_table, packet_bytes, packet_fields, rank_in, sender_run, start_epoch_of, x_of}
use Rattle.sender.specs.declared.epochs.Sender.{Sender}
use Rattle.sender.specs.declared.table.Slot.{Slot}
use Rattle.sender.specs.declared.table.Table.{Table}
use Rattle.sender.specs.Calls.{Call}
use Rattle.sender.specs.Calls.Call.{AddSlot, Lapse, RemoveSlot, Report}
use Rattle.sender.specs.Commands.{with_slots}
use Rattle.sender.specs.Ranks.{carries, no_rank, rank_at, row_at}
use Rattle.sender.specs.Reports.{mst_applied, renumbered, becomes}
use Rattle.sender.specs.Shown.{after, shown}
use Rattle.sender.specs.Table.{slot_count, slot_at}
use Rattle.sender.specs.Opened.{sender_open}

-- Slip 3: 'Giving the two members of P8 their asked numbers, so EOS lands on 1 and 0 is unused.' Nothing is numbered anew.
wrong_numbers : Table → ℕ → ℕ → Table
wrong_numbers t e mst = with_slots t (mst_applied t.slots (slot_count t.count) (mst_first t.kind e) mst (mst_numbers t.kind)) true

numbers_break :
    (shown (wrong_numbers (after 2 (AddSlot 0 ∷ AddSlot 1 ∷ [])) 0 0xBF) ≡ ADD ∷ 0 ∷ EOS ∷ 1 ∷ 1 ∷ [])
    × (shown (after 2 (AddSlot 0 ∷ AddSlot 1 ∷ Report 0 0xBF 0 ∷ [])) ≡ ADD ∷ 1 ∷ EOS ∷ 0 ∷ 1 ∷ [])
unfolding sender_open wrong_numbers
numbers_break = (refl, refl)

-- Slip 4: 'Reading MST through numbers already moved by the same report.' Slot by slot, each by the number it has by then, and numbered anew at once.
wrong_reading : List Slot → ℕ → ℕ → ℕ → List Slot
wrong_reading slots n mst zero = slots
wrong_reading slots n mst (suc i) =
    let now = wrong_reading slots n mst i in
    let slot = slot_at now i in
    renumbered now (set now i (record { state = becomes (mst_fails mst slot.number) slot.state; number = slot.number })) n

-- Slot 0 asks under number 1, slot 1 under number 0; 1 is OK and 0 is FAIL. Once slot 0 has moved, slot 1 stands under 1 and takes its OK.
reading_breaks :
    (let t = after 2 (AddSlot 1 ∷ AddSlot 0 ∷ []) in shown (with_slots t (wrong_reading t.slots 2 0xBF 2) true) ≡ NORM ∷ 0 ∷ EOS ∷ 1 ∷ 1 ∷ [])
    × (shown (after 2 (AddSlot 1 ∷ AddSlot 0 ∷ Report 0 0xBF 0 ∷ [])) ≡ EOS ∷ 0 ∷ ADD ∷ 1 ∷ 1 ∷ [])
unfolding sender_open wrong_reading
reading_breaks = (refl, refl)

-- this epoch's X, then the rank of each of n slots
abbrev told : (rank : Sender → ℕ → ℕ) (count : ℕ) (s : Sender) → List ℕ
told rank n s = x_of s ∷ tabulate n (rank s)

-- two epochs started, with calls on the table before each
abbrev twice : List Call → List Call → Sender
twice first second =
    let one = (start_epoch_of (sender_run (begin_of 0 3 0).sender (on_table first)) 0 0xFF 0).sender in
    (start_epoch_of (sender_run one (on_table second)) 0 0xFF 0).sender

abbrev joined : ℕ → List Call → List Call
joined slot cs = AddSlot slot ∷ Report 0 0x00 0 ∷ Lapse ∷ cs

-- Slip 1: 'Ranking by number and not by place among active members, so a DNU member leaves a hole.' The payload of an epoch is ruled by DNU 0, NORM 1, EOS 2: rank 2 is not below X.
wrong_rank : Sender → ℕ → ℕ
wrong_rank s i = if carries (row_at s.ruling.rows i) then (row_at s.ruling.rows i).number else no_rank

rank_breaks :
    (told wrong_rank 3 (twice (joined 0 (joined 1 (joined 2 (Report 0 0x80 0 ∷ [])))) []) ≡ 2 ∷ 255 ∷ 1 ∷ 2 ∷ [])
    × (told rank_in 3 (twice (joined 0 (joined 1 (joined 2 (Report 0 0x80 0 ∷ [])))) []) ≡ 2 ∷ 255 ∷ 0 ∷ 1 ∷ [])
unfolding sender_open wrong_rank
rank_breaks = (refl, refl)

-- Slip 2: 'Using a new packet's numbers for its own epoch.' Three members carry by packets of the epoch before; the middle one is removed, which shows in this epoch's packets and rules the next.
wrong_epoch : Sender → ℕ → ℕ
wrong_epoch s i = rank_at s.outgoing.rows (slot_count s.outgoing.count) i

epoch_breaks :
    (told wrong_epoch 3 (twice (joined 0 (joined 1 (joined 2 []))) (RemoveSlot 1 ∷ [])) ≡ 3 ∷ 0 ∷ 255 ∷ 1 ∷ [])
    × (told rank_in 3 (twice (joined 0 (joined 1 (joined 2 []))) (RemoveSlot 1 ∷ [])) ≡ 3 ∷ 0 ∷ 1 ∷ 2 ∷ [])
unfolding sender_open wrong_epoch
epoch_breaks = (refl, refl)

-- The reserved bits kept by the sender from the last packet read. 'Our sender still writes zeros' (request 2026-08): of the byte of MFI1 3 the first three bits are 0.
wrong_packet : Fields → Sender → ℕ → List ℕ
wrong_packet read s i =
    let f = packet_fields s i in
    h4_of (nibbles_of (record { epoch = f.epoch; word = f.word; gid = f.gid; mst = f.mst; rs_ack = f.rs_ack; sq = f.sq; reserved = read.reserved }))

abbrev last_read : Fields
last_read = record { epoch = 5; word = record { 0 = NORM }; gid = 1; mst = 0xBF; rs_ack = 1; sq = 17; reserved = 1792 }

packet_breaks :
    (let s = twice (joined 0 []) [] in get_or (wrong_packet last_read s 0) 11 0 / 32 ≡ 7)
    × (let s = twice (joined 0 []) [] in get_or (packet_bytes s 0 (replicate 16 0)) 11 0 / 32 ≡ 0)
unfolding sender_open wrong_packet
packet_breaks = (refl, refl)
