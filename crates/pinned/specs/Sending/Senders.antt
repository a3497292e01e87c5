-- The sender's table (01, 'The sender's table', 'Taking effect'), clause by clause: waits, RS-Ack, numbers, what commands answer, epochs and ranks, and the words of demand 2. A table is shown by word and number of each slot, then the wait.
use Rattle.std.specs.Prelude.{true, false, List, [], ◌∷◌, ◌++◌, ℕ, get_or, length, replicate, take}
use Rattle.ground.specs.Table.{tabulate}
use Rattle.payload.specs.Order.{member_byte}
use Rattle.payload.specs.Spreading.{spread_one}
use Rattle.sender.specs.Board.{board_of, no_row}
use Rattle.sender.specs.Calls.{Call, outcome_of}
use Rattle.sender.specs.Calls.Call.{AddSlot, Lapse, RemoveSlot, Report}
use Rattle.sender.specs.Epochs.{begin_of, packet_fields, ranks_of, sender_run}
use Rattle.sender.specs.Epochs.SenderCall.{OnTable, StartEpoch}
use Rattle.sender.specs.declared.ranks.Ranks.{Ranks}
use Rattle.sender.specs.Numbering.{is_placed, members, number_in, placed, sends, slots_in, state_in}
use Rattle.sender.specs.declared.table.State.TheVariants.{Active, Add, Dnu, Idle}
use Rattle.sender.specs.declared.table.Table.{Table}
use Rattle.sender.specs.Shown.{after, shown}
use Rattle.sender.specs.Table.{answer_number}
use Rattle.pinned.specs.Opened.{all_open}
use Rattle.tables.specs.Rows.{Pinned, pins, row, same}

abbrev active : ℕ → List Call
active slot = AddSlot slot ∷ Report 0 0x00 0 ∷ Lapse ∷ []

abbrev two : List Call
two = active 0 ++ active 1

opens : Pinned
unfolding all_open
opens =
    pins "An ADD member that is reported FAIL stays ADD, and no wait opens; with one of two reported OK it does. Epoch 16 speaks of numbers from 128 on, epoch 32 of 0 to 7 again (01, 'The sender's table', 'Taking effect')."
    (row "reported FAIL" (shown (after 1 (AddSlot 0 ∷ Report 0 0xFF 0 ∷ []))) (1 ∷ 0 ∷ 0 ∷ []) same
    ∷ row "one of two reported OK" (shown (after 2 (AddSlot 0 ∷ AddSlot 1 ∷ Report 0 0x7F 0 ∷ []))) (3 ∷ 0 ∷ 1 ∷ 1 ∷ 1 ∷ []) same
    ∷ row "epoch 16 speaks of others" (shown (after 1 (AddSlot 0 ∷ Report 16 0x00 0 ∷ []))) (1 ∷ 0 ∷ 0 ∷ []) same
    ∷ row "epoch 32 speaks of it" (shown (after 1 (AddSlot 0 ∷ Report 32 0x00 0 ∷ []))) (3 ∷ 0 ∷ 1 ∷ []) same
    ∷ [])

closes : Pinned
unfolding all_open
closes =
    pins "A wait closes where RS-Ack goes from 1 to 0 too, and 0 is remembered: at the next wait another 0 leaves it open. With no wait open the lowest bit of 3 is remembered, which is 1 (01, 'The sender's table', 'Taking effect')."
    (row "from 1 to 0" (shown (after 2 (two ++ (Report 0 0x00 1 ∷ RemoveSlot 1 ∷ Report 0 0x00 0 ∷ [])))) (3 ∷ 0 ∷ 5 ∷ 255 ∷ 0 ∷ []) same
    ∷ row "another 0 leaves the next wait open" (shown (after 3 (two ++ (active 2 ++ (Report 0 0x00 1 ∷ RemoveSlot 2 ∷ Report 0 0x00 0 ∷ RemoveSlot 1 ∷ Report 0 0x00 0 ∷ []))))) (3 ∷ 0 ∷ 5 ∷ 255 ∷ 5 ∷ 255 ∷ 1 ∷ []) same
    ∷ row "3 is remembered as 1" (shown (after 2 (two ++ (Report 0 0x00 3 ∷ RemoveSlot 1 ∷ Report 0 0x00 1 ∷ [])))) (3 ∷ 0 ∷ 5 ∷ 255 ∷ 1 ∷ []) same
    ∷ row "3 is remembered as 1, and 2 closes it" (shown (after 2 (two ++ (Report 0 0x00 3 ∷ RemoveSlot 1 ∷ Report 0 0x00 2 ∷ [])))) (3 ∷ 0 ∷ 5 ∷ 255 ∷ 0 ∷ []) same
    ∷ [])

falls : Pinned
unfolding all_open
falls =
    pins "Only numbers above the one that is freed fall (01, 'The sender's table', 'Taking effect')."
    (row "the highest removed" (shown (after 3 (two ++ (active 2 ++ (RemoveSlot 2 ∷ []))))) (2 ∷ 0 ∷ 3 ∷ 1 ∷ 5 ∷ 255 ∷ 1 ∷ []) same
    ∷ [])

commands : Pinned
unfolding all_open
commands =
    pins "'Add, from IDLE', 'Remove, from ADD, active or DNU', of the slot that is named: slot 0 active, slot 1 IDLE, and the other way round; there is no slot 2 (01, 'The sender's table', 'Taking effect')"
    (row "add of an active slot" (answer_number (outcome_of (after 2 (active 0)) (AddSlot 0)).answer) 2 same
    ∷ row "add of an IDLE one" (answer_number (outcome_of (after 2 (active 0)) (AddSlot 1)).answer) 0 same
    ∷ row "removal of an active one" (answer_number (outcome_of (after 2 (active 0)) (RemoveSlot 0)).answer) 0 same
    ∷ row "removal of an IDLE one" (answer_number (outcome_of (after 2 (active 0)) (RemoveSlot 1)).answer) 2 same
    ∷ row "add of active slot 1" (answer_number (outcome_of (after 2 (active 1)) (AddSlot 1)).answer) 2 same
    ∷ row "removal of active slot 1" (answer_number (outcome_of (after 2 (active 1)) (RemoveSlot 1)).answer) 0 same
    ∷ row "removal of IDLE slot 0" (answer_number (outcome_of (after 2 (active 1)) (RemoveSlot 0)).answer) 2 same
    ∷ row "removal of slot 2" (answer_number (outcome_of (after 2 (active 0)) (RemoveSlot 2)).answer) 1 same
    ∷ row "add of slot 2" (answer_number (outcome_of (after 2 (active 1)) (AddSlot 2)).answer) 1 same
    ∷ [])

-- three slots whose first epoch is 255, slots 1 and 2 active from before its start, after n starts of an epoch
abbrev ranked : ℕ → Ranks
ranked n = ranks_of (sender_run (begin_of 0 3 255).sender (OnTable (AddSlot 1) ∷ OnTable (AddSlot 2) ∷ OnTable (Report 0 0x00 0) ∷ replicate n (StartEpoch 0 0 0)))

epochs_begun : Pinned
unfolding all_open
epochs_begun =
    pins "Before the first start no epoch has begun; then 255, and 0 behind it, ruled by the packets of 255. A command leaves what the start of the epoch fixed (01, 'The sender's table', 'Taking effect')."
    (row "no epoch before the first start" (ranked 0).begun false same
    ∷ row "the one to come is 255" (ranked 0).epoch 255 same
    ∷ row "X is 0" (ranked 0).x 0 same
    ∷ row "one has begun" (ranked 1).begun true same
    ∷ row "the first is 255" (ranked 1).epoch 255 same
    ∷ row "the first has X 0" (ranked 1).x 0 same
    ∷ row "0 comes behind it" (ranked 2).epoch 0 same
    ∷ row "with X 2" (ranked 2).x 2 same
    ∷ row "of three slots" (ranked 2).count 3 same
    ∷ row "ranks of the three slots" (take 4 (ranked 2).ranks) (255 ∷ 0 ∷ 1 ∷ 255 ∷ []) same
    ∷ row "64 places" (length (ranked 2).ranks) 64 same
    ∷ row "GID 0 in packets" (packet_fields (sender_run (begin_of 0 3 255).sender (StartEpoch 0 0x5A 1 ∷ OnTable (AddSlot 0) ∷ [])) 0).gid 0 same
    ∷ row "GID 1" (packet_fields (sender_run (begin_of 0 3 255).sender (StartEpoch 1 0x5A 1 ∷ OnTable (AddSlot 0) ∷ [])) 0).gid 1 same
    ∷ row "RS-Ack 1" (packet_fields (sender_run (begin_of 0 3 255).sender (StartEpoch 1 0x5A 1 ∷ OnTable (AddSlot 0) ∷ [])) 0).rs_ack 1 same
    ∷ row "RS-Ack 0" (packet_fields (sender_run (begin_of 0 3 255).sender (StartEpoch 1 0x5A 0 ∷ OnTable (AddSlot 0) ∷ [])) 0).rs_ack 0 same
    ∷ [])

-- slots 0 and 2 active, slot 1 DNU, slot 3 added and slot 4 IDLE
abbrev all_states : Table
all_states = after 5 (two ++ (active 2 ++ (Report 0 0x40 0 ∷ AddSlot 3 ∷ [])))

demand2_words : Pinned
unfolding all_open
demand2_words =
    pins "The words of demand 2: who is placed, how many are and how many members there are, what each slot sends, its state and its number. Past the last slot a board has IDLE with 255 (01, 'The sender's table', 'Taking effect')."
    (row "who is placed" (tabulate 5 (λ i. is_placed (state_in all_states i))) (true ∷ true ∷ true ∷ false ∷ false ∷ []) same
    ∷ row "how many are placed" (tabulate 6 (placed (state_in all_states))) (0 ∷ 1 ∷ 2 ∷ 3 ∷ 3 ∷ 3 ∷ []) same
    ∷ row "how many members there are" (tabulate 6 (members (state_in all_states))) (0 ∷ 1 ∷ 2 ∷ 3 ∷ 4 ∷ 4 ∷ []) same
    ∷ row "what each sends" (tabulate 5 (sends all_states)) (2 ∷ 15 ∷ 3 ∷ 1 ∷ 5 ∷ []) same
    ∷ row "each state" (tabulate 5 (state_in all_states)) (Active ∷ Dnu ∷ Active ∷ Add ∷ Idle ∷ []) same
    ∷ row "each number" (tabulate 5 (number_in all_states)) (0 ∷ 1 ∷ 2 ∷ 3 ∷ 255 ∷ []) same
    ∷ row "how many slots" (slots_in all_states) 5 same
    ∷ row "past the last slot, its word" (get_or (board_of all_states).rows 5 (no_row 0)).word.0 5 same
    ∷ row "past the last slot, its number" (get_or (board_of all_states).rows 5 (no_row 0)).number 255 same
    ∷ row "a board has 64 rows" (length (board_of all_states).rows) 64 same
    ∷ row "a table has 64 slots" (length all_states.slots) 64 same
    ∷ row "the last of 64 slots is ADD" (state_in (after 64 (AddSlot 63 ∷ [])) 63) Add same
    ∷ row "the last of 64 slots is ADD, its number is 0" (number_in (after 64 (AddSlot 63 ∷ [])) 63) 0 same
    ∷ row "64 slots" (slots_in (after 64 [])) 64 same
    ∷ row "65 slots are none" (slots_in (after 65 [])) 0 same
    ∷ [])

no_rank_lem : Pinned
no_rank_lem =
    pins "A slot with no rank carries zeros, however long the client's frame is: rank 255 would be within it here (01, 'The sender's table', 'Taking effect')."
    (row "rank 255" (spread_one 1 256 255 (replicate 256 7) (replicate 256 9)) (replicate 256 0) same
    ∷ row "rank 0" (spread_one 1 256 0 (replicate 256 7) (replicate 256 9)) (replicate 256 7) same
    ∷ row "rank 2 of two has no byte" (member_byte 2 (1 ∷ 2 ∷ 3 ∷ 4 ∷ []) 2 0) 0 same
    ∷ row "rank 1 of two has its own" (member_byte 2 (1 ∷ 2 ∷ 3 ∷ 4 ∷ []) 1 1) 4 same
    ∷ [])
