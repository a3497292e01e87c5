-- Two circuits on one card (request 2026-06) and work orders (request 2026-07), call by call: three slots, group 0 from epoch 7 on, group 1 from epoch 9 on.
use Rattle.std.specs.Prelude.{true, false, [], ◌∷◌, ◌++◌, ℕ, get_or, replicate, take}
use Rattle.cards.specs.Answers.{answer_number}
use Rattle.cards.specs.Calls.{Call, outcome_of}
use Rattle.cards.specs.Calls.Call.{AddSlot, Claim, Lapse, Release, RemoveSlot, Report, StartEpoch}
use Rattle.cards.specs.Commands.{start_of}
use Rattle.cards.specs.Answers.{Answer as A}
use Rattle.cards.specs.declared.card.Card.{Card}
use Rattle.cards.specs.Owners.{has_owner, is_marked, with_owner}
use Rattle.cards.specs.Readings.{board_shown, outgoing_shown, owned_shown, packet_answer, packet_bytes, payload_answer, payload_bytes, ranks_shown}
use Rattle.cards.specs.Shown.{after, by}
use Rattle.cards.specs.Views.{Asked, Made, asked_by, bits_of, reply_to, run}
use Rattle.cards.specs.Views.Asked.{Board, Do, Outgoing, Owned, Packet, Payload, Ranks}
use Rattle.cards.specs.Views.Reply.{Answered, Owns, Ranked, Showed, Wrote}
use Rattle.pinned.specs.Filled.{nines}
use Rattle.orders.specs.Orders.{answers_of, first_answers, first_ordered, ordered_of}
use Rattle.orders.specs.Shown.{add, claim, release, remove}
use Rattle.orders.specs.Singles.{answers_to, commands_of, single_numbers}
use Rattle.sender.specs.declared.board.Row.{Row}
use Rattle.sender.specs.Epochs.{begin_of}
use Rattle.pinned.specs.Opened.{all_open}
use Rattle.tables.specs.Rows.{Pinned, pins, row, same}

abbrev fresh : Card
fresh = (start_of 0 3 7 9).card

-- slot 0 is group 0's, slot 1 group 1's, slot 2 nobody's
abbrev claimed : Card
claimed = run fresh (by 0 (Claim 0) ∷ by 1 (Claim 1) ∷ [])

-- three slots for group 0 and five for group 1, which no call leaves
abbrev unlike : Card
unlike = record { owners = replicate 64 0; first = (begin_of 0 3 7).sender; second = (begin_of 0 5 9).sender }

abbrev told : (c : Card) (group : ℕ) (k : Call) → ℕ
told c g k = answer_number (outcome_of c g k).answer

answers : Pinned
unfolding all_open
answers =
    pins "1 for the group or the slot, then 14, then 15, then the sender's own numbers (request 2026-06)."
    (row "a claim of slot 3 of three" (told fresh 0 (Claim 3)) 1 same
    ∷ row "a claim by group 2" (told fresh 2 (Claim 2)) 1 same
    ∷ row "a free slot is claimed" (told fresh 0 (Claim 2)) 0 same
    ∷ row "one of the other group's" (told claimed 1 (Claim 0)) 14 same
    ∷ row "one of its own" (told claimed 0 (Claim 0)) 14 same
    ∷ row "an add of the other group's slot" (told claimed 0 (AddSlot 1)) 14 same
    ∷ row "an add of nobody's slot" (told claimed 0 (AddSlot 2)) 14 same
    ∷ row "an add of slot 3" (told claimed 0 (AddSlot 3)) 1 same
    ∷ row "an add by group 2" (told claimed 2 (AddSlot 0)) 1 same
    ∷ row "a removal of the other group's slot" (told claimed 1 (RemoveSlot 0)) 14 same
    ∷ row "a removal of its own, which is IDLE" (told claimed 0 (RemoveSlot 0)) 2 same
    ∷ row "a release of the other group's" (told claimed 1 (Release 0)) 14 same
    ∷ row "a release of nobody's" (told claimed 1 (Release 2)) 14 same
    ∷ row "a release of slot 3" (told claimed 1 (Release 3)) 1 same
    ∷ row "a release by group 2" (told claimed 2 (Release 1)) 1 same
    ∷ row "a release of its own" (told claimed 1 (Release 1)) 0 same
    ∷ row "a release of its own that is ADD" (told (run claimed (by 1 (AddSlot 1) ∷ [])) 1 (Release 1)) 15 same
    ∷ row "a release of one that is IDLE beside it" (told (run claimed (by 1 (AddSlot 1) ∷ [])) 0 (Release 0)) 0 same
    ∷ row "a report of group 2" (told claimed 2 (Report 0 0 0)) 1 same
    ∷ row "a lapse of group 2" (told claimed 2 Lapse) 1 same
    ∷ row "a start of group 2" (told claimed 2 (StartEpoch 0 0 0)) 1 same
    ∷ row "a start of group 1" (told claimed 1 (StartEpoch 0 0 0)) 0 same
    ∷ row "GID 2 in a start" (told claimed 1 (StartEpoch 2 0 0)) 8 same
    ∷ row "RS-Ack 2 in a start" (told claimed 1 (StartEpoch 0 0 2)) 8 same
    ∷ row "group 1's slot 4 of five" (told unlike 1 (Claim 4)) 0 same
    ∷ row "group 0's slot 4 of three" (told unlike 0 (Claim 4)) 1 same
    ∷ [])

starts : Pinned
unfolding all_open
starts =
    pins "A start out of range is 4 and leaves both groups empty; else each group begins with its own epoch, and nobody owns a slot (request 2026-06)."
    (row "65 slots" (answer_number (start_of 0 65 7 9).answer) 4 same
    ∷ row "group 0 is empty then" (start_of 0 65 7 9).card.first.table.count 0 same
    ∷ row "group 1 is empty then" (start_of 0 65 7 9).card.second.table.count 0 same
    ∷ row "64 slots" (answer_number (start_of 0 64 7 9).answer) 0 same
    ∷ row "nobody owns one" (start_of 0 64 7 9).card.owners (replicate 64 0) same
    ∷ row "group 0's first epoch" (start_of 0 64 7 9).card.first.epoch 7 same
    ∷ row "group 1's first epoch" (start_of 0 64 7 9).card.second.epoch 9 same
    ∷ row "group 0's kind" (start_of 1 64 7 9).card.first.table.kind 1 same
    ∷ row "group 1's kind" (start_of 1 64 7 9).card.second.table.kind 1 same
    ∷ [])

owners : Pinned
unfolding all_open
owners =
    pins "An owner's byte: 0 nobody, 1 group 0, 2 group 1, any other byte nobody (request 2026-06)."
    (row "0 is no owner" (has_owner (0 ∷ 1 ∷ 2 ∷ 3 ∷ []) 0) false same
    ∷ row "1 is one" (has_owner (0 ∷ 1 ∷ 2 ∷ 3 ∷ []) 1) true same
    ∷ row "2 is one" (has_owner (0 ∷ 1 ∷ 2 ∷ 3 ∷ []) 2) true same
    ∷ row "3 is none" (has_owner (0 ∷ 1 ∷ 2 ∷ 3 ∷ []) 3) false same
    ∷ row "group 0 has what is marked 1" (is_marked (0 ∷ 1 ∷ 2 ∷ 3 ∷ []) 0 1) true same
    ∷ row "group 1 has what is marked 2" (is_marked (0 ∷ 1 ∷ 2 ∷ 3 ∷ []) 1 2) true same
    ∷ row "group 1 has not what is marked 1" (is_marked (0 ∷ 1 ∷ 2 ∷ 3 ∷ []) 1 1) false same
    ∷ row "slot 63 is marked" (with_owner (replicate 64 1) 63 2) (replicate 63 1 ++ (2 ∷ [])) same
    ∷ row "after claims by both groups" claimed.owners (1 ∷ 2 ∷ replicate 62 0) same
    ∷ row "after a release" (run claimed (by 1 (Release 1) ∷ [])).owners (1 ∷ replicate 63 0) same
    ∷ row "what group 0 owns" (owned_shown claimed 0).owned (1 ∷ replicate 63 0) same
    ∷ row "what group 1 owns" (owned_shown claimed 1).owned (0 ∷ 1 ∷ replicate 62 0) same
    ∷ row "what group 2 owns" (owned_shown claimed 2).owned (replicate 64 0) same
    ∷ [])

-- group 0's slot 0 is active and in its second epoch, 8; group 1's slot 1 is ADD and in its first, 9
abbrev sending : Card
sending =
    run claimed
    (by 0 (AddSlot 0) ∷ by 1 (AddSlot 1) ∷ by 0 (Report 0 0x00 0) ∷ by 0 (StartEpoch 1 0xA5 1) ∷ by 1 (StartEpoch 0 0x3C 0) ∷ by 0 (StartEpoch 0 0xFF 0) ∷ [])

-- slot 1 is group 0's, slot 2 group 1's and ADD, in its first epoch, 9
abbrev other : Card
other = run fresh (by 0 (Claim 1) ∷ by 1 (Claim 2) ∷ by 1 (AddSlot 2) ∷ by 1 (StartEpoch 0 0x3C 0) ∷ [])

abbrev no_row : Row
no_row = record { word = record { 0 = 0 }; number = 99 }

abbrev number : (group slot n : ℕ) → ℕ
number g i n = answer_number (packet_answer sending g i (nines n))

packets : Pinned
unfolding all_open
packets =
    pins "A packet is of the group that owns the slot, in its own epoch: EOS 0 of group 0 in epoch 8 with GID 0, MST FF and RS-Ack 0, CRC EC; ADD 0 of group 1 in epoch 9 with MST 3C, CRC 80 (request 2026-06)."
    (row "group 0's slot 0" (packet_bytes sending 0 0 (nines 16)) (0xF8 ∷ 0xF9 ∷ 0x0A ∷ 0x0B ∷ 0x0C ∷ 0x0D ∷ 0x0E ∷ 0x0F ∷ 0x00 ∷ 0x81 ∷ 0x32 ∷ 0x03 ∷ 0x04 ∷ 0x05 ∷ 0xE6 ∷ 0xC7 ∷ []) same
    ∷ row "group 1's slot 1" (packet_bytes sending 1 1 (nines 16)) (0x38 ∷ 0xC9 ∷ 0x0A ∷ 0x0B ∷ 0x0C ∷ 0x0D ∷ 0x0E ∷ 0x0F ∷ 0x00 ∷ 0x91 ∷ 0x12 ∷ 0x03 ∷ 0x04 ∷ 0x05 ∷ 0x86 ∷ 0x07 ∷ []) same
    ∷ row "the other group's slot leaves the bytes" (packet_bytes sending 0 1 (nines 16)) (nines 16) same
    ∷ row "slot 3 leaves the bytes" (packet_bytes sending 0 3 (nines 16)) (nines 16) same
    ∷ row "group 2 leaves the bytes" (packet_bytes sending 2 1 (nines 16)) (nines 16) same
    ∷ row "group 0's slot is answered 0" (number 0 0 16) 0 same
    ∷ row "group 1's slot is answered 0" (number 1 1 16) 0 same
    ∷ row "group 1's slot to group 0 is 14" (number 0 1 16) 14 same
    ∷ row "group 0's slot to group 1 is 14" (number 1 0 16) 14 same
    ∷ row "nobody's slot is 14" (number 0 2 16) 14 same
    ∷ row "slot 3 is 1" (number 0 3 16) 1 same
    ∷ row "group 2 is 1" (number 2 0 16) 1 same
    ∷ row "fifteen bytes lent are 9" (number 0 0 15) 9 same
    ∷ row "before the first epoch it is 2" (answer_number (packet_answer claimed 0 0 (nines 16))) 2 same
    ∷ row "the same member on another slot" (packet_bytes other 1 2 (nines 16)) (packet_bytes sending 1 1 (nines 16)) same
    ∷ row "what the other group owns leaves the bytes" (packet_bytes other 1 1 (nines 16)) (nines 16) same
    ∷ row "another slot is answered 0" (answer_number (packet_answer other 1 2 (nines 16))) 0 same
    ∷ row "another slot to the other group is 14" (answer_number (packet_answer other 0 2 (nines 16))) 14 same
    ∷ [])

replies : Pinned
unfolding all_open
replies =
    pins "What each call gives back: its answer, and what it writes or shows (request 2026-06)."
    (row "a claim of what is owned" (reply_to claimed 1 (Do (Claim 0))) (Answered A.Owned) same
    ∷ row "a packet into fifteen bytes" (reply_to claimed 1 (Packet 1 (replicate 15 9))) (Wrote A.Length (replicate 15 9)) same
    ∷ row "a packet of the other group's slot" (reply_to claimed 1 (Packet 0 (replicate 16 9))) (Wrote A.Owned (replicate 16 9)) same
    ∷ row "a packet of slot 3" (reply_to claimed 0 (Packet 3 (replicate 16 9))) (Wrote A.NoSlot (replicate 16 9)) same
    ∷ row "a payload with a P of 2,341" (reply_to claimed 1 (Payload 1 2341 (9 ∷ []) (8 ∷ []))) (Wrote A.OutOfRange (8 ∷ [])) same
    ∷ row "a payload with a frame of another length" (reply_to claimed 1 (Payload 1 2 (9 ∷ []) (8 ∷ 8 ∷ []))) (Wrote A.Length (8 ∷ 8 ∷ [])) same
    ∷ row "group 0's board" (reply_to claimed 0 Board) (Showed (board_shown claimed 0)) same
    ∷ row "group 1's board" (reply_to claimed 1 Board) (Showed (board_shown claimed 1)) same
    ∷ row "the board going out" (reply_to claimed 1 Outgoing) (Showed (outgoing_shown claimed 1)) same
    ∷ row "ranks" (reply_to claimed 1 Ranks) (Ranked (ranks_shown claimed 1)) same
    ∷ row "what group 0 owns" (reply_to claimed 0 Owned) (Owns (owned_shown claimed 0)) same
    ∷ row "what group 1 owns" (reply_to claimed 1 Owned) (Owns (owned_shown claimed 1)) same
    ∷ [])

-- slots 1 and 2 are group 0's and active, slot 1 under number 0 and slot 2 under 1
abbrev pair : Card
pair = run fresh (by 0 (Claim 1) ∷ by 0 (Claim 2) ∷ by 0 (AddSlot 1) ∷ by 0 (AddSlot 2) ∷ by 0 (Report 0 0x00 0) ∷ by 0 (StartEpoch 0 0xFF 0) ∷ by 0 (StartEpoch 0 0xFF 0) ∷ [])

payloads : Pinned
unfolding all_open
payloads =
    pins "Payload goes by the ranks of the group that owns the slot: X is 1 in group 0 and 0 in group 1, whose slot has no rank yet; with two members the bytes go by turns (request 2026-06)."
    (row "group 0's only member" (payload_bytes sending 0 0 2 (10 ∷ 11 ∷ []) (nines 2)) (10 ∷ 11 ∷ []) same
    ∷ row "a slot with no rank carries zeros" (payload_bytes sending 1 1 2 [] (nines 2)) (0 ∷ 0 ∷ []) same
    ∷ row "the first of two members" (payload_bytes pair 0 1 2 (10 ∷ 11 ∷ 12 ∷ 13 ∷ []) (nines 2)) (10 ∷ 12 ∷ []) same
    ∷ row "the second of two members" (payload_bytes pair 0 2 2 (10 ∷ 11 ∷ 12 ∷ 13 ∷ []) (nines 2)) (11 ∷ 13 ∷ []) same
    ∷ row "group 0's slot to group 1 leaves the bytes" (payload_bytes sending 1 0 2 (10 ∷ 11 ∷ []) (nines 2)) (nines 2) same
    ∷ row "slot 3 leaves the bytes" (payload_bytes sending 0 3 2 (10 ∷ 11 ∷ []) (nines 2)) (nines 2) same
    ∷ row "group 2 leaves the bytes" (payload_bytes sending 2 1 2 (10 ∷ 11 ∷ []) (nines 2)) (nines 2) same
    ∷ row "group 0's only member is answered 0" (answer_number (payload_answer sending 0 0 2 2 2)) 0 same
    ∷ row "a frame of three bytes is 9" (answer_number (payload_answer sending 0 0 2 3 2)) 9 same
    ∷ row "three bytes lent are 9" (answer_number (payload_answer sending 0 0 2 2 3)) 9 same
    ∷ row "a P of 2,341 is 4" (answer_number (payload_answer sending 0 0 2341 2 2)) 4 same
    ∷ row "the other group's slot is 14" (answer_number (payload_answer sending 1 0 2 2 2)) 14 same
    ∷ row "nobody's slot is 14" (answer_number (payload_answer sending 0 2 2 2 2)) 14 same
    ∷ row "slot 3 is 1" (answer_number (payload_answer sending 0 3 2 2 2)) 1 same
    ∷ row "group 2 is 1" (answer_number (payload_answer sending 2 0 2 2 2)) 1 same
    ∷ row "before the first epoch it is 2" (answer_number (payload_answer claimed 0 0 2 0 2)) 2 same
    ∷ row "with no frame the other group's slot leaves the bytes" (payload_bytes sending 1 0 2 [] (nines 2)) (nines 2) same
    ∷ row "with no frame slot 3 does" (payload_bytes sending 1 3 2 [] (nines 2)) (nines 2) same
    ∷ row "with no frame group 2 does" (payload_bytes sending 2 1 2 [] (nines 2)) (nines 2) same
    ∷ row "a slot with no rank on another card" (payload_bytes other 1 2 2 [] (nines 2)) (0 ∷ 0 ∷ []) same
    ∷ row "the other group's there leaves the bytes" (payload_bytes other 0 2 2 [] (nines 2)) (nines 2) same
    ∷ row "another slot is answered 0" (answer_number (payload_answer other 1 2 2 0 2)) 0 same
    ∷ row "another slot to the other group is 14" (answer_number (payload_answer other 0 2 2 0 2)) 14 same
    ∷ [])

shown : Pinned
unfolding all_open
shown =
    pins "Boards and ranks are shown of each group by itself, as the sender shows them (request 2026-06)."
    (row "as many slots as the card has" (outgoing_shown sending 0).board.count 3 same
    ∷ row "group 0's epoch" (ranks_shown sending 0).ranks.epoch 8 same
    ∷ row "group 0's X" (ranks_shown sending 0).ranks.x 1 same
    ∷ row "group 0's ranks" (take 3 (ranks_shown sending 0).ranks.ranks) (0 ∷ 255 ∷ 255 ∷ []) same
    ∷ row "group 1's epoch" (ranks_shown sending 1).ranks.epoch 9 same
    ∷ row "group 1's X" (ranks_shown sending 1).ranks.x 0 same
    ∷ row "group 1's ranks are answered 0" (answer_number (ranks_shown sending 1).answer) 0 same
    ∷ row "group 2's board is answered 1" (answer_number (board_shown sending 2).answer) 1 same
    ∷ row "group 1's number going out" (get_or (outgoing_shown sending 1).board.rows 1 no_row).number 0 same
    ∷ row "group 1's number of an IDLE slot" (get_or (board_shown claimed 1).board.rows 1 no_row).number 255 same
    ∷ [])

abbrev asks : Asked → Made
asks k = record { group = 1; asked = k }

others : Pinned
unfolding all_open
others =
    pins "Of the other group a group learns one bit: on a claim, that the other owns the slot (request 2026-06)."
    (row "group 1's calls, of which one meets the other's slot" (bits_of 1 claimed (by 1 (Claim 0) ∷ by 1 (Claim 2) ∷ by 1 (Claim 1) ∷ by 1 (Release 0) ∷ by 0 (Claim 1) ∷ [])) (true ∷ false ∷ false ∷ false ∷ []) same
    ∷ row "group 0's" (bits_of 0 claimed (by 0 (Claim 1) ∷ by 0 (Claim 0) ∷ [])) (true ∷ false ∷ []) same
    ∷ row "group 1's calls among three" (asked_by 1 (by 1 (Claim 0) ∷ by 0 (Claim 1) ∷ by 1 Lapse ∷ [])) (Do (Claim 0) ∷ Do Lapse ∷ []) same
    ∷ row "group 1's on another card" (bits_of 1 other (by 1 (Claim 1) ∷ by 1 (Claim 2) ∷ [])) (true ∷ false ∷ []) same
    ∷ row "group 0's on another card" (bits_of 0 other (by 0 (Claim 2) ∷ by 0 (Claim 1) ∷ [])) (true ∷ false ∷ []) same
    ∷ row "no other call has the bit set" (bits_of 1 claimed (by 1 (AddSlot 0) ∷ by 1 (RemoveSlot 0) ∷ by 1 (Report 0 0 0) ∷ by 1 Lapse ∷ by 1 (StartEpoch 0 0 0) ∷ asks (Packet 0 []) ∷ asks (Payload 0 1 [] []) ∷ asks Board ∷ asks Outgoing ∷ asks Ranks ∷ asks Owned ∷ [])) (replicate 11 false) same
    ∷ [])

orders : Pinned
unfolding all_open
orders =
    pins "An order is the first n commands of at most 64, each as if it came alone; 65, or a list of another length, are 9, and nothing is done (request 2026-07)."
    (row "the first of two" (answer_number (first_ordered fresh (claim 0 0 ∷ add 0 0 ∷ []) 1 1).answer) 0 same
    ∷ row "the first of two, and only the first" (first_ordered fresh (claim 0 0 ∷ claim 0 1 ∷ []) 1 1).card.owners (1 ∷ replicate 63 0) same
    ∷ row "two of one are 9" (answer_number (first_ordered fresh (claim 0 0 ∷ add 0 0 ∷ []) 1 2).answer) 9 same
    ∷ row "65 are 9" (answer_number (first_ordered fresh (replicate 65 (claim 0 0)) 65 65).answer) 9 same
    ∷ row "65 are 9, and nobody owns a slot" (first_ordered fresh (replicate 65 (claim 0 0)) 65 65).card.owners (replicate 64 0) same
    ∷ row "64 are taken" (answer_number (first_ordered fresh (replicate 65 (claim 0 0)) 64 64).answer) 0 same
    ∷ row "65 answers lent stay" (first_answers fresh (claim 0 0 ∷ []) 65 (7 ∷ [])) (7 ∷ []) same
    ∷ row "group 1 in an order" (first_ordered fresh (claim 1 1 ∷ []) 1 1).card.owners (0 ∷ 2 ∷ replicate 62 0) same
    ∷ row "three turns of three" (answers_of fresh (claim 0 0 ∷ claim 1 1 ∷ claim 0 2 ∷ []) (9 ∷ 9 ∷ 9 ∷ [])) (0 ∷ 0 ∷ 0 ∷ []) same
    ∷ row "none of three where two are lent" (answers_of fresh (claim 0 0 ∷ claim 1 1 ∷ claim 0 2 ∷ []) (9 ∷ 9 ∷ [])) (9 ∷ 9 ∷ []) same
    ∷ row "the answer after all turns" (ordered_of fresh (claim 0 0 ∷ claim 1 1 ∷ claim 0 2 ∷ []) 3).answer A.Done same
    ∷ row "the answer where two are lent" (ordered_of fresh (claim 0 0 ∷ claim 1 1 ∷ claim 0 2 ∷ []) 2).answer A.Length same
    ∷ row "each answered as if alone" (single_numbers fresh (claim 0 0 ∷ add 0 0 ∷ release 0 0 ∷ remove 1 0 ∷ [])) (0 ∷ 0 ∷ 15 ∷ 14 ∷ []) same
    ∷ row "group 1's commands among three" (commands_of 1 (claim 0 0 ∷ claim 1 1 ∷ claim 0 2 ∷ [])) (claim 1 1 ∷ []) same
    ∷ row "group 1's commands among three, their answers" (answers_to 1 (claim 0 0 ∷ claim 1 1 ∷ claim 0 2 ∷ []) (4 ∷ 5 ∷ 6 ∷ [])) (5 ∷ []) same
    ∷ row "none of two where three are lent" (answers_of fresh (claim 0 0 ∷ claim 1 1 ∷ []) (9 ∷ 9 ∷ 9 ∷ [])) (9 ∷ 9 ∷ 9 ∷ []) same
    ∷ row "the answer there" (ordered_of fresh (claim 0 0 ∷ claim 1 1 ∷ []) 3).answer A.Length same
    ∷ row "a slot that changes hands in one order" (single_numbers fresh (claim 0 2 ∷ add 0 2 ∷ remove 0 2 ∷ release 0 2 ∷ claim 1 2 ∷ [])) (0 ∷ 0 ∷ 0 ∷ 0 ∷ 0 ∷ []) same
    ∷ row "group 1's commands among two" (commands_of 1 (claim 0 1 ∷ claim 1 0 ∷ [])) (claim 1 0 ∷ []) same
    ∷ row "group 1's commands among two, their answers" (answers_to 1 (claim 0 1 ∷ claim 1 0 ∷ []) (4 ∷ 5 ∷ [])) (5 ∷ []) same
    ∷ row "64 answers" (first_answers fresh (replicate 64 (claim 0 3)) 64 (replicate 64 7)) (replicate 64 1) same
    ∷ [])

-- two slots, of which group 1 has the second and adds it
abbrev adding : Card
adding = after 2 (by 1 (Claim 1) ∷ by 1 (AddSlot 1) ∷ [])

two_groups : Pinned
unfolding all_open
two_groups =
    pins "There are two groups, each with its own epochs; any other is answered 1 and shown nothing (request 2026-06)"
    (row "each group begins with its own first epoch" (let c = (start_of 0 2 7 9).card in c.first.epoch ∷ c.second.epoch ∷ []) (7 ∷ 9 ∷ []) same
    ∷ row "a group other than the two is answered 1 and shown an empty board, no ranks and no slot, group 1 its two slots" (answer_number (board_shown adding 2).answer ∷ (board_shown adding 2).board.count ∷ answer_number (outgoing_shown adding 2).answer ∷ (outgoing_shown adding 2).board.count ∷ answer_number (ranks_shown adding 2).answer ∷ (ranks_shown adding 2).ranks.count ∷ answer_number (owned_shown adding 2).answer ∷ take 2 (owned_shown adding 2).owned ++ (answer_number (board_shown adding 1).answer ∷ (board_shown adding 1).board.count ∷ take 2 (owned_shown adding 1).owned)) (1 ∷ 0 ∷ 1 ∷ 0 ∷ 1 ∷ 0 ∷ 1 ∷ 0 ∷ 0 ∷ 0 ∷ 2 ∷ 0 ∷ 1 ∷ []) same
    ∷ [])
