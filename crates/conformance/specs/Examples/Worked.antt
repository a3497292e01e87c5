-- What 01's rules give where its own examples are silent, in one table under one statement. Each figure is worked out apart from the definitions, by a second reading of 01's words.
use Rattle.std.specs.Prelude.{true, false, List, [], ◌∷◌, ◌++◌, ℕ, get_or, length, replicate, take}
use Rattle.ground.specs.Table.{tabulate}
use Rattle.packet.specs.Kinds.{epochs}
use Rattle.rows.specs.Group.{group_at}
use Rattle.rows.specs.Member.{member_of}
use Rattle.rows.specs.Step.{step_at}
use Rattle.sender.specs.Board.{board_of}
use Rattle.sender.specs.Calls.{Call}
use Rattle.sender.specs.Calls.Call.{AddSlot, Lapse, RemoveSlot, Report}
use Rattle.sender.specs.Epochs.{begin_of, on_table, packet_bytes, payload_bytes, ranks_of, sender_run, x_of}
use Rattle.sender.specs.Shown.{after, shown}
use Rattle.step.specs.Arrival.{step_to}
use Rattle.c_face.specs.Boards.{board_bytes_of, ranks_bytes_of}
use Rattle.judge.specs.declared.seen.Seen.{Seen}
use Rattle.judge.specs.Order.{order_of}
use Rattle.judge.specs.Verdict.{judge_of}
use Rattle.receiver.specs.Fetch.{record_of}
use Rattle.receiver.specs.Shown.{port_shown, ports_out}
use Rattle.reply.specs.declared.members.Port.{Port}
use Rattle.reply.specs.Waiting.{no_standing, standing, standings_of}
use Rattle.reply.specs.Telling.{mst_of}
use Rattle.sender.specs.declared.epochs.Sender.{Sender}
use Rattle.sender.specs.Epochs.SenderCall.{StartEpoch}
use Rattle.conformance.specs.Examples.Hosts.{Host, begun, fed, flagged, opened}
use Rattle.tables.specs.Waits.{seen_port}
use Rattle.tables.specs.Rows.{Equal, Row, equal_rows, row, same}
use Rattle.conformance.specs.Opened.{all_open}

-- The sender's table. A member added and made active, its wait lapsed:
abbrev active : ℕ → List Call
active slot = AddSlot slot ∷ Report 0 0x00 0 ∷ Lapse ∷ []

abbrev two : List Call
two = active 0 ++ active 1

abbrev three : List Call
three = two ++ active 2

-- ten members active
abbrev ten : List Call
ten =
    AddSlot 0
    ∷ AddSlot 1
    ∷ AddSlot 2
    ∷ AddSlot 3
    ∷ AddSlot 4
    ∷ AddSlot 5
    ∷ AddSlot 6
    ∷ AddSlot 7
    ∷ AddSlot 8
    ∷ AddSlot 9
    ∷ Report 0 0x00 0
    ∷ Lapse
    ∷ Report 1 0x00 0
    ∷ Lapse
    ∷ []

-- number 0 is active; slots 3, 2, 1 and 0 ask under the numbers 1 to 4
abbrev four : List Call
four = active 4 ++ (AddSlot 3 ∷ AddSlot 2 ∷ AddSlot 1 ∷ AddSlot 0 ∷ [])

-- Two members of three slots, and epochs started from number 200 on.
abbrev sending : ℕ → Sender
sending epochs = sender_run (begin_of 0 3 200).sender (on_table two ++ replicate epochs (StartEpoch 1 0xA5 1))

-- A port with a whole good packet and all its frames: word, number and GID. One with no whole packet.
abbrev saw : (word number gid : ℕ) → Seen
saw word number gid = record { whole = true; good = true; word = word; number = number; gid = gid; here = true }

abbrev unseen : Seen
unseen = record { whole = false; good = false; word = 0; number = 0; gid = 0; here = false }

abbrev bad : Seen
bad = record { whole = true; good = false; word = 0; number = 0; gid = 0; here = true }

abbrev lacking : ℕ → ℕ → Seen
lacking word number = record { whole = true; good = true; word = word; number = number; gid = 0; here = false }

abbrev verdict : List Seen → ℕ
verdict ports = judge_of 0 ports (length ports)

-- X, and the ports by rank
abbrev ranked : List Seen → List ℕ
ranked ports = let o = order_of ports (length ports) in o.x ∷ take o.x o.ports

-- a port of the reply: word, number, and the state and number of the last report
abbrev port : (word number state was : ℕ) → Port
port word number state was = seen_port word number true (standing state was 0) 0 0

abbrev gone : ℕ → ℕ → Port
gone word number = seen_port word number false (standing 0 255 0) 0 0

abbrev worked : List Port → List ℕ
worked ports = tabulate (length ports) (λ i. (get_or (standings_of ports (length ports)) i no_standing).state)

abbrev oks : List Port
oks = port 2 9 2 9 ∷ port 5 255 0 255 ∷ port 3 0 2 0 ∷ port 1 2 1 2 ∷ []

-- one port in step, begun
abbrev receiving : Host
receiving = fed 0 48 0 (opened 1 16)

pub table : List Row
unfolding all_open
table =
    row "a bit is remembered as a wait closes" (shown (after 3 (three ++ (RemoveSlot 2 ∷ Report 0 0x00 1 ∷ RemoveSlot 1 ∷ Report 0 0x00 1 ∷ [])))) (3 ∷ 0 ∷ 5 ∷ 255 ∷ 5 ∷ 255 ∷ 1 ∷ []) same
    ∷ row "a bit is remembered with no wait open" (shown (after 2 (two ++ (Report 0 0x00 1 ∷ RemoveSlot 1 ∷ Report 0 0x00 1 ∷ [])))) (3 ∷ 0 ∷ 5 ∷ 255 ∷ 1 ∷ []) same
    ∷ row "the remembered bit is 0 at first" (shown (after 2 (AddSlot 0 ∷ RemoveSlot 0 ∷ Report 0 0x00 0 ∷ []))) (5 ∷ 255 ∷ 5 ∷ 255 ∷ 1 ∷ []) same
    ∷ row "a lapse leaves the remembered bit" (shown (after 2 (two ++ (Report 0 0x00 1 ∷ RemoveSlot 1 ∷ Lapse ∷ RemoveSlot 0 ∷ Report 0 0x00 1 ∷ [])))) (5 ∷ 255 ∷ 5 ∷ 255 ∷ 1 ∷ []) same
    ∷ row "MST is ignored while a wait is open" (shown (after 2 (two ++ (RemoveSlot 1 ∷ Report 0 0xFF 1 ∷ [])))) (3 ∷ 0 ∷ 5 ∷ 255 ∷ 0 ∷ []) same
    ∷ row "RS-Ack is one bit" (shown (after 1 (active 0 ++ (RemoveSlot 0 ∷ Report 0 0x00 2 ∷ [])))) (5 ∷ 255 ∷ 1 ∷ []) same
    ∷ row "epoch 33 speaks of numbers 8 to 15, the first bit of the lowest" (shown (after 10 (ten ++ (Report 33 0x40 0 ∷ [])))) (2 ∷ 0 ∷ 2 ∷ 1 ∷ 2 ∷ 2 ∷ 2 ∷ 3 ∷ 2 ∷ 4 ∷ 2 ∷ 5 ∷ 2 ∷ 6 ∷ 2 ∷ 7 ∷ 3 ∷ 8 ∷ 15 ∷ 9 ∷ 0 ∷ []) same
    ∷ row "DNU with OK becomes active, and no wait opens" (shown (after 2 (two ++ (Report 0 0x40 0 ∷ Report 0 0x00 0 ∷ [])))) (2 ∷ 0 ∷ 3 ∷ 1 ∷ 0 ∷ []) same
    ∷ row "added members take the next numbers, the ADD members left follow" (shown (after 5 (four ++ (Report 0 0x50 0 ∷ [])))) (3 ∷ 2 ∷ 1 ∷ 4 ∷ 2 ∷ 1 ∷ 1 ∷ 3 ∷ 2 ∷ 0 ∷ 1 ∷ []) same
    ∷ row "an ADD member removed" (shown (after 2 (AddSlot 0 ∷ AddSlot 1 ∷ RemoveSlot 0 ∷ []))) (5 ∷ 255 ∷ 1 ∷ 0 ∷ 1 ∷ []) same
    ∷ row "a DNU member removed" (shown (after 3 (three ++ (Report 0 0x80 0 ∷ RemoveSlot 0 ∷ [])))) (5 ∷ 255 ∷ 2 ∷ 0 ∷ 3 ∷ 1 ∷ 1 ∷ []) same
    ∷ row "a sender's epochs 255, 0 and 1" ((sender_run (begin_of 0 1 255).sender (StartEpoch 0 0xFF 0 ∷ [])).epoch ∷ (sender_run (begin_of 0 1 255).sender (replicate 2 (StartEpoch 0 0xFF 0))).epoch ∷ (sender_run (begin_of 0 1 255).sender (replicate 3 (StartEpoch 0 0xFF 0))).epoch ∷ []) (255 ∷ 0 ∷ 1 ∷ []) same
    ∷ row "what slots 0 and 1 send in epoch 200" (packet_bytes (sending 1) 0 (replicate 16 0) ++ packet_bytes (sending 1) 1 (replicate 16 0)) (0xA8 ∷ 0x59 ∷ 0x1A ∷ 0x0B ∷ 0x0C ∷ 0x0D ∷ 0x0E ∷ 0x0F ∷ 0xC0 ∷ 0x81 ∷ 0x22 ∷ 0x13 ∷ 0x04 ∷ 0x05 ∷ 0x76 ∷ 0x87 ∷ 0xA8 ∷ 0x59 ∷ 0x1A ∷ 0x0B ∷ 0x0C ∷ 0x0D ∷ 0x0E ∷ 0x1F ∷ 0xC0 ∷ 0x81 ∷ 0x32 ∷ 0x13 ∷ 0x04 ∷ 0x05 ∷ 0x36 ∷ 0x97 ∷ []) same
    ∷ row "X of the first epoch and of the second" (x_of (sending 1) ∷ x_of (sending 2) ∷ []) (0 ∷ 2 ∷ []) same
    ∷ row "the payload of slots 0, 1 and 2, the last with no rank" (payload_bytes (sending 2) 0 2 (10 ∷ 11 ∷ 12 ∷ 13 ∷ []) (9 ∷ 9 ∷ []) ++ (payload_bytes (sending 2) 1 2 (10 ∷ 11 ∷ 12 ∷ 13 ∷ []) (9 ∷ 9 ∷ []) ++ payload_bytes (sending 2) 2 2 (10 ∷ 11 ∷ 12 ∷ 13 ∷ []) (9 ∷ 9 ∷ []))) (10 ∷ 12 ∷ 11 ∷ 13 ∷ 0 ∷ 0 ∷ []) same
    ∷ row "the board's first bytes for C" (take 8 (board_bytes_of (board_of (after 3 (three ++ (RemoveSlot 1 ∷ [])))))) (3 ∷ 1 ∷ 2 ∷ 0 ∷ 5 ∷ 255 ∷ 3 ∷ 1 ∷ []) same
    ∷ row "the ranks' first bytes for C" (take 7 (ranks_bytes_of (ranks_of (sending 2)))) (3 ∷ 1 ∷ 201 ∷ 2 ∷ 0 ∷ 1 ∷ 255 ∷ []) same
    ∷ row "32 frames make the step, 31 don't" ((fed 0 31 0 (opened 1 16)).answer ∷ (fed 0 32 0 (opened 1 16)).answer ∷ []) (12 ∷ 0 ∷ []) same
    ∷ row "the count starts at MFI1 0" ((fed 0 42 5 (opened 1 16)).answer ∷ (fed 0 43 5 (opened 1 16)).answer ∷ []) (12 ∷ 0 ∷ []) same
    ∷ row "a second MFI2 that is not the first plus one loses the count, and MFI1 0 starts the next" ((fed 0 47 32 (fed 0 16 0 (opened 1 16))).answer ∷ (fed 0 48 32 (fed 0 16 0 (opened 1 16))).answer ∷ []) (12 ∷ 0 ∷ []) same
    ∷ row "a frame that breaks the count can be the first of a new 32" ((fed 0 31 256 (fed 0 16 0 (opened 1 16))).answer ∷ (fed 0 32 256 (fed 0 16 0 (opened 1 16))).answer ∷ []) (12 ∷ 0 ∷ []) same
    ∷ row "a flagged frame starts no new count" ((flagged 0 48 receiving).answer ∷ (fed 0 46 49 (flagged 0 48 receiving)).answer ∷ (fed 0 47 49 (flagged 0 48 receiving)).answer ∷ []) (10 ∷ 12 ∷ 0 ∷ []) same
    ∷ row "a port with no frame keeps receiving from beginning" (begun (fed 0 64 0 (opened 2 16))) (0 ∷ 0 ∷ []) same
    ∷ row "a port flagged failed does not" (begun (flagged 1 0 (fed 0 64 0 (opened 2 16)))) (10 ∷ 1 ∷ []) same
    ∷ row "with all ports flagged nothing begins" (begun (flagged 0 0 (opened 1 16))) (10 ∷ 0 ∷ []) same
    ∷ row "with no port readable any more receiving stops" (begun receiving ++ begun (flagged 0 48 receiving)) (0 ∷ 1 ∷ 10 ∷ 0 ∷ []) same
    ∷ row "NORM 0, EOS 1, DNU 2 are sure" (verdict (saw 2 0 1 ∷ saw 3 1 1 ∷ saw 15 2 1 ∷ []) ∷ []) (3 ∷ []) same
    ∷ row "ranks go by number among active ports" (ranked (saw 3 2 0 ∷ saw 2 0 0 ∷ saw 15 1 0 ∷ [])) (2 ∷ 1 ∷ 0 ∷ []) same
    ∷ row "a refused packet holds" (verdict (saw 3 0 0 ∷ bad ∷ []) ∷ []) (1 ∷ []) same
    ∷ row "an active port that lacks a frame holds, a DNU port does not" (verdict (lacking 3 0 ∷ []) ∷ verdict (saw 3 0 0 ∷ lacking 15 1 ∷ []) ∷ []) (1 ∷ 3 ∷ []) same
    ∷ row "a number twice holds, of an ADD port it does not" (verdict (saw 3 0 0 ∷ saw 15 0 0 ∷ []) ∷ verdict (saw 3 0 0 ∷ saw 1 0 0 ∷ []) ∷ []) (1 ∷ 3 ∷ []) same
    ∷ row "another GID holds, of an IDLE port it does not" (verdict (saw 3 0 0 ∷ saw 1 1 1 ∷ []) ∷ verdict (saw 3 0 0 ∷ saw 5 255 1 ∷ []) ∷ []) (1 ∷ 3 ∷ []) same
    ∷ row "EOS below the highest, twice or not at all holds" (verdict (saw 3 0 0 ∷ saw 2 1 0 ∷ []) ∷ verdict (saw 3 0 0 ∷ saw 3 1 0 ∷ []) ∷ verdict (saw 2 0 0 ∷ saw 2 1 0 ∷ []) ∷ []) (1 ∷ 1 ∷ 1 ∷ []) same
    ∷ row "with a packet missing no EOS is doubtful, a wrong one holds" (verdict (saw 2 0 0 ∷ unseen ∷ []) ∷ verdict (saw 3 0 0 ∷ saw 2 1 0 ∷ unseen ∷ []) ∷ []) (2 ∷ 1 ∷ []) same
    ∷ row "DNU above EOS is sure" (verdict (saw 3 0 0 ∷ saw 15 1 0 ∷ []) ∷ []) (3 ∷ []) same
    ∷ row "a gap in the numbers or a packet missing is doubtful" (verdict (saw 2 0 0 ∷ saw 3 2 0 ∷ []) ∷ verdict (saw 3 0 0 ∷ unseen ∷ []) ∷ []) (2 ∷ 2 ∷ []) same
    ∷ row "all IDLE is sure" (verdict (saw 5 255 0 ∷ saw 5 255 0 ∷ []) ∷ []) (3 ∷ []) same
    ∷ row "IDLE, OK and FAIL" (worked (port 255 255 0 255 ∷ port 5 255 0 255 ∷ port 1 3 0 255 ∷ port 1 64 0 255 ∷ port 2 63 0 255 ∷ gone 2 5 ∷ port 15 3 0 255 ∷ [])) (0 ∷ 0 ∷ 2 ∷ 1 ∷ 2 ∷ 1 ∷ 1 ∷ []) same
    ∷ row "OK under the same number chooses first, under another it does not" (worked (port 2 4 0 255 ∷ port 3 4 2 4 ∷ port 15 4 2 9 ∷ [])) (1 ∷ 2 ∷ 1 ∷ []) same
    ∷ row "MST in epochs 0, 1, 33 and 8 with 0 and 9 OK" (mst_of 0 oks 4 0 ∷ mst_of 0 oks 4 1 ∷ mst_of 0 oks 4 33 ∷ mst_of 0 oks 4 8 ∷ []) (0x7F ∷ 0xBF ∷ 0xBF ∷ 0xFF ∷ []) same
    ∷ row "what is shown of a port" (get_or (ports_out receiving.rows (replicate 8 9 ∷ [])) 0 [] ++ get_or (ports_out (flagged 0 48 receiving).rows (replicate 8 9 ∷ [])) 0 []) (0 ∷ 255 ∷ 1 ∷ 1 ∷ 1 ∷ 0 ∷ 255 ∷ 0 ∷ 0 ∷ 255 ∷ 0 ∷ 0 ∷ 0 ∷ 1 ∷ 255 ∷ 0 ∷ []) same
    ∷ row "what is shown of a port in step that has not joined, readable and not" (port_shown (group_at receiving.rows) (step_to (step_at receiving.rows 0) 0 (record { count = 32; next = 5; breaks = 0; odd = 0; bits = 0 }) 0 1 0) (member_of (2 ∷ 7 ∷ 1 ∷ 5 ∷ replicate 12 0)) ++ port_shown (group_at receiving.rows) (step_to (step_at receiving.rows 0) 0 (record { count = 32; next = 5; breaks = 0; odd = 0; bits = 0 }) 0 0 0) (member_of (2 ∷ 7 ∷ 1 ∷ 5 ∷ replicate 12 0))) (1 ∷ 5 ∷ 1 ∷ 0 ∷ 1 ∷ 0 ∷ 2 ∷ 0 ∷ 1 ∷ 5 ∷ 1 ∷ 0 ∷ 0 ∷ 0 ∷ 2 ∷ 0 ∷ []) same
    ∷ row "the record of a report" (record_of (record { mark = 3; epoch = 200; x = 2; cause = 0; bytes = 24192 })) (3 ∷ 200 ∷ 2 ∷ 0 ∷ 0 ∷ 0 ∷ 0x5E ∷ 0x80 ∷ []) same
    ∷ row "the record of a report that is held since numbers repeat" (record_of (record { mark = 1; epoch = 200; x = 0; cause = 3; bytes = 0 })) (1 ∷ 200 ∷ 0 ∷ 3 ∷ 0 ∷ 0 ∷ 0 ∷ 0 ∷ []) same
    ∷ []

pub worked_out : Equal table
worked_out = equal_rows table
