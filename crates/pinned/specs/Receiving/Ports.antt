-- A frame and a report of three ports: each port's own tag, packet, place in the store and state, and all ports in one report.
use Rattle.std.specs.Prelude.{false, true, List, [], ◌++◌, ◌∷◌, ℕ, drop, get_or, replicate, take}
use Rattle.pinned.specs.Filled.{nines, zeros}
use Rattle.ground.specs.Table.{tabulate}
use Rattle.ground.specs.Types.{Rows}
use Rattle.receiver.specs.Fetch.{fetch_of}
use Rattle.receiver.specs.Frame.{frame_of}
use Rattle.rows.specs.Group.{group_at, put_group}
use Rattle.rows.specs.Member.{member_at, put_member}
use Rattle.rows.specs.Packets.{marks_at, packets_at, put_marks, put_packets}
use Rattle.rows.specs.Step.{put_step, step_at}
use Rattle.rows.specs.declared.group.Group.{Group}
use Rattle.rows.specs.declared.member.Member.{Member}
use Rattle.rows.specs.declared.step.Step.{Step}
use Rattle.step.specs.OwnCount.{ends_odd}
use Rattle.pinned.specs.Opened.{all_open}
use Rattle.tables.specs.Rows.{Pinned, pins, row, same}

-- three ports, P 1, W 16; receiving has begun with epoch 58, whose first frame has tag 920 and stands at place 5 of each ring; `gathered` is 1 where a first epoch has been gathered
abbrev group : ℕ → Group
group gathered =
    record {
      spare = zeros 4;
      kind = 0;
      count = 3;
      payload = 1;
      window = 16;
      begun = 1;
      gathered = gathered;
      oldest = 58;
      origin = 5;
      rs_ack = 0;
    }

-- a port in step that has joined, with the tag that it waits for
abbrev step : ℕ → Step
step next =
    record {
      spare = zeros 4;
      heard = 1;
      failed = 0;
      count = 32;
      next = next;
      joined = 1;
      ever_since = 0;
      joined_at = 0;
      whole = 1;
      breaks = 0;
      odd = 0;
      bits = 0;
    }

-- FAIL so far under the number that it sends, and the number that was told of it
abbrev member : (word number told : ℕ) → Member
member word number told =
    record {
      spare = zeros 4;
      word = word;
      number = number;
      state = 1;
      state_number = number;
      told_word = word;
      told_number = told;
      hold_off = 0;
      restore = 0;
      elapsed = 0;
    }

abbrev empty : List (List ℕ)
empty = put_group (replicate 16 (zeros 16)) (group 1)

-- a port's step, the packet that it gathers, its ruling packet and the first byte of its marks
abbrev with_port : (port : ℕ) (now : Step) (gathers ruling : List ℕ) (mark : ℕ) (s : Rows) → Rows
with_port i now gathers ruling mark s = put_marks (put_packets (put_step s i now) i (gathers ∷ ruling ∷ [])) i (mark ∷ zeros 15)

abbrev sixteen : ℕ → List ℕ
sixteen nibble = replicate 16 nibble

-- The packets that ports 0, 1 and 2 gather are filled with 7, 5 and 3, the ruling ones with 6, 4 and 2. They wait for tags 925, 933 and 935, at MFI1 13, 5 and 7. Each has another epoch marked.
abbrev gathering : List (List ℕ)
gathering =
    with_port 2 (step 935) (sixteen 3) (sixteen 2) 8 (with_port 1 (step 933) (sixteen 5) (sixteen 4) 4 (with_port 0 (step 925) (sixteen 7) (sixteen 6) 2 empty))

abbrev now₀ : List (List ℕ)
now₀ = (frame_of gathering 0 false 0x9D (8 ∷ []) (nines 96)).rows

abbrev now₁ : List (List ℕ)
now₁ = (frame_of gathering 1 false 0xB5 (8 ∷ []) (nines 96)).rows

abbrev now₂ : List (List ℕ)
now₂ = (frame_of gathering 2 false 0xC7 (8 ∷ []) (nines 96)).rows

-- each port's tag to come, and what it gathers
abbrev waiting : Rows → List ℕ
waiting s = (step_at s 0).next ∷ (step_at s 1).next ∷ (step_at s 2).next ∷ []

abbrev gathered : Rows → Rows
gathered s = packets_at s 0 ++ packets_at s 1 ++ packets_at s 2

-- the first byte of each port's marks
abbrev marked : Rows → List ℕ
marked s = take 1 (marks_at s 0) ++ take 1 (marks_at s 1) ++ take 1 (marks_at s 2)

own_frames : Pinned
unfolding all_open
own_frames =
    pins "A frame goes by its own port and changes that port alone. Tags 925, 933 and 935 lie 5, 13 and 15 behind the window's first, at places 10, 2 and 4 of the ports' rings of 32 bytes each; their nibbles go to places 5, 13 and 15. The last frame of the epoch marks it (01, 'Window', 'Report of an epoch')."
    (row "port 0's tag goes on" (waiting now₀) (926 ∷ 933 ∷ 935 ∷ []) same
    ∷ row "port 1's tag goes on" (waiting now₁) (925 ∷ 934 ∷ 935 ∷ []) same
    ∷ row "port 2's tag goes on" (waiting now₂) (925 ∷ 933 ∷ 936 ∷ []) same
    ∷ row "port 0's nibble at place 5" (gathered now₀) ((replicate 5 7 ++ (9 ∷ replicate 10 7)) ∷ sixteen 6 ∷ sixteen 5 ∷ sixteen 4 ∷ sixteen 3 ∷ sixteen 2 ∷ []) same
    ∷ row "port 1's nibble at place 13" (gathered now₁) (sixteen 7 ∷ sixteen 6 ∷ (replicate 13 5 ++ (11 ∷ 5 ∷ 5 ∷ [])) ∷ sixteen 4 ∷ sixteen 3 ∷ sixteen 2 ∷ []) same
    ∷ row "port 2's nibble at place 15" (gathered now₂) (sixteen 7 ∷ sixteen 6 ∷ sixteen 5 ∷ sixteen 4 ∷ (replicate 15 3 ++ (12 ∷ [])) ∷ sixteen 2 ∷ []) same
    ∷ row "port 0's frame marks nothing" (marked now₀) (2 ∷ 4 ∷ 8 ∷ []) same
    ∷ row "port 1's frame marks nothing" (marked now₁) (2 ∷ 4 ∷ 8 ∷ []) same
    ∷ row "port 2's, the epoch's last, marks it" (marked now₂) (2 ∷ 4 ∷ 9 ∷ []) same
    ∷ row "port 0's place in the store" (frame_of gathering 0 false 0x9D (8 ∷ []) (nines 96)).store (nines 20 ++ (8 ∷ 0x9D ∷ []) ++ nines 74) same
    ∷ row "port 1's place in the store" (frame_of gathering 1 false 0xB5 (8 ∷ []) (nines 96)).store (nines 36 ++ (8 ∷ 0xB5 ∷ []) ++ nines 58) same
    ∷ row "port 2's place in the store" (frame_of gathering 2 false 0xC7 (8 ∷ []) (nines 96)).store (nines 72 ++ (8 ∷ 0xC7 ∷ []) ++ nines 22) same
    ∷ row "port 2's frame is answered 0" (frame_of gathering 2 false 0xC7 (nines 1) (nines 96)).answer 0 same
    ∷ row "port 3 of three is 1" (frame_of gathering 3 false 0xC7 (nines 1) (nines 96)).answer 1 same
    ∷ row "a payload of two bytes is 9" (frame_of gathering 2 false 0xC7 (nines 2) (nines 96)).answer 9 same
    ∷ row "port 3 leaves the rows" (frame_of empty 3 true 0xC7 (8 ∷ []) (nines 96)).rows empty same
    ∷ [])

-- Epoch 58 is the first, and not gathered yet; ports 0 and 1 have brought it. The fifteen frames that port 2 has stored carry the nibble 3.
abbrev unfinished : List (List ℕ)
unfinished = put_marks (put_marks (put_marks (put_group gathering (group 0)) 0 (1 ∷ zeros 15)) 1 (1 ∷ zeros 15)) 2 (zeros 16)

abbrev finished : List (List ℕ)
finished = (frame_of unfinished 2 false 0xC7 (8 ∷ []) (nines 64 ++ replicate 32 0x30)).rows

own_gathering : Pinned
unfolding all_open
own_gathering =
    pins "'gathered, in the call that makes it due': port 2's packet is read with the frame that has just come (01, 'Window', 'Report of an epoch')"
    (row "the epoch is gathered" (group_at finished).gathered 1 same
    ∷ row "the next one is the oldest" (group_at finished).oldest 59 same
    ∷ row "port 2's packet rules, its last nibble too" (packets_at finished 2) ((replicate 15 3 ++ (12 ∷ [])) ∷ (replicate 15 3 ++ (12 ∷ [])) ∷ []) same
    ∷ row "a port that stored nothing is ruled by zeros" (get_or (packets_at finished 0) 1 []) (zeros 16) same
    ∷ [])

-- NORM 0, NORM 1 and EOS 2 in epoch 57 with GID 1 and MST FF: CRCs 24, 32 and 5F
abbrev packet : (word sq high low : ℕ) → List ℕ
packet word sq high low = 15 ∷ 15 ∷ 0 ∷ 0 ∷ 0 ∷ 0 ∷ 0 ∷ sq ∷ 3 ∷ 9 ∷ word ∷ 1 ∷ 0 ∷ 0 ∷ high ∷ low ∷ []

-- port 1 has gathered all but the last nibble of epoch 57's packet, which comes where epoch 58's should end; ports 0 and 2 have gathered nothing, and port 0 is one frame behind
abbrev late : List (List ℕ)
late = with_port 2 (step 935) (zeros 16) (zeros 16) 0 (with_port 1 (step 935) (packet 2 1 3 9) (zeros 16) 0 (with_port 0 (step 934) (zeros 16) (zeros 16) 0 empty))

own_odd : Pinned
unfolding all_open
own_odd =
    pins "Whether a port ends an odd packet is asked of what it has gathered itself (request 2026-04)"
    (row "port 1 has ended an odd packet" (step_at (frame_of late 1 false 0x27 (8 ∷ []) (nines 96)).rows 1).odd 1 same
    ∷ row "port 2 has not" (step_at (frame_of late 2 false 0x27 (8 ∷ []) (nines 96)).rows 2).odd 0 same
    ∷ row "the packet of epoch 57 is odd with tag 935" (ends_odd 0 (packet 2 1 3 9) 935 0x27) true same
    ∷ row "the packet of epoch 57 is odd with tag 935, and not with tag 919" (ends_odd 0 (packet 2 1 3 9) 919 0x27) false same
    ∷ [])

-- Port 0 was ruled by EOS 2, port 1 by NORM 0 and port 2 by NORM 1, and all have brought epoch 58. Port 2's number is other than the one that was told of it.
abbrev due : List (List ℕ)
due =
    let ports = with_port 2 (step 936) (zeros 16) (packet 2 1 3 2) 1 (with_port 1 (step 936) (zeros 16) (packet 2 0 2 4) 1 (with_port 0 (step 936) (zeros 16) (packet 3 2 5 15) 1 empty)) in
    put_member (put_member (put_member ports 0 (member 3 2 2)) 1 (member 2 0 0)) 2 (member 2 1 7)

-- port 2 has not brought its frames yet
abbrev early : List (List ℕ)
early = put_marks due 2 (zeros 16)

-- nor here, where it was ruled by ADD 2 and port 0 by EOS 1: CRCs F1 and 65
abbrev early_add : List (List ℕ)
early_add = put_packets (put_packets early 0 (zeros 16 ∷ packet 3 1 6 5 ∷ [])) 2 (zeros 16 ∷ packet 1 2 15 1 ∷ [])

-- a store whose byte at each place is the place
abbrev store : List ℕ
store = tabulate 96 (λ i. i)

abbrev fetched : List (List ℕ)
fetched = (fetch_of due store (nines 50) (nines 8)).rows

-- what is left of a port: its state, number and what was told of it
abbrev told : Rows → ℕ → List ℕ
told s i = (member_at s i).state ∷ (member_at s i).state_number ∷ (member_at s i).told_word ∷ (member_at s i).told_number ∷ []

own_reports : Pinned
unfolding all_open
own_reports =
    pins "A report is of all ports: sure, X 3, 48 bytes, those of ports 1, 2 and 0 by turns, from place 5 of each ring on. All three are OK under their numbers, and RS-Ack turns for port 2. Nothing is due while port 2 lacks its frames, whatever rules it; with ADD it has no rank, and X is 2 (01, 'Window', 'Report of an epoch')."
    (row "the record" (fetch_of due store (nines 50) (nines 8)).report (3 ∷ 58 ∷ 3 ∷ 0 ∷ 0 ∷ 0 ∷ 0 ∷ 48 ∷ []) same
    ∷ row "the first bytes, by turns" (take 6 (fetch_of due store (nines 50) (nines 8)).out) (42 ∷ 74 ∷ 10 ∷ 44 ∷ 76 ∷ 12 ∷ []) same
    ∷ row "the last bytes, and what stands behind them" (drop 45 (fetch_of due store (nines 50) (nines 8)).out) (40 ∷ 72 ∷ 8 ∷ 9 ∷ 9 ∷ []) same
    ∷ row "port 0 is OK 2" (told fetched 0) (2 ∷ 2 ∷ 3 ∷ 2 ∷ []) same
    ∷ row "port 1 is OK 0" (told fetched 1) (2 ∷ 0 ∷ 2 ∷ 0 ∷ []) same
    ∷ row "port 2 is OK 1" (told fetched 2) (2 ∷ 1 ∷ 2 ∷ 1 ∷ []) same
    ∷ row "RS-Ack turns" (group_at fetched).rs_ack 1 same
    ∷ row "the next epoch is the oldest" (group_at fetched).oldest 59 same
    ∷ row "the marks of the reported epoch are gone" (marks_at fetched 0 ++ marks_at fetched 1 ++ marks_at fetched 2) (zeros 48) same
    ∷ row "while port 2 lacks its frames the rows stay" (fetch_of early store (nines 50) (nines 8)).rows early same
    ∷ row "nothing is due" (fetch_of early store (nines 50) (nines 8)).report (zeros 8) same
    ∷ row "nothing is due, and no byte is given" (fetch_of early store (nines 50) (nines 8)).out (nines 50) same
    ∷ row "nothing is due, also where ADD rules it" (fetch_of early_add store (nines 50) (nines 8)).out (nines 50) same
    ∷ row "with ADD X is 2" (fetch_of (put_marks early_add 2 (1 ∷ zeros 15)) store (nines 50) (nines 8)).report (3 ∷ 58 ∷ 2 ∷ 0 ∷ 0 ∷ 0 ∷ 0 ∷ 32 ∷ []) same
    ∷ [])
