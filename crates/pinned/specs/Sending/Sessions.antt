-- A session (01, 'Session'): what each line means, what it is answered, and the input as it comes in parts. Figures are counted on the lines as they stand.
use Rattle.std.specs.Prelude.{◌≡◌, false, List, [], ◌∷◌, ◌++◌, ℕ, zero, suc, replicate, Some, None}
use Rattle.std.proofs.Common.{arith}
use Rattle.ground.specs.Types.{Bytes}
use Rattle.pinned.specs.Filled.{nines}
use Rattle.session_lines.specs.declared.line.Line.TheVariants.{Size, Add, Remove, Report, Lapse, Board, Malformed}
use Rattle.session_lines.specs.declared.session.Session.{Session}
use Rattle.session_lines.specs.Kept.{keep_all, line_in, nothing_kept}
use Rattle.session_lines.specs.Line.{line_of, number_line, report_read}
use Rattle.session_lines.specs.Replies.{output_of, reply_of, size_reply}
use Rattle.session_lines.specs.Runs.{host_output, joined, whole_output}
use Rattle.session_lines.specs.Session.{beginning, fed_session, fed_text, feed_bytes, feed_of, finish_bytes, finish_of, last_session, last_text, used_of}
use Rattle.session_lines.specs.Theorems.Cuts.{cut_anywhere}
use Rattle.session_lines.specs.Theorems.Told.{table_told}
use Rattle.session_lines.specs.Told.{Feed, calls_in, ended_in, fed_by, last_size, meant, since_size, told_table, used_by}
use Rattle.sender.specs.Commands.{fresh_of}
use Rattle.sender.specs.declared.table.Table.{Table}
use Rattle.sender.specs.Shown.{after, shown}
use Rattle.sender.specs.Calls.{Call as C}
use Rattle.text.specs.Ascii.{ascii}
use Rattle.text.specs.Text.{lines_of}
use Rattle.pinned.specs.Opened.{all_open}
use Rattle.tables.specs.Rows.{Pinned, pins, row, same}

lines : Pinned
unfolding all_open
lines =
    pins "'Input lines': six words, each with its own fields and no others. 'Numbers have one to three decimal digits; an epoch above 255 or an RS-Ack other than 0 or 1 is malformed.' MST has 'two hex digits, either case': aF is 175 (01, 'Session')."
    (row "size 2" (line_of (ascii "size\t2")) (Size 2) same
    ∷ row "add 063" (line_of (ascii "add\t063")) (Add 63) same
    ∷ row "remove 999" (line_of (ascii "remove\t999")) (Remove 999) same
    ∷ row "report with aF" (line_of (ascii "report\t255\taF\t1")) (Report 255 175 1) same
    ∷ row "report with 05" (line_of (ascii "report\t7\t05\t0")) (Report 7 5 0) same
    ∷ row "an RS-Ack of three digits" (line_of (ascii "report\t0\t00\t001")) (Report 0 0 1) same
    ∷ row "lapse" (line_of (ascii "lapse")) Lapse same
    ∷ row "board" (line_of (ascii "board")) Board same
    ∷ row "an empty line" (line_of []) Malformed same
    ∷ row "another word" (line_of (ascii "boards")) Malformed same
    ∷ row "add with no slot" (line_of (ascii "add")) Malformed same
    ∷ row "lapse with a field" (line_of (ascii "lapse\t1")) Malformed same
    ∷ row "size with an empty field" (line_of (ascii "size\t")) Malformed same
    ∷ row "size of four digits" (line_of (ascii "size\t1000")) Malformed same
    ∷ row "size with a field too many" (line_of (ascii "size\t2\t")) Malformed same
    ∷ row "add with a report's fields" (line_of (ascii "add\t1\t00\t0")) Malformed same
    ∷ row "epoch 256" (line_of (ascii "report\t256\t00\t0")) Malformed same
    ∷ row "an epoch that is none" (line_of (ascii "report\tx\t00\t0")) Malformed same
    ∷ row "MST of one digit" (line_of (ascii "report\t0\t0\t0")) Malformed same
    ∷ row "RS-Ack 2" (line_of (ascii "report\t0\t00\t2")) Malformed same
    ∷ row "an empty RS-Ack" (line_of (ascii "report\t0\t00\t")) Malformed same
    ∷ row "report with a field too many" (line_of (ascii "report\t0\t00\t0\t0")) Malformed same
    ∷ row "81 bytes" (line_of (replicate 81 65)) Malformed same
    ∷ [])

parts : Pinned
unfolding all_open
parts =
    pins "The parts of a line by themselves: a word with its number, and a report's three numbers; what cannot be read makes it malformed (01, 'Session')."
    (row "add 7" (number_line (ascii "add") (Some 7)) (Add 7) same
    ∷ row "add with no number" (number_line (ascii "add") None) Malformed same
    ∷ row "board with a number" (number_line (ascii "board") (Some 7)) Malformed same
    ∷ row "a report's three numbers" (report_read (Some 255) (Some 254) (Some 1)) (Report 255 254 1) same
    ∷ row "MST FF" (report_read (Some 0) (Some 255) (Some 0)) (Report 0 255 0) same
    ∷ row "epoch 256" (report_read (Some 256) (Some 0) (Some 0)) Malformed same
    ∷ row "MST 256" (report_read (Some 0) (Some 256) (Some 0)) Malformed same
    ∷ row "RS-Ack 2" (report_read (Some 0) (Some 0) (Some 2)) Malformed same
    ∷ row "no RS-Ack" (report_read (Some 0) (Some 0) None) Malformed same
    ∷ row "no MST" (report_read (Some 0) None (Some 0)) Malformed same
    ∷ row "no epoch" (report_read None (Some 0) (Some 0)) Malformed same
    ∷ [])

-- slot 1 was added and removed: a wait is open
abbrev waiting : Table
waiting = after 2 (C.AddSlot 1 ∷ C.RemoveSlot 1 ∷ [])

answers : Pinned
unfolding all_open
answers =
    pins "'A second size starts afresh; a refused one leaves the board as it stood', and a size keeps the kind of packets. Each command is the sender's own: 0, 1, 3 and 2 are 01's, 13 is 'malformed line'. A board changes nothing (01, 'Session')."
    (row "a second size" (reply_of waiting (Size 3)).number 0 same
    ∷ row "a second size starts afresh" (shown (reply_of waiting (Size 3)).table) (5 ∷ 255 ∷ 5 ∷ 255 ∷ 5 ∷ 255 ∷ 0 ∷ []) same
    ∷ row "a second size keeps the kind" (size_reply (fresh_of 1 2) 3).table (fresh_of 1 3) same
    ∷ row "65 leaves the board" (size_reply (fresh_of 1 2) 65) (record { table = fresh_of 1 2; number = 4 }) same
    ∷ row "0 leaves it" (size_reply (fresh_of 1 2) 0) (record { table = fresh_of 1 2; number = 4 }) same
    ∷ row "an add" (shown (reply_of (fresh_of 0 2) (Add 1)).table) (5 ∷ 255 ∷ 1 ∷ 0 ∷ 0 ∷ []) same
    ∷ row "of slot 2 of two" (reply_of (fresh_of 0 2) (Add 2)).number 1 same
    ∷ row "while a wait is open" (reply_of waiting (Add 0)) (record { table = waiting; number = 3 }) same
    ∷ row "a removal" (shown (reply_of (after 2 (C.AddSlot 1 ∷ [])) (Remove 1)).table) (5 ∷ 255 ∷ 5 ∷ 255 ∷ 1 ∷ []) same
    ∷ row "of an IDLE slot" (reply_of (fresh_of 0 2) (Remove 1)).number 2 same
    ∷ row "a lapse of a wait" (reply_of waiting Lapse).number 0 same
    ∷ row "closes it" (reply_of waiting Lapse).table.wait false same
    ∷ row "with no wait it is 2" (reply_of (fresh_of 0 2) Lapse).number 2 same
    ∷ row "a board changes nothing" (reply_of waiting Board) (record { table = waiting; number = 0 }) same
    ∷ row "a malformed line" (reply_of waiting Malformed) (record { table = waiting; number = 13 }) same
    ∷ row "what is written for it" (output_of waiting Malformed) (ascii "answer\t13\n") same
    ∷ row "what is written for a lapse" (output_of waiting Lapse) (ascii "answer\t0\n") same
    ∷ row "what is written for a board" (output_of waiting Board) (ascii "slot\t0\tIDLE\t255\nslot\t1\tIDLE\t255\nwait\t1\n") same
    ∷ [])

-- two slots, and so much of a line has come
abbrev holding : Bytes → Session
holding line = record { table = fresh_of 0 2; kept = keep_all nothing_kept line }

fed : Pinned
unfolding all_open
fed =
    pins "'Before any size, the count is 0.' A line is answered when its end has come, with what was kept of it; used up are the line and its end, or all. 'Input lines are at most 80 bytes': of a longer one 81 bytes are kept (01, 'Session')."
    (row "no slot before any size" beginning.table.count 0 same
    ∷ row "of H4" beginning.table.kind 0 same
    ∷ row "nothing kept" (line_in beginning.kept) [] same
    ∷ row "a line in parts" (line_in (keep_all nothing_kept (ascii "add"))) (ascii "add") same
    ∷ row "82 bytes are kept as 81" (line_in (keep_all nothing_kept (replicate 82 65))) (replicate 81 65) same
    ∷ row "82 bytes are kept as 81, and counted as 81" (keep_all nothing_kept (replicate 82 65)).count 81 same
    ∷ row "a line and its end are used" (used_of (ascii "d\t2\nlapse\n")) 4 same
    ∷ row "all of a part" (used_of (ascii "ad")) 2 same
    ∷ row "what it is answered" (fed_text (holding (ascii "ad")) (ascii "d\t2\nlapse\n")) (ascii "answer\t1\n") same
    ∷ row "nothing before its end" (fed_text (holding (ascii "ad")) (ascii "d\t2")) [] same
    ∷ row "the table behind it" (shown (fed_session (holding (ascii "ad")) (ascii "d\t1\nlapse")).table) (5 ∷ 255 ∷ 1 ∷ 0 ∷ 0 ∷ []) same
    ∷ row "nothing is kept behind it" (fed_session (holding (ascii "ad")) (ascii "d\t1\nlapse")).kept nothing_kept same
    ∷ row "the part is kept" (fed_session (holding (ascii "ad")) (ascii "d\t1")) (holding (ascii "add\t1")) same
    ∷ row "one feed" (feed_of (holding (ascii "ad")) (ascii "d\t2\nlapse\n") (nines 1095)) (record { session = holding []; answer = 0; used = 4; written = 9 }) same
    ∷ row "a room of 1,094 is 9" (feed_of (holding (ascii "ad")) (ascii "d\t2\nlapse\n") (nines 1094)) (record { session = holding (ascii "ad"); answer = 9; used = 0; written = 0 }) same
    ∷ row "the bytes written" (feed_bytes (holding (ascii "ad")) (ascii "d\t2\nlapse\n") (nines 1095)) (ascii "answer\t1\n" ++ nines 1086) same
    ∷ [])

ended : Pinned
unfolding all_open
ended =
    pins "At the end of the input a line that lacks its end is answered; where there is none nothing is said (01, 'Session')"
    (row "add 2 of two" (last_text (holding (ascii "add\t2"))) (ascii "answer\t1\n") same
    ∷ row "a malformed one" (last_text (holding (65 ∷ []))) (ascii "answer\t13\n") same
    ∷ row "none" (last_text (holding [])) [] same
    ∷ row "the table behind it" (shown (last_session (holding (ascii "add\t1"))).table) (5 ∷ 255 ∷ 1 ∷ 0 ∷ 0 ∷ []) same
    ∷ row "nothing is kept" (last_session (holding (ascii "add\t1"))).kept nothing_kept same
    ∷ row "where there was none all stays" (last_session (holding [])) (holding []) same
    ∷ row "one finish" (finish_of (holding (ascii "add\t2")) (nines 1095)) (record { session = holding []; answer = 0; used = 0; written = 9 }) same
    ∷ row "a room of 1,094 is 9" (finish_of (holding (ascii "add\t2")) (nines 1094)) (record { session = holding (ascii "add\t2"); answer = 9; used = 0; written = 0 }) same
    ∷ row "the bytes written" (finish_bytes (holding (ascii "add\t2")) (nines 1095)) (ascii "answer\t1\n" ++ nines 1086) same
    ∷ [])

abbrev four_parts : List (List ℕ)
four_parts = ascii "si" ∷ ascii "ze\t1\nadd\t1\nbo" ∷ [] ∷ ascii "ard" ∷ []

whole : Pinned
unfolding all_open
whole =
    pins "The input may come in any parts: three lines in four, one of them empty, and the last line without its end (01, 'Session')"
    (row "the lines joined" (joined four_parts) (ascii "size\t1\nadd\t1\nboard") same
    ∷ row "what is answered" (host_output (nines 1095) four_parts) (ascii "answer\t0\nanswer\t1\nslot\t0\tIDLE\t255\nwait\t0\n") same
    ∷ [])

-- ten slots added, and the last removed: a wait is open, and the ADD numbers are 0 to 8
abbrev ten_slots : List ℕ
ten_slots = ascii "size\t10\nadd\t0\nadd\t1\nadd\t2\nadd\t3\nadd\t4\nadd\t5\nadd\t6\nadd\t7\nadd\t8\nadd\t9\nremove\t9\n"

-- lines are fed, and all of them answered 0
abbrev accepted : ℕ → List ℕ
accepted zero = []
accepted (suc n) = accepted n ++ ascii "answer\t0\n"

report_lines_lem : Pinned
unfolding all_open
report_lines_lem =
    pins "'MST in epoch e speaks of numbers 8 x (e mod 32) to that plus 7, first bit the lowest': in epoch 33 the first bit of 7F is number 8's, and says OK. The first report finds the wait open and closes it, since its RS-Ack is not the 0 remembered; 'in either case MST is ignored'. The second makes the member with ADD number 8 active: 'Added members take the next numbers', here 0, and the ADD members left follow; 'A wait opens' (01, 'Session')."
    (row "a first report closes the wait" (whole_output (ten_slots ++ ascii "report\t33\t7F\t1\nboard\n")) (accepted 13 ++ ascii "slot\t0\tADD\t0\nslot\t1\tADD\t1\nslot\t2\tADD\t2\nslot\t3\tADD\t3\nslot\t4\tADD\t4\nslot\t5\tADD\t5\nslot\t6\tADD\t6\nslot\t7\tADD\t7\nslot\t8\tADD\t8\nslot\t9\tIDLE\t255\nwait\t0\n") same
    ∷ row "a second one makes the member with ADD number 8 active" (whole_output (ten_slots ++ ascii "report\t33\t7F\t1\nreport\t33\t7F\t1\nboard\n")) (accepted 14 ++ ascii "slot\t0\tADD\t1\nslot\t1\tADD\t2\nslot\t2\tADD\t3\nslot\t3\tADD\t4\nslot\t4\tADD\t5\nslot\t5\tADD\t6\nslot\t6\tADD\t7\nslot\t7\tADD\t8\nslot\t8\tEOS\t0\nslot\t9\tIDLE\t255\nwait\t1\n") same
    ∷ row "the remembered bit leaves the wait open" (whole_output (ten_slots ++ ascii "report\t33\t7F\t0\nboard\n")) (accepted 13 ++ ascii "slot\t0\tADD\t0\nslot\t1\tADD\t1\nslot\t2\tADD\t2\nslot\t3\tADD\t3\nslot\t4\tADD\t4\nslot\t5\tADD\t5\nslot\t6\tADD\t6\nslot\t7\tADD\t7\nslot\t8\tADD\t8\nslot\t9\tIDLE\t255\nwait\t1\n") same
    ∷ [])

-- 'A second size starts afresh', the remembered bit too: it is 0 again, so the report with 1 closes the wait
abbrev sized_twice : List ℕ
sized_twice = ascii "size\t1\nreport\t0\tFF\t1\nsize\t1\nadd\t0\nremove\t0\nreport\t0\tFF\t1\nboard\n"

second_size : Pinned
unfolding all_open
second_size =
    pins "'A second size starts afresh', the remembered bit too: it is 0 again, so a report with 1 closes the wait (01, 'Session')."
    (row "the whole output" (whole_output sized_twice) (accepted 6 ++ ascii "slot\t0\tIDLE\t255\nwait\t0\n") same
    ∷ row "the bit in the end" (told_table (lines_of sized_twice)).remembered 1 same
    ∷ row "the bit behind the second size" (told_table (lines_of (ascii "size\t1\nreport\t0\tFF\t1\nsize\t1\n"))).remembered 0 same
    ∷ row "a refused size leaves it" (told_table (lines_of (ascii "size\t1\nreport\t0\tFF\t1\nsize\t65\n"))).remembered 1 same
    ∷ [])

telling : Pinned
unfolding all_open
telling =
    pins "What lines tell: sizes of 1 to 64 alone are accepted, calls are those behind the last, and a line is told when its end has come (01, 'Session')"
    (row "2, where 65 and 0 follow" (last_size (Size 2 ∷ Size 65 ∷ Size 0 ∷ [])) 2 same
    ∷ row "1 behind 64" (last_size (Size 64 ∷ Add 1 ∷ Size 1 ∷ [])) 1 same
    ∷ row "none" (last_size (Add 1 ∷ [])) 0 same
    ∷ row "calls behind the last size" (calls_in (since_size (meant (lines_of sized_twice)))) (C.AddSlot 0 ∷ C.RemoveSlot 0 ∷ C.Report 0 255 1 ∷ []) same
    ∷ row "calls where there is none" (calls_in (since_size (Add 1 ∷ Board ∷ Lapse ∷ Malformed ∷ []))) (C.AddSlot 1 ∷ C.Lapse ∷ []) same
    ∷ row "lines that have ended" (ended_in (ascii "size\t2\n\nadd")) (ascii "size\t2" ∷ [] ∷ []) same
    ∷ row "none has" (ended_in (ascii "lapse")) [] same
    ∷ row "what is used of two parts" (used_by beginning (record { part = ascii "size\t2\nadd"; out = nines 1095 } ∷ record { part = ascii "x"; out = [] } ∷ [])) (ascii "size\t2\n") same
    ∷ row "the table behind two feeds" (shown (fed_by beginning (record { part = ascii "size\t2\nadd"; out = nines 1095 } ∷ record { part = ascii "add\t1\n"; out = nines 1095 } ∷ [])).table) (5 ∷ 255 ∷ 1 ∷ 0 ∷ 0 ∷ []) same
    ∷ [])

-- Two theorems used, so that a statement that lost a part would be seen: each side is worked out by itself.

abbrev two_feeds : List Feed
two_feeds = record { part = ascii "size\t2\nadd"; out = nines 1095 } ∷ record { part = ascii "add\t1\nlapse"; out = nines 1095 } ∷ []

told_used : (fed_by beginning two_feeds).table ≡ after 2 (C.AddSlot 1 ∷ [])
unfolding all_open
told_used = table_told two_feeds

cut_used : host_output (nines 1095) four_parts ≡ ascii "answer\t0\nanswer\t1\nslot\t0\tIDLE\t255\nwait\t0\n"
unfolding all_open
cut_used = cut_anywhere (nines 1095) (omega arith) four_parts
