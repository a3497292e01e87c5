-- Examples of request 2026-04, packets whose MFI2 is not the receiver's own, worked out apart: what is told of their member, and when they lose step.
use Rattle.std.specs.Prelude.{List, [], ◌∷◌, ◌++◌, ℕ, ◌/◌, ◌*◌, get_or, replicate}
use Rattle.conformance.specs.Examples.Hosts.{Host, counting, fed, fed_with, fetched, handed, opened, packet_with}
use Rattle.tables.specs.Rows.{Equal, Row, equal_rows, row, same}
use Rattle.packet.specs.Kinds.{epoch_of, place_of}
use Rattle.packet.specs.Layout.{h4_of, nibbles_of}
use Rattle.packet.specs.Reading.{read_nibbles, reading_number}
use Rattle.packet.specs.Words.{EOS, FIXED}
use Rattle.receiver.specs.Fetch.{fetch_of}
use Rattle.receiver.specs.Shown.{ports_out, reply_out}
use Rattle.conformance.specs.Opened.{all_open}

-- W is 16. One port in step, its latest tag 39, so that epoch 3 starts.
abbrev at40 : Host
at40 = fed 0 40 0 (opened 1 16)

-- the sixteen nibbles of a packet with this word and number, for the frame with tag t
abbrev nibbles_for : (word number t : ℕ) → List ℕ
nibbles_for word number t = nibbles_of (record { epoch = epoch_of 0 t; word = record { 0 = word }; gid = 0; mst = 255; rs_ack = 0; sq = number; reserved = 0 })

-- the H4 byte of that frame
abbrev member_with : (word number t : ℕ) → ℕ
member_with word number t = get_or (h4_of (nibbles_for word number t)) (place_of 0 t) 0

-- IDLE in epoch 3; in epoch 4 EOS under 0, carried with the tags from t on; then the report of epoch 4
abbrev first : ℕ → Host
first t = fetched (fed_with (member_with EOS 0) 0 16 t (fed_with packet_with 0 16 40 at40))

-- epoch 5 as sent, IDLE again
abbrev second : ℕ → Host
second t = fed_with packet_with 0 16 72 (first t)

-- what the host then reads: of the port its eight bytes, and MST of numbers 0 to 7 and RS-Ack
abbrev told : Host → List ℕ
told h = get_or (ports_out h.rows ([] ∷ [])) 0 [] ++ reply_out h.rows 0 (0 ∷ 0 ∷ [])

-- the record of the next report
abbrev reported : Host → List ℕ
reported h = (fetch_of h.rows h.store (replicate 16 0) (replicate 8 0)).report

-- the answer, and that of one frame more
abbrev both_answers : Host → (Host → Host) → List ℕ
both_answers h more = h.answer ∷ (more h).answer ∷ []

-- packets with this word from tag 40 on, carried with the tags from 56 on: after 31 frames, and after one more
abbrev two_with : ℕ → List ℕ
two_with word = both_answers (fed_with (member_with word 255) 0 31 56 at40) (fed_with (member_with word 255) 0 1 87)

-- The same with IDLE; the last frame carries MFI1 0 in place of 7. Its nibble is the CRC's second, 9: the CRC is 59 in hex.
abbrev anew : Host
anew = fed_with (λ t. packet_with t / 16 * 16) 0 1 87 (fed_with packet_with 0 31 56 at40)

pub members : List Row
unfolding all_open
members =
    row "EOS under 0 with the own MFI2: OK under 0, and RS-Ack turns" (told (first 56)) (2 ∷ 0 ∷ 1 ∷ 1 ∷ 1 ∷ 0 ∷ 3 ∷ 0 ∷ 127 ∷ 1 ∷ []) same
    ∷ row "the same with MFI2 of one epoch later is no good packet: IDLE, and RS-Ack stays" (told (first 72)) (0 ∷ 255 ∷ 1 ∷ 1 ∷ 1 ∷ 0 ∷ 5 ∷ 0 ∷ 255 ∷ 0 ∷ []) same
    ∷ []

pub ruled : List Row
unfolding all_open
ruled =
    row "the epoch that such a packet rules is held, and it is told no later" (reported (second 72) ++ told (fetched (second 72))) (1 ∷ 5 ∷ 0 ∷ 1 ∷ 0 ∷ 0 ∷ 0 ∷ 0 ∷ 0 ∷ 255 ∷ 1 ∷ 1 ∷ 1 ∷ 0 ∷ 5 ∷ 0 ∷ 255 ∷ 0 ∷ []) same
    ∷ []

pub odd : List Row
unfolding all_open
odd =
    row "packets with an unassigned word or FIXED, read as 6 and 7, are odd with another MFI2: the 32nd frame is 12" (reading_number (read_nibbles (nibbles_for 4 255 56)) ∷ reading_number (read_nibbles (nibbles_for FIXED 255 56)) ∷ (two_with 4 ++ two_with FIXED)) (6 ∷ 7 ∷ 0 ∷ 12 ∷ 0 ∷ 12 ∷ []) same
    ∷ row "the end of a second odd packet with MFI1 0 is the first of a new 32" (counting 0 anew ++ both_answers (fed 0 30 2305 anew) (handed 0 2335)) (12 ∷ 2305 ∷ 1 ∷ 0 ∷ 12 ∷ 0 ∷ []) same
    ∷ []

pub members_rows : Equal members
members_rows = equal_rows members

pub ruled_rows : Equal ruled
ruled_rows = equal_rows ruled

pub odd_rows : Equal odd
odd_rows = equal_rows odd
