-- Member states and the reply (01, 'Member states and reply'; request 2026-03) where two ports want one number, at the limits of numbers, and bit by bit.
use Rattle.std.specs.Prelude.{true, false, List, [], ◌∷◌, ℕ, length, take}
use Rattle.tables.specs.Waits.{seen_port}
use Rattle.ground.specs.Table.{tabulate}
use Rattle.reply.specs.Zero.{states_of}
use Rattle.reply.specs.declared.members.Port.{Port}
use Rattle.reply.specs.declared.waiting.Standing.{Standing}
use Rattle.reply.specs.Telling.{ack_of, mst_of}
use Rattle.reply.specs.Waiting.{standing, standings_of}
use Rattle.pinned.specs.Opened.{all_open}
use Rattle.tables.specs.Rows.{Pinned, pins, row, same}

abbrev left : List Port → List Standing
left ports = take (length ports) (standings_of ports (length ports))

-- a readable port that sends a word under a number, with what the last report left of it, and no times
abbrev sends : (word number : ℕ) (last : Standing) → Port
sends word number last = seen_port word number true last 0 0

-- ADD under a number, IDLE so far
abbrev added : ℕ → Port
added number = sends 1 number (standing 0 255 0)

choosing : Pinned
unfolding all_open
choosing =
    pins "A port that was OK under another number does not choose first, nor does one that was FAIL under the same: then port order decides. IDLE is no candidate, whatever number it sends; NORM under 255 is not IDLE; 63 is the last number (01, 'Member states and reply'; request 2026-03)."
    (row "OK under 4 before" (left (added 5 ∷ sends 2 5 (standing 2 4 0) ∷ [])) (standing 2 5 0 ∷ standing 1 5 0 ∷ []) same
    ∷ row "OK under 6 before" (left (added 5 ∷ sends 2 5 (standing 2 6 0) ∷ [])) (standing 2 5 0 ∷ standing 1 5 0 ∷ []) same
    ∷ row "FAIL under 5 before" (left (added 5 ∷ sends 2 5 (standing 1 5 0) ∷ [])) (standing 2 5 0 ∷ standing 1 5 0 ∷ []) same
    ∷ row "OK under 5 before chooses first" (left (added 5 ∷ sends 2 5 (standing 2 5 0) ∷ [])) (standing 1 5 0 ∷ standing 2 5 0 ∷ []) same
    ∷ row "IDLE under 3" (left (sends 5 3 (standing 0 255 0) ∷ added 3 ∷ [])) (standing 0 3 0 ∷ standing 2 3 0 ∷ []) same
    ∷ row "NORM under 255" (left (sends 2 255 (standing 0 255 0) ∷ [])) (standing 1 255 0 ∷ []) same
    ∷ row "63 and 64" (left (added 63 ∷ added 64 ∷ [])) (standing 2 63 0 ∷ standing 1 64 0 ∷ []) same
    ∷ [])

plain : Pinned
unfolding all_open
plain =
    pins "The same by 01's own rule, which knows no times: one that was OK under the same number is before one that comes anew, whichever port it is; IDLE is none, and who is not readable or asks for 64 is FAIL (01, 'Member states and reply'; request 2026-03)."
    (row "OK under 5 before, one IDLE, one new" (take 4 (states_of (added 5 ∷ sends 2 5 (standing 2 5 0) ∷ sends 5 255 (standing 2 3 0) ∷ added 3 ∷ []) 4)) (1 ∷ 2 ∷ 0 ∷ 2 ∷ []) same
    ∷ row "FAIL under 5 before, one not readable, one that asks for 64" (take 4 (states_of (added 5 ∷ sends 2 5 (standing 1 5 0) ∷ seen_port 2 7 false (standing 2 7 0) 0 0 ∷ added 64 ∷ []) 4)) (2 ∷ 1 ∷ 1 ∷ 1 ∷ []) same
    ∷ [])

keeping : Pinned
unfolding all_open
keeping =
    pins "'During hold-off the port keeps its number against others', here number 63. One that turns IDLE keeps none, nor does one that is FAIL, nor one whose hold-off of 3 is over (01, 'Member states and reply'; request 2026-03)."
    (row "63 in hold-off" (left (seen_port 2 63 false (standing 2 63 0) 3 0 ∷ added 63 ∷ [])) (standing 2 63 1 ∷ standing 1 63 0 ∷ []) same
    ∷ row "one that turns IDLE" (left (seen_port 5 255 true (standing 2 4 0) 3 0 ∷ added 4 ∷ [])) (standing 0 255 0 ∷ standing 2 4 0 ∷ []) same
    ∷ row "one that is FAIL" (left (seen_port 2 4 false (standing 1 4 0) 3 0 ∷ added 4 ∷ [])) (standing 1 4 0 ∷ standing 2 4 0 ∷ []) same
    ∷ row "one whose hold-off is over" (left (seen_port 2 4 false (standing 2 4 3) 3 0 ∷ added 4 ∷ [])) (standing 1 4 0 ∷ standing 2 4 0 ∷ []) same
    ∷ [])

abbrev ok : ℕ → Port
ok number = sends 2 number (standing 2 number 0)

bits : Pinned
unfolding all_open
bits =
    pins "'MST for q is 0 exactly if an OK port holds q', 'first bit the lowest': epoch 0 speaks of numbers 0 to 7, epoch 33 of 8 to 15. A port that is FAIL does not count, nor one past the count of ports (01, 'Member states and reply'; request 2026-03)"
    (row "the even numbers of 0 to 7" (mst_of 0 (ok 0 ∷ ok 2 ∷ ok 4 ∷ ok 6 ∷ []) 4 0) 0x55 same
    ∷ row "the odd ones" (mst_of 0 (ok 1 ∷ ok 3 ∷ ok 5 ∷ ok 7 ∷ []) 4 0) 0xAA same
    ∷ row "the even of 8 to 15 in epoch 33, one FAIL and one past the count" (mst_of 0 (ok 8 ∷ ok 10 ∷ ok 12 ∷ ok 14 ∷ sends 2 9 (standing 1 9 0) ∷ ok 15 ∷ []) 5 33) 0x55 same
    ∷ row "the odd of 8 to 15" (mst_of 0 (ok 9 ∷ ok 11 ∷ ok 13 ∷ ok 15 ∷ []) 4 33) 0xAA same
    ∷ row "0, 7 and 9 in epoch 0" (mst_of 0 (ok 0 ∷ ok 9 ∷ ok 7 ∷ []) 3 0) 0x7E same
    ∷ row "each of 0 to 7 alone" (tabulate 8 (λ q. mst_of 0 (ok q ∷ []) 1 0)) (0x7F ∷ 0xBF ∷ 0xDF ∷ 0xEF ∷ 0xF7 ∷ 0xFB ∷ 0xFD ∷ 0xFE ∷ []) same
    ∷ row "0 in epoch 16" (mst_of 0 (ok 0 ∷ []) 1 16) 0xFF same
    ∷ row "0 in epoch 32" (mst_of 0 (ok 0 ∷ []) 1 32) 0x7F same
    ∷ row "0 to 6, highest first" (mst_of 0 (ok 6 ∷ ok 5 ∷ ok 4 ∷ ok 3 ∷ ok 2 ∷ ok 1 ∷ ok 0 ∷ []) 7 0) 0x01 same
    ∷ [])

-- a port as it was told
abbrev stays : Port
stays = record { word = 2; number = 0; state = 2; state_number = 0; told_word = 2; told_number = 0; readable = true; hold_off = 0; restore = 0; elapsed = 0 }

-- ADD that has become IDLE
abbrev departed : Port
departed =
    record { word = 5; number = 255; state = 2; state_number = 0; told_word = 1; told_number = 0; readable = true; hold_off = 0; restore = 0; elapsed = 0 }

-- with another number than was told
abbrev renumbered : Port
renumbered = record { word = 2; number = 1; state = 2; state_number = 0; told_word = 2; told_number = 0; readable = true; hold_off = 0; restore = 0; elapsed = 0 }

turning : Pinned
unfolding all_open
turning =
    pins "RS-Ack turns for any port, and once for several (01, 'Member states and reply'; request 2026-03)"
    (row "no port has changed" (ack_of (stays ∷ stays ∷ stays ∷ []) 3 1) 1 same
    ∷ row "the third has another number" (ack_of (stays ∷ stays ∷ renumbered ∷ []) 3 0) 1 same
    ∷ row "the third has another number, and back to 0" (ack_of (stays ∷ stays ∷ renumbered ∷ []) 3 1) 0 same
    ∷ row "the second has left" (ack_of (stays ∷ departed ∷ stays ∷ []) 3 0) 1 same
    ∷ row "two have changed" (ack_of (renumbered ∷ stays ∷ departed ∷ []) 3 0) 1 same
    ∷ row "two have another number" (ack_of (renumbered ∷ renumbered ∷ stays ∷ []) 3 1) 0 same
    ∷ [])
