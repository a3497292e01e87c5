-- The step rule and packets by the receiver's own count (01, 'Step'; request 2026-04), frame by frame.
use Rattle.std.specs.Prelude.{true, false, List, [], ◌∷◌, ℕ}
use Rattle.step.specs.declared.run.Run.{Run}
use Rattle.step.specs.OwnCount.{ends_odd, odd_packet, own_number, own_ruling, right_crc, ruling_in}
use Rattle.step.specs.Run.{breaks_after, ends_packet, in_step_at, loses, odd_after, run_on}
use Rattle.pinned.specs.Opened.{all_open}
use Rattle.tables.specs.Rows.{Pinned, pins, row, same}

abbrev run : (count next breaks odd : ℕ) → Run
run count next breaks odd = record { count = count; next = next; breaks = breaks; odd = odd; bits = 0 }

coming : Pinned
unfolding all_open
coming =
    pins "Coming into step. Tag 849 has MFI2 35 hex and MFI1 1: a first frame 30, a second one 51; then MFI1 alone, MFI2's nibbles at MFI1 0 and 1 (01, 'Step'; request 2026-04)."
    (row "a first frame of MFI2 3x" (run_on 0 (run 0 0 0 0) false 0x30) (run 1 769 0 0) same
    ∷ row "no first frame with MFI1 1" (run_on 0 (run 0 0 0 0) false 0x31) (run 0 0 0 0) same
    ∷ row "no first frame with MFI1 8" (run_on 0 (run 0 0 0 0) false 0x38) (run 0 0 0 0) same
    ∷ row "the second gives MFI2 35" (run_on 0 (run 1 769 0 0) false 0x51) (run 2 850 0 0) same
    ∷ row "MFI1 2 is no second frame" (run_on 0 (run 1 769 0 0) false 0x52) (run 0 0 0 0) same
    ∷ row "MFI1 9 is none" (run_on 0 (run 1 769 0 0) false 0x59) (run 0 0 0 0) same
    ∷ row "MFI1 3 is none" (run_on 0 (run 1 769 0 0) false 0x53) (run 0 0 0 0) same
    ∷ row "MFI1 5 is none" (run_on 0 (run 1 769 0 0) false 0x55) (run 0 0 0 0) same
    ∷ row "MFI1 0 is a first frame again" (run_on 0 (run 1 769 0 0) false 0x40) (run 1 1025 0 0) same
    ∷ row "a sixth with MFI1 5" (run_on 0 (run 5 853 0 0) false 0x75) (run 6 854 0 0) same
    ∷ row "with MFI1 6 it ends the count" (run_on 0 (run 5 853 0 0) false 0x76) (run 0 0 0 0) same
    ∷ row "MFI2's high nibble at MFI1 0" (run_on 0 (run 17 848 0 0) false 0x30) (run 18 849 0 0) same
    ∷ row "another high nibble begins anew" (run_on 0 (run 17 848 0 0) false 0x40) (run 1 1025 0 0) same
    ∷ row "MFI2's low nibble at MFI1 1" (run_on 0 (run 18 849 0 0) false 0x51) (run 19 850 0 0) same
    ∷ row "another low nibble ends the count" (run_on 0 (run 18 849 0 0) false 0x61) (run 0 0 0 0) same
    ∷ row "the 32nd, over tag 4,095" (run_on 0 (run 31 4095 0 0) false 0x0F) (run 32 0 0 0) same
    ∷ row "31 in a row are no step" (in_step_at 0 31) false same
    ∷ row "32 in a row are step" (in_step_at 0 32) true same
    ∷ row "32 in a row of a fixed group are" (in_step_at 2 32) true same
    ∷ [])

staying : Pinned
unfolding all_open
staying =
    pins "In step: a frame that breaks the count has the tag to come all the same; the fourth in a row loses step, and can be the first of a new 32; so does the end of a second odd packet in a row (01, 'Step'; request 2026-04)."
    (row "a right frame ends a row of two breaks" (run_on 0 (run 32 853 2 0) false 0x75) (run 32 854 0 0) same
    ∷ row "a third break" (run_on 0 (run 32 853 2 0) false 0x76) (run 32 854 3 0) same
    ∷ row "a fourth loses step" (run_on 0 (run 32 853 3 0) false 0x76) (run 0 0 0 0) same
    ∷ row "a right frame after three" (run_on 0 (run 32 853 3 0) false 0x75) (run 32 854 0 0) same
    ∷ row "a fourth that is the first of a new count" (run_on 0 (run 32 853 3 0) false 0x40) (run 1 1025 0 0) same
    ∷ row "the end of an odd packet is remembered" (run_on 0 (run 32 855 0 0) true 0x77) (run 32 856 0 1) same
    ∷ row "that of a second one loses step" (run_on 0 (run 32 855 0 1) true 0x77) (run 0 0 0 0) same
    ∷ row "that of one that is not odd forgets it" (run_on 0 (run 32 855 0 1) false 0x77) (run 32 856 0 0) same
    ∷ row "a frame that ends no packet leaves it" (run_on 0 (run 32 856 0 1) false 0x78) (run 32 857 0 1) same
    ∷ row "a frame over tag 4,095 leaves it" (run_on 0 (run 32 4095 0 1) false 0x7F) (run 32 0 0 1) same
    ∷ row "MFI1 7 ends a packet" (ends_packet 0 855) true same
    ∷ row "MFI1 8 does not" (ends_packet 0 856) false same
    ∷ row "MFI1 15 does not" (ends_packet 0 863) false same
    ∷ row "a right frame leaves no break" (breaks_after true 3) 0 same
    ∷ row "a wrong one has one more" (breaks_after false 3) 4 same
    ∷ row "four breaks lose step" (loses false (run 32 0 3 0) false) true same
    ∷ row "three do not" (loses false (run 32 0 2 1) false) false same
    ∷ row "a right frame keeps it" (loses true (run 32 0 3 0) true) false same
    ∷ row "a second odd packet loses it" (loses true (run 32 0 0 1) true) true same
    ∷ row "an odd packet's end is remembered as 1" (odd_after 0 (run 32 855 0 0) true) 1 same
    ∷ [])

-- a packet of epoch 57 with NORM, SQ 3, GID 1 and MST FF; its CRC is 1E. With another last nibble, as a fixed group's it has the wrong word.
abbrev norm : ℕ → List ℕ
norm last = 15 ∷ 15 ∷ 0 ∷ 0 ∷ 0 ∷ 0 ∷ 0 ∷ 3 ∷ 3 ∷ 9 ∷ 2 ∷ 1 ∷ 0 ∷ 0 ∷ 1 ∷ last ∷ []

abbrev fixed : List ℕ
fixed = 15 ∷ 15 ∷ 0 ∷ 0 ∷ 0 ∷ 0 ∷ 0 ∷ 3 ∷ 3 ∷ 9 ∷ 0 ∷ 1 ∷ 0 ∷ 0 ∷ 1 ∷ 14 ∷ []

own : Pinned
unfolding all_open
own =
    pins "By the receiver's own count a packet counts in its own epoch alone, and of a fixed group by its word, whatever its CRC (01, 'Step'; requests 2026-04 and 2026-12). A packet of epoch 57 with NORM, SQ 3, GID 1 and MST FF has CRC 1E."
    (row "epoch 57's number in epoch 57" (own_number 57 (norm 14)) true same
    ∷ row "epoch 57's number in epoch 57, and in epoch 58" (own_number 58 (norm 14)) false same
    ∷ row "what it rules with LCAS" (ruling_in 0 57 (norm 14)) (record { good = true; word = 2; number = 3; gid = 1 }) same
    ∷ row "a kind that is not known is read as H4" (ruling_in 3 57 (norm 14)) (record { good = true; word = 2; number = 3; gid = 1 }) same
    ∷ row "in a fixed group its word is wrong" (ruling_in 2 57 (norm 14)) (record { good = false; word = 0; number = 0; gid = 0 }) same
    ∷ row "a fixed group's packet" (ruling_in 2 57 fixed) (record { good = true; word = 0; number = 3; gid = 0 }) same
    ∷ row "a fixed group's packet rules in its own epoch" (own_ruling 2 57 fixed) (record { good = true; word = 0; number = 3; gid = 0 }) same
    ∷ row "a fixed group's packet rules in its own epoch, and not in another" (own_ruling 2 58 fixed) (record { good = false; word = 0; number = 0; gid = 0 }) same
    ∷ row "a wrong CRC rules nothing" (own_ruling 0 57 (norm 13)) (record { good = false; word = 0; number = 0; gid = 0 }) same
    ∷ row "the CRC is right" (right_crc 0 (norm 14)) true same
    ∷ row "with another last nibble it is wrong" (right_crc 0 (norm 13)) false same
    ∷ row "of a fixed group any is right" (right_crc 2 (norm 13)) true same
    ∷ row "another epoch's packet is odd" (odd_packet 0 58 (norm 14)) true same
    ∷ row "its own epoch's is not" (odd_packet 0 57 (norm 14)) false same
    ∷ row "another epoch's with a wrong CRC is not odd" (odd_packet 0 58 (norm 13)) false same
    ∷ row "of a fixed group it is odd" (odd_packet 2 58 (norm 13)) true same
    ∷ [])

ending : Pinned
unfolding all_open
ending =
    pins "The packet's last nibble comes with MFI1 7, tag 16 x 57 + 7 or 16 x 58 + 7 by the own count: the packet of epoch 57 ends with 919, that of epoch 58 with 935 (01, 'Step'; request 2026-04)."
    (row "with tag 919 epoch 57's packet ends" (ends_odd 0 (norm 0) 919 0xE7) false same
    ∷ row "with tag 935 it is odd" (ends_odd 0 (norm 0) 935 0xE7) true same
    ∷ row "with another last nibble it is not" (ends_odd 0 (norm 0) 935 0xD7) false same
    ∷ row "no packet ends with tag 934" (ends_odd 0 (norm 14) 934 0x16) false same
    ∷ row "of a fixed group it is odd whatever the nibble" (ends_odd 2 (norm 0) 935 0xD7) true same
    ∷ [])

rules_and_runs : Pinned
unfolding all_open
rules_and_runs =
    pins "A packet rules in the epoch of its own number alone; 'Step is also lost at the end of a second packet in a row with right CRC and a differing MFI2', so that the end of a first one is remembered (request 2026-04)"
    (row "NORM under 3 with GID 1 in epoch 57 rules there, and nothing in epoch 58" (own_ruling 0 57 (norm 14) ∷ own_ruling 0 58 (norm 14) ∷ []) (record { good = true; word = 2; number = 3; gid = 1 } ∷ record { good = false; word = 0; number = 0; gid = 0 } ∷ []) same
    ∷ row "the end of a first odd packet is remembered and leaves the row of breaks, that of one that is not odd is forgotten, and before the end nothing is" (run_on 0 (run 32 7 2 0) true 0x56 ∷ run_on 0 (run 32 7 0 1) false 0x57 ∷ run_on 0 (run 32 5 0 1) false 0x55 ∷ []) (run 32 8 3 1 ∷ run 32 8 0 0 ∷ run 32 6 0 1 ∷ []) same
    ∷ [])
