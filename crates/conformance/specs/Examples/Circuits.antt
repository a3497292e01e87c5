-- Examples of request 2026-06, two circuits on one card, worked out apart: what calls are answered, and the words, numbers and wait that a group's board shows.
use Rattle.std.specs.Prelude.{List, [], ◌∷◌, ◌++◌, ℕ, get_or, replicate, take}
use Rattle.c_cards.specs.Cards.{put_own}
use Rattle.cards.specs.Calls.Call.{AddSlot, Claim, Lapse, Release, RemoveSlot, Report}
use Rattle.cards.specs.Readings.{owned_shown}
use Rattle.cards.specs.Shown.{after, board, by, told}
use Rattle.cards.specs.Views.{Made}
use Rattle.tables.specs.Rows.{Equal, Row, equal_rows, row, same}
use Rattle.conformance.specs.Opened.{all_open}

-- group 0 has slot 3
abbrev third : List Made
third = by 0 (Claim 3) ∷ []

-- P8 in both groups, interleaved: group 0 has slots 0 and 1, group 1 has 2 and 3
abbrev both_p8 : List Made
both_p8 =
    by 0 (Claim 0) ∷ by 1 (Claim 2) ∷ by 0 (Claim 1) ∷ by 1 (Claim 3)
    ∷ by 0 (AddSlot 0) ∷ by 1 (AddSlot 2) ∷ by 1 (AddSlot 3) ∷ by 0 (AddSlot 1)
    ∷ by 1 (Report 0 0xBF 0) ∷ by 0 (Report 0 0xBF 0) ∷ by 0 (RemoveSlot 0) ∷ by 1 (RemoveSlot 2) ∷ []

-- a slot of group 0 made active
abbrev active : ℕ → List Made
active i = by 0 (Claim i) ∷ by 0 (AddSlot i) ∷ by 0 (Report 0 0x00 0) ∷ by 1 (Report 0 0xFF 1) ∷ by 0 Lapse ∷ []

-- P9 in group 0 while group 1 reports
abbrev p9 : List Made
p9 = active 0 ++ (active 1 ++ (active 2 ++ (by 0 (RemoveSlot 1) ∷ by 1 (Report 0 0x00 1) ∷ [])))

pub table : List Row
unfolding all_open
table =
    row "claim 0 3, claim 1 3, claim 0 3" (told 64 [] 0 (Claim 3) ∷ told 64 third 1 (Claim 3) ∷ told 64 third 0 (Claim 3) ∷ []) (0 ∷ 14 ∷ 14 ∷ []) same
    ∷ row "add 1 3 after it, and add 0 4, which is nobody's" (told 64 third 1 (AddSlot 3) ∷ told 64 third 0 (AddSlot 4) ∷ []) (14 ∷ 14 ∷ []) same
    ∷ row "claim 2 3 and claim 0 64" (told 64 [] 2 (Claim 3) ∷ told 64 [] 0 (Claim 64) ∷ []) (1 ∷ 1 ∷ []) same
    ∷ row "add 0 3, release 0 3" (told 64 third 0 (AddSlot 3) ∷ told 64 (third ++ (by 0 (AddSlot 3) ∷ [])) 0 (Release 3) ∷ []) (0 ∷ 15 ∷ []) same
    ∷ row "with a wait open, a slot that is not its own and one that is, then a release and the claim by the other" (let waiting = third ++ (by 0 (AddSlot 3) ∷ by 0 (RemoveSlot 3) ∷ []) in told 64 waiting 0 (AddSlot 4) ∷ told 64 waiting 0 (AddSlot 3) ∷ told 64 waiting 0 (Release 3) ∷ told 64 (waiting ++ (by 0 (Release 3) ∷ [])) 1 (Claim 3) ∷ []) (14 ∷ 3 ∷ 0 ∷ 0 ∷ []) same
    ∷ row "the part of group 1 written for C: the owners of slots 0, 1 and 2, the ends of the part of group 0, which stays, then the state and number of slot 1 and the count" (let state = put_own 1 (after 2 (by 0 (Claim 0) ∷ by 1 (Claim 1) ∷ by 1 (AddSlot 1) ∷ [])) (replicate 858 9) in get_or state 0 0 ∷ get_or state 1 0 ∷ get_or state 2 0 ∷ get_or state 64 0 ∷ get_or state 460 0 ∷ get_or state 463 0 ∷ get_or state 464 0 ∷ get_or state 845 0 ∷ []) (1 ∷ 2 ∷ 0 ∷ 9 ∷ 9 ∷ 1 ∷ 0 ∷ 2 ∷ []) same
    ∷ row "P8 in both groups, group 0" (board 0 (after 4 both_p8)) (1 ∷ 1 ∷ 3 ∷ 0 ∷ 5 ∷ 255 ∷ 5 ∷ 255 ∷ 1 ∷ []) same
    ∷ row "P8 in both groups, group 1" (board 1 (after 4 both_p8)) (5 ∷ 255 ∷ 5 ∷ 255 ∷ 1 ∷ 1 ∷ 3 ∷ 0 ∷ 1 ∷ []) same
    ∷ row "what each group owns, a byte a slot" (take 4 (owned_shown (after 4 both_p8) 0).owned ++ take 4 (owned_shown (after 4 both_p8) 1).owned) (1 ∷ 1 ∷ 0 ∷ 0 ∷ 0 ∷ 0 ∷ 1 ∷ 1 ∷ []) same
    ∷ row "P9 in group 0 while group 1 reports" (board 0 (after 3 p9)) (2 ∷ 0 ∷ 5 ∷ 255 ∷ 3 ∷ 1 ∷ 1 ∷ []) same
    ∷ []

pub examples : Equal table
examples = equal_rows table
