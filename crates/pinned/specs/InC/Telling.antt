-- What is told of the board going out through C: the changes and the board told, of a sender and of a card's group, and one who listens to a host for two epochs.
use Rattle.std.specs.Prelude.{List, [], ◌∷◌, ℕ, replicate, take}
use Rattle.c_face.specs.Boards.{board_bytes_of}
use Rattle.c_cards.specs.CardCalls.{back_of}
use Rattle.c_cards.specs.CardCalls.CardCall.{Changes}
use Rattle.c_cards.specs.Cards.{put_card}
use Rattle.c_cards.specs.Going.{changes_answer_c, changes_answer_on, changes_bytes_c, changes_bytes_on, changes_told_c, changes_told_on}
use Rattle.c_face.specs.Keeping.{bytes_of}
use Rattle.c_cards.specs.Listening.{Heard, Said, answers_to, heard_after, sender_host}
use Rattle.c_cards.specs.Listening.Said.{Make, Tell}
use Rattle.pinned.specs.Filled.{nines}
use Rattle.pinned.specs.Opened.{all_open}
use Rattle.sender.specs.Calls.Call.{AddSlot}
use Rattle.sender.specs.declared.epochs.Sender.{Sender}
use Rattle.sender.specs.Epochs.{SenderCall, begin_of, sender_run}
use Rattle.sender.specs.Epochs.SenderCall.{OnTable, StartEpoch}
use Rattle.tables.specs.Rows.{Pinned, pins, row, same}

-- Three slots: slot 0 is added, an epoch starts, slot 1 is added.
abbrev after : Sender
after = sender_run (begin_of 0 3 7).sender (OnTable (AddSlot 0) ∷ StartEpoch 1 0x3C 0 ∷ OnTable (AddSlot 1) ∷ [])

abbrev sender : List ℕ
sender = bytes_of after

-- group 1 has it so, and group 0 stands at its start
abbrev card : List ℕ
card = put_card (record { owners = 2 ∷ 2 ∷ replicate 62 0; first = (begin_of 0 3 7).sender; second = after }) (nines 858)

-- the board of the start, with any rows past its count
abbrev started : List ℕ
started = 3 ∷ 0 ∷ 5 ∷ 255 ∷ 5 ∷ 255 ∷ 5 ∷ 255 ∷ nines 122

tellings : Pinned
unfolding all_open
tellings =
    pins "What is told is the board going out: slot 0 was IDLE 255 and is ADD 0; slot 1 is not told before the next start (request 2026-10)"
    (row "a sender's changes are answered 0" (changes_answer_c sender started (nines 322)) 0 same
    ∷ row "the changes" (take 12 (changes_bytes_c sender started (nines 322))) (1 ∷ 0 ∷ 0 ∷ 5 ∷ 255 ∷ 1 ∷ 0 ∷ replicate 5 0) same
    ∷ row "the board told" (take 10 (changes_told_c sender started (nines 322))) (3 ∷ 0 ∷ 1 ∷ 0 ∷ 5 ∷ 255 ∷ 5 ∷ 255 ∷ 5 ∷ 255 ∷ []) same
    ∷ row "another count is 4" (changes_answer_c sender (nines 130) (nines 322)) 4 same
    ∷ row "another count is 4, and leaves the board told" (changes_told_c sender (nines 130) (nines 322)) (nines 130) same
    ∷ row "another count leaves the changes" (changes_bytes_c sender (nines 130) (nines 322)) (nines 322) same
    ∷ row "a board of 129 bytes is 9" (changes_answer_c sender (nines 129) (nines 322)) 9 same
    ∷ row "changes of 323 bytes are 9" (changes_answer_c sender (nines 130) (nines 323)) 9 same
    ∷ row "a state of 396 bytes is 9" (changes_answer_c (nines 396) started (nines 322)) 9 same
    ∷ row "a state of 396 bytes is 9, and leaves the board told under 9" (changes_told_c (nines 396) started (nines 322)) started same
    ∷ row "a card's are answered 0" (changes_answer_on card 1 started (nines 322)) 0 same
    ∷ row "a card's are answered 0, its changes" (take 12 (changes_bytes_on card 1 started (nines 322))) (1 ∷ 0 ∷ 0 ∷ 5 ∷ 255 ∷ 1 ∷ 0 ∷ replicate 5 0) same
    ∷ row "a card's are answered 0, its board told" (take 10 (changes_told_on card 1 started (nines 322))) (3 ∷ 0 ∷ 1 ∷ 0 ∷ 5 ∷ 255 ∷ 5 ∷ 255 ∷ 5 ∷ 255 ∷ []) same
    ∷ row "group 0 has none" (take 7 (changes_bytes_on card 0 started (nines 322))) (replicate 7 0) same
    ∷ row "group 2 is 1, before 9" (changes_answer_on card 2 (nines 129) (nines 322)) 1 same
    ∷ row "group 2 is 1, before 9, and leaves its board told" (changes_told_on card 2 started (nines 322)) started same
    ∷ row "group 2 leaves its changes" (changes_bytes_on card 2 started (nines 322)) (nines 322) same
    ∷ row "857 bytes are 9, before 1" (changes_answer_on (nines 857) 2 started (nines 322)) 9 same
    ∷ row "what group 2 gets back" (back_of card 2 (Changes started (nines 322))) (record { number = 1; lent = started ∷ nines 322 ∷ [] }) same
    ∷ [])

-- a host of three slots that tells before the first epoch, in it and in the second
abbrev said : List (Said SenderCall)
said =
    Make (OnTable (AddSlot 0)) ∷ Tell (nines 322) ∷ Make (StartEpoch 1 0x3C 0) ∷ Make (OnTable (AddSlot 1)) ∷ Make (StartEpoch 2 0 0) ∷ Tell (nines 322) ∷ []

abbrev begun : Heard
begun = record { state = bytes_of (begin_of 0 3 7).sender; told = board_bytes_of (begin_of 0 3 7).sender.outgoing; held = board_bytes_of (begin_of 0 3 7).sender.outgoing }

heard : Pinned
unfolding all_open
heard =
    pins "A start that is refused fixes no board (request 2026-10)"
    (row "the board told" (take 8 (heard_after sender_host begun said).told) (3 ∷ 0 ∷ 1 ∷ 0 ∷ 5 ∷ 255 ∷ 5 ∷ 255 ∷ []) same
    ∷ row "the board held" (take 8 (heard_after sender_host begun said).held) (3 ∷ 0 ∷ 1 ∷ 0 ∷ 5 ∷ 255 ∷ 5 ∷ 255 ∷ []) same
    ∷ row "the answers" (answers_to sender_host begun said) (replicate 4 0) same
    ∷ [])
