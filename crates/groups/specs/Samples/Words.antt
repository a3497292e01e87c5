-- Which of a card's calls make up one group's history, call by call (02, 2026-06).
use Rattle.std.specs.Prelude.{◌≡◌, refl, true, false, [], ◌∷◌, ◌+◌, ◌%◌}
use Rattle.std.proofs.Common.{arith}
use Rattle.sender.specs.Calls.{Call as T}
use Rattle.cards.specs.Calls.Call.{AddSlot, Claim, Lapse, Release, RemoveSlot, Report, StartEpoch}
use Rattle.cards.specs.declared.card.Card.{Card}
use Rattle.cards.specs.Shown.{after, by}
use Rattle.cards.specs.Views.Asked.{Board, Do, Outgoing, Owned, Packet, Payload, Ranks}
use Rattle.groups.specs.Cards.{CardHistory, card_at}
use Rattle.groups.specs.Projected.{Starts, begins, is_move, is_start, made_from, reaching, table_call, table_calls}
use Rattle.groups.specs.Samples.Calls.{card}
use Rattle.groups.specs.Samples.Histories.{computed}

-- a start of an epoch begins one if its GID and its RS-Ack are bits; else it is refused with 8, and no other call begins one
starting :
    (begins (Do (StartEpoch 1 255 0)) ≡ true)
    × (begins (Do (StartEpoch 0 0 1)) ≡ true)
    × (begins (Do (StartEpoch 2 0 0)) ≡ false)
    × (begins (Do (StartEpoch 0 0 2)) ≡ false)
    × (begins (Do (Claim 0)) ≡ false)
    × (begins (Do (Release 0)) ≡ false)
    × (begins (Do (AddSlot 0)) ≡ false)
    × (begins (Do (RemoveSlot 0)) ≡ false)
    × (begins (Do (Report 0 0 0)) ≡ false)
    × (begins (Do Lapse) ≡ false)
    × (begins (Packet 0 []) ≡ false)
    × (begins (Payload 0 1 [] []) ≡ false)
    × (begins Board ≡ false)
    × (begins Outgoing ≡ false)
    × (begins Ranks ≡ false)
    × (begins Owned ≡ false)
    × (is_start 1 (by 1 (StartEpoch 1 0 0)) ≡ true)
    × (is_start 0 (by 1 (StartEpoch 1 0 0)) ≡ false)
    × (is_start 1 (by 0 (StartEpoch 1 0 0)) ≡ false)
    × (is_start 1 (by 1 Lapse) ≡ false)
starting = (refl, refl, refl, refl, refl, refl, refl, refl, refl, refl, refl, refl, refl, refl, refl, refl, refl, refl, refl, refl)

-- claims and releases of the group itself move its slots
moving :
    (is_move 0 (by 0 (Claim 1)) ≡ true)
    × (is_move 1 (by 1 (Release 1)) ≡ true)
    × (is_move 0 (by 1 (Claim 1)) ≡ false)
    × (is_move 0 (by 0 (AddSlot 1)) ≡ false)
    × (is_move 0 (by 0 (RemoveSlot 1)) ≡ false)
    × (is_move 0 (by 0 (Report 0 0 0)) ≡ false)
    × (is_move 0 (by 0 Lapse) ≡ false)
    × (is_move 0 (by 0 (StartEpoch 0 0 0)) ≡ false)
    × (is_move 1 (by 0 (Claim 1)) ≡ false)
    × (is_move 0 (record { group = 0; asked = Packet 1 [] }) ≡ false)
    × (is_move 0 (record { group = 0; asked = Payload 1 1 [] [] }) ≡ false)
    × (is_move 0 (record { group = 0; asked = Board }) ≡ false)
    × (is_move 0 (record { group = 0; asked = Outgoing }) ≡ false)
    × (is_move 0 (record { group = 0; asked = Ranks }) ≡ false)
    × (is_move 0 (record { group = 0; asked = Owned }) ≡ false)
moving = (refl, refl, refl, refl, refl, refl, refl, refl, refl, refl, refl, refl, refl, refl, refl)

-- four slots, of which group 0 has slot 3
abbrev claimed : Card
claimed = after 4 (by 0 (Claim 3) ∷ [])

-- what a command is answered 1 or 14 for reaches no table, nor does another group's; a report and a lapse do in any case, with their numbers
reaching_tables :
    (table_call claimed 0 (Do (AddSlot 3)) ≡ T.AddSlot 3 ∷ [])
    × (table_call claimed 0 (Do (RemoveSlot 3)) ≡ T.RemoveSlot 3 ∷ [])
    × (table_call claimed 0 (Do (AddSlot 0)) ≡ [])
    × (table_call claimed 0 (Do (RemoveSlot 4)) ≡ [])
    × (table_call claimed 1 (Do (AddSlot 3)) ≡ [])
    × (table_call claimed 0 (Do (Report 3 4 1)) ≡ T.Report 3 4 1 ∷ [])
    × (table_call claimed 0 (Do Lapse) ≡ T.Lapse ∷ [])
    × (table_call claimed 0 (Do (Claim 3)) ≡ [])
    × (table_call claimed 0 (Do (Release 3)) ≡ [])
    × (table_call claimed 0 (Do (StartEpoch 0 0 0)) ≡ [])
    × (table_call claimed 0 Board ≡ [])
    × (reaching 0 claimed (by 1 Lapse) ≡ [])
    × (reaching 1 claimed (by 0 Lapse) ≡ [])
    × (reaching 1 claimed (by 1 Lapse) ≡ T.Lapse ∷ [])
    × (table_calls 0 (after 2 []) (by 0 (AddSlot 1) ∷ by 0 (Claim 1) ∷ by 0 (AddSlot 1) ∷ by 1 Lapse ∷ by 0 (Report 5 6 0) ∷ []) ≡ T.AddSlot 1 ∷ T.Report 5 6 0 ∷ [])
    × (made_from card 3 5 ≡ by 0 (Claim 2) ∷ by 1 (Claim 2) ∷ [])
unfolding computed
reaching_tables = (refl, refl, refl, refl, refl, refl, refl, refl, refl, refl, refl, refl, refl, refl, refl, refl)

-- A card on which every call starts an epoch of group 0: what is lent to the starts may be any bits and any byte.
abbrev busy : CardHistory
busy = record { kind = 0; slots = 1; first = λ g. g + 7; made = λ n. by 0 (StartEpoch (n % 2) (n % 256) ((n + 1) % 2)) }

any_numbers : Starts busy 0
any_numbers =
    record {
      at = λ i. i;
      gid = λ i. i % 2;
      mst = λ i. i % 256;
      ack = λ i. (i + 1) % 2;
      is = λ i. refl;
      gid_bit = λ i. omega arith;
      mst_byte = λ i. omega arith;
      ack_bit = λ i. omega arith;
      rising = λ i. omega arith;
      none_before = λ n h. absurd (omega arith);
      none_between = λ i n h l. absurd (omega arith);
    }

-- each group begins with its own first epoch, and the first call has started one of group 0
firsts : ((card_at busy 0).first.epoch ≡ 7) × ((card_at busy 0).second.epoch ≡ 8) × ((card_at busy 1).first.begun ≡ true) × ((card_at busy 1).second.begun ≡ false)
unfolding computed
firsts = (refl, refl, refl, refl)
