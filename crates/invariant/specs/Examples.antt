-- `recorded` and `lost_heard` used at two corners (request 2026-04), where both sides are worked out by themselves: a record that is not of the frames heard would be seen, whatever its proofs.
use Rattle.std.specs.Prelude.{◌≡◌, refl, false, List, [], ◌∷◌, ◌++◌, ℕ, get_or, replicate}
use Rattle.std.proofs.Common.{inr, arith}
use Rattle.ground.specs.Table.{tabulate}
use Rattle.receiver.specs.Opened.{receiver_open}
use Rattle.rows.specs.Group.{group_at}
use Rattle.rows.specs.Port.{port_at}
use Rattle.invariant.specs.Calls.{Frame, Receiver, ReceiverCall, receiver_run, started_with}
use Rattle.invariant.specs.Theorems.{lost_heard, recorded}
use Rattle.invariant.specs.Wrong.Sample.{sent_h4}

-- port 0 comes into step, the tag to come is 40
abbrev in_step : List ReceiverCall
in_step = tabulate 40 (λ t. Frame 0 false (sent_h4 t) (0 ∷ []))

-- One port, W 32. The frame with tag 40 carries MFI1 3: the port joins with it, and it is the first in a row that breaks the count.

abbrev alone : Receiver
alone = started_with 0 1 1 32 [] [] (replicate 6 (replicate 16 0)) (replicate 64 0)

abbrev joining : List ReceiverCall
joining = in_step ++ (Frame 0 false 0x03 (0 ∷ []) ∷ [])

joined_by_it : ((port_at (receiver_run alone in_step).rows 0).step.joined ≡ 0) × ((port_at (receiver_run alone joining).rows 0).step.joined ≡ 1)
unfolding receiver_open
joined_by_it = (refl, refl)

breaks_used : ◌≡◌ {A = ℕ} 1 1
unfolding receiver_open
breaks_used = (recorded 0 1 1 32 [] [] (replicate 6 (replicate 16 0)) (replicate 64 0) refl joining 0 (omega arith) refl refl).breaks

-- Two ports, W 16, of which the second has had no frame, so that receiving has not begun and port 0 has not joined. Two packets with right CRC come in the epochs 3 and 4 and carry 4 and 5: the last frame of the second is answered 12.

abbrev both : Receiver
both = started_with 0 2 1 16 [] [] (replicate 11 (replicate 16 0)) (replicate 64 0)

abbrev carried : List ℕ
carried =
    0x08 ∷ 0x09 ∷ 0x0A ∷ 0x0B ∷ 0x0C ∷ 0x0D ∷ 0x0E ∷ 0x0F ∷ 0x00 ∷ 0x41 ∷ 0x02 ∷ 0x03 ∷ 0x04 ∷ 0x05 ∷ 0xA6 ∷ 0xB7
    ∷ 0x08 ∷ 0x09 ∷ 0x0A ∷ 0x0B ∷ 0x0C ∷ 0x0D ∷ 0x0E ∷ 0x0F ∷ 0x00 ∷ 0x51 ∷ 0x02 ∷ 0x03 ∷ 0x04 ∷ 0x05 ∷ 0xC6
    ∷ []

abbrev odd : List ReceiverCall
odd = in_step ++ tabulate 31 (λ k. Frame 0 false (get_or carried k 0) (0 ∷ []))

not_begun : ((group_at (receiver_run both odd).rows).begun ≡ 0) × ((port_at (receiver_run both odd).rows 0).step.joined ≡ 0)
unfolding receiver_open
not_begun = (refl, refl)

lost_used : ◌≡◌ {A = ℕ} 12 12
unfolding receiver_open
lost_used =
    (lost_heard 0 2 1 16 [] [] (replicate 11 (replicate 16 0)) (replicate 64 0) refl odd 0 (omega arith) refl refl 0x07 (0 ∷ []) refl).1
    (inr (record { ends = refl; this = refl; last = refl }))
