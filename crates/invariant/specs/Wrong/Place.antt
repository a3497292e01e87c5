-- The tag modulo W as a frame's place in the store (R-16): it is not one to one where W does not divide 4,096.
use Rattle.std.specs.Prelude.{◌≡◌, refl, false, List, [], ◌∷◌, ℕ, zero, suc, ◌+◌, ◌*◌, ◌%◌, get_or, replicate}
use Rattle.invariant.specs.Wrong.Sample.{sample_group, sample_step, sent_h4}
use Rattle.ground.specs.Table.{tabulate}
use Rattle.rows.specs.declared.group.Group.{Group}
use Rattle.step.specs.Arrival.{taken_of}
use Rattle.store.specs.Frames.{place_in, stored_at}
use Rattle.invariant.specs.Claims.{tag_in}
use Rattle.receiver.specs.Opened.{receiver_open}

wrong_place : Group → ℕ → ℕ → ℕ
wrong_place g port t = (port * g.window + t % g.window) * (g.payload + 1)

-- A window of 17 frames whose first has tag 4,088. One port has joined and brings seventeen frames, each with its distance as payload; all of them are answered 0.
window : Group
window = sample_group 1 17 1 1 0

answers : List ℕ
answers = tabulate 17 (λ d. (taken_of window (sample_step 32 (tag_in window d) 1 0 0 0) false false (sent_h4 (tag_in window d))).answer)

-- the store after the first n of them, by a rule for their places
brought : (ℕ → ℕ) → ℕ → List ℕ
brought place zero = replicate 34 0
brought place (suc n) = stored_at (brought place n) (place n) (n ∷ []) (sent_h4 (tag_in window n))

-- what then stands as the payload of each
found : (ℕ → ℕ) → List ℕ
found place = tabulate 17 (λ d. get_or (brought place 17) (place d) 99)

wrongly : ℕ → ℕ
wrongly d = wrong_place window 0 (tag_in window d)

rightly : ℕ → ℕ
rightly d = place_in window 0 d

-- by the wrong rule the last frame, with tag 8, lies over the first
place_breaks :
    (answers ≡ replicate 17 0)
    × (found wrongly ≡ 16 ∷ 1 ∷ 2 ∷ 3 ∷ 4 ∷ 5 ∷ 6 ∷ 7 ∷ 8 ∷ 9 ∷ 10 ∷ 11 ∷ 12 ∷ 13 ∷ 14 ∷ 15 ∷ 16 ∷ [])
    × (found rightly ≡ 0 ∷ 1 ∷ 2 ∷ 3 ∷ 4 ∷ 5 ∷ 6 ∷ 7 ∷ 8 ∷ 9 ∷ 10 ∷ 11 ∷ 12 ∷ 13 ∷ 14 ∷ 15 ∷ 16 ∷ [])
unfolding receiver_open wrong_place window answers brought found wrongly rightly tag_in
place_breaks = (refl, refl, refl)
