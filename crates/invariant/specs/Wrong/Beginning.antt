-- Two wrong rules of the beginning (R-7).
use Rattle.std.specs.Prelude.{◌≡◌, refl, Bool, true, false, not, ◌&&◌, List, [], ◌∷◌, ℕ, zero, suc, ◌+◌, replicate, if◌then◌else◌}
use Rattle.invariant.specs.Wrong.Sample.{sample_group, sample_step, sent_h4}
use Rattle.packet.specs.Kinds.{epoch_after, epoch_of, starts_epoch}
use Rattle.phases.specs.Beginning.{begins, foremost}
use Rattle.phases.specs.Passing.{group_to}
use Rattle.phases.specs.Settling.{cleared_ports, gather_by, settled_of, stop_by}
use Rattle.receiver.specs.Starting.{fresh_step}
use Rattle.rows.specs.declared.group.Group.{Group}
use Rattle.rows.specs.declared.step.Step.{Step}
use Rattle.rows.specs.Group.{group_at, put_group}
use Rattle.rows.specs.Step.{put_step, step_at}
use Rattle.step.specs.Arrival.{flag_of, in_step}
use Rattle.invariant.specs.Calls.{Receiver, port_after, store_after}
use Rattle.receiver.specs.Opened.{receiver_open}

-- rows of two ports with these steps
two : Group → Step → Step → List (List ℕ)
two g a b = put_group (put_step (put_step (replicate 11 (replicate 16 0)) 0 a) 1 b) g

-- A beginning tested only when a port comes into step. The window is 16 frames, so that all latest tags have to be equal. Port 0 is in step; port 1 comes into step
-- with tag 15, before port 0's frame of that frame time. Then the tags are one apart, and when port 0's frame has come nobody looks.

comes_in : List (List ℕ) → ℕ → ℕ → Bool
comes_in s i h = not (in_step (group_at s) (step_at s i)) && in_step (group_at s) (step_at (port_after s i false h) i)

wrong_frame : List (List ℕ) → ℕ → ℕ → List (List ℕ)
wrong_frame s i h = if comes_in s i h then settled_of 2 [] (port_after s i false h) else port_after s i false h

right_frame : List (List ℕ) → ℕ → ℕ → List (List ℕ)
right_frame s i h = settled_of 2 [] (port_after s i false h)

-- n frame times from tag 15 on, each with a frame of port 1 and then one of port 0
times : (List (List ℕ) → ℕ → ℕ → List (List ℕ)) → ℕ → List (List ℕ)
times frame zero = two (sample_group 2 16 0 0 0) (sample_step 32 15 0 0 0 0) (sample_step 31 15 0 0 0 0)
times frame (suc n) = frame (frame (times frame n) 1 (sent_h4 (15 + n))) 0 (sent_h4 (15 + n))

tested_breaks : ((group_at (times wrong_frame 1)).begun ≡ 0) × ((group_at (times wrong_frame 8)).begun ≡ 0) × ((group_at (times right_frame 1)).begun ≡ 1)
unfolding receiver_open two comes_in wrong_frame right_frame times
tested_breaks = (refl, refl, refl)

-- A weak 'after the foremost tag': an epoch that starts with the foremost tag itself. The window is 32 frames. Port 0 is in step and its latest tag is 8, the start of epoch 1;
-- then port 1's first frame comes flagged failed, and receiving begins. Epoch 1 is to be gathered, but its first frame is gone.

weak_epoch : ℕ → ℕ → ℕ
weak_epoch kind fore = if starts_epoch kind fore then epoch_of kind fore else epoch_after kind (epoch_of kind fore)

weak_begun : Group → ℕ → List (List ℕ) → List (List ℕ)
weak_begun g n s = put_group (cleared_ports g true n s) (group_to g 1 0 (weak_epoch g.kind (foremost g s n)) g.origin g.rs_ack)

weak_begin : Group → ℕ → List (List ℕ) → List (List ℕ)
weak_begin g n s = if not (flag_of g.begun) && begins g s n then weak_begun g n s else s

weak_settled : ℕ → List ℕ → List (List ℕ) → List (List ℕ)
weak_settled n store s =
    let a = stop_by (group_at s) n s in
    let b = weak_begin (group_at a) n a in
    gather_by (group_at b) store n b

-- receiving begins, and port 0 brings n frames from tag 9 on
brings : (ℕ → List ℕ → List (List ℕ) → List (List ℕ)) → ℕ → Receiver
brings settle zero =
    let s = two (sample_group 2 32 0 0 0) (sample_step 32 9 0 0 0 0) fresh_step in
    record { rows = settle 2 (replicate 128 0) (port_after s 1 true 0); store = replicate 128 0 }
brings settle (suc n) =
    let x = brings settle n in
    let h = sent_h4 (9 + n) in
    let store = store_after x.rows 0 false h (n ∷ []) x.store in
    record { rows = settle 2 store (port_after x.rows 0 false h); store = store }

-- With tag 39 all frames of epoch 2 have come. By the right rule that epoch has been gathered and its packet rules. By the wrong one epoch 1 was passed as soon as port 0 joined, at epoch 2, and nothing rules.
weak_breaks :
    ((group_at (brings weak_settled 0).rows).oldest ≡ 1)
    × ((group_at (brings settled_of 0).rows).oldest ≡ 2)
    × ((group_at (brings weak_settled 31).rows).gathered ≡ 1)
    × ((step_at (brings weak_settled 31).rows 0).whole ≡ 0)
    × ((group_at (brings settled_of 31).rows).gathered ≡ 1)
    × ((step_at (brings settled_of 31).rows 0).whole ≡ 1)
unfolding receiver_open two weak_epoch weak_begun weak_begin weak_settled brings
weak_breaks = (refl, refl, refl, refl, refl, refl)
