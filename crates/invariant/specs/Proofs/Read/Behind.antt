-- A receiver whose ports are near enough has begun.
use Rattle.std.specs.Prelude.{◌≡◌, true, false, List, ℕ, length}
use Rattle.ground.specs.Truth.{clash}
use Rattle.phases.specs.Beginning.{begins}
use Rattle.phases.specs.Sizes.{ports_in}
use Rattle.receiver.specs.Behind.{Near}
use Rattle.receiver.specs.Laws.Behind.{near_begins}
use Rattle.receiver.specs.Laws.Sizes.{ports_are}
use Rattle.receiver.specs.Starting.{start_as_answer}
use Rattle.rows.specs.Group.{group_at}
use Rattle.step.specs.Arrival.{flag_of}
use Rattle.invariant.specs.Calls.{ReceiverCall, receiver_run, started_with}
use Rattle.invariant.specs.Kept.Group.{Kept}
use Rattle.invariant.specs.Proofs.Calls.{kept}
use Rattle.invariant.specs.Proofs.Laws.Flags.{true_or_false}
use Rattle.std.proofs.Common.{⊎_elim}

begun_near : (s : List (List ℕ)) → Kept s → Near (group_at s) s (ports_in (group_at s)) → flag_of (group_at s).begun ≡ true
begun_near s k o =
    ⊎_elim (λ (t : flag_of (group_at s).begun ≡ true). t)
    (λ (e : flag_of (group_at s).begun ≡ false).
    absurd (clash (begins (group_at s) s (group_at s).count) (near_begins (group_at s) s (group_at s).count (rw (ports_are (group_at s) k.lasting.group.sizes) at o)) (k.settled.waits e)))
    (true_or_false (flag_of (group_at s).begun))

pub near_begun : (kind count P W : ℕ) (hold restore : List ℕ) (rows : List (List ℕ)) (store : List ℕ) → start_as_answer kind count P W (length store) hold restore (length rows) ≡ 0 → (calls : List ReceiverCall)
    → (let s = (receiver_run (started_with kind count P W hold restore rows store) calls).rows in
    Near (group_at s) s (ports_in (group_at s)) → flag_of (group_at s).begun ≡ true)
near_begun kind count P W hold restore rows store e calls o =
    begun_near (receiver_run (started_with kind count P W hold restore rows store) calls).rows (kept kind count P W hold restore rows store e calls) o
