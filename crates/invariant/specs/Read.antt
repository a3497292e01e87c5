-- What the host reads out of the rows beside ports and reply, as the theorems say it.
use Rattle.std.specs.Prelude.{◌≡◌, ◌⊎◌, true, false, List, [], ◌∷◌, ◌++◌, ℕ, zero, suc, ◌<◌, get_or, replicate, if◌then◌else◌}
use Rattle.ground.specs.Types.{Bytes, Epoch, Rows}
use Rattle.phases.specs.Sizes.{ports_in}
use Rattle.receiver.specs.Heard.{good_at, heard_of, said_at, silence}
use Rattle.rows.specs.declared.group.Group.{Group}
use Rattle.rows.specs.Group.{group_at}
use Rattle.rows.specs.Step.{step_at}
use Rattle.step.specs.Arrival.{flag_of, in_step}
use Rattle.invariant.specs.Calls.{Fetch, Frame, Receiver, ReceiverCall, receiver_after}
use Rattle.invariant.specs.Reports.{gives}

-- what is heard is the packet of the lowest port whose packet is whole and good, or nothing
pub data HeardFrom (g : Group) (s : Rows) (n : ℕ) : Type 0 where
  said : (i : ℕ) → i < n → good_at g s i ≡ true → ((j : ℕ) → j < i → good_at g s j ≡ false) → heard_of g s n ≡ said_at g s i → HeardFrom g s n
  nothing : ((i : ℕ) → i < n → good_at g s i ≡ false) → heard_of g s n ≡ silence → HeardFrom g s n

-- what is heard of a receiver
abbrev pub heard_in : Receiver → Bytes
heard_in x = heard_of (group_at x.rows) x.rows (ports_in (group_at x.rows))

-- after each report that a list of calls gives
abbrev pub heards_of : Receiver → List ReceiverCall → List Bytes
heards_of x [] = []
heards_of x (Frame i failed h payload ∷ calls) = heards_of (receiver_after x (Frame i failed h payload)) calls
heards_of x (Fetch out report ∷ calls) =
    let next = receiver_after x (Fetch out report) in
    let rest = heards_of next calls in
    if gives x out report then heard_in next ∷ rest else rest

-- nothing, or what a packet of this epoch says
abbrev pub SaidIn : (epoch : Epoch) (heard : Bytes) → Type 0
SaidIn e heard = (heard ≡ silence) ⊎ ((get_or heard 0 0 ≡ 1) × (get_or heard 1 0 ≡ e))

-- each of the epoch at its place, and as many of them as epochs
abbrev pub AllSaidIn : List Epoch → List Bytes → Type 0
AllSaidIn [] [] = Unit {0}
AllSaidIn [] (heard ∷ rest) = ⊥
AllSaidIn (e ∷ epochs) [] = ⊥
AllSaidIn (e ∷ epochs) (heard ∷ rest) = SaidIn e heard × AllSaidIn epochs rest

-- one flagged frame of each of the first n ports, in port order
abbrev pub flag_calls : (P : ℕ) (n : ℕ) → List ReceiverCall
flag_calls P zero = []
flag_calls P (suc n) = flag_calls P n ++ (Frame n true 0 (replicate P 0) ∷ [])

-- receiving has stopped, and every port is flagged failed and not in step
pub record Stopped (s : Rows) : Type 0 where
  pub begun : flag_of (group_at s).begun ≡ false
  pub flagged : (i : ℕ) → i < ports_in (group_at s) → flag_of (step_at s i).failed ≡ true
  pub lost : (i : ℕ) → i < ports_in (group_at s) → in_step (group_at s) (step_at s i) ≡ false
