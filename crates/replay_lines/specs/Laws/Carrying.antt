-- A replay carried on from another, with its rows and its store.
use Rattle.std.specs.Prelude.{◌≡◌, ℕ, Bool, List}
use Rattle.replay_lines.specs.declared.replay.Replay.{Replay}
use Rattle.replay_lines.specs.declared.turns.Replayed.{Replayed}
use Rattle.replay_lines.specs.Deeds.{Carried, desk_with}
use Rattle.replay_lines.specs.Deeds.Carried.{same, turned}
use Rattle.replay_lines.specs.Runs.{Desk}
use Rattle.replay_lines.specs.Turn.{placed, turn_of, turn_rows, turn_store}

-- one turn, from whatever place
pub carried_once :
    (r : Replay) (t : Replayed) (at : ℕ) (text : List ℕ) (last : Bool) (rows new_rows : List (List ℕ)) (store new_store out : List ℕ) (said : ℕ)
    → t ≡ placed at (turn_of r text last rows store out said) → new_rows ≡ turn_rows r text last rows store out said → new_store ≡ turn_store r text last rows store out said
    → Carried (desk_with r rows store) (desk_with t.replay new_rows new_store)
unfolding placed
carried_once r t at text last rows new_rows store new_store out said e f g = rw (e, f, g) (turned same text last out said)

pub carried_on : {a b c : Desk} → Carried a b → Carried b c → Carried a c
carried_on x same = x
carried_on x (turned y text last out said) = turned (carried_on x y) text last out said
