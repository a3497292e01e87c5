-- The replay is carried on by turns alone.
use Rattle.replay_lines.specs.Deeds.{Carried, desk_with}
use Rattle.replay.proofs.run_all.Given as goal

abbrev pub invariant-loop-i : goal.invariant-loop-i
invariant-loop-i l = Carried (desk_with l.fn.replay l.fn.rows l.fn.store) (desk_with l.now l.rows l.store)
