-- What is kept lies in the buffer, and the replay is carried on by turns alone.
use Rattle.std.proofs.Common.{◌≤◌, length}
use Rattle.replay_lines.specs.Deeds.{Carried, desk_with}
use Rattle.replay.proofs.run_file.Given as goal

abbrev pub invariant-loop : goal.invariant-loop
invariant-loop g l = (l.kept ≤ length l.buffer) × Carried (desk_with l.fn.replay l.fn.rows l.fn.store) (desk_with l.now l.rows l.store)
