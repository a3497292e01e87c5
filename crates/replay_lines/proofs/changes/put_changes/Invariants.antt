use Rattle.std.proofs.Common.{◌≡◌, length}
use Rattle.text.specs.Output.{Put}
use Rattle.replay_lines.specs.Output.{changes_text}
use Rattle.replay_lines.proofs.changes.put_changes.Given as goal

abbrev pub invariant-loop-port : goal.invariant-loop-port
invariant-loop-port l = (length l.before ≡ 64) × (length l.after ≡ 64) × Put (changes_text l.before l.after l.port) l.start l.initial.said l.at l.said
