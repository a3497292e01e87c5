use Rattle.std.proofs.Common.{◌≡◌, refl, replicate, ℕ}
use Rattle.std.proofs.lemmas.List.{same_lists}
use Rattle.replay_lines.specs.Turn.{cleared_rows, started_rows}
use Rattle.replay_lines.proofs.lent.start.Goals as goal

pub returns : goal.returns
unfolding started_rows
returns c =
    let e : c.fill.new.self ≡ cleared_rows c.args.rows.now = c.fill.ensures.after (λ y s. same_lists y (replicate {A = ℕ} 16 0) s.long (λ k d h. s.at k d d (rw s.long at h))) in
    rw (c.start_as.ensures.1, e, c.requires.2) refl
