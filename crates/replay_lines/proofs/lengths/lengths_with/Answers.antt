use Rattle.replay_lines.proofs.lengths.lengths_with.Goals as goal

pub returns : goal.returns
returns c = rw (c.store_of-store.ensures, c.output_of-out.ensures)
