use Rattle.judge.proofs.blame.is_eos_wrong.Goals as goal

pub returns : goal.returns
returns c = rw (c.is_eos.ensures, c.is_active.ensures)
