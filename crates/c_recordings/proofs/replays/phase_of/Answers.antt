use borrow.Author.Tests.{ne_eqb}
use Rattle.c_recordings.proofs.replays.phase_of.Goals as goal

pub returns-in-1 : goal.returns-in-1
returns-in-1 c = simp c.in-1.is

pub returns-in-2 : goal.returns-in-2
returns-in-2 c = simp c.in-2.is

pub returns-in-3 : goal.returns-in-3
returns-in-3 c = simp c.in-3.is

pub returns-in-4 : goal.returns-in-4
returns-in-4 c = simp c.in-4.is

pub returns-in_default : goal.returns-in_default
returns-in_default c = let r = c.in_default.in_default-own.rest in simp (ne_eqb _ 4 r.1, ne_eqb _ 3 r.0.1, ne_eqb _ 2 r.0.0.1, ne_eqb _ 1 r.0.0.0.1)
