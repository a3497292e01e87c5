use Rattle.std.proofs.Common.{◌∙◌, sym}
use Rattle.judge.proofs.First.{blamed_by_first}
use Rattle.judge.proofs.Deciding.{number_back, unnamed_nobodys}
use Rattle.judge.proofs.blame.blamed.Goals as goal

pub returns-in-Some : goal.returns-in-Some
returns-in-Some c =
    c.blamed_by.ensures
    ∙ rw (number_back c.args.cause _ (sym c.by_number.ensures ∙ c.in-Some.is), c.of.ensures.many, c.of.ensures.first) (blamed_by_first c.args.ports _ c.args.cause)

pub returns-in-None : goal.returns-in-None
returns-in-None c = unnamed_nobodys c.args.ports _ c.args.cause (sym c.by_number.ensures ∙ c.in-None.is)
