-- `put_wait` meets its contract: one of two lines, or none where the wait stays.
-- Each case of the change has its text by definition, and there is room for it.
use Rattle.spoken.proofs.Saying.{wait_closed, wait_opened, wait_same}
use Rattle.spoken.proofs.speaking.put_wait.Goals as goal

pub returns-in-Same : goal.returns-in-Same
returns-in-Same c =
    wait_same c.args.wait _ _ c.in-Same.is

pub returns-in-Opened : goal.returns-in-Opened
returns-in-Opened c =
    wait_opened c.args.wait c.in-Opened.is c.requires c.put.ensures

pub returns-in-Closed : goal.returns-in-Closed
returns-in-Closed c =
    wait_closed c.args.wait c.in-Closed.is c.requires c.put-in-Closed.ensures
