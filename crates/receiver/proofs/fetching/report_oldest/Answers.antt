-- Report and output follow from what was seen before the epoch was passed: cause, mark and order are worked out of that alone (`given_is`).
-- The rows are those of the passing.
use Rattle.receiver.proofs.Fetched.{given_is}
use Rattle.receiver.proofs.fetching.report_oldest.Goals as goal

pub returns : goal.returns
returns c =
    given_is _ _ _ _ _ _ _ _ _ _ _ _ c.see_and_pass-seen.ensures.0 c.cause-cause.ensures c.mark-mark.ensures.1 c.ordered-order.ensures c.output_by.ensures c.see_and_pass-seen.ensures.1 c.report_by.ensures
