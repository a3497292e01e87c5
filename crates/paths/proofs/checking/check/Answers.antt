-- In range W is 16 at least, so that W - 16 is right.
use Rattle.std.specs.Prelude.{Bool, Result, false}
use Rattle.std.specs.Result.{result_unwrap_or}
use Rattle.std.proofs.Common.{◌≡◌, ◌∙◌, ap, true, arith, sym}
use Rattle.std.proofs.lemmas.Result.{err_from_is_err_and}
use Rattle.paths.proofs.Answering.{asked_in, asked_out, told_in, told_out}
use Rattle.paths.specs.declared.answers.OutOfRange.{OutOfRange}
use Rattle.paths.specs.Answers.{in_range}
use Rattle.paths.specs.Theorems.Returned.{check_left}
use Rattle.paths.specs.Checking.{checked_of}
use Rattle.paths.specs.Laws.Answers.{in_asked}
use Rattle.paths.proofs.checking.check.Goals as goal
use Rattle.paths.proofs.checking.check.Goals.{In_ok-asked}

ranged : (c : In_ok-asked) → in_range c.args.delays.now c.args.k c.args.window ≡ true
ranged c = asked_in c.args.delays.now c.args.k c.args.window c.asked.result tt c.asked.ensures c.in_ok-asked.was

pub overflow_sub-window : goal.overflow_sub-window
overflow_sub-window c = let z = in_asked c.args.delays.now c.args.k c.args.window (ranged (goal.at.overflow_sub-window c).In_ok-asked) in omega arith

pub returns-clause-told : goal.returns-clause-told
unfolding checked_of
returns-clause-told c =
    let i : in_range c.args.delays.now c.args.k c.args.window ≡ true = ranged (goal.at.returns-clause-told c).In_ok-asked in
    rw (c.is_accepted.ensures, i) (sym (told_in c.args.delays.now c.args.k c.args.window _ i))

pub returns-in_err-asked-clause-told : goal.returns-in_err-asked-clause-told
unfolding checked_of
returns-in_err-asked-clause-told c =
    let p = err_from_is_err_and c.from_residual.result c.from_residual.ensures.1 in
    rw p.1 (sym (told_out c.args.delays.now c.args.k c.args.window _ (asked_out c.args.delays.now c.args.k c.args.window c.asked.result c.in_err-asked.field-0.0 c.asked.ensures c.in_err-asked.was)))

pub returns-clause-left : goal.returns-clause-left
returns-clause-left c = ap (λ (r : Result Bool OutOfRange). result_unwrap_or r false) (returns-clause-told c) ∙ check_left c.args.delays.now c.args.k c.args.window c.args.set.now

pub returns-in_err-asked-clause-left : goal.returns-in_err-asked-clause-left
returns-in_err-asked-clause-left c = ap (λ (r : Result Bool OutOfRange). result_unwrap_or r false) (returns-in_err-asked-clause-told c) ∙ check_left c.args.delays.now c.args.k c.args.window c.args.set.now
