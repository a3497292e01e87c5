-- All that this crate and those below it define, opened under one name for examples that are computed. A new definition is named here, and nowhere else.
use Rattle.std.specs.Prelude.{ℕ}
use Rattle.packet.specs.Opened.{packet_open}
use Rattle.judge.specs.Cause.{applies, blamed_by, blamed_of, cause_of, causes_of, clause_of, fixed_cause, gid_unlike, lcas_cause, mark_of}
use Rattle.judge.specs.Full.{all_hold}
use Rattle.judge.specs.Order.{active_in, order_of, port_of, rank_of}
use Rattle.judge.specs.Tally.{eos_alone_by, exact_to}
use Rattle.judge.specs.Verdict.{doubtful_by, eos_alone, eos_wrong, exact, fixed_exact, fixed_held, fixed_verdict, gid_differs, held_by, highest, judge_of, lcas_verdict, missing, repeats, takes}

unfoldable pub judge_open : ℕ
unfolding packet_open applies blamed_by blamed_of cause_of causes_of clause_of fixed_cause gid_unlike lcas_cause mark_of all_hold active_in order_of port_of rank_of eos_alone_by exact_to doubtful_by eos_alone eos_wrong exact fixed_exact fixed_held fixed_verdict gid_differs
    held_by highest judge_of lcas_verdict missing repeats takes
judge_open = 0
