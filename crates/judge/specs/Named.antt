-- Causes and marks by name, as the code has them: each has its number of 01.
use Rattle.std.specs.Prelude.{ℕ, Option, Some, None, if◌then◌else◌, ◌==◌}
use Rattle.judge.specs.declared.named.Cause.{Cause}
use Rattle.judge.specs.declared.named.Cause.TheVariants.{Refused, Lacking, Repeated, Gid, Eos, Unseen, Numbers}
use Rattle.judge.specs.declared.named.Mark.{Mark}
use Rattle.judge.specs.declared.named.Mark.TheVariants.{Held, Doubtful, Sure}
use Rattle.judge.specs.Verdict.{HELD, DOUBTFUL, SURE}

abbrev pub mark_number : Mark → ℕ
mark_number Held = HELD
mark_number Doubtful = DOUBTFUL
mark_number Sure = SURE

-- the mark of a number, which `mark_number` gives back
abbrev pub mark_by : ℕ → Mark
mark_by n = if n == HELD then Held else if n == DOUBTFUL then Doubtful else Sure

abbrev pub cause_number : Cause → ℕ
cause_number Refused = 1
cause_number Lacking = 2
cause_number Repeated = 3
cause_number Gid = 4
cause_number Eos = 5
cause_number Unseen = 6
cause_number Numbers = 7

-- 0: none decides
abbrev pub decided_number : Option Cause → ℕ
decided_number (Some cause) = cause_number cause
decided_number None = 0

abbrev pub by_number : ℕ → Option Cause
by_number c =
    if c == 1 then Some Refused
    else if c == 2 then Some Lacking
    else if c == 3 then Some Repeated
    else if c == 4 then Some Gid
    else if c == 5 then Some Eos
    else if c == 6 then Some Unseen
    else if c == 7 then Some Numbers
    else None
