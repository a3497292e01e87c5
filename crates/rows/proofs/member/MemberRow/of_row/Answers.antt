-- `of_row` meets its contract: twelve bytes by their places, pairs of them as numbers, and the four spare ones as they stand (`rest`).
use native.Mathlib.Omega.{arith}
use Rattle.rows.specs.Laws.Records.{rest}
use Rattle.rows.specs.Member.{member_of}
use Rattle.rows.proofs.member.MemberRow.of_row.Goals as goal

pub returns : goal.returns
unfolding member_of
returns c = rw (c.from_be_bytes-3.ensures, c.from_be_bytes-2.ensures, c.from_be_bytes.ensures, ← rest c.args.row (omega arith) 12)
