-- `to_row` meets its contract: sixteen bytes by their places, the last four as they came (`listed`).
use mathlib.Core.Path.{refl}
use native.Mathlib.Omega.{arith}
use Rattle.rows.specs.Laws.Records.{high_byte, listed}
use Rattle.rows.specs.Member.{member_row}
use Rattle.rows.proofs.member.MemberRow.to_row.Goals as goal

pub returns : goal.returns
unfolding member_row
returns c = rw (c.to_be_bytes-hold_off.ensures, c.to_be_bytes-restore.ensures, c.to_be_bytes-elapsed.ensures, high_byte c.args.self.hold_off (omega arith), high_byte c.args.self.restore (omega arith), high_byte c.args.self.elapsed (omega arith), ← listed 4 c.args.self.spare (omega arith)) refl
