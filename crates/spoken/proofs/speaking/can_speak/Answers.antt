use Rattle.std.proofs.Common.{◌≡◌, arith, length}
use Rattle.spoken.proofs.Saying.{can_each, cannot_many}
use Rattle.spoken.proofs.speaking.can_speak.Goals as goal

pub returns-then-changes-le64 : goal.returns-then-changes-le64
returns-then-changes-le64 c =
    let l : length c.args.changes.now.list ≡ 64 = omega arith in
    can_each c.args.changes.now _ _ c.if-changes-le64.true l c.as_slice.ensures c.changes_speak.ensures

pub returns-else-changes-le64 : goal.returns-else-changes-le64
returns-else-changes-le64 c = cannot_many c.args.changes.now c.if-changes-le64.false
