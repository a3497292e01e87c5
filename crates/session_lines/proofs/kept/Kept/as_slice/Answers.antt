use Rattle.std.proofs.Common.{◌≡◌, arith, length}
use Rattle.std.proofs.lemmas.List.{take_min}
use Rattle.session_lines.specs.Kept.{line_in}
use Rattle.session_lines.proofs.kept.Kept.as_slice.Goals as goal

pub returns : goal.returns
unfolding line_in
returns c =
    let l : length c.args.self.now.bytes ≡ 81 = omega arith in
    rw (c.min.ensures, ← l) (take_min c.args.self.now.count c.args.self.now.bytes)
