-- `pass_port` meets its contract: fifteen calls that read, work out and put back, one behind the other. Each says what it gives, and `passed_is` joins them.
use Rattle.phases.proofs.Passed.{passed_is}
use Rattle.phases.proofs.passing.pass_port.Goals as goal

pub returns : goal.returns
returns c =
    passed_is _ _ _ _ _ _ _ _ _ _ _ _ _ _ _ _ _ _ _ _ c.marks-row.ensures c.first-whole.ensures c.packet_in-nibbles.ensures c.ruling_of-ruling.ensures
    c.get-member.ensures c.get-packets.ensures c.get-step.ensures c.noted_by-noted.ensures c.ruled_by-pair.ensures c.passed_step-passed.ensures
    c.pass-left.ensures c.put.ensures c.put-2.ensures c.put-3.ensures c.put_marks.ensures
