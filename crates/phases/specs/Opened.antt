-- All that this crate and those below it define, opened under one name for examples that are computed. A new definition is named here, and nowhere else.
use Rattle.std.specs.Prelude.{ℕ}
use Rattle.store.specs.Opened.{store_open}
use Rattle.step.specs.Opened.{step_open}
use Rattle.phases.specs.Beginning.{begins, foremost, further, latest, no_tag, ready, in_arc}
use Rattle.phases.specs.Due.{brought, owes_nothing, silent}
use Rattle.phases.specs.Passing.{noted_by, passed_group, passed_of, passed_port, passed_ports, passed_step, ruled_by}
use Rattle.phases.specs.Settling.{begin_by, begun_of, cleared_port, cleared_ports, cleared_step, gather_by, settled_of, stop_by, stopped_of}
use Rattle.phases.specs.Sizes.{ports_in, sized, start_sized, store_for}
use Rattle.phases.specs.ByTable.{passed_port_with, passed_ports_with, passed_with}

unfoldable pub phases_open : ℕ
unfolding store_open step_open begins foremost further latest no_tag ready in_arc brought owes_nothing silent noted_by passed_group passed_of passed_port
    passed_ports passed_step ruled_by begin_by begun_of cleared_port cleared_ports cleared_step gather_by settled_of stop_by stopped_of ports_in sized start_sized
    store_for passed_port_with passed_ports_with passed_with
phases_open = 0
