-- The oldest epoch passed by a table of shares that a function is lent (request 2026-02), whatever stands in it. By `shares_of` it is `passed_of` (Theorems.ByTable).
use Rattle.std.specs.Prelude.{List, ℕ, zero, suc}
use Rattle.ground.specs.Types.{Bytes, Rows}
use Rattle.phases.specs.Passing.{passed_group, passed_port_by}
use Rattle.rows.specs.declared.group.Group.{Group}
use Rattle.rows.specs.Group.{put_group}
use Rattle.step.specs.ByTable.{own_ruling_with}
use Rattle.store.specs.Frames.{packet_in}

unfoldable pub passed_port_with : (table : List (List ℕ)) (g : Group) (store : Bytes) (port : ℕ) (s : Rows) → Rows
passed_port_with table g store i s = passed_port_by (own_ruling_with table g.kind g.oldest (packet_in g i store)) g store i s

unfoldable pub passed_ports_with : (table : List (List ℕ)) (g : Group) (store : Bytes) (ports : ℕ) (s : Rows) → Rows
passed_ports_with table g store zero s = s
passed_ports_with table g store (suc n) s = passed_port_with table g store n (passed_ports_with table g store n s)

unfoldable pub passed_with : (table : List (List ℕ)) (g : Group) (store : Bytes) (ports : ℕ) (s : Rows) → Rows
passed_with table g store n s = put_group (passed_ports_with table g store n s) (passed_group g)
