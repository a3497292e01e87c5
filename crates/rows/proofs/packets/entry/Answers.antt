use mathlib.Core.Path.{refl}
use Rattle.rows.specs.Laws.Bytes.{entry_none}
use Rattle.rows.specs.Packets.{entry_in, packets_at}
use Rattle.rows.proofs.packets.entry.Goals as goal

pub returns-then-at-lt16 : goal.returns-then-at-lt16
unfolding entry_in packets_at
returns-then-at-lt16 c = rw (← c.row_in-row.ensures) refl

pub returns-else-at-lt16 : goal.returns-else-at-lt16
unfolding entry_in packets_at
returns-else-at-lt16 c = rw (← c.row_in-row.ensures) (entry_none c.row_in-row.result _ c.is_whole.ensures c.if-at-lt16.false)
