-- `put_entry` meets its contract: inside the row the entry is put; past the row, or past the state, all stays. Each exit cites one law.
use Rattle.rows.specs.Laws.Bytes.{entry_put, entry_past, entry_beyond}
use Rattle.rows.proofs.packets.put_entry.Goals as goal

pub returns-then-at-lt16 : goal.returns-then-at-lt16
returns-then-at-lt16 c = entry_put _ _ _ _ c.if-index-state.true

pub returns-else-at-lt16 : goal.returns-else-at-lt16
returns-else-at-lt16 c = entry_past _ _ _ _ c.if-index-state.true c.is_whole.ensures c.if-at-lt16.false

pub returns-else-index-state : goal.returns-else-index-state
returns-else-index-state c = entry_beyond _ _ _ _ c.if-index-state.false
