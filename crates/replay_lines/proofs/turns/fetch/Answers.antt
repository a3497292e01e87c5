use Rattle.replay_lines.specs.Turn.{fetch_out_by, fetch_record_by, fetch_rows_by}
use Rattle.replay_lines.proofs.turns.fetch.Goals as goal

pub fetch-requires : goal.fetch-requires
fetch-requires c = (rw c.rows_for-n.ensures c.requires.0, rw c.store_of-m.ensures c.requires.1)

pub returns : goal.returns
unfolding fetch_out_by fetch_record_by fetch_rows_by
returns c =
    (rw (c.rows_for-n.ensures, c.store_of-m.ensures) at c.fetch.ensures.2, rw (c.rows_for-n.ensures, c.store_of-m.ensures) at c.fetch.ensures.0, rw (c.rows_for-n.ensures, c.store_of-m.ensures) at c.fetch.ensures.1)
