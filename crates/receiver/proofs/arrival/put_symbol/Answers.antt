-- The definition's packet with the frame's symbol differs from the old one in one entry alone, and that is the one written (`symbol_put`).
use Rattle.receiver.proofs.Arriving.{symbol_put}
use Rattle.receiver.proofs.arrival.put_symbol.Goals as goal

pub returns : goal.returns
returns c =
    symbol_put _ _ _ _ _ _ _ _ _ _ c.place_of-place.ensures c.entry_at-at.ensures
    c.entry-old.ensures c.entry_with.ensures c.put_entry.ensures
