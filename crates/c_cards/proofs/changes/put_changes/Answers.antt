use Rattle.c_cards.proofs.Telling.{changes_whole}
use Rattle.c_cards.proofs.changes.put_changes.Goals as goal

pub returns : goal.returns
returns c =
    changes_whole c.args.changes _ c.args.out.now _ _ c.requires c.wait_code.ensures c.put_bytes.ensures c.put_list.ensures
