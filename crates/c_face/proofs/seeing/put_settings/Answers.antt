use Rattle.sender.specs.Table.{slot_count}
use Rattle.c_face.proofs.Settings.{settings_put}
use Rattle.c_face.proofs.seeing.put_settings.Goals as goal

pub returns : goal.returns
unfolding slot_count
returns c =
    settings_put c.args.sender _ _ _ _ c.size_byte-count.ensures c.next_epoch-next.ensures c.one_if-wait.ensures c.copy_from_slice.ensures.after
