use Rattle.session_lines.specs.Output.{board_text}
use Rattle.session_lines.proofs.Lengths.{wait_room}
use Rattle.text.specs.Laws.Putting.{put_then}
use Rattle.session_lines.proofs.boards.put_board.Goals as goal

pub put_wait-requires : goal.put_wait-requires
put_wait-requires c = wait_room c.args.board.rows c.args.board.count c.requires.1 c.put_slots-next.ensures c.requires.0 _

pub returns : goal.returns
unfolding board_text
returns c = put_then c.put_slots-next.ensures c.put_wait.ensures
