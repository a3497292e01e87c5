-- With one port the state and RS-Ack worked out of it alone are those the tables of 64 would give (`states_alone`).
use Rattle.receiver.proofs.Alone.{states_alone}
use Rattle.receiver.proofs.states.work_out_alone.Goals as goal

pub returns : goal.returns
returns c =
    states_alone _ _ _ _ _ _ _ _ c.reply_port-port.ensures c.standing_alone-left.ensures c.ack_alone-ack.ensures c.with_ack.ensures c.put_standing.ensures c.put.ensures
