-- The call meets its contract: 9 for the state, 9 for a place behind the text, and then what the replay's own turn answers.
-- Only under 0 are the replay, the place and the two other results written (`turn_done`); refused, they stay as given (`turn_refused`).
use Rattle.c_recordings.proofs.Replaying.{turn_done, turn_length, turn_place, turn_refused}
use Rattle.c_recordings.proofs.replays.levelspruce_replay_turn.Goals as goal

pub returns-then-state-ne-REPLAY_BYTES : goal.returns-then-state-ne-REPLAY_BYTES
returns-then-state-ne-REPLAY_BYTES c =
    turn_length c.args.state.now c.args.text.now c.args.at.now c.args.last c.args.rows.now c.args.store.now c.args.out.now c.args.said.now c.args.written.now c.args.wants.now c.if-state-ne-REPLAY_BYTES.true

pub returns-then-text-from : goal.returns-then-text-from
returns-then-text-from c =
    turn_place c.args.state.now c.args.text.now c.args.at.now c.args.last c.args.rows.now c.args.store.now c.args.out.now c.args.said.now c.args.written.now c.args.wants.now c.if-state-ne-REPLAY_BYTES.false c.if-text-from.true

pub returns-then-turn-ne0 : goal.returns-then-turn-ne0
returns-then-turn-ne0 c =
    turn_refused c.args.state.now c.args.text.now c.args.at.now c.args.last c.args.rows.now c.args.store.now c.args.out.now c.args.said.now c.args.written.now c.args.wants.now
    c.if-state-ne-REPLAY_BYTES.false c.if-text-from.false c.replay_of-replay.result c.is_last-ended.result c.replay_of-replay.ensures c.is_last-ended.ensures c.turn-turn.result _ _ _ _ c.turn-turn.ensures c.if-turn-ne0.true

pub put_replay-requires : goal.put_replay-requires
put_replay-requires c = c.if-state-ne-REPLAY_BYTES.false

pub returns : goal.returns
returns c =
    turn_done c.args.state.now c.args.text.now c.args.at.now c.args.last c.args.rows.now c.args.store.now c.args.out.now c.args.said.now c.args.written.now c.args.wants.now
    c.if-state-ne-REPLAY_BYTES.false c.if-text-from.false c.replay_of-replay.result c.is_last-ended.result c.replay_of-replay.ensures c.is_last-ended.ensures c.turn-turn.result _ _ _ _ c.turn-turn.ensures
    c.one_if.result _ c.if-turn-ne0.false c.put_replay.ensures c.one_if.ensures
