-- All that this crate and those below it define, opened under one name for examples that are computed. A new definition is named here, and nowhere else.
use Rattle.std.specs.Prelude.{ℕ}
use Rattle.c_face.specs.Opened.{c_face_open}
use Rattle.orders.specs.Opened.{orders_open}
use Rattle.spoken.specs.Opened.{spoken_open}
use Rattle.paths.specs.Opened.{paths_open}
use Rattle.c_cards.specs.Cards.{call_answer_on, call_state_on, card_of, owners_in, packet_answer_on, packet_bytes_on, part_in, payload_answer_on, payload_bytes_on, put_own, refusal_of, shown_answer_on, shown_bytes_on, start_answer_on, start_state_on}
use Rattle.c_cards.specs.Changes.{applied_answer_c, applied_bytes_c, changes_byte, changes_bytes_of, changes_from, compared_answer_c, compared_bytes_c, list_from, spoken_answer_c, spoken_bytes_c, written_c}
use Rattle.c_cards.specs.Orders.{kind_answer_on, kind_state_on, order_answer_on, order_answers_on, order_state_on}
use Rattle.c_cards.specs.Plans.{lent_answer, lent_bytes}
use Rattle.c_cards.specs.CardCalls.{slots_of}
use Rattle.c_cards.specs.Runs.{runs_answer_c, runs_bytes_c, runs_written_c, whole_answer_c, whole_bytes_c, whole_written_c}
use Rattle.c_cards.specs.Going.{changes_answer_c, changes_answer_on, changes_bytes_c, changes_bytes_on, changes_told_c, changes_told_on, going_answer, going_changes, going_told}

unfoldable pub c_cards_open : ℕ
unfolding c_face_open orders_open spoken_open paths_open call_answer_on call_state_on card_of owners_in packet_answer_on packet_bytes_on part_in payload_answer_on
    payload_bytes_on put_own refusal_of shown_answer_on shown_bytes_on start_answer_on start_state_on applied_answer_c applied_bytes_c changes_byte changes_bytes_of
    changes_from compared_answer_c compared_bytes_c list_from spoken_answer_c spoken_bytes_c written_c kind_answer_on kind_state_on order_answer_on order_answers_on
    order_state_on lent_answer lent_bytes slots_of runs_answer_c runs_bytes_c runs_written_c whole_answer_c whole_bytes_c whole_written_c changes_answer_c
    changes_answer_on changes_bytes_c changes_bytes_on changes_told_c changes_told_on going_answer going_changes going_told
c_cards_open = 0
