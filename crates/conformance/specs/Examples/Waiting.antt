-- Examples of request 2026-03, hold-off and wait-to-restore, worked out apart: states over some reports, and what a start answers.
use Rattle.std.specs.Prelude.{List, [], ◌∷◌, ◌++◌}
use Rattle.c_receiver.specs.Receivers.{start_as_answer_c}
use Rattle.tables.specs.Rows.{Equal, Row, equal_rows, row, same}
use Rattle.tables.specs.Waits.{Sent, away, each, ok_for, here, idle, left_of, states_at}
use Rattle.receiver.specs.Starting.{start_as_answer}
use Rattle.reply.specs.Waiting.{standing}
use Rattle.conformance.specs.Opened.{all_open}

-- NORM under 0, readable or not; states are 0 IDLE, 1 FAIL, 2 OK
abbrev r : List Sent
r = here 2 0 ∷ []

abbrev lost : List Sent
lost = away 2 0 ∷ []

abbrev gone : List Sent
gone = idle ∷ []

-- port 0 was OK under 0 and is lost, port 1 comes anew under that number
abbrev come : List Sent
come = away 2 0 ∷ here 1 0 ∷ []

pub table : List Row
unfolding all_open
table =
    row "one port, hold-off 2 and wait-to-restore 3: lost for two reports nobody hears it, for three it is FAIL, OK again after three; IDLE and back at once" (states_at 0 (2 ∷ []) (3 ∷ []) (r ∷ lost ∷ lost ∷ r ∷ lost ∷ lost ∷ lost ∷ r ∷ r ∷ r ∷ r ∷ gone ∷ r ∷ [])) (2 ∷ 2 ∷ 2 ∷ 2 ∷ 2 ∷ 2 ∷ 1 ∷ 1 ∷ 1 ∷ 1 ∷ 2 ∷ 0 ∷ 2 ∷ []) same
    ∷ row "a claim that goes while restoring begins anew, one that comes back within the hold-off too" (states_at 0 (1 ∷ []) (2 ∷ []) (r ∷ lost ∷ lost ∷ r ∷ lost ∷ r ∷ r ∷ r ∷ []) ++ states_at 0 (2 ∷ []) [] (r ∷ lost ∷ lost ∷ r ∷ lost ∷ lost ∷ r ∷ [])) (2 ∷ 2 ∷ 1 ∷ 1 ∷ 1 ∷ 1 ∷ 1 ∷ 2 ∷ 2 ∷ 2 ∷ 2 ∷ 2 ∷ 2 ∷ 2 ∷ 2 ∷ []) same
    ∷ row "a newcomer under a number kept for 3 reports is FAIL at three and OK at the fourth, where the port that kept it is FAIL" (states_at 0 (3 ∷ 0 ∷ []) [] ((here 2 0 ∷ idle ∷ []) ∷ come ∷ come ∷ come ∷ come ∷ []) ++ states_at 1 (3 ∷ 0 ∷ []) [] ((here 2 0 ∷ idle ∷ []) ∷ come ∷ come ∷ come ∷ come ∷ [])) (2 ∷ 2 ∷ 2 ∷ 2 ∷ 1 ∷ 0 ∷ 1 ∷ 1 ∷ 1 ∷ 2 ∷ []) same
    ∷ row "an ordinary removal with the ports in reverse order: all OK at once" (each (left_of (9 ∷ 9 ∷ 9 ∷ []) [] (standing 2 3 0 ∷ standing 2 2 0 ∷ standing 2 1 0 ∷ []) (here 2 2 ∷ here 2 1 ∷ here 2 0 ∷ []))) (2 ∷ 2 ∷ 0 ∷ 2 ∷ 1 ∷ 0 ∷ 2 ∷ 0 ∷ 0 ∷ []) same
    ∷ row "two members exchange numbers: both OK at once" (each (left_of (9 ∷ 9 ∷ []) [] (standing 2 0 0 ∷ standing 2 1 0 ∷ []) (here 2 1 ∷ here 2 0 ∷ []))) (2 ∷ 1 ∷ 0 ∷ 2 ∷ 0 ∷ 0 ∷ []) same
    ∷ row "a chain: port 0 is lost under 0, port 1 goes from 1 to 0, port 2 from 2 to 1; all three keep their numbers, 0, 1 and 2" (each (left_of (9 ∷ 9 ∷ 9 ∷ []) [] (standing 2 0 0 ∷ standing 2 1 0 ∷ standing 2 2 0 ∷ []) (away 2 0 ∷ here 2 0 ∷ here 2 1 ∷ []))) (2 ∷ 0 ∷ 1 ∷ 2 ∷ 1 ∷ 1 ∷ 2 ∷ 2 ∷ 1 ∷ []) same
    ∷ row "two ports may wait for one number, and the first in port order gets it; the other begins anew" (each (left_of [] (2 ∷ 2 ∷ []) (standing 1 0 1 ∷ standing 1 0 1 ∷ []) (here 2 0 ∷ here 2 0 ∷ [])) ++ each (left_of [] (2 ∷ 2 ∷ []) (standing 1 0 2 ∷ standing 1 0 2 ∷ []) (here 2 0 ∷ here 2 0 ∷ []))) (1 ∷ 0 ∷ 2 ∷ 1 ∷ 0 ∷ 2 ∷ 2 ∷ 0 ∷ 0 ∷ 1 ∷ 0 ∷ 0 ∷ []) same
    ∷ row "by the letter: a healthy port with no hold-off, renumbered into a number that another keeps, is FAIL" (each (left_of (9 ∷ 0 ∷ []) [] (standing 2 0 0 ∷ standing 2 1 0 ∷ []) (away 2 0 ∷ here 2 0 ∷ []))) (2 ∷ 0 ∷ 1 ∷ 1 ∷ 0 ∷ 0 ∷ []) same
    ∷ row "hold-off 300: OK at 300 reports, FAIL at the 301st" (ok_for 300 300 ++ ok_for 300 301) (300 ∷ 2 ∷ 300 ∷ 1 ∷ []) same
    ∷ row "5,000 starts, 5,001 is 4 wherever it stands; a list for another number of ports is 9" (start_as_answer 0 1 1 16 32 (5000 ∷ []) (5000 ∷ []) 6 ∷ start_as_answer 0 1 1 16 32 (5001 ∷ []) [] 6 ∷ start_as_answer 0 1 1 16 32 [] (5001 ∷ []) 6 ∷ start_as_answer 0 1 1 16 32 (0 ∷ 65536 ∷ []) [] 6 ∷ start_as_answer 0 1 1 16 32 (0 ∷ 0 ∷ []) [] 6 ∷ start_as_answer 0 1 1 16 32 [] (0 ∷ 0 ∷ []) 6 ∷ start_as_answer 0 2 1 16 64 [] (7 ∷ 0 ∷ []) 11 ∷ []) (0 ∷ 4 ∷ 4 ∷ 4 ∷ 9 ∷ 9 ∷ 0 ∷ []) same
    ∷ row "a kind that is not named is 4" (start_as_answer_c 0 1 1 16 32 [] [] 6 ∷ start_as_answer_c 1 1 1 16 32 [] [] 6 ∷ start_as_answer_c 256 1 1 16 32 [] [] 6 ∷ []) (0 ∷ 4 ∷ 4 ∷ []) same
    ∷ []

pub waited_out : Equal table
waited_out = equal_rows table
