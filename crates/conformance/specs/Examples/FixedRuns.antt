-- Runs of a receiver of a fixed group (request 2026-12) from its start, worked out apart: what the host reads after its first report, and when step is lost.
use Rattle.std.specs.Prelude.{List, [], ◌∷◌, ◌++◌, ℕ, get_or, replicate}
use Rattle.conformance.specs.Examples.Hosts.{Host, damaged_with, fed, fed_with, fetched, packet_with}
use Rattle.tables.specs.Rows.{Equal, Row, equal_rows, row, same}
use Rattle.receiver.specs.Fetch.{fetch_of}
use Rattle.receiver.specs.Shown.{ports_out, reply_out}
use Rattle.receiver.specs.Starting.{start_answer, start_rows}
use Rattle.rows.specs.Rows.{rows_for}
use Rattle.conformance.specs.Opened.{all_open}

-- one port, P is 1 and W is 16
abbrev opened_as : ℕ → Host
opened_as kind =
    record {
      answer = start_answer kind 1 1 16 32 (rows_for 1);
      rows = start_rows kind 1 1 16 32 (replicate (rows_for 1) (replicate 16 0));
      store = replicate 32 0;
    }

-- what the host then reads: the record of the report, the port's eight bytes after it, MST of numbers 0 to 7 and RS-Ack
abbrev read : Host → List ℕ
read h =
    let later = fetched h in
    (fetch_of h.rows h.store (replicate 16 0) (replicate 8 0)).report ++ get_or (ports_out later.rows ([] ∷ [])) 0 [] ++ reply_out later.rows 0 (9 ∷ 9 ∷ [])

-- 40 frames of the count and nothing else, so that epoch 3 starts; then packets carried with the tags from 56 on: the answers to their 31st frame and to the 32nd
abbrev two : ℕ → (ℕ → ℕ) → List ℕ
two kind h4 = let h = fed_with h4 0 31 56 (fed 0 40 0 (opened_as kind)) in h.answer ∷ (fed_with h4 0 1 87 h).answer ∷ []

-- Frames that carry their count and zeros are a fixed group's, with SQ 0.
pub table : List Row
unfolding all_open
table =
    row "72 frames of a fixed group of one: sure with X = 1 and 16 bytes, OK under 0 with the word 0, and no reply" (read (fed 0 72 0 (opened_as 2))) (3 ∷ 4 ∷ 1 ∷ 0 ∷ 0 ∷ 0 ∷ 0 ∷ 16 ∷ 2 ∷ 0 ∷ 1 ∷ 1 ∷ 1 ∷ 0 ∷ 0 ∷ 0 ∷ 0 ∷ 0 ∷ []) same
    ∷ row "72 frames with LCAS to a fixed group: held, and nothing of them is read" (read (fed_with packet_with 0 72 0 (opened_as 2))) (1 ∷ 4 ∷ 0 ∷ 1 ∷ 0 ∷ 0 ∷ 0 ∷ 0 ∷ 0 ∷ 255 ∷ 1 ∷ 1 ∷ 1 ∷ 0 ∷ 255 ∷ 0 ∷ 0 ∷ 0 ∷ []) same
    ∷ row "two packets in a row with another MFI2, of wrong CRC and another word: the 32nd frame is 12 in a fixed group, 0 with LCAS" (two 2 damaged_with ++ two 0 damaged_with) (0 ∷ 12 ∷ 0 ∷ 0 ∷ []) same
    ∷ []

pub fixed_runs : Equal table
fixed_runs = equal_rows table
