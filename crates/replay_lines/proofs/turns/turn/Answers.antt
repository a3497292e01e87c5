use Rattle.std.proofs.Common.{length, drop, refl}
use Rattle.replay_lines.specs.declared.replay.Phase.TheVariants.{Ended, Fetching, Reading, Settings, Skipping}
use Rattle.replay_lines.proofs.Deciding.{out_is, rows_is, said_is, store_is, turn_is}
use Rattle.replay_lines.proofs.turns.turn.Goals as goal

pub returns-in-Settings : goal.returns-in-Settings
returns-in-Settings c =
    let e = c.in-Settings.is in
    let r = c.args.replay in
    let t = drop c.args.at c.args.text.now in
    let n = length c.args.said.now in
    (turn_is r Settings e t c.args.last c.args.rows.now c.args.store.now c.args.out.now c.args.at n _ c.open_all.ensures.0, rows_is r Settings e t c.args.last c.args.rows.now c.args.store.now c.args.out.now n _ c.open_all.ensures.1, store_is r Settings e t c.args.last c.args.rows.now c.args.store.now c.args.out.now n _ c.open_all.ensures.2, out_is r Settings e t c.args.last c.args.rows.now c.args.store.now c.args.out.now n _ refl, said_is r Settings e t c.args.last c.args.rows.now c.args.store.now c.args.out.now c.args.said.now _ c.open_all.ensures.3)

pub returns-in-Reading : goal.returns-in-Reading
returns-in-Reading c =
    let e = c.in-Reading.is in
    let r = c.args.replay in
    let t = drop c.args.at c.args.text.now in
    let n = length c.args.said.now in
    (turn_is r Reading e t c.args.last c.args.rows.now c.args.store.now c.args.out.now c.args.at n _ c.read.ensures.0, rows_is r Reading e t c.args.last c.args.rows.now c.args.store.now c.args.out.now n _ c.read.ensures.1, store_is r Reading e t c.args.last c.args.rows.now c.args.store.now c.args.out.now n _ c.read.ensures.2, out_is r Reading e t c.args.last c.args.rows.now c.args.store.now c.args.out.now n _ refl, said_is r Reading e t c.args.last c.args.rows.now c.args.store.now c.args.out.now c.args.said.now _ c.read.ensures.3)

pub returns-in-Fetching : goal.returns-in-Fetching
returns-in-Fetching c =
    let e = c.in-Fetching.is in
    let r = c.args.replay in
    let t = drop c.args.at c.args.text.now in
    let n = length c.args.said.now in
    (turn_is r Fetching e t c.args.last c.args.rows.now c.args.store.now c.args.out.now c.args.at n _ c.report.ensures.0, rows_is r Fetching e t c.args.last c.args.rows.now c.args.store.now c.args.out.now n _ c.report.ensures.1, store_is r Fetching e t c.args.last c.args.rows.now c.args.store.now c.args.out.now n _ refl, out_is r Fetching e t c.args.last c.args.rows.now c.args.store.now c.args.out.now n _ c.report.ensures.2, said_is r Fetching e t c.args.last c.args.rows.now c.args.store.now c.args.out.now c.args.said.now _ c.report.ensures.3)

pub returns-in-Skipping : goal.returns-in-Skipping
returns-in-Skipping c =
    let e = c.in-Skipping.is in
    let r = c.args.replay in
    let t = drop c.args.at c.args.text.now in
    let n = length c.args.said.now in
    (turn_is r Skipping e t c.args.last c.args.rows.now c.args.store.now c.args.out.now c.args.at n _ c.skip.ensures, rows_is r Skipping e t c.args.last c.args.rows.now c.args.store.now c.args.out.now n _ refl, store_is r Skipping e t c.args.last c.args.rows.now c.args.store.now c.args.out.now n _ refl, out_is r Skipping e t c.args.last c.args.rows.now c.args.store.now c.args.out.now n _ refl, said_is r Skipping e t c.args.last c.args.rows.now c.args.store.now c.args.out.now c.args.said.now _ refl)

pub returns-in-Ended : goal.returns-in-Ended
returns-in-Ended c =
    let e = c.in-Ended.is in
    let r = c.args.replay in
    let t = drop c.args.at c.args.text.now in
    let n = length c.args.said.now in
    (turn_is r Ended e t c.args.last c.args.rows.now c.args.store.now c.args.out.now c.args.at n _ c.swallow.ensures, rows_is r Ended e t c.args.last c.args.rows.now c.args.store.now c.args.out.now n _ refl, store_is r Ended e t c.args.last c.args.rows.now c.args.store.now c.args.out.now n _ refl, out_is r Ended e t c.args.last c.args.rows.now c.args.store.now c.args.out.now n _ refl, said_is r Ended e t c.args.last c.args.rows.now c.args.store.now c.args.out.now c.args.said.now _ refl)
