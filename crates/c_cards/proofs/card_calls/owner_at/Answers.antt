use mathlib.Core.Path.{sym}
use Prim.Native.Nat.{ℕ}
use native.Mathlib.Omega.{arith}
use lib.ListN.{get_or, get_or-eq_default}
use Rattle.ground.specs.Table.{get_or_tabulate, length_tabulate, tabulate}
use Rattle.c_cards.specs.Cards.{owners_in}
use Rattle.c_cards.proofs.card_calls.owner_at.Goals as goal

pub returns-then-slot-lt64 : goal.returns-then-slot-lt64
unfolding owners_in
returns-then-slot-lt64 c =
    sym (get_or_tabulate 64 (λ i. get_or c.args.state.now i 0) c.args.slot 0 c.if-slot-lt64.true)

pub returns-else-slot-lt64 : goal.returns-else-slot-lt64
unfolding owners_in
returns-else-slot-lt64 c =
    let l = length_tabulate 64 (λ (i : ℕ). get_or c.args.state.now i 0) in
    sym (get_or-eq_default (tabulate 64 (λ i. get_or c.args.state.now i 0)) 0 {n = c.args.slot} (omega (arith, l)))
