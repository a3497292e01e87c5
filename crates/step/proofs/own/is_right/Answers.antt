-- `is_right` meets its contract: of all that reading gives, the error of the CRC alone has the number 5.
use mathlib.Core.Path.{◌≡◌, refl, ◌∙◌}
use mathlib.Core.Bool.{Bool, true, false, not}
use lib.Dec.{eqb}
use Rattle.std.proofs.Common.{Ok, Err}
use Rattle.std.specs.Result.{result_eq}
use borrow.Author.Tests.{eq-eqb, ne_eqb}
use Rattle.packet.specs.declared.layout.Fields.{Fields}
use Rattle.packet.specs.declared.reader.Unread.{Unread}
use Rattle.packet.specs.declared.reader.Unread.TheVariants.{Length, Crc, Fixed, Unassigned}
use Rattle.packet.specs.Reading.{Reading, reading_number}
use Rattle.packet.specs.Theorems.ByTable.{read_nibbles_with_lem}
use Rattle.step.specs.OwnCount.{right_crc}
use native.Mathlib.Omega.{arith}
use Rattle.step.proofs.own.is_right.Goals as goal

module _ (f : Fields → Fields → Bool) (g : Unread → Unread → Bool) (l : g Length Crc ≡ false) (c : g Crc Crc ≡ true) (x : g Fixed Crc ≡ false) (a : g Unassigned Crc ≡ false) where
  by_crc : (r : Reading) → not (result_eq f g r (Err Crc)) ≡ not (eqb (reading_number r) 5)
  by_crc (Ok p) = refl
  by_crc (Err Length) = rw l refl
  by_crc (Err Crc) = rw c refl
  by_crc (Err Fixed) = rw x refl
  by_crc (Err Unassigned) = rw a refl

pub returns-then-kind-eq-FIXED : goal.returns-then-kind-eq-FIXED
unfolding right_crc
returns-then-kind-eq-FIXED c = rw (eq-eqb _ 2 c.if-kind-eq-FIXED.true) refl

pub returns : goal.returns
unfolding right_crc
returns c =
    rw (ne_eqb _ 2 c.if-kind-eq-FIXED.false, ← read_nibbles_with_lem c.share_table-table.ensures c.args.nibbles (omega (arith, c.well_formed.1.0)), ← c.read_nibbles.ensures)
    (c.ne.ensures ∙ by_crc _ _ refl refl refl refl c.read_nibbles.result)
