-- A packet read for what it rules by a table of shares that a function is lent (request 2026-02), whatever stands in it. By `shares_of` it is `own_ruling` (Laws.ByTable).
use Rattle.std.specs.Prelude.{◌||◌, List, ℕ, if◌then◌else◌, ◌==◌}
use Rattle.packet.specs.declared.ruling.Ruling.{Ruling}
use Rattle.packet.specs.ByTable.{ruling_with}
use Rattle.packet.specs.Fixed.{fixed_ruling_of}
use Rattle.packet.specs.Kinds.{fixed_kind}
use Rattle.packet.specs.Ruling.{refused}
use Rattle.step.specs.OwnCount.{own_number, without_mfi2}

unfoldable pub ruling_in_with : (table : List (List ℕ)) (kind epoch : ℕ) (nibbles : List ℕ) → Ruling
ruling_in_with table kind epoch nibbles = if kind == fixed_kind then fixed_ruling_of nibbles else ruling_with table kind epoch nibbles

unfoldable pub own_ruling_with : (table : List (List ℕ)) (kind epoch : ℕ) (nibbles : List ℕ) → Ruling
own_ruling_with table kind epoch nibbles = if without_mfi2 kind || own_number epoch nibbles then ruling_in_with table kind epoch nibbles else refused
