-- By the table of shares (request 2026-02) a packet rules as 01 and request 2026-04 say.
use Rattle.std.specs.Prelude.{◌≡◌, ◌||◌, List, ℕ, ◌≤◌, length, if◌then◌else◌, ◌==◌}
use Rattle.std.proofs.Common.{ap}
use Rattle.packet.specs.Fixed.{fixed_ruling_of}
use Rattle.packet.specs.Kinds.{fixed_kind}
use Rattle.packet.specs.Ruling.{refused}
use Rattle.packet.specs.Shares.{shares_of}
use Rattle.packet.specs.Theorems.ByTable.{ruling_with_lem}
use Rattle.packet.specs.declared.ruling.Ruling.{Ruling}
use Rattle.step.specs.ByTable.{own_ruling_with, ruling_in_with}
use Rattle.step.specs.OwnCount.{own_number, own_ruling, ruling_in, without_mfi2}

pub own_ruling_with_lem : {table : List (List ℕ)} → table ≡ shares_of → (kind epoch : ℕ) (nibbles : List ℕ) → 14 ≤ length nibbles
    → own_ruling_with table kind epoch nibbles ≡ own_ruling kind epoch nibbles
unfolding own_ruling_with own_ruling ruling_in_with ruling_in
own_ruling_with_lem right kind epoch nibbles many =
    ap (λ (r : Ruling). if without_mfi2 kind || own_number epoch nibbles then (if kind == fixed_kind then fixed_ruling_of nibbles else r) else refused) (ruling_with_lem right kind epoch nibbles many)
