use mathlib.Core.Path.{refl}
use Rattle.c_cards.specs.Changes.{changes_from}
use Rattle.c_cards.proofs.changes.changes_from.Goals as goal

pub returns : goal.returns
unfolding changes_from
returns c = rw (c.wait_from.ensures, c.list_from.ensures) refl
