-- How many ports there are after any calls, and what the settings say.
use Rattle.std.specs.Prelude.{◌≡◌, List, [], ◌∷◌, ℕ, length}
use Rattle.std.proofs.Math.Path.{refl}
use Rattle.std.proofs.Common.{◌∙◌, arith}
use borrow.Author.Tests.{ne_eqb}
use Rattle.phases.specs.Laws.Sizes.{SameSizes}
use Rattle.phases.specs.Sizes.{ports_in}
use Rattle.receiver.specs.Laws.Sizes.{ports_are, sizes_of}
use Rattle.receiver.specs.Settings.{settings_of}
use Rattle.receiver.specs.Starting.{group_with, start_as_answer, start_as_rows}
use Rattle.rows.specs.declared.group.Group.{Group}
use Rattle.rows.specs.Group.{group_at}
use Rattle.invariant.specs.Calls.{ReceiverCall, receiver_run, started_with}
use Rattle.invariant.specs.Proofs.Calls.{kept}
use Rattle.invariant.specs.Proofs.Kept.Start.{started_kept, started_with_lem}
use Rattle.invariant.specs.Proofs.Sizes.{run_sizes}

module _ (kind count P W : ℕ) (hold restore : List ℕ) (rows : List (List ℕ)) (store : List ℕ) (e : start_as_answer kind count P W (length store) hold restore (length rows) ≡ 0) (calls : List ReceiverCall) where
  abbrev g : Group
  g = group_at (receiver_run (started_with kind count P W hold restore rows store) calls).rows

  same : SameSizes g (group_with kind count P W)
  same =
      let group : group_at (start_as_rows kind count P W (length store) hold restore rows) ≡ group_with kind count P W = started_with_lem kind count P W (length store) hold restore rows e in
      rw group at (run_sizes (started_with kind count P W hold restore rows store) calls (started_kept kind count P W (length store) hold restore rows e))

  pub count_is : ports_in g ≡ count
  count_is = ports_are g (kept kind count P W hold restore rows store e calls).lasting.group.sizes ∙ same.count

  some_ports : count ≡ 0 → ⊥
  some_ports z =
      let s = (sizes_of g.kind g.count g.payload g.window (kept kind count P W hold restore rows store e calls).lasting.group.sizes).some_ports in
      let c = same.count in
      absurd (omega arith)

  -- a receiver's settings are those of its start
  pub settings_are : settings_of g (ports_in g) ≡ kind ∷ count ∷ P ∷ W ∷ []
  unfolding settings_of
  settings_are = rw (count_is, ne_eqb count 0 some_ports, same.kind, same.payload, same.window) refl
