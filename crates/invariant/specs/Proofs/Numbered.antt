-- A packet that rules and is read as good carries the number of the epoch before the oldest: of H4 as its MFI2, on every state; of every kind after any calls.
use Rattle.std.specs.Prelude.{◌≡◌, true, false, List, ℕ, ◌<◌, eqb, length}
use Rattle.std.proofs.Math.Path.{ap}
use Rattle.std.proofs.Common.{◌∙◌, eqb-true}
use Rattle.std.proofs.Math.Logic.{⊎_elim}
use Rattle.std.proofs.lemmas.Bool.{false≢true}
use Rattle.ground.specs.Truth.{cond_by}
use Rattle.invariant.specs.Calls.{Receiver, ReceiverCall, receiver_run, started_with}
use Rattle.invariant.specs.Proofs.Kept.Start.{started_kept, started_with_lem}
use Rattle.invariant.specs.Proofs.Laws.Flags.{true_or_false}
use Rattle.invariant.specs.Proofs.OwnBits.Calls.{own_count}
use Rattle.invariant.specs.Proofs.Sizes.{run_sizes}
use Rattle.packet.specs.declared.layout.Fields.{Fields}
use Rattle.packet.specs.declared.ruling.Ruling.{Ruling}
use Rattle.packet.specs.Laws.OwnBits.{h4_fields}
use Rattle.packet.specs.Layout.{fields_of}
use Rattle.packet.specs.Ruling.{fields_in, refused}
use Rattle.receiver.specs.Report.{ruling_epoch, seen_of}
use Rattle.receiver.specs.Starting.{group_with, start_as_answer, start_as_rows}
use Rattle.rows.specs.declared.group.Group.{Group}
use Rattle.rows.specs.Group.{group_at}
use Rattle.rows.specs.Port.{port_at}
use Rattle.step.specs.OwnCount.{own_number, own_ruling, ruling_in, without_mfi2}

own_good : (kind epoch : ℕ) (ns : List ℕ) → without_mfi2 kind ≡ false → (own_ruling kind epoch ns).good ≡ true → (fields_of ns).epoch ≡ epoch
unfolding own_ruling own_number
own_good kind epoch ns clock =
    rw clock
    (cond_by (λ (r : Ruling). r.good ≡ true → (fields_of ns).epoch ≡ epoch) (eqb (fields_of ns).epoch epoch) (ruling_in kind epoch ns) refused
    (λ own e. eqb-true (fields_of ns).epoch epoch own) (λ other e. absurd (false≢true e)))

pub own_number_lem : (g : Group) (s : List (List ℕ)) (i : ℕ) → without_mfi2 g.kind ≡ false → (seen_of g s i).good ≡ true → (fields_of (port_at s i).ruling).epoch ≡ ruling_epoch g
unfolding seen_of port_at
own_number_lem g s i clock e = own_good g.kind (ruling_epoch g) _ clock e

module _ (kind count P W : ℕ) (hold restore : List ℕ) (rows : List (List ℕ)) (store : List ℕ) (e : start_as_answer kind count P W (length store) hold restore (length rows) ≡ 0) (calls : List ReceiverCall) where
  abbrev x : Receiver
  x = started_with kind count P W hold restore rows store

  abbrev now : List (List ℕ)
  now = (receiver_run (started_with kind count P W hold restore rows store) calls).rows

  pub kind_is : (group_at now).kind ≡ kind
  kind_is =
      let group : group_at (start_as_rows kind count P W (length store) hold restore rows) ≡ group_with kind count P W = started_with_lem kind count P W (length store) hold restore rows e in
      (run_sizes x calls (started_kept kind count P W (length store) hold restore rows e)).kind ∙ ap (λ (g : Group). g.kind) group

  pub ruling_number : (j : ℕ) → j < count → (seen_of (group_at now) now j).whole ≡ true → (seen_of (group_at now) now j).good ≡ true → (fields_in kind (port_at now j).ruling).epoch ≡ ruling_epoch (group_at now)
  unfolding seen_of port_at
  ruling_number j b whole good =
      ⊎_elim (λ (v : without_mfi2 kind ≡ true). own_count kind count P W hold restore rows store e calls j b v whole)
      (λ (v : without_mfi2 kind ≡ false).
      ap (λ (f : Fields). f.epoch) (h4_fields kind (port_at now j).ruling v) ∙ own_number_lem (group_at now) now j (rw kind_is v) good)
      (true_or_false (without_mfi2 kind))
