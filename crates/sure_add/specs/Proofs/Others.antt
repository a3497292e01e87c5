-- Where no slot but one is ADD, none is after an add of that one, nor after a report.
use Rattle.std.specs.Prelude.{◌≡◌, ◌≢◌, false, ℕ, ◌<◌}
use Rattle.std.proofs.Common.{sym, ap, ◌∙◌, true≢false}
use Rattle.ground.specs.Truth.{fails}
use Rattle.sender.specs.Answers.Answer.{Done}
use Rattle.sender.specs.declared.table.Table.{Table}
use Rattle.sender.specs.Calls.Call.{AddSlot, Report}
use Rattle.sender.specs.Commands.{add_of}
use Rattle.sender.specs.Laws.Kept.{Sound, group_call}
use Rattle.sender.specs.Laws.Speaking.{added_other, report_may}
use Rattle.sender.specs.Numbering.{slots_in, state_in}
use Rattle.sender.specs.Reports.{report_of}
use Rattle.sender.specs.Table.{is_add, slot_count}

abbrev pub NoOther : ℕ → Table → Type 0
NoOther i t = (j : ℕ) → j < slots_in t → j ≢ i → is_add (state_in t j) ≡ false

module _ (i : ℕ) (t : Table) (sound : Sound t) (none : NoOther i t) where
  pub none_added : (add_of t i).answer ≡ Done → NoOther i (add_of t i).table
  none_added done j h d = ap is_add (added_other t i sound done j d) ∙ none j (rw (ap slot_count (group_call t (AddSlot i)).count) at h) d

  pub none_told : (e mst ack : ℕ) → NoOther i (report_of t e mst ack).table
  none_told e mst ack j h d =
      let b : j < slots_in t = rw (ap slot_count (group_call t (Report e mst ack)).count) at h in
      fails (is_add (state_in (report_of t e mst ack).table j)) (λ x. true≢false (sym ((report_may t sound e mst ack j b).add x) ∙ none j b d))
