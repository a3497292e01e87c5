-- Shut out by name (01, 'What the promises have to say'): a sender that does nothing on reports, and one that acts on the first report only.
use Rattle.std.specs.Prelude.{◌≡◌, refl, Bool, true, false, List, [], ◌∷◌, ◌++◌, ℕ}
use Rattle.std.proofs.Common.{◌∙◌, sym, ap, true≢false}
use Rattle.std.proofs.lemmas.Bool.{false≢true}
use Rattle.packet.specs.Kinds.{idle_number, mst_epochs, mst_fails, mst_first, mst_numbers}
use Rattle.sender.specs.Answers.{Outcome}
use Rattle.sender.specs.declared.table.Table.{Table}
use Rattle.sender.specs.Calls.{Call, outcome_of}
use Rattle.sender.specs.Calls.Call.{AddSlot, Report, Lapse}
use Rattle.sender.specs.Commands.{add_of, added_to, fresh_of, idle_slot, lapse_of, start_of}
use Rattle.sender.specs.Numbering.{state_in}
use Rattle.sender.specs.Reports.{acted_on, comes_before, mst_applied, number_after, opens_wait, renumbered, report_of, slot_after, number_applied, turn_of, waited}
use Rattle.sender.specs.Shown.{after}
use Rattle.sender.specs.Table.{holder_of, is_active, members_of, slot_count}

-- slot 0 is active
abbrev carries : Table → Bool
carries t = is_active (state_in t 0)

-- one slot added; then reported OK; then, its wait lapsed, reported FAIL
abbrev asked : List Call
asked = AddSlot 0 ∷ []

abbrev answered : List Call
answered = AddSlot 0 ∷ Report 0 0x00 0 ∷ Lapse ∷ []

acts :
    (carries (after 1 asked) ≡ false)
    × (carries (outcome_of (after 1 asked) (Report 0 0x00 0)).table ≡ true)
    × (carries (after 1 answered) ≡ true)
    × (carries (outcome_of (after 1 answered) (Report 0 0x80 0)).table ≡ false)
unfolding start_of fresh_of idle_slot idle_number add_of added_to lapse_of report_of waited acted_on mst_applied number_applied holder_of renumbered slot_after number_after comes_before turn_of opens_wait slot_count members_of mst_fails mst_first mst_epochs mst_numbers
acts = (refl, refl, refl, refl)

-- any sender that meets the contracts
module _ (does : Table → Call → Outcome) (meets : (t : Table) (c : Call) → does t c ≡ outcome_of t c) where
  changes : (t : Table) (c : Call) → (does t c).table ≡ t → carries (outcome_of t c).table ≡ carries t
  changes t c same = ap (λ (s : Outcome). carries s.table) (sym (meets t c)) ∙ ap carries same

  pub does_nothing : ((t : Table) (e mst ack : ℕ) → (does t (Report e mst ack)).table ≡ t) → ⊥
  does_nothing idle = true≢false (sym acts.1 ∙ changes (after 1 asked) (Report 0 0x00 0) (idle (after 1 asked) 0 0x00 0) ∙ acts.0)

  -- whatever calls came before a first report and after it
  pub first_only :
      ((count : ℕ) (before behind : List Call) (e mst ack f nst bck : ℕ)
      → (does (after count (before ++ (Report e mst ack ∷ behind))) (Report f nst bck)).table ≡ after count (before ++ (Report e mst ack ∷ behind)))
      → ⊥
  first_only idle =
      false≢true (sym acts.3 ∙ changes (after 1 answered) (Report 0 0x80 0) (idle 1 asked (Lapse ∷ []) 0 0x00 0 0 0x80 0) ∙ acts.2)
