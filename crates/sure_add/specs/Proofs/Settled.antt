-- Where no other slot is ADD at the add, none ever is: a report makes none.
use Rattle.std.specs.Prelude.{◌≡◌, ◌≢◌, false, ℕ, ◌<◌, eqb}
use Rattle.std.proofs.Common.{sym, ◌∙◌, true≢false, arith}
use Rattle.packet.specs.Kinds.{fixed_kind}
use Rattle.sender.specs.Answers.Answer.{Done}
use Rattle.sender.specs.Calls.Call.{AddSlot, Report}
use Rattle.sender.specs.declared.table.Table.{Table}
use Rattle.sender.specs.Commands.{add_of, start_of}
use Rattle.sender.specs.Laws.Kept.{Sound, sound_call, sound_run, sound_start}
use Rattle.sender.specs.Numbering.{slots_in, state_in}
use Rattle.sender.specs.Table.{is_add}
use Rattle.sure_add.specs.AsAsked.{AsAsked}
use Rattle.sure_add.specs.Proofs.Others.{NoOther, none_added, none_told}
use Rattle.sure_add.specs.Proofs.Over.{along, joins}
use Rattle.sure_add.specs.Rounds.{Path, Rounds, before, table_of}
use Rattle.sure_add.specs.Within.{ActiveWithin, bound}

module _ (r : Rounds) (slot : ℕ) (accepted : (add_of (before r) slot).answer ≡ Done) (alone : (j : ℕ) → j < slots_in (before r) → j ≢ slot → is_add (state_in (before r) j) ≡ false) where
  sound_before : Sound (before r)
  sound_before = sound_run (start_of r.kind r.slots).table r.calls (sound_start r.kind r.slots)

  record Lone (t : Table) : Type 0 where
    sound : Sound t
    none : NoOther slot t

  pub none_since : (k j : ℕ) → j < slots_in (table_of r slot k) → j ≢ slot → is_add (state_in (table_of r slot k) j) ≡ false
  unfolding table_of
  none_since k =
      (along r slot Lone (λ t e mst ack l. record { sound = sound_call t (Report e mst ack) l.sound; none = none_told slot t l.sound l.none e mst ack })
      (record { sound = sound_call (before r) (AddSlot slot) sound_before; none = none_added slot (before r) sound_before alone accepted }) k).none

-- so what the request asks at the add gives what is asked while it lasts
pub asked_so : (r : Rounds) (a b slot port : ℕ) → eqb r.kind fixed_kind ≡ false → Path r a b slot port (bound r.kind a b 0) → AsAsked r a slot port (bound r.kind a b 0)
    → ActiveWithin (table_of r slot) slot 0 (bound r.kind a b 0)
asked_so r a b slot port lcas path o =
    joins r a b slot port 0 lcas path
    (record {
      accepted = o.accepted;
      below = o.below;
      readable = o.readable;
      restores = λ k from to. o.no_restore k port from to o.below;
      alone = λ k p from to some. absurd (omega arith);
      settled = λ k j l h d x. absurd (true≢false (sym x ∙ none_since r slot o.accepted o.settled k j h d));
    })
