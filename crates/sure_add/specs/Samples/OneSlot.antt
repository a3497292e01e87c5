-- One slot, added between starts 5 and 6 before the back packet is handed over, no delays, and a port that would wait 5,000 epochs to restore. The loop is computed start by start: the slot is not active at start 38, and is at start 39, which is 5 + 34.
use Rattle.std.specs.Prelude.{◌≡◌, refl, ◌≢◌, Bool, true, false, [], ◌∷◌, ℕ, ◌<◌, replicate, if◌then◌else◌, ◌==◌}
use Rattle.std.proofs.Common.{sym, ap, ◌∙◌, arith, ne_eqb}
use Rattle.ground.specs.Plain.{◌<?◌}
use Rattle.packet.specs.Kinds.{mst_epochs}
use Rattle.packet.specs.Words.{ADD, EOS, IDLE}
use Rattle.sender.specs.Answers.Answer.{Done}
use Rattle.sender.specs.Calls.Call.{AddSlot}
use Rattle.sender.specs.Commands.{add_of}
use Rattle.sender.specs.Numbering.{slots_in, state_in}
use Rattle.sender.specs.Table.{is_active}
use Rattle.link.specs.History.{sender_at}
use Rattle.link.specs.Road.{times}
use Rattle.link.specs.Running.{has_begun}
use Rattle.link.specs.Samples.Computing.{outcome}
use Rattle.link.specs.Samples.Tracing.{course}
use Rattle.sure_add.specs.Joined.{Adding, table_at}
use Rattle.sure_add.specs.Samples.Looped.{Case, Right, history, joined, link, met, receiver, report, told}
use Rattle.sure_add.specs.Samples.Starts.{begun_at_lem, starts}
use Rattle.sure_add.specs.Theorems.{sure_add}
use Rattle.sure_add.specs.Within.{ActiveWithin, bound}

-- at the add the way back speaks of the numbers from 8 x 31 on; MST says OK of number 0 in the epoch of start 38
abbrev case : Case
case =
    record {
      slots = 1;
      out = 0;
      back = 0;
      first = 26;
      until = 39;
      before = λ t come. if t == 6 then AddSlot 0 ∷ come else come;
      order = 0 ∷ [];
      hold = 3 ∷ [];
      restore = 5000 ∷ [];
      word = λ i p. if i <? 6 then IDLE else if i <? 39 then ADD else EOS;
      number = λ i p. if i <? 6 then 255 else 0;
      said = (255 ∷ 0 ∷ []) ∷ (127 ∷ 0 ∷ []) ∷ replicate 38 (255 ∷ 0 ∷ []);
    }

once : (p : ℕ) → p < 1 → times p (0 ∷ []) ≡ 1
once p h = let e : p ≡ 0 = omega arith in rw e refl

right : Right case
unfolding outcome course starts
right =
    record {
      some = omega arith;
      most = omega arith;
      number = omega arith;
      sizes = refl;
      once = once;
      only = (omega arith, tt);
      hold_times = record { within = refl; fits = refl };
      restore_times = record { within = refl; fits = refl };
      fits = refl;
      bits = refl;
      sent = refl;
      replied = refl;
    }

begun_then : has_begun (starts (link case) (receiver case) 26 5).moment ≡ 1
unfolding outcome course starts
begun_then = refl

active_then : (is_active (state_in (sender_at (history case) 38).table 0) ≡ false) × (is_active (state_in (sender_at (history case) 39).table 0) ≡ true)
unfolding outcome
active_then = (refl, refl)

accepted_then : (add_of (sender_at (history case) 5).table 0).answer ≡ Done
unfolding outcome
accepted_then = refl

one_slot : slots_in (sender_at (history case) 5).table ≡ 1
unfolding outcome
one_slot = refl

adding : Adding (link case) (receiver case) 0 0 39 (joined case right) 0 5
unfolding joined met
adding =
    record {
      earlier = [];
      later = report case 6;
      one_report = told case right 6;
      command = refl;
      accepted = accepted_then;
      no_other = λ u from to. ap (λ (c : Bool). if c then AddSlot 0 ∷ report case u else report case u) (ne_eqb u 6 (λ e. omega arith)) ∙ told case right u;
      readable = sym (begun_at_lem (link case) (receiver case) 26 refl 5) ∙ begun_then;
      settled = λ i l d. absurd (none i l d);
    }
  where
    none : (i : ℕ) → i < slots_in (sender_at (history case) 5).table → i ≢ 0 → ⊥
    none i l d = let e = one_slot in omega arith

come_true : ActiveWithin (table_at (joined case right)) 0 5 (bound 0 0 0 0)
unfolding bound mst_epochs joined met
come_true = sure_add (link case) (receiver case) 0 0 0 5 (joined case right) adding
