-- Two slots with delays of one epoch out and two back. Slot 0 is active from the first start on; slot 1 is added between starts 6 and 7 behind the back packet that is handed over. It is not active at start 42, and is at start 43, which is 6 + 34 + 1 + 2.
use Rattle.std.specs.Prelude.{◌≡◌, refl, Bool, true, false, [], ◌∷◌, ◌++◌, ℕ, zero, suc, ◌<◌, replicate, if◌then◌else◌, ◌==◌}
use Rattle.std.proofs.Common.{sym, ap, ◌∙◌, arith, ne_eqb}
use Rattle.ground.specs.Plain.{◌<?◌}
use Rattle.packet.specs.Kinds.{mst_epochs}
use Rattle.packet.specs.Words.{ADD, EOS, IDLE, NORM}
use Rattle.sender.specs.Answers.Answer.{Done}
use Rattle.sender.specs.declared.table.Table.{Table}
use Rattle.sender.specs.Calls.{run}
use Rattle.sender.specs.Calls.Call.{AddSlot, Lapse, Report}
use Rattle.sender.specs.Commands.{add_of}
use Rattle.sender.specs.Numbering.{slots_in, state_in}
use Rattle.sender.specs.Table.{is_active, is_add}
use Rattle.link.specs.History.{sender_at}
use Rattle.link.specs.Road.{times}
use Rattle.link.specs.Running.{has_begun}
use Rattle.link.specs.Samples.Computing.{outcome}
use Rattle.link.specs.Samples.Tracing.{course}
use Rattle.sure_add.specs.Joined.{Adding, table_at}
use Rattle.sure_add.specs.Samples.Looped.{Case, Right, history, joined, link, met, receiver, report, told}
use Rattle.sure_add.specs.Samples.Starts.{begun_at_lem, starts}
use Rattle.sure_add.specs.Theorems.{sure_add}
use Rattle.sure_add.specs.Within.{ActiveWithin, bound}

-- MST says OK of number 0 in the epoch of start 8, and of 0 and 1 in that of start 40. RS-Ack turns over with the first report, in which slot 0 is heard to be active.
abbrev case : Case
case =
    record {
      slots = 2;
      out = 1;
      back = 2;
      first = 24;
      until = 43;
      before = λ t come. if t == 0 then AddSlot 0 ∷ Report 0 0x7F 0 ∷ Lapse ∷ [] else if t == 7 then come ++ (AddSlot 1 ∷ []) else come;
      order = 0 ∷ 1 ∷ [];
      hold = [];
      restore = 0 ∷ 7 ∷ [];
      word = λ i p. if p == 1 then (if i <? 43 then EOS else NORM) else if i <? 7 then IDLE else if i <? 43 then ADD else EOS;
      number = λ i p. if p == 1 then 0 else if i <? 7 then 255 else 1;
      said = replicate 3 (255 ∷ 1 ∷ []) ++ ((63 ∷ 1 ∷ []) ∷ (replicate 31 (255 ∷ 1 ∷ []) ++ ((127 ∷ 1 ∷ []) ∷ (replicate 2 (255 ∷ 1 ∷ []) ++ replicate 6 (255 ∷ 0 ∷ [])))));
    }

once : (p : ℕ) → p < 2 → times p (0 ∷ 1 ∷ []) ≡ 1
once zero h = refl
once (suc zero) h = refl
once (suc (suc p)) h = absurd (omega arith)

right : Right case
unfolding outcome course starts
right =
    record {
      some = omega arith;
      most = omega arith;
      number = omega arith;
      sizes = refl;
      once = once;
      only = (omega arith, (omega arith, tt));
      hold_times = record { within = refl; fits = refl };
      restore_times = record { within = refl; fits = refl };
      fits = refl;
      bits = refl;
      sent = refl;
      replied = refl;
    }

begun_then : has_begun (starts (link case) (receiver case) 24 6).moment ≡ 1
unfolding outcome course starts
begun_then = refl

active_then : (is_active (state_in (sender_at (history case) 42).table 1) ≡ false) × (is_active (state_in (sender_at (history case) 43).table 1) ≡ true)
unfolding outcome
active_then = (refl, refl)

-- the table that the add finds
abbrev found : Table
found = run (sender_at (history case) 6).table (report case 7)

accepted_then : (add_of found 1).answer ≡ Done
unfolding outcome
accepted_then = refl

two_slots : slots_in found ≡ 2
unfolding outcome
two_slots = refl

other_then : is_add (state_in found 0) ≡ false
unfolding outcome
other_then = refl

adding : Adding (link case) (receiver case) 1 2 43 (joined case right) 1 6
unfolding joined met
adding =
    record {
      earlier = report case 7;
      later = [];
      one_report = told case right 7;
      command = refl;
      accepted = accepted_then;
      no_other = λ u from to.
          ap (λ (c : Bool). if c then AddSlot 0 ∷ Report 0 0x7F 0 ∷ Lapse ∷ [] else if u == 7 then report case u ++ (AddSlot 1 ∷ []) else report case u) (ne_eqb u 0 (λ e. omega arith))
          ∙ ap (λ (c : Bool). if c then report case u ++ (AddSlot 1 ∷ []) else report case u) (ne_eqb u 7 (λ e. omega arith))
          ∙ told case right u;
      readable = sym (begun_at_lem (link case) (receiver case) 24 refl 6) ∙ begun_then;
      settled = λ i l d. (let n = two_slots in let e : i ≡ 0 = omega arith in rw e other_then);
    }

come_true : ActiveWithin (table_at (joined case right)) 1 6 (bound 0 1 2 0)
unfolding bound mst_epochs joined met
come_true = sure_add (link case) (receiver case) 1 2 1 6 (joined case right) adding
