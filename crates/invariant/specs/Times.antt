-- What a host hears of a receiver but for its members' states (02, 2026-03: 'Only the reply changes; the marks on epochs and demand 3 read as before.').
use Rattle.std.specs.Prelude.{◌≡◌, ◌≢◌, List, [], ◌∷◌, ℕ, get_or}
use Rattle.ground.specs.Types.{Bytes, Rows}
use Rattle.judge.specs.Seen.{size_of}
use Rattle.phases.specs.Sizes.{ports_in}
use Rattle.receiver.specs.Fetch.{fetch_of}
use Rattle.receiver.specs.Frame.{frame_of}
use Rattle.receiver.specs.Shown.{ports_answer, ports_out, reply_answer, reply_out}
use Rattle.reply.specs.declared.waiting.Standing.{Standing}
use Rattle.reply.specs.Waiting.{standings_of}
use Rattle.rows.specs.declared.member.Member.{Member}
use Rattle.rows.specs.Group.{group_at}
use Rattle.rows.specs.Member.{member_at}
use Rattle.invariant.specs.Calls.{Fetch, Frame, Receiver, ReceiverCall, receiver_after}
use Rattle.invariant.specs.Reports.{report_ports}

-- what a call answers and leaves in all that is lent with it but the rows; a frame is lent no output and no record
pub record Outcome : Type 0 where
  pub answer : ℕ
  pub store : Bytes
  pub out : Bytes
  pub report : Bytes

abbrev pub outcome_of : Receiver → ReceiverCall → Outcome
outcome_of x (Frame port failed h payload) =
    record {
      answer = (frame_of x.rows port failed h payload x.store).answer;
      store = (frame_of x.rows port failed h payload x.store).store;
      out = [];
      report = [];
    }
outcome_of x (Fetch out report) =
    record {
      answer = (fetch_of x.rows x.store out report).answer;
      store = x.store;
      out = (fetch_of x.rows x.store out report).out;
      report = (fetch_of x.rows x.store out report).report;
    }

-- of each call in turn
abbrev pub outcomes_of : Receiver → List ReceiverCall → List Outcome
outcomes_of x [] = []
outcomes_of x (c ∷ calls) = outcome_of x c ∷ outcomes_of (receiver_after x c) calls

-- What can be read out beside them is the same, with any output lent: RS-Ack, which is the reply's second byte, in every epoch; and what is shown of
-- the ports, but for the state, its number and what waits, bytes 0, 1 and 7.
pub record SameShown (s t : Rows) : Type 0 where
  pub reply_answer_lem : (long : ℕ) → reply_answer s long ≡ reply_answer t long
  pub ack : (epoch : ℕ) (out : Bytes) → get_or (reply_out s epoch out) 1 0 ≡ get_or (reply_out t epoch out) 1 0
  pub ports_answer_lem : (long : ℕ) → ports_answer s long ≡ ports_answer t long
  pub ports : (out : Rows) (i byte : ℕ) → byte ≢ 0 → byte ≢ 1 → byte ≢ 7 → get_or (get_or (ports_out s out) i []) byte 0 ≡ get_or (get_or (ports_out t out) i []) byte 0

-- What waiting goes by: a port's state, the number under which it has it, its two times and the counter.
abbrev pub waiting_in : Member → List ℕ
waiting_in m = m.state ∷ m.state_number ∷ m.hold_off ∷ m.restore ∷ m.elapsed ∷ []

abbrev pub standing_in : Rows → ℕ → List ℕ
standing_in s j = waiting_in (member_at s j)

-- what the report works out of them, from the ports as they are when its epoch has passed
abbrev pub standings_after : Rows → Bytes → List Standing
standings_after s store = standings_of (report_ports s store) (size_of (ports_in (group_at s)))
