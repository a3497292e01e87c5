-- The loop by epochs, on the definitions of sender and reply: what each slot sends, what each port hears a epochs later, the states and the reply that come of it, and the report that is handed b epochs later. For rows and wrong readings.
use Rattle.std.specs.Prelude.{Bool, true, ◌&&◌, List, [], ◌∷◌, ℕ, zero, suc, ◌+◌, ◌-◌, ◌%◌, get_or, if◌then◌else◌, ◌==◌}
use Rattle.ground.specs.Table.{tabulate}
use Rattle.receiver.specs.Starting.{time_of}
use Rattle.reply.specs.declared.members.Port.{Port}
use Rattle.reply.specs.declared.waiting.Standing.{Standing}
use Rattle.reply.specs.Members.{port_at}
use Rattle.reply.specs.Telling.{ack_of, mst_of}
use Rattle.reply.specs.Waiting.{no_standing, standings_of}
use Rattle.sender.specs.declared.board.Row.{Row}
use Rattle.sender.specs.declared.table.Table.{Table}
use Rattle.sender.specs.Board.{board_of}
use Rattle.sender.specs.Calls.{Call, run}
use Rattle.sender.specs.Numbering.{slots_in, state_in}
use Rattle.sender.specs.Ranks.{row_at}
use Rattle.sender.specs.Reports.{report_of}
use Rattle.sender.specs.Table.{is_active}

pub record Setting : Type 0 where
  -- the table at start 0, the calls between each start and the next, and the delays
  pub before : Table
  pub calls : ℕ → List Call
  pub out : ℕ
  pub back : ℕ
  -- wrong readings: by how many starts the reply is read before the report is fetched, by how many epochs the back packet's number is taken too low, and whether the epoch is started before that packet is handed over
  pub ahead : ℕ
  pub late : ℕ
  pub starts_first : Bool
  -- the number of the back epoch that runs from start 0 on
  pub number : ℕ
  -- each port's times, and whether it is readable at the report by a start
  pub hold : List ℕ
  pub restore : List ℕ
  pub readable : ℕ → ℕ → Bool

-- what stands at a start: the table that the epoch starts with, the one that the calls behind it find, the ports as the report by it leaves them, and RS-Ack
pub record At : Type 0 where
  pub table : Table
  pub found : Table
  pub ports : List Port
  pub ack : ℕ

module _ (s : Setting) where
  -- a port that hears a slot's packet, where it is readable
  abbrev hears : Port → Row → Bool → ℕ → Port
  hears p row readable i =
      record {
        word = if readable then row.word.0 else p.word;
        number = if readable then row.number else p.number;
        state = p.state;
        state_number = p.state_number;
        told_word = p.told_word;
        told_number = p.told_number;
        readable = readable;
        hold_off = time_of s.hold i;
        restore = time_of s.restore i;
        elapsed = p.elapsed;
      }

  -- with what the report leaves of it
  abbrev told : Port → Standing → Port
  told p left =
      record {
        word = p.word;
        number = p.number;
        state = left.state;
        state_number = left.number;
        told_word = p.word;
        told_number = p.number;
        readable = p.readable;
        hold_off = p.hold_off;
        restore = p.restore;
        elapsed = left.elapsed;
      }

  -- a report that takes in what a table has sent
  abbrev reported : (ℕ → Bool) → Table → At → Table → Table → At
  reported readable sent was next found =
      let n = slots_in next in
      let heard = tabulate n (λ i. hears (port_at was.ports i) (row_at (board_of sent).rows i) (readable i) i) in
      let left = standings_of heard n in
      record { table = next; found = found; ports = tabulate n (λ i. told (port_at heard i) (get_or left i no_standing)); ack = ack_of heard n was.ack }

  -- before any report; when all ports have heard the table before the add, which has been sent for long; and at start 0
  abbrev fresh : At
  fresh = record { table = s.before; found = s.before; ports = []; ack = 0 }

  abbrev heard : At
  heard = reported (λ i. true) s.before fresh s.before s.before

  abbrev first : At
  first = reported (s.readable 0) s.before heard s.before s.before

  -- all starts up to k, the last one first
  unfoldable pub starts : ℕ → List At
  starts zero = first ∷ []
  starts (suc k) =
      let all = starts k in
      let now = get_or all 0 first in
      let answer = get_or all (s.back + s.ahead) first in
      let number = (s.number + 256 + k - s.back) % 256 in
      let asked = run now.found (s.calls k) in
      let handed = (report_of asked ((number + 256 - s.late) % 256) (mst_of 0 answer.ports (slots_in asked) number) answer.ack).table in
      reported (s.readable (suc k)) (get_or all s.out first).table now (if s.starts_first then asked else handed) handed ∷ all

  -- the first start at which a slot is active; 0 where it is none up to k
  abbrev pub first_of : ℕ → ℕ → List At → ℕ
  first_of slot k [] = 0
  first_of slot k (x ∷ rest) = let sooner = first_of slot (k - 1) rest in if is_active (state_in x.table slot) && (sooner == 0) then k else sooner

  abbrev pub active_at : (slot most : ℕ) → ℕ
  active_at slot most = first_of slot most (starts most)
