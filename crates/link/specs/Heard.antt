-- What is heard over demand 3's lines: what the sending side says back in each epoch, and what the receiver is then to hear.
use Rattle.std.specs.Prelude.{◌≡◌, Bool, List, ℕ, ◌<◌, length, if◌then◌else◌}
use Rattle.ground.specs.Counting.Words.{some}
use Rattle.packet.specs.Symbols.{packet_row}
use Rattle.receiver.specs.declared.seeing.Carried.{Carried}
use Rattle.receiver.specs.Heard.{heard_answer, heard_out, said_by, silence}
use Rattle.receiver.specs.Seen.{carried_by}
use Rattle.step.specs.Carried.{reading_in}
use Rattle.link.specs.Link.{Link, kind_of, same_bytes, sent_to}
use Rattle.link.specs.Running.{Moment}
use Rattle.link.specs.Sending.{Sending, epoch_number}

-- what a packet of the kind carries, as it was sent
abbrev pub carried_in : (kind : ℕ) (packet : List ℕ) → Carried
carried_in kind packet = carried_by (reading_in kind (packet_row kind packet))

-- 'The sender writes all packets of an epoch from one state of the table, that at the epoch's start': each carries the epoch's number, and the MST and RS-Ack that were given at its start.
pub record SaysBack (s : Sending) (mst ack : ℕ → ℕ) : Type 0 where
  pub numbered : (i slot : ℕ) → slot < s.slots → (carried_in s.kind (s.packet i slot)).epoch ≡ epoch_number s.kind s.first i
  pub states : (i slot : ℕ) → slot < s.slots → (carried_in s.kind (s.packet i slot)).mst ≡ mst i
  pub turns : (i slot : ℕ) → slot < s.slots → (carried_in s.kind (s.packet i slot)).rs_ack ≡ ack i

-- some packet of the i-th epoch came as sent
unfoldable pub some_as_sent : (k : Link) (i : ℕ) → Bool
some_as_sent k i = some k.ports (λ p. same_bytes (k.came i p) (sent_to k i p))

-- what is to be heard of the i-th epoch: what was given at its start, or nothing where every packet came changed
unfoldable pub expected_heard : (k : Link) (mst ack : ℕ → ℕ) (i : ℕ) → List ℕ
expected_heard k mst ack i = if some_as_sent k i then said_by (epoch_number (kind_of k) k.sending.first i) (mst i) (ack i) else silence

-- the call answers 0 and writes this into any four bytes
pub record Hears (m : Moment) (said : List ℕ) : Type 0 where
  pub answer : (out : List ℕ) → length out ≡ 4 → heard_answer m.rows (length out) ≡ 0
  pub bytes : (out : List ℕ) → length out ≡ 4 → heard_out m.rows out ≡ said
