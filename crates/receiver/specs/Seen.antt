-- What the receiver saw, for the host to read: of each port the packet that rules the oldest epoch not yet reported. It is what a fetch judges by (Report's `seen_of`); after a report the packets are those of the epoch just reported.
use Rattle.std.specs.Prelude.{Bool, List, [], ◌∷◌, ℕ, get_or, length, if◌then◌else◌, Ok, Err}
use Rattle.ground.specs.Counting.Each.{each}
use Rattle.ground.specs.Flags.{one_if}
use Rattle.ground.specs.Types.{Bytes, Rows}
use Rattle.packet.specs.Reading.{Reading, unread_number}
use Rattle.phases.specs.Sizes.{ports_in}
use Rattle.receiver.specs.declared.seeing.Carried.{Carried}
use Rattle.receiver.specs.Report.{ruling_epoch}
use Rattle.receiver.specs.Shown.{shown_fit}
use Rattle.rows.specs.declared.group.Group.{Group}
use Rattle.rows.specs.Group.{group_at}
use Rattle.rows.specs.Packets.{marks_at, packets_at}
use Rattle.rows.specs.Step.{step_at}
use Rattle.step.specs.Arrival.{flag_of}
use Rattle.step.specs.Carried.{other_number, reading_in}
use Rattle.store.specs.Marks.{first_mark}

-- a refused packet: its number, and 'no packet' (01, 'Answer numbers')
abbrev pub nothing_carried : ℕ → Carried
nothing_carried answer = record { answer = answer; epoch = 0; word = 0; number = 0; gid = 0; mst = 0; rs_ack = 0 }

-- a packet by its reading
abbrev pub carried_by : Reading → Carried
carried_by (Ok f) = record { answer = 0; epoch = f.epoch; word = f.word.0; number = f.sq; gid = f.gid; mst = f.mst; rs_ack = f.rs_ack }
carried_by (Err u) = nothing_carried (unread_number u)

-- what the packet that rules port i carries, whole or not
unfoldable pub carried_at : (g : Group) (s : Rows) (i : ℕ) → Carried
carried_at g s i = carried_by (reading_in g.kind (get_or (packets_at s i) 1 []))

-- whether it carries another number
abbrev pub other_at : (g : Group) (s : Rows) (i : ℕ) → Bool
other_at g s i = other_number g.kind (ruling_epoch g) (get_or (packets_at s i) 1 [])

-- ten bytes: whole, the answer, whether it carries another number than the own count, epoch, word, number, GID, MST, RS-Ack; and last whether the port's frames of the oldest epoch are all here. Of a packet that is not whole nothing is said.
unfoldable pub seen_row : (whole : Bool) (other : Bool) (c : Carried) (here : Bool) → Bytes
seen_row whole other c here =
    if whole
    then 1 ∷ c.answer ∷ one_if other ∷ c.epoch ∷ c.word ∷ c.number ∷ c.gid ∷ c.mst ∷ c.rs_ack ∷ one_if here ∷ []
    else 0 ∷ 0 ∷ 0 ∷ 0 ∷ 0 ∷ 0 ∷ 0 ∷ 0 ∷ 0 ∷ one_if here ∷ []

-- of port i
unfoldable pub seen_in : (g : Group) (s : Rows) (i : ℕ) → Bytes
seen_in g s i =
    seen_row (flag_of (step_at s i).whole) (other_number g.kind (ruling_epoch g) (get_or (packets_at s i) 1 [])) (carried_at g s i) (first_mark (marks_at s i))

unfoldable pub seen_answer : (s : Rows) (out : ℕ) → ℕ
seen_answer s out = if shown_fit (ports_in (group_at s)) (length s) out then 0 else 9

unfoldable pub seen_out : (s : Rows) (out : List (List ℕ)) → List (List ℕ)
seen_out s out =
    if shown_fit (ports_in (group_at s)) (length s) (length out)
    then each (ports_in (group_at s)) (seen_in (group_at s) s) out
    else out
