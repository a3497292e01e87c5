-- What the host reads out: the ports, and the reply (01, 'Member states and reply').
use Rattle.std.specs.Prelude.{Bool, ◌&&◌, List, [], ◌∷◌, ℕ, length, if◌then◌else◌, ◌==◌}
use Rattle.ground.specs.Counting.Each.{each}
use Rattle.ground.specs.Flags.{one_if}
use Rattle.ground.specs.Types.{Bytes, Epoch, Rows}
use Rattle.judge.specs.Seen.{size_of}
use Rattle.packet.specs.Kinds.{fixed_kind, idle_number}
use Rattle.phases.specs.Sizes.{ports_in}
use Rattle.receiver.specs.Lengths.{rows_fit}
use Rattle.receiver.specs.Report.{reply_ports}
use Rattle.reply.specs.Members.{fail_state, idle_state, ok_state}
use Rattle.reply.specs.Telling.{mst_of}
use Rattle.rows.specs.declared.group.Group.{Group}
use Rattle.rows.specs.declared.member.Member.{Member}
use Rattle.rows.specs.declared.step.Step.{Step}
use Rattle.rows.specs.Group.{group_at}
use Rattle.rows.specs.Member.{member_at}
use Rattle.rows.specs.Step.{step_at}
use Rattle.step.specs.Arrival.{flag_of, in_step, readable}

-- the number that goes with a port's state; an IDLE port has none
abbrev pub shown_number : ℕ → Member → ℕ
shown_number kind m = if m.state == idle_state then idle_number kind else m.state_number

-- which timer runs: 0 none, 1 hold-off, 2 restoring (02, 2026-03)
abbrev pub waiting_byte : Member → ℕ
waiting_byte m = if m.elapsed == 0 then 0 else if m.state == ok_state then 1 else if m.state == fail_state then 2 else 0

-- eight bytes a port: state, number, in step, joined, readable, flagged failed, the last good word, waiting
unfoldable pub port_shown : (g : Group) (step : Step) (m : Member) → Bytes
port_shown g step m =
    m.state
    ∷ shown_number g.kind m
    ∷ one_if (in_step g step)
    ∷ one_if (flag_of step.joined)
    ∷ one_if (readable g step)
    ∷ one_if (flag_of step.failed)
    ∷ m.word
    ∷ waiting_byte m
    ∷ []

unfoldable pub port_in : (g : Group) (s : Rows) (port : ℕ) → Bytes
port_in g s i = port_shown g (step_at s i) (member_at s i)

unfoldable pub shown_fit : (ports rows out : ℕ) → Bool
shown_fit n rows out = rows_fit n rows && out == n

unfoldable pub ports_answer : Rows → ℕ → ℕ
ports_answer s out = if shown_fit (ports_in (group_at s)) (length s) out then 0 else 9

unfoldable pub ports_out : Rows → List (List ℕ) → List (List ℕ)
ports_out s out =
    if shown_fit (ports_in (group_at s)) (length s) (length out)
    then each (ports_in (group_at s)) (port_in (group_at s) s) out
    else out

-- Of a fixed group 'there is no DNU, EOS, GID rule or reply' (request 2026-12): what is read is what an end without LCAS sends back.
abbrev pub reply_byte : ℕ → ℕ → ℕ
reply_byte kind byte = if kind == fixed_kind then 0 else byte

-- 'MST for q is 0 exactly if an OK port holds q', of the numbers that the epoch speaks of; and RS-Ack beside it
unfoldable pub reply_of : Rows → Epoch → Bytes
reply_of s e =
    let g = group_at s in
    reply_byte g.kind (mst_of g.kind (reply_ports g s (ports_in g)) (size_of (ports_in g)) e) ∷ reply_byte g.kind (one_if (flag_of g.rs_ack)) ∷ []

unfoldable pub reply_fit : (ports rows out : ℕ) → Bool
reply_fit n rows out = rows_fit n rows && out == 2

unfoldable pub reply_answer : Rows → ℕ → ℕ
reply_answer s out = if reply_fit (ports_in (group_at s)) (length s) out then 0 else 9

unfoldable pub reply_out : (s : Rows) (epoch : Epoch) (out : Bytes) → Bytes
reply_out s e out = if reply_fit (ports_in (group_at s)) (length s) (length out) then reply_of s e else out
