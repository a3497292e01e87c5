-- What holds of the receiver's rows after any calls.
use Rattle.std.specs.Prelude.{◌≡◌, Bool, true, false, ◌||◌, ℕ, ◌≤◌, ◌<◌, length, if◌then◌else◌, ◌==◌}
use Rattle.ground.specs.Types.{Rows}
use Rattle.invariant.specs.Kept.Port.{PortKept}
use Rattle.packet.specs.Kinds.{epochs, fixed_kind}
use Rattle.packet.specs.Words.{ADD, DNU, EOS, FIXED, IDLE, NORM}
use Rattle.phases.specs.Settling.{Settled}
use Rattle.phases.specs.Sizes.{sized}
use Rattle.reply.specs.Members.{no_word, ok_state}
use Rattle.rows.specs.declared.group.Group.{Group}
use Rattle.rows.specs.declared.member.Member.{Member}
use Rattle.rows.specs.Group.{group_at}
use Rattle.rows.specs.Port.{Port, port_at}
use Rattle.rows.specs.Rows.{rows_for}
use Rattle.step.specs.Arrival.{flag_of}

pub record GroupKept (g : Group) : Type 0 where
  pub sizes : sized g.kind g.count g.payload g.window ≡ true
  pub origin : g.origin < g.window
  pub oldest : g.oldest < epochs g.kind
  -- flags are 0 or 1
  pub begun : g.begun ≤ 1
  pub gathered : g.gathered ≤ 1
  pub ack : g.rs_ack ≤ 1
  -- before the beginning
  pub idle_gathered : flag_of g.begun ≡ false → g.gathered ≡ 0
  pub idle_oldest : flag_of g.begun ≡ false → g.oldest ≡ 0

-- the word of a good packet, or none yet
abbrev pub lcas_word : ℕ → Bool
lcas_word w = w == no_word || w == ADD || w == NORM || w == EOS || w == IDLE || w == DNU

-- of a fixed group FIXED, or none yet (request 2026-12)
abbrev pub known_word : ℕ → ℕ → Bool
known_word kind w = if kind == fixed_kind then w == no_word || w == FIXED else lcas_word w

-- of one port
pub record PortIn (g : Group) (p : Port) : Type 0 where
  pub kept : PortKept g p.step p.marks
  -- nothing rules until the first epoch is gathered
  pub unruled : flag_of g.gathered ≡ false → p.step.whole ≡ 0
  pub word : known_word g.kind p.member.word ≡ true

-- OK ports have numbers below 64, each its own
pub record OkApart (n : ℕ) (member : ℕ → Member) : Type 0 where
  pub below : (i : ℕ) → i < n → (member i).state ≡ ok_state → (member i).state_number < 64
  pub apart : (i j : ℕ) → i < n → j < n → (member i).state ≡ ok_state → (member j).state ≡ ok_state → (member i).state_number ≡ (member j).state_number → i ≡ j

-- all but what follows from a frame for all ports
pub record Lasting (s : Rows) : Type 0 where
  pub rows : length s ≡ rows_for (group_at s).count
  pub group : GroupKept (group_at s)
  pub ports : (i : ℕ) → i < (group_at s).count → PortIn (group_at s) (port_at s i)
  pub members : OkApart (group_at s).count (λ i. (port_at s i).member)

-- After every call, stopping, beginning and gathering have followed: they wait for no other call.
pub record Kept (s : Rows) : Type 0 where
  pub lasting : Lasting s
  pub settled : Settled (group_at s).count s
