-- Payload order (01, 'Payload order'): X members are ranked 0 to X-1, and a member frame has P bytes.
-- Members are given as a function: m r j is byte j of the member ranked r.
use Rattle.std.specs.Prelude.{ℕ, ◌+◌, ◌*◌, ◌/◌, ◌%◌, get_or, if◌then◌else◌}
use Rattle.ground.specs.Plain.{◌<?◌}
use Rattle.ground.specs.Table.{tabulate}
use Rattle.ground.specs.Types.{Bytes}

-- 'Byte p of a group frame is byte p div X of the member ranked p mod X.'
abbrev pub group_byte : (X : ℕ) (m : ℕ → ℕ → ℕ) (p : ℕ) → ℕ
group_byte X m p = m (p % X) (p / X)

-- A group frame has X x P bytes, so 'X = 0 gives an empty group frame'.
abbrev pub group_frame : (X P : ℕ) (m : ℕ → ℕ → ℕ) → Bytes
group_frame X P m = tabulate (X * P) (group_byte X m)

-- The same sentence from the member's side: byte j of the member ranked r is byte j X + r of the group frame g.
-- A member with no rank below X has no byte in the frame: zero.
abbrev pub member_byte : (X : ℕ) (g : Bytes) (r j : ℕ) → ℕ
member_byte X g r j = if r <? X then get_or g (j * X + r) 0 else 0

abbrev pub member_frame : (X P : ℕ) (g : Bytes) (r : ℕ) → Bytes
member_frame X P g r = tabulate P (member_byte X g r)
