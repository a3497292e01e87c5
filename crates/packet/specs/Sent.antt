-- A packet as our sender writes it, by its kind (01, 'The control packet'; request 2026-01).
use Rattle.std.specs.Prelude.{ℕ, Bool, if◌then◌else◌, ◌==◌}
use Rattle.ground.specs.Types.{Bytes}
use Rattle.packet.specs.declared.layout.Fields.{Fields}
use Rattle.packet.specs.Kinds.{vc12_kind}
use Rattle.packet.specs.Vc12.{vc12_fits, write_vc12_answer, write_vc12_bytes}
use Rattle.packet.specs.Writing.{fitting, write_answer, write_bytes, Writing}

unfoldable pub sent_fits : ℕ → Fields → Bool
sent_fits kind f = if kind == vc12_kind then vc12_fits f else fitting f

unfoldable pub sent_answer : (kind : ℕ) (f : Fields) (s : Bytes) → Writing
sent_answer kind f s = if kind == vc12_kind then write_vc12_answer f s else write_answer f s

unfoldable pub sent_bytes : (kind : ℕ) (f : Fields) (s : Bytes) → Bytes
sent_bytes kind f s = if kind == vc12_kind then write_vc12_bytes f s else write_bytes f s
