-- What it says that fields fit a packet of a kind, field by field (01, 'The control packet'; of VC-12 request 2026-01).
use Rattle.std.specs.Prelude.{◌≡◌, ℕ, ◌^◌, ◌<◌, true, false, ◌==◌}
use Rattle.packet.specs.Words.{FIXED, assigned}
use Rattle.packet.specs.declared.layout.Fields.{Fields}

pub record Within (epochs numbers values : ℕ) (f : Fields) : Type 0 where
  pub epoch : f.epoch < epochs
  pub mst : f.mst < 256
  pub sq : f.sq < numbers
  pub gid : f.gid < 2
  pub ack : f.rs_ack < 2
  pub reserved : f.reserved < values
  pub nibble : f.word.0 < 16
  pub word : assigned f.word ≡ true
  pub not_fixed : (f.word.0 == FIXED) ≡ false

abbrev pub Bounds : Fields → Type 0
Bounds f = Within 256 256 (2 ^ 26) f

abbrev pub Vc12Bounds : Fields → Type 0
Vc12Bounds f = Within 32 64 16 f
