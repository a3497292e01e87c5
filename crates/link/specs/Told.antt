-- A report as the host has it: the record's mark and epoch, as many bytes of the output as it says, and the rest of the output.
use Rattle.std.specs.Prelude.{◌≡◌, List, ℕ}

pub record Told : Type 0 where
  pub epoch : ℕ
  pub mark : ℕ
  pub bytes : List ℕ
  pub rest : List ℕ

-- two reports say the same of their epochs
abbrev pub SaySame : Told → Told → Type 0
SaySame a b = (a.mark ≡ b.mark) × (a.bytes ≡ b.bytes)
