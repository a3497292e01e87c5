-- What holds of a port's run of frames after any frames, by the kind of packet.
use Rattle.std.specs.Prelude.{◌≡◌, true, ℕ, ◌*◌, ◌%◌, ◌≤◌, ◌<◌, if◌then◌else◌, ◌==◌}
use Rattle.packet.specs.Counts.{tag_by_high}
use Rattle.packet.specs.Kinds.{frames, tags, vc12_kind}
use Rattle.step.specs.declared.run.Run.{Run}

-- what the first frame of a run tells of the tag to come: of H4 MFI2's high nibble, of VC-12 nothing but the place
unfoldable pub tag_by_first : ℕ → ℕ → ℕ
tag_by_first kind byte = if kind == vc12_kind then 1 else tag_by_high kind byte

pub record FirstTold (kind next : ℕ) : Type 0 where
  pub byte : ℕ
  pub told : next ≡ tag_by_first kind byte

-- what holds of every run
pub record RunKept (kind : ℕ) (run : Run) : Type 0 where
  pub most : run.count ≤ frames kind * 2
  pub tag : run.next < tags kind
  pub none : run.count ≡ 0 → run.next ≡ 0
  pub first : run.count ≡ 1 → FirstTold kind run.next
  pub goes : 0 < run.count → run.count < frames kind * 2 → run.next % frames kind ≡ run.count % frames kind
  -- 'the fourth frame in a row that breaks the count' loses step
  pub breaks : run.breaks ≤ 3
  -- a flag is 0 or 1
  pub odd : run.odd ≤ 1
  -- before the step a break starts anew
  pub clean : run.count < frames kind * 2 → (run.breaks ≡ 0) × (run.odd ≡ 0)
  -- five bits of a count
  pub bits : run.bits < 32
  -- VC-12: before the fifth bit of its first packet the tag to come is the count of frames
  pub early : (kind == vc12_kind) ≡ true → run.count < 5 → run.next ≡ run.count
