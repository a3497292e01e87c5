-- VC-12's clock in numbers, for its step rule.
use Rattle.std.specs.Prelude.{◌≡◌, ℕ, ◌+◌, ◌/◌, ◌%◌, refl}
use Rattle.std.proofs.Common.{arith}
use Rattle.packet.specs.Kinds.{epoch_of, epochs, frames, lead, place_of, tag_after, tag_before, tag_of, tags, vc12_kind}

pub vc12_frames : frames vc12_kind ≡ 32
unfolding frames
vc12_frames = refl

pub vc12_epochs : epochs vc12_kind ≡ 32
unfolding epochs
vc12_epochs = refl

pub vc12_tag : (x : ℕ) → tag_of vc12_kind x ≡ x % 1024
unfolding tags
vc12_tag x = refl

pub vc12_next : (t : ℕ) → (t % 1024 + 1) % 1024 ≡ tag_after vc12_kind t
unfolding tag_after tags
vc12_next t = omega arith

pub vc12_before : (t : ℕ) → tag_before vc12_kind t ≡ (t + 1023) % 1024
unfolding tag_before tags
vc12_before t = refl

pub vc12_place : (t : ℕ) → place_of vc12_kind t ≡ t % 32
unfolding place_of frames lead
vc12_place t = omega arith

pub vc12_epoch : (t : ℕ) → epoch_of vc12_kind t ≡ t % 1024 / 32
unfolding epoch_of frames lead tags
vc12_epoch t = omega arith
