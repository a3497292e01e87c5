-- What a report sees of a packet does not depend on its reserved bits (request 2026-08): by the receiver's own count, two that differ in those bits and the CRC alone rule alike, or both rule nothing. Of every kind; the CRC is right, where it is looked at.
use Rattle.std.specs.Prelude.{◌≡◌, ◌≢◌, Bool, ◌||◌, List, ℕ, cond, if◌then◌else◌, ◌==◌, Err}
use Rattle.std.proofs.Math.Path.{refl, ap, ap₂}
use Rattle.std.proofs.Common.{subst, eqb-true}
use Rattle.std.proofs.Math.Bool.{true, false}
use Rattle.packet.specs.Reserved.{SameBeside, SameBesideBy, SameBesideVc12}
use Rattle.packet.specs.Theorems.RuleAlike.{epoch_alike, fixed_alike, rule_alike}
use Rattle.packet.specs.declared.reader.Unread.TheVariants.{Crc}
use Rattle.packet.specs.declared.ruling.Ruling.{Ruling}
use Rattle.packet.specs.Kinds.{fixed_kind, vc12_kind}
use Rattle.packet.specs.Ruling.{read_row, refused}
use Rattle.step.specs.OwnCount.{own_number, own_ruling, ruling_in}

module _ (kind epoch : ℕ) (row other : List ℕ) (same : SameBesideBy kind row other) where
  own_same : (kind == vc12_kind || own_number epoch row) ≡ (kind == vc12_kind || own_number epoch other)
  unfolding own_number
  own_same = go (kind == vc12_kind) same
    where
      go : (b : Bool) → cond b (SameBesideVc12 row other) (SameBeside row other) → (b || own_number epoch row) ≡ (b || own_number epoch other)
      go true s = refl
      go false s = ap (λ (n : ℕ). n == epoch) (epoch_alike row other s)

  pub own_alike : ((kind == fixed_kind) ≡ false → read_row kind row ≢ Err Crc) → ((kind == fixed_kind) ≡ false → read_row kind other ≢ Err Crc) → own_ruling kind epoch row ≡ own_ruling kind epoch other
  unfolding own_ruling ruling_in
  own_alike one two = ap₂ (λ (own : Bool) (r : Ruling). if own then r else refused) own_same (inside (kind == fixed_kind) refl)
    where
      inside : (b : Bool) → (kind == fixed_kind) ≡ b → ruling_in kind epoch row ≡ ruling_in kind epoch other
      inside true e = rw e (fixed_alike row other (subst (λ (n : ℕ). SameBesideBy n row other) (eqb-true kind fixed_kind e) same))
      inside false e = rw e (rule_alike kind epoch row other same (one e) (two e))
