-- What demand 3 lets be so reaches as far down as the minutes and 01 say: instances at the lower bounds.
use Rattle.std.specs.Prelude.{◌≡◌, refl, List, [], ◌∷◌, ℕ, get_or, ◌==◌}
use Rattle.std.proofs.Common.{arith, eqb-true, ltb-true}
use Rattle.ground.specs.Finite.{below_at}
use Rattle.ground.specs.Plain.{◌<?◌}
use Rattle.packet.specs.Changes.{changed, kept_part}
use Rattle.packet.specs.Crc.{nibble_bits}
use Rattle.packet.specs.Kinds.{epochs, frames}
use Rattle.packet.specs.Layout.{highs_of}
use Rattle.link.specs.History.{Allowed}
use Rattle.link.specs.Link.{Damaged}

-- 'A group has 1 to 64 slots': one. 64, from the last epoch on, are those of Largest.
allowed_least : Allowed (record { kind = 0; slots = 1; first = 0; before = λ i. []; gid = λ i. 0; mst = λ i. 0; ack = λ i. 0 })
unfolding epochs
allowed_least = record { lcas = refl; some = omega arith; most = omega arith; first = omega arith; gid = λ i. omega arith; mst = λ i. omega arith; ack = λ i. omega arith }

-- 'one to three bits changed': one, in the first nibble of the CRC
abbrev sent : List ℕ
sent = 0xF8 ∷ 0xF9 ∷ 0x0A ∷ 0x0B ∷ 0x0C ∷ 0x0D ∷ 0xFE ∷ 0xFF ∷ 0x00 ∷ 0x01 ∷ 0x52 ∷ 0x03 ∷ 0x04 ∷ 0x05 ∷ 0x96 ∷ 0x97 ∷ []

abbrev hit : List ℕ
hit = 0xF8 ∷ 0xF9 ∷ 0x0A ∷ 0x0B ∷ 0x0C ∷ 0x0D ∷ 0xFE ∷ 0xFF ∷ 0x00 ∷ 0x01 ∷ 0x52 ∷ 0x03 ∷ 0x04 ∷ 0x05 ∷ 0x86 ∷ 0x97 ∷ []

one : changed 0 sent hit ≡ 1
unfolding highs_of nibble_bits changed
one = refl

one_bit : Damaged 0 3 sent hit
unfolding frames kept_part
one_bit =
    record {
      long = refl;
      bytes = λ k b. ltb-true (get_or hit k 0) 256 (below_at 16 (λ i. get_or hit i 0 <? 256) refl k b);
      least = omega (arith, one);
      most = omega (arith, one);
      placed = λ k b. eqb-true (kept_part 0 k (get_or hit k 0)) (kept_part 0 k (get_or sent k 0)) (below_at 16 (λ i. kept_part 0 i (get_or hit i 0) == kept_part 0 i (get_or sent i 0)) refl k b);
    }
