-- Lists of nibbles: numbers below 16.
use Rattle.std.specs.Prelude.{◌≡◌, ℕ, zero, suc, ◌+◌, ◌*◌, ◌/◌, ◌%◌, ◌<◌, Bool, List, [], ◌∷◌, ◌++◌, length, take, drop, slice_index, slice_index_or, refl}
use Rattle.std.proofs.Common.{◌∙◌, sym, ap, ap₂, le_of_suc-le-suc, not-suc-le-zero, arith}
use Rattle.std.proofs.Math.Nat.{suc_inj}
use Rattle.ground.specs.Bits.{number, number_bits}
use Rattle.ground.specs.Table.{tabulate, tabulate_ext, tabulate_self, get_or_tabulate}
use Rattle.packet.specs.Bounds.{Bounds}
use Rattle.packet.specs.declared.layout.Fields.{Fields}
use Rattle.packet.specs.Crc.{crc_of, nibble_bits, bits_of}
use Rattle.packet.specs.Laws.Bytes.{crc_lt}
use Rattle.packet.specs.Layout.{data_of, h4_of, highs_of, nibbles_of, sealed_of}

abbrev pub Nibbles : List ℕ → Type 0
Nibbles [] = Unit {0}
Nibbles (n ∷ ns) = (n < 16) × Nibbles ns

pub nibbles_at : (ns : List ℕ) → Nibbles ns → (k : ℕ) → k < length ns → slice_index ns k < 16
nibbles_at [] all k h = absurd (not-suc-le-zero h)
nibbles_at (n ∷ ns) all zero h = all.0
nibbles_at (n ∷ ns) all (suc k) h = nibbles_at ns all.1 k (le_of_suc-le-suc h)

pub data_nibbles : (f : Fields) → Bounds f → Nibbles (data_of f)
unfolding data_of
data_nibbles f b =
    (omega arith, (omega arith, (omega arith, (omega arith, (omega arith, (omega arith, (omega arith, (omega arith, (omega arith, (omega arith, (omega arith, (omega arith, (omega arith, (omega arith, tt))))))))))))))

pub packet_nibbles : (f : Fields) → Bounds f → Nibbles (nibbles_of f)
unfolding nibbles_of sealed_of
packet_nibbles f b = joined (data_of f) (data_nibbles f b)
  where
    joined : (d : List ℕ) → Nibbles d → Nibbles (d ++ ((crc_of (data_of f) / 16) ∷ (crc_of (data_of f) % 16) ∷ []))
    joined [] all = let h = crc_lt (data_of f) in (omega arith, (omega arith, tt))
    joined (n ∷ d) all = (all.0, joined d all.1)

pub highs_back : (ns : List ℕ) → Nibbles ns → length ns ≡ 16 → highs_of (h4_of ns) ≡ ns
unfolding highs_of h4_of
highs_back ns all h =
    tabulate_ext 16 _ (λ k. slice_index ns k) at
    ∙ ap (λ (n : ℕ). tabulate n (λ k. slice_index ns k)) (sym h)
    ∙ tabulate_self ns 0
  where
    at : (k : ℕ) → k < 16 → slice_index (tabulate 16 (λ i. slice_index ns i % 16 * 16 + (i + 8) % 16)) k / 16 ≡ slice_index ns k
    at k b =
        let n : slice_index_or ns k 0 < 16 = nibbles_at ns all k (omega arith) in
        rw (get_or_tabulate 16 (λ i. slice_index ns i % 16 * 16 + (i + 8) % 16) k 0 b) (omega arith)

-- nibbles are told by their bits
pub bits_tell : (ms ns : List ℕ) → Nibbles ms → Nibbles ns → length ms ≡ length ns → bits_of ms ≡ bits_of ns → ms ≡ ns
unfolding nibble_bits
bits_tell [] [] am an h e = refl
bits_tell [] (n ∷ ns) am an h e = absurd (omega arith)
bits_tell (m ∷ ms) [] am an h e = absurd (omega arith)
bits_tell (m ∷ ms) (n ∷ ns) am an h e =
    ap₂ ◌∷◌ same (bits_tell ms ns am.1 an.1 (suc_inj h) (ap (λ (l : List Bool). drop 4 l) e))
  where
    same : m ≡ n
    same =
        let p = number_bits 4 m in
        let q = number_bits 4 n in
        let r = ap (λ (l : List Bool). number (take 4 l)) e in
        let a = am.0 in
        let b = an.0 in
        omega (arith, p, q, r, a, b)
