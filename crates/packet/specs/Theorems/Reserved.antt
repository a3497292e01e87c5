-- 'Our sender still writes zeros' (request 2026-08), said of frames' bytes: where a packet is written with reserved 0, the 26 bits of H4's are 0, and the 4 of VC-12's.
use Rattle.std.specs.Prelude.{◌≡◌, ℕ, Bool, true, false, cond, List, ◌==◌, refl, Ok}
use Rattle.std.proofs.Common.{arith}
use Rattle.packet.specs.Bounds.{Bounds}
use Rattle.packet.specs.Laws.Bounds.{bounds}
use Rattle.packet.specs.Reserved.{NoneReserved, NoneReservedBy, NoneReservedVc12}
use Rattle.packet.specs.declared.layout.Fields.{Fields}
use Rattle.packet.specs.Kinds.{vc12_kind}
use Rattle.packet.specs.Layout.{data_of, h4_of, nibbles_of, sealed_of}
use Rattle.packet.specs.Sent.{sent_answer, sent_bytes}
use Rattle.packet.specs.Theorems.ReadBack.{written_as}
use Rattle.packet.specs.Theorems.Vc12.{vc12_written}
use Rattle.packet.specs.Vc12.{vc12_bits, vc12_bytes, vc12_data, write_vc12_answer, write_vc12_bytes}
use Rattle.packet.specs.Writing.{write_answer, write_bytes}

zeros_sent : (f : Fields) → Bounds f → f.reserved ≡ 0 → NoneReserved (h4_of (nibbles_of f))
unfolding h4_of nibbles_of sealed_of data_of
zeros_sent f b z =
    rw z
    (record {
      mfi1_10 = omega arith;
      mfi1_11 = omega arith;
      mfi1_12 = omega arith;
      mfi1_13 = omega arith;
      mfi1_3 = omega arith;
      mfi1_4 = omega arith;
      mfi1_5 = omega arith;
    })

pub none_reserved : (f : Fields) (s : List ℕ) → write_answer f s ≡ Ok tt → f.reserved ≡ 0 → NoneReserved (write_bytes f s)
none_reserved f s e z = let w = written_as f s e in rw w.bytes (zeros_sent f (bounds f w.fits) z)

zeros_vc12 : (f : Fields) → f.reserved ≡ 0 → NoneReservedVc12 (vc12_bytes (vc12_bits f))
unfolding vc12_bytes vc12_bits vc12_data
zeros_vc12 f z = rw z (record { bit_17 = refl; bit_18 = refl; bit_19 = refl; bit_20 = refl })

pub none_reserved_by : (kind : ℕ) (f : Fields) (s : List ℕ) → sent_answer kind f s ≡ Ok tt → f.reserved ≡ 0 → NoneReservedBy kind (sent_bytes kind f s)
unfolding sent_answer sent_bytes
none_reserved_by kind f s = go (kind == vc12_kind)
  where
    go : (b : Bool) → cond b (write_vc12_answer f s) (write_answer f s) ≡ Ok tt → f.reserved ≡ 0
        → cond b (NoneReservedVc12 (cond b (write_vc12_bytes f s) (write_bytes f s))) (NoneReserved (cond b (write_vc12_bytes f s) (write_bytes f s)))
    go true done z = rw (vc12_written f s done).bytes (zeros_vc12 f z)
    go false done z = none_reserved f s done z
