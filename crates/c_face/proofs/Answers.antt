-- Each way out of the packet's C calls, as the definitions have it.
use Rattle.std.specs.Prelude.{Ok}
use mathlib.Core.Path.{◌≡◌, refl, ◌∙◌, sym, ap}
use mathlib.Core.Bool.{Bool, true, false, ◌&&◌, false≢true}
use mathlib.Core.List.{List}
use Prim.Native.Nat.{ℕ, ◌<◌}
use native.Mathlib.Omega.{arith}
use borrow.Author.Tests.{eq-eqb, ne_eqb, lt-ltb, ltb-true}
use lib.Dec.{ltb}
use lib.ListN.{length}
use Rattle.ground.specs.Truth.{and_left, and_right, fails}
use Rattle.packet.specs.Theorems.Sent.{sent_h4_lem, sent_vc12}
use Rattle.packet.specs.declared.layout.Fields.{Fields}
use Rattle.packet.specs.Laws.Bounds.{sent_bounds}
use Rattle.packet.specs.Laws.Writing.{unfit_answer, unfit_bytes}
use Rattle.packet.specs.Reading.{read_answer, reading_number, Reading}
use Rattle.packet.specs.Sent.{sent_answer, sent_bytes, sent_fits}
use Rattle.packet.specs.Vc12.{read_vc12_answer, write_vc12_answer, write_vc12_bytes}
use Rattle.packet.specs.Writing.{write_answer, write_bytes, writing_number}
use Rattle.packet.specs.Fixed.{read_fixed_answer}
use Rattle.c_face.specs.Packets.{are_bytes, given, read_answer_c, read_fields_c, read_fixed_answer_c, read_fixed_fields_c, read_vc12_answer_c, read_vc12_fields_c, values_in, values_or, write_refusal}

module _ (epoch word gid mst ack sq : ℕ) where
  pub record Bytes : Type 0 where
    pub epoch_fits : epoch < 256
    pub word_fits : word < 256
    pub gid_fits : gid < 256
    pub mst_fits : mst < 256
    pub ack_fits : ack < 256
    pub sq_fits : sq < 256

  pub bytes_said : are_bytes epoch word gid mst ack sq ≡ true → Bytes
  bytes_said t =
      let t5 = and_left (E && W && G && M && A) S t in
      let t4 = and_left (E && W && G && M) A t5 in
      let t3 = and_left (E && W && G) M t4 in
      let t2 = and_left (E && W) G t3 in
      record {
        epoch_fits = ltb-true epoch 256 (and_left E W t2);
        word_fits = ltb-true word 256 (and_right E W t2);
        gid_fits = ltb-true gid 256 (and_right (E && W) G t3);
        mst_fits = ltb-true mst 256 (and_right (E && W && G) M t4);
        ack_fits = ltb-true ack 256 (and_right (E && W && G && M) A t5);
        sq_fits = ltb-true sq 256 (and_right (E && W && G && M && A) S t);
      }
    where
      E : Bool
      E = ltb epoch 256

      W : Bool
      W = ltb word 256

      G : Bool
      G = ltb gid 256

      M : Bool
      M = ltb mst 256

      A : Bool
      A = ltb ack 256

      S : Bool
      S = ltb sq 256

  -- where a field is no byte, the fields fit no packet
  pub unfit : (kind reserved : ℕ) → are_bytes epoch word gid mst ack sq ≡ false → sent_fits kind (given epoch word gid mst ack sq reserved) ≡ false
  unfit kind reserved e =
      fails (sent_fits kind (given epoch word gid mst ack sq reserved))
      (λ t. let b = sent_bounds kind f t in wide (omega arith) (omega arith) (omega arith) (omega arith) (omega arith) (omega arith))
    where
      f : Fields
      f = given epoch word gid mst ack sq reserved

      wide : epoch < 256 → word < 256 → gid < 256 → mst < 256 → ack < 256 → sq < 256 → ⊥
      wide be bw bg bm ba bs = false≢true (sym e ∙ rw (lt-ltb epoch 256 be, lt-ltb word 256 bw, lt-ltb gid 256 bg, lt-ltb mst 256 bm, lt-ltb ack 256 ba, lt-ltb sq 256 bs) refl)

  pub write_unfit : (kind reserved : ℕ) (s : List ℕ) (r : ℕ) → are_bytes epoch word gid mst ack sq ≡ false → r ≡ write_refusal kind (length s)
      → (r ≡ writing_number (sent_answer kind (given epoch word gid mst ack sq reserved) s)) × (s ≡ sent_bytes kind (given epoch word gid mst ack sq reserved) s)
  write_unfit kind reserved s r e h =
      (h ∙ sym (unfit_answer kind (given epoch word gid mst ack sq reserved) s (unfit kind reserved e)), sym (unfit_bytes kind (given epoch word gid mst ack sq reserved) s (unfit kind reserved e)))

-- H4's packet and VC-12's, by their kinds
module _ (f : Fields) (s : List ℕ) (r : ℕ) (out : List ℕ) where
  pub write_h4 : (r ≡ writing_number (sent_answer 0 f s)) × (out ≡ sent_bytes 0 f s) → (r ≡ writing_number (write_answer f s)) × (out ≡ write_bytes f s)
  write_h4 e = (e.0 ∙ ap writing_number (sent_h4_lem f s).0, e.1 ∙ (sent_h4_lem f s).1)

  pub write_vc12_lem : (r ≡ writing_number (sent_answer 1 f s)) × (out ≡ sent_bytes 1 f s) → (r ≡ writing_number (write_vc12_answer f s)) × (out ≡ write_vc12_bytes f s)
  write_vc12_lem e = (e.0 ∙ ap writing_number (sent_vc12 f s).0, e.1 ∙ (sent_vc12 f s).1)

-- ten lent bytes for what is read, and any other number of them
module _ (h4 s : List ℕ) where
  pub read_wrong : (length s ≡ 10 → ⊥) → (9 ≡ read_answer_c h4 s) × (s ≡ read_fields_c h4 s)
  unfolding read_answer_c read_fields_c
  read_wrong d = rw (ne_eqb (length s) 10 d) (refl, refl)

  pub read_right : (t : Reading) (r : ℕ) (v : List ℕ) → length s ≡ 10 → t ≡ read_answer h4 → (r ≡ reading_number t) × (v ≡ values_or t s) → (r ≡ read_answer_c h4 s) × (v ≡ read_fields_c h4 s)
  unfolding read_answer_c read_fields_c
  read_right t r v h e k = rw (eq-eqb (length s) 10 h, ← e) k

  pub fixed_wrong : (length s ≡ 10 → ⊥) → (9 ≡ read_fixed_answer_c h4 s) × (s ≡ read_fixed_fields_c h4 s)
  unfolding read_fixed_answer_c read_fixed_fields_c
  fixed_wrong d = rw (ne_eqb (length s) 10 d) (refl, refl)

  pub fixed_right : (t : Reading) (r : ℕ) (v : List ℕ) → length s ≡ 10 → t ≡ read_fixed_answer h4 → (r ≡ reading_number t) × (v ≡ values_or t s)
      → (r ≡ read_fixed_answer_c h4 s) × (v ≡ read_fixed_fields_c h4 s)
  unfolding read_fixed_answer_c read_fixed_fields_c
  fixed_right t r v h e k = rw (eq-eqb (length s) 10 h, ← e) k

  pub vc12_wrong : (length s ≡ 10 → ⊥) → (9 ≡ read_vc12_answer_c h4 s) × (s ≡ read_vc12_fields_c h4 s)
  unfolding read_vc12_answer_c read_vc12_fields_c
  vc12_wrong d = rw (ne_eqb (length s) 10 d) (refl, refl)

  pub vc12_right : (t : Reading) (r : ℕ) (v : List ℕ) → length s ≡ 10 → t ≡ read_vc12_answer h4 → (r ≡ reading_number t) × (v ≡ values_or t s)
      → (r ≡ read_vc12_answer_c h4 s) × (v ≡ read_vc12_fields_c h4 s)
  unfolding read_vc12_answer_c read_vc12_fields_c
  vc12_right t r v h e k = rw (eq-eqb (length s) 10 h, ← e) k

-- a packet's values put for a reading that is this packet
pub reading_put : (t : Reading) (f : Fields) (s v : List ℕ) → t ≡ Ok f → v ≡ values_in f → (0 ≡ reading_number t) × (v ≡ values_or t s)
reading_put t f s v e h = rw e (refl, h)
