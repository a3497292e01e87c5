-- What is answered where a packet is to be written as our sender does, over the kind of packet; and fields that do not fit.
use Rattle.std.specs.Prelude.{◌≡◌, ℕ, ◌^◌, ◌<◌, Bool, true, false, cond, not, ◌&&◌, ◌⊎◌, List, length, ◌==◌, refl, Ok, Err}
use Rattle.std.proofs.Common.{⊎_elim, arith, lt-ltb}
use Rattle.packet.specs.declared.layout.Fields.{Fields}
use Rattle.packet.specs.declared.writer.Unwritten.TheVariants.{Field, Length}
use Rattle.packet.specs.Kinds.{epochs, frames, idle_number, vc12_kind}
use Rattle.packet.specs.Sent.{sent_answer, sent_bytes, sent_fits}
use Rattle.packet.specs.Vc12.{vc12_fits, write_vc12_answer, write_vc12_bytes}
use Rattle.packet.specs.Words.{FIXED, assigned}
use Rattle.packet.specs.Writing.{fits_within, fitting, write_answer, write_bytes, writing_number}

-- a packet has one byte for each frame of its epoch
pub answer_sized : (kind : ℕ) (f : Fields) (s : List ℕ) → sent_answer kind f s ≡ cond (length s == frames kind) (cond (sent_fits kind f) (Ok (tt {0})) (Err Field)) (Err Length)
unfolding sent_answer sent_fits frames write_answer write_vc12_answer
answer_sized kind f s = go (kind == vc12_kind)
  where
    go : (b : Bool)
        → cond b (cond (length s == 32) (cond (vc12_fits f) (Ok (tt {0})) (Err Field)) (Err Length)) (cond (length s == 16) (cond (fitting f) (Ok (tt {0})) (Err Field)) (Err Length))
        ≡ cond (length s == cond b 32 16) (cond (cond b (vc12_fits f) (fitting f)) (Ok (tt {0})) (Err Field)) (Err Length)
    go true = refl
    go false = refl

-- The idle number and every number below 64 fit the kind's SQ, and an epoch of the kind its count.
pub fields_fit : (kind : ℕ) (f : Fields) → f.epoch < epochs kind → f.mst < 256 → (f.sq < 64) ⊎ (f.sq ≡ idle_number kind) → f.gid < 2 → f.rs_ack < 2 → f.reserved ≡ 0
    → (not (f.word.0 == FIXED) && assigned f.word) ≡ true → sent_fits kind f ≡ true
unfolding sent_fits vc12_fits fitting epochs idle_number
fields_fit kind f = go (kind == vc12_kind)
  where
    all : (E S R : ℕ) → f.epoch < E → f.mst < 256 → f.sq < S → f.gid < 2 → f.rs_ack < 2 → f.reserved < R → (not (f.word.0 == FIXED) && assigned f.word) ≡ true
        → fits_within E S R f ≡ true
    all E S R epoch mst sq gid ack reserved word =
        rw (lt-ltb f.mst 256 mst, lt-ltb f.epoch E epoch, lt-ltb f.sq S sq, lt-ltb f.gid 2 gid, lt-ltb f.rs_ack 2 ack, lt-ltb f.reserved R reserved) word

    go : (b : Bool) → f.epoch < cond b 32 256 → f.mst < 256 → (f.sq < 64) ⊎ (f.sq ≡ cond b 63 255) → f.gid < 2 → f.rs_ack < 2 → f.reserved ≡ 0
        → (not (f.word.0 == FIXED) && assigned f.word) ≡ true → cond b (fits_within 32 64 16 f) (fits_within 256 256 (2 ^ 26) f) ≡ true
    go true epoch mst sq gid ack none word = all 32 64 16 epoch mst (⊎_elim (λ (l : f.sq < 64). l) (λ (e : f.sq ≡ 63). omega arith) sq) gid ack (omega arith) word
    go false epoch mst sq gid ack none word =
        all 256 256 (2 ^ 26) epoch mst (⊎_elim (λ (l : f.sq < 64). let m : f.sq < 256 = omega arith in m) (λ (e : f.sq ≡ 255). omega arith) sq) gid ack (omega arith) word

-- Fields that do not fit are answered by the length alone, and leave the bytes.

pub unfit_answer : (kind : ℕ) (f : Fields) (s : List ℕ) → sent_fits kind f ≡ false → writing_number (sent_answer kind f s) ≡ cond (length s == frames kind) 8 9
unfit_answer kind f s e = rw (answer_sized kind f s, e) (go (length s == frames kind))
  where
    go : (b : Bool) → writing_number (cond b (Err Field) (Err Length)) ≡ cond b 8 9
    go true = refl
    go false = refl

either : (b : Bool) (s : List ℕ) → cond b s s ≡ s
either true s = refl
either false s = refl

pub unfit_bytes : (kind : ℕ) (f : Fields) (s : List ℕ) → sent_fits kind f ≡ false → sent_bytes kind f s ≡ s
unfolding sent_bytes sent_fits write_bytes write_vc12_bytes
unfit_bytes kind f s = go (kind == vc12_kind)
  where
    go : (b : Bool) → cond b (vc12_fits f) (fitting f) ≡ false → cond b (write_vc12_bytes f s) (write_bytes f s) ≡ s
    go true e = rw e (either (length s == 32) s)
    go false e = rw e (either (length s == 16) s)
