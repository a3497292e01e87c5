-- Numbers and words as the texts that are put.
use Rattle.std.proofs.Common.{◌≡◌, refl, sym, ◌∙◌, List, [], ◌∷◌, ℕ, zero, suc, ◌+◌, ◌-◌, ◌/◌, ◌%◌, ◌^◌, ◌≤◌, ◌<◌, length, drop, set, get_or, arith, pow-suc, drop-cons, drop_of_length-le, get_or-set_same, take_all, le-leb, lt-ltb}
use Rattle.std.proofs.Math.Seq.{drop-set-lt, lt-length-set}
use Rattle.std.proofs.lemmas.List.Edits.{sets-eq}
use Rattle.std.proofs.lemmas.Slice.{put_mid-paste}
use borrow.Rule.Slice.PartMut.{put_mid}
use Rattle.text.specs.Output.{digits_before, ended, number_text, put_bytes, put_next}
use Rattle.text.specs.Theorems.Decimal.{before_append}

-- the digits of a number, written from the last one on
drop_set : (l : List ℕ) (i a : ℕ) → i < length l → drop i (set l i a) ≡ a ∷ drop (suc i) l
drop_set l i a h =
    let k : i < length (set l i a) = lt-length-set l i a h in
    rw (drop-cons (set l i a) i 0 k, get_or-set_same l i a 0 h, drop-set-lt (suc i) l i a (omega arith))

-- one digit more, and digits are still to come before it
pub digits_turn : (l : List ℕ) (place rest : ℕ) (whole : List ℕ) → 0 < place → place ≤ 20 → length l ≡ 21 → rest < 10 ^ place → (rest / 10 ≡ 0 → ⊥)
    → digits_before (place - 1) (rest / 10) ((48 + rest % 10) ∷ drop place l) ≡ whole
    → (0 < place - 1) × (rest / 10 < 10 ^ (place - 1))
    × (digits_before (place - 1 - 1) (rest / 10 / 10) ((48 + rest / 10 % 10) ∷ drop (place - 1) (set l (place - 1) (48 + rest % 10))) ≡ whole)
digits_turn l zero rest whole h f n b d e = absurd (omega arith)
digits_turn l (suc zero) rest whole h f n b d e = absurd (d (omega arith))
digits_turn l (suc (suc p)) rest whole h f n b d e =
    let s : suc (suc p) - 1 ≡ suc p = omega arith in
    let r : suc p - 1 ≡ p = omega arith in
    let m = pow-suc 10 (suc p) in
    let t = lt-ltb 0 (rest / 10) (omega arith) in
    rw (s, r, drop_set l (suc p) (48 + rest % 10) (omega arith)) (omega arith, omega arith, rw (s, t) at e)

-- the last one
pub digits_done : (l : List ℕ) (place rest : ℕ) (whole : List ℕ) → 0 < place → place ≤ 20 → length l ≡ 21 → rest / 10 ≡ 0
    → digits_before (place - 1) (rest / 10) ((48 + rest % 10) ∷ drop place l) ≡ whole → drop (place - 1) (set l (place - 1) (48 + rest % 10)) ≡ whole
digits_done l zero rest whole h f n z e = absurd (omega arith)
digits_done l (suc p) rest whole h f n z e =
    let s : suc p - 1 ≡ p = omega arith in
    rw (s, drop_set l p (48 + rest % 10) (omega arith)) (sym (none_before p ((48 + rest % 10) ∷ drop (suc p) l)) ∙ rw (s, z) at e)
  where
    none_before : (p : ℕ) (text : List ℕ) → digits_before p 0 text ≡ text
    none_before zero text = refl
    none_before (suc p) text = refl

pub number_ended : (n : ℕ) (bytes : List ℕ) → length bytes ≡ 21 → digits_before 19 (n / 10) ((48 + n % 10) ∷ drop 20 bytes) ≡ ended (number_text n) (get_or bytes 20 0)
unfolding number_text
number_ended n bytes h =
    rw (drop-cons bytes 20 0 (omega arith), drop_of_length-le bytes {i = 21} (omega arith)) (before_append 19 (n / 10) ((48 + n % 10) ∷ []) (get_or bytes 20 0 ∷ []))

-- a text copied to a part of the buffer
pub put_part : (text out : List ℕ) (at n : ℕ) (part : List ℕ) → at + length text ≤ length out → n ≡ length text → part ≡ text → (at + length text ≡ put_next text at out) × (put_mid at n out part ≡ put_bytes text at out)
unfolding put_next put_bytes
put_part text out at n part h e p =
    rw (le-leb (at + length text) (length out) h) (refl, put_mid-paste at n out part text (length text) p (sym e) refl ∙ rw (take_all (length text) text (omega arith)) (sym (sets-eq text out at h)))
