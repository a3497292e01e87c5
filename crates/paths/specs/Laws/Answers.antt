-- What it says that nothing is out of range.
use Rattle.std.specs.Prelude.{◌≡◌, refl, Bool, true, false, cond, ◌&&◌, List, ℕ, ◌<◌, Ok, Err, leb, length}
use Rattle.std.proofs.Common.{arith, le-leb, leb-true}
use Rattle.ground.specs.Counting.Laws.Tests.{every_all, every_at}
use Rattle.ground.specs.Truth.{and_left, and_right}
use Rattle.paths.specs.declared.answers.OutOfRange.{OutOfRange}
use Rattle.paths.specs.Answers.{Answer, Done, Range, answer_of, are_short, in_range, number_of, refusal_number, sized, told_by}
use Rattle.paths.specs.Paths.{Asked, delay_at}

-- nothing is out of range exactly where the number is 0
pub in_asked : (delays : List ℕ) (k W : ℕ) → in_range delays k W ≡ true → Asked delays k W
unfolding are_short
in_asked delays k W e =
    let n = length delays in
    let f = and_left (sized n k W) (are_short delays) e in
    let d = and_left (leb n 64 && leb 1 k && leb k n && leb 16 W) (leb W 2048) f in
    let c = and_left (leb n 64 && leb 1 k && leb k n) (leb 16 W) d in
    let b = and_left (leb n 64 && leb 1 k) (leb k n) c in
    record {
      one = leb-true 1 k (and_right (leb n 64) (leb 1 k) b);
      enough = leb-true k n (and_right (leb n 64 && leb 1 k) (leb k n) c);
      few = leb-true n 64 (and_left (leb n 64) (leb 1 k) b);
      short = λ i h. leb-true (delay_at delays i) 4095 (every_at n (λ j. leb (delay_at delays j) 4095) (and_right (sized n k W) (are_short delays) e) i h);
      low = leb-true 16 W (and_right (leb n 64 && leb 1 k && leb k n) (leb 16 W) d);
      high = leb-true W 2048 (and_right (leb n 64 && leb 1 k && leb k n && leb 16 W) (leb W 2048) f);
    }

pub asked_in_lem : (delays : List ℕ) (k W : ℕ) → Asked delays k W → in_range delays k W ≡ true
unfolding are_short
asked_in_lem delays k W a =
    let n = length delays in
    rw (le-leb n 64 a.few, le-leb 1 k a.one, le-leb k n a.enough, le-leb 16 W a.low, le-leb W 2048 a.high)
    (every_all n (λ i. leb (delay_at delays i) 4095) (λ i h. le-leb (delay_at delays i) 4095 (a.short i h)))

pub in_done : (delays : List ℕ) (k W : ℕ) → in_range delays k W ≡ true → number_of (answer_of delays k W) ≡ 0
unfolding answer_of
in_done delays k W e = rw e

pub out_range : (delays : List ℕ) (k W : ℕ) → in_range delays k W ≡ false → number_of (answer_of delays k W) ≡ 4
unfolding answer_of
out_range delays k W e = rw e

pub done_in : (delays : List ℕ) (k W : ℕ) → number_of (answer_of delays k W) ≡ 0 → in_range delays k W ≡ true
unfolding answer_of
done_in delays k W = go (in_range delays k W)
  where
    go : (b : Bool) → number_of (cond b Done Range) ≡ 0 → b ≡ true
    go true e = refl
    go false e = absurd (omega arith)

-- what a caller knows of the answer by what was returned
pub told_ok : {A : Type 0} (a : Answer) (value v : A) → told_by a value ≡ Ok v → (number_of a ≡ 0) × (v ≡ value)
told_ok Done value v e = (refl, cc)
told_ok Range value v e = absurd (cc)

pub told_err : {A : Type 0} (a : Answer) (value : A) (e : OutOfRange) → told_by a value ≡ Err e → number_of a ≡ 4
told_err Done value e h = absurd (cc)
told_err Range value e h = refl

-- a refusal is told apart from a call that is done
pub refusal_above : (refusal : OutOfRange) → 0 < refusal_number refusal
refusal_above refusal = omega arith
