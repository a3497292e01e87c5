-- Two groups on one card of four slots, their calls interleaved: in each round up to six calls, and then each group starts an epoch.
use Rattle.std.specs.Prelude.{◌≡◌, refl, ◌≢◌, Bool, true, false, not, ◌||◌, List, [], ◌∷◌, ℕ, ◌+◌, ◌*◌, ◌/◌, ◌%◌, ◌≤◌, ◌<◌, get_or, if◌then◌else◌, ◌==◌}
use Rattle.std.proofs.Common.{◌∙◌, sym, ap, ⊎_elim, arith, le-ltb, ne_eqb}
use Rattle.std.proofs.Math.ListN.{get_or-eq_default}
use Rattle.ground.specs.Finite.{below, below_at}
use Rattle.ground.specs.Plain.{◌<?◌}
use Rattle.ground.specs.Truth.{le_or_lt}
use Rattle.cards.specs.Calls.Call.{AddSlot, Claim, Lapse, Release, RemoveSlot, Report, StartEpoch}
use Rattle.cards.specs.Shown.{by}
use Rattle.cards.specs.Views.{Made}
use Rattle.cards.specs.Views.Asked.{Board}
use Rattle.groups.specs.Cards.{CardHistory}
use Rattle.groups.specs.Projected.{Starts, is_move, is_start}

abbrev pub rounds : List (List Made)
rounds =
    -- group 0 claims slots 0, 1 and 2, and group 1 slot 3; slot 2 is refused to group 1
    (by 0 (Claim 0) ∷ by 1 (Claim 3) ∷ by 0 (Claim 1) ∷ by 0 (Claim 2) ∷ by 1 (Claim 2) ∷ by 1 (AddSlot 2) ∷ [])
    -- slots 2 and 0 are to be added in group 0, and slot 3 in group 1
    ∷ (by 0 (AddSlot 2) ∷ by 1 (AddSlot 3) ∷ by 0 (AddSlot 0) ∷ by 0 (AddSlot 3) ∷ [])
    -- all three are active: each group's wait opens
    ∷ (by 1 (Report 0 0x00 0) ∷ by 0 (Report 0 0x00 0) ∷ [])
    ∷ (by 0 Lapse ∷ by 1 Lapse ∷ [])
    -- slot 2 is removed and released by group 0, and claimed by group 1
    ∷ (by 0 (RemoveSlot 2) ∷ by 0 (Release 2) ∷ by 1 (Claim 2) ∷ by 0 (AddSlot 2) ∷ [])
    -- slot 2 is to be added in group 1, and slot 1 in group 0
    ∷ (by 1 (AddSlot 2) ∷ by 0 Lapse ∷ by 0 (AddSlot 1) ∷ [])
    ∷ []
    -- slot 2 is active
    ∷ (by 1 (Report 0 0x00 0) ∷ [])
    -- slot 1 is active
    ∷ (by 0 (Report 0 0x00 0) ∷ [])
    ∷ []

abbrev pub start₀ : Made
start₀ = by 0 (StartEpoch 0 255 0)

abbrev pub start₁ : Made
start₁ = by 1 (StartEpoch 1 255 1)

-- a call that changes nothing
abbrev pub quiet : Made
quiet = record { group = 0; asked = Board }

-- of round j the call at place k: the last two start the groups' epochs
abbrev placed : ℕ → ℕ → Made
placed j k = if k == 6 then start₀ else if k == 7 then start₁ else get_or (get_or rounds j []) k quiet

abbrev pub made : ℕ → Made
made n = placed (n / 8) (n % 8)

-- group 0's first epoch is 0, and group 1's is 250
abbrev pub card : CardHistory
card = record { kind = 0; slots = 4; first = λ g. if g == 0 then 0 else 250; made = made }

-- what is tested at each call of the rounds holds of every one

not_so : (b : Bool) → not b ≡ true → b ≡ false
not_so true e = sym e
not_so false e = refl

each_call : (f : Made → Bool) → f quiet ≡ false → below 9 (λ j. below 8 (λ k. not (f (get_or (get_or rounds j []) k quiet)))) ≡ true
    → (j k : ℕ) → k < 8 → f (get_or (get_or rounds j []) k quiet) ≡ false
each_call f q t j k b = ⊎_elim late early (le_or_lt 9 j)
  where
    late : 9 ≤ j → f (get_or (get_or rounds j []) k quiet) ≡ false
    late l = ap (λ (row : List Made). f (get_or row k quiet)) (get_or-eq_default rounds [] l) ∙ q

    early : j < 9 → f (get_or (get_or rounds j []) k quiet) ≡ false
    early l =
        not_so (f (get_or (get_or rounds j []) k quiet))
        (below_at 8 (λ i. not (f (get_or (get_or rounds j []) i quiet))) (below_at 9 (λ i. below 8 (λ m. not (f (get_or (get_or rounds i []) m quiet)))) t j l) k b)

-- from the call numbered 72 on nothing is done but to start epochs
pub made_late : (n : ℕ) → 72 ≤ n → made n ≡ (if n % 8 == 6 then start₀ else if n % 8 == 7 then start₁ else quiet)
made_late n h =
    let late : 9 ≤ n / 8 = omega arith in
    ap (λ (row : List Made). if n % 8 == 6 then start₀ else if n % 8 == 7 then start₁ else get_or row (n % 8) quiet) (get_or-eq_default rounds [] late)

-- the starts of each group's epochs are at their places, and nowhere else

pub placed_last : (n : ℕ) → n % 8 ≢ 6 → is_start 0 (made n) ≡ false
placed_last n d =
    ap (λ (b : Bool). is_start 0 (if b then start₀ else if n % 8 == 7 then start₁ else get_or (get_or rounds (n / 8) []) (n % 8) quiet)) (ne_eqb (n % 8) 6 d)
    ∙ go (n % 8 == 7) (get_or (get_or rounds (n / 8) []) (n % 8) quiet) (each_call (is_start 0) refl refl (n / 8) (n % 8) (omega arith))
  where
    go : (b : Bool) (m : Made) → is_start 0 m ≡ false → is_start 0 (if b then start₁ else m) ≡ false
    go true m e = refl
    go false m e = e

unfoldable pub starts₀ : Starts card 0
starts₀ =
    record {
      at = λ i. i * 8 + 6;
      gid = λ i. 0;
      mst = λ i. 255;
      ack = λ i. 0;
      is = λ i. (let e : (i * 8 + 6) % 8 ≡ 6 = omega arith in ap (placed ((i * 8 + 6) / 8)) e);
      gid_bit = λ i. omega arith;
      mst_byte = λ i. omega arith;
      ack_bit = λ i. omega arith;
      rising = λ i. omega arith;
      none_before = λ n h. placed_last n (λ e. omega arith);
      none_between = λ i n h l. placed_last n (λ e. omega arith);
    }

pub placed_very_last : (n : ℕ) → n % 8 ≢ 7 → is_start 1 (made n) ≡ false
placed_very_last n d =
    ap (λ (b : Bool). is_start 1 (if n % 8 == 6 then start₀ else if b then start₁ else get_or (get_or rounds (n / 8) []) (n % 8) quiet)) (ne_eqb (n % 8) 7 d)
    ∙ go (n % 8 == 6) (get_or (get_or rounds (n / 8) []) (n % 8) quiet) (each_call (is_start 1) refl refl (n / 8) (n % 8) (omega arith))
  where
    go : (b : Bool) (m : Made) → is_start 1 m ≡ false → is_start 1 (if b then start₀ else m) ≡ false
    go true m e = refl
    go false m e = e

unfoldable pub starts₁ : Starts card 1
starts₁ =
    record {
      at = λ i. i * 8 + 7;
      gid = λ i. 1;
      mst = λ i. 255;
      ack = λ i. 1;
      is = λ i. (let e : (i * 8 + 7) % 8 ≡ 7 = omega arith in ap (placed ((i * 8 + 7) / 8)) e);
      gid_bit = λ i. omega arith;
      mst_byte = λ i. omega arith;
      ack_bit = λ i. omega arith;
      rising = λ i. omega arith;
      none_before = λ n h. placed_very_last n (λ e. omega arith);
      none_between = λ i n h l. placed_very_last n (λ e. omega arith);
    }

-- after slot 2 is released group 0 makes no claim and no release, and after its claim group 1 makes none

module _ (g from : ℕ) (early : below 72 (λ n. n <? from || not (is_move g (made n))) ≡ true) (late : (a b : Bool) → is_move g (if a then start₀ else if b then start₁ else quiet) ≡ false) where
  no_moves : (n : ℕ) → from ≤ n → is_move g (made n) ≡ false
  no_moves n h =
      ⊎_elim (λ (l : 72 ≤ n). ap (is_move g) (made_late n l) ∙ late (n % 8 == 6) (n % 8 == 7))
      (λ (l : n < 72). not_so (is_move g (made n)) (sym (ap (λ (b : Bool). b || not (is_move g (made n))) (le-ltb n from h)) ∙ below_at 72 (λ i. i <? from || not (is_move g (made i))) early n l))
      (le_or_lt 72 n)

pub still₀ : (n : ℕ) → 34 ≤ n → is_move 0 (made n) ≡ false
still₀ = no_moves 0 34 refl go
  where
    go : (a b : Bool) → is_move 0 (if a then start₀ else if b then start₁ else quiet) ≡ false
    go true b = refl
    go false true = refl
    go false false = refl

pub still₁ : (n : ℕ) → 35 ≤ n → is_move 1 (made n) ≡ false
still₁ = no_moves 1 35 refl go
  where
    go : (a b : Bool) → is_move 1 (if a then start₀ else if b then start₁ else quiet) ≡ false
    go true b = refl
    go false true = refl
    go false false = refl
