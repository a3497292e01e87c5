-- The numbering of members as each call keeps it, over states and numbers as functions of the slot.
use Rattle.std.specs.Prelude.{◌≡◌, refl, ◌⊎◌, true, false, ℕ, ◌≤◌, ◌<◌}
use Rattle.std.proofs.Common.{◌∙◌, sym, ap, inl, inr, true≢false}
use Rattle.std.proofs.lemmas.Bool.{false≢true}
use Rattle.ground.specs.Truth.{fails}
use Rattle.ground.specs.Counting.Laws.Numbers.{count_ext}
use Rattle.ground.specs.Counting.Words.{Apart}
use Rattle.sender.specs.declared.table.State.{State}
use Rattle.sender.specs.declared.table.State.TheVariants.{Idle, Add, Active, Dnu}
use Rattle.sender.specs.Numbering.{is_placed, placed, members}
use Rattle.sender.specs.Table.{is_add, is_member}

-- Members hold different numbers, those active or DNU below their count, ADD members from there to below the count of members. That each number is held follows (Theorems.Demand2).
pub record Numbered (n idle : ℕ) (st : ℕ → State) (nu : ℕ → ℕ) : Type 0 where
  pub once : Apart n (λ i. is_member (st i)) nu
  pub low : (i : ℕ) → i < n → is_placed (st i) ≡ true → nu i < placed st n
  pub follow : (i : ℕ) → i < n → is_add (st i) ≡ true → placed st n ≤ nu i
  pub top : (i : ℕ) → i < n → is_member (st i) ≡ true → nu i < members st n
  pub idles : (i : ℕ) → i < n → is_member (st i) ≡ false → nu i ≡ idle

-- what each test says of the others
pub placed_member : (s : State) → is_placed s ≡ true → is_member s ≡ true
placed_member Idle e = e
placed_member Add e = refl
placed_member Active e = refl
placed_member Dnu e = refl

pub add_member : (s : State) → is_add s ≡ true → is_member s ≡ true
add_member Idle e = e
add_member Add e = refl
add_member Active e = refl
add_member Dnu e = refl

pub idle_placed : (s : State) → is_member s ≡ false → is_placed s ≡ false
idle_placed Idle e = refl
idle_placed Add e = refl
idle_placed Active e = e
idle_placed Dnu e = e

pub add_placed : (s : State) → is_add s ≡ true → is_placed s ≡ false
add_placed Idle e = refl
add_placed Add e = refl
add_placed Active e = sym e
add_placed Dnu e = sym e

pub placed_add : (s : State) → is_placed s ≡ true → is_add s ≡ false
placed_add s p = fails (is_add s) (λ (e : is_add s ≡ true). true≢false (sym p ∙ add_placed s e))

pub idle_add : (s : State) → is_member s ≡ false → is_add s ≡ false
idle_add s e = fails (is_add s) (λ (a : is_add s ≡ true). true≢false (sym (add_member s a) ∙ e))

pub member_cases : (s : State) → is_member s ≡ true → (is_placed s ≡ true) ⊎ (is_add s ≡ true)
member_cases Idle e = inl e
member_cases Add e = inr refl
member_cases Active e = inl refl
member_cases Dnu e = inl refl

-- all IDLE
pub numbered_fresh : (n idle : ℕ) (st : ℕ → State) (nu : ℕ → ℕ) → ((i : ℕ) → i < n → st i ≡ Idle) → ((i : ℕ) → i < n → nu i ≡ idle) → Numbered n idle st nu
numbered_fresh n idle st nu s q =
    record {
      once = λ i j hi hj mi mj e. absurd (false≢true (sym (ap is_member (s i hi)) ∙ mi));
      low = λ i h p. absurd (false≢true (sym (ap is_placed (s i h)) ∙ p));
      follow = λ i h a. absurd (false≢true (sym (ap is_add (s i h)) ∙ a));
      top = λ i h m. absurd (false≢true (sym (ap is_member (s i h)) ∙ m));
      idles = λ i h m. q i h;
    }

-- the same states and numbers
pub numbered_same : (n idle : ℕ) (st su : ℕ → State) (nu nv : ℕ → ℕ) → ((i : ℕ) → i < n → su i ≡ st i) → ((i : ℕ) → i < n → nv i ≡ nu i) → Numbered n idle st nu → Numbered n idle su nv
numbered_same n idle st su nu nv s q o =
    let p : placed su n ≡ placed st n = count_ext n (λ i. is_placed (su i)) (λ i. is_placed (st i)) (λ k b. ap is_placed (s k b)) in
    let m : members su n ≡ members st n = count_ext n (λ i. is_member (su i)) (λ i. is_member (st i)) (λ k b. ap is_member (s k b)) in
    record {
      once = λ i j hi hj mi mj e. o.once i j hi hj (rw (s i hi) at mi) (rw (s j hj) at mj) (sym (q i hi) ∙ e ∙ q j hj);
      low = λ i h a. rw (q i h, p) (o.low i h (rw (s i h) at a));
      follow = λ i h a. rw (q i h, p) (o.follow i h (rw (s i h) at a));
      top = λ i h a. rw (q i h, m) (o.top i h (rw (s i h) at a));
      idles = λ i h a. q i h ∙ o.idles i h (rw (s i h) at a);
    }
