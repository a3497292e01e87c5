-- 'Let each slot reach one port and each port one slot': how many, and so ranks, are the same over ports as over slots, where all slots that count reach a port.
use Rattle.std.specs.Prelude.{◌≡◌, refl, Bool, true, ◌&&◌, ℕ, ◌<◌, eqb}
use Rattle.std.proofs.Common.{◌∙◌, sym, ap, eq-eqb, eqb-true}
use Rattle.ground.specs.Counting.Laws.Numbers.{count_all, count_ext}
use Rattle.ground.specs.Counting.Laws.Ranks.{all_taken, count_taken, taken}
use Rattle.ground.specs.Counting.Laws.Tests.{some_at, some_one}
use Rattle.ground.specs.Counting.Words.{count}
use Rattle.ground.specs.Truth.{and_left, and_right, and-true, same_test}
use Rattle.link.specs.Sending.{Pairing, Reached}

-- where there are as many ports as slots, every slot reaches one
pub all_reached : (n : ℕ) (slot_of : ℕ → ℕ) → Pairing n n slot_of → (slot : ℕ) → slot < n → Reached n slot_of slot
all_reached n slot_of o slot h =
    let w = all_taken n n (λ p. true) slot_of (λ p q hp hq tp tq e. o.once p q hp hq e) (λ p hp tp. o.below p hp) (count_all n (λ p. true) (λ p hp. refl)) slot h in
    record { port = w.at; below = w.below; is = eqb-true (slot_of w.at) slot w.holds }

module _ (n slots : ℕ) (slot_of : ℕ → ℕ) (o : Pairing n slots slot_of) where
  -- every slot at which the test holds reaches a port
  abbrev pub AllReach : (ℕ → Bool) → Type 0
  AllReach f = (slot : ℕ) → slot < slots → f slot ≡ true → Reached n slot_of slot

  taken_slot : (f : ℕ → Bool) → AllReach f → (slot : ℕ) → slot < slots → taken n (λ p. f (slot_of p)) slot_of slot ≡ f slot
  taken_slot f all slot h = same_test (taken n (λ p. f (slot_of p)) slot_of slot) (f slot) to back
    where
      to : taken n (λ p. f (slot_of p)) slot_of slot ≡ true → f slot ≡ true
      to e =
          let w = some_one n (λ p. f (slot_of p) && eqb (slot_of p) slot) e in
          let p : ℕ = w.at in
          let is : slot_of p ≡ slot = eqb-true (slot_of p) slot (and_right (f (slot_of p)) (eqb (slot_of p) slot) w.holds) in
          ap f (sym is) ∙ and_left (f (slot_of p)) (eqb (slot_of p) slot) w.holds

      back : f slot ≡ true → taken n (λ p. f (slot_of p)) slot_of slot ≡ true
      back e =
          let r = all slot h e in
          some_at n (λ p. f (slot_of p) && eqb (slot_of p) slot) r.port r.below
          (and-true (f (slot_of r.port)) _ (ap f r.is ∙ e) (eq-eqb (slot_of r.port) slot r.is))

  pub count_paired : (f : ℕ → Bool) → AllReach f → count n (λ p. f (slot_of p)) ≡ count slots f
  count_paired f all =
      sym (count_taken n slots (λ p. f (slot_of p)) slot_of (λ p q hp hq tp tq e. o.once p q hp hq e) (λ p hp tp. o.below p hp))
      ∙ count_ext slots (taken n (λ p. f (slot_of p)) slot_of) f (taken_slot f all)
