-- What the functions of a work order for C ask of its definitions.
use mathlib.Core.Path.{◌≡◌, refl, ◌∙◌, ap}
use mathlib.Core.List.{List, []}
use Prim.Native.Nat.{ℕ, ◌+◌, ◌<◌}
use native.Mathlib.Omega.{arith}
use lib.ListN.{get_or, length, set}
use borrow.Author.Tests.{eq-eqb, ne_eqb}
use Rattle.orders.specs.Laws.Folding as F
use Rattle.c_cards.specs.Orders.{command_answer_on, command_state_on, order_answer_on, order_answers_on, order_state_on, orders_on}
use Rattle.c_cards.specs.Theorems.Ordered.{turns_length}

-- ---- the loop: the bytes and the answers after i commands
module _ (s₀ : List ℕ) (cs : List (List ℕ)) where
  abbrev pub bytes_at : ℕ → List ℕ
  bytes_at i = F.state_at command_state_on command_answer_on [] s₀ cs i

  pub bytes_next : (i : ℕ) (s t : List ℕ) → s ≡ bytes_at i → t ≡ command_state_on s (get_or cs i []) → t ≡ bytes_at (i + 1)
  bytes_next i s t e f = f ∙ ap (λ (u : List ℕ). command_state_on u (get_or cs i [])) e ∙ F.state_next command_state_on command_answer_on [] s₀ cs i

  pub bytes_all : (i : ℕ) (s : List ℕ) → i ≡ length cs → s ≡ bytes_at i → s ≡ (orders_on s₀ cs).state
  bytes_all i s e f = f ∙ ap (λ (j : ℕ). bytes_at j) e ∙ F.state_all command_state_on command_answer_on [] s₀ cs

  pub bytes_length : (i : ℕ) (s : List ℕ) → s ≡ bytes_at i → length s ≡ length s₀
  bytes_length i s e = ap (λ (u : List ℕ). length u) e ∙ turns_length s₀ cs i

  module _ (y₀ : List ℕ) where
    abbrev pub list_at : ℕ → List ℕ
    list_at i = F.list_at command_state_on command_answer_on [] s₀ cs y₀ i

    pub list_next : (i : ℕ) (s ys : List ℕ) (a : ℕ) → s ≡ bytes_at i → ys ≡ list_at i → a ≡ command_answer_on s (get_or cs i []) → set ys i a ≡ list_at (i + 1)
    list_next i s ys a e f h = rw (f, h, e) (F.list_next command_state_on command_answer_on [] s₀ cs y₀ i)

    pub list_length : (i : ℕ) (ys : List ℕ) → ys ≡ list_at i → length ys ≡ length y₀
    list_length i ys e = ap (λ (u : List ℕ). length u) e ∙ F.list_length command_state_on command_answer_on [] s₀ cs y₀ i

    pub in_list : (i : ℕ) (ys : List ℕ) → ys ≡ list_at i → length cs ≡ length y₀ → i < length cs → i < length ys
    in_list i ys e same less = let l : length ys ≡ length y₀ = list_length i ys e in omega arith

    pub list_all : (i : ℕ) (ys : List ℕ) → length cs ≡ length y₀ → i ≡ length cs → ys ≡ list_at i → ys ≡ (orders_on s₀ cs).numbers
    list_all i ys same e f = f ∙ ap (λ (j : ℕ). list_at j) e ∙ F.list_all command_state_on command_answer_on [] s₀ cs y₀ same

-- ---- the call
module _ (s : List ℕ) (cs : List (List ℕ)) (ys : List ℕ) where
  pub order_unsized : (length s ≡ 858 → ⊥) → (9 ≡ order_answer_on s cs ys) × (s ≡ order_state_on s cs ys) × (ys ≡ order_answers_on s cs ys)
  unfolding order_answer_on order_state_on order_answers_on
  order_unsized d = rw (ne_eqb (length s) 858 d) (refl, refl, refl)

  pub order_unequal : length s ≡ 858 → (length cs ≡ length ys → ⊥) → (9 ≡ order_answer_on s cs ys) × (s ≡ order_state_on s cs ys) × (ys ≡ order_answers_on s cs ys)
  unfolding order_answer_on order_state_on order_answers_on
  order_unequal e d = rw (eq-eqb (length s) 858 e, ne_eqb (length cs) (length ys) d) (refl, refl, refl)

  pub order_done : (t zs : List ℕ) → length s ≡ 858 → length cs ≡ length ys → (t ≡ (orders_on s cs).state) × (zs ≡ (orders_on s cs).numbers)
      → (0 ≡ order_answer_on s cs ys) × (t ≡ order_state_on s cs ys) × (zs ≡ order_answers_on s cs ys)
  unfolding order_answer_on order_state_on order_answers_on
  order_done t zs e f h = rw (eq-eqb (length s) 858 e, eq-eqb (length cs) (length ys) f) (refl, h.0, h.1)
