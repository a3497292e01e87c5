-- Laws of things done one by one: cut in two, and by the number of turns of a loop that does them.
use Rattle.std.specs.Prelude.{◌≡◌, refl, List, [], ◌∷◌, ◌++◌, ℕ, zero, suc, ◌+◌, length, get_or, set}
use Rattle.std.proofs.Common.{sym, ap, ◌∙◌, add-one, length-set}
use Rattle.std.proofs.Math.Nat.{suc_inj}
use Rattle.orders.specs.Folding.{folded}

module _ {S C : Type 0} (next : S → C → S) (number : S → C → ℕ) where
  -- ---- cut in two
  pub cut_state : (s : S) (cs ds : List C) → (folded next number s (cs ++ ds)).state ≡ (folded next number (folded next number s cs).state ds).state
  cut_state s [] ds = refl
  cut_state s (c ∷ cs) ds = cut_state (next s c) cs ds

  pub cut_numbers : (s : S) (cs ds : List C)
      → (folded next number s (cs ++ ds)).numbers ≡ (folded next number s cs).numbers ++ (folded next number (folded next number s cs).state ds).numbers
  cut_numbers s [] ds = refl
  cut_numbers s (c ∷ cs) ds = ap (λ (ns : List ℕ). number s c ∷ ns) (cut_numbers (next s c) cs ds)

  pub length_numbers : (s : S) (cs : List C) → length (folded next number s cs).numbers ≡ length cs
  length_numbers s [] = refl
  length_numbers s (c ∷ cs) = ap suc (length_numbers (next s c) cs)

  -- ---- by turns: the state after n of them, and the numbers stored in a list; `none` stands for what is not there
  module _ (none : C) where
    abbrev pub state_at : S → List C → ℕ → S
    state_at s cs zero = s
    state_at s cs (suc n) = next (state_at s cs n) (get_or cs n none)

    abbrev pub list_at : S → List C → List ℕ → ℕ → List ℕ
    list_at s cs ys zero = ys
    list_at s cs ys (suc n) = set (list_at s cs ys n) n (number (state_at s cs n) (get_or cs n none))

    -- one turn
    pub list_length : (s : S) (cs : List C) (ys : List ℕ) (i : ℕ) → length (list_at s cs ys i) ≡ length ys
    list_length s cs ys zero = refl
    list_length s cs ys (suc i) = length-set (list_at s cs ys i) i _ ∙ list_length s cs ys i

    pub state_next : (s : S) (cs : List C) (i : ℕ) → next (state_at s cs i) (get_or cs i none) ≡ state_at s cs (i + 1)
    state_next s cs i = ap (λ (j : ℕ). state_at s cs j) (sym (add-one i))

    pub list_next : (s : S) (cs : List C) (ys : List ℕ) (i : ℕ) → set (list_at s cs ys i) i (number (state_at s cs i) (get_or cs i none)) ≡ list_at s cs ys (i + 1)
    list_next s cs ys i = ap (λ (j : ℕ). list_at s cs ys j) (sym (add-one i))

    -- all of them
    state_shift : (s : S) (c : C) (cs : List C) (n : ℕ) → state_at s (c ∷ cs) (suc n) ≡ state_at (next s c) cs n
    state_shift s c cs zero = refl
    state_shift s c cs (suc n) = ap (λ (d : S). next d (get_or cs n none)) (state_shift s c cs n)

    pub state_all : (s : S) (cs : List C) → state_at s cs (length cs) ≡ (folded next number s cs).state
    state_all s [] = refl
    state_all s (c ∷ cs) = state_shift s c cs (length cs) ∙ state_all (next s c) cs

    list_shift : (s : S) (c : C) (cs : List C) (y : ℕ) (ys : List ℕ) (n : ℕ) → list_at s (c ∷ cs) (y ∷ ys) (suc n) ≡ number s c ∷ list_at (next s c) cs ys n
    list_shift s c cs y ys zero = refl
    list_shift s c cs y ys (suc n) =
        ap (λ (l : List ℕ). set l (suc n) (number (state_at s (c ∷ cs) (suc n)) (get_or cs n none))) (list_shift s c cs y ys n)
        ∙ ap (λ (d : S). set (number s c ∷ list_at (next s c) cs ys n) (suc n) (number d (get_or cs n none))) (state_shift s c cs n)

    pub list_all : (s : S) (cs : List C) (ys : List ℕ) → length cs ≡ length ys → list_at s cs ys (length cs) ≡ (folded next number s cs).numbers
    list_all s [] [] e = refl
    list_all s [] (y ∷ ys) e = cc
    list_all s (c ∷ cs) [] e = cc
    list_all s (c ∷ cs) (y ∷ ys) e = list_shift s c cs y ys (length cs) ∙ ap (λ (l : List ℕ). number s c ∷ l) (list_all (next s c) cs ys (suc_inj e))
