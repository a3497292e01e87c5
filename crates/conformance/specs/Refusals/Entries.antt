-- Demand 1 for one call of an entry point: the answer is the first of 01's numbers, in 01's order, whose condition holds, and what is left and returned is what 01 says under that number.
use Rattle.std.specs.Prelude.{◌≡◌, refl, Bool, true, false, not, ◌||◌, List, [], ◌∷◌, ℕ, if◌then◌else◌, ◌==◌}
use Rattle.std.proofs.Common.{◌∙◌, sym, arith, ne_eqb}
use Rattle.std.proofs.lemmas.Bool.{false≢true}
use Prim.Native.String.{String}
use Rattle.ground.specs.Truth.{cond_by}

-- a number of 01, and the condition under which it is given or not given
pub data Refusal : Type 0 where
  If : ℕ → Bool → Refusal
  Unless : ℕ → Bool → Refusal

-- the first number whose condition holds, 0 where none does
abbrev pub first : List Refusal → ℕ
first [] = 0
first (If n b ∷ rs) = if b then n else first rs
first (Unless n b ∷ rs) = if b then first rs else n

-- A call: 01's refusals in 01's order at its arguments, and what its contract promises of the answer, of each lent slice and of the state.
pub record Call : Type 1 where
  pub refusals : List Refusal
  pub answer : ℕ
  pub lent : List (List ℕ)
  pub left : List (List ℕ)
  pub State : Type 0
  pub given : State
  pub returned : State
  pub empty : State

-- a call with no state: its refusals, its answer, what is lent to it and what is left of that
abbrev pub stateless : (rs : List Refusal) (answer : ℕ) (lent left : List (List ℕ)) → Call
stateless rs answer lent left = record { refusals = rs; answer = answer; lent = lent; left = left; State = Unit {0}; given = tt; returned = tt; empty = tt }

-- a call with a state: the same, then the state given, the state returned and the empty one
abbrev pub stateful :
    {S : Type 0} (rs : List Refusal) (answer : ℕ) (lent left : List (List ℕ)) (given returned empty : S) → Call
stateful {S} rs answer lent left given returned empty =
    record { refusals = rs; answer = answer; lent = lent; left = left; State = S; given = given; returned = returned; empty = empty }

-- 'state as given' is returned under every number but 0, 4, 10 and 12
abbrev pub keeps_state : ℕ → Bool
keeps_state n = not (n == 0 || n == 4 || n == 10 || n == 12)

-- what 01 says under the number n: 'Lent bytes change only under 0', the state, and under 4 'an empty group'
pub record Under (c : Call) (n : ℕ) : Type 0 where
  pub answers : c.answer ≡ n
  pub untouched : (n ≡ 0 → ⊥) → c.left ≡ c.lent
  pub as_given : keeps_state n ≡ true → c.returned ≡ c.given
  pub emptied : n ≡ 4 → c.returned ≡ c.empty

abbrev pub Copes : Call → Type 0
Copes c = Under c (first c.refusals)

-- an entry point with the proof that it copes with any arguments: what a row of the table is
pub record Coping : Type 1 where
  pub name : String
  pub Input : Type 0
  pub call : Input → Call
  pub copes : (x : Input) → Copes (call x)

abbrev pub row : {Input : Type 0} → String → (call : Input → Call) → ((x : Input) → Copes (call x)) → Coping
row {Input} name call copes = record { name = name; Input = Input; call = call; copes = copes }

-- what meets a call's contract: an answer, what is left of the lent slices, and a state
pub record Meets (c : Call) (answer : ℕ) (left : List (List ℕ)) (state : c.State) : Type 0 where
  pub answers : answer ≡ c.answer
  pub leaves : left ≡ c.left
  pub returns : state ≡ c.returned

-- no second one does
pub only : (c : Call) (a b : ℕ) (l m : List (List ℕ)) (s t : c.State) → Meets c a l s → Meets c b m t → (a ≡ b) × (l ≡ m) × (s ≡ t)
only c a b l m s t p q = (p.answers ∙ sym q.answers, p.leaves ∙ sym q.leaves, p.returns ∙ sym q.returns)

-- How a row is proved: down the ladder of its refusals, each condition taken as true and as false.

abbrev choice : (test : Bool) (A B : Type 0) → Type 0
choice true A B = A
choice false A B = B

-- what is to be shown where the call is refused with n
abbrev pub Refused : Call → ℕ → Type 0
Refused c n =
    (c.answer ≡ n) × (c.left ≡ c.lent) × choice (keeps_state n) (c.returned ≡ c.given) (choice (n == 4) (c.returned ≡ c.empty) (Unit {0}))

pub refused : (c : Call) (n : ℕ) → Refused c n → Under c n
refused c n r = record { answers = r.0; untouched = λ d. r.1; as_given = λ k. rw k at r.2; emptied = λ e. rw e at r.2 }

pub done : (c : Call) → c.answer ≡ 0 → Under c 0
done c e = record { answers = e; untouched = λ d. absurd (d refl); as_given = λ k. absurd (false≢true k); emptied = λ f. absurd (omega arith) }

abbrev pub Ladder : Call → List Refusal → Type 0
Ladder c [] = c.answer ≡ 0
Ladder c (If n b ∷ rs) = (b ≡ true → Refused c n) × (b ≡ false → Ladder c rs)
Ladder c (Unless n b ∷ rs) = (b ≡ true → Ladder c rs) × (b ≡ false → Refused c n)

descends : (c : Call) (rs : List Refusal) → Ladder c rs → Under c (first rs)
descends c [] w = done c w
descends c (If n b ∷ rs) w = cond_by (Under c) b n (first rs) (λ t. refused c n (w.0 t)) (λ f. descends c rs (w.1 f))
descends c (Unless n b ∷ rs) w = cond_by (Under c) b (first rs) n (λ t. descends c rs (w.0 t)) (λ f. refused c n (w.1 f))

pub copes : (c : Call) → Ladder c c.refusals → Copes c
copes c w = descends c c.refusals w

-- where nothing is lent and there is no state, the answer is all
pub answers_alone : (rs : List Refusal) (n : ℕ) → n ≡ first rs → Copes (stateless rs n [] [])
answers_alone rs n e = record { answers = e; untouched = λ d. refl; as_given = λ k. refl; emptied = λ f. refl }

-- a call behind a test of its own: the number m unless it holds, then what the call behind it does with its lent slice
pub behind : (m : ℕ) (b : Bool) (rs : List Refusal) (n : ℕ) (new old : List ℕ) → Copes (stateless rs n (old ∷ []) (new ∷ []))
    → Copes (stateless (Unless m b ∷ rs) (if b then n else m) (old ∷ []) ((if b then new else old) ∷ []))
behind m true rs n new old c = record { answers = c.answers; untouched = c.untouched; as_given = c.as_given; emptied = c.emptied }
behind m false rs n new old c = record { answers = refl; untouched = λ d. refl; as_given = λ k. refl; emptied = λ f. refl }

-- the same of a call with a state
pub tested : {S : Type 0} (m : ℕ) (b : Bool) (rs : List Refusal) (n : ℕ) (new old : S) → Copes (stateful rs n [] [] old new old)
    → Copes (stateful (Unless m b ∷ rs) (if b then n else m) [] [] old (if b then new else old) old)
tested m true rs n new old c = record { answers = c.answers; untouched = c.untouched; as_given = c.as_given; emptied = c.emptied }
tested m false rs n new old c = record { answers = refl; untouched = λ d. refl; as_given = λ k. refl; emptied = λ f. refl }

-- a state that is put anew under 0 alone
pub put_anew : (rs : List Refusal) (n : ℕ) (new old : List ℕ) → n ≡ first rs → Copes (stateful rs n [] [] old (if n == 0 then new else old) old)
put_anew rs n new old e =
    record { answers = e; untouched = λ d. refl; as_given = λ k. stays (λ z. false≢true (rw (sym e ∙ z) at k)); emptied = λ f. stays (λ z. omega arith) }
  where
    stays : (n ≡ 0 → ⊥) → (if n == 0 then new else old) ≡ old
    stays d = rw (ne_eqb n 0 d)

-- a choice between a thing and itself
pub either : {A : Type 0} (b : Bool) (x : A) → (if b then x else x) ≡ x
either true x = refl
either false x = refl
