-- No second answer meets a promise, and no program meets one that gives the same bytes whatever it is handed.
use Rattle.std.specs.Prelude.{◌≡◌, refl, Bool, true, false, cond, List, [], ◌∷◌, ℕ, length, get_or}
use Rattle.std.proofs.Common.{sym, ap, ◌∙◌, arith}
use Rattle.payload.specs.declared.answer.Answer.{Answer}
use Rattle.payload.specs.declared.answer.Answer.TheVariants.{Done, Range, Length}
use Rattle.payload.specs.Answers.{number_of, answer_by}
use Rattle.payload.specs.Joining.{whole_answer, joined, from_answer, joined_from}
use Rattle.payload.specs.Laying.{laid}
use Rattle.payload.specs.Spreading.{spread_all, one_answer, spread_one}

-- 01's numbers tell the answers apart
pub one_number : (a b : Answer) → number_of a ≡ number_of b → a ≡ b
one_number Done Done e = refl
one_number Done Range e = absurd (omega arith)
one_number Done Length e = absurd (omega arith)
one_number Range Done e = absurd (omega arith)
one_number Range Range e = refl
one_number Range Length e = absurd (omega arith)
one_number Length Done e = absurd (omega arith)
one_number Length Range e = absurd (omega arith)
one_number Length Length e = refl

-- 4, then 9, else 0
pub in_order_lem : (sizes lengths : Bool) → number_of (answer_by sizes lengths) ≡ cond sizes (cond lengths 0 9) 4
in_order_lem true true = refl
in_order_lem true false = refl
in_order_lem false l = refl

-- an answer and the bytes afterwards meet an entry point's promise
module _ (X P : ℕ) where
  abbrev pub SpreadKept : List ℕ → List ℕ → Answer → List ℕ → Type 0
  SpreadKept frame members a after = (a ≡ whole_answer X P (length frame) (length members)) × (after ≡ spread_all X P frame members)

  abbrev pub JoinKept : List ℕ → List ℕ → Answer → List ℕ → Type 0
  JoinKept members frame a after = (a ≡ whole_answer X P (length members) (length frame)) × (after ≡ joined X P members frame)

  abbrev pub SpreadOneKept : ℕ → List ℕ → List ℕ → Answer → List ℕ → Type 0
  SpreadOneKept r frame member a after = (a ≡ one_answer X P (length frame) (length member)) × (after ≡ spread_one X P r frame member)

  abbrev pub JoinFromKept : List ℕ → List ℕ → ℕ → List ℕ → Answer → List ℕ → Type 0
  JoinFromKept starts store place out a after =
      (a ≡ from_answer X P starts (length store) place (length out)) × (after ≡ joined_from X P starts store place out)

  module _ (a b : Answer) (l m : List ℕ) where
    pub spread_only : (frame members : List ℕ) → SpreadKept frame members a l → SpreadKept frame members b m → (a ≡ b) × (l ≡ m)
    spread_only frame members p q = (p.0 ∙ sym q.0, p.1 ∙ sym q.1)

    pub join_only : (members frame : List ℕ) → JoinKept members frame a l → JoinKept members frame b m → (a ≡ b) × (l ≡ m)
    join_only members frame p q = (p.0 ∙ sym q.0, p.1 ∙ sym q.1)

    pub spread_one_only : (r : ℕ) (frame member : List ℕ) → SpreadOneKept r frame member a l → SpreadOneKept r frame member b m → (a ≡ b) × (l ≡ m)
    spread_one_only r frame member p q = (p.0 ∙ sym q.0, p.1 ∙ sym q.1)

    pub join_from_only : (starts store : List ℕ) (place : ℕ) (out : List ℕ) → JoinFromKept starts store place out a l
        → JoinFromKept starts store place out b m → (a ≡ b) × (l ≡ m)
    join_from_only starts store place out p q = (p.0 ∙ sym q.0, p.1 ∙ sym q.1)

pub lay_only : (place : ℕ) (from to l m : List ℕ) → l ≡ laid place from to → m ≡ laid place from to → l ≡ m
lay_only place from to l m p q = p ∙ sym q

-- Constant bytes: three members of two bytes each, all zero or as in P6. What comes out differs at its place 1.
abbrev zeros : List ℕ
zeros = 0 ∷ 0 ∷ 0 ∷ 0 ∷ 0 ∷ 0 ∷ []

abbrev frame6 : List ℕ
frame6 = 0 ∷ 1 ∷ 2 ∷ 3 ∷ 4 ∷ 5 ∷ []

abbrev members6 : List ℕ
members6 = 0 ∷ 3 ∷ 1 ∷ 4 ∷ 2 ∷ 5 ∷ []

differ : (k l m : List ℕ) → k ≡ l → k ≡ m → (get_or l 1 0 ≡ get_or m 1 0 → ⊥) → ⊥
differ k l m p q h = h (ap (λ (x : List ℕ). get_or x 1 0) (sym p ∙ q))

module _ (k : List ℕ) (answer : List ℕ → Answer) where
  pub constant_spread : ((frame : List ℕ) → SpreadKept 3 2 frame zeros (answer frame) k) → ⊥
  constant_spread h = differ k (spread_all 3 2 zeros zeros) (spread_all 3 2 frame6 zeros) (h zeros).1 (h frame6).1 (λ e. omega arith)

  pub constant_join : ((members : List ℕ) → JoinKept 3 2 members zeros (answer members) k) → ⊥
  constant_join h = differ k (joined 3 2 zeros zeros) (joined 3 2 members6 zeros) (h zeros).1 (h members6).1 (λ e. omega arith)

  pub constant_spread_one : ((frame : List ℕ) → SpreadOneKept 3 2 1 frame (0 ∷ 0 ∷ []) (answer frame) k) → ⊥
  constant_spread_one h =
      differ k (spread_one 3 2 1 zeros (0 ∷ 0 ∷ [])) (spread_one 3 2 1 frame6 (0 ∷ 0 ∷ [])) (h zeros).1 (h frame6).1 (λ e. omega arith)

  pub constant_join_from : ((store : List ℕ) → JoinFromKept 3 2 (0 ∷ 2 ∷ 4 ∷ []) store 0 zeros (answer store) k) → ⊥
  constant_join_from h =
      differ k (joined_from 3 2 (0 ∷ 2 ∷ 4 ∷ []) zeros 0 zeros) (joined_from 3 2 (0 ∷ 2 ∷ 4 ∷ []) members6 0 zeros) (h zeros).1 (h members6).1 (λ e. omega arith)

pub constant_lay : (k : List ℕ) → ((from : List ℕ) → k ≡ laid 0 from zeros) → ⊥
constant_lay k h = differ k (laid 0 zeros zeros) (laid 0 frame6 zeros) (h zeros) (h frame6) (λ e. omega arith)
