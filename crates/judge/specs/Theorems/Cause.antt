-- The cause of a mark (01, 'Report of an epoch'): the mark is a function of it, and it is c exactly if clause c holds and none does that stands before it.
use Rattle.std.specs.Prelude.{◌≡◌, refl, ◌≢◌, Bool, true, false, cond, not, ◌||◌, List, [], ◌∷◌, ℕ, zero, suc, ◌<◌, eqb, ltb, get_or, length}
use Rattle.std.proofs.Common.{sym, ap, ◌∙◌, not-suc-le-zero, arith, eq-eqb, eqb-true, ltb-true}
use Rattle.ground.specs.Finite.{below, below_at}
use Rattle.judge.specs.declared.seen.Seen.{Seen}
use Rattle.judge.specs.Cause.{cause_of, causes_of, clause_at, clause_of, fixed_cause, lcas_cause, mark_of}
use Rattle.judge.specs.Seen.{lacking_seen, refused_seen, seen_at}
use Rattle.packet.specs.Kinds.{fixed_kind}
use Rattle.ground.specs.Counting.Words.{some}
use Rattle.judge.specs.Verdict.{DOUBTFUL, HELD, SURE, doubtful_by, eos_wrong, exact, fixed_exact, fixed_held, fixed_verdict, gid_differs, held_by, judge_of, lcas_verdict, missing, repeats}

-- by 01
lcas_mark : (a b c d e f g : Bool)
    → cond (a || b || c || d || e) HELD (cond (f || g) DOUBTFUL SURE)
    ≡ (let q = cond a 1 (cond b 2 (cond c 3 (cond d 4 (cond e 5 (cond f 6 (cond g 7 0)))))) in cond (eqb q 0) SURE (cond (ltb q 6) HELD DOUBTFUL))
lcas_mark true b c d e f g = refl
lcas_mark false true c d e f g = refl
lcas_mark false false true d e f g = refl
lcas_mark false false false true e f g = refl
lcas_mark false false false false true f g = refl
lcas_mark false false false false false true g = refl
lcas_mark false false false false false false true = refl
lcas_mark false false false false false false false = refl

-- of a fixed group
fixed_mark : (a b c d e : Bool) → cond (a || b || c || d || e) HELD SURE ≡ cond (eqb (cond a 6 (cond b 1 (cond c 2 (cond d 3 (cond e 7 0))))) 0) SURE HELD
fixed_mark true b c d e = refl
fixed_mark false true c d e = refl
fixed_mark false false true d e = refl
fixed_mark false false false true e = refl
fixed_mark false false false false true = refl
fixed_mark false false false false false = refl

-- the mark is a function of kind and cause
pub mark_by_cause : (kind : ℕ) (ports : List Seen) (n : ℕ) → judge_of kind ports n ≡ mark_of kind (cause_of kind ports n)
unfolding judge_of mark_of cause_of lcas_verdict fixed_verdict held_by doubtful_by fixed_held lcas_cause fixed_cause
mark_by_cause kind ports n = go (eqb kind fixed_kind)
  where
    go : (b : Bool) → cond b (fixed_verdict ports n) (lcas_verdict ports n)
        ≡ cond (eqb (cond b (fixed_cause ports n) (lcas_cause ports n)) 0) SURE (cond (b || ltb (cond b (fixed_cause ports n) (lcas_cause ports n)) 6) HELD DOUBTFUL)
    go true =
        fixed_mark (missing ports n) (some n (λ i. refused_seen (seen_at ports i))) (some n (λ i. lacking_seen (seen_at ports i))) (repeats ports n) (not (fixed_exact ports n))
    go false =
        lcas_mark (some n (λ i. refused_seen (seen_at ports i))) (some n (λ i. lacking_seen (seen_at ports i))) (repeats ports n) (gid_differs ports n) (eos_wrong ports n)
        (missing ports n) (not (exact ports n))

-- The first clause of an order that holds, 0 where none does.

abbrev first_of : (holds : ℕ → Bool) (order : List ℕ) → ℕ
first_of holds [] = 0
first_of holds (c ∷ cs) = cond (holds c) c (first_of holds cs)

cause_is : (kind : ℕ) (ports : List Seen) (n : ℕ) → cause_of kind ports n ≡ first_of (clause_of kind ports n) (causes_of kind)
unfolding cause_of causes_of clause_of lcas_cause fixed_cause
cause_is kind ports n = go (eqb kind fixed_kind) refl
  where
    refused : Bool
    refused = some n (λ i. refused_seen (seen_at ports i))

    lacking : Bool
    lacking = some n (λ i. lacking_seen (seen_at ports i))

    -- the last clause is the kind's own
    last : Bool → ℕ
    last whole = cond (not whole) 7 0

    own : (b : Bool) → eqb kind fixed_kind ≡ b → cond b (fixed_exact ports n) (exact ports n) ≡ cond (eqb kind fixed_kind) (fixed_exact ports n) (exact ports n)
    own b e = rw e refl

    go : (b : Bool) → eqb kind fixed_kind ≡ b → cause_of kind ports n ≡ first_of (clause_of kind ports n) (causes_of kind)
    go true e = rw e (ap (λ (w : Bool). cond (missing ports n) 6 (cond refused 1 (cond lacking 2 (cond (repeats ports n) 3 (last w))))) (own true e))
    go false e =
        rw e
        (ap (λ (w : Bool). cond refused 1 (cond lacking 2 (cond (repeats ports n) 3 (cond (gid_differs ports n) 4 (cond (eos_wrong ports n) 5 (cond (missing ports n) 6 (last w)))))))
        (own false e))

module _ (holds : ℕ → Bool) where
  -- what stands first and holds is it
  first_at : (order : List ℕ) (p : ℕ) → p < length order → holds (get_or order p 0) ≡ true → ((q : ℕ) → q < p → holds (get_or order q 0) ≡ false)
      → first_of holds order ≡ get_or order p 0
  first_at [] p h t e = absurd (not-suc-le-zero h)
  first_at (c ∷ cs) zero h t e = rw t refl
  first_at (c ∷ cs) (suc p) h t e = rw (e 0 (omega arith)) (first_at cs p (omega arith) t (λ q b. e (suc q) (omega arith)))

  none_first : (order : List ℕ) → ((q : ℕ) → q < length order → holds (get_or order q 0) ≡ false) → first_of holds order ≡ 0
  none_first [] e = refl
  none_first (c ∷ cs) e = rw (e 0 (omega arith)) (none_first cs (λ q b. e (suc q) (omega arith)))

  -- the place of it
  record Found (order : List ℕ) : Type 0 where
    place : ℕ
    below : place < length order
    is : first_of holds order ≡ get_or order place 0
    right : holds (get_or order place 0) ≡ true
    earlier : (q : ℕ) → q < place → holds (get_or order q 0) ≡ false

  after : (c : ℕ) (cs : List ℕ) (p : ℕ) → holds c ≡ false → ((q : ℕ) → q < p → holds (get_or cs q 0) ≡ false)
      → (q : ℕ) → q < suc p → holds (get_or (c ∷ cs) q 0) ≡ false
  after c cs p e h zero b = e
  after c cs p e h (suc q) b = h q (omega arith)

  found : (order : List ℕ) → first_of holds order ≢ 0 → Found order
  found [] d = absurd (d refl)
  found (c ∷ cs) d = go (holds c) refl (λ (e : holds c ≡ false). found cs (rw e at d))
    where
      go : (b : Bool) → holds c ≡ b → (holds c ≡ false → Found cs) → Found (c ∷ cs)
      go true e rest = record { place = 0; below = omega arith; is = rw e refl; right = e; earlier = λ q b. absurd (not-suc-le-zero b) }
      go false e rest =
          let o = rest e in
          record { place = suc o.place; below = (let b = o.below in omega arith); is = rw e o.is; right = o.right; earlier = after c cs o.place e o.earlier }

  first_none : (order : List ℕ) → ((p : ℕ) → p < length order → get_or order p 0 ≢ 0) → first_of holds order ≡ 0 → (q : ℕ) → q < length order → holds (get_or order q 0) ≡ false
  first_none [] d z q h = absurd (not-suc-le-zero h)
  first_none (c ∷ cs) d z q h = go (holds c) refl (λ (e : holds c ≡ false). first_none cs (λ p b. d (suc p) (omega arith)) (rw e at z))
    where
      go : (b : Bool) → holds c ≡ b → (holds c ≡ false → (p : ℕ) → p < length cs → holds (get_or cs p 0) ≡ false) → holds (get_or (c ∷ cs) q 0) ≡ false
      go true e rest = absurd (d 0 (omega arith) (rw e at z))
      go false e rest = after c cs (length cs) e (rest e) q h

-- Each number stands in its order once, and none is 0.

abbrev apart : List ℕ → Bool
apart l = below (length l) (λ p. below (length l) (λ q. not (eqb (get_or l p 0) (get_or l q 0)) || eqb p q))

all_apart : (kind : ℕ) → apart (causes_of kind) ≡ true
unfolding causes_of
all_apart kind = go (eqb kind fixed_kind)
  where
    go : (b : Bool) → apart (cond b (6 ∷ 1 ∷ 2 ∷ 3 ∷ 7 ∷ []) (1 ∷ 2 ∷ 3 ∷ 4 ∷ 5 ∷ 6 ∷ 7 ∷ [])) ≡ true
    go true = refl
    go false = refl

once : (kind p q : ℕ) → p < length (causes_of kind) → q < length (causes_of kind) → get_or (causes_of kind) p 0 ≡ get_or (causes_of kind) q 0 → p ≡ q
once kind p q hp hq e =
    let l = causes_of kind in
    let row = below_at (length l) (λ a. below (length l) (λ b. not (eqb (get_or l a 0) (get_or l b 0)) || eqb a b)) (all_apart kind) p hp in
    let t : (not (eqb (get_or l p 0) (get_or l q 0)) || eqb p q) ≡ true = below_at (length l) (λ b. not (eqb (get_or l p 0) (get_or l b 0)) || eqb p b) row q hq in
    eqb-true p q (rw (eq-eqb (get_or l p 0) (get_or l q 0) e) at t)

numbered : (kind : ℕ) → below (length (causes_of kind)) (λ p. ltb 0 (get_or (causes_of kind) p 0)) ≡ true
unfolding causes_of
numbered kind = go (eqb kind fixed_kind)
  where
    go : (b : Bool) → (let l = cond b (6 ∷ 1 ∷ 2 ∷ 3 ∷ 7 ∷ []) (1 ∷ 2 ∷ 3 ∷ 4 ∷ 5 ∷ 6 ∷ 7 ∷ []) in below (length l) (λ p. ltb 0 (get_or l p 0))) ≡ true
    go true = refl
    go false = refl

some_number : (kind p : ℕ) → p < length (causes_of kind) → get_or (causes_of kind) p 0 ≢ 0
some_number kind p h =
    let l = ltb-true 0 (get_or (causes_of kind) p 0) (below_at (length (causes_of kind)) (λ k. ltb 0 (get_or (causes_of kind) k 0)) (numbered kind) p h) in
    λ (z : get_or (causes_of kind) p 0 ≡ 0). omega arith

module _ (kind : ℕ) (ports : List Seen) (n : ℕ) where
  -- where a clause holds and none before it, it is the cause
  pub clause_cause : (p : ℕ) → p < length (causes_of kind) → clause_at kind ports n p ≡ true → ((q : ℕ) → q < p → clause_at kind ports n q ≡ false) → cause_of kind ports n ≡ get_or (causes_of kind) p 0
  clause_cause p h t e = cause_is kind ports n ∙ first_at (clause_of kind ports n) (causes_of kind) p h t e

  -- and what is the cause holds, and none before it
  pub cause_clause : (p : ℕ) → p < length (causes_of kind) → cause_of kind ports n ≡ get_or (causes_of kind) p 0 → (clause_at kind ports n p ≡ true) × ((q : ℕ) → q < p → clause_at kind ports n q ≡ false)
  cause_clause p h e =
      let s = sym (cause_is kind ports n) ∙ e in
      let o = found (clause_of kind ports n) (causes_of kind) (λ z. some_number kind p h (sym s ∙ z)) in
      let same : o.place ≡ p = once kind o.place p o.below h (sym o.is ∙ s) in
      (rw same at o.right, λ q b. o.earlier q (rw same b))

  -- the clause that is the cause holds
  pub cause_holds : cause_of kind ports n ≢ 0 → clause_of kind ports n (cause_of kind ports n) ≡ true
  cause_holds d =
      let e = cause_is kind ports n in
      let o = found (clause_of kind ports n) (causes_of kind) (λ z. d (e ∙ z)) in
      ap (clause_of kind ports n) (e ∙ o.is) ∙ o.right

  -- 0 exactly where no clause holds
  pub no_clause : ((q : ℕ) → q < length (causes_of kind) → clause_at kind ports n q ≡ false) → cause_of kind ports n ≡ 0
  no_clause e = cause_is kind ports n ∙ none_first (clause_of kind ports n) (causes_of kind) e

  pub no_cause : cause_of kind ports n ≡ 0 → (q : ℕ) → q < length (causes_of kind) → clause_at kind ports n q ≡ false
  no_cause z = first_none (clause_of kind ports n) (causes_of kind) (some_number kind) (sym (cause_is kind ports n) ∙ z)
