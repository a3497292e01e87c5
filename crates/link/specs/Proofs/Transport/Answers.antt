-- The answers of all frames: each is 0 or 12, and 12 only before its port is in step.
use Rattle.std.specs.Prelude.{◌≡◌, refl}
use Rattle.std.proofs.Common.{sym, ◌∙◌, arith, le-leb}
use Rattle.std.proofs.Math.Path.{ap}
use Rattle.std.proofs.Math.Logic.{⊎_elim}
use mathlib.Core.List.{List, [], ◌∷◌, ◌++◌, append-nil, append_assoc}
use Prim.Native.Nat.{ℕ, zero, suc, ◌+◌, ◌-◌, ◌*◌, ◌/◌, ◌≤◌, ◌<◌}
use Rattle.std.proofs.lemmas.Bool.{lt-leb}
use Rattle.ground.specs.Truth.{le_or_lt}
use Rattle.step.specs.Sent.{SentWith}
use Rattle.step.specs.SentRuns.{start_from}
use Rattle.link.specs.Moments.{coming, reached, said, says, says_one, says_through}
use Rattle.link.specs.Road.{L, Road}
use Rattle.link.specs.Proofs.Fair.{Fair}
use Rattle.link.specs.Running.{Moment, framed, through, turn, turns}
use Rattle.link.specs.Proofs.Standing.{Before, First, Later, Owes}
use Rattle.link.specs.Proofs.Transport.Fetches.{drained_answers}
use Rattle.link.specs.Proofs.Transport.Moments.{Rest, rest_all, rest_tail, served_at}
use Rattle.link.specs.Proofs.Transport.Served.{Reach, Served}
use Rattle.link.specs.Proofs.Transport.Times.{CallsDo, Phase, coming_is, phase, reach_coming, served_coming, turns_more}
use Rattle.link.specs.Proofs.Transport.Times.Phase.{before, first, later}

module _ (r : Road) where
  -- what the single calls are proved to answer
  pub record Says : Type 0 where
    pub before_says : (m : Moment) (p : ℕ) (n n' : ℕ → ℕ) → Served r p n n' → SentWith r.kind (r.offset + n p) (r.h4 p (n p)) → Before r m n
        → (framed r p (n p) m).answers ≡ m.answers ++ (said r p (n p) ∷ [])
    pub first_says : (m : Moment) (p i : ℕ) (n n' : ℕ → ℕ) → Served r p n n' → Reach r p n → First r m n i → (framed r p (n p) m).answers ≡ m.answers ++ (0 ∷ [])
    pub later_says : (m : Moment) (p g i : ℕ) (n n' : ℕ → ℕ) → Served r p n n' → Reach r p n → Later r m n g i → Owes r n (suc i) → (framed r p (n p) m).answers ≡ m.answers ++ (0 ∷ [])

  -- in step, the answer is 0
  said_in : (p x : ℕ) → start_from r.kind r.offset (r.first p) + L r * 2 ≤ x → said r p x ≡ 0
  said_in p x h = rw (le-leb (start_from r.kind r.offset (r.first p) + L r * 2) (x + 1) (omega arith)) refl

  module _ (m₀ : Moment) (f : Fair r) (s : CallsDo r) (a : Says) (start : Before r m₀ r.first) where
    module _ (t p : ℕ) (done ps : List ℕ) (is_order : r.order t ≡ done ++ (p ∷ ps)) (o : Rest r (p ∷ ps)) where
      abbrev here : Moment
      here = reached r m₀ t done

      with_frame : r.delay p + r.first p ≤ t → (framed r p (t - r.delay p) here).answers ≡ here.answers ++ (said r p (t - r.delay p) ∷ [])
      with_frame late = go (phase r m₀ f s start t done (p ∷ ps) is_order)
        where
          position : coming r t (p ∷ ps) p ≡ t - r.delay p
          position = coming_is r t (p ∷ ps) p o.all_below.0 ∙ served_at r t p ps o late

          go : Phase r m₀ t done here (coming r t (p ∷ ps)) → (framed r p (t - r.delay p) here).answers ≡ here.answers ++ (said r p (t - r.delay p) ∷ [])
          go (before b un) = rw position at (a.before_says here p (coming r t (p ∷ ps)) (coming r t ps) (served_coming r t p ps o late) (rw position (f.counted t p done ps o.all_below.0 is_order late un)) b)
          go (first F b come c) =
              rw position at (a.first_says here p (suc (F / L r)) (coming r t (p ∷ ps)) (coming r t ps) (served_coming r t p ps o late) (reach_coming r f t p ps o late) c)
              ∙ ap (λ (n : ℕ). here.answers ++ (n ∷ [])) (sym (said_in p (t - r.delay p) (rw position at (c.open_at.in_step_lem p o.all_below.0))))
          go (later F i b come c w) =
              rw position at (a.later_says here p (suc (F / L r)) i (coming r t (p ∷ ps)) (coming r t ps) (served_coming r t p ps o late) (reach_coming r f t p ps o late) c w)
              ∙ ap (λ (n : ℕ). here.answers ++ (n ∷ [])) (sym (said_in p (t - r.delay p) (rw position at (c.open_at.in_step_lem p o.all_below.0))))

      turn_says : (turn r t p here).answers ≡ here.answers ++ says_one r t p
      unfolding turn
      turn_says =
          ⊎_elim
          (λ (late : r.delay p + r.first p ≤ t).
          rw (le-leb (r.delay p + r.first p) t late) (drained_answers r f r.window (framed r p (t - r.delay p) here) ∙ with_frame late))
          (λ (early : t < r.delay p + r.first p). rw (lt-leb (r.delay p + r.first p) t early) (sym (append-nil here.answers)))
          (le_or_lt (r.delay p + r.first p) t)

    -- some ports of a frame time
    all_say : (t : ℕ) (done ps rest : List ℕ) → r.order t ≡ done ++ (ps ++ rest) → Rest r (ps ++ rest) → (reached r m₀ t (done ++ ps)).answers ≡ (reached r m₀ t done).answers ++ says r t ps
    all_say t done [] rest e o = ap (λ (l : List ℕ). (reached r m₀ t l).answers) (append-nil done) ∙ sym (append-nil (reached r m₀ t done).answers)
    all_say t done (p ∷ ps) rest e o =
        let e' : r.order t ≡ done ++ (p ∷ []) ++ (ps ++ rest) = e ∙ sym (append_assoc done (p ∷ []) (ps ++ rest)) in
        let more = all_say t (done ++ (p ∷ [])) ps rest e' (rest_tail r p (ps ++ rest) o) in
        let one : (reached r m₀ t (done ++ (p ∷ []))).answers ≡ (reached r m₀ t done).answers ++ says_one r t p = ap (λ (m : Moment). m.answers) (turns_more r t p done (through r t m₀)) ∙ turn_says t p done (ps ++ rest) e o in
        ap (λ (l : List ℕ). (reached r m₀ t l).answers) (sym (append_assoc done (p ∷ []) ps))
        ∙ more
        ∙ ap (λ (l : List ℕ). l ++ says r t ps) one
        ∙ append_assoc (reached r m₀ t done).answers (says_one r t p) (says r t ps)

    through_says : m₀.answers ≡ [] → (t : ℕ) → (through r t m₀).answers ≡ says_through r t
    unfolding through turns
    through_says none zero = none
    through_says none (suc t) =
        all_say t [] (r.order t) [] (sym (append-nil (r.order t))) (rw (append-nil (r.order t)) (rest_all r f t))
        ∙ ap (λ (l : List ℕ). l ++ says r t (r.order t)) (through_says none t)

    -- at every moment
    pub answers_are : m₀.answers ≡ [] → (t : ℕ) (done rest : List ℕ) → r.order t ≡ done ++ rest → (reached r m₀ t done).answers ≡ says_through r t ++ says r t done
    unfolding turns
    answers_are none t done rest e =
        all_say t [] done rest e (rw e at (rest_all r f t)) ∙ ap (λ (l : List ℕ). l ++ says r t done) (through_says none t)
