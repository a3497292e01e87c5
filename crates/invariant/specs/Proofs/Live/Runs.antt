-- A frame's run and its symbol.
use Rattle.std.specs.Prelude.{◌≡◌, refl, ◌⊎◌, Bool, true, false, cond, not, List, ◌∷◌, ℕ, eqb, length}
use Rattle.std.proofs.Common.{sym, subst, inl, inr, ⊎_elim, arith, eqb-true}
use Rattle.ground.specs.Truth.{cond_by}
use Rattle.invariant.specs.Kept.Run.{RunKept}
use Rattle.invariant.specs.Live.{LiveRow, is_heard}
use Rattle.invariant.specs.Proofs.Laws.Flags.{true_or_false}
use Rattle.invariant.specs.Proofs.Live.Rows.{live_none, live_put}
use Rattle.packet.specs.Kinds.{place_of}
use Rattle.packet.specs.Symbols.{with_symbol}
use Rattle.packet.specs.Theorems.Symbols.{length_with}
use Rattle.receiver.specs.Frame.{own_tag}
use Rattle.rows.specs.declared.group.Group.{Group}
use Rattle.rows.specs.declared.step.Step.{Step}
use Rattle.step.specs.Arrival.{counts_on, flagged, frame_dropped, joining, keeps, outside, run_of, taken_of}
use Rattle.step.specs.declared.arrival.Taken.{Taken}
use Rattle.step.specs.declared.run.Run.{Run}
use Rattle.step.specs.Laws.Arrival.{ran_on, taken_by}
use Rattle.step.specs.Laws.RunKept.{Grows, run_grows}
use Rattle.step.specs.Run.{no_run, with_bits}

-- A frame that is not answered 11 is one to the step record: a flagged one ends the run, any other goes on with it, and its symbol is put in where that leaves a run.
pub record Went (g : Group) (s : Step) (flag odd : Bool) (h : ℕ) (t : Taken) : Type 0 where
  pub heard : is_heard t.answer ≡ true
  pub run : run_of t.step ≡ cond flag (with_bits s.bits no_run) (ran_on g s odd h)
  pub put : (t.step.count ≡ 0) ⊎ (t.counted ≡ true)

some_or_none : (n : ℕ) → (n ≡ 0) ⊎ (not (eqb n 0) ≡ true)
some_or_none n = ⊎_elim (λ (e : eqb n 0 ≡ true). inl (eqb-true n 0 e)) (λ (e : eqb n 0 ≡ false). inr (rw e refl)) (true_or_false (eqb n 0))

pub went : (g : Group) (s : Step) (flag odd : Bool) (h : ℕ) → ((taken_of g s flag odd h).answer ≡ 11 → ⊥) → Went g s flag odd h (taken_of g s flag odd h)
unfolding flagged counts_on frame_dropped keeps joining outside
went g s flag odd h =
    taken_by (λ (t : Taken). (t.answer ≡ 11 → ⊥) → Went g s flag odd h t) g s flag odd h
    (λ f n. record { heard = refl; run = rw f refl; put = inl refl })
    (λ f e n. record { heard = refl; run = rw f refl; put = some_or_none (ran_on g s odd h).count })
    (λ f e b n. record { heard = refl; run = rw f refl; put = inr refl })
    (λ f e b j w n. record { heard = refl; run = rw f refl; put = inr refl })
    (λ f e b j w n. absurd (n refl))
    (λ f e b j l w n. record { heard = refl; run = rw f refl; put = inr refl })
    (λ f e b j w n. record { heard = refl; run = rw f refl; put = inr refl })

-- the packet being gathered after it
abbrev pub row_after : (kind : ℕ) (row : List ℕ) (t : Taken) (h : ℕ) → List ℕ
row_after kind row t h = cond t.counted (with_symbol kind row (place_of kind (own_tag kind t)) h) row

row_long : (kind : ℕ) (row : List ℕ) (t : Taken) (h : ℕ) → length row ≡ 16 → length (row_after kind row t h) ≡ 16
row_long kind row t h e =
    cond_by (λ (l : List ℕ). length l ≡ 16) t.counted (with_symbol kind row (place_of kind (own_tag kind t)) h) row
    (λ c. rw (length_with kind row (place_of kind (own_tag kind t)) h) e) (λ c. e)

module _ (g : Group) (s : Step) (row heard : List ℕ) (flag odd : Bool) (h : ℕ) (t : Taken) (k : RunKept g.kind (run_of s)) (w : Went g s flag odd h t) where
  abbrev Now : Run → Type 0
  Now run = Grows g.kind (run_of s) run

  grows : Grows g.kind (run_of s) (run_of t.step)
  grows =
      subst Now (sym w.run)
      (cond_by Now flag (with_bits s.bits no_run) (ran_on g s odd h) (λ f. inl (omega arith)) (λ f. run_grows g.kind (run_of s) odd h k))

  pub live_went : LiveRow g.kind s.count s.next row heard → LiveRow g.kind t.step.count t.step.next (row_after g.kind row t h) (h ∷ heard)
  live_went o =
      ⊎_elim (λ (none : t.step.count ≡ 0). live_none g.kind t.step.count t.step.next (row_after g.kind row t h) (h ∷ heard) (row_long g.kind row t h o.long) none)
      (λ (c : t.counted ≡ true). rw c (live_put g.kind s.count s.next row heard o t.step.count t.step.next h grows))
      w.put
