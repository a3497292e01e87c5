-- A port whose claim stands at every report from some start on: after its wait-to-restore it is OK under its number.
use Rattle.std.specs.Prelude.{◌≡◌, refl, ◌⊎◌, Bool, true, false, cond, List, [], ◌∷◌, ℕ, suc, ◌+◌, ◌≤◌, ◌<◌, length}
use Rattle.std.proofs.Common.{ap, ◌∙◌, inl, inr, ⊎_elim, arith}
use Rattle.reply.specs.declared.members.Port.{Port}
use Rattle.reply.specs.declared.waiting.Standing.{Standing}
use Rattle.reply.specs.Laws.Claims.{with_rested, with_restoring}
use Rattle.reply.specs.Laws.Members.{ok_rested, restoring_left}
use Rattle.reply.specs.Members.{fail_state, is_restoring, ok_state}
use Rattle.reply.specs.Waiting.{standing, with_claim}
use Rattle.invariant.specs.Calls.{Receiver, ReceiverCall, receiver_after, receiver_run}
use Rattle.invariant.specs.Calls.ReceiverCall.{Fetch, Frame}
use Rattle.invariant.specs.Reports.{epoch_given, gives, reports_of}
use Rattle.invariant.specs.Theorems.{frame_standing, none_standing}
use Rattle.invariant.specs.Times.{standing_in}

no_list : {A : Type 0} (x : A) (l : List A) → x ∷ l ≡ [] → ⊥
no_list x l e = let n : suc (length l) ≡ 0 = ap length e in omega arith

-- calls that give no report leave what waiting goes by
pub between_keeps : (p : ℕ) (x : Receiver) (cs : List ReceiverCall) → reports_of x cs ≡ [] → standing_in (receiver_run x cs).rows p ≡ standing_in x.rows p
between_keeps p x [] e = refl
between_keeps p x (Frame i f h y ∷ cs) e = between_keeps p (receiver_after x (Frame i f h y)) cs e ∙ frame_standing p x.rows i f h y x.store
between_keeps p x (Fetch o l ∷ cs) e = go (gives x o l) refl e (between_keeps p (receiver_after x (Fetch o l)) cs)
  where
    go : (c : Bool) → gives x o l ≡ c → cond c (epoch_given x ∷ reports_of (receiver_after x (Fetch o l)) cs) (reports_of (receiver_after x (Fetch o l)) cs) ≡ []
        → (reports_of (receiver_after x (Fetch o l)) cs ≡ [] → standing_in (receiver_run (receiver_after x (Fetch o l)) cs).rows p ≡ standing_in (receiver_after x (Fetch o l)).rows p)
        → standing_in (receiver_run (receiver_after x (Fetch o l)) cs).rows p ≡ standing_in x.rows p
    go true g z rest = absurd (no_list (epoch_given x) (reports_of (receiver_after x (Fetch o l)) cs) z)
    go false g z rest = rest z ∙ none_standing p x.rows x.store o l g

-- what the reports have left of it at start k, where the first one was by start f: OK, or FAIL with a counter that has grown with each
pub record Counting (s : Standing) (q f k restore : ℕ) : Type 0 where
  pub elapsed : ℕ
  pub is : s ≡ standing fail_state q elapsed
  pub grown : k < f + elapsed
  pub most : elapsed ≤ restore

abbrev pub Stands : Standing → ℕ → ℕ → ℕ → ℕ → Type 0
Stands s q f k restore = (s ≡ standing ok_state q 0) ⊎ Counting s q f k restore

module _ (p : Port) (q f k restore : ℕ) (number : p.number ≡ q) (time : p.restore ≡ restore) where
  -- one report more, by what the one before has left
  pub after_ok : p.state ≡ ok_state → Stands (with_claim p) q f k restore
  after_ok s = inl (with_rested p (ok_rested p s) ∙ ap (λ (n : ℕ). standing ok_state n 0) number)

  pub after_fail : k ≤ f + p.elapsed → Stands (with_claim p) q f k restore
  after_fail grown = go (is_restoring p) refl
    where
      go : (c : Bool) → is_restoring p ≡ c → Stands (with_claim p) q f k restore
      go false c = inl (with_rested p c ∙ ap (λ (n : ℕ). standing ok_state n 0) number)
      go true c =
          inr
          (record {
            elapsed = p.elapsed + 1;
            is = with_restoring p c ∙ ap (λ (n : ℕ). standing fail_state n (p.elapsed + 1)) number;
            grown = omega arith;
            most = let l = restoring_left p c in omega arith;
          })

-- after as many reports as the wait-to-restore it is OK
pub at_last : (s : Standing) (q f k restore : ℕ) → Stands s q f k restore → f + restore ≤ k → s ≡ standing ok_state q 0
at_last s q f k restore w h = ⊎_elim (λ (o : s ≡ standing ok_state q 0). o) (λ (c : Counting s q f k restore). absurd (let g = c.grown in let m = c.most in omega arith)) w
