-- Which ports are OK, and under which numbers.
use Rattle.std.specs.Prelude.{◌≡◌, refl, ◌≢◌, Bool, true, false, List, ℕ, ◌+◌, ◌≤◌, ◌<◌, length, replicate}
use Rattle.std.proofs.Common.{sym, ap, ◌∙◌, arith}
use Rattle.std.proofs.Math.Logic.{⊎_elim}
use Rattle.std.proofs.lemmas.List.{length-replicate}
use Rattle.std.proofs.Math.ListN.{get_or-eq_default}
use Rattle.ground.specs.Counting.Each.{get_or_each}
use Rattle.ground.specs.Truth.{le_or_lt}
use Rattle.reply.specs.Reports.{Apart, Low, Told}
use Rattle.reply.specs.Theorems.Keeping.{KeptBy, kept_by_lem, kept_lost}
use Rattle.reply.specs.declared.members.Port.{Port}
use Rattle.reply.specs.declared.waiting.Standing.{Standing}
use Rattle.reply.specs.Choosing.{FREE, holder_of}
use Rattle.reply.specs.Laws.Choosing.{Chosen, holders_after, holders_from, length_holders}
use Rattle.reply.specs.Laws.Claims.{claim_alone, claim_candidate, claim_own, keeps, keeps_own, left_claim, left_idle, left_lost, with_rested, with_restoring, without_failed, without_kept}
use Rattle.reply.specs.Laws.Members.{candidate_not_idle, left_elapsed, left_not_idle, left_ok}
use Rattle.reply.specs.Members.{fail_state, idle_state, is_idle, is_restoring, ok_state, port_at}
use Rattle.reply.specs.Waiting.{chosen_of, has_claim, kept_numbers, keeps_number, no_standing, standing, standing_at, standing_by, standings_of, with_claim, without_claim}

pub standing_is : (ports : List Port) (n i : ℕ) → n ≤ 64 → i < n → standing_at ports n i ≡ standing_by (chosen_of ports n) i (port_at ports i)
unfolding standings_of
standing_is ports n i small b =
    get_or_each n (λ k. standing_by (chosen_of ports n) k (port_at ports k)) (replicate 64 no_standing) i no_standing b
    (rw (length-replicate {A = Standing} 64 no_standing) (omega arith))

pub length_chosen : (ports : List Port) (n : ℕ) → length (chosen_of ports n) ≡ 64
unfolding chosen_of
length_chosen ports n = length_holders ports n (kept_numbers ports n) ∙ (kept_by_lem ports n).len

-- a port that is OK has the number under which it is
abbrev Has : List ℕ → ℕ → Standing → Type 0
Has chosen i s = s.state ≡ ok_state → holder_of chosen s.number ≡ i

module _ (ports : List Port) (n i : ℕ) (small : n ≤ 64) (b : i < n) where
  abbrev p : Port
  p = port_at ports i

  abbrev C : List ℕ
  C = chosen_of ports n

  -- a candidate that does not wait to restore, and whose number no other port has, has it
  pub claim_has : has_claim C i p ≡ true → is_restoring p ≡ false → holder_of C p.number ≡ i
  unfolding chosen_of
  claim_has c r =
      ⊎_elim
      (λ (f : holder_of C p.number ≡ FREE).
      absurd (holders_after ports n (kept_numbers ports n) i (kept_by_lem ports n).len small b (claim_candidate C i p c) r f))
      (λ (o : holder_of C p.number ≡ i). o)
      (claim_alone C i p c)

  has_with : (r : Bool) → is_restoring p ≡ r → has_claim C i p ≡ true → Has C i (with_claim p)
  has_with true r c = rw (with_restoring p r) (λ (z : fail_state ≡ ok_state). absurd (omega arith))
  has_with false r c = rw (with_rested p r) (λ (z : ok_state ≡ ok_state). claim_has c r)

  has_without : (k : Bool) → keeps_number C i p ≡ k → Has C i (without_claim C i p)
  has_without true k = rw (without_kept C i p k) (λ (z : ok_state ≡ ok_state). keeps_own C i p k)
  has_without false k = rw (without_failed C i p k) (λ (z : fail_state ≡ ok_state). absurd (omega arith))

  has_live : (c : Bool) → has_claim C i p ≡ c → is_idle p ≡ false → Has C i (standing_by C i p)
  has_live true c e = rw (left_claim C i p e c) (has_with (is_restoring p) refl c)
  has_live false c e = rw (left_lost C i p e c) (has_without (keeps_number C i p) refl)

  has_any : (a : Bool) → is_idle p ≡ a → Has C i (standing_by C i p)
  has_any true e = rw (left_idle C i p e) (λ (z : idle_state ≡ ok_state). absurd (omega arith))
  has_any false e = has_live (has_claim C i p) refl e

pub ok_holds_lem : (ports : List Port) (n i : ℕ) → n ≤ 64 → i < n → (standing_at ports n i).state ≡ ok_state
    → holder_of (chosen_of ports n) (standing_at ports n i).number ≡ i
ok_holds_lem ports n i small b ok =
    let e : standing_at ports n i ≡ standing_by (chosen_of ports n) i (port_at ports i) = standing_is ports n i small b in
    ap (λ (s : Standing). holder_of (chosen_of ports n) s.number) e ∙ has_any ports n i small b (is_idle (port_at ports i)) refl (sym (ap (λ (s : Standing). s.state) e) ∙ ok)

-- the number of an OK port is below 64,
pub ok_below : (ports : List Port) (n i : ℕ) → n ≤ 64 → i < n → (standing_at ports n i).state ≡ ok_state → (standing_at ports n i).number < 64
ok_below ports n i small b ok =
    let q : ℕ = (standing_at ports n i).number in
    ⊎_elim
    (λ (g : 64 ≤ q).
    let w : i ≡ FREE = sym (ok_holds_lem ports n i small b ok) ∙ get_or-eq_default (chosen_of ports n) FREE {n = q} (rw (length_chosen ports n) g) in
    absurd (omega arith))
    (λ (g : q < 64). g)
    (le_or_lt 64 q)

-- and two OK ports have different ones, whatever came before the report
pub ok_apart : (ports : List Port) (n i j : ℕ) → n ≤ 64 → i < n → j < n → (standing_at ports n i).state ≡ ok_state → (standing_at ports n j).state ≡ ok_state
    → (standing_at ports n i).number ≡ (standing_at ports n j).number → i ≡ j
ok_apart ports n i j small bi bj oi oj e =
    sym (ok_holds_lem ports n i small bi oi) ∙ ap (λ (q : ℕ). holder_of (chosen_of ports n) q) e ∙ ok_holds_lem ports n j small bj oj

-- port x is OK under q
pub record OkUnder (ports : List Port) (n q x : ℕ) : Type 0 where
  pub below : x < n
  pub ok : (standing_at ports n x).state ≡ ok_state
  pub same : (standing_at ports n x).number ≡ q

-- whoever has a number after the rounds is OK under it: one that keeps its old number, one that has chosen it, with its new one
pub ok_after : (ports : List Port) (n q x : ℕ) → n ≤ 64 → Apart ports n → holder_of (chosen_of ports n) q ≡ x → x ≢ FREE → OkUnder ports n q x
unfolding chosen_of
ok_after ports n q x small apart is some =
    ⊎_elim (λ (h : holder_of (kept_numbers ports n) q ≡ x). kept ((kept_by_lem ports n).by q x h some) (kept_lost ports n small apart q x h some))
    (λ (c : Chosen ports n q x). new c)
    (holders_from ports n (kept_numbers ports n) q x (kept_by_lem ports n).len is)
  where
    kept : KeptBy ports n q x → has_claim (chosen_of ports n) x (port_at ports x) ≡ false → OkUnder ports n q x
    kept w lost =
        let e : standing_at ports n x ≡ standing ok_state (port_at ports x).state_number ((port_at ports x).elapsed + 1) =
        standing_is ports n x small w.below
        ∙ left_lost (chosen_of ports n) x (port_at ports x) (left_not_idle (port_at ports x) w.left) lost
        ∙ without_kept (chosen_of ports n) x (port_at ports x)
        (keeps (chosen_of ports n) x (port_at ports x) (left_ok (port_at ports x) w.left) (left_elapsed (port_at ports x) w.left)
        (ap (λ (k : ℕ). holder_of (chosen_of ports n) k) w.same ∙ is)) in
        record { below = w.below; ok = ap (λ (s : Standing). s.state) e; same = ap (λ (s : Standing). s.number) e ∙ w.same }

    new : Chosen ports n q x → OkUnder ports n q x
    new c =
        let e : standing_at ports n x ≡ standing ok_state (port_at ports x).number 0 =
        standing_is ports n x small c.below
        ∙ left_claim (chosen_of ports n) x (port_at ports x) (candidate_not_idle (port_at ports x) c.candidate)
        (claim_own (chosen_of ports n) x (port_at ports x) c.candidate (ap (λ (k : ℕ). holder_of (chosen_of ports n) k) c.same ∙ is))
        ∙ with_rested (port_at ports x) c.rested in
        record { below = c.below; ok = ap (λ (s : Standing). s.state) e; same = ap (λ (s : Standing). s.number) e ∙ c.same }

-- an OK port with number q
pub record Holder (ports : List Port) (n q : ℕ) : Type 0 where
  pub at : ℕ
  pub below : at < n
  pub ok : (standing_at ports n at).state ≡ ok_state
  pub same : (standing_at ports n at).number ≡ q

-- what every report leaves, whatever came before it: OK ports have different numbers, below 64
pub told_below : (ports : List Port) (n : ℕ) (now : List Port) → n ≤ 64 → Told ports n now → Low now n
told_below ports n now small t i b ok = rw (t.number i b) (ok_below ports n i small b (sym (t.state i b) ∙ ok))

pub told_apart : (ports : List Port) (n : ℕ) (now : List Port) → n ≤ 64 → Told ports n now → Apart now n
told_apart ports n now small t i j bi bj oi oj e =
    ok_apart ports n i j small bi bj (sym (t.state i bi) ∙ oi) (sym (t.state j bj) ∙ oj) (sym (t.number i bi) ∙ e ∙ t.number j bj)
