-- Both edges to the report, over reports that follow one another.
use Rattle.std.specs.Prelude.{◌≡◌, false, List, ℕ, zero, suc, ◌+◌, ◌≤◌, ◌<◌}
use Rattle.std.proofs.Common.{ap, ◌∙◌, arith}
use Rattle.reply.specs.Reports.{Apart, Claim, Low, Reports}
use Rattle.reply.specs.Theorems.States.{told_apart, told_below}
use Rattle.reply.specs.Theorems.Waiting.{hold_kept, hold_over, restore_over, restore_waits}
use Rattle.reply.specs.declared.members.Port.{Port}
use Rattle.reply.specs.declared.waiting.Standing.{Standing}
use Rattle.reply.specs.Members.{fail_state, is_idle, ok_state, port_at}
use Rattle.reply.specs.Waiting.{standing, standing_at}

module _ (seen : ℕ → List Port) (n : ℕ) (all : Reports seen n) where
  apart_at : (k : ℕ) → Apart (seen k) n
  apart_at zero = all.apart
  apart_at (suc k) = told_apart (seen k) n (seen (suc k)) all.small (all.told k)

  low_at : (k : ℕ) → Low (seen k) n
  low_at zero = all.low
  low_at (suc k) = told_below (seen k) n (seen (suc k)) all.small (all.told k)

  -- what the next report sees of a port of which this one has left s
  next : (i k : ℕ) (s : Standing) → i < n → standing_at (seen k) n i ≡ s
      → ((port_at (seen (suc k)) i).state ≡ s.state) × ((port_at (seen (suc k)) i).state_number ≡ s.number) × ((port_at (seen (suc k)) i).elapsed ≡ s.elapsed)
  next i k s b e = (
    (all.told k).state i b ∙ ap (λ (t : Standing). t.state) e,
    (all.told k).number i b ∙ ap (λ (t : Standing). t.number) e,
    (all.told k).elapsed i b ∙ ap (λ (t : Standing). t.elapsed) e,
  )

  module _ (i h : ℕ) (b : i < n) where
    -- The loss is first seen at report 0, with hold-off h: the port is OK at reports 0 to h - 1, under the number that it had,
    module _ (q : ℕ) (ok : (port_at (seen 0) i).state ≡ ok_state) (number : (port_at (seen 0) i).state_number ≡ q) (none : (port_at (seen 0) i).elapsed ≡ 0)
        (time : (k : ℕ) → k ≤ h → (port_at (seen k) i).hold_off ≡ h)
        (lost : (k : ℕ) → k ≤ h → (is_idle (port_at (seen k) i) ≡ false) × (Claim (seen k) n i → ⊥)) where
      left_at : (k : ℕ) → k < h → (port_at (seen k) i).state ≡ ok_state → (port_at (seen k) i).state_number ≡ q → (port_at (seen k) i).elapsed ≡ k
          → standing_at (seen k) n i ≡ standing ok_state q (k + 1)
      left_at k m s w r =
          let t = time k (omega arith) in
          hold_kept (seen k) n all.small (apart_at k) i b (lost k (omega arith)).0 (low_at k) s (lost k (omega arith)).1 (omega arith)
          ∙ rw (w, r)

      before : (k : ℕ) → k ≤ h → ((port_at (seen k) i).state ≡ ok_state) × ((port_at (seen k) i).state_number ≡ q) × ((port_at (seen k) i).elapsed ≡ k)
      before zero m = (ok, number, none)
      before (suc k) m =
          let o = before k (omega arith) in
          let w = next i k (standing ok_state q (k + 1)) b (left_at k (omega arith) o.0 o.1 o.2) in
          (w.0, w.1, w.2 ∙ omega arith)

      pub hold_off_keeps : (k : ℕ) → k < h → standing_at (seen k) n i ≡ standing ok_state q (k + 1)
      hold_off_keeps k m = let o = before k (omega arith) in left_at k m o.0 o.1 o.2

      -- and FAIL at report h.
      pub hold_off_ends : standing_at (seen h) n i ≡ standing fail_state (port_at (seen h) i).number 0
      hold_off_ends =
          let r = (before h (omega arith)).2 in
          let t = time h (omega arith) in
          hold_over (seen h) n all.small (apart_at h) i b (lost h (omega arith)).0 (lost h (omega arith)).1 (omega arith)

    -- The claim first stands at report 0, with wait-to-restore h: the port is FAIL at reports 0 to h - 1,
    module _ (fail : (port_at (seen 0) i).state ≡ fail_state) (none : (port_at (seen 0) i).elapsed ≡ 0)
        (time : (k : ℕ) → k ≤ h → (port_at (seen k) i).restore ≡ h)
        (stands : (k : ℕ) → k ≤ h → (is_idle (port_at (seen k) i) ≡ false) × Claim (seen k) n i) where
      waits_at : (k : ℕ) → k < h → (port_at (seen k) i).state ≡ fail_state → (port_at (seen k) i).elapsed ≡ k
          → standing_at (seen k) n i ≡ standing fail_state (port_at (seen k) i).number (k + 1)
      waits_at k m s r =
          let t = time k (omega arith) in
          restore_waits (seen k) n all.small (apart_at k) i b (stands k (omega arith)).0 s (stands k (omega arith)).1 (omega arith)
          ∙ rw r

      since : (k : ℕ) → k ≤ h → ((port_at (seen k) i).state ≡ fail_state) × ((port_at (seen k) i).elapsed ≡ k)
      since zero m = (fail, none)
      since (suc k) m =
          let o = since k (omega arith) in
          let w = next i k (standing fail_state (port_at (seen k) i).number (k + 1)) b (waits_at k (omega arith) o.0 o.1) in
          (w.0, w.2 ∙ omega arith)

      pub restore_waits_for : (k : ℕ) → k < h → standing_at (seen k) n i ≡ standing fail_state (port_at (seen k) i).number (k + 1)
      restore_waits_for k m = let o = since k (omega arith) in waits_at k m o.0 o.1

      -- and OK at report h.
      pub restore_ends : standing_at (seen h) n i ≡ standing ok_state (port_at (seen h) i).number 0
      restore_ends =
          let r = (since h (omega arith)).1 in
          let t = time h (omega arith) in
          restore_over (seen h) n all.small (apart_at h) i b (stands h (omega arith)).0 (stands h (omega arith)).1 (omega arith)
