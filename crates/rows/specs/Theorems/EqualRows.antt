-- Equal records mean equal rows.
use Rattle.std.specs.Prelude.{◌≡◌, refl, List, ℕ, zero, suc, ◌+◌, ◌*◌, ◌/◌, ◌%◌, ◌<◌, length, replicate}
use Rattle.std.proofs.Common.{◌∙◌, ap, arith}
use Rattle.std.proofs.Math.Path.{sym}
use Rattle.std.proofs.Math.Seq.{ext_get_or}
use Rattle.rows.specs.Group.{group_at, group_row}
use Rattle.rows.specs.Laws.Records.{group_row_back, member_row_back, step_row_back}
use Rattle.rows.specs.Member.{member_at, member_row}
use Rattle.rows.specs.Packets.{marks_at, packets_at}
use Rattle.rows.specs.Port.{Port, port_at}
use Rattle.rows.specs.Rows.{Shaped, row_in, rows_for}
use Rattle.rows.specs.Step.{step_at, step_row}

module _ (s : List (List ℕ)) (o : Shaped s) where
  group_row_lem : 0 < length s → group_row (group_at s) ≡ row_in s 0
  unfolding group_at
  group_row_lem h = group_row_back (row_in s 0) (o.whole 0 h) (λ j b. o.bytes 0 j h b)

  step_row_lem : (i : ℕ) → i * 5 + 1 < length s → step_row (port_at s i).step ≡ row_in s (i * 5 + 1)
  unfolding port_at step_at
  step_row_lem i h = step_row_back (row_in s (i * 5 + 1)) (o.whole (i * 5 + 1) h) (λ j b. o.bytes (i * 5 + 1) j h b)

  member_row_lem : (i : ℕ) → i * 5 + 2 < length s → member_row (port_at s i).member ≡ row_in s (i * 5 + 2)
  unfolding port_at member_at
  member_row_lem i h = member_row_back (row_in s (i * 5 + 2)) (o.whole (i * 5 + 2) h) (λ j b. o.bytes (i * 5 + 2) j h b)

gathering_row : (s : List (List ℕ)) (i : ℕ) → (port_at s i).gathering ≡ row_in s (i * 5 + 3)
unfolding port_at packets_at
gathering_row s i = refl

ruling_row : (s : List (List ℕ)) (i : ℕ) → (port_at s i).ruling ≡ row_in s (i * 5 + 4)
unfolding port_at packets_at
ruling_row s i = refl

marks_row : (s : List (List ℕ)) (i : ℕ) → (port_at s i).marks ≡ row_in s (i * 5 + 5)
unfolding port_at marks_at
marks_row s i = refl

module _ (s t : List (List ℕ)) (n : ℕ) (ls : length s ≡ rows_for n) (lt : length t ≡ rows_for n) (os : Shaped s) (ot : Shaped t) where
  port_rows_lem : (i : ℕ) → i < n → port_at s i ≡ port_at t i → (r : ℕ) → r < 5 → row_in s (i * 5 + suc r) ≡ row_in t (i * 5 + suc r)
  port_rows_lem i b e zero h =
      sym (step_row_lem s os i (omega arith)) ∙ ap (λ (p : Port). step_row p.step) e ∙ step_row_lem t ot i (omega arith)
  port_rows_lem i b e (suc zero) h =
      sym (member_row_lem s os i (omega arith)) ∙ ap (λ (p : Port). member_row p.member) e ∙ member_row_lem t ot i (omega arith)
  port_rows_lem i b e (suc (suc zero)) h = sym (gathering_row s i) ∙ ap (λ (p : Port). p.gathering) e ∙ gathering_row t i
  port_rows_lem i b e (suc (suc (suc zero))) h = sym (ruling_row s i) ∙ ap (λ (p : Port). p.ruling) e ∙ ruling_row t i
  port_rows_lem i b e (suc (suc (suc (suc zero)))) h = sym (marks_row s i) ∙ ap (λ (p : Port). p.marks) e ∙ marks_row t i
  port_rows_lem i b e (suc (suc (suc (suc (suc r))))) h = absurd (omega arith)

  module _ (g : group_at s ≡ group_at t) (p : (i : ℕ) → i < n → port_at s i ≡ port_at t i) where
    same_row_lem : (k : ℕ) → k < length s → row_in s k ≡ row_in t k
    same_row_lem zero h = sym (group_row_lem s os (omega arith)) ∙ ap group_row g ∙ group_row_lem t ot (omega arith)
    same_row_lem (suc k) h =
        let e : suc k ≡ k / 5 * 5 + suc (k % 5) = omega arith in
        rw e (port_rows_lem (k / 5) (omega arith) (p (k / 5) (omega arith)) (k % 5) (omega arith))

    pub same_rows : s ≡ t
    unfolding row_in
    same_rows = ext_get_or (replicate 16 0) s t (ls ∙ sym lt) (λ k h. same_row_lem k h)
