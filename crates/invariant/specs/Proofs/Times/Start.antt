-- Two starts with different times leave rows that are the same but for times, whatever stood in them.
use Rattle.std.specs.Prelude.{◌≡◌, refl, ◌≢◌, Bool, true, false, length, replicate}
use Rattle.std.proofs.Math.Path.{sym}
use Rattle.std.proofs.Common.{◌∙◌}
use Rattle.std.proofs.Math.Logic.{⊎_elim}
use mathlib.Core.List.{List}
use Prim.Native.Nat.{ℕ, zero, suc, ◌+◌, ◌*◌, ◌≤◌, ◌<◌}
use native.Mathlib.Omega.{arith}
use Rattle.ground.specs.Truth.{eq_or_ne, le_or_lt}
use Rattle.invariant.specs.Proofs.Laws.Started.{accepted, code_by, left_by}
use Rattle.invariant.specs.Proofs.Times.Rows.{SameButTimes, SameRow, alike}
use Rattle.receiver.specs.Starting.{fresh_member, fresh_port, fresh_ports, fresh_step, group_with, sized_answer, sized_fits, sized_rows, start_as_answer, start_as_rows, start_right, time_of, zero_row}
use Rattle.rows.specs.declared.group.Group.{Group}
use Rattle.rows.specs.Group.{group_row, put_group}
use Rattle.rows.specs.Laws.Records.{member_back}
use Rattle.rows.specs.Laws.Rows.{length_put_row, row_beyond, row_other, row_same}
use Rattle.rows.specs.Member.{member_row, put_member}
use Rattle.rows.specs.Packets.{put_marks, put_packets}
use Rattle.rows.specs.Rows.{put_row, row_in, rows_for}
use Rattle.rows.specs.Step.{put_step, step_row}

-- two lists of m rows, of which those in P are the same but for times
record Both (m : ℕ) (s t : List (List ℕ)) (P : ℕ → Type 0) : Type 0 where
  first : length s ≡ m
  second : length t ≡ m
  row : (k : ℕ) → P k → SameRow k (row_in s k) (row_in t k)

module _ {m : ℕ} {s t : List (List ℕ)} {P : ℕ → Type 0} (h : Both m s t P) (p : ℕ) (a b : List ℕ) (r : SameRow p a b) (l : p < m) where
  both_row : (k : ℕ) → (k ≢ p → P k) → SameRow k (row_in (put_row s p a) k) (row_in (put_row t p b) k)
  both_row k o =
      ⊎_elim
      (λ (e : k ≡ p). rw (e, row_same s p a (rw h.first l), row_same t p b (rw h.second l)) r)
      (λ (d : k ≢ p). rw (row_other s p a k d, row_other t p b k d) (h.row k (o d)))
      (eq_or_ne k p)

  -- one more
  both_put : Both m (put_row s p a) (put_row t p b) (λ k. k ≢ p → P k)
  both_put = record { first = length_put_row s p a ∙ h.first; second = length_put_row t p b ∙ h.second; row = both_row }

-- the rows of the first n ports
abbrev Upto : ℕ → ℕ → Type 0
Upto n k = (0 < k) × (k < rows_for n)

fresh_row : (kind hold restore hold₂ restore₂ k : ℕ) → SameRow (k * 5 + 2) (member_row (fresh_member kind hold restore)) (member_row (fresh_member kind hold₂ restore₂))
fresh_row kind hold restore hold₂ restore₂ k =
    record {
      other = λ d. absurd (d (omega arith));
      member = rw (member_back (fresh_member kind hold restore), member_back (fresh_member kind hold₂ restore₂)) refl;
    }

module _ (kind : ℕ) (hold restore hold₂ restore₂ : List ℕ) (m : ℕ) where
  fresh_both : (n : ℕ) (s t : List (List ℕ)) → rows_for n ≤ m → length s ≡ m → length t ≡ m
      → Both m (fresh_ports kind hold restore n s) (fresh_ports kind hold₂ restore₂ n t) (Upto n)
  unfolding fresh_ports fresh_port put_marks put_packets put_member put_step
  fresh_both zero s t b e f = record { first = e; second = f; row = λ k o. absurd (let (z, l) = o in omega arith) }
  fresh_both (suc n) s t b e f =
      let before : Both m (fresh_ports kind hold restore n s) (fresh_ports kind hold₂ restore₂ n t) (Upto n) = fresh_both n s t (omega arith) e f in
      let q = both_put before (n * 5 + 1) (step_row fresh_step) (step_row fresh_step) (alike (n * 5 + 1) (step_row fresh_step)) (omega arith) in
      let mem =
      both_put q (n * 5 + 2) (member_row (fresh_member kind (time_of hold n) (time_of restore n))) (member_row (fresh_member kind (time_of hold₂ n) (time_of restore₂ n)))
      (fresh_row kind (time_of hold n) (time_of restore n) (time_of hold₂ n) (time_of restore₂ n) n) (omega arith)
      in
      let gat = both_put mem (n * 5 + 3) zero_row zero_row (alike (n * 5 + 3) zero_row) (omega arith) in
      let rul = both_put gat (n * 5 + 4) zero_row zero_row (alike (n * 5 + 4) zero_row) (omega arith) in
      let mar = both_put rul (n * 5 + 5) zero_row zero_row (alike (n * 5 + 5) zero_row) (omega arith) in
      record { first = mar.first; second = mar.second; row = λ k o. mar.row k (λ d₅ d₄ d₃ d₂ d₁. (o.0, let l = o.1 in omega arith)) }

  fresh_same : (n : ℕ) (s t : List (List ℕ)) (g : Group) → rows_for n ≡ m → length s ≡ m → length t ≡ m
      → SameButTimes (put_group (fresh_ports kind hold restore n s) g) (put_group (fresh_ports kind hold₂ restore₂ n t) g)
  unfolding put_group
  fresh_same n s t g w e f =
      let all = both_put (fresh_both n s t (omega arith) e f) 0 (group_row g) (group_row g) (alike 0 (group_row g)) (omega arith) in
      record {
        long = all.first ∙ sym all.second;
        row = λ k.
            ⊎_elim
            (λ (o : m ≤ k). rw (sym (row_beyond one k (rw all.first o)), sym (row_beyond two k (rw all.second o))) (alike k (replicate 16 0)))
            (λ (l : k < m). all.row k (λ d. (omega arith, omega arith)))
            (le_or_lt m k);
      }
    where
      one : List (List ℕ)
      one = put_row (fresh_ports kind hold restore n s) 0 (group_row g)

      two : List (List ℕ)
      two = put_row (fresh_ports kind hold₂ restore₂ n t) 0 (group_row g)

module _ (kind count P W store : ℕ) (hold restore hold₂ restore₂ : List ℕ) where
  pub started_same : (s t : List (List ℕ)) → start_as_answer kind count P W store hold restore (length s) ≡ 0 → start_as_answer kind count P W store hold₂ restore₂ (length t) ≡ 0
      → SameButTimes (start_as_rows kind count P W store hold restore s) (start_as_rows kind count P W store hold₂ restore₂ t)
  started_same s t e f =
      let a = accepted kind count P W store hold restore s e in
      let b = accepted kind count P W store hold₂ restore₂ t f in
      rw (a.fresh, b.fresh) (fresh_same kind hold restore hold₂ restore₂ (rows_for count) count s t (group_with kind count P W) refl a.rows b.rows)

  -- starts that are refused alike leave the same rows
  module _ (s : List (List ℕ)) where
    by_refused : (a b a₂ b₂ : Bool) → code_by kind count P W store hold restore s a b ≡ code_by kind count P W store hold₂ restore₂ s a₂ b₂ → code_by kind count P W store hold restore s a b ≢ 0
        → left_by kind count P W store hold restore s a b ≡ left_by kind count P W store hold₂ restore₂ s a₂ b₂
    by_refused true true a₂ b₂ e d = absurd (d refl)
    by_refused true false true true e d = absurd (omega arith)
    by_refused true false true false e d = refl
    by_refused true false false b₂ e d = absurd (omega arith)
    by_refused false b true true e d = absurd (omega arith)
    by_refused false b true false e d = absurd (omega arith)
    by_refused false b false b₂ e d = refl

    pub refused_same : start_as_answer kind count P W store hold restore (length s) ≡ start_as_answer kind count P W store hold₂ restore₂ (length s)
        → start_as_answer kind count P W store hold restore (length s) ≢ 0
        → start_as_rows kind count P W store hold restore s ≡ start_as_rows kind count P W store hold₂ restore₂ s
    unfolding start_as_answer start_as_rows sized_answer sized_rows
    refused_same e d =
        by_refused (start_right kind count P W hold restore) (sized_fits count P W store hold restore (length s)) (start_right kind count P W hold₂ restore₂)
        (sized_fits count P W store hold₂ restore₂ (length s)) e d
