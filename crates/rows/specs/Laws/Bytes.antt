-- A row of which only some bytes are written.
use Rattle.std.specs.Prelude.{◌≡◌, length, replicate}
use Rattle.std.proofs.Math.Path.{refl, ap}
use Rattle.std.proofs.Common.{sym, ◌∙◌, arith, get_or-set_other}
use mathlib.Core.List.{List, [], ◌∷◌}
use Prim.Native.Nat.{ℕ, zero, suc, ◌+◌, ◌*◌, ◌/◌, ◌%◌, ◌≤◌, ◌<◌}
use Rattle.std.proofs.Math.ListN.{get_or, set, get_or-eq_default}
use Rattle.std.proofs.Math.Seq.{set-get_or, set_out, get_or-set_same}
use Rattle.rows.specs.Laws.Records.{listed, rest}
use Rattle.rows.specs.Laws.Rows.{row_within, put_beyond}
use Rattle.rows.specs.Packets.{packets_at, put_packets, with_entry}
use Rattle.rows.specs.Rows.{row_in, put_row}
use Rattle.rows.specs.Step.{step_at, step_of, step_row, put_step, with_next}

set_twice : {A : Type 0} (l : List A) (k : ℕ) (x y : A) → set (set l k x) k y ≡ set l k y
set_twice [] k x y = refl
set_twice (a ∷ rest) zero x y = refl
set_twice (a ∷ rest) (suc k) x y = ap (λ r. a ∷ r) (set_twice rest k x y)

next_row : (row : List ℕ) (n : ℕ) → length row ≡ 16 → set (set row 3 (n / 256)) 4 (n % 256) ≡ step_row (with_next (step_of row) n)
unfolding step_row with_next step_of
next_row row n e = rw (← rest row e 12) (ap (λ r. set (set r 3 (n / 256)) 4 (n % 256)) (sym (listed 16 row e)))

-- an entry past a row's end reads as 0
pub entry_none : (row : List ℕ) (k : ℕ) → length row ≡ 16 → 16 ≤ k → 0 ≡ get_or row k 0
entry_none row k e past = sym (get_or-eq_default row 0 {n = k} (omega arith))

module _ (s : List (List ℕ)) (i : ℕ) where
  -- the two bytes of the next tag
  pub next_put : (n : ℕ) (low : List (List ℕ)) → i * 5 + 1 < length s → length (get_or s (i * 5 + 1) []) ≡ 16
      → low ≡ set s (i * 5 + 1) (set (get_or s (i * 5 + 1) []) 3 (n / 256))
      → set low (i * 5 + 1) (set (get_or low (i * 5 + 1) []) 4 (n % 256)) ≡ put_step s i (with_next (step_at s i) n)
  unfolding put_step put_row step_at
  next_put n low h e el =
      let at : ℕ = i * 5 + 1 in
      let row : List ℕ = get_or s at [] in
      rw (el, get_or-set_same s at (set row 3 (n / 256)) [] h)
      (set_twice s at (set row 3 (n / 256)) (set (set row 3 (n / 256)) 4 (n % 256))
      ∙ ap (λ r. set s at r) (next_row row n e)
      ∙ ap (λ r. set s at (step_row (with_next (step_of r) n))) (row_within s at h))

  pub next_beyond : (n : ℕ) → length s ≤ i * 5 + 1 → s ≡ put_step s i (with_next (step_at s i) n)
  unfolding put_step
  next_beyond n h = put_beyond s (i * 5 + 1) (step_row (with_next (step_at s i) n)) h

  module _ (k entry : ℕ) where
    with_entry_lem : put_packets s i (with_entry (packets_at s i) k entry)
        ≡ set (set s (i * 5 + 3) (set (row_in s (i * 5 + 3)) k entry)) (i * 5 + 4) (row_in s (i * 5 + 4))
    unfolding put_packets put_row with_entry packets_at
    with_entry_lem = refl

    -- the row of the packet that rules is put back as it was
    one_row : put_packets s i (with_entry (packets_at s i) k entry) ≡ set s (i * 5 + 3) (set (row_in s (i * 5 + 3)) k entry)
    unfolding row_in
    one_row =
        let low : List (List ℕ) = set s (i * 5 + 3) (set (row_in s (i * 5 + 3)) k entry) in
        with_entry_lem
        ∙ ap (λ r. set low (i * 5 + 4) r) (sym (get_or-set_other s (i * 5 + 3) (i * 5 + 4) (set (row_in s (i * 5 + 3)) k entry) (replicate 16 0) (omega arith)))
        ∙ set-get_or low (i * 5 + 4) (replicate 16 0)

    pub entry_put : i * 5 + 3 < length s → set s (i * 5 + 3) (set (get_or s (i * 5 + 3) []) k entry) ≡ put_packets s i (with_entry (packets_at s i) k entry)
    entry_put h = ap (λ r. set s (i * 5 + 3) (set r k entry)) (row_within s (i * 5 + 3) h) ∙ sym one_row

    -- an entry past the row's end
    pub entry_past : i * 5 + 3 < length s → length (get_or s (i * 5 + 3) []) ≡ 16 → 16 ≤ k → s ≡ put_packets s i (with_entry (packets_at s i) k entry)
    entry_past h e p =
        let row : List ℕ = get_or s (i * 5 + 3) [] in
        let same : set row k entry ≡ row = set_out row k entry (omega arith) in
        sym (set-get_or s (i * 5 + 3) []) ∙ ap (λ r. set s (i * 5 + 3) r) (sym same) ∙ entry_put h

    pub entry_beyond : length s ≤ i * 5 + 3 → s ≡ put_packets s i (with_entry (packets_at s i) k entry)
    entry_beyond h = sym (one_row ∙ set_out s (i * 5 + 3) (set (row_in s (i * 5 + 3)) k entry) h)
