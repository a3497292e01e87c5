-- Ports, the group and the number of rows after something was put.
use Rattle.std.specs.Prelude.{◌≡◌, ◌≢◌}
use Rattle.std.proofs.Math.Path.{refl, ap}
use Rattle.std.proofs.Common.{◌∙◌, arith}
use mathlib.Core.List.{List, []}
use Prim.Native.Nat.{ℕ, suc, ◌+◌, ◌*◌, ◌/◌, ◌≤◌, ◌<◌}
use Rattle.std.proofs.Math.ListN.{length, get_or}
use Rattle.rows.specs.declared.group.Group.{Group}
use Rattle.rows.specs.Group.{group_at, group_of, group_row, put_group}
use Rattle.rows.specs.Laws.Records.{group_back, step_back, member_back}
use Rattle.rows.specs.Laws.Rows.{row_same, row_other, length_put_row}
use Rattle.rows.specs.Member.{member_at, member_row, put_member}
use Rattle.rows.specs.Packets.{packets_at, put_packets, marks_at, put_marks}
use Rattle.rows.specs.Part.{Part, TheStep, TheMember, ThePackets, TheMarks, put, with, again}
use Rattle.rows.specs.Port.{port_at}
use Rattle.rows.specs.Rows.{row_in, put_row, rows_for}
use Rattle.rows.specs.Step.{step_at, step_row, put_step}

module _ (s : List (List ℕ)) (i : ℕ) where
  pub port_step : (port_at s i).step ≡ step_at s i
  unfolding port_at
  port_step = refl

  pub port_member : (port_at s i).member ≡ member_at s i
  unfolding port_at
  port_member = refl

  pub port_marks : (port_at s i).marks ≡ marks_at s i
  unfolding port_at
  port_marks = refl

-- ports are alike where their rows are
same_port : (s t : List (List ℕ)) (i : ℕ) → ((r : ℕ) → 0 < r → r ≤ 5 → row_in t (i * 5 + r) ≡ row_in s (i * 5 + r)) → port_at t i ≡ port_at s i
unfolding port_at step_at member_at packets_at marks_at
same_port s t i e = rw (e 1 (omega arith) (omega arith), e 2 (omega arith) (omega arith), e 3 (omega arith) (omega arith), e 4 (omega arith) (omega arith), e 5 (omega arith) (omega arith))

-- The group's row.
module _ (s : List (List ℕ)) (g : Group) where
  pub length_put_group : length (put_group s g) ≡ length s
  unfolding put_group
  length_put_group = length_put_row s 0 (group_row g)

  pub group_put_same : (n : ℕ) → rows_for n ≤ length s → group_at (put_group s g) ≡ g
  unfolding group_at put_group
  group_put_same n h = ap group_of (row_same s 0 (group_row g) (omega arith)) ∙ group_back g

  pub port_put_group : (j : ℕ) → port_at (put_group s g) j ≡ port_at s j
  unfolding put_group
  port_put_group j = same_port s (put_row s 0 (group_row g)) j (λ r p h. row_other s 0 (group_row g) (j * 5 + r) (omega arith))

-- A part of a port: whatever it is, this changes no other part of that port, no other port and not the group.
module _ (s : List (List ℕ)) (i : ℕ) where
  pub length_put : (x : Part) → length (put s i x) ≡ length s
  unfolding put_step put_member put_packets put_marks
  length_put (TheStep q) = length_put_row s (i * 5 + 1) (step_row q)
  length_put (TheMember m) = length_put_row s (i * 5 + 2) (member_row m)
  length_put (ThePackets pair) = length_put_row (put_row s (i * 5 + 3) (get_or pair 0 [])) (i * 5 + 4) (get_or pair 1 []) ∙ length_put_row s (i * 5 + 3) (get_or pair 0 [])
  length_put (TheMarks row) = length_put_row s (i * 5 + 5) row

  -- the port's five rows are the k with (k + 4) / 5 = i + 1
  outside : (x : Part) (k : ℕ) → (k + 4) / 5 ≢ suc i → row_in (put s i x) k ≡ row_in s k
  unfolding put_step put_member put_packets put_marks
  outside (TheStep q) k d = row_other s (i * 5 + 1) (step_row q) k (omega arith)
  outside (TheMember m) k d = row_other s (i * 5 + 2) (member_row m) k (omega arith)
  outside (ThePackets pair) k d =
      row_other (put_row s (i * 5 + 3) (get_or pair 0 [])) (i * 5 + 4) (get_or pair 1 []) k (omega arith) ∙ row_other s (i * 5 + 3) (get_or pair 0 []) k (omega arith)
  outside (TheMarks row) k d = row_other s (i * 5 + 5) row k (omega arith)

  pub group_put : (x : Part) → group_at (put s i x) ≡ group_at s
  unfolding group_at
  group_put x = ap group_of (outside x 0 (omega arith))

  pub port_put_other : (x : Part) (j : ℕ) → j ≢ i → port_at (put s i x) j ≡ port_at s j
  port_put_other x j d = same_port s (put s i x) j (λ r p h. outside x (j * 5 + r) (omega arith))

  kept : (t : List (List ℕ)) (a : ℕ) (row : List ℕ) (r : ℕ) → r ≢ a → row_in (put_row t (i * 5 + a) row) (i * 5 + r) ≡ row_in t (i * 5 + r)
  kept t a row r d = row_other t (i * 5 + a) row (i * 5 + r) (omega arith)

  -- whether the rows are there or not
  pub port_put_part : (x : Part) → port_at (put s i x) i ≡ with (port_at s i) (again (put s i x) i x)
  unfolding port_at step_at member_at packets_at marks_at put_step put_member put_packets put_marks
  port_put_part (TheStep q) = rw (kept s 1 (step_row q) 2 (omega arith), kept s 1 (step_row q) 3 (omega arith), kept s 1 (step_row q) 4 (omega arith), kept s 1 (step_row q) 5 (omega arith))
  port_put_part (TheMember m) = rw (kept s 2 (member_row m) 1 (omega arith), kept s 2 (member_row m) 3 (omega arith), kept s 2 (member_row m) 4 (omega arith), kept s 2 (member_row m) 5 (omega arith))
  port_put_part (ThePackets pair) =
      let a : List ℕ = get_or pair 0 [] in
      let b : List ℕ = get_or pair 1 [] in
      let low : List (List ℕ) = put_row s (i * 5 + 3) a in
      let after : (r : ℕ) → r ≢ 3 → r ≢ 4 → row_in (put_row low (i * 5 + 4) b) (i * 5 + r) ≡ row_in s (i * 5 + r) = λ r d e. kept low 4 b r e ∙ kept s 3 a r d in
      rw (after 1 (omega arith) (omega arith), after 2 (omega arith) (omega arith), after 5 (omega arith) (omega arith))
  port_put_part (TheMarks row) = rw (kept s 5 row 1 (omega arith), kept s 5 row 2 (omega arith), kept s 5 row 3 (omega arith), kept s 5 row 4 (omega arith))

  read_back : (x : Part) (n : ℕ) → i < n → rows_for n ≤ length s → with (port_at s i) (again (put s i x) i x) ≡ with (port_at s i) x
  unfolding step_at member_at packets_at marks_at put_step put_member put_packets put_marks
  read_back (TheStep q) n b h = rw (row_same s (i * 5 + 1) (step_row q) (omega arith), step_back q)
  read_back (TheMember m) n b h = rw (row_same s (i * 5 + 2) (member_row m) (omega arith), member_back m)
  read_back (ThePackets pair) n b h =
      let low : List (List ℕ) = put_row s (i * 5 + 3) (get_or pair 0 []) in
      let e : length low ≡ length s = length_put_row s (i * 5 + 3) (get_or pair 0 []) in
      rw (
        kept low 4 (get_or pair 1 []) 3 (omega arith) ∙ row_same s (i * 5 + 3) (get_or pair 0 []) (omega arith),
        row_same low (i * 5 + 4) (get_or pair 1 []) (omega arith),
      )
  read_back (TheMarks row) n b h = rw (row_same s (i * 5 + 5) row (omega arith))

  -- and that part is what was put, if they are there
  pub port_put : (x : Part) (n : ℕ) → i < n → rows_for n ≤ length s → port_at (put s i x) i ≡ with (port_at s i) x
  port_put x n b h = port_put_part x ∙ read_back x n b h
