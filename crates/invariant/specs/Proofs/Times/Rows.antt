-- Two states of the rows that are the same but for times and what comes of times: in the row of a member its state, the number of that state, the two times and the counter.
use Rattle.std.specs.Prelude.{◌≡◌, ◌≢◌, Bool, true, false, cond, List, [], ℕ, ◌+◌, ◌*◌, ◌%◌, ◌≤◌, ◌<◌, get_or, length}
use Rattle.std.proofs.Math.Path.{refl, ap}
use Rattle.std.proofs.Common.{sym, ◌∙◌, ⊎_elim, arith}
use Rattle.ground.specs.Truth.{eq_or_ne, le_or_lt}
use Rattle.rows.specs.declared.group.Group.{Group}
use Rattle.rows.specs.declared.member.Member.{Member}
use Rattle.rows.specs.declared.step.Step.{Step}
use Rattle.rows.specs.Group.{group_at, group_of, group_row, put_group}
use Rattle.rows.specs.Laws.Records.{member_back}
use Rattle.rows.specs.Laws.Rows.{length_put_row, put_beyond, row_other, row_same}
use Rattle.rows.specs.Member.{member_at, member_of, member_row, put_member}
use Rattle.rows.specs.Packets.{marks_at, packets_at, put_marks, put_packets}
use Rattle.rows.specs.Rows.{put_row, row_in}
use Rattle.rows.specs.Step.{put_step, step_at, step_of, step_row}

-- a member without them
abbrev pub untimed : Member → Member
untimed m =
    record {
      spare = m.spare;
      word = m.word;
      number = m.number;
      state = 0;
      state_number = 0;
      told_word = m.told_word;
      told_number = m.told_number;
      hold_off = 0;
      restore = 0;
      elapsed = 0;
    }

-- row k of both: the second row of a port is its member's
pub record SameRow (k : ℕ) (a b : List ℕ) : Type 0 where
  pub other : k % 5 ≢ 2 → a ≡ b
  pub member : untimed (member_of a) ≡ untimed (member_of b)

pub record SameButTimes (s t : List (List ℕ)) : Type 0 where
  pub long : length s ≡ length t
  pub row : (k : ℕ) → SameRow k (row_in s k) (row_in t k)

pub alike : (k : ℕ) (a : List ℕ) → SameRow k a a
alike k a = record { other = λ d. refl; member = refl }

pub cond_same : (b : Bool) {s t u v : List (List ℕ)} → SameButTimes s t → SameButTimes u v → SameButTimes (cond b s u) (cond b t v)
cond_same true h k = h
cond_same false h k = k

-- What is read is the same.
module _ {s t : List (List ℕ)} (h : SameButTimes s t) where
  pub group_same : group_at s ≡ group_at t
  unfolding group_at
  group_same = ap group_of ((h.row 0).other (omega arith))

  pub step_same : (i : ℕ) → step_at s i ≡ step_at t i
  unfolding step_at
  step_same i = ap step_of ((h.row (i * 5 + 1)).other (omega arith))

  pub member_same : (i : ℕ) → untimed (member_at s i) ≡ untimed (member_at t i)
  unfolding member_at
  member_same i = (h.row (i * 5 + 2)).member

  pub packets_same : (i : ℕ) → packets_at s i ≡ packets_at t i
  unfolding packets_at
  packets_same i = rw ((h.row (i * 5 + 3)).other (omega arith), (h.row (i * 5 + 4)).other (omega arith)) refl

  pub marks_same : (i : ℕ) → marks_at s i ≡ marks_at t i
  unfolding marks_at
  marks_same i = (h.row (i * 5 + 5)).other (omega arith)

  -- What is put keeps it so.
  module _ (k : ℕ) (a b : List ℕ) (r : SameRow k a b) where
    put_here : SameRow k (row_in (put_row s k a) k) (row_in (put_row t k b) k)
    put_here =
        ⊎_elim
        (λ (o : length s ≤ k). rw (sym (put_beyond s k a o), sym (put_beyond t k b (rw h.long at o))) (h.row k))
        (λ (l : k < length s). rw (row_same s k a l, row_same t k b (rw h.long at l)) r)
        (le_or_lt (length s) k)

    put_row_lem : (j : ℕ) → SameRow j (row_in (put_row s k a) j) (row_in (put_row t k b) j)
    put_row_lem j =
        ⊎_elim
        (λ (e : j ≡ k). rw e put_here)
        (λ (d : j ≢ k). rw (row_other s k a j d, row_other t k b j d) (h.row j))
        (eq_or_ne j k)

    pub put_same : SameButTimes (put_row s k a) (put_row t k b)
    put_same = record { long = length_put_row s k a ∙ h.long ∙ sym (length_put_row t k b); row = put_row_lem }

  pub put_group_lem : (g : Group) → SameButTimes (put_group s g) (put_group t g)
  unfolding put_group
  put_group_lem g = put_same 0 (group_row g) (group_row g) (alike 0 (group_row g))

  pub put_step_lem : (i : ℕ) (q : Step) → SameButTimes (put_step s i q) (put_step t i q)
  unfolding put_step
  put_step_lem i q = put_same (i * 5 + 1) (step_row q) (step_row q) (alike (i * 5 + 1) (step_row q))

  pub put_marks_lem : (i : ℕ) (row : List ℕ) → SameButTimes (put_marks s i row) (put_marks t i row)
  unfolding put_marks
  put_marks_lem i row = put_same (i * 5 + 5) row row (alike (i * 5 + 5) row)

  pub put_member_lem : (i : ℕ) (m q : Member) → untimed m ≡ untimed q → SameButTimes (put_member s i m) (put_member t i q)
  unfolding put_member
  put_member_lem i m q e =
      put_same (i * 5 + 2) (member_row m) (member_row q)
      (record { other = λ d. absurd (d (omega arith)); member = rw (member_back m, member_back q) e })

pub put_packets_lem : {s t : List (List ℕ)} → SameButTimes s t → (i : ℕ) (pair : List (List ℕ)) → SameButTimes (put_packets s i pair) (put_packets t i pair)
unfolding put_packets
put_packets_lem h i pair =
    put_same (put_same h (i * 5 + 3) (get_or pair 0 []) (get_or pair 0 []) (alike (i * 5 + 3) (get_or pair 0 []))) (i * 5 + 4) (get_or pair 1 []) (get_or pair 1 []) (alike (i * 5 + 4) (get_or pair 1 []))
