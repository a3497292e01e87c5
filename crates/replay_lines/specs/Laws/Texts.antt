-- The first line of a text, what is behind it, and more text behind that.
use Rattle.std.specs.Prelude.{◌≡◌, ℕ, suc, ◌+◌, ◌<◌, ◌≤◌, Bool, true, false, List, [], ◌∷◌, ◌++◌, length, take, ◌==◌, nat_lt, refl}
use Rattle.std.proofs.Common.{sym, ap, ◌∙◌, append_assoc, le_of_suc-le-suc, not-suc-le-zero, arith, length-append, take-append-drop, drop_of_length-le, take_all, ltb-false, ltb-true}
use Rattle.std.proofs.Math.Seq.{drop-append-add}
use Rattle.std.proofs.lemmas.List.{drop-append-le}
use Rattle.ground.specs.Finding.{index_after, index_of}
use Rattle.replay_lines.specs.Coming.{behind_of}
use Rattle.text.specs.Laws.Lines.{Free, free_append, free_line, free_take, last_line, with_end_lem}
use Rattle.text.specs.Text.{LINE-END, lines_of}

abbrev pub first_of : List ℕ → List ℕ
first_of t = take (index_of LINE-END t) t

pub split_first : (t : List ℕ) → index_of LINE-END t < length t → t ≡ first_of t ++ (LINE-END ∷ behind_of t)
split_first t h =
    sym (take-append-drop (index_of LINE-END t + 1) t) ∙ rw (with_end_lem t h, append_assoc)

pub lines_first : (t more : List ℕ) → index_of LINE-END t < length t → lines_of (t ++ more) ≡ first_of t ∷ lines_of (behind_of t ++ more)
lines_first t more h =
    let e : t ++ more ≡ first_of t ++ (LINE-END ∷ (behind_of t ++ more)) = ap (λ (x : List ℕ). x ++ more) (split_first t h) ∙ append_assoc (first_of t) (LINE-END ∷ behind_of t) more in
    rw e (free_line (first_of t) (behind_of t ++ more) (free_take t))

-- a text with no line end
pub free_all : (t : List ℕ) → length t ≤ index_of LINE-END t → Free t
free_all t h = rw (take_all (index_of LINE-END t) t h) at (free_take t)

pub free_index : (t more : List ℕ) → Free t → index_of LINE-END (t ++ more) ≡ length t + index_of LINE-END more
unfolding index_of index_after
free_index [] more f = omega arith
free_index (b ∷ t) more f = rw f.0 (let e = free_index t more f.1 in omega arith)

pub free_behind : (t more : List ℕ) → Free t → behind_of (t ++ more) ≡ behind_of more
free_behind t more f =
    let e : length t + index_of LINE-END more + 1 ≡ length t + (index_of LINE-END more + 1) = omega arith in
    rw (free_index t more f, e) (drop-append-add t more (index_of LINE-END more + 1))

-- more text behind a line end changes nothing before it
pub index_append : (t more : List ℕ) → index_of LINE-END t < length t → index_of LINE-END (t ++ more) ≡ index_of LINE-END t
unfolding index_of index_after
index_append [] more h = absurd (not-suc-le-zero h)
index_append (b ∷ t) more h = go (b == LINE-END) refl (index_append t more)
  where
    go : (x : Bool) → (b == LINE-END) ≡ x → (index_of LINE-END t < length t → index_of LINE-END (t ++ more) ≡ index_of LINE-END t)
        → index_after x (index_of LINE-END (t ++ more)) ≡ index_after x (index_of LINE-END t)
    go true e rest = refl
    go false e rest = ap suc (rest (le_of_suc-le-suc (rw e at h)))

pub behind_append : (t more : List ℕ) → index_of LINE-END t < length t → behind_of (t ++ more) ≡ behind_of t ++ more
behind_append t more h = rw (index_append t more h) (drop-append-le (index_of LINE-END t + 1) t more (omega arith))

pub behind_none : (t : List ℕ) → length t ≤ index_of LINE-END t → behind_of t ≡ []
behind_none t h = drop_of_length-le t {i = index_of LINE-END t + 1} (omega arith)

-- a line that has begun with a text goes on in what follows
pub record GoesOn (t more : List ℕ) : Type 0 where
  pub line : List ℕ
  pub lines : lines_of (t ++ more) ≡ line ∷ lines_of (behind_of more)
  pub long : length t ≤ length line

pub goes_on_lem : (t more : List ℕ) → Free t → 0 < length t → GoesOn t more
unfolding lines_of
goes_on_lem t more f h = go (nat_lt (index_of LINE-END more) (length more)) refl
  where
    go : (b : Bool) → nat_lt (index_of LINE-END more) (length more) ≡ b → GoesOn t more
    go true e =
        let k = ltb-true (index_of LINE-END more) (length more) e in
        let s : t ++ more ≡ (t ++ first_of more) ++ (LINE-END ∷ behind_of more) = ap (λ (x : List ℕ). t ++ x) (split_first more k) ∙ sym (append_assoc t (first_of more) (LINE-END ∷ behind_of more)) in
        let n = length-append t (first_of more) in
        record { line = t ++ first_of more; lines = rw s (free_line (t ++ first_of more) (behind_of more) (free_append t (first_of more) f (free_take more))); long = omega arith }
    go false e =
        let k = ltb-false (index_of LINE-END more) (length more) e in
        let n = length-append t more in
        record { line = t ++ more; lines = rw (behind_none more k) (whole t (free_append t more f (free_all more k)) h); long = omega arith }
      where
        whole : (t : List ℕ) → Free (t ++ more) → 0 < length t → lines_of (t ++ more) ≡ (t ++ more) ∷ lines_of []
        whole [] g h = absurd (not-suc-le-zero h)
        whole (b ∷ t) g h = last_line b (t ++ more) g

-- the last line lacks its end
pub lines_last : (t : List ℕ) → Free t → 0 < length t → lines_of t ≡ t ∷ []
lines_last [] f h = absurd (not-suc-le-zero h)
lines_last (b ∷ t) f h = last_line b t f

pub no_lines : lines_of [] ≡ []
unfolding lines_of
no_lines = refl
