-- What is heard, and what receiving begun anew leaves, by what the parts of the code leave.
use mathlib.Core.Path.{◌≡◌, refl, sym, ap, ◌∙◌}
use mathlib.Core.Bool.{Bool, true, false, ◌&&◌}
use mathlib.Core.List.{List}
use Prim.Native.Nat.{ℕ, ◌+◌}
use native.Mathlib.Numerals.{add-one}
use native.Mathlib.Omega.{arith}
use lib.ListN.{length}
use Rattle.ground.specs.Counting.Words.{some}
use Rattle.phases.specs.Settling.{settled_of}
use Rattle.phases.specs.Sizes.{ports_in}
use Rattle.judge.specs.declared.seen.Seen.{Seen}
use Rattle.receiver.specs.Anew.{anew_answer, anew_fits, anew_rows}
use Rattle.receiver.specs.Frame.{settled_by}
use Rattle.receiver.specs.Heard.{good_at}
use Rattle.receiver.specs.Laws.Anew.{anew_fits_lem, flagged_rows_lem, flagged_port, flagged_ports}
use Rattle.receiver.specs.Report.{seen_of}
use Rattle.rows.specs.declared.group.Group.{Group}
use Rattle.rows.specs.declared.step.Step.{Step}
use Rattle.rows.specs.Group.{group_at}
use Rattle.rows.specs.Step.{put_step, step_at}
use Rattle.step.specs.declared.arrival.Taken.{Taken}
use Rattle.step.specs.Arrival.{taken_of}
use Rattle.receiver.proofs.Arriving.{flagged_step_lem}

pub good_is : (g : Group) (s : List (List ℕ)) (i : ℕ) (one : Seen) → one ≡ seen_of g s i → (one.whole && one.good) ≡ good_at g s i
good_is g s i one e = rw e refl

pub none_more : (f : ℕ → Bool) (i : ℕ) → some i f ≡ false → f i ≡ false → some (i + 1) f ≡ false
none_more f i e h = rw (add-one, e, h) refl

module _ (s : List (List ℕ)) (g : Group) (n : ℕ) (fit : Bool) (eg : g ≡ group_at s) (en : n ≡ ports_in g) (store : List ℕ)
    (ef : fit ≡ anew_fits g n (length s) (length store)) where
  same_anew : fit ≡ anew_fits (group_at s) (ports_in (group_at s)) (length s) (length store)
  same_anew = ef ∙ rw (en, eg) refl

  pub anew_done : (left : List (List ℕ)) → fit ≡ true → left ≡ flagged_ports store n s → (0 ≡ anew_answer s (length store)) × (left ≡ anew_rows s store)
  unfolding anew_answer anew_rows
  anew_done left e el =
      let o = anew_fits_lem s store (sym same_anew ∙ e) in
      rw (← same_anew, e) (refl, el ∙ rw (en, eg) (sym (flagged_rows_lem s store o (ports_in (group_at s)) (omega arith))))

-- what follows for all ports, and nothing
pub settled_some : (settles : Bool) (g : Group) (n : ℕ) (store : List ℕ) (a b : List (List ℕ)) → settles ≡ true → n ≡ ports_in g → b ≡ settled_of n store a → b ≡ settled_by settles (ports_in g) store a
unfolding settled_by
settled_some settles g n store a b e en eb = rw (e, ← en) eb

pub settled_none : (settles : Bool) (g : Group) (store : List ℕ) (a : List (List ℕ)) → settles ≡ false → a ≡ settled_by settles (ports_in g) store a
unfolding settled_by
settled_none settles g store a e = rw e refl

pub flagged_by : (store : List ℕ) (i : ℕ) (s : List (List ℕ)) (g : Group) (q : Step) (t : Taken) (a b : List (List ℕ)) → g ≡ group_at s → q ≡ step_at s i → t ≡ taken_of g q true false 0
    → a ≡ put_step s i t.step → b ≡ settled_by t.settles (ports_in g) store a → b ≡ flagged_port store i s
unfolding flagged_port
flagged_by store i s g q t a b eg eq et ea eb =
    eb
    ∙ rw (ea, et, eq, eg)
    (ap (λ (rows : List (List ℕ)). settled_by (taken_of (group_at s) (step_at s i) true false 0).settles (ports_in (group_at s)) store rows)
    (sym (flagged_step_lem (group_at s).kind s i (group_at s) (step_at s i))))
