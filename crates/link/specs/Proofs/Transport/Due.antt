-- When the oldest epoch of an open window is due: when no port owes a frame of it.
use Rattle.std.specs.Prelude.{◌≡◌, ◌⊎◌, Bool, false, ℕ, ◌+◌, ◌*◌, ◌≤◌, ◌<◌}
use Rattle.std.proofs.Math.Path.{refl}
use Rattle.std.proofs.Common.{◌∙◌, inl, inr, arith, le-leb, leb-false, leb-true}
use Rattle.std.proofs.Math.Bool.{true, and-false, or-false}
use Rattle.std.proofs.Math.Dec.{leb}
use Rattle.std.proofs.lemmas.Bool.{lt-leb}
use Rattle.ground.specs.Counting.Laws.Tests.{every_all, every_at, every_ext, every_fails, every_lacks}
use Rattle.ground.specs.Counting.Words.{every}
use Rattle.ground.specs.Truth.{or_right}
use Rattle.phases.specs.Due.{brought, owes_nothing, silent}
use Rattle.rows.specs.Group.{group_at}
use Rattle.rows.specs.Packets.{marks_at}
use Rattle.rows.specs.Step.{step_at}
use Rattle.step.specs.Arrival.{flag_of, in_step, readable}
use Rattle.store.specs.Laws.Marks.{first_mark_lem}
use Rattle.store.specs.Marks.{first_mark}
use Rattle.link.specs.Road.{L, Road}
use Rattle.link.specs.Proofs.Fair.{Fair, sizes_in}
use Rattle.link.specs.Running.{Moment}
use Rattle.link.specs.Proofs.Standing.{Open, Owes}

-- no port owes a frame of epoch i
abbrev pub AllCome : (r : Road) (coming : ℕ → ℕ) (i : ℕ) → Type 0
AllCome r coming i = (p : ℕ) → p < r.ports → i * L r + L r ≤ coming p

pub owes_or_come : (r : Road) (coming : ℕ → ℕ) (i : ℕ) → Owes r coming i ⊎ AllCome r coming i
owes_or_come r coming i = go (every r.ports (λ p. leb (i * L r + L r) (coming p))) refl
  where
    go : (b : Bool) → every r.ports (λ p. leb (i * L r + L r) (coming p)) ≡ b → Owes r coming i ⊎ AllCome r coming i
    go true e = inr (λ p b. leb-true (i * L r + L r) (coming p) (every_at r.ports (λ q. leb (i * L r + L r) (coming q)) e p b))
    go false e =
        let o = every_lacks r.ports (λ p. leb (i * L r + L r) (coming p)) e in
        inl (record { port = o.at; below = o.below; owes = leb-false (i * L r + L r) (coming o.at) o.fails })

module _ (r : Road) (fair : Fair r) (m : Moment) (coming : ℕ → ℕ) (i : ℕ) (o : Open r m coming i) where
  pub all_read : (p : ℕ) → p < r.ports → readable (group_at m.rows) (step_at m.rows p) ≡ true
  unfolding readable in_step
  all_read p b =
      rw (o.begun, o.lined.kind_is, (o.stepped p b).count, o.ever_since p b)
      (or_right (flag_of (step_at m.rows p).joined) true refl)

  first_come : (p : ℕ) → p < r.ports → first_mark (marks_at m.rows p) ≡ leb (i * L r + L r) (coming p)
  first_come p b =
      let e : i * L r + (0 + 1) * L r ≡ i * L r + L r = omega arith in
      first_mark_lem (marks_at m.rows p) ∙ o.marks p 0 b (omega arith) ∙ rw e refl

  pub first_all : AllCome r coming i → (p : ℕ) → p < r.ports → first_mark (marks_at m.rows p) ≡ true
  first_all all p b = first_come p b ∙ le-leb (i * L r + L r) (coming p) (all p b)

  owes_is : (p : ℕ) → p < r.ports → owes_nothing (group_at m.rows) (step_at m.rows p) (marks_at m.rows p) ≡ leb (i * L r + L r) (coming p)
  unfolding owes_nothing
  owes_is p b =
      rw (all_read p b, o.joined_at p b, first_come p b, and-false (flag_of (step_at m.rows p).joined), or-false (leb (i * L r + L r) (coming p))) refl

  brought_is : brought (group_at m.rows) m.rows r.ports ≡ every r.ports (λ p. leb (i * L r + L r) (coming p))
  unfolding brought
  brought_is =
      every_ext r.ports (λ p. owes_nothing (group_at m.rows) (step_at m.rows p) (marks_at m.rows p)) (λ p. leb (i * L r + L r) (coming p)) owes_is

  pub brought_not : Owes r coming i → brought (group_at m.rows) m.rows r.ports ≡ false
  brought_not w =
      brought_is ∙ every_fails r.ports (λ p. leb (i * L r + L r) (coming p)) w.port w.below (lt-leb (i * L r + L r) (coming w.port) w.owes)

  pub brought_all : AllCome r coming i → brought (group_at m.rows) m.rows r.ports ≡ true
  brought_all all =
      brought_is ∙ every_all r.ports (λ p. leb (i * L r + L r) (coming p)) (λ p b. le-leb (i * L r + L r) (coming p) (all p b))

  pub not_silent : silent (group_at m.rows) m.rows r.ports ≡ false
  unfolding silent
  not_silent =
      let s = sizes_in r fair in
      every_fails r.ports _ 0 s.some_ports (rw (all_read 0 s.some_ports) refl)
