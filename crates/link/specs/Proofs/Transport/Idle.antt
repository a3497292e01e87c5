-- Fetches that find none due: before the beginning, and while the first epoch is gathered.
use Rattle.std.specs.Prelude.{◌≡◌, refl, false, not, ◌&&◌, List, ℕ, eqb, ltb, get_or}
use Rattle.std.proofs.Math.Bool.{and-false}
use Rattle.std.proofs.Common.{eq-eqb}
use Rattle.receiver.specs.Fetch.{due_in}
use Rattle.rows.specs.declared.group.Group.{Group}
use Rattle.rows.specs.Group.{group_at}
use Rattle.link.specs.Road.{Road}
use Rattle.link.specs.Proofs.Fair.{Fair}
use Rattle.link.specs.Running.{Moment, record_at}
use Rattle.link.specs.Proofs.Standing.{Before, First}
use Rattle.link.specs.Proofs.Transport.Fetches.{mark_none}

not_begun : (g : Group) (n : ℕ) (s : List (List ℕ)) → g.begun ≡ 0 → due_in g n s ≡ false
unfolding due_in
not_begun g n s e = rw (eq-eqb g.begun 0 e, and-false (ltb 0 n)) refl

not_gathered : (g : Group) (n : ℕ) (s : List (List ℕ)) → g.gathered ≡ 0 → due_in g n s ≡ false
unfolding due_in
not_gathered g n s e = rw (eq-eqb g.gathered 0 e, and-false (ltb 0 n && not (eqb g.begun 0))) refl

module _ (r : Road) (f : Fair r) where
  pub before_none : (m : Moment) (coming : ℕ → ℕ) → Before r m coming → get_or (record_at r m) 0 0 ≡ 0
  before_none m coming b = mark_none r f m b.lined (not_begun (group_at m.rows) r.ports m.rows b.begun)

  pub first_none : (m : Moment) (i : ℕ) (coming : ℕ → ℕ) → First r m coming i → get_or (record_at r m) 0 0 ≡ 0
  first_none m i coming b = mark_none r f m b.open_at.lined (not_gathered (group_at m.rows) r.ports m.rows b.gathered)
