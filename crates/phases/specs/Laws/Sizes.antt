-- Stopping, beginning and gathering leave a group's sizes.
use Rattle.std.specs.Prelude.{◌≡◌, ◌&&◌, List, ℕ, ◌<◌, length}
use Rattle.std.proofs.Math.Path.{refl}
use Rattle.std.proofs.Common.{◌∙◌}
use Rattle.std.proofs.Math.Bool.{not}
use Rattle.ground.specs.Truth.{cond_by}
use Rattle.phases.specs.Beginning.{begins}
use Rattle.phases.specs.Due.{brought, silent}
use Rattle.phases.specs.Laws.Cleared.{begun_group, stopped_group}
use Rattle.phases.specs.Laws.Lengths.{length_begin, length_stop}
use Rattle.phases.specs.Laws.Passed.{passed_group_lem}
use Rattle.phases.specs.Passing.{passed_group, passed_of}
use Rattle.phases.specs.Settling.{begin_by, begun_of, gather_by, settled_of, stop_by, stopped_of}
use Rattle.rows.specs.declared.group.Group.{Group}
use Rattle.rows.specs.Group.{group_at}
use Rattle.step.specs.Arrival.{flag_of}

pub record SameSizes (g h : Group) : Type 0 where
  pub kind : g.kind ≡ h.kind
  pub count : g.count ≡ h.count
  pub payload : g.payload ≡ h.payload
  pub window : g.window ≡ h.window

pub sizes_then : (f g h : Group) → SameSizes f g → SameSizes g h → SameSizes f h
sizes_then f g h a b = record { kind = a.kind ∙ b.kind; count = a.count ∙ b.count; payload = a.payload ∙ b.payload; window = a.window ∙ b.window }

pub sizes_stay : (g : Group) → SameSizes g g
sizes_stay g = record { kind = refl; count = refl; payload = refl; window = refl }

passed_sizes : (g : Group) → SameSizes (passed_group g) g
unfolding passed_group
passed_sizes g = record { kind = refl; count = refl; payload = refl; window = refl }

module _ (n : ℕ) (s : List (List ℕ)) (h : 0 < length s) where
  stop_sizes : SameSizes (group_at (stop_by (group_at s) n s)) (group_at s)
  unfolding stop_by
  stop_sizes =
      cond_by (λ t. SameSizes (group_at t) (group_at s)) (flag_of (group_at s).begun && silent (group_at s) s n) (stopped_of (group_at s) n s) s
      (λ e. rw (stopped_group (group_at s) n s h) (record { kind = refl; count = refl; payload = refl; window = refl }))
      (λ e. sizes_stay (group_at s))

  begin_sizes : SameSizes (group_at (begin_by (group_at s) n s)) (group_at s)
  unfolding begin_by
  begin_sizes =
      cond_by (λ t. SameSizes (group_at t) (group_at s)) (not (flag_of (group_at s).begun) && begins (group_at s) s n) (begun_of (group_at s) n s) s
      (λ e. rw (begun_group (group_at s) n s h) (record { kind = refl; count = refl; payload = refl; window = refl }))
      (λ e. sizes_stay (group_at s))

  gather_sizes : (store : List ℕ) → SameSizes (group_at (gather_by (group_at s) store n s)) (group_at s)
  unfolding gather_by
  gather_sizes store =
      cond_by (λ t. SameSizes (group_at t) (group_at s)) (flag_of (group_at s).begun && not (flag_of (group_at s).gathered) && brought (group_at s) s n) (passed_of (group_at s) store n s) s
      (λ e. rw (passed_group_lem (group_at s) store n s h) (passed_sizes (group_at s)))
      (λ e. sizes_stay (group_at s))

pub settled_sizes : (n : ℕ) (store : List ℕ) (s : List (List ℕ)) → 0 < length s → SameSizes (group_at (settled_of n store s)) (group_at s)
unfolding settled_of
settled_sizes n store s h =
    let a = stop_by (group_at s) n s in
    let la : length a ≡ length s = length_stop (group_at s) n s in
    let b = begin_by (group_at a) n a in
    let lb : length b ≡ length s = length_begin (group_at a) n a ∙ la in
    sizes_then (group_at (gather_by (group_at b) store n b)) (group_at b) (group_at s) (gather_sizes n b (rw lb h) store)
    (sizes_then (group_at b) (group_at a) (group_at s) (begin_sizes n a (rw la h)) (stop_sizes n s h))
