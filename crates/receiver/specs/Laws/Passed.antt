-- What passing the oldest epoch leaves of the group's record and of a port's step, and what clearing leaves of a step, field by field.
use Rattle.std.specs.Prelude.{◌≡◌, Bool, cond, ◌+◌, ◌-◌, ◌%◌, ◌<◌}
use Rattle.std.proofs.Math.Path.{refl}
use Rattle.std.proofs.Common.{mod-lt}
use Rattle.packet.specs.Kinds.{epoch_after, frames}
use Rattle.phases.specs.Passing.{passed_group, passed_step}
use Rattle.phases.specs.Settling.{cleared_step}
use Rattle.rows.specs.declared.group.Group.{Group}
use Rattle.rows.specs.declared.step.Step.{Step}
use Rattle.store.specs.Laws.Places.{ring_is}

module _ (g : Group) where
  pub passed_kind : (passed_group g).kind ≡ g.kind
  unfolding passed_group
  passed_kind = refl

  pub passed_count : (passed_group g).count ≡ g.count
  unfolding passed_group
  passed_count = refl

  pub passed_payload : (passed_group g).payload ≡ g.payload
  unfolding passed_group
  passed_payload = refl

  pub passed_window : (passed_group g).window ≡ g.window
  unfolding passed_group
  passed_window = refl

  pub passed_gathered : (passed_group g).gathered ≡ 1
  unfolding passed_group
  passed_gathered = refl

  pub passed_oldest : (passed_group g).oldest ≡ epoch_after g.kind g.oldest
  unfolding passed_group
  passed_oldest = refl

  pub passed_ack : (passed_group g).rs_ack ≡ g.rs_ack
  unfolding passed_group
  passed_ack = refl

  pub passed_origin : 0 < g.window → (passed_group g).origin ≡ (g.origin + frames g.kind) % g.window
  unfolding passed_group
  passed_origin w = ring_is g.origin (frames g.kind) g.window w

  pub origin_within : 0 < g.window → (passed_group g).origin < g.window
  origin_within w = rw (passed_origin w) (mod-lt (g.origin + frames g.kind) w)

module _ (s : Step) (whole : Bool) where
  pub step_joined : (passed_step s whole).joined ≡ s.joined
  unfolding passed_step
  step_joined = refl

  pub step_since : (passed_step s whole).ever_since ≡ s.ever_since
  unfolding passed_step
  step_since = refl

  pub step_later : (passed_step s whole).joined_at ≡ s.joined_at - 1
  unfolding passed_step
  step_later = refl

  pub step_whole : (passed_step s whole).whole ≡ cond whole 1 0
  unfolding passed_step
  step_whole = refl

module _ (s : Step) (since : Bool) where
  pub cleared_joined : (cleared_step s since).joined ≡ 0
  unfolding cleared_step
  cleared_joined = refl

  pub cleared_whole : (cleared_step s since).whole ≡ 0
  unfolding cleared_step
  cleared_whole = refl
