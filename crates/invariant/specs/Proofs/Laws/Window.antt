-- Frames of the window by their distance from its first (01, 'Window').
use Rattle.std.specs.Prelude.{◌≡◌, true, ℕ, ◌+◌, ◌%◌, ◌≤◌, ◌<◌}
use Rattle.packet.specs.Kinds.{distance_of, epoch_after, first_tag, frames, starts_epoch, tag_after, tags}
use Rattle.packet.specs.Laws.Distances.{ahead_nearer, at_start_lem, distance_leads, distance_nearer, distance_on, first_on, no_distance, start_multiple}
use Rattle.rows.specs.declared.group.Group.{Group}
use Rattle.step.specs.Arrival.{distance_in}
use Rattle.invariant.specs.Claims.{tag_in}

module _ (g : Group) (t : ℕ) where
  abbrev base : ℕ
  base = first_tag g.kind g.oldest

  -- the tag after it lies one further on
  pub distance_next : distance_in g t + 1 < tags g.kind → distance_in g (tag_after g.kind t) ≡ distance_in g t + 1
  unfolding distance_in
  distance_next h = distance_on g.kind t base h

  -- and the window's first frame one frame nearer, if it lay ahead
  pub short_next : 0 < distance_of g.kind base t → distance_of g.kind base (tag_after g.kind t) + 1 ≡ distance_of g.kind base t
  short_next h = ahead_nearer g.kind base t h

  -- a tag that starts an epoch lies a number of epochs after it
  pub start_place : starts_epoch g.kind t ≡ true → distance_in g t % frames g.kind ≡ 0
  unfolding distance_in
  start_place e = start_multiple g.kind g.oldest t e

  -- two distances, forth and back, of less than half a round each, are none
  pub no_offset : (W : ℕ) → W + W ≤ tags g.kind → distance_in g t < W → distance_of g.kind base t < W → distance_in g t ≡ 0
  unfolding distance_in
  no_offset W w f b = no_distance g.kind t base W w f b

  -- no distance back: the tag is that of the window's first frame
  pub at_base : distance_of g.kind base t ≡ 0 → (starts_epoch g.kind t ≡ true) × (distance_in g t ≡ 0)
  unfolding distance_in
  at_base z = at_start_lem g.kind g.oldest t z

-- As the window passes an epoch, each tag that lies an epoch or more after its first frame comes nearer by an epoch's frames.
pub distance_passed : (g g' : Group) (t : ℕ) → g'.kind ≡ g.kind → g'.oldest ≡ epoch_after g.kind g.oldest → frames g.kind ≤ distance_in g t
    → distance_in g' t + frames g.kind ≡ distance_in g t
unfolding distance_in
distance_passed g g' t k o h = rw (k, o) (distance_nearer g.kind g.oldest t h)

pub tag_next : (g : Group) (t : ℕ) → t < tags g.kind → tag_in g (distance_in g t) ≡ t
unfolding tag_in distance_in
tag_next g t h = distance_leads g.kind t (first_tag g.kind g.oldest) h

pub tag_passed : (g g' : Group) (d : ℕ) → g'.kind ≡ g.kind → g'.oldest ≡ epoch_after g.kind g.oldest → tag_in g' d ≡ tag_in g (d + frames g.kind)
unfolding tag_in
tag_passed g g' d k o = rw (k, o) (first_on g.kind g.oldest d)
