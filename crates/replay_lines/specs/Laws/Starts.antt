-- What settings that are taken say.
use Rattle.std.specs.Prelude.{◌≡◌, ℕ, ◌≤◌, Bool, true, false, ◌&&◌, nat_le}
use Rattle.std.proofs.Common.{arith}
use borrow.Author.Tests.{leb-true}
use Rattle.ground.specs.Truth.{and_left, and_right}
use Rattle.packet.specs.Laws.Epochs.{half_fits}
use Rattle.receiver.specs.Laws.Sizes.{start_sizes_of}
use Rattle.recording.specs.declared.pairs.Settings.{Settings}
use Rattle.replay_lines.specs.Lengths.{in_range}
use Rattle.replay_lines.specs.Turn.{is_sized, startable, store_in, times_fit}

module _ (g : Settings) (store : ℕ) where
  pub start_out : is_sized g ≡ false → false ≡ startable g store
  unfolding startable
  start_out t = rw t

  pub start_in : is_sized g ≡ true → (b : Bool) (m : ℕ) → b ≡ times_fit g → m ≡ store_in g → (b && nat_le m store) ≡ startable g store
  unfolding startable
  start_in t b m e f = rw (t, e, f)

  module _ (t : startable g store ≡ true) where
    pub start_sized_lem : is_sized g ≡ true
    unfolding startable
    start_sized_lem = and_left (is_sized g) (times_fit g) (and_left (is_sized g && times_fit g) (nat_le (store_in g) store) t)

    pub start_stored : store_in g ≤ store
    unfolding startable
    start_stored = leb-true (store_in g) store (and_right (is_sized g && times_fit g) (nat_le (store_in g) store) t)

module _ (g : Settings) where
  pub range_out : is_sized g ≡ false → false ≡ in_range g
  unfolding in_range
  range_out t = rw t

  pub range_in : is_sized g ≡ true → times_fit g ≡ in_range g
  unfolding in_range
  range_in t = rw t

  pub range_sized : in_range g ≡ true → is_sized g ≡ true
  unfolding in_range
  range_sized t = and_left (is_sized g) (times_fit g) t

pub record Small (g : Settings) : Type 0 where
  pub ports_most : g.ports ≤ 64
  pub size_most : g.size ≤ 2340
  pub narrow : g.window ≤ 2048

pub small : (g : Settings) → is_sized g ≡ true → Small g
small g t =
    let z = start_sizes_of g.kind g.ports g.size g.window t in
    let h = half_fits g.kind in
    let n = z.narrow in
    record { ports_most = z.few_ports; size_most = z.few_bytes; narrow = omega arith }
