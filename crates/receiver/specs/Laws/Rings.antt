-- Where the rings of the ranked ports begin in the store: a frame lies as far behind the beginning of its ring in one as in another. And a member alone.
use Rattle.std.specs.Prelude.{◌≡◌, false, ◌&&◌, List, ℕ, ◌+◌, ◌*◌, ◌≤◌, ◌<◌, leb, replicate, take, drop}
use Rattle.std.proofs.Math.Path.{sym, ap}
use Rattle.std.proofs.Common.{◌∙◌}
use Rattle.std.proofs.Math.Logic.{⊎_elim}
use native.Mathlib.Omega.{arith}
use Rattle.std.proofs.Math.ListN.{length, get_or}
use Rattle.std.proofs.lemmas.List.{length-replicate}
use Rattle.ground.specs.Counting.Each.{each, get_or_each}
use Rattle.ground.specs.Truth.{le_or_lt}
use Rattle.judge.specs.declared.order.Order.{Order}
use Rattle.judge.specs.Laws.Sizes.{size_over}
use Rattle.judge.specs.Seen.{size_of}
use Rattle.payload.specs.Answers.{PAYLOAD-MOST}
use Rattle.payload.specs.Joining.{joined_from}
use Rattle.payload.specs.Laws.Shifts.{alone_laid, alone_none, get_or_run, joined_beyond, joined_many, joined_shifted, length_run, store_from}
use Rattle.payload.specs.Laying.{laid}
use Rattle.receiver.specs.Report.{frame_into, starts_of}
use Rattle.rows.specs.declared.group.Group.{Group}
use Rattle.store.specs.Frames.{place_in, ring_of}

unfoldable pub rings_of : (g : Group) (order : List ℕ) (x : ℕ) → List ℕ
rings_of g order x = each (size_of x) (λ r. get_or order r 0 * g.window * (g.payload + 1)) (replicate 64 0)

-- a port's frame lies as far behind its ring's beginning as port 0's behind the store's
place_in_ring : (g : Group) (port d : ℕ) → place_in g port d ≡ place_in g 0 d + port * g.window * (g.payload + 1)
unfolding place_in
place_in_ring g port d = apart port g.window (g.payload + 1) (ring_of g.origin d g.window)
  where
    apart : (a w q t : ℕ) → (a * w + t) * q ≡ (0 * w + t) * q + a * w * q
    apart a w q t = omega arith

module _ (g : Group) (o : Order) (k : ℕ) where
  starts_at : o.x ≤ 64 → (r : ℕ) → r < o.x → get_or (starts_of g o.ports o.x k) r 0 ≡ place_in g (get_or o.ports r 0) k
  unfolding starts_of
  starts_at few r b =
      let below : r < 64 = omega arith in
      let long : r < length {A = ℕ} (replicate 64 0) = rw (length-replicate {A = ℕ} 64 0) below in
      get_or_each (size_of o.x) (λ i. place_in g (get_or o.ports i 0) k) (replicate 64 0) r 0 (size_over o.x r b below) long

  in_ring : o.x ≤ 64 → (r : ℕ) → r < o.x → get_or (starts_of g o.ports o.x k) r 0 ≡ place_in g 0 k + get_or (rings_of g o.ports o.x) r 0
  unfolding rings_of
  in_ring few r b =
      let below : r < 64 = omega arith in
      let long : r < length {A = ℕ} (replicate 64 0) = rw (length-replicate {A = ℕ} 64 0) below in
      starts_at few r b ∙ place_in_ring g (get_or o.ports r 0) k
      ∙ ap (λ (n : ℕ). place_in g 0 k + n) (sym (get_or_each (size_of o.x) (λ i. get_or o.ports i 0 * g.window * (g.payload + 1)) (replicate 64 0) r 0 (size_over o.x r b below) long))

  module _ (store out : List ℕ) where
    pub frame_shifted : place_in g 0 k ≤ length store
        → joined_from o.x g.payload (rings_of g o.ports o.x) (store_from (place_in g 0 k) store) (k * (o.x * g.payload)) out ≡ frame_into g o store k out
    unfolding frame_into
    frame_shifted in-it =
        ⊎_elim (λ (few : o.x ≤ 64).
        joined_shifted o.x g.payload (rings_of g o.ports o.x) (starts_of g o.ports o.x k) store (place_in g 0 k) (k * (o.x * g.payload)) out (in_ring few) in-it)
        (λ (many : 64 < o.x).
        joined_many o.x g.payload (rings_of g o.ports o.x) (store_from (place_in g 0 k) store) (k * (o.x * g.payload)) out many
        ∙ sym (joined_many o.x g.payload (starts_of g o.ports o.x k) store (k * (o.x * g.payload)) out many))
        (le_or_lt o.x 64)

    pub frame_beyond : length store < place_in g 0 k → out ≡ frame_into g o store k out
    unfolding frame_into
    frame_beyond far =
        ⊎_elim (λ (few : o.x ≤ 64).
        sym (joined_beyond o.x g.payload (starts_of g o.ports o.x k) store (k * (o.x * g.payload)) out (λ r b. omega (arith, in_ring few r b))))
        (λ (many : 64 < o.x). sym (joined_many o.x g.payload (starts_of g o.ports o.x k) store (k * (o.x * g.payload)) out many))
        (le_or_lt o.x 64)

    -- the frame of a member alone
    module _ (one : o.x ≡ 1) where
      start_alone : get_or (starts_of g o.ports o.x k) 0 0 ≡ place_in g (get_or o.ports 0 0) k
      start_alone = starts_at (omega (arith, one)) 0 (omega (arith, one))

      pub frame_alone : 1 ≤ g.payload → g.payload ≤ PAYLOAD-MOST → place_in g (get_or o.ports 0 0) k + g.payload ≤ length store
          → laid (k * g.payload) (take g.payload (drop (place_in g (get_or o.ports 0 0) k) store)) out ≡ frame_into g o store k out
      unfolding frame_into
      frame_alone least most fit =
          let e = start_alone in
          let m : g.payload ≡ o.x * g.payload = rw one (omega arith) in
          ap (λ (p : ℕ). laid (k * p) (take g.payload (drop (place_in g (get_or o.ports 0 0) k) store)) out) m
          ∙ alone_laid o.x g.payload one (starts_of g o.ports o.x k) store (k * (o.x * g.payload)) out (take g.payload (drop (place_in g (get_or o.ports 0 0) k) store)) least most
          (omega (arith, e, fit)) (length_run (place_in g (get_or o.ports 0 0) k) g.payload store fit)
          (λ j b. get_or_run (place_in g (get_or o.ports 0 0) k) g.payload store j b ∙ ap (λ (s : ℕ). get_or store (s + j) 0) (sym e))

      pub frame_none : ((leb 1 g.payload && leb g.payload PAYLOAD-MOST) && leb (place_in g (get_or o.ports 0 0) k + g.payload) (length store)) ≡ false → out ≡ frame_into g o store k out
      unfolding frame_into
      frame_none fails =
          sym (alone_none o.x g.payload one (starts_of g o.ports o.x k) store (k * (o.x * g.payload)) out (rw start_alone fails))
