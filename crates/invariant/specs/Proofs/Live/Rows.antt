-- The packet being gathered, with a frame more and at a packet's end.
use Rattle.std.specs.Prelude.{◌≡◌, ◌⊎◌, true, List, ◌∷◌, ℕ, zero, suc, ◌+◌, ◌-◌, ◌*◌, ◌≤◌, ◌<◌, get_or, length}
use Rattle.std.proofs.Common.{◌∙◌, inr, ⊎_elim, arith, leb-true}
use Rattle.invariant.specs.Live.{LiveRow, packet_heard}
use Rattle.packet.specs.Kinds.{frames, place_of, starts_epoch, tag_after, tag_back, tag_before}
use Rattle.packet.specs.Laws.Back.{after_mod, ends_starts, place_apart, place_end, place_stays}
use Rattle.packet.specs.Laws.Distances.{place_back, place_below}
use Rattle.packet.specs.Symbols.{symbol_at, symbol_of, with_symbol}
use Rattle.packet.specs.Theorems.Symbols.{length_with, row_is, symbol_other, symbol_same}
use Rattle.packet.specs.Theorems.Tags.{frames_some}
use Rattle.step.specs.Laws.RunKept.{Further}
use Rattle.step.specs.Run.{ends_packet, in_step_at}

module _ (kind count next : ℕ) (row heard : List ℕ) (o : LiveRow kind count next row heard) (more then h : ℕ) where
  abbrev place : ℕ
  place = place_of kind (tag_before kind then)

  abbrev now : List ℕ
  now = with_symbol kind row (place_of kind (tag_before kind then)) h

  latest : symbol_at kind now place ≡ symbol_of kind h
  latest = symbol_same kind row o.long place h (place_below kind (tag_before kind then))

  others : (d : ℕ) → suc d < more → suc d < frames kind → Further kind count next more then
      → symbol_at kind now (place_of kind (tag_back kind then (suc d))) ≡ symbol_of kind (get_or heard d 0)
  others d b m f =
      let stays : place_of kind (tag_back kind then (suc d)) ≡ place_of kind (tag_back kind next d) = place_stays kind next then d f.next_is in
      let few = f.count_is in
      symbol_other kind row o.long place h (place_below kind (tag_before kind then)) (place_of kind (tag_back kind then (suc d))) (place_apart kind then d m)
      ∙ rw stays (o.holds d (omega arith) (omega arith))

  -- a counted frame puts its symbol at its own place
  pub live_put : (more ≤ 1) ⊎ Further kind count next more then → LiveRow kind more then (with_symbol kind row (place_of kind (tag_before kind then)) h) (h ∷ heard)
  live_put f =
      record {
        long = length_with kind row place h ∙ o.long;
        known = let k = o.known in ⊎_elim (λ (a : more ≤ 1). short a) (λ (a : Further kind count next more then). let c = a.count_is in far c k) f;
        holds = holds;
      }
    where
      short : more ≤ 1 → more ≤ suc (length heard)
      short a = omega arith

      far : more ≤ count + 1 → count ≤ length heard → more ≤ suc (length heard)
      far a b = omega arith

      holds : (d : ℕ) → d < more → d < frames kind → symbol_at kind now (place_of kind (tag_back kind then d)) ≡ symbol_of kind (get_or (h ∷ heard) d 0)
      holds zero b m = latest
      holds (suc d) b m = ⊎_elim (λ (a : more ≤ 1). absurd (omega arith)) (others d b m) f

-- no frame of the run
pub live_none : (kind count next : ℕ) (row heard : List ℕ) → length row ≡ 16 → count ≡ 0 → LiveRow kind count next row heard
live_none kind count next row heard long none = record { long = long; known = omega arith; holds = λ d b. absurd (omega arith) }

-- in step, at an epoch's end
pub packet_came : (kind count next : ℕ) (row heard : List ℕ) → LiveRow kind count next row heard → in_step_at kind count ≡ true → starts_epoch kind next ≡ true → row ≡ packet_heard kind heard
unfolding in_step_at
packet_came kind count next row heard o on starts =
    let many = leb-true (frames kind * 2) count on in
    let some = frames_some kind in
    row_is kind row (λ k. get_or heard (frames kind - 1 - k) 0) o.long
    (λ k b.
    let e : place_of kind (tag_back kind next (frames kind - 1 - k)) ≡ k = place_end kind next k starts b in
    rw e at (o.holds (frames kind - 1 - k) (omega arith) (omega arith)))

-- the packet that is looked at as its last frame comes
pub packet_judged : (kind count next : ℕ) (row heard : List ℕ) → LiveRow kind count next row heard → in_step_at kind count ≡ true → ends_packet kind next ≡ true
    → (h : ℕ) → with_symbol kind row (place_of kind next) h ≡ packet_heard kind (h ∷ heard)
unfolding ends_packet
packet_judged kind count next row heard o on ends h =
    packet_came kind count (tag_after kind next) (with_symbol kind row (place_of kind next) h) (h ∷ heard) (rw (place_back kind next) at live) on (ends_starts kind next ends)
  where
    live : LiveRow kind count (tag_after kind next) (with_symbol kind row (place_of kind (tag_before kind (tag_after kind next))) h) (h ∷ heard)
    live = live_put kind count next row heard o count (tag_after kind next) h (inr (record { count_is = omega arith; next_is = after_mod kind next }))
