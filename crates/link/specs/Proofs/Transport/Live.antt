-- The packet being gathered: at the end of a packet it is the packet that came.
use Rattle.std.specs.Prelude.{◌≡◌, ◌≢◌, Bool, cond, ℕ, ◌+◌, ◌-◌, ◌*◌, ◌/◌, ◌%◌, ◌≤◌, ◌<◌, length}
use Rattle.std.proofs.Math.Path.{refl, sym, ap}
use Rattle.std.proofs.Common.{◌∙◌, ⊎_elim, mod-eq_of_lt, arith}
use Rattle.std.proofs.Math.Bool.{true, false}
use mathlib.Core.List.{List}
use Rattle.ground.specs.Truth.{eq_or_ne}
use Rattle.packet.specs.Kinds.{epoch_of, frames, place_of, tag_of}
use Rattle.packet.specs.Laws.Epochs.{last_place, place_in, place_lt, places_apart, position_is}
use Rattle.packet.specs.Symbols.{with_symbol}
use Rattle.packet.specs.Theorems.Symbols.{length_with, row_is, symbol_other, symbol_same}
use Rattle.packet.specs.Theorems.Tags.{epoch_counted, frames_some, place_counted}
use Rattle.receiver.specs.Frame.{odd_in, own_tag}
use Rattle.rows.specs.Port.{port_at}
use Rattle.rows.specs.Step.{step_at}
use Rattle.step.specs.SentRuns.{start_from}
use Rattle.step.specs.declared.arrival.Taken.{Taken}
use Rattle.step.specs.OwnCount.{ends_odd, odd_packet}
use Rattle.step.specs.Run.{ends_packet}
use Rattle.link.specs.Proofs.Contents.{number_of, packet_of}
use Rattle.link.specs.Proofs.Fair.{Fair}
use Rattle.link.specs.Proofs.Standing.{Lined, Live}
use Rattle.link.specs.Road.{L, Road}
use Rattle.link.specs.Running.{Moment}

last_of : (kind t : ℕ) → ends_packet kind t ≡ true → place_of kind t % frames kind ≡ frames kind - 1
unfolding ends_packet
last_of kind t e = last_place kind (place_of kind t) e

module _ (r : Road) where
  -- the row after a frame
  abbrev pub row_after : List ℕ → Taken → ℕ → List ℕ
  row_after row t h = cond t.counted (with_symbol r.kind row (place_of r.kind (own_tag r.kind t)) h) row

  pub after_long : (row : List ℕ) (t : Taken) (h : ℕ) → length row ≡ 16 → length (row_after row t h) ≡ 16
  after_long row t h e = go t.counted
    where
      go : (b : Bool) → length (cond b (with_symbol r.kind row (place_of r.kind (own_tag r.kind t)) h) row) ≡ 16
      go true = length_with r.kind row (place_of r.kind (own_tag r.kind t)) h ∙ e
      go false = e

  -- before the run's first frame nothing is said of it
  pub live_early : (p x : ℕ) (row : List ℕ) → x < start_from r.kind r.offset (r.first p) → length row ≡ 16 → Live r p (x + 1) row
  live_early p x row early e = record { long = e; holds = λ y from upto near. absurd (omega arith) }

  live_on : (p x : ℕ) (row : List ℕ) → Live r p x row → Live r p (x + 1) (with_symbol r.kind row (x % L r) (r.h4 p x))
  live_on p x row o =
      let within = place_lt r.kind x in
      record {
        long = length_with r.kind row (x % L r) (r.h4 p x) ∙ o.long;
        holds = λ y from upto near.
            ⊎_elim
            (λ (e : y ≡ x). rw e (symbol_same r.kind row o.long (x % L r) (r.h4 p x) within))
            (λ (d : y ≢ x).
            symbol_other r.kind row o.long (x % L r) (r.h4 p x) within (y % L r) (places_apart r.kind x y (omega arith) (omega arith))
            ∙ o.holds y from (omega arith) (omega arith))
            (eq_or_ne y x);
      }

  module _ (f : Fair r) where
    -- a frame that counts puts its symbol at its own place
    pub live_taken : (p x : ℕ) (row : List ℕ) (t : Taken) → t.counted ≡ true → place_of r.kind (own_tag r.kind t) ≡ place_of r.kind (tag_of r.kind (r.offset + x))
        → Live r p x row → Live r p (x + 1) (row_after row t (r.h4 p x))
    live_taken p x row t counted place o = rw (counted, place, place_counted r.kind r.offset x f.starts) (live_on p x row o)

    -- at a packet's end the row is the packet that came
    packet_live : (p x : ℕ) (row : List ℕ) → Live r p x row → start_from r.kind r.offset (r.first p) + L r * 2 ≤ x → x % L r ≡ L r - 1
        → with_symbol r.kind row (x % L r) (r.h4 p x) ≡ packet_of r (x / L r) p
    unfolding packet_of
    packet_live p x row o far last =
        let some = frames_some r.kind in
        let now : Live r p (x + 1) (with_symbol r.kind row (x % L r) (r.h4 p x)) = live_on p x row o in
        let is = position_is r.kind x in
        row_is r.kind (with_symbol r.kind row (x % L r) (r.h4 p x)) (λ k. r.h4 p (x / L r * L r + k)) now.long
        (λ k b. rw (place_in r.kind (x / L r) k b) at (now.holds (x / L r * L r + k) (omega arith) (omega arith) (omega arith)))

    pub live_even : (p x : ℕ) (row : List ℕ) → p < r.ports → Live r p x row → start_from r.kind r.offset (r.first p) + L r * 2 ≤ x
        → ends_odd r.kind row (tag_of r.kind (r.offset + x)) (r.h4 p x) ≡ false
    unfolding ends_odd number_of
    live_even p x row b o far = go (ends_packet r.kind (tag_of r.kind (r.offset + x))) refl
      where
        go : (c : Bool) → ends_packet r.kind (tag_of r.kind (r.offset + x)) ≡ c → ends_odd r.kind row (tag_of r.kind (r.offset + x)) (r.h4 p x) ≡ false
        go true e =
            let place : place_of r.kind (tag_of r.kind (r.offset + x)) ≡ x % L r = place_counted r.kind r.offset x f.starts in
            let last : x % L r ≡ L r - 1 = sym (mod-eq_of_lt (place_lt r.kind x)) ∙ ap (λ (n : ℕ). n % L r) (sym place) ∙ last_of r.kind (tag_of r.kind (r.offset + x)) e in
            let number : epoch_of r.kind (tag_of r.kind (r.offset + x)) ≡ number_of r (x / L r) =
            ap (λ (n : ℕ). epoch_of r.kind (tag_of r.kind (r.offset + n))) (sym (position_is r.kind x)) ∙ epoch_counted r.kind r.offset (x / L r) (x % L r) f.starts (place_lt r.kind x) in
            rw e
            (ap (λ (n : ℕ). odd_packet r.kind n (with_symbol r.kind row (place_of r.kind (tag_of r.kind (r.offset + x))) (r.h4 p x))) number
            ∙ ap (λ (k : ℕ). odd_packet r.kind (number_of r (x / L r)) (with_symbol r.kind row k (r.h4 p x))) place
            ∙ ap (λ (ns : List ℕ). odd_packet r.kind (number_of r (x / L r)) ns) (packet_live p x row o far last)
            ∙ f.even (x / L r) p b)
        go false e = rw e refl

    -- so no frame of a port in step ends an odd packet
    pub even_now : (m : Moment) → Lined r m → (p x : ℕ) → p < r.ports → Live r p x (port_at m.rows p).gathering → (step_at m.rows p).next ≡ tag_of r.kind (r.offset + x)
        → start_from r.kind r.offset (r.first p) + L r * 2 ≤ x → odd_in m.rows p (r.h4 p x) ≡ false
    unfolding port_at
    even_now m l p x b o next far = rw (l.kind_is, next) (live_even p x (port_at m.rows p).gathering b o far)
