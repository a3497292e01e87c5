-- The bytes of a report: what its group frames, joined one after the other, leave in the output.
use Rattle.std.specs.Prelude.{◌≡◌, refl, get_or, length, replicate}
use Rattle.std.proofs.Math.Path.{ap}
use Rattle.std.proofs.Common.{◌∙◌, ⊎_elim, eq-zero-or-pos, mod-lt}
use mathlib.Core.List.{List}
use Prim.Native.Nat.{ℕ, zero, suc, ◌+◌, ◌*◌, ◌/◌, ◌%◌, ◌≤◌, ◌<◌}
use Rattle.std.proofs.Math.Nat.{mul-le-mul, zero-mul}
use native.Mathlib.Omega.{arith}
use Rattle.std.proofs.Math.Arith.{digits_div, digits_mod}
use Rattle.ground.specs.Counting.Each.{get_or_each}
use Rattle.ground.specs.Counting.Laws.Tests.{last_that_below}
use Rattle.ground.specs.Drawn.{Filling, fill_at, filling_none, filling_piece}
use Rattle.judge.specs.declared.seen.Seen.{Seen}
use Rattle.judge.specs.Laws.Sizes.{size_over}
use Rattle.judge.specs.Order.{active_in, has_rank, order_of, port_of}
use Rattle.judge.specs.Seen.{size_of}
use Rattle.judge.specs.Theorems.Ranks.{active_le, order_port}
use Rattle.packet.specs.Kinds.{frames}
use Rattle.payload.specs.Joining.{started_byte}
use Rattle.payload.specs.Laws.Fits.{FromFits, joined_from_done}
use Rattle.payload.specs.Order.{group_byte}
use Rattle.phases.specs.Sizes.{store_for}
use Rattle.receiver.specs.Laws.Lengths.{length_frames_into}
use Rattle.receiver.specs.Laws.Sizes.{Sizes, window_some}
use Rattle.receiver.specs.Lengths.{output_for}
use Rattle.receiver.specs.Report.{brought_byte, frame_bytes, frame_into, frames_into, report_byte, starts_of}
use Rattle.rows.specs.declared.group.Group.{Group}
use Rattle.store.specs.Frames.{place_in}
use Rattle.store.specs.Laws.Places.{place_within}

-- as group frame k has it
pub byte_in_lem : (g : Group) (seen : List Seen) (n : ℕ) (store : List ℕ) (k q : ℕ) → q < frame_bytes g seen n
    → report_byte g seen n store (k * frame_bytes g seen n + q) ≡ group_byte (active_in seen n) (brought_byte g seen n store k) q
byte_in_lem g seen n store k q b = rw (digits_div k b, digits_mod k b) refl

-- a ranked port is one of the ports
pub port_below : (seen : List Seen) (n rank : ℕ) → 0 < n → port_of seen n rank < n
unfolding port_of
port_below seen n rank h = last_that_below n (has_rank seen n rank) h

room_for : (k L X n P out : ℕ) → k < L → X ≤ n → n * L * P ≤ out → k * (X * P) + X * P ≤ out
room_for k L X n P out hk hx ho =
    let a : X * P ≤ n * P = mul-le-mul hx (omega arith) in
    let one : k + 1 ≤ L = omega arith in
    let b : (k + 1) * (X * P) ≤ L * (n * P) = mul-le-mul one a in
    omega (arith, b, ho)

module _ (g : Group) (seen : List Seen) (n : ℕ) (store out : List ℕ) (size : Sizes g.kind n g.payload g.window) (stored : length store ≡ store_for g n)
    (room : output_for g n ≤ length out) where
  abbrev X : ℕ
  X = active_in seen n

  abbrev P : ℕ
  P = g.payload

  few : X ≤ n
  few = active_le seen n

  -- the k-th group frame ends within the output
  ends_in_lem : (k : ℕ) → k < frames g.kind → k * (X * P) + X * P ≤ length out
  unfolding output_for
  ends_in_lem k h = room_for k (frames g.kind) X n P (length out) h few room

  starts : (k r : ℕ) → r < X → get_or (starts_of g (order_of seen n).ports (order_of seen n).x k) r 0 ≡ place_in g (port_of seen n r) k
  unfolding starts_of order_of
  starts k r h =
      let b : r < 64 = (let w = few in let s = size.few_ports in omega arith) in
      get_or_each (size_of X) (λ i. place_in g (get_or (order_of seen n).ports i 0) k) (replicate 64 0) r 0 (size_over X r h b) b
      ∙ ap (λ (p : ℕ). place_in g p k) (order_port seen n r b)

  fitting : (k : ℕ) → k < frames g.kind → (o : List ℕ) → length o ≡ length out → FromFits X P (starts_of g (order_of seen n).ports (order_of seen n).x k) (length store) (k * (X * P)) (length o)
  unfolding store_for
  fitting k h o e =
      record {
        size = record { ranks = let w = few in let s = size.few_ports in omega arith; least = size.some_bytes; most = size.few_bytes };
        frame_in = rw e (ends_in_lem k h);
        members_in = λ r b.
            rw (starts k r b, stored)
            (let w = place_within g n (port_of seen n r) k (window_some g.kind n P g.window size) (port_below seen n r size.some_ports) in omega arith);
      }

  -- byte q of group frame k is byte k X P + q of the report
  byte_is : (k q : ℕ) → q < X * P → group_byte X (started_byte (starts_of g (order_of seen n).ports (order_of seen n).x k) store) q ≡ report_byte g seen n store (k * (X * P) + q)
  byte_is k q b =
      rw (digits_div k b, digits_mod k b) (ap (λ (a : ℕ). get_or store (a + q / X) 0) (starts k (q % X) (mod-lt q (members_some q b))))
    where
      members_some : (q : ℕ) → q < active_in seen n * g.payload → 0 < active_in seen n
      members_some q b = ⊎_elim (λ (z : X ≡ 0). absurd (let e : X * P ≡ 0 = rw (z, zero-mul P) in omega arith)) (λ (p : 0 < X). p) (eq-zero-or-pos X)

  framed : (k : ℕ) → k < frames g.kind → (mid : List ℕ) → length mid ≡ length out
      → frame_into g (order_of seen n) store k mid ≡ fill_at (0 + k * (X * P)) (X * P) (group_byte X (started_byte (starts_of g (order_of seen n).ports (order_of seen n).x k) store)) mid
  unfolding frame_into order_of
  framed k h mid e =
      let z : 0 + k * (X * P) ≡ k * (X * P) = omega arith in
      rw z (joined_from_done X P (starts_of g (order_of seen n).ports (order_of seen n).x k) store (k * (X * P)) mid (fitting k h mid e))

  filled : (k : ℕ) → k ≤ frames g.kind → Filling 0 (k * (X * P)) (report_byte g seen n store) out (frames_into g (order_of seen n) store k out)
  unfolding frames_into
  filled zero h = let e : 0 * (X * P) ≡ 0 = zero-mul (X * P) in rw e (filling_none 0 (report_byte g seen n store) out)
  filled (suc k) h =
      let e : suc k * (X * P) ≡ k * (X * P) + X * P = omega arith in
      let mid : List ℕ = frames_into g (order_of seen n) store k out in
      rw e
      (filling_piece (X * P) (group_byte X (started_byte (starts_of g (order_of seen n).ports (order_of seen n).x k) store)) (frame_into g (order_of seen n) store k mid) (filled k (omega arith))
      (framed k (omega arith) mid (length_frames_into g (order_of seen n) store k out)) (λ q b. byte_is k q b))

  -- all group frames of an epoch
  pub frames_into_lem : frames_into g (order_of seen n) store (frames g.kind) out ≡ fill_at 0 (frames g.kind * frame_bytes g seen n) (report_byte g seen n store) out
  frames_into_lem = (filled (frames g.kind) (omega arith)).is

  pub frames_end : frames g.kind * frame_bytes g seen n ≤ length out
  unfolding output_for
  frames_end = let a : X * P ≤ n * P = mul-le-mul few (omega arith) in let l : frames g.kind ≤ frames g.kind = omega arith in omega (arith, mul-le-mul l a, room)
