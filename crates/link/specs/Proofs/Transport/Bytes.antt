-- The group frames of an epoch whose frames all stand: the bytes of the ports, in the order that is seen.
use Rattle.std.specs.Prelude.{◌≡◌, List, ◌++◌, length, take}
use Rattle.std.proofs.Math.Path.{refl, ap}
use Rattle.std.proofs.Common.{sym, ◌∙◌, zero-mul}
use Prim.Native.Nat.{ℕ, zero, suc, ◌+◌, ◌*◌, ◌/◌, ◌%◌, ◌≤◌, ◌<◌}
use native.Mathlib.Omega.{arith}
use Rattle.std.proofs.Math.ListN.{drop}
use Rattle.ground.specs.Drawn.{fill_at}
use Rattle.ground.specs.Table.{length_tabulate, tabulate, tabulate_ext}
use Rattle.judge.specs.declared.seen.Seen.{Seen}
use Rattle.judge.specs.Order.{active_in, order_of, port_of}
use Rattle.packet.specs.Kinds.{frames}
use Rattle.payload.specs.Laws.Ranks.{ranked}
use Rattle.phases.specs.Sizes.{store_for}
use Rattle.receiver.specs.Laws.Bytes.{byte_in_lem, frames_end, frames_into_lem, port_below}
use Rattle.receiver.specs.Laws.Sizes.{Sizes}
use Rattle.receiver.specs.Lengths.{output_for}
use Rattle.receiver.specs.Report.{frame_bytes, frames_into, report_byte}
use Rattle.rows.specs.declared.group.Group.{Group}
use Rattle.store.specs.Frames.{Stands}
use Rattle.link.specs.Proofs.Contents.{frame_at, frames_from}
use Rattle.link.specs.Proofs.Laws.Lists.{drop_fill, tabulate_append, take_fill}
use Rattle.link.specs.Road.{L, Road}
use Rattle.link.specs.Proofs.Fair.{Fair, sizes_in}

module _ (r : Road) (fair : Fair r) (g : Group) (kind_is : g.kind ≡ r.kind) (payload_is : g.payload ≡ r.payload) (window_is : g.window ≡ r.window) (store : List ℕ)
    (long : length store ≡ r.ports * r.window * (r.payload + 1)) (base : ℕ)
    (stands : (p k : ℕ) → p < r.ports → k < L r → Stands g p k (r.bytes p (base + k)) (r.h4 p (base + k)) store)
    (seen : List Seen) (out : List ℕ) (room : r.ports * L r * r.payload ≤ length out) where
  abbrev n : ℕ
  n = r.ports

  sizes : Sizes g.kind n g.payload g.window
  sizes = rw (kind_is, payload_is, window_is) (sizes_in r fair)

  stored : length store ≡ store_for g n
  unfolding store_for
  stored = rw (payload_is, window_is) long

  enough : output_for g n ≤ length out
  unfolding output_for
  enough = rw (kind_is, payload_is) room

  -- group frame k is the one at its position
  frame_is : (k : ℕ) → k < L r → tabulate (frame_bytes g seen n) (λ q. report_byte g seen n store (k * frame_bytes g seen n + q)) ≡ frame_at r seen (base + k)
  unfolding frame_at
  frame_is k h =
      rw (← payload_is)
      (tabulate_ext (frame_bytes g seen n) _ _
      (λ q b.
      let w = ranked (active_in seen n) g.payload q b in
      byte_in_lem g seen n store k q b
      ∙ (stands (port_of seen n (q % active_in seen n)) k (port_below seen n (q % active_in seen n) (sizes_in r fair).some_ports) h).bytes (q / active_in seen n) w.byte))

  frames_are : (k : ℕ) → k ≤ L r → tabulate (k * frame_bytes g seen n) (report_byte g seen n store) ≡ frames_from r seen base k
  unfolding frames_from
  frames_are zero h = rw (zero-mul (frame_bytes g seen n)) refl
  frames_are (suc k) h =
      let e : suc k * frame_bytes g seen n ≡ k * frame_bytes g seen n + frame_bytes g seen n = omega arith in
      rw e
      (tabulate_append (k * frame_bytes g seen n) (frame_bytes g seen n) (report_byte g seen n store)
      ∙ (λ i. frames_are k (omega arith) i ++ frame_is k h i))

  -- they fill the front of the output
  abbrev many : ℕ
  many = L r * frame_bytes g seen n

  same_frames : frames g.kind ≡ L r
  same_frames = ap frames kind_is

  into : frames_into g (order_of seen n) store (L r) out ≡ fill_at 0 many (report_byte g seen n store) out
  unfolding order_of
  into = rw (← same_frames) (frames_into_lem g seen n store out sizes stored enough)

  ends : many ≤ length out
  ends = rw (← same_frames) (frames_end g seen n store out sizes stored enough)

  pub frames_taken : take (L r * ((order_of seen n).x * g.payload)) (frames_into g (order_of seen n) store (L r) out) ≡ frames_from r seen base (L r)
  unfolding order_of
  frames_taken = ap (take many) into ∙ take_fill many (report_byte g seen n store) out 0 ends ∙ frames_are (L r) (omega arith)

  long_frames : length (frames_from r seen base (L r)) ≡ many
  long_frames = ap length (sym (frames_are (L r) (omega arith))) ∙ length_tabulate many (report_byte g seen n store)

  -- 'Output beyond those bytes stays.'
  pub frames_beyond : drop (L r * ((order_of seen n).x * g.payload)) (frames_into g (order_of seen n) store (L r) out) ≡ drop (length (frames_from r seen base (L r))) out
  unfolding order_of
  frames_beyond = ap (drop many) into ∙ drop_fill many (report_byte g seen n store) out 0 ∙ ap (λ (k : ℕ). drop k out) (sym long_frames)
