-- An epoch whose ruling packets all came as sent: it is judged sure, and its bytes are the client's.
use Rattle.std.specs.Prelude.{◌≡◌}
use Rattle.std.proofs.Math.Path.{refl, ap, ap₂}
use Rattle.std.proofs.Common.{◌∙◌, arith}
use mathlib.Core.List.{List, ◌++◌}
use Prim.Native.Nat.{ℕ, zero, suc, ◌+◌, ◌*◌, ◌≤◌, ◌<◌}
use Rattle.std.proofs.Math.ListN.{get_or, length}
use Rattle.ground.specs.Table.{get_or_tabulate}
use Rattle.judge.specs.declared.seen.Seen.{Seen}
use Rattle.judge.specs.Order.{port_of}
use Rattle.judge.specs.Verdict.{SURE, judge_of}
use Rattle.packet.specs.Laws.Epochs.{epoch_in}
use Rattle.payload.specs.Order.{group_frame, member_byte}
use Rattle.payload.specs.Theorems.RoundTrip.{join_spreads}
use Rattle.link.specs.Proofs.Contents.{all_seen_after, frame_at, frames_from}
use Rattle.link.specs.Proofs.Judged.Seen.{seen_sent_lem}
use Rattle.link.specs.Link.{AssumedOver, Link, epoch_frames, frames_of, kind_of, road_of, sent_to}
use Rattle.link.specs.Sending.{Covered, Rules, epoch_start}

module _ (k : Link) (a : AssumedOver k) (i : ℕ) (covered : Covered k.sending i k.ports k.pairing) (sent : (p : ℕ) → p < k.ports → k.came i p ≡ sent_to k i p) where
  abbrev ports : List Seen
  ports = all_seen_after (road_of k) i

  rules : Rules k.sending k.payload k.client i k.ports k.pairing ports
  rules = a.lawful.rules i k.ports k.pairing ports a.paired covered (λ p b. seen_sent_lem k a i p b (sent p b))

  pub sure : judge_of (kind_of k) ports k.ports ≡ SURE
  sure = rules.mark

  -- the group frame at a place of the next epoch is the client's
  frame_is : (j : ℕ) → j < epoch_frames k → frame_at (road_of k) ports (epoch_start (kind_of k) (suc i) + j) ≡ k.client (epoch_start (kind_of k) (suc i) + j)
  unfolding frame_at road_of
  frame_is j b =
      let x : ℕ = epoch_start (kind_of k) (suc i) + j in
      let X : ℕ = k.sending.x (suc i) in
      let P : ℕ = k.payload in
      let member : ℕ → ℕ → ℕ = (λ r m. get_or (k.sending.payload x (k.pairing (port_of ports k.ports r))) m 0) in
      let whole : length (k.client x) ≡ X * P = a.lines.client x ∙ ap (λ (e : ℕ). k.sending.x e * P) (epoch_in (kind_of k) (suc i) j b) in
      ap (λ (n : ℕ). group_frame n P member) rules.members
      ∙ join_spreads X P (k.client x) member whole
      (λ r m hr hm. ap (λ (l : List ℕ). get_or l m 0) (rules.carried r j hr b) ∙ get_or_tabulate P (member_byte X (k.client x) r) m 0 hm)

  pub frames_are : (m : ℕ) → m ≤ epoch_frames k → frames_from (road_of k) ports (epoch_start (kind_of k) (suc i)) m ≡ frames_of k.client (epoch_start (kind_of k) (suc i)) m
  unfolding frames_from frames_of
  frames_are zero l = refl
  frames_are (suc m) l = ap₂ ◌++◌ (frames_are m (omega arith)) (frame_is m (omega arith))
