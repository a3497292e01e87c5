-- A frame out of the rings, the frame of a member alone, and the states of a port alone.
use mathlib.Core.Path.{◌≡◌, refl, ◌∙◌, sym, ap, ap₂}
use mathlib.Core.Bool.{true, false, ◌&&◌}
use mathlib.Core.List.{List, [], ◌∷◌}
use Prim.Native.Nat.{ℕ, ◌+◌, ◌*◌, ◌≤◌}
use native.Mathlib.Omega.{arith}
use lib.Dec.{leb}
use lib.ListN.{get_or, length, length-replicate, replicate, take, drop}
use borrow.Author.Tests.{leb-true}
use Rattle.ground.specs.Counting.Each.{get_or_each}
use Rattle.ground.specs.Truth.{and_left, and_right}
use Rattle.judge.specs.declared.order.Order.{Order}
use Rattle.payload.specs.Answers.{PAYLOAD-MOST}
use Rattle.payload.specs.Joining.{joined_from}
use Rattle.payload.specs.Laws.Shifts.{store_from}
use Rattle.payload.specs.Laying.{laid}
use Rattle.phases.specs.Passing.{group_to}
use Rattle.reply.specs.Theorems.Alone.{ack_first, leaves_first}
use Rattle.reply.specs.declared.members.Port.{Port}
use Rattle.reply.specs.declared.waiting.Standing.{Standing}
use Rattle.reply.specs.Members.{port_at}
use Rattle.reply.specs.Telling.{ack_of}
use Rattle.reply.specs.Waiting.{no_standing, standings_of}
use Rattle.rows.specs.declared.group.Group.{Group}
use Rattle.rows.specs.Group.{put_group}
use Rattle.rows.specs.Member.{member_at, put_member}
use Rattle.store.specs.Frames.{place_in}
use Rattle.receiver.specs.Laws.Rings.{frame_alone, frame_none, frame_shifted, rings_of}
use Rattle.receiver.specs.Report.{frame_into, no_port, reply_port, reply_ports, state_put, states_put, states_worked_out, with_state}

pub frame_by_lem : (g : Group) (o : Order) (k : ℕ) (store out : List ℕ) (shift : ℕ) (rings new : List ℕ) → shift ≡ place_in g 0 k → rings ≡ rings_of g o.ports o.x
    → shift ≤ length store → new ≡ joined_from o.x g.payload rings (store_from shift store) (k * (o.x * g.payload)) out → new ≡ frame_into g o store k out
frame_by_lem g o k store out shift rings new far are in-it e =
    e ∙ ap₂ (λ (r : List ℕ) (s : ℕ). joined_from o.x g.payload r (store_from s store) (k * (o.x * g.payload)) out) are far
    ∙ frame_shifted g o k store out (omega (arith, far, in-it))

module _ (g : Group) (o : Order) (k : ℕ) (store out : List ℕ) (one : o.x ≡ 1) (start : ℕ) (is : start ≡ place_in g (get_or o.ports 0 0) k) where
  pub alone_run : (n : ℕ) (new : List ℕ) → n ≡ g.payload → ((leb 1 g.payload && leb g.payload PAYLOAD-MOST) && leb (start + g.payload) (length store)) ≡ true
      → new ≡ laid (k * g.payload) (take n (drop start store)) out → new ≡ frame_into g o store k out
  alone_run n new all fits e =
      let sizes = and_left (leb 1 g.payload && leb g.payload PAYLOAD-MOST) (leb (start + g.payload) (length store)) fits in
      let least = leb-true 1 g.payload (and_left (leb 1 g.payload) (leb g.payload PAYLOAD-MOST) sizes) in
      let most = leb-true g.payload PAYLOAD-MOST (and_right (leb 1 g.payload) (leb g.payload PAYLOAD-MOST) sizes) in
      let in-it = run_in fits in
      e ∙ ap₂ (λ (m s : ℕ). laid (k * g.payload) (take m (drop s store)) out) all is ∙ frame_alone g o k store out one least most (omega (arith, is, in-it))
    where
      run_in : ((leb 1 g.payload && leb g.payload PAYLOAD-MOST) && leb (start + g.payload) (length store)) ≡ true → start + g.payload ≤ length store
      run_in h = leb-true (start + g.payload) (length store) (and_right (leb 1 g.payload && leb g.payload PAYLOAD-MOST) (leb (start + g.payload) (length store)) h)

  pub alone_short : ((leb 1 g.payload && leb g.payload PAYLOAD-MOST) && leb (start + g.payload) (length store)) ≡ false → out ≡ frame_into g o store k out
  alone_short fails = frame_none g o k store out one (rw is at fails)

-- what is worked out of a port alone
module _ (g : Group) (s : List (List ℕ)) where
  first_port : port_at (reply_ports g s 1) 0 ≡ reply_port g s 0
  unfolding reply_ports
  first_port = get_or_each 1 (reply_port g s) (replicate 64 no_port) 0 no_port (omega arith) (rw (length-replicate {A = Port} 64 no_port) (omega arith))

  pub states_alone : (p : Port) (left : Standing) (ack : ℕ) (told : Group) (put rows : List (List ℕ)) → p ≡ reply_port g s 0 → left ≡ get_or (standings_of (p ∷ []) 1) 0 no_standing
      → ack ≡ ack_of (p ∷ []) 1 g.rs_ack → told ≡ group_to g g.begun g.gathered g.oldest g.origin ack
      → put ≡ put_member s 0 (with_state (member_at s 0) left) → rows ≡ put_group put told → rows ≡ states_worked_out g 1 s
  unfolding states_worked_out states_put state_put
  states_alone p left ack told put rows ep el ea et eput er =
      let same : p ≡ port_at (reply_ports g s 1) 0 = ep ∙ sym first_port in
      let stands : left ≡ get_or (standings_of (reply_ports g s 1) 1) 0 no_standing =
      el ∙ ap (λ (q : Port). get_or (standings_of (q ∷ []) 1) 0 no_standing) same ∙ leaves_first (reply_ports g s 1) in
      let acks : ack ≡ ack_of (reply_ports g s 1) 1 g.rs_ack =
      ea ∙ ap (λ (q : Port). ack_of (q ∷ []) 1 g.rs_ack) same ∙ ack_first (reply_ports g s 1) g.rs_ack in
      er ∙ rw (et, eput, acks, stands) refl
