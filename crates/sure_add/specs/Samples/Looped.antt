-- Links of H4 with P 1 and W 16 of which `sure_add` speaks, made of a few numbers, the calls at each start and the replies as they are computed. Port p carries the last slot but p.
use Rattle.std.specs.Prelude.{◌≡◌, Bool, true, false, ◌&&◌, ℕ, zero, suc, ◌+◌, ◌-◌, ◌*◌, ◌%◌, ◌≤◌, ◌<◌, length, replicate, if◌then◌else◌}
use Rattle.std.proofs.Math.Path.{refl, ap}
use Rattle.std.proofs.Common.{sym}
use Rattle.std.proofs.Math.Logic.{inl}
use mathlib.Core.List.{List, [], ◌∷◌}
use native.Mathlib.Omega.{arith}
use Rattle.std.proofs.Math.ListN.{get_or, length-replicate}
use borrow.Author.Tests.{leb-true, ltb-true}
use Rattle.ground.specs.Finite.{below, below_at, same_bytes_lem, same_bytes}
use Rattle.ground.specs.Plain.{◌<?◌, ◌≤?◌}
use Rattle.ground.specs.Table.{length_tabulate, tabulate}
use Rattle.packet.specs.Symbols.{symbol_of}
use Rattle.packet.specs.Kinds.{epochs, frames, payload_right}
use Rattle.packet.specs.Layout.{h4_of, nibbles_of}
use Rattle.payload.specs.declared.answer.Answer.{Answer}
use Rattle.payload.specs.declared.answer.Answer.TheVariants.{Done, Length, Range}
use Rattle.payload.specs.Answers.{under_done}
use Rattle.payload.specs.Order.{member_frame}
use Rattle.payload.specs.Spreading.{one_answer, spread_one}
use Rattle.phases.specs.Sizes.{start_sized}
use Rattle.rows.specs.Rows.{rows_for}
use Rattle.sender.specs.Calls.{Call}
use Rattle.sender.specs.Calls.Call.{Report}
use Rattle.link.specs.Assumed.{Assumed}
use Rattle.link.specs.Demand3.{Started, Times}
use Rattle.sender.specs.declared.epochs.Sender.{Sender}
use Rattle.sender.specs.Epochs.{payload_bytes, rank_in, x_of}
use Rattle.sender.specs.Table.{slot_count}
use Rattle.link.specs.History.{Allowed, History, has_rank, packet_sent, payload_sent, sender_at, sending_of, x_at}
use Rattle.link.specs.Link.{Link, road_of}
use Rattle.link.specs.Road.{Below, times}
use Rattle.link.specs.Running.{Moment, fresh}
use Rattle.link.specs.Sending.{Client, Sending, epoch_at, epoch_number}
use Rattle.sure_add.specs.Joined.{Joined, come_back}
use Rattle.sure_add.specs.Proofs.Frames.{report_at_lem}
use Rattle.sure_add.specs.Samples.Starts.{reply_at_lem, starts}

pub record Case : Type 0 where
  pub slots : ℕ
  pub out : ℕ
  pub back : ℕ
  -- the number of the way back's first epoch, and the last start
  pub first : ℕ
  pub until : ℕ
  -- the calls before a start, by what has wholly come back by then
  pub before : ℕ → List Call → List Call
  -- the ports in the order of their frames, and their times
  pub order : List ℕ
  pub hold : List ℕ
  pub restore : List ℕ
  -- what a port is sent in an epoch up to that start, and the reply read at each start, the last one first
  pub word : ℕ → ℕ → ℕ
  pub number : ℕ → ℕ → ℕ
  pub said : List (List ℕ)

module _ (c : Case) where
  abbrev pub mst : ℕ → ℕ
  mst t = get_or (get_or c.said (c.until - t) []) 0 0

  abbrev pub ack : ℕ → ℕ
  ack t = get_or (get_or c.said (c.until - t) []) 1 0

  abbrev pub back : History
  back = record { kind = 0; slots = 1; first = c.first; before = λ i. []; gid = λ i. 0; mst = mst; ack = ack }

  abbrev pub report : ℕ → List Call
  report t = if c.back + 1 ≤? t then Report ((c.first + (t - (c.back + 1))) % 256) (mst (t - (c.back + 1))) (ack (t - (c.back + 1))) ∷ [] else []

  abbrev pub history : History
  history = record { kind = 0; slots = c.slots; first = 0; before = λ t. c.before t (report t); gid = λ i. 0; mst = λ i. 255; ack = λ i. 0 }

  abbrev client : Client
  client x = tabulate (x_at history (epoch_at 0 x) * 1) (λ j. 0)

  abbrev pairing : ℕ → ℕ
  pairing p = c.slots - (p + 1)

  -- what comes, and what is sent beside packets, said so that no frame has the sender's history worked out for it
  abbrev pub packet : ℕ → ℕ → List ℕ
  packet i p = h4_of (nibbles_of (record { epoch = i; word = record { 0 = c.word i p }; gid = 0; mst = 255; rs_ack = 0; sq = c.number i p; reserved = 0 }))

  abbrev pub came : ℕ → ℕ → List ℕ
  came i p = if i ≤? c.until then packet i p else packet_sent history i (pairing p)

  abbrev pub sending_by : (ℕ → ℕ → List ℕ) → Sending
  sending_by payload =
      let s = sending_of history 1 client (λ x slot. 0 ∷ []) in
      record { kind = s.kind; slots = s.slots; first = s.first; packet = s.packet; word = s.word; number = s.number; gid = s.gid; x = s.x; payload = payload; changes = s.changes }

  abbrev pub link : Link
  link =
      record {
        sending = sending_by (λ x slot. 0 ∷ []);
        ports = c.slots;
        payload = 1;
        window = 16;
        client = client;
        pairing = pairing;
        came = came;
        delay = λ p. c.out * 16;
        first = λ p. 0;
        order = λ t. c.order;
        output = λ j. replicate (c.slots * 16 * 1) 0;
        lent = λ a j. replicate 8 0;
      }

  -- a receiver over rows and a store that hold anything but zeros
  abbrev pub receiver : Moment
  receiver = fresh (road_of link) c.hold c.restore (replicate (rows_for c.slots) (replicate 16 0xFF)) (replicate (c.slots * 16 * (1 + 1)) 0xFF)

  -- what has to be so of the numbers, and what has to be computed
  pub record Right : Type 0 where
    pub some : 0 < c.slots
    pub most : c.slots ≤ 64
    pub number : c.first < 256
    pub sizes : start_sized 0 c.slots 1 16 ≡ true
    pub once : (p : ℕ) → p < c.slots → times p c.order ≡ 1
    pub only : Below c.slots c.order
    pub hold_times : Times c.hold c.slots
    pub restore_times : Times c.restore c.slots
    pub fits : below (c.until + 1) (λ i. get_or (get_or c.said i []) 0 0 <? 256) ≡ true
    pub bits : below (c.until + 1) (λ i. get_or (get_or c.said i []) 1 0 <? 2) ≡ true
    pub sent : below (c.until + 1) (λ i. below c.slots (λ p. same_bytes (packet i p) (packet_sent history i (pairing p)))) ≡ true
    pub replied : (starts link receiver c.first c.until).replies ≡ c.said

  module _ (r : Right) where
    pub allowed : Allowed history
    unfolding epochs
    allowed = record { lcas = refl; some = r.some; most = r.most; first = omega arith; gid = λ i. omega arith; mst = λ i. omega arith; ack = λ i. omega arith }

    pub back_allowed : Allowed back
    unfolding epochs
    back_allowed =
        record {
          lcas = refl;
          some = omega arith;
          most = omega arith;
          first = r.number;
          gid = λ i. omega arith;
          mst = λ t. ltb-true (mst t) 256 (below_at (c.until + 1) (λ i. get_or (get_or c.said i []) 0 0 <? 256) r.fits (c.until - t) (omega arith));
          ack = λ t. ltb-true (ack t) 2 (below_at (c.until + 1) (λ i. get_or (get_or c.said i []) 1 0 <? 2) r.bits (c.until - t) (omega arith));
        }

    pub came_is : (i p : ℕ) → p < c.slots → came i p ≡ packet_sent history i (pairing p)
    came_is i p h = go (i ≤? c.until) refl
      where
        go : (b : Bool) → (i ≤? c.until) ≡ b → (if b then packet i p else packet_sent history i (pairing p)) ≡ packet_sent history i (pairing p)
        go false e = refl
        go true e =
            same_bytes_lem (packet i p) (packet_sent history i (pairing p))
            (below_at c.slots (λ p. same_bytes (packet i p) (packet_sent history i (pairing p)))
            (below_at (c.until + 1) (λ i. below c.slots (λ p. same_bytes (packet i p) (packet_sent history i (pairing p)))) r.sent i (let l = leb-true i c.until e in omega arith))
            p h)

    -- all payload is zero
    zeros : (n i : ℕ) → ◌≡◌ {A = ℕ} (get_or (tabulate n (λ j. 0)) i 0) 0
    zeros zero i = refl
    zeros (suc n) zero = refl
    zeros (suc n) (suc i) = zeros n i

    zero_by : (w : Answer) (X n rank : ℕ) → under_done w (member_frame X 1 (tabulate n (λ j. 0)) rank) (0 ∷ []) ≡ 0 ∷ []
    zero_by Done X n rank = ap (λ (b : ℕ). b ∷ []) (go (rank <? X))
      where
        go : (b : Bool) → ◌≡◌ {A = ℕ} (if b then get_or (tabulate n (λ j. 0)) (0 * X + rank) 0 else 0) 0
        go true = zeros n (0 * X + rank)
        go false = refl
    zero_by Range X n rank = refl
    zero_by Length X n rank = refl

    abbrev now : ℕ → Sender
    now x = sender_at history (epoch_at 0 x)

    zero_in : (x slot : ℕ) (b d : Bool) → 0 ∷ [] ≡ (if b then (if d then spread_one (x_of (now x)) 1 (rank_in (now x) slot) (client x) (0 ∷ []) else 0 ∷ []) else 0 ∷ [])
    zero_in x slot false d = refl
    zero_in x slot true false = refl
    zero_in x slot true true = sym (zero_by (one_answer (x_of (now x)) 1 (length (client x)) 1) (x_of (now x)) (x_at history (epoch_at 0 x) * 1) (rank_in (now x) slot))

    payload_is : (x slot : ℕ) → 0 ∷ [] ≡ (if has_rank history x slot then payload_sent history 1 client x slot else 0 ∷ [])
    unfolding payload_sent payload_bytes
    payload_is x slot = zero_in x slot (has_rank history x slot) (slot <? slot_count (now x).table.count && payload_right (now x).table.kind 1 && (now x).begun)

    pub sends_is : link.sending ≡ sending_of history 1 client (λ x slot. 0 ∷ [])
    sends_is = ap sending_by (λ i x slot. payload_is x slot i)

    unfoldable pub met : Assumed link
    unfolding frames
    met =
        record {
          history = history;
          allowed = allowed;
          unranked = λ x slot. 0 ∷ [];
          unranked_long = λ x slot h. refl;
          sends = sends_is;
          all = refl;
          paired = record { below = λ p h. omega arith; once = λ p q hp hq e. omega arith };
          lines = record {
            sizes = r.sizes;
            client = λ x. length_tabulate (x_at history (epoch_at 0 x) * 1) (λ j. 0);
            spread = λ p q hp hq. omega arith;
            once = λ t p h. r.once p h;
            only = λ t. r.only;
            arrived = λ i p h. inl (came_is i p h);
            spared = λ t p done rest h is_order come un w.
                ap (λ (l : List ℕ). symbol_of 0 (get_or l ((t - c.out * 16) % frames 0) 0)) (came_is (epoch_at 0 (t - c.out * 16)) p h);
            room = λ j. (let l = length-replicate {A = ℕ} (c.slots * 16 * 1) 0 in rw l (omega arith));
            eight = λ a j. refl;
          };
        }

    pub from_fresh : Started link receiver
    from_fresh =
        record {
          hold = c.hold;
          restore = c.restore;
          hold_times = r.hold_times;
          restore_times = r.restore_times;
          rows = replicate (rows_for c.slots) (replicate 16 0xFF);
          store = replicate (c.slots * 16 * (1 + 1)) 0xFF;
          rows_long = length-replicate {A = List ℕ} (rows_for c.slots) (replicate 16 0xFF);
          store_long = length-replicate {A = ℕ} (c.slots * 16 * (1 + 1)) 0xFF;
          is = refl;
        }

    unfoldable pub joined : Joined link receiver c.out c.back c.until
    unfolding frames
    joined =
        record {
          out = met;
          started = from_fresh;
          undamaged = came_is;
          delayed = λ p h. refl;
          back = back;
          back_allowed = back_allowed;
          back_kind = refl;
          from = 0;
          from_below = omega arith;
          mst = λ t h. ap (λ (l : List ℕ). get_or l 0 0) (reply_at_lem link receiver c.first refl c.until c.said r.replied t h);
          ack = λ t h. ap (λ (l : List ℕ). get_or l 1 0) (reply_at_lem link receiver c.first refl c.until c.said r.replied t h);
        }

    -- what is handed over is what the back packet says
    pub told : (t : ℕ) → report t ≡ come_back joined t
    unfolding joined epoch_number epochs
    told t = ap (λ (l : List Call). if c.back + 1 ≤? t then l else []) (sym (report_at_lem back back_allowed (t - (c.back + 1)) 0 (omega arith)))
