-- A port that was FAIL as its ADD came and waits one epoch to restore. An older far end had sent ADD under the number 64, which no port can claim; the first report that takes in ADD 0 is the one in which the port's claim first stands.
-- The slot is not active at start 34, and is at start 35, which is 34 + 1; and the OK is the port's own.
use Rattle.std.specs.Prelude.{◌≡◌, refl, true, false, List, [], ◌∷◌, ◌++◌, ℕ, ◌+◌, replicate}
use Rattle.std.proofs.Common.{arith}
use Rattle.packet.specs.Kinds.{mst_epochs}
use Rattle.packet.specs.Layout.{h4_of, nibbles_of}
use Rattle.packet.specs.Words.{ADD}
use Rattle.sender.specs.Numbering.{state_in}
use Rattle.sender.specs.Table.{is_active}
use Rattle.invariant.specs.Calls.{Receiver, ReceiverCall, receiver_after}
use Rattle.invariant.specs.Calls.ReceiverCall.{Fetch, Frame}
use Rattle.invariant.specs.Reports.{reports_of}
use Rattle.link.specs.Samples.Computing.{outcome}
use Rattle.sure_add.specs.Own.{OwnOk}
use Rattle.sure_add.specs.Rounds.{table_of}
use Rattle.sure_add.specs.Samples.Trial.{Right, Trial, all_checks, asked, checks, lent, number_free, output, path, rounds, run_by}
use Rattle.sure_add.specs.Theorems.{own_ok, sure_add_over}
use Rattle.sure_add.specs.Within.{ActiveWithin, bound}

abbrev packet : (number e : ℕ) → List ℕ
packet number e = h4_of (nibbles_of (record { epoch = e; word = record { 0 = ADD }; gid = 1; mst = 0xFF; rs_ack = 0; sq = number; reserved = 0 }))

abbrev frames_of : List ℕ → List ReceiverCall
frames_of [] = []
frames_of (b ∷ bytes) = Frame 0 false b (0x5A ∷ []) ∷ frames_of bytes

-- an epoch of the older far end, and one of ours
abbrev older : ℕ → List ReceiverCall
older e = frames_of (packet 64 e)

abbrev ours : ℕ → List ReceiverCall
ours e = frames_of (packet 0 e)

-- frames give no report
frames_none : (x : Receiver) (bytes : List ℕ) → reports_of x (frames_of bytes) ≡ []
frames_none x [] = refl
frames_none x (b ∷ bytes) = frames_none (receiver_after x (Frame 0 false b (0x5A ∷ []))) bytes

-- receiving begins in epoch 3, epoch 4 is gathered and epoch 5 reported; then the first ADD 0 comes, in epoch 6. MST says OK of number 0 in the one reply that speaks of it behind the wait.
abbrev trial : Trial
trial =
    record {
      slots = 1;
      calls = [];
      slot = 0;
      number = 0;
      out = 0;
      back = 0;
      handed = λ k. true;
      first = 30;
      msts = replicate 34 255 ++ (127 ∷ 255 ∷ []);
      count = 1;
      restore = 1 ∷ [];
      wait = 1;
      port = 0;
      earlier = older 1 ++ (older 2 ++ (older 3 ++ (older 4 ++ (older 5 ++ (Fetch output lent ∷ ours 6)))));
      later = λ n. ours (7 + n);
      more = 33;
    }

right : Right trial
unfolding outcome run_by checks all_checks table_of
right =
    record {
      below_count = omega arith;
      started = refl;
      none_between = λ n x. frames_none x (packet 0 (7 + n));
      handed = λ k from. refl;
      reports = refl;
      tables = refl;
      accepted = refl;
      own = refl;
      size = refl;
      others = refl;
      under_way_lem = refl;
    }

active_then : (is_active (state_in (table_of (rounds trial) 0 34) 0) ≡ false) × (is_active (state_in (table_of (rounds trial) 0 35) 0) ≡ true)
unfolding outcome table_of
active_then = (refl, refl)

come_true : ActiveWithin (table_of (rounds trial) 0) 0 0 (bound 0 0 0 1)
unfolding bound mst_epochs
come_true = sure_add_over (rounds trial) 0 0 0 0 1 refl (path trial right) (asked trial right)

its_own : OwnOk (rounds trial) 0 0 0 0 (bound 0 0 0 1)
unfolding bound mst_epochs
its_own = own_ok (rounds trial) 0 0 0 0 1 refl (path trial right) (asked trial right) (number_free trial right)
