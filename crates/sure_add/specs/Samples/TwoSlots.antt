-- Two slots and two ports with delays of one epoch out and two back, and no times. Slot 0 is active; slot 1 is added behind the back packet that is handed over at start 1. All that the request's first sentences ask is so.
-- The slot is not active at start 36, and is at start 37, which is 34 + 1 + 2; and the OK is its port's own.
use Rattle.std.specs.Prelude.{◌≡◌, refl, true, false, List, [], ◌∷◌, ◌++◌, ℕ, ◌+◌, replicate}
use Rattle.std.proofs.Common.{arith, lt-ltb}
use Rattle.ground.specs.Plain.{◌<?◌}
use Rattle.packet.specs.Kinds.{mst_epochs}
use Rattle.packet.specs.Layout.{h4_of, nibbles_of}
use Rattle.packet.specs.Words.{ADD, EOS, IDLE}
use Rattle.sender.specs.Calls.Call.{AddSlot, Lapse, Report}
use Rattle.sender.specs.Numbering.{state_in}
use Rattle.sender.specs.Table.{is_active}
use Rattle.invariant.specs.Calls.{Receiver, ReceiverCall, receiver_after}
use Rattle.invariant.specs.Calls.ReceiverCall.{Fetch, Frame}
use Rattle.invariant.specs.Reports.{reports_of}
use Rattle.link.specs.Samples.Computing.{outcome}
use Rattle.sure_add.specs.Own.{OwnOk}
use Rattle.sure_add.specs.Rounds.{before, table_of}
use Rattle.sure_add.specs.Samples.Trial as Trials
use Rattle.sure_add.specs.Samples.Trial.{Right, Trial, all_checks, asked, checks, lent, number_free, output, path, rounds, run_by}
use Rattle.sure_add.specs.Theorems.{as_asked, own_ok}
use Rattle.sure_add.specs.Within.{ActiveWithin, bound}

abbrev packet : (word number e : ℕ) → List ℕ
packet word number e = h4_of (nibbles_of (record { epoch = e; word = record { 0 = word }; gid = 1; mst = 0xFF; rs_ack = 0; sq = number; reserved = 0 }))

-- the frames of both ports, port 0 first
abbrev frames_of : List ℕ → List ℕ → List ReceiverCall
frames_of [] others = []
frames_of (b ∷ bytes) [] = []
frames_of (b ∷ bytes) (d ∷ others) = Frame 0 false b (0x5A ∷ []) ∷ Frame 1 false d (0x5A ∷ []) ∷ frames_of bytes others

-- an epoch before the ADD, and one with it
abbrev earlier : ℕ → List ReceiverCall
earlier e = frames_of (packet EOS 0 e) (packet IDLE 255 e)

abbrev adding : ℕ → List ReceiverCall
adding e = frames_of (packet EOS 0 e) (packet ADD 1 e)

-- frames give no report
frames_none : (x : Receiver) (bytes others : List ℕ) → reports_of x (frames_of bytes others) ≡ []
frames_none x [] others = refl
frames_none x (b ∷ bytes) [] = refl
frames_none x (b ∷ bytes) (d ∷ others) = frames_none (receiver_after (receiver_after x (Frame 0 false b (0x5A ∷ []))) (Frame 1 false d (0x5A ∷ []))) bytes others

-- receiving begins in epoch 3, epoch 4 is gathered and epoch 5 reported; then the first ADD 1 comes, in epoch 6. Of what is under way one packet says OK of number 0 alone; the one reply behind it that speaks of both says OK of both.
abbrev trial : Trial
trial =
    record {
      slots = 2;
      calls = AddSlot 0 ∷ Report 0 0x7F 0 ∷ Lapse ∷ [];
      slot = 1;
      number = 1;
      out = 1;
      back = 2;
      handed = λ k. 0 <? k;
      first = 28;
      msts = replicate 4 255 ++ (127 ∷ (replicate 31 255 ++ (63 ∷ [])));
      count = 2;
      restore = [];
      wait = 0;
      port = 1;
      earlier = earlier 1 ++ (earlier 2 ++ (earlier 3 ++ (earlier 4 ++ (earlier 5 ++ (Fetch output lent ∷ adding 6)))));
      later = λ n. adding (7 + n);
      more = 34;
    }

right : Right trial
unfolding outcome run_by checks all_checks table_of
right =
    record {
      below_count = omega arith;
      started = refl;
      none_between = λ n x. frames_none x (packet EOS 0 (7 + n)) (packet ADD 1 (7 + n));
      handed = λ k from. lt-ltb 0 k (omega arith);
      reports = refl;
      tables = refl;
      accepted = refl;
      own = refl;
      size = refl;
      others = refl;
      under_way_lem = refl;
    }

active_then : (is_active (state_in (table_of (rounds trial) 1 36) 1) ≡ false) × (is_active (state_in (table_of (rounds trial) 1 37) 1) ≡ true)
unfolding outcome table_of
active_then = (refl, refl)

shut : (before (rounds trial)).wait ≡ false
unfolding outcome
shut = refl

come_true : ActiveWithin (table_of (rounds trial) 1) 1 0 (bound 0 1 2 0)
unfolding bound mst_epochs
come_true = as_asked (rounds trial) 1 2 1 1 refl (path trial right) (Trials.as_asked trial right refl shut)

its_own : OwnOk (rounds trial) 1 2 1 1 (bound 0 1 2 0)
unfolding bound mst_epochs
its_own = own_ok (rounds trial) 1 2 1 1 0 refl (path trial right) (asked trial right) (number_free trial right)
