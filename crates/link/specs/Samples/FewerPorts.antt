-- A link with fewer ports than slots. Of three slots one was a member and is removed while the first frames come; the receiver has two ports, for the other two.
use Rattle.std.specs.Prelude.{◌≡◌, refl, ◌≢◌, Bool, true, false, ◌||◌, List, [], ◌∷◌, ℕ, zero, suc, ◌+◌, ◌-◌, ◌*◌, ◌%◌, ◌≤◌, ◌<◌, get_or, length, if◌then◌else◌, ◌==◌}
use Rattle.std.proofs.Common.{ap, ◌∙◌, ⊎_elim, inl, arith, eqb-true, le-ltb}
use Rattle.std.proofs.lemmas.List.{length-replicate}
use Rattle.ground.specs.Finite.{below_at}
use Rattle.ground.specs.Plain.{◌<?◌}
use Rattle.ground.specs.Table.{length_tabulate, tabulate}
use Rattle.ground.specs.Truth.{le_or_lt}
use Rattle.packet.specs.Kinds.{epochs, frames, payload_right, tags}
use Rattle.packet.specs.Words.{IDLE}
use Rattle.phases.specs.Sizes.{known_kind, sized, start_sized}
use Rattle.sender.specs.Board.{board_of}
use Rattle.sender.specs.Epochs.{on_table, packet_fields, sender_run, start_epoch_of, started_sender}
use Rattle.sender.specs.declared.epochs.Sender.{Sender}
use Rattle.sender.specs.Calls.{Call}
use Rattle.sender.specs.Calls.Call.{AddSlot, Lapse, RemoveSlot, Report}
use Rattle.sender.specs.Ranks.{row_at}
use Rattle.link.specs.Demand3.{Demand3}
use Rattle.link.specs.History.{Allowed, Handed, History, packet_sent, sender_at, sending_of, word_sent, x_at}
use Rattle.link.specs.Link.{AssumedOver, Link}
use Rattle.link.specs.Sending.{Client, Covered, epoch_at, epoch_start}
use Rattle.link.specs.Theorems.{demand3_over, histories_lawful}
use Rattle.link.specs.Samples.Computing.{outcome}
use Rattle.link.specs.Samples.Members.{lent, output, unranked}
use Rattle.link.specs.Samples.Met.{once, only}
use Rattle.link.specs.Samples.Reports.{sure}
use Rattle.link.specs.Samples.Tracing.{course, outcome_by_lem}

-- the commands and reports before each epoch's start
abbrev calls : List (List Call)
calls =
    []
    -- slots 2 and 0 are to be added
    ∷ (AddSlot 2 ∷ AddSlot 0 ∷ [])
    -- both are active: a wait opens
    ∷ (Report 0 0x00 0 ∷ [])
    ∷ (Lapse ∷ [])
    -- slot 2 is removed: it is IDLE from the epoch at index 4 on
    ∷ (RemoveSlot 2 ∷ [])
    -- slot 1 is to be added
    ∷ (Lapse ∷ AddSlot 1 ∷ [])
    ∷ []
    ∷ []
    -- it is active: its payload begins with the epoch at index 9
    ∷ (Report 0 0x00 0 ∷ [])
    ∷ []

abbrev history : History
history = record { kind = 0; slots = 3; first = 0; before = λ i. get_or calls i []; gid = λ i. 0; mst = λ i. 255; ack = λ i. 0 }

abbrev client : Client
client x = tabulate (x_at history (epoch_at 0 x) * 1) (λ j. (x * 2 + j) % 256)

-- slot 1 reaches port 0, and slot 0 port 1
abbrev pairing : ℕ → ℕ
pairing p = 1 - p

-- The first frames are those at positions 57 and 60, of the epoch at index 3. Slot 2 still sends its packet in that epoch, and no port gets it.
abbrev link : Link
link =
    record {
      sending = sending_of history 1 client unranked;
      ports = 2;
      payload = 1;
      window = 20;
      client = client;
      pairing = pairing;
      came = λ i p. packet_sent history i (pairing p);
      delay = λ p. if p == 0 then 4 else 0;
      first = λ p. if p == 0 then 57 else 60;
      order = λ t. if t % 2 == 0 then 0 ∷ 1 ∷ [] else 1 ∷ 0 ∷ [];
      output = λ j. output;
      lent = λ a j. lent;
    }

member_then : word_sent history 3 2 ≢ IDLE
unfolding outcome
member_then e = absurd (omega arith)

-- Slot 2 is IDLE in every epoch after that: the commands end, and then the table stays.

no_more : {A : Type 0} (l : List A) (k : ℕ) (z : A) → length l ≤ k → get_or l k z ≡ z
no_more [] k z h = refl
no_more (x ∷ l) zero z h = absurd (omega arith)
no_more (x ∷ l) (suc k) z h = no_more l k z (omega arith)

-- slot 2 in the board of a sender's table
abbrev idle_in : Sender → Type 0
idle_in s = (row_at (board_of s.table).rows 2).word.0 ≡ IDLE

stays : (i : ℕ) → 9 ≤ i → idle_in (sender_at history i) → idle_in (sender_at history (suc i))
unfolding sender_at start_epoch_of started_sender
stays i h w = rw (no_more calls (suc i) [] (omega arith)) w

stays_on : (n : ℕ) → idle_in (sender_at history (n + 9))
unfolding outcome
stays_on zero = refl
stays_on (suc n) = let e : suc n + 9 ≡ suc (n + 9) = omega arith in rw e (stays (n + 9) (omega arith) (stays_on n))

then_sent : (i : ℕ) → 9 ≤ i → idle_in (sender_at history i) → word_sent history (suc i) 2 ≡ IDLE
unfolding sender_at start_epoch_of started_sender packet_fields
then_sent i h w = ap (λ (cs : List Call). (row_at (board_of (sender_run (sender_at history i) (on_table cs)).table).rows 2).word.0) (no_more calls (suc i) [] (omega arith)) ∙ w

sent_early : (i : ℕ) → i < 10 → (i <? 4 || word_sent history i 2 == IDLE) ≡ true
unfolding outcome
sent_early = below_at 10 (λ i. i <? 4 || word_sent history i 2 == IDLE) refl

idle_later : (i : ℕ) → 4 ≤ i → word_sent history i 2 ≡ IDLE
idle_later i h = ⊎_elim late early (le_or_lt 10 i)
  where
    late : 10 ≤ i → word_sent history i 2 ≡ IDLE
    late l =
        let e : suc (i - 10 + 9) ≡ i = omega arith in
        rw e at (then_sent (i - 10 + 9) (omega arith) (stays_on (i - 10)))

    early : i < 10 → word_sent history i 2 ≡ IDLE
    early l = eqb-true (word_sent history i 2) IDLE (rw (le-ltb i 4 h) at (sent_early i l))

covered : (i : ℕ) → 57 < epoch_start 0 i → Covered link.sending i 2 pairing
unfolding frames
covered i from zero b d = record { port = 1; below = omega arith; is = refl }
covered i from (suc zero) b d = record { port = 0; below = omega arith; is = refl }
covered i from (suc (suc zero)) b d = absurd (d (idle_later i (omega arith)))
covered i from (suc (suc (suc slot))) b d = absurd (omega arith)

allowed : Allowed history
unfolding epochs
allowed = record { lcas = refl; some = omega arith; most = omega arith; first = omega arith; gid = λ i. omega arith; mst = λ i. omega arith; ack = λ i. omega arith }

handed : Handed history 1 client
unfolding payload_right
handed = record { least = omega arith; most = omega arith; payload_right_lem = refl; whole = λ x. length_tabulate (x_at history (epoch_at 0 x) * 1) (λ j. (x * 2 + j) % 256) }

late : (b : Bool) → (if b then 4 else 0) ≤ 4
late true = omega arith
late false = omega arith

first_from : (b : Bool) → 57 ≤ (if b then 57 else 60)
first_from true = omega arith
first_from false = omega arith

-- It meets what demand 3 over any sending side lets be so, with 57 as the earliest position.
met : AssumedOver link
unfolding known_kind sized frames tags payload_right start_sized
met =
    record {
      lawful = histories_lawful history allowed 1 client handed unranked (λ x slot b. refl);
      lines = record {
        sizes = refl;
        client = handed.whole;
        spread = λ p q hp hq. (let h = late (p == 0) in omega arith);
        once = λ t p h. once (t % 2 == 0) p h;
        only = λ t. only (t % 2 == 0);
        arrived = λ i p h. inl refl;
        spared = λ t p done rest h is_order come un brings. refl;
        room = λ j. omega (arith, length-replicate {A = ℕ} 33 0xEE);
        eight = λ a j. refl;
      };
      paired = record { below = λ p h. omega arith; once = λ p q hp hq e. omega arith };
      earliest = 57;
      not_before = λ p h. first_from (p == 0);
      covered = covered;
    }

holds : Demand3 link
holds = demand3_over link met

-- Its run: one member, then two.
run
    : outcome link 164
    ≡ record {
      begun = 1;
      told =
          sure 8 (0 ∷ 2 ∷ 4 ∷ 6 ∷ 8 ∷ 10 ∷ 12 ∷ 14 ∷ 16 ∷ 18 ∷ 20 ∷ 22 ∷ 24 ∷ 26 ∷ 28 ∷ 30 ∷ [])
          ∷ sure 9 (32 ∷ 33 ∷ 34 ∷ 35 ∷ 36 ∷ 37 ∷ 38 ∷ 39 ∷ 40 ∷ 41 ∷ 42 ∷ 43 ∷ 44 ∷ 45 ∷ 46 ∷ 47 ∷ 48 ∷ 49 ∷ 50 ∷ 51 ∷ 52 ∷ 53 ∷ 54 ∷ 55 ∷ 56 ∷ 57 ∷ 58 ∷ 59 ∷ 60 ∷ 61 ∷ 62 ∷ 63 ∷ [])
          ∷ [];
      strange = [];
    }
unfolding outcome course
run = outcome_by_lem link 164 _ refl
