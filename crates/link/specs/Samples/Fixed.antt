-- A fixed group that demand 3 speaks of (request 2026-12), and its run computed to the reports: three slots with the numbers 2, 0 and 1.
use Rattle.std.specs.Prelude.{◌≡◌, refl, List, [], ◌∷◌, ℕ, zero, suc, ◌+◌, ◌-◌, ◌*◌, ◌%◌, ◌<◌, replicate}
use Rattle.std.proofs.Common.{inl, arith}
use Rattle.std.proofs.lemmas.List.{length-replicate}
use Rattle.ground.specs.Table.{tabulate}
use Rattle.ground.specs.Types.{Epoch}
use Rattle.judge.specs.Verdict.{SURE}
use Rattle.packet.specs.Kinds.{epochs, frames, payload_right, tags}
use Rattle.phases.specs.Sizes.{known_kind, sized, start_sized}
use Rattle.link.specs.Demand3.{Demand3}
use Rattle.link.specs.FixedGroup.{AssumedFixed, FixedGroup, Numbered, fixed_sent, sending_fixed}
use Rattle.link.specs.Link.{Link, expected}
use Rattle.link.specs.Road.{times}
use Rattle.link.specs.Samples.Computing.{outcome}
use Rattle.link.specs.Samples.Tracing.{course, outcome_by_lem}
use Rattle.link.specs.Sending.{Client}
use Rattle.link.specs.Theorems.{demand3_fixed}
use Rattle.link.specs.Told.{Told}

abbrev group : FixedGroup
group = record { x = 3; first = 249; number = λ slot. (slot + 2) % 3; unread = λ i slot place. i + slot * 5 + place }

-- P is 1: three bytes to a group frame, from position 0 on
abbrev client : Client
client x = tabulate 3 (λ j. (x * 3 + j) % 256)

-- as short as may be: 3 x 16 x 1
abbrev output : List ℕ
output = replicate 48 0xEE

-- slot 2 reaches port 0, slot 0 port 2; port 0 is late by four frames and port 1 by two
abbrev link : Link
link =
    record {
      sending = sending_fixed group 1 client;
      ports = 3;
      payload = 1;
      window = 20;
      client = client;
      pairing = λ p. 2 - p;
      came = λ i p. fixed_sent group i (2 - p);
      delay = λ p. 4 - p * 2;
      first = λ p. p * 5;
      order = λ t. 0 ∷ 1 ∷ 2 ∷ [];
      output = λ j. output;
      lent = λ a j. replicate 8 0xAA;
    }

numbered : Numbered group
unfolding epochs
numbered = record { most = omega arith; first = omega arith; low = λ slot b. omega arith; once = λ slot other hs ho e. omega arith }

once : (p : ℕ) → p < 3 → times p (0 ∷ 1 ∷ 2 ∷ []) ≡ 1
once zero h = refl
once (suc zero) h = refl
once (suc (suc zero)) h = refl
once (suc (suc (suc p))) h = absurd (omega arith)

met : AssumedFixed link
unfolding known_kind sized frames tags payload_right start_sized
met =
    record {
      group = group;
      numbered = numbered;
      sends = refl;
      all = refl;
      paired = record { below = λ p h. omega arith; once = λ p q hp hq e. omega arith };
      lines = record {
        sizes = refl;
        client = λ x. refl;
        spread = λ p q hp hq. omega arith;
        once = λ t p h. once p h;
        only = λ t. (omega arith, (omega arith, (omega arith, tt)));
        arrived = λ i p h. inl refl;
        spared = λ t p done rest h is_order come un brings. refl;
        room = λ j. omega (arith, length-replicate {A = ℕ} 48 0xEE);
        eight = λ a j. refl;
      };
    }

-- 'not looked at in reading': what the neighbour puts there is sent, here from 6 on and, behind the word, from 1 on
unread_sent : fixed_sent group 1 1 ≡ 0x68 ∷ 0x79 ∷ 0x8A ∷ 0x9B ∷ 0xAC ∷ 0xBD ∷ 0x0E ∷ 0x0F ∷ 0xF0 ∷ 0xA1 ∷ 0x02 ∷ 0x13 ∷ 0x24 ∷ 0x35 ∷ 0x46 ∷ 0x57 ∷ []
unfolding outcome
unread_sent = refl

pub demanded : Demand3 link
demanded = demand3_fixed link met

-- a sure report with 48 bytes, each one more than the one before
abbrev sure : Epoch → ℕ → Told
sure e from = record { epoch = e; mark = SURE; bytes = tabulate 48 (λ b. (from + b) % 256); rest = [] }

-- The epochs 254, 255 and 0 come out in the order of the numbers. No frame is answered otherwise than by 0 or 12.
run : outcome link 132 ≡ record { begun = 1; told = sure 254 240 ∷ sure 255 32 ∷ sure 0 80 ∷ []; strange = [] }
unfolding outcome course
run = outcome_by_lem link 132 _ refl

-- the reports that demand 3 says are to come
as_expected : tabulate 3 (λ j. expected link (4 + j) (link.output j)) ≡ sure 254 240 ∷ sure 255 32 ∷ sure 0 80 ∷ []
unfolding outcome
as_expected = refl
