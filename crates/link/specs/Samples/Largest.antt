-- What demand 3 lets be so is so of links at the largest sizes, with 64 ports and whatever commands and reports come: of H4 with P 2,340, W 2,048, a spread of exactly W - 16 and the first epoch 255; of VC-12 with P 136, W 512, a spread of exactly W - 32 and the first epoch 31;
-- and of a fixed group of 64 at H4's sizes.
use Rattle.std.specs.Prelude.{◌≡◌, refl, Bool, true, false, ◌&&◌, List, [], ◌∷◌, ℕ, ◌+◌, ◌-◌, ◌*◌, ◌%◌, ◌≤◌, ◌<◌, length, replicate, if◌then◌else◌, ◌==◌}
use Rattle.std.proofs.Common.{sym, inl, arith, eqb-true, ltb-true}
use Rattle.std.proofs.lemmas.List.{length-replicate}
use Rattle.ground.specs.Finite.{below_at}
use Rattle.ground.specs.Plain.{◌<?◌}
use Rattle.ground.specs.Table.{tabulate}
use Rattle.ground.specs.Truth.{and_left, and_right}
use Rattle.packet.specs.Kinds.{epochs, fixed_kind, frames, known_kind, payload_right, tags, vc12_kind}
use Rattle.phases.specs.Sizes.{sized, start_sized}
use Rattle.sender.specs.Calls.{Call}
use Rattle.link.specs.Assumed.{Assumed}
use Rattle.link.specs.Demand3.{Demand3}
use Rattle.link.specs.FixedGroup.{AssumedFixed, FixedGroup, Numbered, sending_fixed}
use Rattle.link.specs.History.{History, sending_of, x_at}
use Rattle.link.specs.Link.{Lines, Link}
use Rattle.link.specs.Road.{Below, times}
use Rattle.link.specs.Sending.{Client, Sending, epoch_at}
use Rattle.link.specs.Theorems.{demand3, demand3_fixed}

-- in each frame time the last port comes first
abbrev downwards : List ℕ
downwards = tabulate 64 (λ p. 63 - p)

-- slot 63 reaches port 0; port 0 is late by so many frames, and the ports' first frames are 5,000 positions apart
abbrev link_of : Sending → (P W late : ℕ) → Client → List ℕ → Link
link_of sending P W late client output =
    record {
      sending = sending;
      ports = 64;
      payload = P;
      window = W;
      client = client;
      pairing = λ p. 63 - p;
      came = λ i p. sending.packet i (63 - p);
      delay = λ p. if p == 0 then late else 0;
      first = λ p. p * 5000;
      order = λ t. downwards;
      output = λ j. output;
      lent = λ a j. replicate 8 0xAA;
    }

below_all : List ℕ → Bool
below_all [] = true
below_all (q ∷ qs) = q <? 64 && below_all qs

below_list : (qs : List ℕ) → below_all qs ≡ true → Below 64 qs
unfolding below_all
below_list [] e = tt
below_list (q ∷ qs) e = (ltb-true q 64 (and_left (q <? 64) (below_all qs) e), below_list qs (and_right (q <? 64) (below_all qs) e))

all_below : below_all downwards ≡ true
unfolding below_all
all_below = refl

once : (p : ℕ) → p < 64 → times p downwards ≡ 1
once p h = eqb-true (times p downwards) 1 (below_at 64 (λ k. times k downwards == 1) refl p h)

late_most : (b : Bool) (late : ℕ) → (if b then late else 0) ≤ late
late_most true late = omega arith
late_most false late = omega arith

-- the spread is all that the window lets be, and the output as short as may be
lines : (sending : Sending) (P W late : ℕ) (client : Client) (output : List ℕ) → start_sized sending.kind 64 P W ≡ true → ((x : ℕ) → length (client x) ≡ sending.x (epoch_at sending.kind x) * P)
    → late + frames sending.kind ≡ W → 64 * frames sending.kind * P ≡ length output → Lines (link_of sending P W late client output)
lines sending P W late client output sizes whole wide room =
    record {
      sizes = sizes;
      client = whole;
      spread = λ p q hp hq. let h = late_most (p == 0) late in omega (arith, h, wide);
      once = λ t p h. once p h;
      only = λ t. below_list downwards all_below;
      arrived = λ i p h. inl refl;
      spared = λ t p done rest h is_order come un brings. refl;
      room = λ j. omega (arith, room);
      eight = λ a j. refl;
    }

-- Our sender's, of each kind that it has.
module _ (kind first P W late : ℕ) (before : ℕ → List Call) (output : List ℕ) where
  abbrev history : History
  history = record { kind = kind; slots = 64; first = first; before = before; gid = λ i. i % 2; mst = λ i. i % 256; ack = λ i. (i + 1) % 2 }

  abbrev client : Client
  client x = replicate (x_at history (epoch_at kind x) * P) 0xCC

  abbrev unranked : ℕ → ℕ → List ℕ
  unranked x slot = replicate P 0xDD

  abbrev link : Link
  link = link_of (sending_of history P client unranked) P W late client output

  met : (kind == fixed_kind) ≡ false → first < epochs kind → start_sized kind 64 P W ≡ true → late + frames kind ≡ W → 64 * frames kind * P ≡ length output → Assumed link
  met lcas begins sizes wide room =
      record {
        history = history;
        allowed = record { lcas = lcas; some = omega arith; most = omega arith; first = begins; gid = λ i. omega arith; mst = λ i. omega arith; ack = λ i. omega arith };
        unranked = unranked;
        unranked_long = λ x slot b. length-replicate P 0xDD;
        sends = refl;
        all = refl;
        paired = record { below = λ p h. omega arith; once = λ p q hp hq e. omega arith };
        lines = lines (sending_of history P client unranked) P W late client output sizes (λ x. length-replicate (x_at history (epoch_at kind x) * P) 0xCC) wide room;
      }

unfoldable pub output_h4 : List ℕ
output_h4 = replicate 2396160 0xEE

room_h4 : 2396160 ≡ length output_h4
unfolding output_h4
room_h4 = sym (length-replicate {A = ℕ} 2396160 0xEE)

pub h4_met : (before : ℕ → List Call) → Assumed (link 0 255 2340 2048 2032 before output_h4)
unfolding sized known_kind frames epochs tags payload_right start_sized
h4_met before = met 0 255 2340 2048 2032 before output_h4 refl (omega arith) refl refl room_h4

pub h4_demanded : (before : ℕ → List Call) → Demand3 (link 0 255 2340 2048 2032 before output_h4)
h4_demanded before = demand3 (link 0 255 2340 2048 2032 before output_h4) (h4_met before)

unfoldable pub output_vc12 : List ℕ
output_vc12 = replicate 278528 0xEE

room_vc12 : 278528 ≡ length output_vc12
unfolding output_vc12
room_vc12 = sym (length-replicate {A = ℕ} 278528 0xEE)

pub vc12_met : (before : ℕ → List Call) → Assumed (link vc12_kind 31 136 512 480 before output_vc12)
unfolding sized known_kind frames epochs tags payload_right start_sized
vc12_met before = met vc12_kind 31 136 512 480 before output_vc12 refl (omega arith) refl refl room_vc12

pub vc12_demanded : (before : ℕ → List Call) → Demand3 (link vc12_kind 31 136 512 480 before output_vc12)
vc12_demanded before = demand3 (link vc12_kind 31 136 512 480 before output_vc12) (vc12_met before)

-- a fixed group, numbered downwards
abbrev group : FixedGroup
group = record { x = 64; first = 255; number = λ slot. 63 - slot; unread = λ i slot place. i + place }

numbered : Numbered group
unfolding epochs
numbered = record { most = omega arith; first = omega arith; low = λ slot b. omega arith; once = λ slot other hs ho e. omega arith }

unfoldable pub group_frame : List ℕ
group_frame = replicate 149760 0xCC

whole : length group_frame ≡ 149760
unfolding group_frame
whole = length-replicate {A = ℕ} 149760 0xCC

abbrev fixed_link : Link
fixed_link = link_of (sending_fixed group 2340 (λ x. group_frame)) 2340 2048 2032 (λ x. group_frame) output_h4

pub fixed_met : AssumedFixed fixed_link
unfolding sized known_kind frames tags payload_right start_sized
fixed_met =
    record {
      group = group;
      numbered = numbered;
      sends = refl;
      all = refl;
      paired = record { below = λ p h. omega arith; once = λ p q hp hq e. omega arith };
      lines = lines (sending_fixed group 2340 (λ x. group_frame)) 2340 2048 2032 (λ x. group_frame) output_h4 refl (λ x. whole) refl room_h4;
    }

pub fixed_demanded : Demand3 fixed_link
fixed_demanded = demand3_fixed fixed_link fixed_met
