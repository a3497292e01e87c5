-- Wrong readings of 'demand 3 per group with its own ports, one for each slot it owns' (02, 2026-06), each with a run of the sample's card on which it breaks.
use Rattle.std.specs.Prelude.{◌≡◌, refl, ◌≢◌, true, false, [], ◌∷◌, replicate, if◌then◌else◌, ◌==◌}
use Rattle.std.proofs.Common.{arith}
use Rattle.ground.specs.Types.{Epoch}
use Rattle.judge.specs.Verdict.{HELD}
use Rattle.packet.specs.Words.{IDLE}
use Rattle.cards.specs.Parts.{owns}
use Rattle.link.specs.History.{History, number_sent, packet_sent, word_sent, x_at}
use Rattle.link.specs.Link.{Link}
use Rattle.link.specs.Samples.Computing.{outcome}
use Rattle.link.specs.Samples.Members.{lent, output, unranked}
use Rattle.link.specs.Samples.Reports.{held, sure}
use Rattle.link.specs.Samples.Tracing.{course, outcome_by_lem}
use Rattle.link.specs.Sending.{Covered, Sending}
use Rattle.link.specs.Told.{Told}
use Rattle.groups.specs.Cards.{card_at}
use Rattle.groups.specs.Samples.Calls.{card}
use Rattle.groups.specs.Samples.Histories.{computed, history₀, history₁}
use Rattle.groups.specs.Samples.Links.{client₀, client₁, link₀, link₁, pairing₀}

abbrev held_of : Epoch → Told
held_of e = record { epoch = e; mark = HELD; bytes = []; rest = replicate 48 0xEE }

-- A port for each slot that the group ever owned. Slot 2 was group 0's, and now it sends what a history of the other group has for it.
wrong_sending : History → Sending
wrong_sending other =
    record {
      kind = 0;
      slots = 4;
      first = 0;
      packet = λ i slot. if slot == 2 then packet_sent other i slot else packet_sent history₀ i slot;
      word = λ i slot. if slot == 2 then word_sent other i slot else word_sent history₀ i slot;
      number = λ i slot. if slot == 2 then number_sent other i slot else number_sent history₀ i slot;
      gid = λ i slot. if slot == 2 then other.gid i else history₀.gid i;
      x = x_at history₀;
      payload = λ x slot. if slot == 2 then unranked x slot else link₀.sending.payload x slot;
      changes = 3;
    }

wrong_ports : History → Link
wrong_ports other =
    record {
      sending = wrong_sending other;
      ports = 3;
      payload = 1;
      window = 20;
      client = client₀;
      pairing = λ p. p;
      came = (wrong_sending other).packet;
      delay = λ p. 0;
      first = λ p. 57;
      order = λ t. 0 ∷ 1 ∷ 2 ∷ [];
      output = λ j. replicate 48 0xEE;
      lent = λ a j. lent;
    }

-- Its frames have the tags of group 1's epochs, and group 0's receiver does not begin, though over a hundred frames have come to each of its ports.
ports_break : outcome (wrong_ports history₁) 164 ≡ record { begun = 0; told = []; strange = [] }
unfolding wrong_ports wrong_sending outcome course
ports_break = outcome_by_lem (wrong_ports history₁) 164 _ refl

-- Where both groups' epochs have the same numbers and one GID, it does begin, and holds every epoch: EOS comes from both groups, and number 1 twice.
alike : History
alike = record { kind = 0; slots = 4; first = 0; before = history₁.before; gid = λ i. 0; mst = λ i. 255; ack = λ i. 0 }

all_held : outcome (wrong_ports alike) 164 ≡ record { begun = 1; told = held_of 8 ∷ held_of 9 ∷ []; strange = [] }
unfolding wrong_ports wrong_sending alike outcome course
all_held = outcome_by_lem (wrong_ports alike) 164 _ refl

-- The slots that the group owns as the earliest frame is sent, whatever it claims later. Group 1 then has slot 3 alone, a port for it, and claims slot 2 in its next epoch. Its packets all come as sent; the epochs that both members carry are held.
wrong_clause : Link
wrong_clause =
    record {
      sending = link₁.sending;
      ports = 1;
      payload = 1;
      window = 20;
      client = client₁;
      pairing = λ p. 3;
      came = λ i p. packet_sent history₁ i 3;
      delay = λ p. 0;
      first = λ p. 40;
      order = λ t. 0 ∷ [];
      output = λ j. output;
      lent = λ a j. lent;
    }

one_slot : (owns (card_at card 24) 1 2 ≡ false) × (owns (card_at card 24) 1 3 ≡ true) × (owns (card_at card 35) 1 2 ≡ true)
unfolding computed
one_slot = (refl, refl, refl)

clause_breaks
    : outcome wrong_clause 164
    ≡ record {
      begun = 1;
      told =
          sure 0 (132 ∷ 135 ∷ 138 ∷ 141 ∷ 144 ∷ 147 ∷ 150 ∷ 153 ∷ 156 ∷ 159 ∷ 162 ∷ 165 ∷ 168 ∷ 171 ∷ 174 ∷ 177 ∷ [])
          ∷ sure 1 (180 ∷ 183 ∷ 186 ∷ 189 ∷ 192 ∷ 195 ∷ 198 ∷ 201 ∷ 204 ∷ 207 ∷ 210 ∷ 213 ∷ 216 ∷ 219 ∷ 222 ∷ 225 ∷ [])
          ∷ held 2
          ∷ held 3
          ∷ [];
      strange = [];
    }
unfolding wrong_clause outcome course
clause_breaks = outcome_by_lem wrong_clause 164 _ refl

-- A port for each slot that is not IDLE in the epoch of the earliest frame too. Slot 2 was a member as that epoch started, and was released before the frame at 57 was sent; group 0's link would be shut out, whose run is as it should be.
member_then : word_sent history₀ 3 2 ≢ IDLE
unfolding outcome
member_then e = absurd (omega arith)

too_early : Covered link₀.sending 3 2 pairing₀ → ⊥
too_early covered = let r = covered 2 (omega arith) member_then in let e = r.is in absurd (omega arith)
