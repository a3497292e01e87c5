-- Each group's link: two ports, for the two slots that it owns once slot 2 has changed hands.
use Rattle.std.specs.Prelude.{List, [], ◌∷◌, ℕ, ◌+◌, ◌-◌, ◌*◌, ◌%◌, if◌then◌else◌, ◌==◌}
use Rattle.ground.specs.Table.{tabulate}
use Rattle.link.specs.History.{History, packet_sent, sending_of, x_at}
use Rattle.link.specs.Link.{Link}
use Rattle.link.specs.Samples.Members.{lent, output, unranked}
use Rattle.link.specs.Sending.{Client, epoch_at}
use Rattle.groups.specs.Samples.Histories.{history₀, history₁}

abbrev pub client₀ : Client
client₀ x = tabulate (x_at history₀ (epoch_at 0 x) * 1) (λ j. (x * 2 + j) % 256)

abbrev pub client₁ : Client
client₁ x = tabulate (x_at history₁ (epoch_at 0 x) * 1) (λ j. (x * 3 + j + 100) % 256)

-- slot 1 reaches port 0 of group 0's receiver, and slot 0 its port 1
abbrev pub pairing₀ : ℕ → ℕ
pairing₀ p = 1 - p

-- slot 2 reaches port 0 of group 1's receiver, and slot 3 its port 1
abbrev pub pairing₁ : ℕ → ℕ
pairing₁ p = 2 + p

abbrev pub first₀ : ℕ → ℕ
first₀ p = if p == 0 then 57 else 60

abbrev pub first₁ : ℕ → ℕ
first₁ p = if p == 0 then 66 else 58

abbrev pub order : ℕ → List ℕ
order t = if t % 2 == 0 then 0 ∷ 1 ∷ [] else 1 ∷ 0 ∷ []

-- P is 1 and W is 20. Port 0 is late by four frames.
abbrev pub link_of : (history : History) (client : Client) (pairing first : ℕ → ℕ) → Link
link_of history client pairing first =
    record {
      sending = sending_of history 1 client unranked;
      ports = 2;
      payload = 1;
      window = 20;
      client = client;
      pairing = pairing;
      came = λ i p. packet_sent history i (pairing p);
      delay = λ p. if p == 0 then 4 else 0;
      first = first;
      order = order;
      output = λ j. output;
      lent = λ a j. lent;
    }

-- The earliest frames are of the epoch at index 3. In group 0's, slot 2 still sends its packet, and no port gets it.
abbrev pub link₀ : Link
link₀ = link_of history₀ client₀ pairing₀ first₀

-- Slot 2 sends for group 1 from its next epoch on, and so its first frame there is of the epoch at index 4.
abbrev pub link₁ : Link
link₁ = link_of history₁ client₁ pairing₁ first₁
