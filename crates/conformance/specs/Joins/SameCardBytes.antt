-- Demand 3 for each group of a card (02, 2026-06), joined to the bytes of the card's C calls: after the C calls of a history each slot of the group's ports is written, with 0, the packet and payload that its link has as sent.
use Rattle.std.specs.Prelude.{◌≡◌, refl, ◌≢◌, Bool, true, List, ◌∷◌, ℕ, zero, suc, ◌≤◌, ◌<◌, length, if◌then◌else◌}
use Rattle.std.proofs.Common.{sym, ◌∙◌}
use Rattle.std.proofs.Math.Path.{ap}
use Rattle.c_cards.specs.CardRuns.{numbers_fit, meant, state_after_all}
use Rattle.c_cards.specs.Cards.{card_of, packet_answer_on, packet_bytes_on, part_in, payload_answer_on, payload_bytes_on, start_answer_on, start_state_on}
use Rattle.c_face.specs.Keeping.{sender_of}
use Rattle.c_cards.specs.Theorems.CardRuns.{card_runs_own, card_runs_sized, part_of}
use Rattle.c_cards.specs.Theorems.CratesOwn.{card_packet_own, card_payload_own}
use Rattle.cards.specs.Answers.{answer_number}
use Rattle.cards.specs.Commands.{start_of}
use Rattle.cards.specs.declared.card.Card.{Card}
use Rattle.cards.specs.Readings.{packet_answer, packet_bytes, payload_answer, payload_bytes}
use Rattle.cards.specs.Parts as P
use Rattle.cards.specs.Views.{Made, run}
use Rattle.ground.specs.Table.{tabulate}
use Rattle.groups.specs.Assumed.{AssumedEach}
use Rattle.groups.specs.Cards.{CardHistory, card_at}
use Rattle.groups.specs.Given.{Gives}
use Rattle.groups.specs.Theorems.{demand3_each, given_each}
use Rattle.link.specs.Demand3.{Demand3}
use Rattle.link.specs.Link.{Link}
use Rattle.link.specs.Sending.{epoch_at}
use Rattle.packet.specs.Kinds.{frames}
use Rattle.sender.specs.declared.epochs.Sender.{Sender}
use Rattle.sender.specs.Epochs.{rank_in}
use Rattle.sender.specs.Ranks.{no_rank}

-- what levelspruce_card_packet and levelspruce_card_payload give a group for one of its slots: what its link has as sent in the i-th epoch
pub record GivesC (kind g : ℕ) (k : Link) (state : List ℕ) (i slot : ℕ) : Type 0 where
  -- into any lent bytes, as many as a packet has
  pub packet_done : (h4 : List ℕ) → length h4 ≡ frames kind → packet_answer_on state g slot h4 ≡ 0
  pub packet : (h4 : List ℕ) → length h4 ≡ frames kind → packet_bytes_on state g slot h4 ≡ k.sending.packet i slot
  -- and into any P bytes, of the client's group frame at each position of the epoch
  pub payload_done : (x : ℕ) (member : List ℕ) → epoch_at kind x ≡ i → length member ≡ k.payload → payload_answer_on state g slot k.payload (k.client x) member ≡ 0
  pub payload : (x : ℕ) (member : List ℕ) → epoch_at kind x ≡ i → length member ≡ k.payload → rank_in (sender_of (part_in g state)) slot ≢ no_rank
      → payload_bytes_on state g slot k.payload (k.client x) member ≡ k.sending.payload x slot

-- calls without a number that is no byte are all meant
all_meant : (n : ℕ) (f : ℕ → Made) → ((j : ℕ) → numbers_fit (f j).asked ≡ true) → meant (tabulate n f) ≡ tabulate n f
all_meant zero f fit = refl
all_meant (suc n) f fit =
    ap (λ (b : Bool). if b then f zero ∷ meant (tabulate n (λ j. f (suc j))) else meant (tabulate n (λ j. f (suc j)))) (fit zero)
    ∙ ap (λ (l : List Made). f zero ∷ l) (all_meant n (λ j. f (suc j)) (λ j. fit (suc j)))

-- A card's history, with numbers that are bytes, and a C start of its kind, slots and first epochs that was done.
module _ (h : CardHistory) (bytes : (n : ℕ) → numbers_fit (h.made n).asked ≡ true) (state : List ℕ) (done : start_answer_on h.kind h.slots (h.first 0) (h.first 1) state ≡ 0) where
  -- the state after its first n calls, each made in C
  abbrev pub state_at : (n : ℕ) → List ℕ
  state_at n = state_after_all (start_state_on h.kind h.slots (h.first 0) (h.first 1) state) (tabulate n h.made)

  -- the card in its bytes is the history's
  pub card_at_lem : (n : ℕ) → card_of (state_at n) ≡ card_at h n
  unfolding card_at
  card_at_lem n =
      card_runs_own h.kind h.slots (h.first 0) (h.first 1) state (tabulate n h.made) done
      ∙ ap (run (start_of h.kind h.slots (h.first 0) (h.first 1)).card) (all_meant n h.made bytes)

  module _ (g : ℕ) (k : Link) (a : AssumedEach h g k) where
    gives_bytes : (n i slot : ℕ) → Gives h g k n i slot → GivesC h.kind g k (state_at n) i slot
    gives_bytes n i slot o =
        record {
          packet_done = λ h4 l. (packet_own h4).0 ∙ ap (λ (c : Card). answer_number (packet_answer c g slot h4)) (card_at_lem n) ∙ ap answer_number (o.packet_done h4 l);
          packet = λ h4 l. (packet_own h4).1 ∙ ap (λ (c : Card). packet_bytes c g slot h4) (card_at_lem n) ∙ o.packet h4 l;
          payload_done = λ x member e l. (payload_own x member).0
              ∙ ap (λ (c : Card). answer_number (payload_answer c g slot k.payload (length (k.client x)) (length member))) (card_at_lem n)
              ∙ ap answer_number (o.payload_done x member e l);
          payload = λ x member e l ranked. (payload_own x member).1
              ∙ ap (λ (c : Card). payload_bytes c g slot k.payload (k.client x) member) (card_at_lem n)
              ∙ o.payload x member e l (λ none. ranked (ap (λ (s : Sender). rank_in s slot) (sym (part_of g (state_at n)) ∙ ap (λ (c : Card). P.sender_of c g) (card_at_lem n)) ∙ none));
        }
      where
        sized : length (state_at n) ≡ 858
        sized = card_runs_sized h.kind h.slots (h.first 0) (h.first 1) state (tabulate n h.made) done

        packet_own : (h4 : List ℕ)
            → (packet_answer_on (state_at n) g slot h4 ≡ answer_number (packet_answer (card_of (state_at n)) g slot h4)) × (packet_bytes_on (state_at n) g slot h4 ≡ packet_bytes (card_of (state_at n)) g slot h4)
        packet_own h4 = card_packet_own (state_at n) g sized a.group slot h4

        payload_own : (x : ℕ) (member : List ℕ)
            → (payload_answer_on (state_at n) g slot k.payload (k.client x) member ≡ answer_number (payload_answer (card_of (state_at n)) g slot k.payload (length (k.client x)) (length member)))
            × (payload_bytes_on (state_at n) g slot k.payload (k.client x) member ≡ payload_bytes (card_of (state_at n)) g slot k.payload (k.client x) member)
        payload_own x member = card_payload_own (state_at n) g sized a.group slot k.payload (k.client x) member

    -- Demand 3 of the group, and what its lines carry are the bytes that the C calls write, at every moment of an epoch from the sending of its earliest frame on.
    pub card_demand3 : Demand3 k
        × ((n i p : ℕ) → a.calls_then ≤ n → a.starts.at i < n → n ≤ a.starts.at (suc i) → p < k.ports → GivesC h.kind g k (state_at n) i (k.pairing p))
    card_demand3 =
        (demand3_each h g k a, λ n i p from later in-it below. gives_bytes n i (k.pairing p) (given_each h g k a n i p from later in-it below))
