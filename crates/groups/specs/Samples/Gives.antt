-- What the card itself gives, computed: a packet and the payload of a frame of slot 2, once group 0's and now group 1's.
use Rattle.std.specs.Prelude.{◌≡◌, refl, ◌≢◌, List, [], ◌∷◌, ℕ, length, replicate}
use Rattle.std.proofs.Common.{◌∙◌, arith}
use Rattle.packet.specs.Kinds.{frames}
use Rattle.sender.specs.Epochs as E
use Rattle.sender.specs.Ranks.{no_rank}
use Rattle.cards.specs.Answers.{answer_number}
use Rattle.cards.specs.Answers.Answer.{Done}
use Rattle.cards.specs.Parts.{sender_of}
use Rattle.cards.specs.Readings.{packet_answer, packet_bytes, payload_answer, payload_bytes}
use Rattle.link.specs.History.{packet_sent}
use Rattle.groups.specs.Cards.{card_at}
use Rattle.groups.specs.Given.{Gives}
use Rattle.groups.specs.Samples.Calls.{card, starts₁}
use Rattle.groups.specs.Samples.Histories.{computed, history₁}
use Rattle.groups.specs.Samples.Links.{client₁, link₁}
use Rattle.groups.specs.Samples.Met.{met₁}
use Rattle.groups.specs.Theorems.{given_each}

abbrev lent : List ℕ
lent = replicate 16 0xEE

-- the packet of group 1's epoch at index 7, epoch 1: EOS 1, GID 1, all FAIL, RS-Ack 1
abbrev last_of_two : List ℕ
last_of_two = 0xF8 ∷ 0xF9 ∷ 0x1A ∷ 0x0B ∷ 0x0C ∷ 0x0D ∷ 0x0E ∷ 0x1F ∷ 0x00 ∷ 0x11 ∷ 0x32 ∷ 0x13 ∷ 0x04 ∷ 0x05 ∷ 0x46 ∷ 0xB7 ∷ []

to_its_owner : (answer_number (packet_answer (card_at card 64) 1 2 lent) ≡ 0) × (packet_bytes (card_at card 64) 1 2 lent ≡ last_of_two) × (packet_sent history₁ 7 2 ≡ last_of_two)
unfolding computed
to_its_owner = (refl, refl, refl)

-- group 0 is answered 14, and nothing is written
to_the_other : (answer_number (packet_answer (card_at card 64) 0 2 lent) ≡ 14) × (packet_bytes (card_at card 64) 0 2 lent ≡ lent)
unfolding computed
to_the_other = (refl, refl)

-- of the group frame 228 229 in the next epoch slot 2 carries the second byte, as the member numbered 1
second_byte : (answer_number (payload_answer (card_at card 72) 1 2 1 2 1) ≡ 0) × (payload_bytes (card_at card 72) 1 2 1 (228 ∷ 229 ∷ []) (0xEE ∷ []) ≡ 229 ∷ [])
unfolding computed
second_byte = (refl, refl)

-- All this is what demand 3 per group has as given, at these two moments.

given_packet : Gives card 1 link₁ 64 7 2
unfolding met₁ starts₁
given_packet = given_each card 1 link₁ met₁ 64 7 0 (omega arith) (omega arith) (omega arith) (omega arith)

same_packet : (packet_answer (card_at card 64) 1 2 lent ≡ Done) × (packet_bytes (card_at card 64) 1 2 lent ≡ last_of_two)
unfolding frames
same_packet = (given_packet.packet_done lent refl, given_packet.packet lent refl ∙ to_its_owner.2)

given_payload : Gives card 1 link₁ 72 8 2
unfolding met₁ starts₁
given_payload = given_each card 1 link₁ met₁ 72 8 0 (omega arith) (omega arith) (omega arith) (omega arith)

ranked : E.rank_in (sender_of (card_at card 72) 1) 2 ≢ no_rank
unfolding computed
ranked e = absurd (omega arith)

same_payload :
    (payload_answer (card_at card 72) 1 2 1 (length (client₁ 128)) 1 ≡ Done)
    × (payload_bytes (card_at card 72) 1 2 1 (client₁ 128) (0xEE ∷ []) ≡ link₁.sending.payload 128 2)
unfolding frames
same_payload = (given_payload.payload_done 128 (0xEE ∷ []) refl refl, given_payload.payload 128 (0xEE ∷ []) refl refl ranked)
