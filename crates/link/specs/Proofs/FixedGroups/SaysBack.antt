-- A fixed group says back nothing: its packets carry their epoch's number, and 0 for MST and RS-Ack.
use Rattle.std.specs.Prelude.{◌≡◌, refl, true, List, ℕ, ◌%◌, eqb, get_or, Ok, Err}
use Rattle.std.proofs.Common.{ap, ◌∙◌, eqb-true}
use Rattle.std.proofs.lemmas.Bool.{false≢true}
use Rattle.ground.specs.Truth.{cond_by}
use Rattle.packet.specs.declared.reader.Unread.TheVariants.{Unassigned}
use Rattle.packet.specs.declared.ruling.Ruling.{Ruling}
use Rattle.packet.specs.Fixed.{fixed_fields, read_fixed_nibbles}
use Rattle.packet.specs.Kinds.{fixed_kind}
use Rattle.packet.specs.Layout.{byte_of, fields_of}
use Rattle.packet.specs.Ruling.{fields_in, refused}
use Rattle.packet.specs.Symbols.{packet_row}
use Rattle.packet.specs.Words.{FIXED}
use Rattle.packet.specs.Reading.{Reading}
use Rattle.receiver.specs.Laws.Carried.{carried_epoch, read_good}
use Rattle.receiver.specs.Seen.{carried_by}
use Rattle.step.specs.Carried.{reading_in}
use Rattle.step.specs.OwnCount.{own_number, own_ruling, ruling_in}
use Rattle.link.specs.FixedGroup.{FixedGroup, Numbered, fixed_sent, sending_fixed}
use Rattle.link.specs.Heard.{SaysBack}
use Rattle.link.specs.Proofs.FixedGroups.Packets.{fixed_reads_lem}
use Rattle.link.specs.Sending.{Client, epoch_number}

-- no MST and no RS-Ack, whatever is read
none_read : (P : ℕ → Type 0) → P 0 → (row : List ℕ) → P (carried_by (read_fixed_nibbles row)).mst × P (carried_by (read_fixed_nibbles row)).rs_ack
unfolding read_fixed_nibbles
none_read P z row =
    cond_by (λ (q : Reading). P (carried_by q).mst × P (carried_by q).rs_ack) (eqb (get_or row 10 0 % 16) FIXED)
    (Ok (fixed_fields (byte_of (get_or row 8 0) (get_or row 9 0)) (byte_of (get_or row 6 0) (get_or row 7 0)))) (Err Unassigned) (λ e. (z, z)) (λ e. (z, z))

none_mst : (row : List ℕ) → (carried_by (reading_in fixed_kind row)).mst ≡ 0
unfolding reading_in
none_mst row = (none_read (λ n. n ≡ 0) refl row).0

none_ack : (row : List ℕ) → (carried_by (reading_in fixed_kind row)).rs_ack ≡ 0
unfolding reading_in
none_ack row = (none_read (λ n. n ≡ 0) refl row).1

own_epoch : (epoch : ℕ) (row : List ℕ) → (own_ruling fixed_kind epoch row).good ≡ true → (fields_in fixed_kind row).epoch ≡ epoch
unfolding own_ruling own_number fields_in
own_epoch epoch row =
    cond_by (λ (r : Ruling). r.good ≡ true → (fields_of row).epoch ≡ epoch) (eqb (fields_of row).epoch epoch) (ruling_in fixed_kind epoch row) refused
    (λ own e. eqb-true (fields_of row).epoch epoch own) (λ other e. absurd (false≢true e))

pub fixed_says : (f : FixedGroup) → Numbered f → (P : ℕ) (client : Client) → SaysBack (sending_fixed f P client) (λ i. 0) (λ i. 0)
fixed_says f a P client =
    record {
      numbered = λ i slot b.
          let row : List ℕ = packet_row fixed_kind (fixed_sent f i slot) in
          let good : (own_ruling fixed_kind (epoch_number fixed_kind f.first i) (packet_row fixed_kind (fixed_sent f i slot))).good ≡ true = ap (λ (r : Ruling). r.good) (fixed_reads_lem f a i slot b) in
          carried_epoch fixed_kind row (read_good fixed_kind (epoch_number fixed_kind f.first i) row good) ∙ own_epoch (epoch_number fixed_kind f.first i) row good;
      states = λ i slot b. none_mst (packet_row fixed_kind (fixed_sent f i slot));
      turns = λ i slot b. none_ack (packet_row fixed_kind (fixed_sent f i slot));
    }
