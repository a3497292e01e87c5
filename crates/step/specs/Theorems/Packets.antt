-- A packet as our sender writes it, by the receiver's own count and over the kind of packet: it reads back as its fields, and one that came changed is refused and is not odd.
use Rattle.std.specs.Prelude.{◌≡◌, Bool, cond, ◌&&◌, ◌||◌, List, ℕ, ◌≤◌, Ok, Err}
use Rattle.std.proofs.Math.Path.{refl, ap}
use Rattle.std.proofs.Common.{◌∙◌}
use Rattle.std.proofs.Math.Bool.{true, false, not}
use Rattle.std.proofs.lemmas.Bool.{false≢true}
use Rattle.std.proofs.Math.Dec.{eqb}
use borrow.Author.Tests.{eq-eqb}
use Rattle.ground.specs.Truth.{cond_by}
use Rattle.packet.specs.AsSent.{Sent}
use Rattle.packet.specs.Changes.{changed, most_changes}
use Rattle.packet.specs.Kinds.{fixed_kind, vc12_kind}
use Rattle.packet.specs.Laws.Reading.{fields_of_read, h4_read, rules_as_read}
use Rattle.packet.specs.Layout.{fields_of}
use Rattle.packet.specs.Reading.{read_nibbles, reading_number, Reading}
use Rattle.packet.specs.Ruling.{read_row, refused, ruling_by}
use Rattle.packet.specs.Sent.{sent_answer, sent_bytes}
use Rattle.packet.specs.Symbols.{packet_row}
use Rattle.packet.specs.Theorems.Sent.{sent_as}
use Rattle.packet.specs.declared.layout.Fields.{Fields}
use Rattle.packet.specs.declared.reader.Unread.TheVariants.{Crc}
use Rattle.packet.specs.declared.ruling.Ruling.{Ruling}
use Rattle.step.specs.OwnCount.{odd_packet, own_number, own_ruling, right_crc, ruling_in}

-- a packet that is read as good is not odd
pub good_even : (kind epoch : ℕ) (row : List ℕ) → (own_ruling kind epoch row).good ≡ true → odd_packet kind epoch row ≡ false
unfolding own_ruling odd_packet
good_even kind epoch row = go (eqb kind vc12_kind) (own_number epoch row) (right_crc kind row)
  where
    go : (vc12 own right : Bool) → (cond (vc12 || own) (ruling_in kind epoch row) refused).good ≡ true → (not vc12 && right && not own) ≡ false
    go true own right g = refl
    go false true true g = refl
    go false true false g = refl
    go false false right g = absurd (false≢true g)

module _ (kind : ℕ) (lcas : eqb kind fixed_kind ≡ false) (f : Fields) (s : List ℕ) (done : sent_answer kind f s ≡ Ok tt) (epoch : ℕ) where
  as_sent_lem : Sent kind f s
  as_sent_lem = sent_as kind f s done

  ruled : (row : List ℕ) → ruling_in kind epoch row ≡ ruling_by (read_row kind row)
  unfolding ruling_in
  ruled row = rw lcas (rules_as_read kind epoch row)

  -- of H4 a packet that reads well has its own number, of VC-12 it is not asked for
  own_read : f.epoch ≡ epoch → (eqb kind vc12_kind || own_number epoch (packet_row kind (sent_bytes kind f s))) ≡ true
  unfolding own_number
  own_read own = go (eqb kind vc12_kind) refl
    where
      go : (b : Bool) → eqb kind vc12_kind ≡ b → (b || eqb (fields_of (packet_row kind (sent_bytes kind f s))).epoch epoch) ≡ true
      go true e = refl
      go false clock = eq-eqb (fields_of (packet_row kind (sent_bytes kind f s))).epoch epoch (ap (λ (g : Fields). g.epoch) (fields_of_read f (packet_row kind (sent_bytes kind f s)) (h4_read kind (packet_row kind (sent_bytes kind f s)) (Ok f) clock as_sent_lem.reads)) ∙ own)

  pub sent_reads : f.epoch ≡ epoch → own_ruling kind epoch (packet_row kind (sent_bytes kind f s)) ≡ ruling_by (Ok f)
  unfolding own_ruling
  sent_reads own = rw (own_read own, ruled (packet_row kind (sent_bytes kind f s)), as_sent_lem.reads) refl

  module _ (came : List ℕ) (low : 1 ≤ changed kind (sent_bytes kind f s) came) (high : changed kind (sent_bytes kind f s) came ≤ most_changes kind) where
    crc : read_row kind (packet_row kind came) ≡ Err Crc
    crc = as_sent_lem.refused came low high

    pub sent_refused : (own_ruling kind epoch (packet_row kind came)).good ≡ false
    unfolding own_ruling
    sent_refused =
        cond_by (λ (r : Ruling). r.good ≡ false) (eqb kind vc12_kind || own_number epoch (packet_row kind came)) (ruling_in kind epoch (packet_row kind came)) refused
        (λ own. ap (λ (r : Ruling). r.good) (ruled (packet_row kind came)) ∙ ap (λ (q : Reading). (ruling_by q).good) crc) (λ other. refl)

    pub sent_even : odd_packet kind epoch (packet_row kind came) ≡ false
    unfolding odd_packet right_crc
    sent_even = go (eqb kind vc12_kind) refl
      where
        go : (b : Bool) → eqb kind vc12_kind ≡ b → (not b && (eqb kind fixed_kind || not (eqb (reading_number (read_nibbles (packet_row kind came))) 5)) && not (own_number epoch (packet_row kind came))) ≡ false
        go true e = refl
        go false clock = rw (lcas, h4_read kind (packet_row kind came) (Err Crc) clock crc) refl
