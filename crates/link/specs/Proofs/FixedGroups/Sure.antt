-- What n ports see of an epoch of a fixed group: it is judged sure, and each rank is the number of the slot that carries its bytes.
use Rattle.std.specs.Prelude.{◌≡◌, refl, true, List, ℕ, suc, ◌+◌, ◌<◌}
use Rattle.std.proofs.Common.{◌∙◌, sym, ap, arith}
use Rattle.ground.specs.Table.{length_tabulate}
use Rattle.judge.specs.declared.seen.Seen.{Seen}
use Rattle.judge.specs.Marked.{AllFixed, Standing}
use Rattle.judge.specs.Numbers.{number_at}
use Rattle.judge.specs.Order.{active_in, port_of}
use Rattle.judge.specs.Seen.{seen_at}
use Rattle.ground.specs.Counting.Laws.Numbers.{count_all}
use Rattle.judge.specs.Theorems.Fixed.{fixed_judged, fixed_members, fixed_port, stands_sure}
use Rattle.packet.specs.Kinds.{fixed_kind, frames}
use Rattle.packet.specs.Laws.Changes.{fixed_unchanged}
use Rattle.packet.specs.Words.{FIXED, IDLE}
use Rattle.payload.specs.Order.{member_byte, member_frame}
use Rattle.link.specs.FixedGroup.{FixedGroup, Numbered, sending_fixed}
use Rattle.link.specs.Proofs.FixedGroups.Packets.{fixed_counts, fixed_reads_lem}
use Rattle.link.specs.Proofs.Histories.Reaching.{count_paired}
use Rattle.link.specs.Sending.{Client, Covered, Lawful, Pairing, Reached, Rules, epoch_start, seen_sent}

module _ (f : FixedGroup) (a : Numbered f) (P : ℕ) (client : Client) (i n : ℕ) (slot_of : ℕ → ℕ) (ports : List Seen) (o : Pairing n f.x slot_of)
    (covered : Covered (sending_fixed f P client) i n slot_of) (is_seen : (p : ℕ) → p < n → seen_at ports p ≡ seen_sent (sending_fixed f P client) i (slot_of p)) where
  every_slot : (slot : ℕ) → slot < f.x → Reached n slot_of slot
  every_slot slot b = covered slot b (λ (e : ◌≡◌ {A = ℕ} FIXED IDLE). omega arith)

  -- there are as many ports as slots
  as_many : n ≡ f.x
  as_many =
      sym (count_all n (λ p. true) (λ p b. refl)) ∙ count_paired n f.x slot_of o (λ slot. true) (λ slot b t. every_slot slot b) ∙ count_all f.x (λ slot. true) (λ slot b. refl)

  number_at_lem : (p : ℕ) → p < n → number_at ports p ≡ f.number (slot_of p)
  number_at_lem p b = ap (λ (q : Seen). q.number) (is_seen p b)

  all_fixed : AllFixed ports n
  all_fixed p b g = ap (λ (q : Seen). q.word) (is_seen p b)

  below : (p : ℕ) → p < n → number_at ports p < n
  below p b = let l = a.low (slot_of p) (o.below p b) in let w = number_at_lem p b in let m = as_many in omega arith

  standing : Standing ports n
  standing =
      record {
        whole = λ p b. ap (λ (q : Seen). q.whole) (is_seen p b);
        good = λ p b. ap (λ (q : Seen). q.good) (is_seen p b);
        here = λ p b. ap (λ (q : Seen). q.here) (is_seen p b);
        once = λ p q bp bq e. o.once p q bp bq (a.once (slot_of p) (slot_of q) (o.below p bp) (o.below q bq) (sym (number_at_lem p bp) ∙ e ∙ number_at_lem q bq));
        low = below;
      }

  members : active_in ports n ≡ f.x
  members = fixed_members ports n all_fixed standing ∙ as_many

  carried_by_lem : (r j : ℕ) → r < f.x → j < frames fixed_kind
      → member_frame f.x P (client (epoch_start fixed_kind (suc i) + j)) (f.number (slot_of (port_of ports n r))) ≡ member_frame f.x P (client (epoch_start fixed_kind (suc i) + j)) r
  carried_by_lem r j b h =
      let w = fixed_port ports n all_fixed standing r (let m = as_many in omega arith) in
      ap (λ (q : ℕ). member_frame f.x P (client (epoch_start fixed_kind (suc i) + j)) q) (sym (number_at_lem (port_of ports n r) w.0) ∙ w.1)

  pub sure : Rules (sending_fixed f P client) P client i n slot_of ports
  sure = record { mark = fixed_judged ports n ∙ stands_sure ports n all_fixed standing; members = members; carried = carried_by_lem }

pub fixed_lawful : (f : FixedGroup) → Numbered f → (P : ℕ) (client : Client) → Lawful (sending_fixed f P client) P client
fixed_lawful f a P client =
    record {
      first = a.first;
      counts = λ i slot k b l. fixed_counts f i slot k l;
      reads = λ i slot b. fixed_reads_lem f a i slot b;
      refused = λ i slot came b low high. absurd (omega (arith, fixed_unchanged));
      even = λ i slot came b low high. absurd (omega (arith, fixed_unchanged));
      rules = λ i n slot_of ports o covered seen. sure f a P client i n slot_of ports o covered seen;
      long = λ x slot b. length_tabulate P (member_byte f.x (client x) (f.number slot));
    }
