-- The sender over epochs (01, 'Taking effect', 'Payload order'), after any calls from a start.
use Rattle.std.specs.Prelude.{◌≡◌, refl, Bool, true, false, cond, ◌&&◌, List, [], ◌∷◌, ℕ, ◌<◌, eqb, ltb}
use Rattle.std.proofs.Common.{◌∙◌, sym, ap, eq-eqb, eqb-true}
use Rattle.ground.specs.Truth.{and-true, and_left, and_right}
use Rattle.ground.specs.Counting.Laws.Numbers.{count_none}
use Rattle.ground.specs.Counting.Laws.Ranks.{rank, ranked}
use Rattle.ground.specs.Counting.Words.{One, count}
use Rattle.packet.specs.declared.layout.Fields.{Fields}
use Rattle.sender.specs.Epochs.{SenderCall, begin_of, fresh_sender, on_table, packet_answer, packet_bytes, packet_fields, payload_answer, payload_bytes, rank_in, sender_after, sender_outcome_of, sender_run, start_epoch_of, started_sender, x_of}
use Rattle.sender.specs.Numbering.{number_in, slots_in, state_in}
use Rattle.sender.specs.SenderRuns.{Demand2Kept, Fixed}
use Rattle.sender.specs.declared.board.Board.{Board}
use Rattle.sender.specs.declared.epochs.Sender.{Sender}
use Rattle.sender.specs.Answers.{SenderOutcome}
use Rattle.sender.specs.Answers.Answer.{Done, Field}
use Rattle.sender.specs.declared.table.Table.{Table}
use Rattle.sender.specs.Board.{board_of}
use Rattle.sender.specs.Calls.{Call}
use Rattle.sender.specs.Commands.{start_of}
use Rattle.sender.specs.Epochs.SenderCall.{OnTable, StartEpoch}
use Rattle.sender.specs.Laws.Carrying.{board_size, carries_active, rank_active, x_active}
use Rattle.sender.specs.Laws.Kept.{Sound, group_call, sound_call, sound_start, start_idle}
use Rattle.sender.specs.Ranks.{carries, carriers_in, rank_at, row_at}
use Rattle.sender.specs.Table.{is_active, slot_count}
use Rattle.sender.specs.Theorems.Demand2.{active_member, sound_demand2}

-- a board that shows a table as demand 2 asks, of so many slots
pub record Shows (b : Board) (count : ℕ) : Type 0 where
  pub source : Table
  pub sound : Sound source
  pub is : b ≡ board_of source
  pub slots : source.count ≡ count

pub record SoundSender (s : Sender) : Type 0 where
  pub table : Sound s.table
  pub outgoing : Shows s.outgoing s.table.count
  pub ruling : Shows s.ruling s.table.count
  pub kind : outgoing.source.kind ≡ s.table.kind

abbrev shows : (t : Table) → Sound t → Shows (board_of t) t.count
shows t o = record { source = t; sound = o; is = refl; slots = refl }

abbrev shows_still : (b : Board) (c d : ℕ) → d ≡ c → Shows b c → Shows b d
shows_still b c d e o = record { source = o.source; sound = o.sound; is = o.is; slots = o.slots ∙ sym e }

fresh_sound : (t : Table) (e : ℕ) → Sound t → SoundSender (fresh_sender t e)
unfolding fresh_sender
fresh_sound t e o = record { table = o; outgoing = shows t o; ruling = shows t o; kind = refl }

started_sound : (s : Sender) (gid mst ack : ℕ) → SoundSender s → SoundSender (start_epoch_of s gid mst ack).sender
unfolding start_epoch_of started_sender
started_sound s gid mst ack o = go (ltb gid 2 && ltb ack 2)
  where
    go : (b : Bool) → SoundSender (cond {A = SenderOutcome} b (record { sender = started_sender s gid mst ack; answer = Done }) (record { sender = s; answer = Field })).sender
    go true = record { table = o.table; outgoing = shows s.table o.table; ruling = o.outgoing; kind = refl }
    go false = o

call_sound : (s : Sender) (c : SenderCall) → SoundSender s → SoundSender (sender_outcome_of s c).sender
call_sound s (OnTable c) o =
    let still = (group_call s.table c).count in
    record {
      table = sound_call s.table c o.table;
      outgoing = shows_still s.outgoing s.table.count _ still o.outgoing;
      ruling = shows_still s.ruling s.table.count _ still o.ruling;
      kind = o.kind ∙ sym (group_call s.table c).kind;
    }
call_sound s (StartEpoch gid mst ack) o = started_sound s gid mst ack o

run_sound : (s : Sender) (cs : List SenderCall) → SoundSender s → SoundSender (sender_run s cs)
run_sound s [] o = o
run_sound s (c ∷ cs) o = run_sound (sender_outcome_of s c).sender cs (call_sound s c o)

begins : (kind count e : ℕ) → (begin_of kind count e).sender.outgoing ≡ board_of (start_of kind count).table
unfolding begin_of fresh_sender
begins kind count e = refl

pub sender_sound : (kind count e : ℕ) (cs : List SenderCall) → SoundSender (sender_after kind count e cs)
unfolding begin_of
sender_sound kind count e cs = run_sound (begin_of kind count e).sender cs (fresh_sound (start_of kind count).table e (sound_start kind count))

pub demand2_kept : (kind count e : ℕ) (cs : List SenderCall) → Demand2Kept (sender_after kind count e cs)
demand2_kept kind count e cs =
    let s = sender_after kind count e cs in
    let o = sender_sound kind count e cs in
    record {
      table = sound_demand2 s.table o.table;
      outgoing_of = o.outgoing.source;
      outgoing_is = o.outgoing.is;
      outgoing = sound_demand2 o.outgoing.source o.outgoing.sound;
      ruling_of = o.ruling.source;
      ruling_is = o.ruling.is;
      ruling = sound_demand2 o.ruling.source o.ruling.sound;
    }

pub fixed : (s : Sender) (cs : List Call) → Fixed s (sender_run s (on_table cs))
unfolding packet_fields packet_answer packet_bytes payload_answer payload_bytes
fixed s [] =
    record {
      fields = λ i. refl;
      answer = λ i h. refl;
      bytes = λ i h. refl;
      x = refl;
      ranks = λ i. refl;
      told = λ i P f m. refl;
      carried = λ i P f m. refl;
    }
fixed s (c ∷ cs) =
    let o = fixed (sender_outcome_of s (OnTable c)).sender cs in
    let g = group_call s.table c in
    record {
      fields = λ i. o.fields i;
      answer = λ i h. o.answer i h ∙ rw (g.count, g.kind);
      bytes = λ i h. o.bytes i h ∙ rw (g.count, g.kind);
      x = o.x;
      ranks = λ i. o.ranks i;
      told = λ i P f m. o.told i P f m ∙ rw (g.count, g.kind);
      carried = λ i P f m. o.carried i P f m ∙ rw (g.count, g.kind);
    }

-- a start of an epoch that is refused changes nothing, so it may stand among those calls
pub refused_start : (s : Sender) (gid mst ack : ℕ) → (ltb gid 2 && ltb ack 2) ≡ false → (start_epoch_of s gid mst ack).sender ≡ s
unfolding start_epoch_of
refused_start s gid mst ack h = rw h

-- all packets of an epoch carry one GID, whatever calls on the table come in between
pub one_gid : (s : Sender) (cs : List Call) (i j : ℕ) → (packet_fields (sender_run s (on_table cs)) i).gid ≡ (packet_fields s j).gid
unfolding packet_fields
one_gid s cs i j = ap (λ (f : Fields). f.gid) ((fixed s cs).fields i)

-- 'The packets of one epoch rule the payload of the next epoch'
pub rules_next : (s : Sender) (gid mst ack : ℕ) → (ltb gid 2 && ltb ack 2) ≡ true → (start_epoch_of s gid mst ack).sender.ruling ≡ s.outgoing
unfolding start_epoch_of started_sender
rules_next s gid mst ack h = ap (λ (b : Bool). (cond {A = SenderOutcome} b (record { sender = started_sender s gid mst ack; answer = Done }) (record { sender = s; answer = Field })).sender.ruling) h

outgoing_stays : (s : Sender) (cs : List Call) → (sender_run s (on_table cs)).outgoing ≡ s.outgoing
outgoing_stays s [] = refl
outgoing_stays s (c ∷ cs) = outgoing_stays (sender_outcome_of s (OnTable c)).sender cs

-- 'a sender's first epoch has X = 0'
pub first_x : (kind count e : ℕ) (cs : List Call) (gid mst ack : ℕ) → (ltb gid 2 && ltb ack 2) ≡ true
    → x_of (start_epoch_of (sender_after kind count e (on_table cs)) gid mst ack).sender ≡ 0
first_x kind c e cs gid mst ack h =
    ap (λ (b : Board). carriers_in b.rows (slot_count b.count))
    (rules_next (sender_after kind c e (on_table cs)) gid mst ack h ∙ outgoing_stays (begin_of kind c e).sender cs ∙ begins kind c e)
    ∙ x_active (start_of kind c).table
    ∙ count_none (slots_in (start_of kind c).table) _ (λ i b. ap is_active (start_idle kind c i b))

-- each rank below X is some slot's
module _ (s : Sender) (o : SoundSender s) where
  abbrev t : Table
  t = o.ruling.source

  pub rank_taken : (r : ℕ) → r < x_of s → One (slot_count s.ruling.count) (λ i. carries (row_at s.ruling.rows i) && eqb (rank_in s i) r)
  rank_taken r h = rw o.ruling.is (taken r (rw o.ruling.is at h))
    where
      taken : (r : ℕ) → r < carriers_in (board_of t).rows (slot_count (board_of t).count)
          → One (slot_count (board_of t).count) (λ i. carries (row_at (board_of t).rows i) && eqb (rank_at (board_of t).rows (slot_count (board_of t).count) i) r)
      taken r h =
          let active : ℕ → Bool = λ i. is_active (state_in t i) in
          let w = ranked (slots_in t) active (number_in t)
          (λ i j hi hj ai aj e. o.ruling.sound.numbered.once i j hi hj (active_member (state_in t i) ai) (active_member (state_in t j) aj) e)
          r (rw (x_active t) at h) in
          let i : ℕ = w.at in
          let b : i < slots_in t = w.below in
          let a : is_active (state_in t i) ≡ true = and_left (is_active (state_in t i)) (eqb (rank (slots_in t) active (number_in t) i) r) w.holds in
          let k : rank (slots_in t) active (number_in t) i ≡ r = eqb-true _ r (and_right (is_active (state_in t i)) (eqb (rank (slots_in t) active (number_in t) i) r) w.holds) in
          record {
            at = i;
            below = rw (board_size t) b;
            holds =
                and-true (carries (row_at (board_of t).rows i)) _ (carries_active t i b ∙ a)
                (eq-eqb (rank_at (board_of t).rows (slot_count (board_of t).count) i) r (rank_active t i b a ∙ k));
          }
