-- A VC-12 group that demand 3 speaks of (request 2026-01): three slots, ports as far apart as may be, and one packet with one bit changed. What demand 3 says of its reports is computed from `expected`: P is 136, and no run with as many bytes is computed.
use Rattle.std.specs.Prelude.{◌≡◌, refl, Bool, true, false, ◌&&◌, ◌||◌, List, [], ◌∷◌, ℕ, zero, suc, ◌+◌, ◌-◌, ◌*◌, ◌/◌, ◌%◌, ◌≤◌, ◌<◌, get_or, replicate, if◌then◌else◌, ◌==◌}
use Rattle.std.proofs.Common.{sym, ◌∙◌, inl, inr, ⊎_elim, true≢false, arith, eqb-true, ltb-true}
use Rattle.std.proofs.lemmas.List.{length-replicate}
use Rattle.ground.specs.Finite.{below, below_at}
use Rattle.ground.specs.Plain.{◌<?◌}
use Rattle.ground.specs.Table.{tabulate}
use Rattle.ground.specs.Truth.{and_left, and_right, le_or_lt}
use Rattle.judge.specs.declared.seen.Seen.{Seen}
use Rattle.judge.specs.Order.{port_of}
use Rattle.judge.specs.Verdict.{HELD, SURE, judge_of}
use Rattle.packet.specs.Changes.{brings_mfi2, changed, kept_part, most_changes}
use Rattle.packet.specs.Kinds.{epochs, first_tag, frames, known_kind, lead, payload_right, tags, vc12_kind}
use Rattle.packet.specs.Symbols.{packet_row}
use Rattle.packet.specs.Vc12.{lowest_of}
use Rattle.phases.specs.Sizes.{sized, start_sized}
use Rattle.sender.specs.Calls.{Call}
use Rattle.sender.specs.Calls.Call.{AddSlot, Report}
use Rattle.step.specs.OwnCount.{own_ruling}
use Rattle.step.specs.SentRuns.{start_from}
use Rattle.link.specs.Assumed.{Assumed}
use Rattle.link.specs.Demand3.{Demand3, Stands, Started, Time, own_run, standing}
use Rattle.link.specs.Demand3.Stands.{none_yet, reporting}
use Rattle.link.specs.History.{Allowed, History, packet_sent, sending_of, x_at}
use Rattle.link.specs.Link.{Arrived, BringsMfi2, Damaged, Link, epoch_frames, expected, frames_of, road_of}
use Rattle.link.specs.Moments.{Beginning, Ready, Run, coming, next_at}
use Rattle.link.specs.Proofs.Transport.Times.{coming_is}
use Rattle.link.specs.Road.{times}
use Rattle.link.specs.Running.{Moment, has_begun}
use Rattle.link.specs.Samples.Computing.{outcome}
use Rattle.link.specs.Sending.{Client, epoch_at}
use Rattle.link.specs.Theorems.{demand3}
use Rattle.link.specs.Told.{Told}

-- three slots are to be added, and are active from the next epoch on
abbrev calls : List (List Call)
calls = (AddSlot 0 ∷ AddSlot 1 ∷ AddSlot 2 ∷ []) ∷ (Report 0 0x00 0 ∷ []) ∷ []

-- The first epoch is 26, so that counts and tags go round while reports are made.
abbrev history : History
history = record { kind = vc12_kind; slots = 3; first = 26; before = λ i. get_or calls i []; gid = λ i. 1; mst = λ i. 0xFF; ack = λ i. 0 }

-- a member has 136 bytes of a group frame, each the position
abbrev client : Client
client x = replicate (x_at history (epoch_at vc12_kind x) * 136) (x % 256)

abbrev unranked : ℕ → ℕ → List ℕ
unranked x slot = replicate 136 0xDD

-- slot 2 reaches port 0, slot 0 port 2
abbrev pairing : ℕ → ℕ
pairing p = 2 - p

abbrev sent : ℕ → ℕ → List ℕ
sent i p = packet_sent history i (pairing p)

-- the packet NORM 1 of count 31, and its word changed in one bit: EOS
abbrev whole : List ℕ
whole = 3 ∷ 1 ∷ 1 ∷ 1 ∷ 1 ∷ 0 ∷ 0 ∷ 0 ∷ 0 ∷ 0 ∷ 1 ∷ 0 ∷ 0 ∷ 1 ∷ 0 ∷ 1 ∷ 0 ∷ 0 ∷ 0 ∷ 0 ∷ 0 ∷ 1 ∷ 1 ∷ 1 ∷ 1 ∷ 1 ∷ 1 ∷ 1 ∷ 1 ∷ 0 ∷ 0 ∷ 1 ∷ []

abbrev hit : List ℕ
hit = 3 ∷ 1 ∷ 1 ∷ 1 ∷ 1 ∷ 0 ∷ 0 ∷ 0 ∷ 0 ∷ 0 ∷ 1 ∷ 0 ∷ 0 ∷ 1 ∷ 1 ∷ 1 ∷ 0 ∷ 0 ∷ 0 ∷ 0 ∷ 0 ∷ 1 ∷ 1 ∷ 1 ∷ 1 ∷ 1 ∷ 1 ∷ 1 ∷ 1 ∷ 0 ∷ 0 ∷ 1 ∷ []

abbrev came : ℕ → ℕ → List ℕ
came i p = if i == 5 && p == 1 then hit else sent i p

-- as short as may be: 3 x 32 x 136
abbrev output : List ℕ
output = replicate 13056 0xEE

-- W is 64: the ports are late by 32, by 16 and by no frames.
abbrev link : Link
link =
    record {
      sending = sending_of history 136 client unranked;
      ports = 3;
      payload = 136;
      window = 64;
      client = client;
      pairing = pairing;
      came = came;
      delay = λ p. 32 - p * 16;
      first = λ p. p * 20;
      order = λ t. 0 ∷ 1 ∷ 2 ∷ [];
      output = λ j. output;
      lent = λ a j. replicate 8 0xAA;
    }

allowed : Allowed history
unfolding epochs
allowed = record { lcas = refl; some = omega arith; most = omega arith; first = omega arith; gid = λ i. omega arith; mst = λ i. omega arith; ack = λ i. omega arith }

was_sent : sent 5 1 ≡ whole
unfolding outcome
was_sent = refl

one : changed vc12_kind whole hit ≡ 1
unfolding changed lowest_of
one = refl

damage : Damaged vc12_kind 1 whole hit
unfolding frames kept_part
damage =
    record {
      long = refl;
      bytes = λ k b. ltb-true (get_or hit k 0) 256 (below_at 32 (λ i. get_or hit i 0 <? 256) refl k b);
      least = omega (arith, one);
      most = omega (arith, one);
      placed = λ k b.
          eqb-true (kept_part vc12_kind k (get_or hit k 0)) (kept_part vc12_kind k (get_or whole k 0))
          (below_at 32 (λ i. kept_part vc12_kind i (get_or hit i 0) == kept_part vc12_kind i (get_or whole i 0)) refl k b);
    }

arrived : (i p : ℕ) → Arrived vc12_kind 1 (sent i p) (came i p)
arrived i p = go (i == 5 && p == 1) refl
  where
    go : (b : Bool) → (i == 5 && p == 1) ≡ b → Arrived vc12_kind 1 (sent i p) (if b then hit else sent i p)
    go true e = let hi = eqb-true i 5 (and_left (i == 5) (p == 1) e) in let hp = eqb-true p 1 (and_right (i == 5) (p == 1) e) in inr (rw (hi, hp, was_sent) damage)
    go false e = inl refl

-- no frame brings MFI2
none_brings : (place : ℕ) → BringsMfi2 vc12_kind place → ⊥
unfolding brings_mfi2
none_brings place brings = true≢false (sym brings)

once : (p : ℕ) → p < 3 → times p (0 ∷ 1 ∷ 2 ∷ []) ≡ 1
once zero h = refl
once (suc zero) h = refl
once (suc (suc zero)) h = refl
once (suc (suc (suc p))) h = absurd (omega arith)

met : Assumed link
unfolding sized known_kind frames tags most_changes payload_right start_sized
met =
    record {
      history = history;
      allowed = allowed;
      unranked = unranked;
      unranked_long = λ x slot b. length-replicate {A = ℕ} 136 0xDD;
      sends = refl;
      all = refl;
      paired = record { below = λ p h. omega arith; once = λ p q hp hq e. omega arith };
      lines = record {
        sizes = refl;
        client = λ x. length-replicate (x_at history (epoch_at vc12_kind x) * 136) (x % 256);
        spread = λ p q hp hq. omega arith;
        once = λ t p h. once p h;
        only = λ t. (omega arith, (omega arith, (omega arith, tt)));
        arrived = λ i p h. arrived i p;
        spared = λ t p done rest h is_order come un brings. absurd (none_brings _ brings);
        room = λ j. omega (arith, length-replicate {A = ℕ} 13056 0xEE);
        eight = λ a j. refl;
      };
    }

pub demanded : Demand3 link
demanded = demand3 link met

-- The last port's first frame comes in frame time 40: within 96 frames of it receiving has begun.
begins : (m₀ : Moment) → Started link m₀ → has_begun (own_run link m₀ 135 []) ≡ 1
unfolding frames
begins m₀ o = (demanded.promised m₀ o).begins_within 40 (λ p h. omega arith)

-- In frame time 127 port 2, which came last, ends its second whole packet, and all ports are ready.

starts : (start_from vc12_kind (first_tag vc12_kind 26) 0 ≡ 0) × (start_from vc12_kind (first_tag vc12_kind 26) 20 ≡ 32) × (start_from vc12_kind (first_tag vc12_kind 26) 40 ≡ 64)
unfolding start_from first_tag frames lead tags
starts = (refl, refl, refl)

ready_then : Ready (road_of link) (coming (road_of link) 127 [])
unfolding road_of frames next_at
ready_then = record { stepped = stepped; near = near }
  where
    at : (p : ℕ) → p < 3 → coming (road_of link) 127 [] p ≡ 96 + p * 16
    at p h = coming_is (road_of link) 127 [] p h ∙ omega arith

    stepped : (q : ℕ) → q < 3 → start_from vc12_kind (first_tag vc12_kind 26) (q * 20) + 32 * 2 ≤ coming (road_of link) 127 [] q
    stepped zero h = rw (starts.0, at 0 h) (omega arith)
    stepped (suc zero) h = rw (starts.1, at 1 h) (omega arith)
    stepped (suc (suc zero)) h = rw (starts.2, at 2 h) (omega arith)
    stepped (suc (suc (suc q))) h = absurd (omega arith)

    near : (p q : ℕ) → p < 3 → q < 3 → coming (road_of link) 127 [] p + 32 ≤ coming (road_of link) 127 [] q + 64
    near p q hp hq = rw (at p hp, at q hq) (omega arith)

-- So in every run position 127 is the foremost with which receiving begins.
foremost : (run : Run) (F : ℕ) → Beginning (road_of link) run F → F ≡ 127
unfolding road_of frames next_at
foremost run F b = let own = at b.foremost.port below in omega (arith, late, soon, is, most)
  where
    at : (p : ℕ) → p < 3 → coming (road_of link) b.time b.rest p ≡ p * 20 + (b.time + 1 - times p b.rest - (32 - p * 16 + p * 20))
    at p h = coming_is (road_of link) b.time b.rest p h

    below : b.foremost.port < 3
    below = b.foremost.below

    -- port 2 has had its 128 positions
    enough : 64 + 32 * 2 ≤ coming (road_of link) b.time b.rest 2
    enough = rw starts.2 at (b.ready.stepped 2 (omega arith))

    late : 127 ≤ b.time
    late = let e = enough in let is = at 2 (omega arith) in omega arith

    soon : b.time ≤ 127
    soon = ⊎_elim (λ (h : b.time ≤ 127). h) (λ (h : 127 < b.time). absurd (b.unready 127 (0 ∷ 1 ∷ 2 ∷ []) [] refl (inl h) ready_then)) (le_or_lt b.time 127)

    is : coming (road_of link) b.time b.rest b.foremost.port ≡ F + 1
    is = b.foremost.is

    most : 128 ≤ F + 1
    most = let e = enough in let m = b.foremost.most 2 (omega arith) in omega arith

-- what demand 3 says is told at every moment from the beginning on
pub record ToldFrom (told : List Told) : Type 0 where
  pub many : ℕ
  pub are : told ≡ tabulate many (λ j. expected link (4 + j) (link.output j))

pub reports : (m₀ : Moment) → Started link m₀ → (at : Time link) → has_begun (standing link (own_run link m₀) at) ≡ 1 → ToldFrom (standing link (own_run link m₀) at).told
unfolding frames
reports m₀ o at begun = go ((demanded.promised m₀ o).always at)
  where
    go : Stands link (own_run link m₀) at → ToldFrom (standing link (own_run link m₀) at).told
    go (none_yet h un e) = absurd (omega arith)
    go (reporting h r) = from r.F (foremost (own_run link m₀) r.F r.beginning) r.many r.are
      where
        from : (F : ℕ) → F ≡ 127 → (many : ℕ) → (standing link (own_run link m₀) at).told ≡ tabulate many (λ j. expected link (suc (F / epoch_frames link) + j) (link.output j)) → ToldFrom (standing link (own_run link m₀) at).told
        from F e many are = record { many = many; are = rw e at are }

-- all bytes of an epoch, 408 for each of its 32 group frames, from a position on
abbrev sure : ℕ → ℕ → Told
sure e from = record { epoch = e; mark = SURE; bytes = frames_of (λ x. replicate 408 (x % 256)) from 32; rest = [] }

abbrev held : ℕ → Told
held e = record { epoch = e; mark = HELD; bytes = []; rest = output }

-- The reports that demand 3 says are to come: the epochs 31, 0 and 1, of which the packet that came changed rules the second.
as_expected : tabulate 3 (λ j. expected link (4 + j) (link.output j)) ≡ sure 31 160 ∷ held 0 ∷ sure 1 224 ∷ []
unfolding outcome
as_expected = refl

-- A wrong reading: two changed bits allowed, as of H4 three are. Of NORM 0, NORM 1 and EOS 2 of the epoch at index 4 the first two come with bits 11 and 18, counted from 1, changed, both outside the count and with the start as sent.
abbrev norm_0 : List ℕ
norm_0 = 3 ∷ 1 ∷ 1 ∷ 1 ∷ 0 ∷ 0 ∷ 0 ∷ 0 ∷ 0 ∷ 0 ∷ 0 ∷ 0 ∷ 0 ∷ 1 ∷ 0 ∷ 1 ∷ 0 ∷ 0 ∷ 0 ∷ 0 ∷ 0 ∷ 1 ∷ 1 ∷ 1 ∷ 1 ∷ 1 ∷ 1 ∷ 1 ∷ 1 ∷ 1 ∷ 0 ∷ 1 ∷ []

abbrev norm_1 : List ℕ
norm_1 = 3 ∷ 1 ∷ 1 ∷ 1 ∷ 0 ∷ 0 ∷ 0 ∷ 0 ∷ 0 ∷ 0 ∷ 1 ∷ 0 ∷ 0 ∷ 1 ∷ 0 ∷ 1 ∷ 0 ∷ 0 ∷ 0 ∷ 0 ∷ 0 ∷ 1 ∷ 1 ∷ 1 ∷ 1 ∷ 1 ∷ 1 ∷ 1 ∷ 1 ∷ 1 ∷ 0 ∷ 0 ∷ []

abbrev eos_2 : List ℕ
eos_2 = 3 ∷ 1 ∷ 1 ∷ 1 ∷ 0 ∷ 0 ∷ 0 ∷ 0 ∷ 0 ∷ 1 ∷ 0 ∷ 0 ∷ 0 ∷ 1 ∷ 1 ∷ 1 ∷ 0 ∷ 0 ∷ 0 ∷ 0 ∷ 0 ∷ 1 ∷ 1 ∷ 1 ∷ 1 ∷ 1 ∷ 1 ∷ 1 ∷ 1 ∷ 1 ∷ 0 ∷ 0 ∷ []

all_sent : tabulate 3 (packet_sent history 4) ≡ norm_0 ∷ norm_1 ∷ eos_2 ∷ []
unfolding outcome
all_sent = refl

abbrev twice : List ℕ → List ℕ
twice l = tabulate 32 (λ k. if k == 10 || k == 17 then 1 - get_or l k 0 else get_or l k 0)

two : (changed vc12_kind norm_0 (twice norm_0) ≡ 2) × (changed vc12_kind norm_1 (twice norm_1) ≡ 2)
unfolding changed lowest_of
two = (refl, refl)

-- a frame's byte, and what of it is never changed
abbrev placed : List ℕ → ℕ → Bool
placed l i = get_or (twice l) i 0 <? 256 && kept_part vc12_kind i (get_or (twice l) i 0) == kept_part vc12_kind i (get_or l i 0)

two_allowed : (l : List ℕ) → changed vc12_kind l (twice l) ≡ 2 → below 32 (placed l) ≡ true → Damaged vc12_kind 2 l (twice l)
unfolding frames
two_allowed l many all =
    record {
      long = refl;
      bytes = λ k b. ltb-true (get_or (twice l) k 0) 256 (and_left (get_or (twice l) k 0 <? 256) (kept_part vc12_kind k (get_or (twice l) k 0) == kept_part vc12_kind k (get_or l k 0)) (below_at 32 (placed l) all k b));
      least = omega (arith, many);
      most = omega (arith, many);
      placed = λ k b.
          eqb-true (kept_part vc12_kind k (get_or (twice l) k 0)) (kept_part vc12_kind k (get_or l k 0))
          (and_right (get_or (twice l) k 0 <? 256) (kept_part vc12_kind k (get_or (twice l) k 0) == kept_part vc12_kind k (get_or l k 0)) (below_at 32 (placed l) all k b));
    }

both_allowed : Damaged vc12_kind 2 norm_0 (twice norm_0) × Damaged vc12_kind 2 norm_1 (twice norm_1)
unfolding kept_part
both_allowed = (two_allowed norm_0 two.0 refl, two_allowed norm_1 two.1 refl)

-- what is seen of a packet of count 30
abbrev seen : List ℕ → Seen
seen came = let r = own_ruling vc12_kind 30 (packet_row vc12_kind came) in record { whole = true; good = r.good; word = r.word; number = r.number; gid = r.gid; here = true }

-- They read as 1 and 0: the epoch would be sure, and its bytes in a wrong order.
two_break : (judge_of vc12_kind (seen (twice norm_0) ∷ seen (twice norm_1) ∷ seen eos_2 ∷ []) 3 ≡ SURE)
    × (tabulate 3 (port_of (seen (twice norm_0) ∷ seen (twice norm_1) ∷ seen eos_2 ∷ []) 3) ≡ 1 ∷ 0 ∷ 2 ∷ [])
    × (tabulate 3 (port_of (seen norm_0 ∷ seen norm_1 ∷ seen eos_2 ∷ []) 3) ≡ 0 ∷ 1 ∷ 2 ∷ [])
unfolding outcome
two_break = (refl, refl, refl)
