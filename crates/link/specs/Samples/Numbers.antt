-- MFI2 damaged (request 2026-04): in both nibbles right after receiving has begun, which demand 3 lets be, and in one before it, which it does not; and other bits damaged before it, which it lets be. All else is as in the sample.
use Rattle.std.specs.Prelude.{◌≡◌, refl, Bool, true, false, ◌&&◌, List, [], ◌∷◌, ℕ, zero, suc, ◌+◌, ◌-◌, ◌*◌, ◌/◌, ◌%◌, ◌≤◌, ◌<◌, get_or, length, replicate, if◌then◌else◌, ◌==◌}
use Rattle.std.proofs.Common.{ap, ⊎_elim, inl, inr, arith, eqb-true, ltb-true}
use Rattle.std.proofs.lemmas.List.{length-replicate}
use Rattle.ground.specs.Counting.Words.{every}
use Rattle.ground.specs.Finite.{below_at}
use Rattle.ground.specs.Plain.{◌<?◌}
use Rattle.ground.specs.Table.{length_tabulate}
use Rattle.ground.specs.Truth.{and_left, and_right}
use Rattle.judge.specs.Verdict.{HELD, SURE}
use Rattle.packet.specs.Changes.{changed, kept_part, most_changes}
use Rattle.packet.specs.Kinds.{first_tag, frames, lead, payload_right, tags}
use Rattle.packet.specs.Symbols.{packet_row, symbol_of}
use Rattle.phases.specs.Sizes.{known_kind, sized, start_sized}
use Rattle.step.specs.OwnCount.{own_number}
use Rattle.step.specs.SentRuns.{start_from}
use Rattle.link.specs.Assumed.{Assumed}
use Rattle.link.specs.Demand3.{Demand3}
use Rattle.link.specs.History.{Allowed, History, sending_of, x_at}
use Rattle.link.specs.Link.{Arrived, BringsMfi2, Damaged, Link, NumberKept, epoch_frames, expected, kind_of, road_of, sent_to}
use Rattle.link.specs.Moments.{Ready, Unready, coming, next_at}
use Rattle.link.specs.Proofs.Transport.Times.{coming_is}
use Rattle.link.specs.Road.{Below, times}
use Rattle.link.specs.Samples.Computing.{outcome}
use Rattle.link.specs.Samples.Members.{came, client, history, link_of, output, sent, unranked}
use Rattle.link.specs.Samples.Met.{allowed, arrived, mfi2_places, number_kept, once, only, spread_4}
use Rattle.link.specs.Samples.Reports.{held, reports_with}
use Rattle.link.specs.Samples.Tracing.{begun_by, course, outcome_by_lem}
use Rattle.link.specs.Sending.{Pairing, epoch_at, epoch_number}
use Rattle.link.specs.Theorems.{demand3}

-- Receiving begins in frame time 55. Port 1's packet of the epoch at index 3 is then half there: its MFI2 comes in frame times 56 and 57. Port 0's of the epoch at index 5 comes later: it stands in the first epoch that is reported, and rules the second.

abbrev half : List ℕ
half = 0xF8 ∷ 0xF9 ∷ 0x0A ∷ 0x0B ∷ 0x0C ∷ 0x0D ∷ 0x0E ∷ 0x0F ∷ 0xF0 ∷ 0xC1 ∷ 0x32 ∷ 0x13 ∷ 0x04 ∷ 0x05 ∷ 0x36 ∷ 0xE7 ∷ []

abbrev half_hit : List ℕ
half_hit = 0xF8 ∷ 0xF9 ∷ 0x0A ∷ 0x0B ∷ 0x0C ∷ 0x0D ∷ 0x0E ∷ 0x0F ∷ 0xE0 ∷ 0xD1 ∷ 0x32 ∷ 0x13 ∷ 0x04 ∷ 0x05 ∷ 0x36 ∷ 0xE7 ∷ []

abbrev next : List ℕ
next = 0xF8 ∷ 0xF9 ∷ 0x0A ∷ 0x0B ∷ 0x0C ∷ 0x0D ∷ 0x0E ∷ 0x1F ∷ 0xF0 ∷ 0xE1 ∷ 0x32 ∷ 0x13 ∷ 0x04 ∷ 0x05 ∷ 0xF6 ∷ 0xE7 ∷ []

abbrev next_hit : List ℕ
next_hit = 0xF8 ∷ 0xF9 ∷ 0x0A ∷ 0x0B ∷ 0x0C ∷ 0x0D ∷ 0x0E ∷ 0x1F ∷ 0xE0 ∷ 0xF1 ∷ 0x32 ∷ 0x13 ∷ 0x04 ∷ 0x05 ∷ 0xF6 ∷ 0xE7 ∷ []

half_sent : sent 3 1 ≡ half
unfolding outcome
half_sent = refl

next_sent : sent 5 0 ≡ next
unfolding outcome
next_sent = refl

half_two : changed 0 half half_hit ≡ 2
unfolding outcome
half_two = refl

next_two : changed 0 next next_hit ≡ 2
unfolding outcome
next_two = refl

half_damage : Damaged 0 3 half half_hit
unfolding frames kept_part
half_damage =
    record {
      long = refl;
      bytes = λ k b. ltb-true (get_or half_hit k 0) 256 (below_at 16 (λ i. get_or half_hit i 0 <? 256) refl k b);
      least = omega (arith, half_two);
      most = omega (arith, half_two);
      placed = λ k b. eqb-true (kept_part 0 k (get_or half_hit k 0)) (kept_part 0 k (get_or half k 0)) (below_at 16 (λ i. kept_part 0 i (get_or half_hit i 0) == kept_part 0 i (get_or half i 0)) refl k b);
    }

next_damage : Damaged 0 3 next next_hit
unfolding frames kept_part
next_damage =
    record {
      long = refl;
      bytes = λ k b. ltb-true (get_or next_hit k 0) 256 (below_at 16 (λ i. get_or next_hit i 0 <? 256) refl k b);
      least = omega (arith, next_two);
      most = omega (arith, next_two);
      placed = λ k b. eqb-true (kept_part 0 k (get_or next_hit k 0)) (kept_part 0 k (get_or next k 0)) (below_at 16 (λ i. kept_part 0 i (get_or next_hit i 0) == kept_part 0 i (get_or next i 0)) refl k b);
    }

abbrev came_after : ℕ → ℕ → List ℕ
came_after i p = if i == 3 && p == 1 then half_hit else if i == 5 && p == 0 then next_hit else came i p

abbrev after : Link
after = link_of came_after client 4 (λ t. t % 2 == 0)

arrived_after : (i p : ℕ) → Arrived 0 3 (sent i p) (came_after i p)
arrived_after i p = go (i == 3 && p == 1) refl
  where
    other : (b : Bool) → (i == 5 && p == 0) ≡ b → Arrived 0 3 (sent i p) (if b then next_hit else came i p)
    other true e = let hi = eqb-true i 5 (and_left (i == 5) (p == 0) e) in let hp = eqb-true p 0 (and_right (i == 5) (p == 0) e) in inr (rw (hi, hp, next_sent) next_damage)
    other false e = arrived i p

    go : (b : Bool) → (i == 3 && p == 1) ≡ b → Arrived 0 3 (sent i p) (if b then half_hit else if i == 5 && p == 0 then next_hit else came i p)
    go true e = let hi = eqb-true i 3 (and_left (i == 3) (p == 1) e) in let hp = eqb-true p 1 (and_right (i == 3) (p == 1) e) in inr (rw (hi, hp, half_sent) half_damage)
    go false e = other (i == 5 && p == 0) refl

-- After frame time 55 all ports were ready.

counts_0 : start_from 0 (first_tag 0 249) 3 ≡ 8
unfolding start_from first_tag frames lead tags
counts_0 = refl

counts_1 : start_from 0 (first_tag 0 249) 21 ≡ 24
unfolding start_from first_tag frames lead tags
counts_1 = refl

ready_then : Ready (road_of after) (coming (road_of after) 55 [])
unfolding road_of frames next_at
ready_then = record { stepped = stepped; near = near }
  where
    at_0 : coming (road_of after) 55 [] 0 ≡ 52
    at_0 = coming_is (road_of after) 55 [] 0 (omega arith)

    at_1 : coming (road_of after) 55 [] 1 ≡ 56
    at_1 = coming_is (road_of after) 55 [] 1 (omega arith)

    stepped : (q : ℕ) → q < 2 → start_from 0 (first_tag 0 249) (after.first q) + 16 * 2 ≤ coming (road_of after) 55 [] q
    stepped zero h = rw (counts_0, at_0) (omega arith)
    stepped (suc zero) h = rw (counts_1, at_1) (omega arith)
    stepped (suc (suc q)) h = absurd (omega arith)

    near : (p q : ℕ) → p < 2 → q < 2 → coming (road_of after) 55 [] p + 16 ≤ coming (road_of after) 55 [] q + 20
    near zero zero hp hq = rw at_0 (omega arith)
    near zero (suc zero) hp hq = rw (at_0, at_1) (omega arith)
    near (suc zero) zero hp hq = rw (at_0, at_1) (omega arith)
    near (suc zero) (suc zero) hp hq = rw at_1 (omega arith)
    near (suc (suc p)) q hp hq = absurd (omega arith)
    near zero (suc (suc q)) hp hq = absurd (omega arith)
    near (suc zero) (suc (suc q)) hp hq = absurd (omega arith)

later_not : (t : ℕ) (done : List ℕ) → 55 < t → Unready (road_of after) t done → ⊥
unfolding road_of
later_not t done late un = un 55 (1 ∷ 0 ∷ []) [] refl (inl late) ready_then

spared_after : (t p : ℕ) (done : List ℕ) → Unready (road_of after) t done → NumberKept after t p
unfolding frames
spared_after t p done un brings = go (epoch_at 0 x == 3 && p == 1) refl
  where
    x : ℕ
    x = t - (if p == 0 then 4 else 0)

    -- a frame that brings MFI2 of the epoch at index 3 or of a later one to a port
    late : (i : ℕ) → 3 ≤ i → (t - (if p == 0 then 4 else 0)) / 16 ≡ i → 55 < t
    late i l e =
        let low : 48 ≤ t - (if p == 0 then 4 else 0) = omega arith in
        ⊎_elim (λ (b : (t - (if p == 0 then 4 else 0)) % 16 ≡ 8). omega arith) (λ (b : (t - (if p == 0 then 4 else 0)) % 16 ≡ 9). omega arith) (mfi2_places ((t - (if p == 0 then 4 else 0)) % 16) brings)

    other : (b : Bool) → (epoch_at 0 (t - (if p == 0 then 4 else 0)) == 5 && p == 0) ≡ b
        → symbol_of 0 (get_or (if b then next_hit else came (epoch_at 0 (t - (if p == 0 then 4 else 0))) p) ((t - (if p == 0 then 4 else 0)) % 16) 0) ≡ symbol_of 0 (get_or (sent (epoch_at 0 (t - (if p == 0 then 4 else 0))) p) ((t - (if p == 0 then 4 else 0)) % 16) 0)
    other true e = absurd (later_not t done (late 5 (omega arith) (eqb-true (epoch_at 0 (t - (if p == 0 then 4 else 0))) 5 (and_left (epoch_at 0 (t - (if p == 0 then 4 else 0)) == 5) (p == 0) e))) un)
    other false e = number_kept (epoch_at 0 (t - (if p == 0 then 4 else 0))) p ((t - (if p == 0 then 4 else 0)) % 16) brings

    go : (b : Bool) → (epoch_at 0 (t - (if p == 0 then 4 else 0)) == 3 && p == 1) ≡ b
        → symbol_of 0 (get_or (if b then half_hit else if epoch_at 0 (t - (if p == 0 then 4 else 0)) == 5 && p == 0 then next_hit else came (epoch_at 0 (t - (if p == 0 then 4 else 0))) p) ((t - (if p == 0 then 4 else 0)) % 16) 0)
        ≡ symbol_of 0 (get_or (sent (epoch_at 0 (t - (if p == 0 then 4 else 0))) p) ((t - (if p == 0 then 4 else 0)) % 16) 0)
    go true e = absurd (later_not t done (late 3 (omega arith) (eqb-true (epoch_at 0 (t - (if p == 0 then 4 else 0))) 3 (and_left (epoch_at 0 (t - (if p == 0 then 4 else 0)) == 3) (p == 1) e))) un)
    go false e = other (epoch_at 0 (t - (if p == 0 then 4 else 0)) == 5 && p == 0) refl

-- What demand 3 lets be so but for the frames in which MFI2 is spared: the fields of Assumed and of its lines, without `spared`.
record ButSpared (k : Link) : Type 0 where
  history : History
  allowed : Allowed history
  unranked : ℕ → ℕ → List ℕ
  unranked_long : (x slot : ℕ) → slot < history.slots → length (unranked x slot) ≡ k.payload
  sends : k.sending ≡ sending_of history k.payload k.client unranked
  all : k.ports ≡ history.slots
  paired : Pairing history.slots history.slots k.pairing
  sizes : start_sized (kind_of k) k.ports k.payload k.window ≡ true
  client : (x : ℕ) → length (k.client x) ≡ k.sending.x (epoch_at (kind_of k) x) * k.payload
  spread : (p q : ℕ) → p < k.ports → q < k.ports → k.delay p + epoch_frames k ≤ k.delay q + k.window
  once : (t p : ℕ) → p < k.ports → times p (k.order t) ≡ 1
  only : (t : ℕ) → Below k.ports (k.order t)
  arrived : (i p : ℕ) → p < k.ports → Arrived (kind_of k) k.sending.changes (sent_to k i p) (k.came i p)
  room : (j : ℕ) → k.ports * epoch_frames k * k.payload ≤ length (k.output j)
  eight : (a j : ℕ) → length (k.lent a j) ≡ 8

with_spared : (k : Link) → ButSpared k → ((t p : ℕ) (done : List ℕ) → Unready (road_of k) t done → NumberKept k t p) → Assumed k
with_spared k a spared =
    record {
      history = a.history;
      allowed = a.allowed;
      unranked = a.unranked;
      unranked_long = a.unranked_long;
      sends = a.sends;
      all = a.all;
      paired = a.paired;
      lines = record {
        sizes = a.sizes;
        client = a.client;
        spread = a.spread;
        once = a.once;
        only = a.only;
        arrived = a.arrived;
        spared = λ t p done rest h is_order come un. spared t p done un;
        room = a.room;
        eight = a.eight;
      };
    }

-- so it is whichever packets came, if they may
but_spared : (hits : ℕ → ℕ → List ℕ) → ((i p : ℕ) → Arrived 0 3 (sent i p) (hits i p)) → ButSpared (link_of hits client 4 (λ t. t % 2 == 0))
unfolding known_kind sized frames tags most_changes payload_right start_sized
but_spared hits arrived =
    record {
      history = history;
      allowed = allowed;
      unranked = unranked;
      unranked_long = λ x slot b. refl;
      sends = refl;
      all = refl;
      paired = record { below = λ p h. omega arith; once = λ p q hp hq e. omega arith };
      sizes = refl;
      client = λ x. length_tabulate (x_at history (epoch_at 0 x) * 1) (λ j. (x * 2 + j) % 256);
      spread = spread_4;
      once = λ t p h. once (t % 2 == 0) p h;
      only = λ t. only (t % 2 == 0);
      arrived = λ i p h. arrived i p;
      room = λ j. omega (arith, length-replicate {A = ℕ} 33 0xEE);
      eight = λ a j. refl;
    }

met_after : Assumed after
met_after = with_spared after (but_spared came_after arrived_after) spared_after

holds_after : Demand3 after
holds_after = demand3 after met_after

-- Its run is the sample's but for the second report, which is held for the packet that rules it. No frame is answered otherwise than by 0 or 12.
run_after_lem : outcome after 180 ≡ record { begun = 1; told = reports_with (held 255); strange = [] }
unfolding outcome course
run_after_lem = outcome_by_lem after 180 _ refl

-- A wrong reading: an epoch held for the MFI2 of a packet of its own. The first epoch reported is ruled by packets that came as sent, so demand 3 wants it sure.
wrong_mark : Link → ℕ → ℕ
wrong_mark k i = if every 2 (λ p. own_number (epoch_number 0 249 i) (packet_row 0 (k.came i p))) then SURE else HELD

own_breaks : (wrong_mark after 5 ≡ HELD) × ((expected after 4 output).mark ≡ SURE)
unfolding outcome wrong_mark
own_breaks = (refl, refl)

-- Before it begins: the low nibble of MFI2 in port 1's packet of the epoch at index 2 comes in frame time 41.

abbrev early : List ℕ
early = 0xF8 ∷ 0xF9 ∷ 0x0A ∷ 0x0B ∷ 0x0C ∷ 0x0D ∷ 0x0E ∷ 0x0F ∷ 0xF0 ∷ 0xB1 ∷ 0x32 ∷ 0x13 ∷ 0x04 ∷ 0x05 ∷ 0x26 ∷ 0x87 ∷ []

abbrev early_hit : List ℕ
early_hit = 0xF8 ∷ 0xF9 ∷ 0x0A ∷ 0x0B ∷ 0x0C ∷ 0x0D ∷ 0x0E ∷ 0x0F ∷ 0xF0 ∷ 0xA1 ∷ 0x32 ∷ 0x13 ∷ 0x04 ∷ 0x05 ∷ 0x26 ∷ 0x87 ∷ []

early_sent : sent 2 1 ≡ early
unfolding outcome
early_sent = refl

abbrev came_before : ℕ → ℕ → List ℕ
came_before i p = if i == 2 && p == 1 then early_hit else came i p

abbrev before : Link
before = link_of came_before client 4 (λ t. t % 2 == 0)

unready_then : Unready (road_of before) 41 []
unfolding road_of frames next_at
unready_then u earlier rest e na y =
    let w : start_from 0 (first_tag 0 249) 21 + 16 * 2 ≤ coming (road_of before) u rest 1 = y.stepped 1 (omega arith) in
    let at : coming (road_of before) u rest 1 ≡ 21 + (u + 1 - times 1 rest - 21) = coming_is (road_of before) u rest 1 (omega arith) in
    let from = counts_1 in
    ⊎_elim (λ (h : u < 41). absurd (omega arith)) (λ (h : (u ≡ 41) × (length earlier ≤ 0)). (let same = h.0 in absurd (omega arith))) na

-- Of what demand 3 lets be so this frame alone lacks: one bit of the packet came changed, every other frame brings the nibble that was sent, and all else is so.

early_one : changed 0 early early_hit ≡ 1
unfolding outcome
early_one = refl

early_damage : Damaged 0 3 early early_hit
unfolding frames kept_part
early_damage =
    record {
      long = refl;
      bytes = λ k b. ltb-true (get_or early_hit k 0) 256 (below_at 16 (λ i. get_or early_hit i 0 <? 256) refl k b);
      least = omega (arith, early_one);
      most = omega (arith, early_one);
      placed = λ k b. eqb-true (kept_part 0 k (get_or early_hit k 0)) (kept_part 0 k (get_or early k 0)) (below_at 16 (λ i. kept_part 0 i (get_or early_hit i 0) == kept_part 0 i (get_or early i 0)) refl k b);
    }

arrived_before : (i p : ℕ) → Arrived 0 3 (sent i p) (came_before i p)
arrived_before i p = go (i == 2 && p == 1) refl
  where
    go : (b : Bool) → (i == 2 && p == 1) ≡ b → Arrived 0 3 (sent i p) (if b then early_hit else came i p)
    go true e = let hi = eqb-true i 2 (and_left (i == 2) (p == 1) e) in let hp = eqb-true p 1 (and_right (i == 2) (p == 1) e) in inr (rw (hi, hp, early_sent) early_damage)
    go false e = arrived i p

all_else : ButSpared before
all_else = but_spared came_before arrived_before

kept_before : (i p k : ℕ) → (i ≡ 2 → p ≡ 1 → k ≡ 9 → ⊥) → BringsMfi2 0 k → symbol_of 0 (get_or (came_before i p) k 0) ≡ symbol_of 0 (get_or (sent i p) k 0)
unfolding symbol_of
kept_before i p k other brings = go (i == 2 && p == 1) refl
  where
    high : (k ≡ 9 → ⊥) → symbol_of 0 (get_or early_hit k 0) ≡ symbol_of 0 (get_or early k 0)
    high d = ⊎_elim (λ (e : k ≡ 8). rw e refl) (λ (e : k ≡ 9). absurd (d e)) (mfi2_places k brings)

    go : (b : Bool) → (i == 2 && p == 1) ≡ b → symbol_of 0 (get_or (if b then early_hit else came i p) k 0) ≡ symbol_of 0 (get_or (sent i p) k 0)
    go true e =
        let hi = eqb-true i 2 (and_left (i == 2) (p == 1) e) in
        let hp = eqb-true p 1 (and_right (i == 2) (p == 1) e) in
        let kept = high (λ hk. other hi hp hk) in
        rw (hi, hp, early_sent) kept
    go false e = number_kept i p k brings

kept_but_one : (t p : ℕ) → (t ≡ 41 → p ≡ 1 → ⊥) → NumberKept before t p
unfolding frames
kept_but_one t p other brings =
    kept_before ((t - (if p == 0 then 4 else 0)) / 16) p ((t - (if p == 0 then 4 else 0)) % 16)
    (λ hi hp hk. other (let soon : ◌≡◌ {A = ℕ} (if p == 0 then 4 else 0) 0 = rw hp refl in omega (arith, soon, hi, hk)) hp) brings

not_spared : Assumed before → ⊥
unfolding outcome
not_spared a =
    let e : NumberKept before 41 1 = a.lines.spared 41 1 [] (0 ∷ []) (omega arith) refl (omega arith) unready_then in
    let same : ◌≡◌ {A = ℕ} 10 11 = e refl in
    absurd (omega arith)

-- before which frame times receiving had begun, the last one first
before_begun : (course before 88).begun ≡ 1 ∷ replicate 88 0
unfolding outcome course
before_begun = refl

-- The count of port 1 starts anew, and 47 frames after the last port's first receiving has not begun.
late_then : ((outcome before 68).begun ≡ 0) × ((outcome before 87).begun ≡ 0) × ((outcome before 88).begun ≡ 1)
late_then = (
  begun_by before 88 68 0 (omega arith) (ap (λ (l : List ℕ). get_or l 20 0) before_begun),
  begun_by before 88 87 0 (omega arith) (ap (λ (l : List ℕ). get_or l 1 0) before_begun),
  begun_by before 88 88 1 (omega arith) (ap (λ (l : List ℕ). get_or l 0 0) before_begun),
)

-- Of the same packet three bits elsewhere, in MST and in the control word: this demand 3 lets be, before receiving begins too.

abbrev other_hit : List ℕ
other_hit = 0xF8 ∷ 0xE9 ∷ 0x0A ∷ 0x0B ∷ 0x0C ∷ 0x0D ∷ 0x0E ∷ 0x0F ∷ 0xF0 ∷ 0xB1 ∷ 0x02 ∷ 0x13 ∷ 0x04 ∷ 0x05 ∷ 0x26 ∷ 0x87 ∷ []

other_three : changed 0 early other_hit ≡ 3
unfolding outcome
other_three = refl

other_damage : Damaged 0 3 early other_hit
unfolding frames kept_part
other_damage =
    record {
      long = refl;
      bytes = λ k b. ltb-true (get_or other_hit k 0) 256 (below_at 16 (λ i. get_or other_hit i 0 <? 256) refl k b);
      least = omega (arith, other_three);
      most = omega (arith, other_three);
      placed = λ k b. eqb-true (kept_part 0 k (get_or other_hit k 0)) (kept_part 0 k (get_or early k 0)) (below_at 16 (λ i. kept_part 0 i (get_or other_hit i 0) == kept_part 0 i (get_or early i 0)) refl k b);
    }

abbrev came_elsewhere : ℕ → ℕ → List ℕ
came_elsewhere i p = if i == 2 && p == 1 then other_hit else came i p

abbrev elsewhere : Link
elsewhere = link_of came_elsewhere client 4 (λ t. t % 2 == 0)

arrived_elsewhere : (i p : ℕ) → Arrived 0 3 (sent i p) (came_elsewhere i p)
arrived_elsewhere i p = go (i == 2 && p == 1) refl
  where
    go : (b : Bool) → (i == 2 && p == 1) ≡ b → Arrived 0 3 (sent i p) (if b then other_hit else came i p)
    go true e = let hi = eqb-true i 2 (and_left (i == 2) (p == 1) e) in let hp = eqb-true p 1 (and_right (i == 2) (p == 1) e) in inr (rw (hi, hp, early_sent) other_damage)
    go false e = arrived i p

kept_elsewhere : (i p k : ℕ) → BringsMfi2 0 k → symbol_of 0 (get_or (came_elsewhere i p) k 0) ≡ symbol_of 0 (get_or (sent i p) k 0)
unfolding symbol_of
kept_elsewhere i p k brings = go (i == 2 && p == 1) refl
  where
    both : BringsMfi2 0 k → symbol_of 0 (get_or other_hit k 0) ≡ symbol_of 0 (get_or early k 0)
    both b = ⊎_elim (λ (e : k ≡ 8). rw e refl) (λ (e : k ≡ 9). rw e refl) (mfi2_places k b)

    go : (b : Bool) → (i == 2 && p == 1) ≡ b → symbol_of 0 (get_or (if b then other_hit else came i p) k 0) ≡ symbol_of 0 (get_or (sent i p) k 0)
    go true e = let hi = eqb-true i 2 (and_left (i == 2) (p == 1) e) in let hp = eqb-true p 1 (and_right (i == 2) (p == 1) e) in rw (hi, hp, early_sent) (both brings)
    go false e = number_kept i p k brings

holds_elsewhere : Demand3 elsewhere
holds_elsewhere =
    demand3 elsewhere
    (with_spared elsewhere (but_spared came_elsewhere arrived_elsewhere) (λ t p done un. kept_elsewhere (epoch_at 0 (t - (if p == 0 then 4 else 0))) p ((t - (if p == 0 then 4 else 0)) % frames 0)))
