-- The sample link is one that demand 3 speaks of.
use Rattle.std.specs.Prelude.{◌≡◌, refl, ◌⊎◌, Bool, true, false, ◌&&◌, List, [], ◌∷◌, ℕ, zero, suc, ◌+◌, ◌-◌, ◌*◌, ◌%◌, ◌≤◌, ◌<◌, get_or, length, if◌then◌else◌, ◌==◌}
use Rattle.std.proofs.Common.{inl, inr, ⊎_elim, arith, eqb-true, ltb-true}
use Rattle.std.proofs.lemmas.List.{length-replicate}
use Rattle.ground.specs.Finite.{below_at}
use Rattle.ground.specs.Plain.{◌<?◌}
use Rattle.ground.specs.Table.{length_tabulate}
use Rattle.ground.specs.Truth.{and_left, and_right, or_cases}
use Rattle.packet.specs.Changes.{brings_mfi2, changed, kept_part, most_changes}
use Rattle.packet.specs.Kinds.{epochs, frames, lead, payload_right, tags}
use Rattle.packet.specs.Symbols.{symbol_of}
use Rattle.phases.specs.Sizes.{known_kind, sized, start_sized}
use Rattle.link.specs.Assumed.{Assumed}
use Rattle.link.specs.History.{Allowed, x_at}
use Rattle.link.specs.Link.{Arrived, BringsMfi2, Damaged}
use Rattle.link.specs.Road.{Below, times}
use Rattle.link.specs.Samples.Computing.{outcome}
use Rattle.link.specs.Samples.Members.{came, client, damaged, history, link, link_by, link_with, sent, unranked}
use Rattle.link.specs.Sending.{Client, epoch_at}

pub allowed : Allowed history
unfolding epochs
allowed = record { lcas = refl; some = omega arith; most = omega arith; first = omega arith; gid = λ i. omega arith; mst = λ i. omega arith; ack = λ i. omega arith }

-- the packet that came damaged, as it was sent
abbrev whole : List ℕ
whole = 0xF8 ∷ 0xF9 ∷ 0x0A ∷ 0x0B ∷ 0x0C ∷ 0x0D ∷ 0x0E ∷ 0x1F ∷ 0x00 ∷ 0x11 ∷ 0x32 ∷ 0x13 ∷ 0x04 ∷ 0x05 ∷ 0xD6 ∷ 0x57 ∷ []

was_sent : sent 8 0 ≡ whole
unfolding outcome
was_sent = refl

three : changed 0 whole damaged ≡ 3
unfolding outcome
three = refl

damage : Damaged 0 3 whole damaged
unfolding frames kept_part
damage =
    record {
      long = refl;
      bytes = λ k b. ltb-true (get_or damaged k 0) 256 (below_at 16 (λ i. get_or damaged i 0 <? 256) refl k b);
      least = omega (arith, three);
      most = omega (arith, three);
      placed = λ k b. eqb-true (kept_part 0 k (get_or damaged k 0)) (kept_part 0 k (get_or whole k 0)) (below_at 16 (λ i. kept_part 0 i (get_or damaged i 0) == kept_part 0 i (get_or whole i 0)) refl k b);
    }

pub arrived : (i p : ℕ) → Arrived 0 3 (sent i p) (came i p)
arrived i p = go (i == 8 && p == 0) refl
  where
    go : (b : Bool) → (i == 8 && p == 0) ≡ b → Arrived 0 3 (sent i p) (if b then damaged else sent i p)
    go true e = let hi = eqb-true i 8 (and_left (i == 8) (p == 0) e) in let hp = eqb-true p 0 (and_right (i == 8) (p == 0) e) in inr (rw (hi, hp, was_sent) damage)
    go false e = inl refl

-- the two places of MFI2
pub mfi2_places : (k : ℕ) → BringsMfi2 0 k → (k ≡ 8) ⊎ (k ≡ 9)
unfolding brings_mfi2 lead
mfi2_places k brings = ⊎_elim (λ (e : (k == 8) ≡ true). inl (eqb-true k 8 e)) (λ (e : (k == 9) ≡ true). inr (eqb-true k 9 e)) (or_cases (k == 8) (k == 9) brings)

-- its MFI2 came as sent, and so did that of all others
pub number_kept : (i p k : ℕ) → BringsMfi2 0 k → symbol_of 0 (get_or (came i p) k 0) ≡ symbol_of 0 (get_or (sent i p) k 0)
unfolding symbol_of
number_kept i p k brings = go (i == 8 && p == 0) refl
  where
    both : BringsMfi2 0 k → symbol_of 0 (get_or damaged k 0) ≡ symbol_of 0 (get_or whole k 0)
    both b = ⊎_elim (λ (e : k ≡ 8). rw e refl) (λ (e : k ≡ 9). rw e refl) (mfi2_places k b)

    go : (b : Bool) → (i == 8 && p == 0) ≡ b → symbol_of 0 (get_or (if b then damaged else sent i p) k 0) ≡ symbol_of 0 (get_or (sent i p) k 0)
    go true e = let hi = eqb-true i 8 (and_left (i == 8) (p == 0) e) in let hp = eqb-true p 0 (and_right (i == 8) (p == 0) e) in rw (hi, hp, was_sent) (both brings)
    go false e = refl

pub once : (b : Bool) (p : ℕ) → p < 2 → times p (if b then 0 ∷ 1 ∷ [] else 1 ∷ 0 ∷ []) ≡ 1
once true zero h = refl
once true (suc zero) h = refl
once true (suc (suc p)) h = absurd (omega arith)
once false zero h = refl
once false (suc zero) h = refl
once false (suc (suc p)) h = absurd (omega arith)

pub only : (b : Bool) → Below 2 (if b then 0 ∷ 1 ∷ [] else 1 ∷ 0 ∷ [])
only true = (omega arith, (omega arith, tt))
only false = (omega arith, (omega arith, tt))

-- all but the spread, for all group frames that are long enough, for every delay of port 0 and for every order of the ports
pub met_by : (client : Client) → ((x : ℕ) → length (client x) ≡ x_at history (epoch_at 0 x) * 1) → (late : ℕ) (late_first : ℕ → Bool)
    → ((p q : ℕ) → p < 2 → q < 2 → (if p == 0 then late else 0) + frames 0 ≤ (if q == 0 then late else 0) + 20) → Assumed (link_by client late late_first)
unfolding known_kind sized frames tags most_changes payload_right start_sized
met_by client whole late late_first spread =
    record {
      history = history;
      allowed = allowed;
      unranked = unranked;
      unranked_long = λ x slot b. refl;
      sends = refl;
      all = refl;
      paired = record { below = λ p h. omega arith; once = λ p q hp hq e. omega arith };
      lines = record {
        sizes = refl;
        client = whole;
        spread = spread;
        once = λ t p h. once (late_first t) p h;
        only = λ t. only (late_first t);
        arrived = λ i p h. arrived i p;
        spared = λ t p done rest h is_order come un. number_kept (epoch_at 0 (t - (if p == 0 then late else 0))) p ((t - (if p == 0 then late else 0)) % frames 0);
        room = λ j. omega (arith, length-replicate {A = ℕ} 33 0xEE);
        eight = λ a j. refl;
      };
    }

pub met_but : (late : ℕ) (late_first : ℕ → Bool) → ((p q : ℕ) → p < 2 → q < 2 → (if p == 0 then late else 0) + frames 0 ≤ (if q == 0 then late else 0) + 20) → Assumed (link_with late late_first)
met_but = met_by client (λ x. length_tabulate (x_at history (epoch_at 0 x) * 1) (λ j. (x * 2 + j) % 256))

late : (b : Bool) → (if b then 4 else 0) ≤ 4
late true = omega arith
late false = omega arith

-- as late as may be
pub spread_4 : (p q : ℕ) → p < 2 → q < 2 → (if p == 0 then 4 else 0) + frames 0 ≤ (if q == 0 then 4 else 0) + 20
unfolding frames
spread_4 p q hp hq = let h = late (p == 0) in omega arith

pub met : Assumed link
met = met_but 4 (λ t. t % 2 == 0) spread_4
