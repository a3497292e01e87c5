-- Each group's link is one that demand 3 per group speaks of.
use Rattle.std.specs.Prelude.{◌≡◌, refl, Bool, true, false, not, List, ℕ, zero, suc, ◌+◌, ◌*◌, ◌%◌, ◌≤◌, ◌<◌, length, if◌then◌else◌, ◌==◌}
use Rattle.std.proofs.Common.{sym, ap, ◌∙◌, inl, true≢false, arith}
use Rattle.std.proofs.lemmas.List.{length-replicate}
use Rattle.ground.specs.Plain.{◌<?◌}
use Rattle.ground.specs.Table.{length_tabulate}
use Rattle.packet.specs.Kinds.{epochs, frames, payload_right, tags}
use Rattle.phases.specs.Sizes.{known_kind, sized, start_sized}
use Rattle.sender.specs.Calls.{Call}
use Rattle.cards.specs.Parts.{owns}
use Rattle.link.specs.Demand3.{Demand3}
use Rattle.link.specs.History.{History, sending_of, x_at}
use Rattle.link.specs.Link.{Lines}
use Rattle.link.specs.Samples.Members.{unranked}
use Rattle.link.specs.Samples.Met.{once, only}
use Rattle.link.specs.Sending.{Client, Reached, epoch_at, epoch_start}
use Rattle.groups.specs.Assumed.{AssumedEach}
use Rattle.groups.specs.Cards.{card_at}
use Rattle.groups.specs.Samples.Calls.{card, starts₀, starts₁, still₀, still₁}
use Rattle.groups.specs.Samples.Histories.{computed, history₀, history₁, own₀, own₁}
use Rattle.groups.specs.Samples.Links.{client₀, client₁, first₀, first₁, link₀, link₁, link_of, pairing₀, pairing₁}
use Rattle.groups.specs.Theorems.{demand3_each, stays_still}

late : (b : Bool) → (if b then 4 else 0) ≤ 4
late true = omega arith
late false = omega arith

lines : (slots e : ℕ) (before : ℕ → List Call) (gid mst ack : ℕ → ℕ) (client : Client) (pairing first : ℕ → ℕ)
    → let history : History = record { kind = 0; slots = slots; first = e; before = before; gid = gid; mst = mst; ack = ack } in
    ((x : ℕ) → length (client x) ≡ x_at history (epoch_at 0 x) * 1) → Lines (link_of history client pairing first)
unfolding known_kind sized frames tags payload_right start_sized
lines slots e before gid mst ack client pairing first whole =
    record {
      sizes = refl;
      client = whole;
      spread = λ p q hp hq. (let h = late (p == 0) in omega arith);
      once = λ t p h. once (t % 2 == 0) p h;
      only = λ t. only (t % 2 == 0);
      arrived = λ i p h. inl refl;
      spared = λ t p done rest h is_order come un brings. refl;
      room = λ j. omega (arith, length-replicate {A = ℕ} 33 0xEE);
      eight = λ a j. refl;
    }

lines₀ : Lines link₀
lines₀ = lines 4 0 _ _ _ _ client₀ pairing₀ first₀ (λ x. length_tabulate (x_at history₀ (epoch_at 0 x) * 1) (λ j. (x * 2 + j) % 256))

pub lines₁ : Lines link₁
lines₁ = lines 4 250 _ _ _ _ client₁ pairing₁ first₁ (λ x. length_tabulate (x_at history₁ (epoch_at 0 x) * 1) (λ j. (x * 3 + j + 100) % 256))

-- Group 0 owns slots 0 and 1 after 34 calls, and group 1 slots 2 and 3 after one more.

then₀ : (slot : ℕ) → slot < 4 → owns (card_at card 34) 0 slot ≡ (slot <? 2)
unfolding computed
then₀ zero h = refl
then₀ (suc zero) h = refl
then₀ (suc (suc zero)) h = refl
then₀ (suc (suc (suc zero))) h = refl
then₀ (suc (suc (suc (suc slot)))) h = absurd (omega arith)

then₁ : (slot : ℕ) → slot < 4 → owns (card_at card 35) 1 slot ≡ not (slot <? 2)
unfolding computed
then₁ zero h = refl
then₁ (suc zero) h = refl
then₁ (suc (suc zero)) h = refl
then₁ (suc (suc (suc zero))) h = refl
then₁ (suc (suc (suc (suc slot)))) h = absurd (omega arith)

owned₀ : (p : ℕ) → p < 2 → owns (card_at card 34) 0 (pairing₀ p) ≡ true
owned₀ zero h = then₀ 1 (omega arith)
owned₀ (suc zero) h = then₀ 0 (omega arith)
owned₀ (suc (suc p)) h = absurd (omega arith)

pub owned₁ : (p : ℕ) → p < 2 → owns (card_at card 35) 1 (pairing₁ p) ≡ true
owned₁ zero h = then₁ 2 (omega arith)
owned₁ (suc zero) h = then₁ 3 (omega arith)
owned₁ (suc (suc p)) h = absurd (omega arith)

reaches₀ : (slot : ℕ) → slot < 4 → owns (card_at card 34) 0 slot ≡ true → Reached 2 pairing₀ slot
reaches₀ zero h e = record { port = 1; below = omega arith; is = refl }
reaches₀ (suc zero) h e = record { port = 0; below = omega arith; is = refl }
reaches₀ (suc (suc zero)) h e = absurd (true≢false (sym e ∙ then₀ 2 (omega arith)))
reaches₀ (suc (suc (suc zero))) h e = absurd (true≢false (sym e ∙ then₀ 3 (omega arith)))
reaches₀ (suc (suc (suc (suc slot)))) h e = absurd (omega arith)

pub reaches₁ : (slot : ℕ) → slot < 4 → owns (card_at card 35) 1 slot ≡ true → Reached 2 pairing₁ slot
reaches₁ zero h e = absurd (true≢false (sym e ∙ then₁ 0 (omega arith)))
reaches₁ (suc zero) h e = absurd (true≢false (sym e ∙ then₁ 1 (omega arith)))
reaches₁ (suc (suc zero)) h e = record { port = 0; below = omega arith; is = refl }
reaches₁ (suc (suc (suc zero))) h e = record { port = 1; below = omega arith; is = refl }
reaches₁ (suc (suc (suc (suc slot)))) h e = absurd (omega arith)

-- The epochs that start after the earliest frame are those from index 4 on.

later₀ : (i : ℕ) → 57 < epoch_start 0 i → 34 ≤ starts₀.at i
unfolding frames starts₀
later₀ i h = omega arith

pub later₁ : (i : ℕ) → 58 < epoch_start 0 i → 35 ≤ starts₁.at i
unfolding frames starts₁
later₁ i h = omega arith

from₀ : (b : Bool) → 57 ≤ (if b then 57 else 60)
from₀ true = omega arith
from₀ false = omega arith

pub from₁ : (b : Bool) → 58 ≤ (if b then 66 else 58)
from₁ true = omega arith
from₁ false = omega arith

met₀ : AssumedEach card 0 link₀
unfolding epochs
met₀ =
    record {
      group = omega arith;
      lcas = refl;
      some = omega arith;
      most = omega arith;
      first = omega arith;
      starts = starts₀;
      unranked = unranked;
      unranked_long = λ x slot b. refl;
      sends = ap (λ (h : History). sending_of h 1 client₀ unranked) (sym own₀);
      lines = lines₀;
      earliest = 57;
      calls_then = 34;
      not_before = λ p h. from₀ (p == 0);
      started_later = later₀;
      stay = λ n slot h b. stays_still card 0 (omega arith) 34 still₀ n slot h (omega arith);
      paired = record { below = λ p h. omega arith; once = λ p q hp hq e. omega arith };
      own = owned₀;
      each = reaches₀;
    }

unfoldable pub met₁ : AssumedEach card 1 link₁
unfolding epochs
met₁ =
    record {
      group = omega arith;
      lcas = refl;
      some = omega arith;
      most = omega arith;
      first = omega arith;
      starts = starts₁;
      unranked = unranked;
      unranked_long = λ x slot b. refl;
      sends = ap (λ (h : History). sending_of h 1 client₁ unranked) (sym own₁);
      lines = lines₁;
      earliest = 58;
      calls_then = 35;
      not_before = λ p h. from₁ (p == 0);
      started_later = later₁;
      stay = λ n slot h b. stays_still card 1 (omega arith) 35 still₁ n slot h (omega arith);
      paired = record { below = λ p h. omega arith; once = λ p q hp hq e. omega arith };
      own = owned₁;
      each = reaches₁;
    }

holds₀ : Demand3 link₀
holds₀ = demand3_each card 0 link₀ met₀

holds₁ : Demand3 link₁
holds₁ = demand3_each card 1 link₁ met₁
