-- The card after one call more, and after some calls more.
use Rattle.std.specs.Prelude.{◌≡◌, refl, ℕ, zero, suc, ◌+◌, ◌-◌, ◌≤◌}
use Rattle.std.proofs.Common.{◌∙◌, sym, arith}
use Rattle.std.proofs.Math.Path.{ap}
use mathlib.Core.List.{List, [], ◌∷◌, ◌++◌}
use Rattle.ground.specs.Table.{tabulate, tabulate_suc}
use Rattle.cards.specs.Commands.{start_of}
use Rattle.cards.specs.declared.card.Card.{Card}
use Rattle.cards.specs.Views.{Made, card_after, run}
use Rattle.groups.specs.Cards.{CardHistory, card_at}
use Rattle.groups.specs.Projected.{made_from}

run_more : (c : Card) (ms : List Made) (m : Made) → run c (ms ++ (m ∷ [])) ≡ card_after (run c ms) m.group m.asked
run_more c [] m = refl
run_more c (n ∷ ms) m = run_more (card_after c n.group n.asked) ms m

module _ (h : CardHistory) where
  pub card_next : (n : ℕ) → card_at h (suc n) ≡ card_after (card_at h n) (h.made n).group (h.made n).asked
  unfolding card_at
  card_next n =
      let c : Card = (start_of h.kind h.slots (h.first 0) (h.first 1)).card in
      ap (λ (ms : List Made). run c ms) (tabulate_suc n h.made) ∙ run_more c (tabulate n h.made) (h.made n)

  card_on : (m k : ℕ) → card_at h (m + k) ≡ run (card_at h m) (tabulate k (λ j. h.made (m + j)))
  card_on m zero = let e : m + zero ≡ m = omega arith in ap (λ (n : ℕ). card_at h n) e
  card_on m (suc k) =
      let e : m + suc k ≡ suc (m + k) = omega arith in
      ap (λ (n : ℕ). card_at h n) e
      ∙ card_next (m + k)
      ∙ ap (λ (c : Card). card_after c (h.made (m + k)).group (h.made (m + k)).asked) (card_on m k)
      ∙ sym (run_more (card_at h m) (tabulate k (λ j. h.made (m + j))) (h.made (m + k)))
      ∙ sym (ap (λ (ms : List Made). run (card_at h m) ms) (tabulate_suc k (λ j. h.made (m + j))))

  pub card_from_lem : (m n : ℕ) → m ≤ n → card_at h n ≡ run (card_at h m) (made_from h m n)
  card_from_lem m n le = let e : n ≡ m + (n - m) = omega arith in ap (λ (j : ℕ). card_at h j) e ∙ card_on m (n - m)
