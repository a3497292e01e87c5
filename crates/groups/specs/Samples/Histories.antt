-- The history that each group of the sample has by itself, written out.
use Rattle.std.specs.Prelude.{◌≡◌, refl, Bool, true, false, List, [], ◌∷◌, ◌++◌, ℕ, zero, suc, ◌+◌, ◌-◌, ◌*◌, ◌%◌, ◌≤◌, ◌<◌, get_or, if◌then◌else◌, ◌==◌}
use Rattle.std.proofs.Common.{◌∙◌, sym, ap, ⊎_elim, arith}
use Rattle.std.proofs.Math.ListN.{get_or-eq_default}
use Rattle.ground.specs.Table.{get_or_tabulate, tabulate}
use Rattle.ground.specs.Truth.{le_or_lt}
use Rattle.sender.specs.Calls.{Call}
use Rattle.sender.specs.Calls.Call.{AddSlot, Lapse, RemoveSlot, Report}
use Rattle.cards.specs.declared.card.Card.{Card}
use Rattle.cards.specs.Opened.{circuits_open}
use Rattle.cards.specs.Views.{Made, card_after}
use Rattle.link.specs.History.{History}
use Rattle.link.specs.Opened.{link_open}
use Rattle.groups.specs.Cards.{CardHistory, card_at}
use Rattle.groups.specs.Projected.{before_start, history_of, reaching, table_calls}
use Rattle.groups.specs.Samples.Calls.{card, made, made_late, quiet, start₀, start₁, starts₀, starts₁}

-- Everything that a card is made of is opened here, for the checker to compute.
unfoldable pub computed : CardHistory → ℕ → Card
unfolding circuits_open link_open card_at
computed h n = card_at h n

-- the calls that reach group 0's table before each of its epochs: neither claims and releases nor what is answered 14
abbrev pub calls₀ : List (List Call)
calls₀ =
    []
    ∷ (AddSlot 2 ∷ AddSlot 0 ∷ [])
    ∷ (Report 0 0x00 0 ∷ [])
    ∷ (Lapse ∷ [])
    ∷ (RemoveSlot 2 ∷ [])
    ∷ (Lapse ∷ AddSlot 1 ∷ [])
    ∷ []
    ∷ []
    ∷ (Report 0 0x00 0 ∷ [])
    ∷ []
    ∷ []

abbrev pub history₀ : History
history₀ = record { kind = 0; slots = 4; first = 0; before = λ i. get_or calls₀ i []; gid = λ i. 0; mst = λ i. 255; ack = λ i. 0 }

-- and group 1's
abbrev pub calls₁ : List (List Call)
calls₁ =
    []
    ∷ (AddSlot 3 ∷ [])
    ∷ (Report 0 0x00 0 ∷ [])
    ∷ (Lapse ∷ [])
    ∷ []
    ∷ (AddSlot 2 ∷ [])
    ∷ []
    ∷ (Report 0 0x00 0 ∷ [])
    ∷ []
    ∷ []
    ∷ []

abbrev pub history₁ : History
history₁ = record { kind = 0; slots = 4; first = 250; before = λ i. get_or calls₁ i []; gid = λ i. 1; mst = λ i. 255; ack = λ i. 1 }

-- The rounds are computed, and later nothing reaches a table.

early₀ : tabulate 10 (before_start card 0 starts₀) ≡ calls₀
unfolding computed starts₀
early₀ = refl

early₁ : tabulate 10 (before_start card 1 starts₁) ≡ calls₁
unfolding computed starts₁
early₁ = refl

-- of calls that reach no table of g
none_reach : (g k : ℕ) (f : ℕ → Made) (c : Card) → ((j : ℕ) (d : Card) → reaching g d (f j) ≡ []) → table_calls g c (tabulate k f) ≡ []
none_reach g zero f c none = refl
none_reach g (suc k) f c none =
    let d : Card = card_after c (f zero).group (f zero).asked in
    ap (λ (l : List Call). l ++ table_calls g d (tabulate k (λ j. f (suc j)))) (none zero c) ∙ none_reach g k (λ j. f (suc j)) d (λ j e. none (suc j) e)

late_call : (g n : ℕ) (d : Card) → 72 ≤ n → ((a b : Bool) → reaching g d (if a then start₀ else if b then start₁ else quiet) ≡ []) → reaching g d (made n) ≡ []
late_call g n d h none = ap (λ (m : Made). reaching g d m) (made_late n h) ∙ none (n % 8 == 6) (n % 8 == 7)

none₀ : (d : Card) (a b : Bool) → reaching 0 d (if a then start₀ else if b then start₁ else quiet) ≡ []
none₀ d true b = refl
none₀ d false true = refl
none₀ d false false = refl

none₁ : (d : Card) (a b : Bool) → reaching 1 d (if a then start₀ else if b then start₁ else quiet) ≡ []
none₁ d true b = refl
none₁ d false true = refl
none₁ d false false = refl

late₀ : (i : ℕ) → 10 ≤ i → before_start card 0 starts₀ i ≡ []
unfolding starts₀
late₀ zero h = absurd (omega arith)
late₀ (suc i) h = none_reach 0 (suc i * 8 + 6 - suc (i * 8 + 6)) (λ j. made (suc (i * 8 + 6) + j)) (card_at card (suc (i * 8 + 6))) (λ j d. late_call 0 (suc (i * 8 + 6) + j) d (omega arith) (none₀ d))

late₁ : (i : ℕ) → 10 ≤ i → before_start card 1 starts₁ i ≡ []
unfolding starts₁
late₁ zero h = absurd (omega arith)
late₁ (suc i) h = none_reach 1 (suc i * 8 + 7 - suc (i * 8 + 7)) (λ j. made (suc (i * 8 + 7) + j)) (card_at card (suc (i * 8 + 7))) (λ j d. late_call 1 (suc (i * 8 + 7) + j) d (omega arith) (none₁ d))

-- a table that is written out, and nothing behind it
all_of : (f : ℕ → List Call) (l : List (List Call)) → tabulate 10 f ≡ l → ((i : ℕ) → 10 ≤ i → f i ≡ []) → ((i : ℕ) → 10 ≤ i → get_or l i [] ≡ []) → (i : ℕ) → f i ≡ get_or l i []
all_of f l early late end i =
    ⊎_elim (λ (h : 10 ≤ i). late i h ∙ sym (end i h))
    (λ (h : i < 10). sym (get_or_tabulate 10 f i [] h) ∙ ap (λ (t : List (List Call)). get_or t i []) early)
    (le_or_lt 10 i)

before₀ : (i : ℕ) → before_start card 0 starts₀ i ≡ get_or calls₀ i []
before₀ = all_of (before_start card 0 starts₀) calls₀ early₀ late₀ (λ i h. get_or-eq_default calls₀ [] h)

before₁ : (i : ℕ) → before_start card 1 starts₁ i ≡ get_or calls₁ i []
before₁ = all_of (before_start card 1 starts₁) calls₁ early₁ late₁ (λ i h. get_or-eq_default calls₁ [] h)

pub own₀ : history_of card 0 starts₀ ≡ history₀
unfolding starts₀
own₀ = λ t. record { kind = 0; slots = 4; first = 0; before = λ i. before₀ i t; gid = λ i. 0; mst = λ i. 255; ack = λ i. 0 }

pub own₁ : history_of card 1 starts₁ ≡ history₁
unfolding starts₁
own₁ = λ t. record { kind = 0; slots = 4; first = 250; before = λ i. before₁ i t; gid = λ i. 1; mst = λ i. 255; ack = λ i. 1 }
