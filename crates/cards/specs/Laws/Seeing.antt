-- The view of a group after a change of the card.
use Rattle.std.specs.Prelude.{◌≡◌, refl, Bool, true, false, cond, ◌||◌, ◌≢◌, List, ℕ, zero, suc, ◌-◌, ◌<◌, eqb, ltb}
use Rattle.std.proofs.Common.{◌∙◌, sym, ap, arith, lt-ltb, ltb-true}
use Rattle.ground.specs.Table.{tabulate, get_or_tabulate, tabulate_ext}
use Rattle.ground.specs.Truth.{and_right}
use Rattle.sender.specs.declared.epochs.Sender.{Sender}
use Rattle.sender.specs.Answers.{SenderOutcome}
use Rattle.sender.specs.Laws.Sizes.{size_le}
use Rattle.cards.specs.declared.card.Card.{Card}
use Rattle.cards.specs.Alone.{own_in, slot_in, with_own}
use Rattle.cards.specs.Owners.{has_owner, mark_of, owner_in, with_owner}
use Rattle.cards.specs.Parts.{group_outcome, is_slot, marked, owns, sender_of, with_sender}
use Rattle.cards.specs.Views.{View, view_of}

-- a slot of the card is below 64
pub slot_low : (c : Card) (g i : ℕ) → is_slot c g i ≡ true → i < 64
unfolding is_slot
slot_low c g i t =
    let l : i < _ = ltb-true i _ (and_right (ltb g 2) _ t) in omega (arith, size_le (sender_of c g).table.count)

pub slot_is : (c : Card) (g i : ℕ) → g < 2 → is_slot c g i ≡ slot_in (view_of g c) i
unfolding is_slot view_of
slot_is c g i h = rw (lt-ltb g 2 h)

pub own_is : (c : Card) (g i : ℕ) → i < 64 → owns c g i ≡ own_in (view_of g c) i
unfolding view_of
own_is c g i h = sym (get_or_tabulate 64 (λ j. owns c g j) i false h)

or_turn : (a b : Bool) → (a || b) ≡ (b || a)
or_turn true true = refl
or_turn true false = refl
or_turn false true = refl
or_turn false false = refl

-- owned by anyone: by the group or by the other
pub owner_is : (c : Card) (g i : ℕ) → g < 2 → has_owner c.owners i ≡ (owns c g i || owns c (1 - g) i)
unfolding owns
owner_is c zero i h = refl
owner_is c (suc zero) i h = or_turn (eqb (owner_in c.owners i) 1) (eqb (owner_in c.owners i) 2)
owner_is c (suc (suc g)) i h = absurd (omega arith)

pub mark_some : (g : ℕ) → eqb 0 (mark_of g) ≡ false
mark_some g = go (eqb g 0)
  where
    go : (b : Bool) → eqb 0 (cond b 1 2) ≡ false
    go true = refl
    go false = refl

pub marks_apart : (g h : ℕ) → g < 2 → h < 2 → h ≢ g → eqb (mark_of h) (mark_of g) ≡ false
marks_apart zero zero a b n = absurd (n refl)
marks_apart zero (suc zero) a b n = refl
marks_apart zero (suc (suc h)) a b n = absurd (omega arith)
marks_apart (suc zero) zero a b n = refl
marks_apart (suc zero) (suc h) a b n = absurd (n (omega arith))
marks_apart (suc (suc g)) h a b n = absurd (omega arith)

-- whose slot j is once slot i has another owner
pub owns_marked : (c : Card) (g i m j : ℕ) → j < 64 → owns (marked c i m).card g j ≡ cond (eqb j i) (eqb m (mark_of g)) (owns c g j)
unfolding owns marked with_owner
owns_marked c g i m j h =
    ap (λ (o : ℕ). eqb o (mark_of g)) (get_or_tabulate 64 (λ k. cond (eqb k i) m (owner_in c.owners k)) j 0 h) ∙ go (eqb j i)
  where
    go : (b : Bool) → eqb (cond b m (owner_in c.owners j)) (mark_of g) ≡ cond b (eqb m (mark_of g)) (eqb (owner_in c.owners j) (mark_of g))
    go true = refl
    go false = refl

pub sender_marked : (c : Card) (g i m : ℕ) → sender_of (marked c i m).card g ≡ sender_of c g
unfolding sender_of marked
sender_marked c g i m = refl

pub owners_outcome : (c : Card) (h : ℕ) (r : SenderOutcome) → (group_outcome c h r).card.owners ≡ c.owners
unfolding group_outcome with_sender
owners_outcome c h r = go (eqb h 0)
  where
    go : (b : Bool)
        → (cond {A = Card} b (record { owners = c.owners; first = r.sender; second = c.second }) (record { owners = c.owners; first = c.first; second = r.sender })).owners ≡ c.owners
    go true = refl
    go false = refl

pub sender_outcome : (c : Card) (g : ℕ) (r : SenderOutcome) → sender_of (group_outcome c g r).card g ≡ r.sender
unfolding group_outcome with_sender sender_of
sender_outcome c g r = go (eqb g 0)
  where
    go : (b : Bool)
        → (let d = cond {A = Card} b (record { owners = c.owners; first = r.sender; second = c.second }) (record { owners = c.owners; first = c.first; second = r.sender }) in
        cond {A = Sender} b d.first d.second) ≡ r.sender
    go true = refl
    go false = refl

pub sender_other : (c : Card) (g h : ℕ) (r : SenderOutcome) → g < 2 → h < 2 → h ≢ g → sender_of (group_outcome c h r).card g ≡ sender_of c g
unfolding group_outcome with_sender sender_of
sender_other c zero zero r a b n = absurd (n refl)
sender_other c zero (suc zero) r a b n = refl
sender_other c zero (suc (suc h)) r a b n = absurd (omega arith)
sender_other c (suc zero) zero r a b n = refl
sender_other c (suc zero) (suc h) r a b n = absurd (n (omega arith))
sender_other c (suc (suc g)) h r a b n = absurd (omega arith)

pub view_is : (g : ℕ) (c : Card) (v : View) → sender_of c g ≡ v.sender → tabulate 64 (λ i. owns c g i) ≡ v.owned → view_of g c ≡ v
unfolding view_of
view_is g c v s o = rw (s, o)

-- a card with the same sender and the same slots of the group shows it the same
pub view_same : (g : ℕ) (c d : Card) → sender_of c g ≡ sender_of d g → ((i : ℕ) → i < 64 → owns c g i ≡ owns d g i) → view_of g c ≡ view_of g d
unfolding view_of
view_same g c d s o = view_is g c (view_of g d) s (tabulate_ext 64 (λ i. owns c g i) (λ i. owns d g i) o)

own_sender : (c : Card) (g : ℕ) → sender_of c g ≡ (view_of g c).sender
unfolding view_of
own_sender c g = refl

pub view_marked : (c : Card) (g i m : ℕ) → view_of g (marked c i m).card ≡ with_own (view_of g c) i (eqb m (mark_of g))
view_marked c g i m =
    view_is g (marked c i m).card (with_own (view_of g c) i (eqb m (mark_of g))) (sender_marked c g i m ∙ own_sender c g)
    (tabulate_ext 64 _ _ (λ j h. owns_marked c g i m j h ∙ ap (λ (b : Bool). cond (eqb j i) (eqb m (mark_of g)) b) (own_is c g j h)))

pub view_outcome : (c : Card) (g : ℕ) (r : SenderOutcome) → view_of g (group_outcome c g r).card ≡ record { sender = r.sender; owned = (view_of g c).owned }
unfolding view_of owns
view_outcome c g r = view_is g (group_outcome c g r).card _ (sender_outcome c g r) (ap (λ (row : List ℕ). tabulate 64 (λ i. eqb (owner_in row i) (mark_of g))) (owners_outcome c g r))
