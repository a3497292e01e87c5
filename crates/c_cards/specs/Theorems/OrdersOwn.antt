-- levelspruce_card_order is orders::order on the card in the state, of any bytes: the same card, and the same numbers. A row that is no command is answered 8 and passed over.
use Rattle.std.specs.Prelude.{◌≡◌, refl, ◌≢◌, Bool, true, false, cond, not, List, [], ◌∷◌, ℕ, ◌<◌, eqb, ltb, drop, get_or, length}
use Rattle.std.proofs.Common.{◌∙◌, sym, ap, ⊎_elim, arith, length-set, eq-eqb, ltb-true}
use Rattle.std.proofs.lemmas.Bool.{eqb-false}
use Rattle.ground.specs.Counting.Each.{length_each}
use Rattle.ground.specs.Table.{length_tabulate}
use Rattle.ground.specs.Truth.{cond_by, eq_or_ne}
use Rattle.sender.specs.declared.epochs.Sender.{Sender}
use Rattle.sender.specs.Answers.{Outcome}
use Rattle.sender.specs.declared.table.Table.{Table}
use Rattle.sender.specs.Calls.{Call as T}
use Rattle.sender.specs.Commands.{add_of, added_to, fallen, fallen_in, idle_slot, remove_of, removed_from}
use Rattle.sender.specs.Epochs.{SenderCall as S, sender_outcome_of}
use Rattle.sender.specs.Table.{is_member, slot_count, slot_at}
use Rattle.cards.specs.Answers.{Answer, CardOutcome, answer_number}
use Rattle.cards.specs.Answers.{Answer as A}
use Rattle.cards.specs.declared.card.Card.{Card}
use Rattle.cards.specs.Calls.{outcome_of}
use Rattle.cards.specs.Commands.{claim_of, command_of, release_of, sent_of}
use Rattle.cards.specs.Laws.Seeing.{owners_outcome, sender_marked, sender_other, sender_outcome}
use Rattle.cards.specs.Owners.{has_owner, mark_of, owner_in, with_owner}
use Rattle.cards.specs.Parts as P
use Rattle.cards.specs.Parts.{is_slot, is_used, marked, owns, refused}
use Rattle.orders.specs.declared.commands.Kind as K
use Rattle.orders.specs.Orders.{call_by, orders_of, outcome_by}
use Rattle.c_cards.specs.Cards.{call_answer_on, call_state_on, card_of, kept_card, owners_in, part_in, put_own}
use Rattle.c_face.specs.Keeping.{Whole, row_in, rows_in, sender_of, slot_in, slots_in}
use Rattle.c_cards.specs.Orders.{command_in, kind_answer_on, kind_of, kind_state_on, known, orders_on, with_eights}
use Rattle.c_cards.specs.Theorems.CardRuns.{call_refused, no_group, own_part, own_row, part_of, put_apart}
use Rattle.c_cards.specs.Theorems.Ordered.{call_length}
use Rattle.c_face.specs.Theorems.Round.{round}

-- ---- a card whose rows are all there: what any bytes are read as, and what a command leaves

record WholeCard (c : Card) : Type 0 where
  pub row : length c.owners ≡ 64
  pub part : (g : ℕ) → Whole (P.sender_of c g)

whole_read : (bytes : List ℕ) → Whole (sender_of bytes)
unfolding sender_of slots_in rows_in
whole_read bytes = record { slots = length_tabulate 64 (slot_in bytes); outgoing = length_tabulate 64 (row_in bytes 128); ruling = length_tabulate 64 (row_in bytes 256) }

row_read : (state : List ℕ) → length (card_of state).owners ≡ 64
unfolding card_of owners_in
row_read state = length_tabulate 64 (λ i. get_or state i 0)

card_read : (state : List ℕ) → WholeCard (card_of state)
card_read state = record { row = row_read state; part = λ g. rw (part_of g state) (whole_read (part_in g state)) }

slots_add : (t : Table) (i : ℕ) → length (add_of t i).table.slots ≡ length t.slots
unfolding add_of added_to
slots_add t i =
    let Q : Outcome → Type 0 = λ o. length o.table.slots ≡ length t.slots in
    cond_by Q (ltb i (slot_count t.count)) _ _
    (λ l. cond_by Q t.wait _ _ (λ w. refl) (λ w. cond_by Q (not (is_member (slot_at t.slots i).state)) _ _ (λ a. length-set t.slots i _) (λ a. refl)))
    (λ l. refl)

slots_remove : (t : Table) (i : ℕ) → length (remove_of t i).table.slots ≡ length t.slots
unfolding remove_of removed_from fallen_in
slots_remove t i =
    let Q : Outcome → Type 0 = λ o. length o.table.slots ≡ length t.slots in
    let q : ℕ = (slot_at t.slots i).number in
    cond_by Q (ltb i (slot_count t.count)) _ _
    (λ l.
    cond_by Q t.wait _ _ (λ w. refl)
    (λ w. cond_by Q (is_member (slot_at t.slots i).state) _ _ (λ a. length-set (fallen_in t.slots (slot_count t.count) q) i (idle_slot t.kind) ∙ length_each (slot_count t.count) (λ j. fallen q (slot_at t.slots j)) t.slots) (λ a. refl)))
    (λ l. refl)

whole_add : (s : Sender) (i : ℕ) → Whole s → Whole (sender_outcome_of s (S.OnTable (T.AddSlot i))).sender
whole_add s i w = record { slots = slots_add s.table i ∙ w.slots; outgoing = w.outgoing; ruling = w.ruling }

whole_remove : (s : Sender) (i : ℕ) → Whole s → Whole (sender_outcome_of s (S.OnTable (T.RemoveSlot i))).sender
whole_remove s i w = record { slots = slots_remove s.table i ∙ w.slots; outgoing = w.outgoing; ruling = w.ruling }

record Leaves (c : Card) (g : ℕ) (r : CardOutcome) : Type 0 where
  pub row : length r.card.owners ≡ 64
  pub own : Whole (P.sender_of r.card g)
  pub other : (h : ℕ) → h < 2 → g ≢ h → P.sender_of r.card h ≡ P.sender_of c h

marked_row : (c : Card) (i m : ℕ) → length (marked c i m).card.owners ≡ 64
unfolding marked with_owner
marked_row c i m = length_tabulate 64 (λ j. cond (eqb j i) m (owner_in c.owners j))

module _ (c : Card) (g : ℕ) (hg : g < 2) (o : WholeCard c) where
  refused_leaves : (a : Answer) → Leaves c g (refused c a)
  refused_leaves a = record { row = o.row; own = o.part g; other = λ h l n. refl }

  marked_leaves : (i m : ℕ) → Leaves c g (marked c i m)
  marked_leaves i m = record { row = marked_row c i m; own = rw (sender_marked c g i m) (o.part g); other = λ h l n. sender_marked c h i m }

  sent_leaves : (k : S) → Whole (sender_outcome_of (P.sender_of c g) k).sender → Leaves c g (sent_of c g k)
  sent_leaves k w =
      let r = sender_outcome_of (P.sender_of c g) k in
      record {
        row = ap (λ (row : List ℕ). length row) (owners_outcome c g r) ∙ o.row;
        own = rw (sender_outcome c g r) w;
        other = λ h l n. sender_other c h g r l hg n;
      }

  command_leaves : (i : ℕ) (k : S) → Whole (sender_outcome_of (P.sender_of c g) k).sender → Leaves c g (command_of c g i k)
  unfolding command_of
  command_leaves i k w =
      cond_by (Leaves c g) (is_slot c g i) _ _ (λ s. cond_by (Leaves c g) (owns c g i) _ _ (λ t. sent_leaves k w) (λ t. refused_leaves A.Owned)) (λ s. refused_leaves A.NoSlot)

  claim_leaves : (i : ℕ) → Leaves c g (claim_of c g i)
  unfolding claim_of
  claim_leaves i =
      cond_by (Leaves c g) (is_slot c g i) _ _ (λ s. cond_by (Leaves c g) (has_owner c.owners i) _ _ (λ t. refused_leaves A.Owned) (λ t. marked_leaves i (mark_of g))) (λ s. refused_leaves A.NoSlot)

  release_leaves : (i : ℕ) → Leaves c g (release_of c g i)
  unfolding release_of
  release_leaves i =
      cond_by (Leaves c g) (is_slot c g i) _ _
      (λ s. cond_by (Leaves c g) (owns c g i) _ _ (λ t. cond_by (Leaves c g) (is_used c g i) _ _ (λ u. refused_leaves A.Used) (λ u. marked_leaves i 0)) (λ t. refused_leaves A.Owned))
      (λ s. refused_leaves A.NoSlot)

  leaves : (k : K.Kind) (i : ℕ) → Leaves c g (outcome_of c g (call_by k i))
  leaves K.Kind.Add i = command_leaves i _ (whole_add (P.sender_of c g) i (o.part g))
  leaves K.Kind.Remove i = command_leaves i _ (whole_remove (P.sender_of c g) i (o.part g))
  leaves K.Kind.Claim i = claim_leaves i
  leaves K.Kind.Release i = release_leaves i

-- ---- one command: the card in the bytes that its C call leaves is the card that its own call leaves

put_card_lem : (state : List ℕ) (d : Card) (g : ℕ) → g < 2 → length state ≡ 858 → length d.owners ≡ 64 → Whole (P.sender_of d g)
    → ((h : ℕ) → h < 2 → g ≢ h → sender_of (part_in h state) ≡ P.sender_of d h) → card_of (put_own g d state) ≡ d
unfolding card_of P.sender_of
put_card_lem state d g hg sized row whole other = rw (own_row d state sized g row, part 0 (omega arith), part 1 (omega arith)) refl
  where
    own : sender_of (part_in g (put_own g d state)) ≡ P.sender_of d g
    own = ap sender_of (own_part d state sized g) ∙ round (P.sender_of d g) whole

    part : (h : ℕ) → h < 2 → sender_of (part_in h (put_own g d state)) ≡ P.sender_of d h
    part h l = ⊎_elim (λ (e : g ≡ h). rw (← e) own) (λ (n : g ≢ h). ap sender_of (put_apart d state h g l hg n) ∙ other h l n) (eq_or_ne g h)

kept_card_lem : (state : List ℕ) (g : ℕ) (k : K.Kind) (i : ℕ) → g < 2 → length state ≡ 858
    → card_of (kept_card g (outcome_of (card_of state) g (call_by k i)) state) ≡ (outcome_of (card_of state) g (call_by k i)).card
kept_card_lem state g k i hg sized =
    cond_by (λ t. card_of t ≡ r.card) (eqb (answer_number r.answer) 0) (put_own g r.card state) state
    (λ e. put_card_lem state r.card g hg sized w.row w.own (λ h l n. sym (part_of h state) ∙ sym (w.other h l n)))
    (λ e. sym (call_refused (card_of state) g (call_by k i) (eqb-false (answer_number r.answer) 0 e)))
  where
    r : CardOutcome
    r = outcome_of (card_of state) g (call_by k i)

    w : Leaves (card_of state) g r
    w = leaves (card_of state) g hg (card_read state) k i

pub call_card : (state : List ℕ) (g : ℕ) (k : K.Kind) (i : ℕ) → length state ≡ 858 → card_of (call_state_on true g (call_by k i) state) ≡ (outcome_of (card_of state) g (call_by k i)).card
unfolding call_state_on
call_card state g k i sized =
    rw (eq-eqb (length state) 858 sized)
    (cond_by (λ t. card_of t ≡ (outcome_of (card_of state) g (call_by k i)).card) (ltb g 2) (kept_card g (outcome_of (card_of state) g (call_by k i)) state) state
    (λ t. kept_card_lem state g k i (ltb-true g 2 t) sized)
    (λ t. sym (no_group (card_of state) g (call_by k i) t)))

-- 1 for a group other than the two, as the card itself says
other_group : (c : Card) (g : ℕ) (k : K.Kind) (i : ℕ) → ltb g 2 ≡ false → answer_number (outcome_of c g (call_by k i)).answer ≡ 1
unfolding claim_of release_of command_of is_slot
other_group c g K.Kind.Add i e = rw e refl
other_group c g K.Kind.Remove i e = rw e refl
other_group c g K.Kind.Claim i e = rw e refl
other_group c g K.Kind.Release i e = rw e refl

pub call_number : (state : List ℕ) (g : ℕ) (k : K.Kind) (i : ℕ) → length state ≡ 858 → call_answer_on true g (call_by k i) state ≡ answer_number (outcome_of (card_of state) g (call_by k i)).answer
unfolding call_answer_on
call_number state g k i sized =
    rw (eq-eqb (length state) 858 sized)
    (cond_by (λ n. n ≡ answer_number (outcome_of (card_of state) g (call_by k i)).answer) (ltb g 2) _ 1 (λ t. refl) (λ t. sym (other_group (card_of state) g k i t)))

-- ---- the order

pub order_card : (state : List ℕ) (cs : List (List ℕ)) → length state ≡ 858 → card_of (orders_on state cs).state ≡ (orders_of (card_of state) (known cs)).state
unfolding kind_state_on outcome_by
order_card state [] sized = refl
order_card state (c ∷ cs) sized =
    let next : List ℕ = call_state_on true (get_or c 1 0) (call_by (kind_of (get_or c 0 0)) (get_or c 2 0)) state in
    go (ltb 3 (get_or c 0 0)) (order_card state cs sized)
    (order_card next cs (call_length true (get_or c 1 0) (call_by (kind_of (get_or c 0 0)) (get_or c 2 0)) state ∙ sized)
    ∙ ap (λ (d : Card). (orders_of d (known cs)).state) (call_card state (get_or c 1 0) (kind_of (get_or c 0 0)) (get_or c 2 0) sized))
  where
    go : (b : Bool) → card_of (orders_on state cs).state ≡ (orders_of (card_of state) (known cs)).state
        → card_of (orders_on (call_state_on true (get_or c 1 0) (call_by (kind_of (get_or c 0 0)) (get_or c 2 0)) state) cs).state ≡ (orders_of (outcome_by (card_of state) (command_in c)).card (known cs)).state
        → card_of (orders_on (cond b state (call_state_on true (get_or c 1 0) (call_by (kind_of (get_or c 0 0)) (get_or c 2 0)) state)) cs).state ≡ (orders_of (card_of state) (cond b (known cs) (command_in c ∷ known cs))).state
    go true same next = same
    go false same next = next

pub order_numbers : (state : List ℕ) (cs : List (List ℕ)) → length state ≡ 858 → (orders_on state cs).numbers ≡ with_eights cs (orders_of (card_of state) (known cs)).numbers
unfolding kind_state_on kind_answer_on outcome_by
order_numbers state [] sized = refl
order_numbers state (c ∷ cs) sized =
    let next : List ℕ = call_state_on true (get_or c 1 0) (call_by (kind_of (get_or c 0 0)) (get_or c 2 0)) state in
    go (ltb 3 (get_or c 0 0)) (order_numbers state cs sized)
    (order_numbers next cs (call_length true (get_or c 1 0) (call_by (kind_of (get_or c 0 0)) (get_or c 2 0)) state ∙ sized)
    ∙ ap (λ (d : Card). with_eights cs (orders_of d (known cs)).numbers) (call_card state (get_or c 1 0) (kind_of (get_or c 0 0)) (get_or c 2 0) sized))
    (call_number state (get_or c 1 0) (kind_of (get_or c 0 0)) (get_or c 2 0) sized)
  where
    go : (b : Bool) → (orders_on state cs).numbers ≡ with_eights cs (orders_of (card_of state) (known cs)).numbers
        → (orders_on (call_state_on true (get_or c 1 0) (call_by (kind_of (get_or c 0 0)) (get_or c 2 0)) state) cs).numbers ≡ with_eights cs (orders_of (outcome_by (card_of state) (command_in c)).card (known cs)).numbers
        → call_answer_on true (get_or c 1 0) (call_by (kind_of (get_or c 0 0)) (get_or c 2 0)) state ≡ answer_number (outcome_by (card_of state) (command_in c)).answer
        → (cond b 8 (call_answer_on true (get_or c 1 0) (call_by (kind_of (get_or c 0 0)) (get_or c 2 0)) state)
        ∷ (orders_on (cond b state (call_state_on true (get_or c 1 0) (call_by (kind_of (get_or c 0 0)) (get_or c 2 0)) state)) cs).numbers)
        ≡ (let ns = (orders_of (card_of state) (cond b (known cs) (command_in c ∷ known cs))).numbers in cond b (8 ∷ with_eights cs ns) (get_or ns 0 0 ∷ with_eights cs (drop 1 ns)))
    go true same next number = ap (λ (ns : List ℕ). 8 ∷ ns) same
    go false same next number = rw (number, next) refl
