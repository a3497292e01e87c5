-- Two circuits on one card, through C: a call of one group changes no byte of the other's part, a refusal changes no byte, a call reads the owner row and its group's own
-- part alone, and every run of C calls from a C start is the card's own run. The first three are on any bytes.
use Rattle.std.proofs.Math.Path.{◌≡◌, refl, sym, ap}
use Rattle.std.proofs.Common.{◌∙◌, true≢false, ⊎_elim, eq-eqb, ne_eqb, eqb-true, lt-ltb, ltb-true}
use Rattle.std.specs.Prelude.{Bool, List, [], ◌∷◌, ◌≢◌, ltb}
use Rattle.std.proofs.Math.Bool.{true, false, cond}
use Prim.Native.Nat.{ℕ, zero, suc, ◌+◌, ◌≤◌, ◌<◌}
use native.Mathlib.Omega.{arith}
use Rattle.std.proofs.Math.Dec.{eqb}
use Rattle.std.proofs.Math.ListN.{length, length-replicate, get_or}
use Rattle.ground.specs.Drawn.{fill_at, get_or_after, get_or_before, get_or_fill_at, length_fill_at}
use Rattle.ground.specs.Table.{tabulate, length_tabulate, tabulate_ext, tabulate_is}
use Rattle.ground.specs.Truth.{clash, cond_by, eq_or_ne}
use Rattle.cards.specs.Answers.{Answer, CardOutcome, answer_number}
use Rattle.cards.specs.declared.card.Card.{Card}
use Rattle.cards.specs.Calls.{Call, outcome_of}
use Rattle.cards.specs.Commands.{sent_of, start_of}
use Rattle.cards.specs.Laws.Alike.{Alike, AlikeAfter, alike_call}
use Rattle.cards.specs.Laws.GroupSender.{put_back, sender_number_lem}
use Rattle.cards.specs.Laws.Seeing.{owners_outcome, sender_marked, sender_other, sender_outcome}
use Rattle.cards.specs.Laws.Ways.{by_ways}
use Rattle.cards.specs.Owners.{owner_in, with_owner}
use Rattle.cards.specs.Parts as P
use Rattle.cards.specs.Parts.{group_outcome, marked, with_sender}
use Rattle.cards.specs.Theorems.Owned.{demand2_each}
use Rattle.cards.specs.Views.{Asked, Made, card_after, run}
use Rattle.cards.specs.Views.Asked.{Do, Packet, Payload, Board, Outgoing, Ranks, Owned}
use Rattle.sender.specs.SenderRuns.{Demand2Kept}
use Rattle.sender.specs.declared.epochs.Sender.{Sender}
use Rattle.sender.specs.Epochs.{SenderCall, sender_outcome_of}
use Rattle.sender.specs.Table.{answer_number as sender_number}
use Rattle.c_cards.specs.CardCalls.{fitting}
use Rattle.c_cards.specs.CardRuns.{numbers_fit, meant, state_after, state_after_all}
use Rattle.c_cards.specs.Cards.{are_epochs, call_answer_on, call_state_on, card_of, is_card, kept_card, owners_in, part_at, part_in, put_card, put_own, start_answer_on, start_state_on}
use Rattle.c_face.specs.Keeping.{byte_at, bytes_of, sender_of}
use Rattle.c_face.specs.Senders.{no_start}
use Rattle.c_face.specs.Theorems.Round.{round}
use Rattle.c_face.specs.Theorems.Runs.{Keepable, call_given, keepable_begin, keepable_call, keepable_whole, refuses}

-- What is written, read again.

part_low : (g : ℕ) → part_at g + 397 ≤ 858
part_low g = cond_by (λ (a : ℕ). a + 397 ≤ 858) (eqb g 0) 64 461 (λ e. omega arith) (λ e. omega arith)

part_high : (g : ℕ) → 64 ≤ part_at g
part_high g = cond_by (λ (a : ℕ). 64 ≤ a) (eqb g 0) 64 461 (λ e. omega arith) (λ e. omega arith)

put_sized : (g : ℕ) (c : Card) (state : List ℕ) → length (put_own g c state) ≡ length state
unfolding put_own
put_sized g c state =
    length_fill_at (part_at g) 397 (byte_at (P.sender_of c g)) (fill_at 0 64 (owner_in c.owners) state) ∙ length_fill_at 0 64 (owner_in c.owners) state

module _ (c : Card) (state : List ℕ) (sized : length state ≡ 858) where
  pub own_part : (g : ℕ) → part_in g (put_own g c state) ≡ bytes_of (P.sender_of c g)
  unfolding part_in put_own bytes_of
  own_part g =
      let low = part_low g in
      let l : length (fill_at 0 64 (owner_in c.owners) state) ≡ 858 = length_fill_at 0 64 (owner_in c.owners) state ∙ sized in
      tabulate_ext 397 _ (byte_at (P.sender_of c g)) (λ k h. get_or_fill_at (part_at g) 397 (byte_at (P.sender_of c g)) (fill_at 0 64 (owner_in c.owners) state) k 0 h (omega arith))

  pub own_row : (g : ℕ) → length c.owners ≡ 64 → owners_in (put_own g c state) ≡ c.owners
  unfolding owners_in put_own
  own_row g whole = sym (tabulate_is c.owners 64 _ 0 whole (λ i h. sym (at i h)))
    where
      at : (i : ℕ) → i < 64 → get_or (fill_at (part_at g) 397 (byte_at (P.sender_of c g)) (fill_at 0 64 (owner_in c.owners) state)) i 0 ≡ owner_in c.owners i
      at i h =
          let high = part_high g in
          let z : 0 + i ≡ i = omega arith in
          get_or_before (part_at g) 397 (byte_at (P.sender_of c g)) (fill_at 0 64 (owner_in c.owners) state) i 0 (omega arith)
          ∙ rw z at (get_or_fill_at 0 64 (owner_in c.owners) state i 0 h (omega arith))

-- the other group's part stands beside what is written
beside : (c : Card) (state : List ℕ) (g h : ℕ) → g < 2 → h < 2 → h ≢ g → (k : ℕ) → k < 397 → get_or (put_own h c state) (part_at g + k) 0 ≡ get_or state (part_at g + k) 0
unfolding put_own
beside c state zero zero hg hh n k b = absurd (n refl)
beside c state zero (suc zero) hg hh n k b =
    get_or_before 461 397 (byte_at (P.sender_of c 1)) (fill_at 0 64 (owner_in c.owners) state) (64 + k) 0 (omega arith) ∙ get_or_after 0 64 (owner_in c.owners) state (64 + k) 0 (omega arith)
beside c state zero (suc (suc h)) hg hh n k b = absurd (omega arith)
beside c state (suc zero) zero hg hh n k b =
    get_or_after 64 397 (byte_at (P.sender_of c 0)) (fill_at 0 64 (owner_in c.owners) state) (461 + k) 0 (omega arith) ∙ get_or_after 0 64 (owner_in c.owners) state (461 + k) 0 (omega arith)
beside c state (suc zero) (suc h) hg hh n k b = absurd (n (omega arith))
beside c state (suc (suc g)) h hg hh n k b = absurd (omega arith)

pub put_apart : (c : Card) (state : List ℕ) (g h : ℕ) → g < 2 → h < 2 → h ≢ g → part_in g (put_own h c state) ≡ part_in g state
unfolding part_in
put_apart c state g h hg hh n = tabulate_ext 397 _ _ (beside c state g h hg hh n)

-- A call of one group, and of no group, changes no byte of the other's part.
pub others_part : (numbers_fit : Bool) (g h : ℕ) (k : Call) (state : List ℕ) → g < 2 → h ≢ g → part_in g (call_state_on numbers_fit h k state) ≡ part_in g state
unfolding call_state_on
others_part numbers_fit g h k state hg n =
    let Q : List ℕ → Type 0 = λ t. part_in g t ≡ part_in g state in
    cond_by Q (is_card state) _ state
    (λ l.
    cond_by Q (ltb h 2) _ state
    (λ t.
    cond_by Q numbers_fit _ state
    (λ f. cond_by Q (eqb (answer_number (outcome_of (card_of state) h k).answer) 0) _ state (λ d. put_apart (outcome_of (card_of state) h k).card state g h hg (ltb-true h 2 t) n) (λ d. refl))
    (λ f. refl))
    (λ t. refl))
    (λ l. refl)

-- A refusal changes no byte; a refused start none but under 4.
pub refused_stands : (numbers_fit : Bool) (g : ℕ) (k : Call) (state : List ℕ) → (call_answer_on numbers_fit g k state ≡ 0 → ⊥) → call_state_on numbers_fit g k state ≡ state
unfolding call_answer_on call_state_on
refused_stands numbers_fit g k state = go (is_card state) (ltb g 2) numbers_fit (answer_number (outcome_of (card_of state) g k).answer) (put_own g (outcome_of (card_of state) g k).card state)
  where
    go : (b t f : Bool) (n : ℕ) (new : List ℕ) → (◌≡◌ {A = ℕ} (cond b (cond t (cond f n 8) 1) 9) 0 → ⊥) → cond b (cond t (cond f (cond (eqb n 0) new state) state) state) state ≡ state
    go true true true n new d = rw (ne_eqb n 0 d)
    go true true false n new d = refl
    go true false f n new d = refl
    go false t f n new d = refl

pub refused_start_stands : (kind count e₀ e₁ : ℕ) (state : List ℕ) → (start_answer_on kind count e₀ e₁ state ≡ 0 → ⊥) → (start_answer_on kind count e₀ e₁ state ≡ 4 → ⊥) → start_state_on kind count e₀ e₁ state ≡ state
unfolding start_answer_on start_state_on
refused_start_stands kind count e₀ e₁ state = go (no_start kind count) (is_card state) (are_epochs kind e₀ e₁)
  where
    go : (o b f : Bool) → (◌≡◌ {A = ℕ} (cond o 4 (cond b (cond f 0 8) 9)) 0 → ⊥) → (◌≡◌ {A = ℕ} (cond o 4 (cond b (cond f 0 8) 9)) 4 → ⊥)
        → cond b (cond o (put_card (start_of 0 0 0 0).card state) (cond f (put_card (start_of kind count e₀ e₁).card state) state)) state ≡ state
    go true b f d e = absurd (e refl)
    go false true true d e = absurd (d refl)
    go false true false d e = refl
    go false false f d e = refl

-- the sender of a group, in its part
pub part_of : (g : ℕ) (state : List ℕ) → P.sender_of (card_of state) g ≡ sender_of (part_in g state)
unfolding P.sender_of card_of part_in
part_of g state = go (eqb g 0)
  where
    go : (b : Bool)
        → cond b (sender_of (tabulate 397 (λ k. get_or state (64 + k) 0))) (sender_of (tabulate 397 (λ k. get_or state (461 + k) 0)))
        ≡ sender_of (tabulate 397 (λ k. get_or state (cond b 64 461 + k) 0))
    go true = refl
    go false = refl

owners_of : (state : List ℕ) → (card_of state).owners ≡ owners_in state
unfolding card_of
owners_of state = refl

-- A call that changes a card reads the owner row and the group's own part alone: on two states with the same of these it is answered alike, and leaves the same part.
module _ (g : ℕ) (s t : List ℕ) (sized : length s ≡ length t) (row : owners_in s ≡ owners_in t) (part : part_in g s ≡ part_in g t) where
  alike : Alike g (card_of s) (card_of t)
  alike = record { owners = owners_of s ∙ row ∙ sym (owners_of t); sender = part_of g s ∙ ap sender_of part ∙ sym (part_of g t) }

  pub same_answer : (numbers_fit : Bool) (k : Call) → call_answer_on numbers_fit g k s ≡ call_answer_on numbers_fit g k t
  unfolding call_answer_on
  same_answer numbers_fit k =
      ap (λ (n : ℕ). cond (eqb n 858) (cond (ltb g 2) (cond numbers_fit (answer_number (outcome_of (card_of s) g k).answer) 8) 1) 9) sized
      ∙ ap (λ (a : Answer). cond (is_card t) (cond (ltb g 2) (cond numbers_fit (answer_number a) 8) 1) 9) (alike_call g (card_of s) (card_of t) alike k).answer

  pub same_part : (numbers_fit : Bool) (k : Call) → part_in g (call_state_on numbers_fit g k s) ≡ part_in g (call_state_on numbers_fit g k t)
  unfolding call_state_on
  same_part numbers_fit k = go (is_card s) (is_card t) refl (ap (λ (n : ℕ). eqb n 858) sized) (ltb g 2) numbers_fit (eqb (answer_number (outcome_of (card_of s) g k).answer) 0) (eqb (answer_number (outcome_of (card_of t) g k).answer) 0) tests
    where
      after : AlikeAfter g (outcome_of (card_of s) g k) (outcome_of (card_of t) g k)
      after = alike_call g (card_of s) (card_of t) alike k

      tests : eqb (answer_number (outcome_of (card_of s) g k).answer) 0 ≡ eqb (answer_number (outcome_of (card_of t) g k).answer) 0
      tests = ap (λ (a : Answer). eqb (answer_number a) 0) after.answer

      written : is_card s ≡ true → part_in g (put_own g (outcome_of (card_of s) g k).card s) ≡ part_in g (put_own g (outcome_of (card_of t) g k).card t)
      written e =
          let l : length s ≡ 858 = eqb-true (length s) 858 e in
          own_part (outcome_of (card_of s) g k).card s l g ∙ ap bytes_of after.card.sender ∙ sym (own_part (outcome_of (card_of t) g k).card t (sym sized ∙ l) g)

      go : (b d : Bool) → is_card s ≡ b → b ≡ d → (u f x y : Bool) → x ≡ y
          → part_in g (cond b (cond u (cond f (cond x (put_own g (outcome_of (card_of s) g k).card s) s) s) s) s)
          ≡ part_in g (cond d (cond u (cond f (cond y (put_own g (outcome_of (card_of t) g k).card t) t) t) t) t)
      go true true e z true true true true w = written e
      go true true e z true true false false w = part
      go true true e z true true true false w = absurd (true≢false w)
      go true true e z true true false true w = absurd (true≢false (sym w))
      go true true e z true false x y w = part
      go true true e z false f x y w = part
      go false false e z u f x y w = part
      go true false e z u f x y w = absurd (true≢false z)
      go false true e z u f x y w = absurd (true≢false (sym z))

-- What a call on the card leaves.

marked_done : (c : Card) (i m : ℕ) → answer_number (marked c i m).answer ≡ 0
unfolding marked
marked_done c i m = refl

marked_row : (c : Card) (i m : ℕ) → length (marked c i m).card.owners ≡ 64
unfolding marked with_owner
marked_row c i m = length_tabulate 64 (λ j. cond (eqb j i) m (owner_in c.owners j))

sent_given : (c : Card) (g : ℕ) (k : SenderCall) → (answer_number (sent_of c g k).answer ≡ 0 → ⊥) → (sent_of c g k).card ≡ c
unfolding group_outcome refuses
sent_given c g k d =
    let r = sender_outcome_of (P.sender_of c g) k in
    ap (λ (s : Sender). with_sender c g s) (call_given (P.sender_of c g) k (ne_eqb (sender_number r.answer) 0 (λ z. d (sender_number_lem r.answer ∙ z)))) ∙ put_back c g

pub call_refused : (c : Card) (g : ℕ) (k : Call) → (answer_number (outcome_of c g k).answer ≡ 0 → ⊥) → (outcome_of c g k).card ≡ c
call_refused c g k =
    by_ways (λ r. (answer_number r.answer ≡ 0 → ⊥) → r.card ≡ c) c g (λ a d. refl) (λ i m h d. absurd (d (marked_done c i m))) (λ s h d. sent_given c g s d) k

pub no_group : (c : Card) (g : ℕ) (k : Call) → ltb g 2 ≡ false → (outcome_of c g k).card ≡ c
no_group c g k e = by_ways (λ r. r.card ≡ c) c g (λ a. refl) (λ i m h. clash (ltb g 2) (lt-ltb g 2 h) e) (λ s h. clash (ltb g 2) (lt-ltb g 2 h) e) k

-- a card whose senders and owner row are whole
pub record KeepableCard (c : Card) : Type 0 where
  pub row : length c.owners ≡ 64
  pub part : (g : ℕ) → g < 2 → Keepable (P.sender_of c g)

record Leaves (c : Card) (g : ℕ) (r : CardOutcome) : Type 0 where
  pub row : length r.card.owners ≡ 64
  pub own : Keepable (P.sender_of r.card g)
  pub other : (h : ℕ) → h < 2 → g ≢ h → P.sender_of r.card h ≡ P.sender_of c h

call_leaves : (c : Card) (g : ℕ) (k : Call) → g < 2 → KeepableCard c → Leaves c g (outcome_of c g k)
call_leaves c g k hg o =
    by_ways (Leaves c g) c g
    (λ a. record { row = o.row; own = o.part g hg; other = λ h l n. refl })
    (λ i m l.
    record {
      row = marked_row c i m;
      own = rw (sender_marked c g i m) (o.part g hg);
      other = λ h l n. sender_marked c h i m;
    })
    (λ s l.
    let r = sender_outcome_of (P.sender_of c g) s in
    record {
      row = ap (λ (row : List ℕ). length row) (owners_outcome c g r) ∙ o.row;
      own = rw (sender_outcome c g r) (keepable_call (P.sender_of c g) s (o.part g hg));
      other = λ h b n. sender_other c h g r b hg n;
    })
    k

-- A state in which a card is keepable, and what a C call makes of it.
pub record KeepsCard (state : List ℕ) (c : Card) : Type 0 where
  pub sized : length state ≡ 858
  pub row : owners_in state ≡ c.owners
  pub part : (g : ℕ) → g < 2 → sender_of (part_in g state) ≡ P.sender_of c g
  pub keepable : KeepableCard c

pub card_is : (state : List ℕ) (c : Card) → KeepsCard state c → card_of state ≡ c
unfolding card_of P.sender_of
card_is state c k = rw (k.row, k.part 0 (omega arith), k.part 1 (omega arith)) refl

-- the part of one group written, where the other's stands
put_keeps : (state : List ℕ) (c d : Card) (g : ℕ) → g < 2 → length state ≡ 858 → length d.owners ≡ 64 → ((h : ℕ) → h < 2 → Keepable (P.sender_of d h))
    → ((h : ℕ) → h < 2 → g ≢ h → sender_of (part_in h state) ≡ P.sender_of d h) → KeepsCard (put_own g d state) d
put_keeps state c d g hg sized row keepable other =
    record {
      sized = put_sized g d state ∙ sized;
      row = own_row d state sized g row;
      part = λ h l. ⊎_elim (λ (e : g ≡ h). rw (← e) (own h e)) (λ (n : g ≢ h). ap sender_of (put_apart d state h g l hg n) ∙ other h l n) (eq_or_ne g h);
      keepable = record { row = row; part = keepable };
    }
  where
    own : (h : ℕ) → g ≡ h → sender_of (part_in g (put_own g d state)) ≡ P.sender_of d g
    own h e = ap sender_of (own_part d state sized g) ∙ round (P.sender_of d g) (keepable_whole (P.sender_of d g) (keepable g hg))

kept_keeps : (state : List ℕ) (c : Card) (g : ℕ) (k : Call) → g < 2 → KeepsCard state c → KeepsCard (kept_card g (outcome_of c g k) state) (outcome_of c g k).card
kept_keeps state c g k hg o =
    cond_by (λ t. KeepsCard t (outcome_of c g k).card) (eqb (answer_number (outcome_of c g k).answer) 0) (put_own g (outcome_of c g k).card state) state
    (λ e. put_keeps state c (outcome_of c g k).card g hg o.sized w.row keepables (λ h l n. o.part h l ∙ sym (w.other h l n)))
    (λ e. rw (call_refused c g k (λ z. clash (eqb (answer_number (outcome_of c g k).answer) 0) (eq-eqb (answer_number (outcome_of c g k).answer) 0 z) e)) o)
  where
    w : Leaves c g (outcome_of c g k)
    w = call_leaves c g k hg o.keepable

    keepables : (h : ℕ) → h < 2 → Keepable (P.sender_of (outcome_of c g k).card h)
    keepables h l = ⊎_elim (λ (e : g ≡ h). rw (← e) w.own) (λ (n : g ≢ h). rw (w.other h l n) (o.keepable.part h l)) (eq_or_ne g h)

fit_keeps : (state : List ℕ) (c : Card) (g : ℕ) (k : Call) → KeepsCard state c → KeepsCard (call_state_on true g k state) (outcome_of c g k).card
unfolding call_state_on
fit_keeps state c g k o =
    rw (eq-eqb (length state) 858 o.sized, card_is state c o)
    (cond_by (λ t. KeepsCard t (outcome_of c g k).card) (ltb g 2) (kept_card g (outcome_of c g k) state) state
    (λ t. kept_keeps state c g k (ltb-true g 2 t) o)
    (λ t. rw (no_group c g k t) o))

unfit_keeps : (state : List ℕ) (c : Card) (g : ℕ) (k : Call) → KeepsCard state c → KeepsCard (call_state_on false g k state) c
unfolding call_state_on
unfit_keeps state c g k o =
    rw (eq-eqb (length state) 858 o.sized) (cond_by (λ t. KeepsCard t c) (ltb g 2) state state (λ t. o) (λ t. o))

-- Runs of C calls.

pub call_keeps : (state : List ℕ) (c : Card) (g : ℕ) (k : Call) (b : Bool) → KeepsCard state c
    → KeepsCard (call_state_on b g k state) (cond b (outcome_of c g k).card c)
call_keeps state c g k true o = fit_keeps state c g k o
call_keeps state c g k false o = unfit_keeps state c g k o

asked_keeps : (state : List ℕ) (c : Card) (g : ℕ) (k : Asked) → KeepsCard state c → KeepsCard (state_after state g k) (cond (numbers_fit k) (card_after c g k) c)
asked_keeps state c g (Do k) o = call_keeps state c g k (fitting k) o
asked_keeps state c g (Packet i h4) o = o
asked_keeps state c g (Payload i p frame member) o = o
asked_keeps state c g Board o = o
asked_keeps state c g Outgoing o = o
asked_keeps state c g Ranks o = o
asked_keeps state c g Owned o = o

run_keeps : (state : List ℕ) (c : Card) (ms : List Made) → KeepsCard state c → KeepsCard (state_after_all state ms) (run c (meant ms))
run_keeps state c [] o = o
run_keeps state c (m ∷ ms) o =
    rw (← chosen (numbers_fit m.asked)) (run_keeps (state_after state m.group m.asked) (cond (numbers_fit m.asked) (card_after c m.group m.asked) c) ms (asked_keeps state c m.group m.asked o))
  where
    chosen : (b : Bool) → run (cond b (card_after c m.group m.asked) c) (meant ms) ≡ run c (cond b (m ∷ meant ms) (meant ms))
    chosen true = refl
    chosen false = refl

module _ (kind count e₀ e₁ : ℕ) (state : List ℕ) (ms : List Made) (done : start_answer_on kind count e₀ e₁ state ≡ 0) where
  started_keepable : (g : ℕ) → g < 2 → Keepable (P.sender_of (start_of kind count e₀ e₁).card g)
  unfolding P.sender_of start_of
  started_keepable zero h = keepable_begin kind count e₀
  started_keepable (suc zero) h = keepable_begin kind count e₁
  started_keepable (suc (suc g)) h = absurd (omega arith)

  started_row : length (start_of kind count e₀ e₁).card.owners ≡ 64
  unfolding start_of
  started_row = length-replicate {A = ℕ} 64 0

  both_put : length state ≡ 858 → KeepsCard (put_card (start_of kind count e₀ e₁).card state) (start_of kind count e₀ e₁).card
  both_put l =
      let d = (start_of kind count e₀ e₁).card in
      put_keeps (put_own 0 d state) d d 1 (omega arith) (put_sized 0 d state ∙ l) started_row started_keepable
      (λ h b n. first h b n l)
    where
      first : (h : ℕ) → h < 2 → 1 ≢ h → length state ≡ 858 → sender_of (part_in h (put_own 0 (start_of kind count e₀ e₁).card state)) ≡ P.sender_of (start_of kind count e₀ e₁).card h
      first zero b n l =
          let d = (start_of kind count e₀ e₁).card in
          ap sender_of (own_part d state l 0) ∙ round (P.sender_of d 0) (keepable_whole (P.sender_of d 0) (started_keepable 0 (omega arith)))
      first (suc zero) b n l = absurd (n refl)
      first (suc (suc h)) b n l = absurd (omega arith)

  pub start_keeps : KeepsCard (start_state_on kind count e₀ e₁ state) (start_of kind count e₀ e₁).card
  unfolding start_answer_on start_state_on
  start_keeps = go (no_start kind count) (is_card state) (are_epochs kind e₀ e₁) refl done
    where
      go : (o l f : Bool) → is_card state ≡ l → ◌≡◌ {A = ℕ} (cond o 4 (cond l (cond f 0 8) 9)) 0
          → KeepsCard (cond l (cond o (put_card (start_of 0 0 0 0).card state) (cond f (put_card (start_of kind count e₀ e₁).card state) state)) state) (start_of kind count e₀ e₁).card
      go true l f el e = absurd (omega arith)
      go false false f el e = absurd (omega arith)
      go false true false el e = absurd (omega arith)
      go false true true el e = both_put (eqb-true (length state) 858 el)

  -- any C calls after a C start that was done: the state holds the card's own run
  pub card_runs_own : card_of (state_after_all (start_state_on kind count e₀ e₁ state) ms) ≡ run (start_of kind count e₀ e₁).card (meant ms)
  card_runs_own = card_is (state_after_all (start_state_on kind count e₀ e₁ state) ms) _ (run_keeps (start_state_on kind count e₀ e₁ state) (start_of kind count e₀ e₁).card ms start_keeps)

  -- in as many bytes
  pub card_runs_sized : length (state_after_all (start_state_on kind count e₀ e₁ state) ms) ≡ 858
  card_runs_sized = (run_keeps (start_state_on kind count e₀ e₁ state) (start_of kind count e₀ e₁).card ms start_keeps).sized

  -- and demand 2 holds of each group's table, and of both tables that its epochs' starts keep
  pub card_runs_demand2 : (g : ℕ) → g < 2 → Demand2Kept (P.sender_of (card_of (state_after_all (start_state_on kind count e₀ e₁ state) ms)) g)
  card_runs_demand2 g h = rw card_runs_own (demand2_each kind count e₀ e₁ (meant ms) g h)
