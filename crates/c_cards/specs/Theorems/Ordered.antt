-- 'State and answers equal those of calling one by one in that order, refusals included.' (02, 2026-07) Of the C calls: from the same bytes the same bytes, any bytes.
use Rattle.std.specs.Prelude.{◌≡◌, refl, ◌≢◌, Bool, true, false, cond, List, [], ◌∷◌, ◌++◌, ℕ, zero, suc, eqb, ltb, get_or, length, take}
use Rattle.std.proofs.Common.{◌∙◌, ap, sym, eq-eqb}
use Rattle.ground.specs.Drawn.{fill_at, length_fill_at}
use Rattle.ground.specs.Table.{tabulate_ext}
use Rattle.cards.specs.declared.card.Card.{Card}
use Rattle.cards.specs.Answers.{CardOutcome, answer_number}
use Rattle.cards.specs.Calls.{Call, outcome_of}
use Rattle.cards.specs.Owners.{owner_in}
use Rattle.cards.specs.Parts as P
use Rattle.cards.specs.Views.Asked.{Do}
use Rattle.orders.specs.declared.commands.Kind as K
use Rattle.orders.specs.Laws.Folding.{cut_numbers, cut_state, state_at}
use Rattle.orders.specs.Orders.{call_by}
use Rattle.c_cards.specs.CardCalls.{fitting}
use Rattle.c_cards.specs.CardRuns.{state_after_all}
use Rattle.c_cards.specs.Cards.{call_answer_on, call_state_on, card_of, is_card, kept_card, part_at, put_own}
use Rattle.c_face.specs.Keeping.{byte_at, state_bytes}
use Rattle.c_cards.specs.OneByOne.{AllRefused, number_on, numbers_on, singles_in}
use Rattle.c_cards.specs.Orders.{command_answer_on, command_state_on, kind_answer_on, kind_of, kind_state_on, order_answer_on, order_answers_on, order_state_on, orders_on}
use Rattle.c_cards.specs.Theorems.CardRuns.{refused_stands}

-- ---- no call changes how many bytes there are

cond_length : (b : Bool) (x y s : List ℕ) → length x ≡ length s → length y ≡ length s → length (cond b x y) ≡ length s
cond_length true x y s e f = e
cond_length false x y s e f = f

put_length : (g : ℕ) (c : Card) (s : List ℕ) → length (put_own g c s) ≡ length s
unfolding put_own
put_length g c s =
    let row : List ℕ = fill_at 0 64 (owner_in c.owners) s in
    length_fill_at (part_at g) state_bytes (byte_at (P.sender_of c g)) row ∙ length_fill_at 0 64 (owner_in c.owners) s

pub call_length : (fits : Bool) (g : ℕ) (call : Call) (s : List ℕ) → length (call_state_on fits g call s) ≡ length s
unfolding call_state_on
call_length fits g call s =
    let outcome : CardOutcome = outcome_of (card_of s) g call in
    let kept : length (kept_card g outcome s) ≡ length s = cond_length (eqb (answer_number outcome.answer) 0) (put_own g outcome.card s) s s (put_length g outcome.card s) refl in
    let new : length (cond fits (kept_card g outcome s) s) ≡ length s = cond_length fits (kept_card g outcome s) s s kept refl in
    cond_length (is_card s) _ s s (cond_length (ltb g 2) (cond fits (kept_card g outcome s) s) s s new refl) refl

pub kind_length : (kind g slot : ℕ) (s : List ℕ) → length (kind_state_on kind g slot s) ≡ length s
unfolding kind_state_on
kind_length kind g slot s = cond_length (ltb 3 kind) s (call_state_on true g (call_by (kind_of kind) slot) s) s refl (call_length true g (call_by (kind_of kind) slot) s)

pub turns_length : (s : List ℕ) (cs : List (List ℕ)) (i : ℕ) → length (state_at command_state_on command_answer_on [] s cs i) ≡ length s
turns_length s cs zero = refl
turns_length s cs (suc i) = kind_length _ _ _ (state_at command_state_on command_answer_on [] s cs i) ∙ turns_length s cs i

-- ---- one by one

pub all_fit : (k : K.Kind) (i : ℕ) → fitting (call_by k i) ≡ true
all_fit K.Kind.Add i = refl
all_fit K.Kind.Remove i = refl
all_fit K.Kind.Claim i = refl
all_fit K.Kind.Release i = refl

-- one command more at the front
run_first : (s c : List ℕ) (cs : List (List ℕ)) → state_after_all s (singles_in (c ∷ cs)) ≡ state_after_all (command_state_on s c) (singles_in cs)
unfolding kind_state_on
run_first s c cs = go (ltb 3 (get_or c 0 0))
  where
    call : Call
    call = call_by (kind_of (get_or c 0 0)) (get_or c 2 0)

    go : (b : Bool) → state_after_all s (cond b (singles_in cs) (record { group = get_or c 1 0; asked = Do call } ∷ singles_in cs)) ≡ state_after_all (cond b s (call_state_on true (get_or c 1 0) call s)) (singles_in cs)
    go true = refl
    go false = ap (λ (f : Bool). state_after_all (call_state_on f (get_or c 1 0) call s) (singles_in cs)) (all_fit (kind_of (get_or c 0 0)) (get_or c 2 0))

bytes_single : (s : List ℕ) (cs : List (List ℕ)) → (orders_on s cs).state ≡ state_after_all s (singles_in cs)
bytes_single s [] = refl
bytes_single s (c ∷ cs) = bytes_single (command_state_on s c) cs ∙ sym (run_first s c cs)

numbers_single : (s : List ℕ) (cs : List (List ℕ)) → (orders_on s cs).numbers ≡ numbers_on s cs
unfolding kind_answer_on
numbers_single s [] = refl
numbers_single s (c ∷ cs) =
    ap (λ (ns : List ℕ). number_on s c ∷ ns)
    (numbers_single (command_state_on s c) cs
    ∙ tabulate_ext (length cs) _ _ (λ i h. ap (λ (t : List ℕ). number_on t (get_or cs i [])) (sym (run_first s c (take i cs)))))

-- of the call itself, on any state bytes of a card's length
pub one_by_one : (s : List ℕ) (cs : List (List ℕ)) (ys : List ℕ) → length s ≡ 858 → length cs ≡ length ys
    → (order_answer_on s cs ys ≡ 0) × (order_state_on s cs ys ≡ state_after_all s (singles_in cs)) × (order_answers_on s cs ys ≡ numbers_on s cs)
unfolding order_answer_on order_state_on order_answers_on
one_by_one s cs ys sized e = rw (eq-eqb (length s) 858 sized, eq-eqb (length cs) (length ys) e, bytes_single s cs, numbers_single s cs) (refl, refl, refl)

-- ---- where every command is refused no byte changes

command_refused : (s command : List ℕ) → command_answer_on s command ≢ 0 → command_state_on s command ≡ s
unfolding kind_answer_on kind_state_on
command_refused s command = go (ltb 3 (get_or command 0 0))
  where
    call : Call
    call = call_by (kind_of (get_or command 0 0)) (get_or command 2 0)

    go : (b : Bool) → cond b 8 (call_answer_on true (get_or command 1 0) call s) ≢ 0 → cond b s (call_state_on true (get_or command 1 0) call s) ≡ s
    go true n = refl
    go false n = refused_stands true (get_or command 1 0) call s n

pub all_refused : (s : List ℕ) (cs : List (List ℕ)) → AllRefused (orders_on s cs).numbers → (orders_on s cs).state ≡ s
all_refused s [] r = refl
all_refused s (c ∷ cs) r =
    let e : command_state_on s c ≡ s = command_refused s c r.0 in
    ap (λ (t : List ℕ). (orders_on t cs).state) e ∙ all_refused s cs (rw e at r.1)

-- ---- cut in two: the first part, then the second on the bytes that it left
pub cut_bytes : (s : List ℕ) (cs ds : List (List ℕ)) → (orders_on s (cs ++ ds)).state ≡ (orders_on (orders_on s cs).state ds).state
cut_bytes = cut_state command_state_on command_answer_on

pub cut_answers : (s : List ℕ) (cs ds : List (List ℕ)) → (orders_on s (cs ++ ds)).numbers ≡ (orders_on s cs).numbers ++ (orders_on (orders_on s cs).state ds).numbers
cut_answers = cut_numbers command_state_on command_answer_on
