-- A store seen from a place on: members that start so much earlier in it are joined to the same frame. And a member alone, whose frame is a run of the store.
use Rattle.std.specs.Prelude.{◌≡◌, refl, Bool, true, false, ◌&&◌, List, ℕ, zero, suc, ◌+◌, ◌-◌, ◌*◌, ◌/◌, ◌%◌, ◌≤◌, ◌<◌, leb, length, get_or, take, drop, if◌then◌else◌}
use Rattle.std.proofs.Common.{sym, ap, ap₂, ◌∙◌, true≢false, zero-mul, arith, length-drop, length-take-le, take_all, get_or-drop, get_or-take, leb-true, le-leb}
use Rattle.std.proofs.Math.Bool.{and-false}
use Rattle.std.proofs.lemmas.Bool.{lt-leb}
use Rattle.ground.specs.Drawn.{fill_at, fill_at_ext, fill_at_none}
use Rattle.ground.specs.Truth.{same_test}
use Rattle.payload.specs.declared.answer.Answer.{Answer}
use Rattle.payload.specs.declared.answer.Answer.TheVariants.{Done, Range, Length}
use Rattle.payload.specs.Answers.{PAYLOAD-MOST, answer_by, sized, under_done}
use Rattle.payload.specs.Joining.{from_answer, joined_from, started_byte, starts_fit}
use Rattle.payload.specs.Laws.Fits.{are_sized}
use Rattle.payload.specs.Laws.Ranks.{ranked}
use Rattle.payload.specs.Laying.{laid}
use Rattle.payload.specs.Order.{group_byte}

-- what is lent of a store from a place on
abbrev pub store_from : (place : ℕ) (store : List ℕ) → List ℕ
store_from n store = take (length store - n) (drop n store)

module _ (n : ℕ) (store : List ℕ) where
  rest : store_from n store ≡ drop n store
  rest = take_all (length store - n) (drop n store) (omega (arith, length-drop n store))

  pub length_rest : length (store_from n store) ≡ length store - n
  length_rest = ap length rest ∙ length-drop n store

  pub get_or_rest : (k : ℕ) → get_or (store_from n store) k 0 ≡ get_or store (n + k) 0
  get_or_rest k = ap (λ (l : List ℕ). get_or l k 0) rest ∙ get_or-drop n store k 0

fits_same : (X P : ℕ) (early starts : List ℕ) (shift len : ℕ) → shift ≤ len → ((r : ℕ) → r < X → get_or starts r 0 ≡ shift + get_or early r 0)
    → starts_fit X P early (len - shift) ≡ starts_fit X P starts len
fits_same zero P early starts shift len in-it are = refl
fits_same (suc X) P early starts shift len in-it are =
    ap₂ (λ (a b : Bool). a && b) one (fits_same X P early starts shift len in-it (λ r b. are r (omega arith)))
  where
    e : get_or starts X 0 ≡ shift + get_or early X 0
    e = are X (omega arith)

    one : leb (get_or early X 0 + P) (len - shift) ≡ leb (get_or starts X 0 + P) len
    one =
        same_test _ _
        (λ (t : leb (get_or early X 0 + P) (len - shift) ≡ true). let w = leb-true (get_or early X 0 + P) (len - shift) t in le-leb (get_or starts X 0 + P) len (omega (arith, e)))
        (λ (t : leb (get_or starts X 0 + P) len ≡ true). let w = leb-true (get_or starts X 0 + P) len t in le-leb (get_or early X 0 + P) (len - shift) (omega (arith, e)))

too_long : (s l : Bool) (new old : List ℕ) → l ≡ false → under_done (answer_by s l) new old ≡ old
too_long true l new old e = rw e
too_long false l new old e = refl

too_many : (s l : Bool) (new old : List ℕ) → s ≡ false → under_done (answer_by s l) new old ≡ old
too_many s l new old e = rw e

module _ (X P : ℕ) (early starts store : List ℕ) (shift place : ℕ) (out : List ℕ)
    (are : (r : ℕ) → r < X → get_or starts r 0 ≡ shift + get_or early r 0) where
  same_byte : (k : ℕ) → k < X * P → group_byte X (started_byte early (store_from shift store)) k ≡ group_byte X (started_byte starts store) k
  same_byte k b =
      let e : shift + (get_or early (k % X) 0 + k / X) ≡ get_or starts (k % X) 0 + k / X = omega (arith, are (k % X) (ranked X P k b).rank) in
      get_or_rest shift store (get_or early (k % X) 0 + k / X) ∙ ap (λ (i : ℕ). get_or store i 0) e

  pub joined_shifted : shift ≤ length store → joined_from X P early (store_from shift store) place out ≡ joined_from X P starts store place out
  joined_shifted in-it =
      let fits : starts_fit X P early (length (store_from shift store)) ≡ starts_fit X P starts (length store) =
      ap (starts_fit X P early) (length_rest shift store) ∙ fits_same X P early starts shift (length store) in-it are in
      ap₂ (λ (t : Bool) (l : List ℕ). under_done (answer_by (sized X P) (leb (place + X * P) (length out) && t)) l out) fits
      (fill_at_ext place (X * P) (group_byte X (started_byte early (store_from shift store))) (group_byte X (started_byte starts store)) out same_byte)

none_joined : (P : ℕ) (starts store : List ℕ) (place : ℕ) (out : List ℕ) → joined_from 0 P starts store place out ≡ out
none_joined P starts store place out = go (from_answer 0 P starts (length store) place (length out))
  where
    go : (a : Answer) → under_done a (fill_at place (0 * P) (group_byte 0 (started_byte starts store)) out) out ≡ out
    go Done = rw (zero-mul P) (fill_at_none place (group_byte 0 (started_byte starts store)) out)
    go Range = refl
    go Length = refl

-- members that start beyond the store's end
pub joined_beyond : (X P : ℕ) (starts store : List ℕ) (place : ℕ) (out : List ℕ) → ((r : ℕ) → r < X → length store < get_or starts r 0) → joined_from X P starts store place out ≡ out
joined_beyond zero P starts store place out far = none_joined P starts store place out
joined_beyond (suc X) P starts store place out far =
    let w = far X (omega arith) in
    let no : (leb (place + suc X * P) (length out) && starts_fit (suc X) P starts (length store)) ≡ false =
    rw (lt-leb (get_or starts X 0 + P) (length store) (omega arith)) (and-false (leb (place + suc X * P) (length out))) in
    too_long (sized (suc X) P) (leb (place + suc X * P) (length out) && starts_fit (suc X) P starts (length store)) (fill_at place (suc X * P) (group_byte (suc X) (started_byte starts store)) out) out no

-- more than 64
pub joined_many : (X P : ℕ) (starts store : List ℕ) (place : ℕ) (out : List ℕ) → 64 < X → joined_from X P starts store place out ≡ out
joined_many X P starts store place out h =
    too_many (sized X P) (leb (place + X * P) (length out) && starts_fit X P starts (length store)) (fill_at place (X * P) (group_byte X (started_byte starts store)) out) out (rw (lt-leb X 64 h))

and_on : (b : Bool) → (b && true) ≡ b
and_on true = refl
and_on false = refl

not_alone : (a b c f : Bool) (new old : List ℕ) → ((a && b) && c) ≡ false → under_done (answer_by ((true && a) && b) (f && c)) new old ≡ old
not_alone false b c f new old e = refl
not_alone true false c f new old e = refl
not_alone true true false true new old e = refl
not_alone true true false false new old e = refl
not_alone true true true f new old e = absurd (true≢false e)

-- a member alone
module _ (X P : ℕ) (one : X ≡ 1) (starts store : List ℕ) (place : ℕ) (out : List ℕ) where
  alone_times : X * P ≡ P
  alone_times = rw one (omega arith)

  alone_fits : starts_fit X P starts (length store) ≡ leb (get_or starts 0 0 + P) (length store)
  alone_fits = ap (λ (n : ℕ). starts_fit n P starts (length store)) one ∙ and_on (leb (get_or starts 0 0 + P) (length store))

  alone_byte : (j : ℕ) → group_byte X (started_byte starts store) j ≡ get_or store (get_or starts 0 0 + j) 0
  alone_byte j =
      let r : j % 1 ≡ 0 = omega arith in
      let q : j / 1 ≡ j = omega arith in
      ap (λ (n : ℕ). group_byte n (started_byte starts store) j) one ∙ ap₂ (started_byte starts store) r q

  -- its run of the store, laid into the output
  pub alone_laid : (from : List ℕ) → 1 ≤ P → P ≤ PAYLOAD-MOST → get_or starts 0 0 + P ≤ length store → length from ≡ P
      → ((j : ℕ) → j < P → get_or from j 0 ≡ get_or store (get_or starts 0 0 + j) 0) → laid place from out ≡ joined_from X P starts store place out
  alone_laid from least most fit len is =
      let size = are_sized X P (record { ranks = omega (arith, one); least = least; most = most }) in
      let fits = alone_fits ∙ le-leb (get_or starts 0 0 + P) (length store) fit in
      rw (len, size, fits, alone_times) (go (leb (place + P) (length out)))
    where
      go : (b : Bool)
          → (if b then fill_at place P (λ j. get_or from j 0) out else out) ≡ under_done (answer_by true (b && true)) (fill_at place P (group_byte X (started_byte starts store)) out) out
      go true = fill_at_ext place P (λ j. get_or from j 0) (group_byte X (started_byte starts store)) out (λ j b. is j b ∙ sym (alone_byte j))
      go false = refl

  pub alone_none : ((leb 1 P && leb P PAYLOAD-MOST) && leb (get_or starts 0 0 + P) (length store)) ≡ false → joined_from X P starts store place out ≡ out
  alone_none fails =
      rw (alone_fits, le-leb X 64 (omega (arith, one)))
      (not_alone (leb 1 P) (leb P PAYLOAD-MOST) (leb (get_or starts 0 0 + P) (length store)) (leb (place + X * P) (length out)) (fill_at place (X * P) (group_byte X (started_byte starts store)) out) out fails)

-- n bytes of a store from a place on
module _ (start n : ℕ) (store : List ℕ) where
  pub length_run : start + n ≤ length store → length (take n (drop start store)) ≡ n
  length_run h = length-take-le n (drop start store) (omega (arith, length-drop start store))

  pub get_or_run : (j : ℕ) → j < n → get_or (take n (drop start store)) j 0 ≡ get_or store (start + j) 0
  get_or_run j b = get_or-take n (drop start store) j 0 b ∙ get_or-drop start store j 0
