-- A front that grows by lines, each stored over the spill of the one before.
use mathlib.Core.Path.{◌≡◌, refl, sym, ap, ap₂, ◌∙◌}
use mathlib.Core.Logic.{⊎_elim}
use mathlib.Core.List.{List, [], ◌∷◌}
use Prim.Native.Nat.{ℕ, zero, suc, ◌+◌, ◌-◌, ◌*◌, ◌/◌, ◌%◌, ◌≤◌, ◌<◌}
use native.Mathlib.Nat.{not-suc-le-zero, mod-lt, div-add-mod', div-lt_iff_lt-mul}
use native.Mathlib.Omega.{arith}
use lib.Arith.{digits_div, digits_mod}
use lib.ListN.{length, get_or}
use Rattle.ground.specs.Drawn.{fill_at, fill_at_all, length_fill_at, get_or_fill_at, get_or_before, get_or_after}
use Rattle.ground.specs.Table.{tabulate, tabulate_ext, tabulate_self, get_or_tabulate}
use Rattle.ground.specs.Truth.{le_or_lt}
use Rattle.payload.specs.Inner.Block.{Rows, turned}
use Rattle.payload.specs.Inner.Deal.{Dealt}
use Rattle.payload.specs.Inner.Front.{Front}
use Rattle.payload.specs.Joining.{ranked_byte, started_byte}
use Rattle.payload.specs.Laws.Shifts.{get_or_rest, store_from}
use Rattle.payload.specs.Order.{group_byte, group_frame}

pub front_none : (place end : ℕ) (f : ℕ → ℕ) (d : List ℕ) → Front place 0 end f d d
front_none place end f d = record { len = refl; before = λ k b. refl; right = λ i b. absurd (not-suc-le-zero b); after = λ k b. refl }

-- a shorter front
pub front_less : {place n end : ℕ} {f : ℕ → ℕ} {d out : List ℕ} (less : ℕ) → less ≤ n → Front place n end f d out → Front place less end f d out
front_less less b h = record { len = h.len; before = h.before; right = λ i u. h.right i (omega arith); after = h.after }

-- a front, and one more behind it that ends no later
pub front_then : {place n end : ℕ} {f : ℕ → ℕ} {d mid : List ℕ} (m last : ℕ) (g : ℕ → ℕ) (out : List ℕ) → Front place n end f d mid
    → Front (place + n) m last g mid out → last ≤ end → ((i : ℕ) → i < m → g i ≡ f (n + i)) → Front place (n + m) end f d out
front_then {place} {n} {end} {f} {d} {mid} m last g out h w fits agree =
    record {
      len = w.len ∙ h.len;
      before = λ k b. w.before k (omega arith) ∙ h.before k b;
      right = λ i b. ⊎_elim (λ (u : n ≤ i). new i b u) (λ (u : i < n). w.before (place + i) (omega arith) ∙ h.right i u) (le_or_lt n i);
      after = λ k b. w.after k (omega arith) ∙ h.after k b;
    }
  where
    new : (i : ℕ) → i < n + m → n ≤ i → get_or out (place + i) 0 ≡ f i
    new i b u =
        let at : place + i ≡ place + n + (i - n) = omega arith in
        let back : n + (i - n) ≡ i = omega arith in
        ap (λ (k : ℕ). get_or out k 0) at ∙ w.right (i - n) (omega arith) ∙ agree (i - n) (omega arith) ∙ ap f back

-- w bytes that are stored are a front of their first m
pub front_run : (place m w : ℕ) (g : ℕ → ℕ) {d : List ℕ} (out : List ℕ) → m ≤ w → place + w ≤ length d → out ≡ fill_at place w g d → Front place m (place + w) g d out
front_run place m w g {d} out few long e =
    record {
      len = ap length e ∙ length_fill_at place w g d;
      before = λ k b. seen k ∙ get_or_before place w g d k 0 b;
      right = λ i b. seen (place + i) ∙ get_or_fill_at place w g d i 0 (omega arith) (omega arith);
      after = λ k b. seen k ∙ get_or_after place w g d k 0 b;
    }
  where
    seen : (k : ℕ) → get_or out k 0 ≡ get_or (fill_at place w g d) k 0
    seen k = ap (λ (l : List ℕ). get_or l k 0) e

-- a front of other words
pub front_as : {place n end : ℕ} {f : ℕ → ℕ} {d out : List ℕ} (g : ℕ → ℕ) → Front place n end f d out → ((i : ℕ) → i < n → f i ≡ g i) → Front place n end g d out
front_as g h agree = record { len = h.len; before = h.before; right = λ i b. h.right i b ∙ agree i b; after = h.after }

-- a whole front
pub front_whole : {place n : ℕ} {f : ℕ → ℕ} {d out : List ℕ} → place + n ≤ length d → Front place n (place + n) f d out → out ≡ fill_at place n f d
front_whole {place} {n} {f} {d} {out} long h =
    sym (tabulate_self out 0) ∙ ap (λ (m : ℕ). tabulate m (λ k. get_or out k 0)) h.len
    ∙ tabulate_ext (length d) (λ k. get_or out k 0) (λ k. get_or (fill_at place n f d) k 0) same
    ∙ ap (λ (m : ℕ). tabulate m (λ k. get_or (fill_at place n f d) k 0)) (sym (length_fill_at place n f d)) ∙ tabulate_self (fill_at place n f d) 0
  where
    inside : (k : ℕ) → place ≤ k → k < place + n → get_or out k 0 ≡ get_or (fill_at place n f d) k 0
    inside k a b =
        let e : k ≡ place + (k - place) = omega arith in
        ap (λ (i : ℕ). get_or out i 0) e ∙ h.right (k - place) (omega arith)
        ∙ sym (get_or_fill_at place n f d (k - place) 0 (omega arith) (omega arith)) ∙ ap (λ (i : ℕ). get_or (fill_at place n f d) i 0) (sym e)

    from : (k : ℕ) → place ≤ k → get_or out k 0 ≡ get_or (fill_at place n f d) k 0
    from k a = ⊎_elim (λ (u : place + n ≤ k). h.after k u ∙ sym (get_or_after place n f d k 0 u)) (λ (u : k < place + n). inside k a u) (le_or_lt (place + n) k)

    same : (k : ℕ) → k < length d → get_or out k 0 ≡ get_or (fill_at place n f d) k 0
    same k b = ⊎_elim (λ (u : place ≤ k). from k u) (λ (u : k < place). h.before k u ∙ sym (get_or_before place n f d k 0 u)) (le_or_lt place k)

-- a line more, of x bytes that stand eight apart
pub over_more : {at end : ℕ} {d mid : List ℕ} (x l to : ℕ) (q out : List ℕ) → x ≤ 8 → to ≡ at + l * x → to + 8 ≤ end → to + 8 ≤ length d
    → Front at (l * x) end (λ i. get_or q (i / x * 8 + i % x) 0) d mid → out ≡ fill_at to 8 (λ j. get_or q (l * 8 + j) 0) mid
    → Front at ((l + 1) * x) end (λ i. get_or q (i / x * 8 + i % x) 0) d out
over_more {at} {end} {d} {mid} x l to q out few is fits long h e =
    rw next at (front_then x (at + l * x + 8) (λ j. get_or q (l * 8 + j) 0) out h (rw is at (front_run to x 8 (λ j. get_or q (l * 8 + j) 0) {d = mid} out few (omega (arith, h.len)) e)) (omega (arith, is)) agree)
  where
    next : l * x + x ≡ (l + 1) * x
    next = omega arith

    agree : (i : ℕ) → i < x → get_or q (l * 8 + i) 0 ≡ get_or q ((l * x + i) / x * 8 + (l * x + i) % x) 0
    agree i b = sym (ap₂ (λ (m r : ℕ). get_or q (m * 8 + r) 0) (digits_div l b) (digits_mod l b))

-- byte i of some lines of x: which line, and which column
pub line_in_lem : (x n i : ℕ) → 0 < x → i < n * x → (i / x < n) × (i % x < x)
line_in_lem x n i pos b = ((div-lt_iff_lt-mul pos).1 b, mod-lt i pos)

-- a turned block's lines, by its rows
pub over_turned : {at end : ℕ} {d out : List ℕ} (x : ℕ) (q t : List ℕ) → 0 < x → x ≤ 8 → t ≡ turned 8 16 q
    → Front at (16 * x) end (λ i. get_or t (i / x * 8 + i % x) 0) d out → Front at (16 * x) end (λ i. get_or q (i % x * 16 + i / x) 0) d out
over_turned x q t pos few turns h = front_as (λ i. get_or q (i % x * 16 + i / x) 0) h (λ i b. let s = line_in_lem x 16 i pos b in same (i / x) (i % x) s.0 (omega (arith, s.1)))
  where
    same : (l c : ℕ) → l < 16 → c < 8 → get_or t (l * 8 + c) 0 ≡ get_or q (c * 16 + l) 0
    same l c hl hc =
        ap (λ (s : List ℕ). get_or s (l * 8 + c) 0) turns
        ∙ get_or_tabulate 128 (λ k. get_or q (k % 8 * 16 + k / 8) 0) (l * 8 + c) 0 (omega arith)
        ∙ ap₂ (λ (a b : ℕ). get_or q (a * 16 + b) 0) (digits_mod l hc) (digits_div l hc)

-- sixteen lines more of a frame, from line j on
pub over_lines : {place end : ℕ} {d mid : List ℕ} (x j had now last : ℕ) (m : ℕ → ℕ → ℕ) (before q out : List ℕ) → 0 < x → j ≤ had → j + 16 ≡ now
    → Rows x 16 m 0 j before q → Front place (had * x) end (group_byte x m) d mid → Front (place + j * x) (16 * x) last (λ i. get_or q (i % x * 16 + i / x) 0) mid out
    → j * x ≤ had * x → last ≤ end → Front place (now * x) end (group_byte x m) d out
over_lines {place} {end} {d} {mid} x j had now last m before q out pos low high rows h w short fits =
    rw sum at (front_then (16 * x) last (λ i. get_or q (i % x * 16 + i / x) 0) out (front_less (j * x) short h) w fits agree)
  where
    sum : j * x + 16 * x ≡ now * x
    sum = let s : j * x + 16 * x ≡ (j + 16) * x = omega arith in s ∙ ap (λ (k : ℕ). k * x) high

    agree : (i : ℕ) → i < 16 * x → get_or q (i % x * 16 + i / x) 0 ≡ m ((j * x + i) % x) ((j * x + i) / x)
    agree i b =
        let s = line_in_lem x 16 i pos b in
        let back = div-add-mod' i x in
        let whole : j * x + i ≡ (j + i / x) * x + i % x = omega (arith, back) in
        let z : 0 + i % x ≡ i % x = omega arith in
        rows.is (i % x) (i / x) s.1 s.0 ∙ ap (λ (c : ℕ). m c (j + i / x)) z
        ∙ sym (ap₂ m (ap (λ (k : ℕ). k % x) whole ∙ digits_mod (j + i / x) s.1) (ap (λ (k : ℕ). k / x) whole ∙ digits_div (j + i / x) s.1))

-- 32 lines more of a frame of three members, from line j on: sixteen lines of six bytes
pub over_three : {place end : ℕ} {d mid : List ℕ} (j had now last : ℕ) (m : ℕ → ℕ → ℕ) (before q s out : List ℕ) → j ≤ had → j + 32 ≡ now
    → Rows 3 32 m 0 j before q → Dealt 48 q s → Front place (had * 3) end (group_byte 3 m) d mid → Front (place + j * 3) (16 * 6) last (λ i. get_or s (i % 6 * 16 + i / 6) 0) mid out
    → last ≤ end → Front place (now * 3) end (group_byte 3 m) d out
over_three {place} {end} {d} {mid} j had now last m before q s out low high rows deal h w fits =
    rw sum at (front_then 96 last (λ i. get_or s (i % 6 * 16 + i / 6) 0) out (front_less (j * 3) (omega arith) h) w fits agree)
  where
    sum : j * 3 + 96 ≡ now * 3
    sum = omega arith

    even : (l c : ℕ) → l < 16 → c < 3 → get_or s (c * 16 + l) 0 ≡ m c (j + 2 * l)
    even l c hl hc =
        let at : 2 * (c * 16 + l) ≡ c * 32 + 2 * l = omega arith in
        let z : 0 + c ≡ c = omega arith in
        deal.even (c * 16 + l) (omega arith) ∙ ap (λ (k : ℕ). get_or q k 0) at ∙ rows.is c (2 * l) hc (omega arith) ∙ ap (λ (k : ℕ). m k (j + 2 * l)) z

    odd : (l c : ℕ) → l < 16 → c < 3 → get_or s (48 + (c * 16 + l)) 0 ≡ m c (j + (2 * l + 1))
    odd l c hl hc =
        let at : 2 * (c * 16 + l) + 1 ≡ c * 32 + (2 * l + 1) = omega arith in
        let z : 0 + c ≡ c = omega arith in
        deal.odd (c * 16 + l) (omega arith) ∙ ap (λ (k : ℕ). get_or q k 0) at ∙ rows.is c (2 * l + 1) hc (omega arith) ∙ ap (λ (k : ℕ). m k (j + (2 * l + 1))) z

    first : (i : ℕ) → i < 96 → i % 6 < 3 → get_or s (i % 6 * 16 + i / 6) 0 ≡ m ((j * 3 + i) % 3) ((j * 3 + i) / 3)
    first i b u =
        let whole : j * 3 + i ≡ (j + 2 * (i / 6)) * 3 + i % 6 = omega arith in
        even (i / 6) (i % 6) (omega arith) u
        ∙ sym (ap₂ m (ap (λ (k : ℕ). k % 3) whole ∙ digits_mod (j + 2 * (i / 6)) u) (ap (λ (k : ℕ). k / 3) whole ∙ digits_div (j + 2 * (i / 6)) u))

    second : (i : ℕ) → i < 96 → 3 ≤ i % 6 → get_or s (i % 6 * 16 + i / 6) 0 ≡ m ((j * 3 + i) % 3) ((j * 3 + i) / 3)
    second i b u =
        let at : i % 6 * 16 + i / 6 ≡ 48 + ((i % 6 - 3) * 16 + i / 6) = omega arith in
        let few : i % 6 - 3 < 3 = omega arith in
        let whole : j * 3 + i ≡ (j + (2 * (i / 6) + 1)) * 3 + (i % 6 - 3) = omega arith in
        ap (λ (k : ℕ). get_or s k 0) at ∙ odd (i / 6) (i % 6 - 3) (omega arith) few
        ∙ sym (ap₂ m (ap (λ (k : ℕ). k % 3) whole ∙ digits_mod (j + (2 * (i / 6) + 1)) few) (ap (λ (k : ℕ). k / 3) whole ∙ digits_div (j + (2 * (i / 6) + 1)) few))

    agree : (i : ℕ) → i < 96 → get_or s (i % 6 * 16 + i / 6) 0 ≡ m ((j * 3 + i) % 3) ((j * 3 + i) / 3)
    agree i b = ⊎_elim (λ (u : 3 ≤ i % 6). second i b u) (λ (u : i % 6 < 3). first i b u) (le_or_lt 3 (i % 6))

-- a front of lines, where their length is known
pub front_of : (x k n p place : ℕ) (m : ℕ → ℕ → ℕ) {d out : List ℕ} → x ≡ k → Front place (n * k) (place + k * p) (group_byte k m) d out
    → Front place (n * x) (place + x * p) (group_byte x m) d out
front_of x k n p place m e h = rw e h

-- the last lines of a frame, behind a front of all others
pub over_all : {place : ℕ} {d mid : List ℕ} (x n p : ℕ) (m g : ℕ → ℕ → ℕ) (out : List ℕ) → n + 2 ≡ p → 0 < x → place + x * p ≤ length d
    → Front place (n * x) (place + x * p) (group_byte x m) d mid → out ≡ fill_at (place + n * x) (x * 2) (group_byte x g) mid
    → ((r i : ℕ) → g r i ≡ m r (n + i)) → out ≡ fill_at place (x * p) (group_byte x m) d
over_all {place} {d} {mid} x n p m g out two pos long h e agree =
    front_whole long
    (rw sum at (front_then (x * 2) (place + n * x + x * 2) (group_byte x g) out h (front_run (place + n * x) (x * 2) (x * 2) (group_byte x g) {d = mid} out (omega arith) (omega (arith, h.len, sum)) e) (omega (arith, sum)) same))
  where
    sum : n * x + x * 2 ≡ x * p
    sum = let s : n * x + x * 2 ≡ x * (n + 2) = omega arith in s ∙ ap (λ (k : ℕ). x * k) two

    same : (i : ℕ) → i < x * 2 → g (i % x) (i / x) ≡ m ((n * x + i) % x) ((n * x + i) / x)
    same i b =
        let r = mod-lt i pos in
        let whole : n * x + i ≡ (n + i / x) * x + i % x = omega (arith, div-add-mod' i x) in
        agree (i % x) (i / x)
        ∙ sym (ap₂ m (ap (λ (k : ℕ). k % x) whole ∙ digits_mod (n + i / x) r) (ap (λ (k : ℕ). k / x) whole ∙ digits_div (n + i / x) r))

-- what is lent of a store from a place on
pub started_rest : (n : ℕ) (store starts : List ℕ) (r i : ℕ) → started_byte starts (store_from n store) r i ≡ started_byte starts store r (n + i)
started_rest n store starts r i =
    let e : n + (get_or starts r 0 + i) ≡ get_or starts r 0 + (n + i) = omega arith in
    get_or_rest n store (get_or starts r 0 + i) ∙ ap (λ (k : ℕ). get_or store k 0) e

-- where members that lie one after the other start
abbrev pub starts_of : ℕ → List ℕ
starts_of p = 0 ∷ p ∷ 2 * p ∷ 3 * p ∷ 4 * p ∷ 5 * p ∷ 6 * p ∷ []

pub starts_at : (p r : ℕ) → r < 7 → get_or (starts_of p) r 0 ≡ r * p
starts_at p zero b = omega arith
starts_at p (suc zero) b = omega arith
starts_at p (suc (suc zero)) b = omega arith
starts_at p (suc (suc (suc zero))) b = omega arith
starts_at p (suc (suc (suc (suc zero)))) b = omega arith
starts_at p (suc (suc (suc (suc (suc zero))))) b = omega arith
starts_at p (suc (suc (suc (suc (suc (suc zero)))))) b = omega arith
starts_at p (suc (suc (suc (suc (suc (suc (suc r))))))) b = absurd (omega arith)

pub joined_started : (x p : ℕ) (members d out : List ℕ) → 0 < x → x ≤ 7 → length d ≡ x * p
    → out ≡ fill_at 0 (x * p) (group_byte x (started_byte (starts_of p) members)) d → out ≡ group_frame x p (ranked_byte p members)
joined_started x p members d out pos few long e =
    e ∙ fill_at_all (x * p) (group_byte x (started_byte (starts_of p) members)) d long
    ∙ tabulate_ext (x * p) (group_byte x (started_byte (starts_of p) members)) (group_byte x (ranked_byte p members))
    (λ k b. let r = mod-lt k pos in ap (λ (s : ℕ). get_or members (s + k / x) 0) (starts_at p (k % x) (omega (arith, r))))
