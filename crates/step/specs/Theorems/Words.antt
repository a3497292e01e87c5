-- VC-12's step rule in the request's own words, on the bytes that a fresh port is handed, none flagged: 'two whole packets in a row whose counts differ by one', each start said where it is due and nowhere else.
use Rattle.std.specs.Prelude.{◌≡◌, refl, ◌⊎◌, ◌≢◌, Bool, true, false, cond, ◌&&◌, ◌||◌, ℕ, zero, suc, ◌+◌, ◌-◌, ◌*◌, ◌/◌, ◌%◌, ◌≤◌, ◌<◌, min, ltb}
use Rattle.std.proofs.Common.{◌∙◌, sym, subst, inl, inr}
use Rattle.std.proofs.Math.Path.{ap}
use Rattle.std.proofs.Math.Logic.{⊎_elim}
use Rattle.std.proofs.Math.Bool.{not}
use Rattle.std.proofs.Math.Nat.{mod-lt}
use native.Mathlib.Omega.{arith}
use Rattle.std.proofs.Math.Dec.{eqb}
use borrow.Author.Tests.{eq-eqb, ne_eqb, lt-ltb, le-ltb}
use Rattle.ground.specs.Truth.{eq_or_ne, le_or_lt}
use Rattle.step.specs.Words.{InStep, Row, bits_from, count_at, run_after}
use Rattle.step.specs.declared.run.Run.{Run}
use Rattle.packet.specs.Counts.{says_start}
use Rattle.step.specs.Laws.StartsRun.{alike, fifth_bit_lem, later, lt_or_le, other_bit}
use Rattle.step.specs.Run.{run_on}
use Rattle.step.specs.Starts.{begun_packet, bits_after, count_after, fifth_bit, first_of_two, goes_on, no_run, starts_run}

bit_lt : (n : ℕ) → n % 2 < 2
bit_lt n = omega arith

count_lt : (b : ℕ → ℕ) (j : ℕ) → count_at b j < 32
count_lt b j =
    let b0 = bit_lt (b (j + 0)) in
    let b1 = bit_lt (b (j + 1)) in
    let b2 = bit_lt (b (j + 2)) in
    let b3 = bit_lt (b (j + 3)) in
    let b4 = bit_lt (b (j + 4)) in
    omega arith

-- the counts of a row
chain : (b : ℕ → ℕ) (a t : ℕ) → Row b a t → (k : ℕ) → a + 32 * k + 5 ≤ t → count_at b (a + 32 * k) ≡ (count_at b (a + 0) + k) % 32
chain b a t r zero l = let s = count_lt b (a + 0) in let z : a + 32 * 0 ≡ a + 0 = omega arith in ap (λ (n : ℕ). count_at b n) z ∙ omega arith
chain b a t r (suc k) l =
    let before = chain b a t r k (omega arith) in
    let e : suc k ≡ k + 1 = omega arith in
    ap (λ (n : ℕ). count_at b (a + 32 * n)) e ∙ r.counts k (omega arith) ∙ rw before (omega arith)

-- what stands after the frame a + i of a row
record Stands (b : ℕ → ℕ) (a i : ℕ) (run : Run) : Type 0 where
  small : run.next < 1024
  place : run.next % 32 ≡ (i + 1) % 32
  bits : run.bits ≡ bits_from b (a + i / 32 * 32) (min (i % 32 + 1) 5)
  tag : 4 ≤ i → run.next ≡ (32 * count_at b (a + 0) + i + 1) % 1024
  some : run.count ≢ 0
  many : 4 ≤ i → min (i + 1) 64 ≤ run.count

-- one bit more
bits_on : (b : ℕ → ℕ) (j bits q byte : ℕ) → q < 32 → (q ≢ 0 → bits ≡ bits_from b j (min q 5)) → (q < 5 → byte ≡ b (j + q)) → bits_after bits q (byte % 2) ≡ bits_from b j (min (q + 1) 5)
unfolding bits_after
bits_on b j bits zero byte low before is = rw (is (omega arith)) (omega arith)
bits_on b j bits (suc zero) byte low before is =
    let b0 = bit_lt (b (j + 0)) in rw (before (λ z. omega arith), is (omega arith)) (omega arith)
bits_on b j bits (suc (suc zero)) byte low before is =
    let b0 = bit_lt (b (j + 0)) in let b1 = bit_lt (b (j + 1)) in rw (before (λ z. omega arith), is (omega arith)) (omega arith)
bits_on b j bits (suc (suc (suc zero))) byte low before is =
    let b0 = bit_lt (b (j + 0)) in let b1 = bit_lt (b (j + 1)) in let b2 = bit_lt (b (j + 2)) in rw (before (λ z. omega arith), is (omega arith)) (omega arith)
bits_on b j bits (suc (suc (suc (suc zero)))) byte low before is =
    let b0 = bit_lt (b (j + 0)) in let b1 = bit_lt (b (j + 1)) in let b2 = bit_lt (b (j + 2)) in let b3 = bit_lt (b (j + 3)) in rw (before (λ z. omega arith), is (omega arith)) (omega arith)
bits_on b j bits (suc (suc (suc (suc (suc q))))) byte low before is =
    let here : min (suc (suc (suc (suc (suc q))))) 5 ≡ 5 = omega arith in
    let there : min (suc (suc (suc (suc (suc q)))) + 1) 5 ≡ 5 = omega arith in
    later bits (suc (suc (suc (suc (suc q))))) (byte % 2) (omega arith) ∙ before (λ z. omega arith) ∙ rw (here, there) refl

-- The first frame of a row, whatever run it comes to.

go_small : (run : Run) (bits : ℕ) → (goes_on run bits).next < 1024
unfolding goes_on
go_small run bits = omega arith

two_small : (bits : ℕ) → (first_of_two bits).next < 1024
unfolding first_of_two
two_small bits = omega arith

pick : (P : Run → Type 0) (c : Bool) (x y : Run) → P x → P y → P (cond c x y)
pick P true x y p q = p
pick P false x y p q = q

begun_small : (byte : ℕ) → (begun_packet byte).next < 1024
unfolding begun_packet
begun_small byte = pick (λ (r : Run). r.next < 1024) (says_start byte) (record { count = 1; next = 1; breaks = 0; odd = 0; bits = byte % 2 }) no_run (omega arith) (omega arith)

fifth_small : (run : Run) (bits : ℕ) → (fifth_bit run bits).next < 1024
unfolding fifth_bit
fifth_small run bits =
    pick (λ (r : Run). r.next < 1024) (ltb run.count 5 || not (eqb bits (run.next % 1024 / 32))) (first_of_two bits) (goes_on run bits) (two_small bits) (go_small run bits)

small_on : (run : Run) (byte : ℕ) → (starts_run run byte).next < 1024
unfolding starts_run
small_on run byte =
    pick (λ (r : Run). r.next < 1024) (eqb run.count 0 || not ((says_start byte && eqb (run.next % 32) 0) || (not (says_start byte) && not (eqb (run.next % 32) 0)))) (begun_packet byte)
    (cond (eqb (run.next % 32) 4) (fifth_bit run (bits_after run.bits (run.next % 32) (byte % 2))) (goes_on run (bits_after run.bits (run.next % 32) (byte % 2))))
    (begun_small byte)
    (pick (λ (r : Run). r.next < 1024) (eqb (run.next % 32) 4) (fifth_bit run (bits_after run.bits (run.next % 32) (byte % 2))) (goes_on run (bits_after run.bits (run.next % 32) (byte % 2)))
    (fifth_small run (bits_after run.bits (run.next % 32) (byte % 2))) (go_small run (bits_after run.bits (run.next % 32) (byte % 2))))

small_next : (b : ℕ → ℕ) (t : ℕ) → (run_after b t).next < 1024
unfolding run_after run_on
small_next b zero = omega arith
small_next b (suc t) = small_on (run_after b t) (b t)

-- a start is the first bit of a packet: where one is due the run goes on, anywhere else a new one begins
record First (byte : ℕ) (run : Run) : Type 0 where
  place : run.next % 32 ≡ 1
  bits : run.bits ≡ byte % 2
  some : run.count ≢ 0

counted : (n : ℕ) → count_after n ≢ 0
unfolding count_after
counted n w =
    ⊎_elim (λ (l : n < 64). let v : n + 1 ≡ 0 = rw (lt-ltb n 64 l) at w in omega arith) (λ (l : 64 ≤ n). let v : n ≡ 0 = rw (le-ltb n 64 l) at w in omega arith) (lt_or_le n 64)

goes_first : (run : Run) (byte : ℕ) → run.next % 32 ≡ 0 → First byte (goes_on run (bits_after run.bits (run.next % 32) (byte % 2)))
unfolding goes_on bits_after
goes_first run byte due = record { place = omega arith; bits = rw due refl; some = counted run.count }

first_on : (run : Run) (byte : ℕ) → says_start byte ≡ true → First byte (starts_run run byte)
unfolding starts_run begun_packet
first_on run byte said =
    ⊎_elim
    (λ (none : run.count ≡ 0). rw (eq-eqb run.count 0 none, said) (record { place = refl; bits = refl; some = λ n. omega arith }))
    (λ (some : run.count ≢ 0).
    ⊎_elim
    (λ (due : run.next % 32 ≡ 0).
    rw (other_bit run byte some (said ∙ sym (eq-eqb (run.next % 32) 0 due)) (λ (w : run.next % 32 ≡ 4). omega arith)) (goes_first run byte due))
    (λ (early : run.next % 32 ≢ 0). rw (ne_eqb run.count 0 some, said, ne_eqb (run.next % 32) 0 early) (record { place = refl; bits = refl; some = λ n. omega arith }))
    (eq_or_ne (run.next % 32) 0))
    (eq_or_ne run.count 0)

tag_on : (n c i : ℕ) → n ≡ (32 * c + i + 1) % 1024 → (n % 1024 + 1) % 1024 ≡ (32 * c + (i + 1) + 1) % 1024
tag_on n c i e = rw e (omega arith)

far_in : (i : ℕ) → 4 ≤ i + 1 → (i + 1) % 32 ≢ 4 → 4 ≤ i
far_in i l d = ⊎_elim (λ (h : 4 ≤ i). h) (λ (h : i < 4). let w : i ≡ 3 = omega arith in absurd (d (rw w refl))) (le_or_lt 4 i)

place_on : (n i : ℕ) → n % 32 ≡ (i + 1) % 32 → (n % 1024 + 1) % 1024 % 32 ≡ (i + 1 + 1) % 32
place_on n i e = omega arith

five_more : (n i : ℕ) → 5 ≤ n → i < 4 → min (i + 1 + 1) 64 ≤ count_after n
unfolding count_after
five_more n i many h =
    ⊎_elim (λ (l : n < 64). rw (lt-ltb n 64 l) (omega arith)) (λ (l : 64 ≤ n). rw (le-ltb n 64 l) (omega arith)) (lt_or_le n 64)

own_count : (n c i k : ℕ) → c < 32 → n ≡ (32 * c + i + 1) % 1024 → i + 1 ≡ 32 * k + 4 → (c + k) % 32 ≡ n % 1024 / 32
own_count n c i k low e w = rw e (let v : 32 * c + i + 1 ≡ 32 * (c + k) + 4 = omega arith in rw v (omega arith))

told_tag : (n c : ℕ) → c < 32 → n < 1024 → n % 32 ≡ 4 → c ≡ n % 1024 / 32 → (n % 1024 + 1) % 1024 ≡ (32 * c + 4 + 1) % 1024
told_tag n c low small p e = rw e (omega arith)

-- One frame more of a row: the place, and the bits of its packet.
module _ (b : ℕ → ℕ) (a t i : ℕ) (r : Row b a t) (l : a + (i + 1) < t) (run : Run) (o : Stands b a i run) where
  abbrev byte : ℕ
  byte = b (a + (i + 1))

  abbrev q : ℕ
  q = (i + 1) % 32

  abbrev s : ℕ
  s = a + (i + 1) / 32 * 32

  said : says_start byte ≡ eqb (run.next % 32) 0
  said = r.starts (i + 1) l ∙ ap (λ (n : ℕ). eqb n 0) (sym o.place)

  bits_are : bits_after run.bits (run.next % 32) (byte % 2) ≡ bits_from b s (min (q + 1) 5)
  bits_are =
      ap (λ (n : ℕ). bits_after run.bits n (byte % 2)) o.place
      ∙ bits_on b s run.bits q byte (omega arith)
      (λ (d : q ≢ 0).
      let here : i / 32 * 32 ≡ (i + 1) / 32 * 32 = omega arith in
      let one : i % 32 + 1 ≡ (i + 1) % 32 = omega arith in
      o.bits ∙ ap (λ (n : ℕ). bits_from b (a + n) (min (i % 32 + 1) 5)) here ∙ ap (λ (n : ℕ). bits_from b s (min n 5)) one)
      (λ (low : q < 5). let w : a + (i + 1) ≡ s + q = omega arith in ap b w)

  more : 4 ≤ i → min (i + 1 + 1) 64 ≤ count_after run.count
  unfolding count_after
  more far =
      let m = o.many far in
      ⊎_elim (λ (h : run.count < 64). rw (lt-ltb run.count 64 h) (omega arith)) (λ (h : 64 ≤ run.count). rw (le-ltb run.count 64 h) (omega arith)) (lt_or_le run.count 64)

  -- a bit that tells no count
  goes : q ≢ 4 → Stands b a (i + 1) (starts_run run byte)
  unfolding goes_on
  goes d =
      rw (other_bit run byte o.some said (λ (w : run.next % 32 ≡ 4). d (sym o.place ∙ w)), bits_are)
      (record {
        small = mod-lt (run.next % 1024 + 1) (omega arith);
        place = place_on run.next i o.place;
        bits = refl;
        tag = λ (far : 4 ≤ i + 1). tag_on run.next (count_at b (a + 0)) i (o.tag (far_in i far d));
        some = counted run.count;
        many = λ (far : 4 ≤ i + 1). more (far_in i far d);
      })

  abbrev count : ℕ
  count = count_at b s

  five : q ≡ 4 → min (q + 1) 5 ≡ 5
  five w = rw w refl

  bits_five : q ≡ 4 → count ≡ bits_from b (a + (i + 1) / 32 * 32) (min ((i + 1) % 32 + 1) 5)
  bits_five w = ap (bits_from b s) (sym (five w))

  to_fifth : q ≡ 4 → starts_run run byte ≡ fifth_bit run count
  to_fifth w = fifth_bit_lem run byte o.some said (o.place ∙ w) ∙ ap (fifth_bit run) (bits_are ∙ ap (bits_from b s) (five w))

  -- the count of a packet that the run has come to: a new run of five frames, or the run goes on
  anew : q ≡ 4 → i < 4 → Stands b a (i + 1) (first_of_two count)
  unfolding first_of_two
  anew w l =
      let three : i ≡ 3 = omega arith in
      let here : s ≡ a + 0 = omega arith in
      let low : count < 32 = count_lt b s in
      let same : count_at b (a + 0) ≡ count = ap (count_at b) (sym here) in
      record {
        small = two_small count;
        place = rw three (omega arith);
        bits = bits_five w;
        tag = λ (far : 4 ≤ i + 1). rw (same, three) (omega arith);
        some = λ n. omega arith;
        many = λ (far : 4 ≤ i + 1). omega arith;
      }

  on_told : q ≡ 4 → 5 ≤ run.count → count ≡ run.next % 1024 / 32 → Stands b a (i + 1) (goes_on run count)
  unfolding goes_on
  on_told w many own =
      let low : count < 32 = count_lt b s in
      record {
        small = mod-lt (run.next % 1024 + 1) (omega arith);
        place = place_on run.next i o.place;
        bits = bits_five w;
        tag = λ (far : 4 ≤ i + 1).
            ⊎_elim (λ (h : 4 ≤ i). tag_on run.next (count_at b (a + 0)) i (o.tag h))
            (λ (h : i < 4).
            let three : i + 1 ≡ 4 = omega arith in
            let here : s ≡ a + 0 = omega arith in
            rw (three, ap (count_at b) (sym here)) (told_tag run.next count low o.small (o.place ∙ w) own))
            (le_or_lt 4 i);
        some = counted run.count;
        many = λ (far : 4 ≤ i + 1).
            ⊎_elim (λ (h : 4 ≤ i). more h) (λ (h : i < 4). five_more run.count i many h) (le_or_lt 4 i);
      }

  tells : q ≡ 4 → Stands b a (i + 1) (fifth_bit run count)
  unfolding fifth_bit
  tells w =
      ⊎_elim
      (λ (few : run.count < 5). rw (lt-ltb run.count 5 few) (anew w (near few)))
      (λ (many : 5 ≤ run.count).
      ⊎_elim
      (λ (own : count ≡ run.next % 1024 / 32). rw (le-ltb run.count 5 many, eq-eqb count (run.next % 1024 / 32) own) (on_told w many own))
      (λ (other : count ≢ run.next % 1024 / 32). rw (le-ltb run.count 5 many, ne_eqb count (run.next % 1024 / 32) other) (anew w (strange other)))
      (eq_or_ne count (run.next % 1024 / 32)))
      (lt_or_le run.count 5)
    where
      near : run.count < 5 → i < 4
      near few = ⊎_elim (λ (h : 4 ≤ i). let m = o.many h in absurd (omega arith)) (λ (h : i < 4). h) (le_or_lt 4 i)

      strange : count ≢ run.next % 1024 / 32 → i < 4
      strange other =
          ⊎_elim
          (λ (h : 4 ≤ i).
          let k : ℕ = (i + 1) / 32 in
          let place : i + 1 ≡ 32 * ((i + 1) / 32) + 4 = omega arith in
          let here : s ≡ a + 32 * ((i + 1) / 32) = omega arith in
          let is = chain b a t r ((i + 1) / 32) (omega arith) in
          absurd (other (ap (count_at b) here ∙ is ∙ own_count run.next (count_at b (a + 0)) i ((i + 1) / 32) (count_lt b (a + 0)) (o.tag h) place)))
          (λ (h : i < 4). h) (le_or_lt 4 i)

  on : Stands b a (i + 1) (starts_run run byte)
  on = ⊎_elim (λ (w : q ≡ 4). rw (to_fifth w) (tells w)) (λ (d : q ≢ 4). goes d) (eq_or_ne q 4)

-- A port in a row of packets is in step: the run after each frame of the row.

first_stands : (b : ℕ → ℕ) (a : ℕ) (run : Run) → run.next < 1024 → First (b (a + 0)) run → Stands b a 0 run
first_stands b a run low f =
    record {
      small = low;
      place = f.place ∙ refl;
      bits = f.bits ∙ one;
      tag = λ (far : 4 ≤ 0). absurd (omega arith);
      some = f.some;
      many = λ (far : 4 ≤ 0). absurd (omega arith);
    }
  where
    one : b (a + 0) % 2 ≡ bits_from b (a + 0 / 32 * 32) (min (0 % 32 + 1) 5)
    one = let z : a + 0 / 32 * 32 + 0 ≡ a + 0 = omega arith in rw z (omega arith)

stands_row : (b : ℕ → ℕ) (a t : ℕ) → Row b a t → (i : ℕ) → a + i < t → Stands b a i (run_after b (suc (a + i)))
unfolding run_after run_on
stands_row b a t r zero l = first_stands b a (starts_run (run_after b (a + 0)) (b (a + 0))) (small_on (run_after b (a + 0)) (b (a + 0))) (first_on (run_after b (a + 0)) (b (a + 0)) (r.starts 0 l))
stands_row b a t r (suc i) l =
    let e : suc i ≡ i + 1 = omega arith in
    let f : a + (i + 1) ≡ suc (a + i) = omega arith in
    let before : Stands b a i (run_after b (suc (a + i))) = stands_row b a t r i (omega arith) in
    let here : Stands b a (i + 1) (starts_run (run_after b (suc (a + i))) (b (a + (i + 1)))) = on b a t i r (omega arith) (run_after b (suc (a + i))) before in
    rw (e, ap (run_after b) f) here

pub so_in_step : (b : ℕ → ℕ) (t : ℕ) → InStep b t → 64 ≤ (run_after b t).count
so_in_step b t s =
    let enough = s.enough in
    let i : ℕ = t - s.a - 1 in
    let e : t ≡ suc (s.a + (t - s.a - 1)) = omega arith in
    let o : Stands b s.a (t - s.a - 1) (run_after b (suc (s.a + (t - s.a - 1)))) = stands_row b s.a t s.row (t - s.a - 1) (omega arith) in
    let m = o.many (omega arith) in
    ap_le (ap (λ (n : ℕ). (run_after b n).count) e) (omega arith)
  where
    ap_le : {m n : ℕ} → m ≡ n → 64 ≤ n → 64 ≤ m
    ap_le q l = rw q l

-- A port in step is in a row of packets: the row that a run is of.
record Heard (b : ℕ → ℕ) (t : ℕ) (run : Run) : Type 0 where
  a : ℕ
  i : ℕ
  is : a + i + 1 ≡ t
  row : Row b a t
  stands : Stands b a i run
  few : run.count ≤ i + 1
  first : i < 4 → run.count ≡ i + 1

-- a frame as the first of a run, or of none
begun_heard : (b : ℕ → ℕ) (t : ℕ) → ((begun_packet (b t)).count ≡ 0) ⊎ Heard b (suc t) (begun_packet (b t))
unfolding begun_packet
begun_heard b t = go (says_start (b t)) refl
  where
    go : (c : Bool) → says_start (b t) ≡ c → ((begun_packet (b t)).count ≡ 0) ⊎ Heard b (suc t) (begun_packet (b t))
    go false e = inl (rw e refl)
    go true e =
        let z : t + 0 ≡ t = omega arith in
        inr (rw e (record {
          a = t;
          i = 0;
          is = omega arith;
          row = record {
            starts = λ j l. let none : j ≡ 0 = omega arith in rw (none, z) (e ∙ refl);
            counts = λ k l. absurd (omega arith);
          };
          stands = first_stands b t (record { count = 1; next = 1; breaks = 0; odd = 0; bits = b t % 2 }) (omega arith) (record { place = refl; bits = rw z refl; some = λ n. omega arith });
          few = omega arith;
          first = λ h. refl;
        }))

count_on_le : (n i : ℕ) → n ≤ i + 1 → count_after n ≤ i + 1 + 1
unfolding count_after
count_on_le n i l = ⊎_elim (λ (h : n < 64). rw (lt-ltb n 64 h) (omega arith)) (λ (h : 64 ≤ n). rw (le-ltb n 64 h) (omega arith)) (lt_or_le n 64)

count_on_is : (n i : ℕ) → i < 3 → n ≡ i + 1 → count_after n ≡ i + 1 + 1
unfolding count_after
count_on_is n i l e = let low : n < 64 = omega arith in rw (lt-ltb n 64 low) (omega arith)

next_count : (c k n : ℕ) → c ≡ n → n ≡ (k + 1) % 32 → c ≡ (k % 32 + 1) % 32
next_count c k n e f = e ∙ f ∙ omega arith

module _ (b : ℕ → ℕ) (a i t : ℕ) (at : a + (i + 1) ≡ t) (r : Row b a t) (run : Run) (o : Stands b a i run) (few : run.count ≤ i + 1) (first : i < 4 → run.count ≡ i + 1)
    (said : says_start (b (a + (i + 1))) ≡ eqb ((i + 1) % 32) 0) where
  starts_on_lem : (j : ℕ) → a + j < suc t → says_start (b (a + j)) ≡ eqb (j % 32) 0
  starts_on_lem j l =
      ⊎_elim (λ (h : a + j < t). r.starts j h) (λ (h : t ≤ a + j). let e : j ≡ i + 1 = omega arith in rw e said) (lt_or_le (a + j) t)

  -- where no later packet's fifth bit comes
  row_on : ((k : ℕ) → i + 1 ≢ 32 * (k + 1) + 4) → Row b a (suc t)
  row_on none =
      record {
        starts = starts_on_lem;
        counts = λ k l. ⊎_elim (λ (h : a + 32 * (k + 1) + 5 ≤ t). r.counts k h) (λ (h : t < a + 32 * (k + 1) + 5). absurd (none k (omega arith))) (le_or_lt (a + 32 * (k + 1) + 5) t);
      }

  heard_goes : (i + 1) % 32 ≢ 4 → Heard b (suc t) (starts_run run (b (a + (i + 1))))
  unfolding goes_on
  heard_goes d =
      let longer : Row b a (suc t) = row_on (λ k w. d (rw w (omega arith))) in
      let stands : Stands b a (i + 1) (starts_run run (b (a + (i + 1)))) = on b a (suc t) i longer (omega arith) run o in
      let is-on : starts_run run (b (a + (i + 1))) ≡ goes_on run (bits_after run.bits (run.next % 32) (b (a + (i + 1)) % 2)) =
      other_bit run (b (a + (i + 1))) o.some (said ∙ ap (λ (n : ℕ). eqb n 0) (sym o.place)) (λ (w : run.next % 32 ≡ 4). d (sym o.place ∙ w)) in
      record {
        a = a;
        i = i + 1;
        is = omega arith;
        row = longer;
        stands = stands;
        few = rw is-on (count_on_le run.count i few);
        first = λ (h : i + 1 < 4). rw is-on (count_on_is run.count i (omega arith) (first (omega arith)));
      }

  abbrev packet : ℕ
  packet = a + (i + 1) / 32 * 32

  few_fifth : 3 ≤ i → (run : Run) (bits : ℕ) → run.count ≤ i + 1 → (fifth_bit run bits).count ≤ i + 1 + 1
  unfolding fifth_bit first_of_two goes_on
  few_fifth l run bits h =
      pick (λ (r : Run). r.count ≤ i + 1 + 1) (ltb run.count 5 || not (eqb bits (run.next % 1024 / 32))) (first_of_two bits) (goes_on run bits) (omega arith) (count_on_le run.count i h)

  -- the first packet's count
  heard_first : i ≡ 3 → Heard b (suc t) (starts_run run (b (a + (i + 1))))
  heard_first three =
      let longer : Row b a (suc t) = row_on (λ k w. omega arith) in
      let w : (i + 1) % 32 ≡ 4 = rw three refl in
      record {
        a = a;
        i = i + 1;
        is = omega arith;
        row = longer;
        stands = on b a (suc t) i longer (omega arith) run o;
        few = rw (to_fifth b a (suc t) i longer (omega arith) run o w) (few_fifth (omega arith) run (count_at b packet) few);
        first = λ (h : i + 1 < 4). absurd (omega arith);
      }

  module _ (w : (i + 1) % 32 ≡ 4) (far : 4 ≤ i) where
    abbrev k : ℕ
    k = (i + 1) / 32 - 1

    packets : i + 1 ≡ 32 * (k + 1) + 4
    packets = omega arith

    starts_at : packet ≡ a + 32 * (k + 1)
    starts_at = omega arith

    -- a later packet's count that is one more
    heard_told : count_at b packet ≡ run.next % 1024 / 32 → Heard b (suc t) (starts_run run (b (a + (i + 1))))
    heard_told own =
        record {
          a = a;
          i = i + 1;
          is = omega arith;
          row = longer;
          stands = on b a (suc t) i longer (omega arith) run o;
          few = rw (to_fifth b a (suc t) i longer (omega arith) run o w) (few_fifth (omega arith) run (count_at b packet) few);
          first = λ (h : i + 1 < 4). absurd (omega arith);
        }
      where
        c : ℕ
        c = count_at b (a + 0)

        one_more : count_at b (a + 32 * (k + 1)) ≡ (count_at b (a + 32 * k) + 1) % 32
        one_more =
            let p = packets in
            let before : count_at b (a + 32 * k) ≡ (count_at b (a + 0) + k) % 32 = chain b a t r k (omega arith) in
            let is : (count_at b (a + 0) + (k + 1)) % 32 ≡ run.next % 1024 / 32 = own_count run.next (count_at b (a + 0)) i (k + 1) (count_lt b (a + 0)) (o.tag far) packets in
            ap (count_at b) (sym starts_at) ∙ own ∙ sym is ∙ rw before (omega arith)

        longer : Row b a (suc t)
        longer =
            record {
              starts = starts_on_lem;
              counts = λ m l.
                  ⊎_elim (λ (h : a + 32 * (m + 1) + 5 ≤ t). r.counts m h)
                  (λ (h : t < a + 32 * (m + 1) + 5). let p = packets in let e : m ≡ k = omega arith in rw e one_more)
                  (le_or_lt (a + 32 * (m + 1) + 5) t);
            }

    -- a later packet's count that is another: its packet is the first of a new row
    heard_anew : count_at b packet ≢ run.next % 1024 / 32 → Heard b (suc t) (starts_run run (b (a + (i + 1))))
    unfolding first_of_two fifth_bit
    heard_anew other = rw new_run heard
      where
        many : 5 ≤ run.count
        many = let m = o.many far in omega arith

        after_is : bits_after run.bits (run.next % 32) (b (a + (i + 1)) % 2) ≡ count_at b packet
        after_is =
            ap (λ (n : ℕ). bits_after run.bits n (b (a + (i + 1)) % 2)) o.place
            ∙ bits_on b packet run.bits ((i + 1) % 32) (b (a + (i + 1))) (omega arith)
            (λ (d : (i + 1) % 32 ≢ 0).
            let here : i / 32 * 32 ≡ (i + 1) / 32 * 32 = omega arith in
            let one : i % 32 + 1 ≡ (i + 1) % 32 = omega arith in
            o.bits ∙ ap (λ (n : ℕ). bits_from b (a + n) (min (i % 32 + 1) 5)) here ∙ ap (λ (n : ℕ). bits_from b packet (min n 5)) one)
            (λ (low : (i + 1) % 32 < 5). let v : a + (i + 1) ≡ packet + (i + 1) % 32 = omega arith in ap b v)
            ∙ ap (λ (n : ℕ). bits_from b packet (min (n + 1) 5)) w

        new_run : starts_run run (b (a + (i + 1))) ≡ first_of_two (count_at b packet)
        new_run =
            fifth_bit_lem run (b (a + (i + 1))) o.some (said ∙ ap (λ (n : ℕ). eqb n 0) (sym o.place)) (o.place ∙ w)
            ∙ ap (fifth_bit run) after_is
            ∙ rw (le-ltb run.count 5 many, ne_eqb (count_at b packet) (run.next % 1024 / 32) other) refl

        self : packet + 0 ≡ packet
        self = omega arith

        heard : Heard b (suc t) (first_of_two (count_at b packet))
        heard =
            record {
              a = packet;
              i = 4;
              is = let p = packets in omega arith;
              row = record {
                starts = λ j l.
                    let p = packets in
                    let e : packet + j ≡ a + (32 * (k + 1) + j) = omega arith in
                    let m : (32 * (k + 1) + j) % 32 ≡ j % 32 = omega arith in
                    ap (λ (n : ℕ). says_start (b n)) e ∙ starts_on_lem (32 * (k + 1) + j) (omega arith) ∙ ap (λ (n : ℕ). eqb n 0) m;
                counts = λ m l. let p = packets in absurd (omega arith);
              };
              stands = record {
                small = two_small (count_at b packet);
                place = omega arith;
                bits = ap (count_at b) (sym self);
                tag = λ (h : 4 ≤ 4). let low : count_at b packet < 32 = count_lt b packet in rw (ap (count_at b) self) (omega arith);
                some = λ n. omega arith;
                many = λ (h : 4 ≤ 4). omega arith;
              };
              few = omega arith;
              first = λ (h : 4 < 4). absurd (omega arith);
            }

  heard_on : Heard b (suc t) (starts_run run (b (a + (i + 1))))
  heard_on =
      ⊎_elim
      (λ (w : (i + 1) % 32 ≡ 4).
      ⊎_elim
      (λ (far : 4 ≤ i).
      ⊎_elim (λ (own : count_at b packet ≡ run.next % 1024 / 32). heard_told w far own) (λ (other : count_at b packet ≢ run.next % 1024 / 32). heard_anew w far other)
      (eq_or_ne (count_at b packet) (run.next % 1024 / 32)))
      (λ (near : i < 4). heard_first (omega arith))
      (le_or_lt 4 i))
      (λ (d : (i + 1) % 32 ≢ 4). heard_goes d)
      (eq_or_ne ((i + 1) % 32) 4)

-- a start not as due, or no run
off : (run : Run) (byte : ℕ) → (run.count ≡ 0) ⊎ (says_start byte ≡ not (eqb (run.next % 32) 0)) → starts_run run byte ≡ begun_packet byte
unfolding starts_run
off run byte =
    ⊎_elim (λ (none : run.count ≡ 0). rw (eq-eqb run.count 0 none) refl)
    (λ (e : says_start byte ≡ not (eqb (run.next % 32) 0)). go (says_start byte) (eqb (run.next % 32) 0) (eqb run.count 0) e)
  where
    go : (x d n : Bool) → x ≡ not d
        → cond (n || not ((x && d) || (not x && not d))) (begun_packet byte)
        (cond (eqb (run.next % 32) 4) (fifth_bit run (bits_after run.bits (run.next % 32) (byte % 2))) (goes_on run (bits_after run.bits (run.next % 32) (byte % 2))))
        ≡ begun_packet byte
    go x true n e = rw e (both n)
      where
        both : (n : Bool) → cond (n || true) (begun_packet byte)
            (cond (eqb (run.next % 32) 4) (fifth_bit run (bits_after run.bits (run.next % 32) (byte % 2))) (goes_on run (bits_after run.bits (run.next % 32) (byte % 2)))) ≡ begun_packet byte
        both true = refl
        both false = refl
    go x false n e = rw e (both n)
      where
        both : (n : Bool) → cond (n || true) (begun_packet byte)
            (cond (eqb (run.next % 32) 4) (fifth_bit run (bits_after run.bits (run.next % 32) (byte % 2))) (goes_on run (bits_after run.bits (run.next % 32) (byte % 2)))) ≡ begun_packet byte
        both true = refl
        both false = refl

heard : (b : ℕ → ℕ) (t : ℕ) → ((run_after b t).count ≡ 0) ⊎ Heard b t (run_after b t)
unfolding run_after run_on
heard b zero = inl refl
heard b (suc t) = ⊎_elim none some (heard b t)
  where
    anew : (run : Run) → starts_run run (b t) ≡ begun_packet (b t) → ((starts_run run (b t)).count ≡ 0) ⊎ Heard b (suc t) (starts_run run (b t))
    anew run e = rw e (begun_heard b t)

    none : (run_after b t).count ≡ 0 → ((starts_run (run_after b t) (b t)).count ≡ 0) ⊎ Heard b (suc t) (starts_run (run_after b t) (b t))
    none e = anew (run_after b t) (off (run_after b t) (b t) (inl e))

    some : Heard b t (run_after b t) → ((starts_run (run_after b t) (b t)).count ≡ 0) ⊎ Heard b (suc t) (starts_run (run_after b t) (b t))
    some h =
        let is = h.is in
        let at : h.a + (h.i + 1) ≡ t = omega arith in
        ⊎_elim
        (λ (said : says_start (b t) ≡ eqb ((run_after b t).next % 32) 0).
        inr (subst (λ (n : ℕ). Heard b (suc t) (starts_run (run_after b t) (b n))) at
        (heard_on b h.a h.i t at h.row (run_after b t) h.stands h.few h.first
        (ap (λ (n : ℕ). says_start (b n)) at ∙ said ∙ ap (λ (n : ℕ). eqb n 0) h.stands.place))))
        (λ (other : says_start (b t) ≡ not (eqb ((run_after b t).next % 32) 0)). anew (run_after b t) (off (run_after b t) (b t) (inr other)))
        (alike (says_start (b t)) (eqb ((run_after b t).next % 32) 0))

pub in_step_so : (b : ℕ → ℕ) (t : ℕ) → 64 ≤ (run_after b t).count → InStep b t
in_step_so b t l =
    ⊎_elim (λ (none : (run_after b t).count ≡ 0). absurd (omega arith))
    (λ (h : Heard b t (run_after b t)). let is = h.is in let few = h.few in record { a = h.a; enough = omega arith; row = h.row }) (heard b t)
