-- The last sentence of demand 3: 'over the same tags, delays, first frames and port orders, client streams that differ in an epoch reported sure never come out alike'.
-- The idea: what the client sends moves no moment. So both links begin at the same one with the same foremost position, and at each later moment both have made as many reports; the report of the epoch in which the streams differ has been made on both, and a sure report's bytes determine the client's (Judged/Apart.antt).
use Rattle.std.specs.Prelude.{◌≡◌, refl, ◌⊎◌, ◌≢◌, get_or}
use Rattle.std.proofs.Math.Path.{sym, ap}
use Rattle.std.proofs.Common.{◌∙◌, subst}
use Rattle.std.proofs.Math.Logic.{⊎_elim, inl, inr}
use mathlib.Core.List.{List, [], ◌∷◌, ◌++◌, append_assoc, tail-eq_of_cons-eq}
use Prim.Native.Nat.{ℕ, suc, ◌+◌, ◌*◌, ◌/◌, ◌≤◌, ◌<◌}
use Rattle.std.proofs.Math.Nat.{mul-le-mul_right}
use native.Mathlib.Omega.{arith}
use Rattle.std.proofs.Math.ListN.{length, length-append}
use Rattle.ground.specs.Table.{get_or_tabulate, length_tabulate}
use Rattle.ground.specs.Truth.{eq_or_ne, le_or_lt}
use Rattle.judge.specs.Verdict.{SURE}
use Rattle.packet.specs.Kinds.{first_tag, frames}
use Rattle.packet.specs.Laws.Epochs.{one_epoch, start_after_lt}
use Rattle.packet.specs.Theorems.Tags.{frames_some}
use Rattle.step.specs.SentRuns.{start_from}
use Rattle.link.specs.Demand3.{FullyArrived, Reported, Time, ToldApart, no_report, report_at, standing}
use Rattle.link.specs.Proofs.Judged.Apart.{apart}
use Rattle.link.specs.Proofs.Laws.Lists.{append_apart, not_apart}
use Rattle.link.specs.Link.{Alike, AssumedOver, Link, SameIn, epoch_frames, expected, kind_of, road_of}
use Rattle.link.specs.Moments.{Beginning, NotAfter, Ready, Run, Unready, coming, next_at}
use Rattle.link.specs.Road.{times}
use Rattle.link.specs.Told.{Told}
use Rattle.link.specs.Proofs.Transport.Times.{coming_is}

stepped_too : (kind kind' e e' f f' x x' : ℕ) → kind ≡ kind' → e ≡ e' → f ≡ f' → x ≡ x'
    → start_from kind (first_tag kind e) f + frames kind * 2 ≤ x → start_from kind' (first_tag kind' e') f' + frames kind' * 2 ≤ x'
stepped_too kind kind' e e' f f' x x' hk he hf hx w = rw (← hk, ← he, ← hf, ← hx) w

near_too : (kind kind' W W' x x' y y' : ℕ) → kind ≡ kind' → W ≡ W' → x ≡ x' → y ≡ y' → x + frames kind ≤ y + W → x' + frames kind' ≤ y' + W'
near_too kind kind' W W' x x' y y' hk hw hx hy w = rw (← hk, ← hw, ← hx, ← hy) w

come_too : (kind kind' i x x' : ℕ) → kind ≡ kind' → x ≡ x' → suc i * frames kind ≤ x → suc i * frames kind' ≤ x'
come_too kind kind' i x x' hk hx w = rw (← hk, ← hx) w

module _ (k j : Link) (l : Alike k j) (n : k.ports ≡ j.ports) where
  position : (t : ℕ) (rest : List ℕ) (p : ℕ) → p < k.ports → coming (road_of k) t rest p ≡ coming (road_of j) t rest p
  unfolding road_of next_at
  position t rest p b =
      let c : p < j.ports = rw n at b in
      coming_is (road_of k) t rest p b ∙ rw (l.delay p b, l.first p b) (sym (coming_is (road_of j) t rest p c))

  -- what is ready on one link is on the other
  ready_too : (t : ℕ) (rest : List ℕ) → Ready (road_of k) (coming (road_of k) t rest) → Ready (road_of j) (coming (road_of j) t rest)
  unfolding road_of
  ready_too t rest y =
      record {
        stepped = λ q b.
            (let c : q < k.ports = rw (sym n) at b in
            stepped_too (kind_of k) (kind_of j) k.sending.first j.sending.first (k.first q) (j.first q) (coming (road_of k) t rest q) (coming (road_of j) t rest q)
            l.kind l.epoch (l.first q c) (position t rest q c) (y.stepped q c));
        near = λ p q hp hq.
            (let cp : p < k.ports = rw (sym n) at hp in
            let cq : q < k.ports = rw (sym n) at hq in
            near_too (kind_of k) (kind_of j) k.window j.window (coming (road_of k) t rest p) (coming (road_of j) t rest p) (coming (road_of k) t rest q) (coming (road_of j) t rest q)
            l.kind l.window (position t rest p cp) (position t rest q cq) (y.near p q cp cq));
      }

back : (k j : Link) → Alike k j → k.ports ≡ j.ports → Alike j k
back k j l n =
    record {
      kind = sym l.kind;
      epoch = sym l.epoch;
      payload = sym l.payload;
      window = sym l.window;
      delay = λ p b. sym (l.delay p (rw (sym n) at b));
      first = λ p b. sym (l.first p (rw (sym n) at b));
      order = λ t. sym (l.order t);
    }

-- a moment that is not before another
abbrev NotSooner : ℕ → List ℕ → ℕ → List ℕ → Type 0
NotSooner t done u other = (t < u → ⊥) × (t ≡ u → length done < length other → ⊥)

-- A link's beginning is not before the other's.
module _ (k j : Link) (l : Alike k j) (n : k.ports ≡ j.ports) (rk rj : Run) (F G : ℕ) (bk : Beginning (road_of k) rk F) (bj : Beginning (road_of j) rj G) where
  not_earlier : NotAfter (road_of j) bk.time (bk.done ++ (bk.port ∷ [])) bj.time bj.done → ⊥
  unfolding road_of
  not_earlier na =
      bj.unready bk.time (bk.done ++ (bk.port ∷ [])) bk.rest
      (sym (l.order bk.time) ∙ bk.is_order ∙ sym (append_assoc bk.done (bk.port ∷ []) bk.rest)) na
      (ready_too k j l n bk.time bk.rest bk.ready)

  no_sooner : NotSooner bk.time bk.done bj.time bj.done
  no_sooner = (
    λ h. not_earlier (inl h),
    λ e h. (let long : length (bk.done ++ (bk.port ∷ [])) ≡ length bk.done + 1 = length-append bk.done (bk.port ∷ []) in not_earlier (inr (e, omega arith))),
  )

-- The two began at the same moment, with the same foremost position.
module _ (k j : Link) (l : Alike k j) (n : k.ports ≡ j.ports) (rk rj : Run) (F G : ℕ) (bk : Beginning (road_of k) rk F) (bj : Beginning (road_of j) rj G) where
  one_way : NotSooner bk.time bk.done bj.time bj.done
  one_way = no_sooner k j l n rk rj F G bk bj

  other_way : NotSooner bj.time bj.done bk.time bk.done
  other_way = no_sooner j k (back k j l n) (sym n) rj rk G F bj bk

  same_time : bk.time ≡ bj.time
  same_time = not_apart bk.time bj.time one_way.0 other_way.0

  same_done : length bk.done ≡ length bj.done
  same_done = not_apart (length bk.done) (length bj.done) (one_way.1 same_time) (other_way.1 (sym same_time))

  same_rest : bk.rest ≡ bj.rest
  unfolding road_of
  same_rest =
      let lk : length (bk.done ++ (bk.port ∷ [])) ≡ length bk.done + 1 = length-append bk.done (bk.port ∷ []) in
      let lj : length (bj.done ++ (bj.port ∷ [])) ≡ length bj.done + 1 = length-append bj.done (bj.port ∷ []) in
      let d = same_done in
      (append_apart (bk.done ++ (bk.port ∷ [])) (bj.done ++ (bj.port ∷ [])) bk.rest bj.rest (omega arith)
      (append_assoc bk.done (bk.port ∷ []) bk.rest ∙ sym bk.is_order ∙ l.order bk.time ∙ ap j.order same_time ∙ bj.is_order ∙ sym (append_assoc bj.done (bj.port ∷ []) bj.rest))
      ).1

  there : (p : ℕ) → p < k.ports → coming (road_of k) bk.time bk.rest p ≡ coming (road_of j) bj.time bj.rest p
  there p b = position k j l n bk.time bk.rest p b ∙ ap (λ (t : ℕ). coming (road_of j) t bk.rest p) same_time ∙ ap (λ (q : List ℕ). coming (road_of j) bj.time q p) same_rest

  same_foremost : F ≡ G
  unfolding road_of
  same_foremost =
      let fk = bk.foremost in
      let fj = bj.foremost in
      let bp : fj.port < k.ports = rw (sym n) at fj.below in
      let cp : fk.port < j.ports = rw n at fk.below in
      let a : coming (road_of k) bk.time bk.rest fk.port ≡ F + 1 = fk.is in
      let b : coming (road_of j) bj.time bj.rest fj.port ≡ G + 1 = fj.is in
      let c : coming (road_of k) bk.time bk.rest fj.port ≤ F + 1 = fk.most fj.port bp in
      let d : coming (road_of j) bj.time bj.rest fk.port ≤ G + 1 = fj.most fk.port cp in
      let e = there fk.port fk.below in
      let f = there fj.port bp in
      omega arith

-- At the same moment as many frames have come.
module _ (k j : Link) (l : Alike k j) (n : k.ports ≡ j.ports) (at : Time k) (bt : Time j) (same-t : at.t ≡ bt.t) (same_rest : at.rest ≡ bt.rest) where
  place : (p : ℕ) → p < k.ports → coming (road_of k) at.t at.rest p ≡ coming (road_of j) bt.t bt.rest p
  place p b = position k j l n at.t at.rest p b ∙ ap (λ (t : ℕ). coming (road_of j) t at.rest p) same-t ∙ ap (λ (q : List ℕ). coming (road_of j) bt.t q p) same_rest

  arrived_too : (i : ℕ) → FullyArrived k at i → FullyArrived j bt i
  arrived_too i all p b =
      let c : p < k.ports = rw (sym n) at b in
      come_too (kind_of k) (kind_of j) i (coming (road_of k) at.t at.rest p) (coming (road_of j) bt.t bt.rest p) l.kind (place p c) (all p c)

-- So as many reports have been made on both.
module _ (k j : Link) (l : Alike k j) (n : k.ports ≡ j.ports) (rk rj : Run) (at : Time k) (bt : Time j) (same-t : at.t ≡ bt.t) (same_rest : at.rest ≡ bt.rest) (ok : Reported k rk at) (oj : Reported j rj bt) where
  F-same : ok.F ≡ oj.F
  F-same = same_foremost k j l n rk rj ok.F oj.F ok.beginning oj.beginning

  g_same : suc (ok.F / epoch_frames k) ≡ suc (oj.F / epoch_frames j)
  g_same = ap (λ (q : ℕ). suc (q / epoch_frames k)) F-same ∙ ap (λ (q : ℕ). suc (oj.F / frames q)) l.kind

  not_fewer : ok.many < oj.many → ⊥
  not_fewer h =
      ok.not_yet
      (arrived_too j k (back k j l n) (sym n) bt at (sym same-t) (sym same_rest) (suc (suc (ok.F / epoch_frames k) + ok.many))
      (subst (λ (g : ℕ). FullyArrived j bt (suc (g + ok.many))) (sym g_same) (oj.arrived ok.many h)))

  not_more : oj.many < ok.many → ⊥
  not_more h =
      oj.not_yet
      (subst (λ (g : ℕ). FullyArrived j bt (suc (g + oj.many))) g_same
      (arrived_too k j l n at bt same-t same_rest (suc (suc (ok.F / epoch_frames k) + oj.many)) (ok.arrived oj.many h)))

  many_same : ok.many ≡ oj.many
  many_same = not_apart ok.many oj.many not_fewer not_more

  -- client streams that differ in an epoch that either run reports sure: both have made that report, and the two differ
  pub never : (ak : AssumedOver k) (aj : AssumedOver j) (m : ℕ) → m < ok.many
      → ((report_at (standing k rk at) m).mark ≡ SURE) ⊎ ((report_at (standing j rj bt) m).mark ≡ SURE)
      → (SameIn (suc (suc (ok.F / epoch_frames k) + m)) k j → ⊥) → ToldApart (standing k rk at) (standing j rj bt) m
  never ak aj m b sure other =
      record {
        here = rw (ap length ok.are ∙ length_tabulate ok.many (λ q. expected k (suc (ok.F / epoch_frames k) + q) (k.output q))) b;
        there = rw (ap length oj.are ∙ length_tabulate oj.many (λ q. expected j (suc (oj.F / epoch_frames j) + q) (j.output q))) c;
        differ = λ same. other (apart k j ak aj l (suc (ok.F / epoch_frames k) + m) (k.output m) (j.output m) (rw (one, two) at sure) (rw (one, two) at same));
      }
    where
      c : m < oj.many
      c = rw many_same at b

      one : report_at (standing k rk at) m ≡ expected k (suc (ok.F / epoch_frames k) + m) (k.output m)
      one =
          ap (λ (t : List Told). get_or t m no_report) ok.are
          ∙ get_or_tabulate ok.many (λ q. expected k (suc (ok.F / epoch_frames k) + q) (k.output q)) m no_report b

      two : report_at (standing j rj bt) m ≡ expected j (suc (ok.F / epoch_frames k) + m) (j.output m)
      two =
          ap (λ (t : List Told). get_or t m no_report) oj.are
          ∙ get_or_tabulate oj.many (λ q. expected j (suc (oj.F / epoch_frames j) + q) (j.output q)) m no_report c
          ∙ ap (λ (g : ℕ). expected j (g + m) (j.output m)) (sym g_same)

-- Of two parts of one order, the ports that are still to be served after the longer one.

more : (q : ℕ) (b d : List ℕ) → times q d ≤ times q (b ++ d)
more q [] d = omega arith
more q (y ∷ b) d = let w = more q b d in omega arith

fewer : (q : ℕ) (a c b d : List ℕ) → length a ≤ length b → a ++ c ≡ b ++ d → times q d ≤ times q c
fewer q [] c b d h e = rw e (more q b d)
fewer q (x ∷ a) c [] d h e = absurd (omega arith)
fewer q (x ∷ a) c (y ∷ b) d h e = fewer q a c b d (omega arith) (tail-eq_of_cons-eq e)

-- A link has begun by the moment at which its first report's epoch has fully arrived.
module _ (k : Link) (ak : AssumedOver k) (rk : Run) (at : Time k) (ok : Reported k rk at) (m : ℕ) (some : m < ok.many) where
  abbrev b : Beginning (road_of k) rk ok.F
  b = ok.beginning

  -- the ports served by then
  abbrev served : List ℕ
  served = b.done ++ (b.port ∷ [])

  abbrev front : ℕ
  front = b.foremost.port

  in_order_lem : k.order b.time ≡ served ++ b.rest
  unfolding road_of
  in_order_lem = b.is_order ∙ sym (append_assoc b.done (b.port ∷ []) b.rest)

  -- it has come further since
  further : next_at (road_of k) b.time b.rest front < next_at (road_of k) at.t at.rest front
  unfolding road_of
  further =
      let is : coming (road_of k) b.time b.rest front ≡ ok.F + 1 = b.foremost.is in
      let come = ok.arrived m some front b.foremost.below in
      let after = start_after_lt (kind_of k) ok.F in
      let l = frames_some (kind_of k) in
      let w = coming_is (road_of k) b.time b.rest front b.foremost.below in
      let v = coming_is (road_of k) at.t at.rest front b.foremost.below in
      let e = one_epoch (suc (suc (ok.F / epoch_frames k) + m)) (epoch_frames k) in
      let f = mul-le-mul_right (epoch_frames k) (reach (ok.F / epoch_frames k)) in
      omega arith
    where
      reach : (e : ℕ) → suc e ≤ suc (suc e + m)
      reach e = omega arith

  pub begun_before : NotAfter (road_of k) b.time served at.t at.done
  unfolding next_at road_of
  begun_before = ⊎_elim same_or_sooner (λ (h : b.time < at.t). inl h) (le_or_lt at.t b.time)
    where
      same_or_sooner : at.t ≤ b.time → NotAfter (road_of k) b.time served at.t at.done
      same_or_sooner h = ⊎_elim same sooner (eq_or_ne at.t b.time)
        where
          sooner : at.t ≢ b.time → NotAfter (road_of k) b.time served at.t at.done
          sooner d =
              let one : times front b.rest ≤ times front (k.order b.time) = rw in_order_lem (more front served b.rest) in
              let all = ak.lines.once b.time front b.foremost.below in
              let w = further in
              absurd (omega arith)

          same : at.t ≡ b.time → NotAfter (road_of k) b.time served at.t at.done
          same e = ⊎_elim (λ (n : length served ≤ length at.done). inr (sym e, n)) (λ (n : length at.done < length served). absurd (late n)) (le_or_lt (length served) (length at.done))
            where
              late : length at.done < length served → ⊥
              late n =
                  let one = fewer front at.done at.rest served b.rest (omega arith) (sym at.is_order ∙ ap k.order e ∙ in_order_lem) in
                  let w = further in
                  omega arith

-- So has the other link.
module _ (k j : Link) (l : Alike k j) (n : k.ports ≡ j.ports) (ak : AssumedOver k) (rk : Run) (at : Time k) (bt : Time j) (same-t : at.t ≡ bt.t) (same_rest : at.rest ≡ bt.rest)
    (ok : Reported k rk at) (m : ℕ) (some : m < ok.many) where
  done_long : length at.done ≡ length bt.done
  done_long =
      let a : length (k.order at.t) ≡ length at.done + length at.rest = ap length at.is_order ∙ length-append at.done at.rest in
      let b : length (j.order bt.t) ≡ length bt.done + length bt.rest = ap length bt.is_order ∙ length-append bt.done bt.rest in
      let c : length (k.order at.t) ≡ length (j.order bt.t) = ap length (l.order at.t ∙ ap j.order same-t) in
      let d : length at.rest ≡ length bt.rest = ap length same_rest in
      omega arith

  pub ready_by : Unready (road_of j) bt.t bt.done → ⊥
  unfolding road_of
  ready_by un =
      let b = ok.beginning in
      let done : List ℕ = b.done ++ (b.port ∷ []) in
      un b.time done b.rest (sym (l.order b.time) ∙ b.is_order ∙ sym (append_assoc b.done (b.port ∷ []) b.rest))
      (⊎_elim (λ (h : b.time < at.t). inl (rw (← same-t) h)) (λ (h : (b.time ≡ at.t) × (length done ≤ length at.done)). inr (h.0 ∙ same-t, rw (← done_long) h.1))
      (begun_before k ak rk at ok m some))
      (ready_too k j l n b.time b.rest b.ready)

-- a run has one beginning
pub one_beginning : (k : Link) (run : Run) (F G : ℕ) → Beginning (road_of k) run F → Beginning (road_of k) run G → F ≡ G
one_beginning k run F G b c =
    same_foremost k k (record { kind = refl; epoch = refl; payload = refl; window = refl; delay = λ p h. refl; first = λ p h. refl; order = λ t. refl }) refl run run F G b c
