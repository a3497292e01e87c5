-- Demand 3 over any sending side: it holds of every link with what is let be so.
use Rattle.std.specs.Prelude.{◌≡◌, ◌⊎◌, List, []}
use Rattle.std.proofs.Common.{sym, ◌∙◌}
use Rattle.std.proofs.Math.Path.{ap, subst}
use Prim.Native.Nat.{ℕ, suc, ◌+◌, ◌-◌, ◌*◌, ◌/◌, ◌≤◌, ◌<◌}
use Rattle.std.proofs.Math.Nat.{mul-le-mul_right}
use native.Mathlib.Omega.{arith}
use Rattle.packet.specs.Kinds.{first_tag}
use Rattle.packet.specs.Laws.Epochs.{one_epoch, start_after_lt}
use Rattle.packet.specs.Theorems.Tags.{frames_some}
use Rattle.ground.specs.Table.{tabulate, tabulate_ext}
use Rattle.judge.specs.Verdict.{SURE}
use Rattle.step.specs.Theorems.Run.{start_from_lem}
use Rattle.link.specs.Proofs.Alike.{never, ready_by}
use Rattle.link.specs.Proofs.Contents.{report_after}
use Rattle.link.specs.Demand3.{Demand3, NeverAlike, NoneDue, Reported, Stands, Started, Time, ToldApart, UntilBegun, own_run, report_at, standing}
use Rattle.link.specs.Demand3.Stands.{none_yet, reporting}
use Rattle.link.specs.Proofs.Judged.Apart.{same_ports}
use Rattle.link.specs.Proofs.Judged.Fairness.{fair}
use Rattle.link.specs.Proofs.Judged.Reports.{judged}
use Rattle.link.specs.Link.{Alike, AssumedOver, Link, SameIn, epoch_frames, expected, kind_of, road_of}
use Rattle.link.specs.Moments.{Beginning, coming}
use Rattle.link.specs.Running.{Moment, fresh, has_begun}
use Rattle.link.specs.Sending.{Covered, epoch_start}
use Rattle.link.specs.Proofs.Standing.{Before}
use Rattle.link.specs.Told.{Told}
use Rattle.link.specs.Proofs.Transport.Answers.{answers_are}
use Rattle.link.specs.Proofs.Transport.EachCall.{calls_do, says}
use Rattle.link.specs.Proofs.Transport.Fetches.{fetch_answered}
use Rattle.link.specs.Proofs.Transport.Start.{start}
use Rattle.link.specs.Proofs.Transport.Times.{CallsDo, Phase, begun_by, come_ready, phase}
use Rattle.link.specs.Proofs.Transport.Times.Phase.{before, first, later}

module _ (k : Link) (a : AssumedOver k) where
  s : CallsDo (road_of k)
  s = calls_do (road_of k) (fair k a)

  module _ (m₀ : Moment) (fresh_start : Before (road_of k) m₀ k.first) where
    -- the epochs from the first one to start after the foremost position on start after every port's first frame, so that all slots that take part reach a port
    from_then : (F : ℕ) → Beginning (road_of k) (own_run k m₀) F → (j : ℕ) → Covered k.sending (suc (F / epoch_frames k) + j) k.ports k.pairing
    unfolding road_of
    from_then F b j = a.covered (suc (F / epoch_frames k) + j) (late (F / epoch_frames k) (start_after_lt (kind_of k) F))
      where
        front : a.earliest ≤ F
        front =
            let p : ℕ = b.foremost.port in
            let below : p < k.ports = b.foremost.below in
            let l = frames_some (kind_of k) in
            let w = a.not_before p below in
            let s = (start_from_lem (kind_of k) (first_tag (kind_of k) k.sending.first) (k.first p)).from in
            let r = b.ready.stepped p below in
            let e = b.foremost.is in
            omega arith

        late : (e : ℕ) → F < suc e * epoch_frames k → a.earliest < epoch_start (kind_of k) (suc e + j)
        late e h = let f = front in let m = mul-le-mul_right (epoch_frames k) (plus e) in omega arith
          where
            plus : (e : ℕ) → suc e ≤ suc e + j
            plus e = omega arith

    told_as : (F i : ℕ) (told : List Told) → Beginning (road_of k) (own_run k m₀) F → told ≡ tabulate (i - suc (F / epoch_frames k)) (λ j. report_after (road_of k) (suc (F / epoch_frames k) + j) (k.output j))
        → told ≡ tabulate (i - suc (F / epoch_frames k)) (λ j. expected k (suc (F / epoch_frames k) + j) (k.output j))
    told_as F i told b e =
        e
        ∙ tabulate_ext (i - suc (F / epoch_frames k)) (λ j. report_after (road_of k) (suc (F / epoch_frames k) + j) (k.output j)) (λ j. expected k (suc (F / epoch_frames k) + j) (k.output j))
        (λ j l. judged k a (suc (F / epoch_frames k) + j) (from_then F b j) (k.output j))

    -- At every moment the run is in one of three phases (`phase`): before the beginning, in the first epoch, which is gathered and not reported, or later, when all epochs before the i-th have been reported and a port owes the i-th.
    stands : (at : Time k) → Stands k (own_run k m₀) at
    unfolding road_of
    stands at = go (phase (road_of k) m₀ (fair k a) s fresh_start at.t at.done at.rest at.is_order)
      where
        go : Phase (road_of k) m₀ at.t at.done (standing k (own_run k m₀) at) (coming (road_of k) at.t at.rest) → Stands k (own_run k m₀) at
        go (before b un) = none_yet b.begun un b.told
        go (first F b since c) =
            reporting c.open_at.begun
            (record {
              F = F;
              beginning = b;
              many = 0;
              are = c.told;
              arrived = λ j h. absurd (omega arith);
              not_yet = λ all. (let w = all c.owes.port c.owes.below in let v = c.owes.owes in absurd (earlier (F / epoch_frames k) (coming (road_of k) at.t at.rest c.owes.port) w v));
            })
          where
            earlier : (e x : ℕ) → suc (suc (suc e + 0)) * epoch_frames k ≤ x → x < suc e * epoch_frames k + epoch_frames k → ⊥
            earlier e x w v =
                let one = one_epoch (suc (suc e)) (epoch_frames k) in
                let two = one_epoch (suc e) (epoch_frames k) in
                let z : suc (suc (suc e + 0)) * epoch_frames k ≡ suc (suc (suc e)) * epoch_frames k = ap (λ (n : ℕ). n * epoch_frames k) (omega arith) in
                omega arith
        go (later F i b since c o) =
            reporting c.open_at.begun
            (record {
              F = F;
              beginning = b;
              many = i - suc (F / epoch_frames k);
              are = told_as F i (standing k (own_run k m₀) at).told b c.told;
              arrived = λ j h p hp. (let w = c.within p hp in come j (coming (road_of k) at.t at.rest p) h w);
              not_yet = λ all. (let w = all o.port o.below in let v = o.owes in absurd (next (coming (road_of k) at.t at.rest o.port) w v));
            })
          where
            come : (j x : ℕ) → j < i - suc (F / epoch_frames k) → suc i * epoch_frames k ≤ x → suc (suc (suc (F / epoch_frames k) + j)) * epoch_frames k ≤ x
            come j x h w =
                let le : suc (suc (suc (F / epoch_frames k) + j)) ≤ suc i = omega arith in
                let m = mul-le-mul_right (epoch_frames k) le in
                omega arith

            next : (x : ℕ) → suc (suc (suc (F / epoch_frames k) + (i - suc (F / epoch_frames k)))) * epoch_frames k ≤ x → x < suc i * epoch_frames k + epoch_frames k → ⊥
            next x w v =
                let g = c.come in
                let z : suc (suc (suc (F / epoch_frames k) + (i - suc (F / epoch_frames k)))) * epoch_frames k ≡ suc (suc i) * epoch_frames k = ap (λ (n : ℕ). n * epoch_frames k) (omega arith) in
                let one = one_epoch (suc i) (epoch_frames k) in
                omega arith

  module _ (m₀ : Moment) (o : Started k m₀) where
    pub from_start : Before (road_of k) m₀ k.first
    unfolding road_of
    from_start = subst (λ (m : Moment). Before (road_of k) m k.first) (sym o.is) (start (road_of k) (fair k a) o.hold o.restore o.hold_times o.restore_times o.rows o.store o.rows_long o.store_long)

    no_answer : m₀.answers ≡ []
    unfolding fresh
    no_answer = ap (λ (m : Moment). m.answers) o.is

    -- the next fetch is answered 0 and says that none is due
    out_of : (at : Time k) → NoneDue k (standing k (own_run k m₀) at)
    unfolding road_of
    out_of at = go (phase (road_of k) m₀ (fair k a) s from_start at.t at.done at.rest at.is_order)
      where
        here : ℕ → ℕ
        here = coming (road_of k) at.t at.rest

        go : Phase (road_of k) m₀ at.t at.done (standing k (own_run k m₀) at) (coming (road_of k) at.t at.rest)
            → NoneDue k (standing k (own_run k m₀) at)
        go (before b un) = (fetch_answered (road_of k) (fair k a) (standing k (own_run k m₀) at) b.lined, s.before_none (standing k (own_run k m₀) at) here b)
        go (first F b since c) = (fetch_answered (road_of k) (fair k a) (standing k (own_run k m₀) at) c.open_at.lined, s.first_none (standing k (own_run k m₀) at) (suc (F / epoch_frames k)) here c)
        go (later F i b since c o) = (fetch_answered (road_of k) (fair k a) (standing k (own_run k m₀) at) c.open_at.lined, s.later_none (standing k (own_run k m₀) at) (suc (F / epoch_frames k)) i here c o)

  -- receiving has not begun exactly where up to the moment not all ports were ready
  pub until_begun : (m₀ : Moment) → Started k m₀ → (at : Time k) → UntilBegun k (own_run k m₀) at
  unfolding road_of
  until_begun m₀ o at = go (phase (road_of k) m₀ (fair k a) s (from_start m₀ o) at.t at.done at.rest at.is_order)
    where
      none : (n : ℕ) → n ≡ 1 → n ≡ 0 → ⊥
      none n e z = omega arith

      go : Phase (road_of k) m₀ at.t at.done (standing k (own_run k m₀) at) (coming (road_of k) at.t at.rest) → UntilBegun k (own_run k m₀) at
      go (before b un) = record { unready = λ z. un; not_begun = λ w. b.begun }
      go (first F b since c) =
          record {
            unready = λ z. absurd (none (has_begun (standing k (own_run k m₀) at)) c.open_at.begun z);
            not_begun = λ w. absurd (come_ready (road_of k) m₀ F b at.t at.done since w);
          }
      go (later F i b since c o) =
          record {
            unready = λ z. absurd (none (has_begun (standing k (own_run k m₀) at)) c.open_at.begun z);
            not_begun = λ w. absurd (come_ready (road_of k) m₀ F b at.t at.done since w);
          }

  always_stands : (m₀ : Moment) → Started k m₀ → (at : Time k) → Stands k (own_run k m₀) at
  always_stands m₀ o at = stands m₀ (from_start m₀ o) at

-- its last sentence
differ_too : (k j : Link) → AssumedOver k → AssumedOver j → Alike k j → NeverAlike k j
differ_too k j ak aj l = record { never = differ }
  where
    differ : (mk mj : Moment) → Started k mk → Started j mj → (at : Time k) (bt : Time j) → at.t ≡ bt.t → at.rest ≡ bt.rest
        → (ok : Reported k (own_run k mk) at) (m : ℕ) → m < ok.many
        → ((report_at (standing k (own_run k mk) at) m).mark ≡ SURE) ⊎ ((report_at (standing j (own_run j mj) bt) m).mark ≡ SURE)
        → (SameIn (suc (suc (ok.F / epoch_frames k) + m)) k j → ⊥)
        → ToldApart (standing k (own_run k mk) at) (standing j (own_run j mj) bt) m
    differ mk mj sk sj at bt t rest ok m b sure other = go (always_stands j aj mj sj bt)
      where
        go : Stands j (own_run j mj) bt → ToldApart (standing k (own_run k mk) at) (standing j (own_run j mj) bt) m
        go (none_yet n un told) = absurd (ready_by k j l (same_ports k j ak aj l) ak (own_run k mk) at bt t rest ok m b un)
        go (reporting n oj) = never k j l (same_ports k j ak aj l) (own_run k mk) (own_run j mj) at bt t rest ok oj ak aj m b sure other

pub over : (k : Link) → AssumedOver k → Demand3 k
unfolding road_of
over k a =
    record {
      promised = λ m₀ o.
          record {
            begins_within = begun_by (road_of k) m₀ (fair k a) (s k a) (from_start k a m₀ o);
            always = always_stands k a m₀ o;
            answered = λ at. answers_are (road_of k) m₀ (fair k a) (s k a) (says (road_of k) (fair k a)) (from_start k a m₀ o) (no_answer k a m₀ o) at.t at.done at.rest at.is_order;
          };
      fetched_out = out_of k a;
      never_alike = λ j aj l. differ_too k j a aj l;
    }
