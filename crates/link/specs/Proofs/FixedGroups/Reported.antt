-- Every packet of a fixed group comes as sent, so every report is expected sure, and each report that is made is.
use Rattle.std.specs.Prelude.{◌≡◌, true, ℕ, suc, ◌+◌, ◌/◌, ◌<◌}
use Rattle.std.proofs.Math.Path.{refl, ap}
use Rattle.std.proofs.Common.{◌∙◌, ⊎_elim, arith}
use mathlib.Core.List.{List}
use Rattle.ground.specs.Counting.Laws.Tests.{every_all}
use Rattle.ground.specs.Table.{tabulate_ext}
use Rattle.packet.specs.Laws.Changes.{fixed_unchanged}
use Rattle.link.specs.Demand3.{Stands, Started, Time, own_run, standing}
use Rattle.link.specs.Demand3.Stands.{none_yet, reporting}
use Rattle.link.specs.FixedGroup.{AssumedFixed, ToldSure, sure_report}
use Rattle.link.specs.Link.{Damaged, Link, all_as_sent, epoch_frames, expected, kind_of, same_bytes, sent_to}
use Rattle.link.specs.Proofs.FixedGroups.Over.{fixed_over}
use Rattle.link.specs.Proofs.Judged.Reports.{same_self}
use Rattle.link.specs.Proofs.Over.{over}
use Rattle.link.specs.Running.{Moment}
use Rattle.link.specs.Sending.{Sending}

module _ (k : Link) (a : AssumedFixed k) where
  none_changed : k.sending.changes ≡ 0
  none_changed = ap (λ (s : Sending). s.changes) a.sends ∙ fixed_unchanged

  as_sent_lem : (i p : ℕ) → p < k.ports → k.came i p ≡ sent_to k i p
  as_sent_lem i p b =
      ⊎_elim (λ (e : k.came i p ≡ sent_to k i p). e)
      (λ (d : Damaged (kind_of k) k.sending.changes (sent_to k i p) (k.came i p)). absurd (let least = d.least in let most = d.most in let none = none_changed in omega (arith, least, most, none)))
      (a.lines.arrived i p b)

  all_as_sent_lem : (i : ℕ) → all_as_sent k i ≡ true
  unfolding all_as_sent
  all_as_sent_lem i =
      every_all k.ports (λ p. same_bytes (k.came i p) (sent_to k i p)) (λ p b. ap (λ (l : List ℕ). same_bytes l (sent_to k i p)) (as_sent_lem i p b) ∙ same_self (sent_to k i p))

  pub expected_sure : (i : ℕ) (out : List ℕ) → expected k i out ≡ sure_report k (suc i) out
  unfolding expected
  expected_sure i out = rw (all_as_sent_lem i) refl

  pub told_sure : (m₀ : Moment) → Started k m₀ → (at : Time k) → ToldSure k (standing k (own_run k m₀) at)
  told_sure m₀ o at = go (((over k (fixed_over k a)).promised m₀ o).always at)
    where
      go : Stands k (own_run k m₀) at → ToldSure k (standing k (own_run k m₀) at)
      go (none_yet e un t) = record { before = 0; many = 0; are = t }
      go (reporting e r) =
          record {
            before = suc (r.F / epoch_frames k);
            many = r.many;
            are =
                r.are
                ∙ tabulate_ext r.many (λ j. expected k (suc (r.F / epoch_frames k) + j) (k.output j)) (λ j. sure_report k (suc (suc (r.F / epoch_frames k) + j)) (k.output j))
                (λ j b. expected_sure (suc (r.F / epoch_frames k) + j) (k.output j));
          }
