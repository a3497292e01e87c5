-- Each report of a link is the one to come: sure with the client's bytes where all ruling packets came as sent, and otherwise held, with none.
use Rattle.std.specs.Prelude.{◌≡◌, Bool, ℕ, suc, ◌<◌, eqb, drop, length}
use Rattle.std.proofs.Math.Path.{refl}
use Rattle.std.proofs.Common.{◌∙◌, sym, ap, ⊎_elim, true≢false, arith, eq-eqb}
use Rattle.std.proofs.Math.Bool.{true, false, cond}
use mathlib.Core.List.{List, [], ◌∷◌}
use Rattle.ground.specs.Counting.Laws.Tests.{every_at, every_lacks}
use Rattle.ground.specs.Finite.{same_bytes_lem}
use Rattle.ground.specs.Truth.{and-true}
use Rattle.judge.specs.declared.seen.Seen.{Seen}
use Rattle.judge.specs.Theorems.Held.{refused}
use Rattle.judge.specs.Verdict.{HELD, SURE, judge_of}
use Rattle.link.specs.Proofs.Contents.{all_seen_after, frames_from, number_of, report_after}
use Rattle.link.specs.Proofs.Judged.Seen.{number_of_lem, seen_damaged}
use Rattle.link.specs.Proofs.Judged.Sure.{frames_are, sure}
use Rattle.link.specs.Link.{AssumedOver, Damaged, Link, all_as_sent, client_bytes, epoch_frames, expected, kind_of, road_of, same_bytes, sent_to}
use Rattle.link.specs.Sending.{Covered, epoch_number, epoch_start}
use Rattle.link.specs.Told.{Told}

pub same_self : (l : List ℕ) → same_bytes l l ≡ true
same_self [] = refl
same_self (k ∷ l) = and-true (eqb k k) (same_bytes l l) (eq-eqb k k refl) (same_self l)

told_is : (e d m o : ℕ) (b c out : List ℕ) → e ≡ d → m ≡ o → b ≡ c
    → ◌≡◌ {A = Told} (record { epoch = e; mark = m; bytes = b; rest = drop (length b) out }) (record { epoch = d; mark = o; bytes = c; rest = drop (length c) out })
told_is e d m o b c out pe pm pb = rw (pe, pm, pb) refl

module _ (k : Link) (a : AssumedOver k) (i : ℕ) (covered : Covered k.sending i k.ports k.pairing) (out : List ℕ) where
  abbrev number : ℕ
  number = epoch_number (kind_of k) k.sending.first (suc i)

  abbrev ports : List Seen
  ports = all_seen_after (road_of k) i

  -- the report of an epoch by its mark and its bytes
  report_is : (mark : ℕ) (bytes : List ℕ) → judge_of (kind_of k) ports k.ports ≡ mark
      → cond (eqb mark HELD) [] (frames_from (road_of k) ports (epoch_start (kind_of k) (suc i)) (epoch_frames k)) ≡ bytes
      → report_after (road_of k) i out ≡ record { epoch = number; mark = mark; bytes = bytes; rest = drop (length bytes) out }
  unfolding report_after road_of
  report_is mark bytes j e =
      told_is (number_of (road_of k) (suc i)) number (judge_of (kind_of k) ports k.ports) mark
      (cond (eqb (judge_of (kind_of k) ports k.ports) HELD) [] (frames_from (road_of k) ports (epoch_start (kind_of k) (suc i)) (epoch_frames k))) bytes out
      (number_of_lem k (suc i)) j
      (ap (λ (m : ℕ). cond (eqb m HELD) [] (frames_from (road_of k) ports (epoch_start (kind_of k) (suc i)) (epoch_frames k))) j ∙ e)

  -- one packet damaged
  held : (p : ℕ) → p < k.ports → same_bytes (k.came i p) (sent_to k i p) ≡ false → judge_of (kind_of k) ports k.ports ≡ HELD
  held p b e =
      ⊎_elim (λ (w : k.came i p ≡ sent_to k i p). absurd (true≢false (sym (rw w (same_self (sent_to k i p))) ∙ e)))
      (λ (d : Damaged (kind_of k) k.sending.changes (sent_to k i p) (k.came i p)). refused (kind_of k) ports k.ports p b (seen_damaged k a i p b d))
      (a.lines.arrived i p b)

  by_test : (b : Bool) → all_as_sent k i ≡ b
      → report_after (road_of k) i out ≡ record { epoch = number; mark = cond b SURE HELD; bytes = cond b (client_bytes k (suc i)) []; rest = drop (length (cond b (client_bytes k (suc i)) [])) out }
  unfolding all_as_sent
  by_test true e =
      let sent : (p : ℕ) → p < k.ports → k.came i p ≡ sent_to k i p =
      (λ p b. same_bytes_lem (k.came i p) (sent_to k i p) (every_at k.ports (λ q. same_bytes (k.came i q) (sent_to k i q)) e p b)) in
      report_is SURE (client_bytes k (suc i)) (sure k a i covered sent) (frames_are k a i covered sent (epoch_frames k) (omega arith))
  by_test false e =
      let o = every_lacks k.ports (λ q. same_bytes (k.came i q) (sent_to k i q)) e in
      report_is HELD [] (held o.at o.below o.fails) refl

  pub judged : report_after (road_of k) i out ≡ expected k i out
  unfolding expected
  judged = by_test (all_as_sent k i) refl
