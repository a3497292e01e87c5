-- Two links that are alike but for the client's bytes of one epoch: the last sentence of demand 3, computed. It is that epoch's report in which the two runs differ, the second one of six.
use Rattle.std.specs.Prelude.{◌≡◌, refl, List, [], ◌∷◌, ℕ, suc, ◌+◌, ◌*◌, ◌/◌, ◌%◌, ◌<◌, get_or, length, replicate, if◌then◌else◌, ◌==◌}
use Rattle.std.proofs.Common.{sym, ap, subst, ◌∙◌, inl, arith}
use Rattle.ground.specs.Table.{length_tabulate, tabulate}
use Rattle.ground.specs.Types.{Bytes, Epoch}
use Rattle.judge.specs.Verdict.{SURE}
use Rattle.packet.specs.Kinds.{frames}
use Rattle.link.specs.Assumed.{Assumed}
use Rattle.link.specs.Demand3.{Reported, Stands, Started, Time, ToldApart, no_report, own_run, report_at, standing}
use Rattle.link.specs.Demand3.Stands.{none_yet, reporting}
use Rattle.link.specs.History.{History, sending_of, x_at}
use Rattle.link.specs.Link.{Alike, Link, SameIn, epoch_frames, expected}
use Rattle.link.specs.Sending.{Client, epoch_at}
use Rattle.link.specs.Proofs.Histories.Ours.{ours}
use Rattle.link.specs.Theorems.{demand3}
use Rattle.link.specs.Told.{SaySame, Told}
use Rattle.link.specs.Samples.Computing.{no_times, outcome, started}
use Rattle.link.specs.Samples.Members.{history, link, link_by, unranked}
use Rattle.link.specs.Samples.Met.{met, met_by, spread_4}
use Rattle.link.specs.Samples.Reports.{reports, reports_with, sure}
use Rattle.link.specs.Samples.ShutOut.{at_180, began, by_theorem, has_begun_lem, itself, starts}
use Rattle.link.specs.Samples.Tracing.{course, outcome_by_lem}

-- in the epoch at index 6, numbered 255, each byte is one more
abbrev other_bytes : ℕ → ℕ → ℕ
other_bytes x j = (x * 2 + j + (if epoch_at 0 x == 6 then 1 else 0)) % 256

abbrev other_client : Client
other_client x = tabulate (x_at history (epoch_at 0 x) * 1) (other_bytes x)

abbrev other : Link
other = link_by other_client 4 (λ t. t % 2 == 0)

alike : Alike link other
alike = record { kind = refl; epoch = refl; payload = refl; window = refl; delay = λ p b. refl; first = λ p b. refl; order = λ t. refl }

-- Nothing is asked of what is sent: a link of another history, of three slots in another pairing, whose packets came otherwise, and with other outputs and records lent, is alike too.
abbrev quiet : History
quiet = record { kind = 0; slots = 3; first = 249; before = λ i. []; gid = λ i. 0; mst = λ i. 0; ack = λ i. 1 }

abbrev other_link : Link
other_link =
    record {
      sending = sending_of quiet 1 (λ x. []) unranked;
      ports = 2;
      payload = 1;
      window = 20;
      client = λ x. [];
      pairing = λ p. p + 1;
      came = λ i p. [];
      delay = link.delay;
      first = link.first;
      order = link.order;
      output = λ j. [];
      lent = λ a j. [];
    }

alike_other : Alike link other_link
alike_other = record { kind = refl; epoch = refl; payload = refl; window = refl; delay = λ p b. refl; first = λ p b. refl; order = λ t. refl }

other_met : Assumed other
other_met = met_by other_client (λ x. length_tabulate (x_at history (epoch_at 0 x) * 1) (other_bytes x)) 4 (λ t. t % 2 == 0) spread_4

-- The runs: that of the first is `run` of Reports.
other_run
    : outcome other 180
    ≡ record {
      begun = 1;
      told = reports_with (sure 255 (193 ∷ 194 ∷ 195 ∷ 196 ∷ 197 ∷ 198 ∷ 199 ∷ 200 ∷ 201 ∷ 202 ∷ 203 ∷ 204 ∷ 205 ∷ 206 ∷ 207 ∷ 208 ∷ 209 ∷ 210 ∷ 211 ∷ 212 ∷ 213 ∷ 214 ∷ 215 ∷ 216 ∷ 217 ∷ 218 ∷ 219 ∷ 220 ∷ 221 ∷ 222 ∷ 223 ∷ 224 ∷ []));
      strange = [];
    }
unfolding outcome course
other_run = outcome_by_lem other 180 _ refl

-- By the theorem it is that report too.

now : Reported link (own_run link (started link)) at_180
now = go (itself.always at_180)
  where
    go : Stands link (own_run link (started link)) at_180 → Reported link (own_run link (started link)) at_180
    go (none_yet e un t) = absurd (let b = has_begun_lem (own_run link (started link)) itself in omega arith)
    go (reporting e r) = r

six : now.many ≡ 6
unfolding reports
six =
    sym (length_tabulate now.many (λ j. expected link (suc (now.F / epoch_frames link) + j) (link.output j)))
    ∙ ap length (sym now.are ∙ by_theorem)

sure_there : (report_at (standing link (own_run link (started link)) at_180) 1).mark ≡ SURE
unfolding reports
sure_there = ap (λ (l : List Told). (get_or l 1 no_report).mark) by_theorem

streams_differ : SameIn 6 link other → ⊥
unfolding outcome
streams_differ h = let e : ◌≡◌ {A = ℕ} 192 193 = ap (λ (l : List ℕ). get_or l 0 0) (h 0 (omega arith)) in absurd (omega arith)

-- So do streams that differ in the last group frame of the epoch alone.
abbrev last_client : Client
last_client x = tabulate (x_at history (epoch_at 0 x) * 1) (λ j. (x * 2 + j + (if x == 111 then 1 else 0)) % 256)

last_differs : SameIn 6 link (link_by last_client 4 (λ t. t % 2 == 0)) → ⊥
unfolding outcome
last_differs h = let e : ◌≡◌ {A = ℕ} 222 223 = ap (λ (l : List ℕ). get_or l 0 0) (h 15 (omega arith)) in absurd (omega arith)

abbrev other_at_180 : Time other
other_at_180 = record { t = 180; done = []; rest = other.order 180; is_order = refl }

other_starts : Started other (started other)
other_starts = record {
  hold = [];
  restore = [];
  hold_times = no_times 2;
  restore_times = no_times 2;
  rows = replicate 11 (replicate 16 0xFF);
  store = replicate 80 0xFF;
  rows_long = refl;
  store_long = refl;
  is = refl;
}

named : ToldApart (standing link (own_run link (started link)) at_180) (standing other (own_run other (started other)) other_at_180) 1
unfolding frames
named =
    ((demand3 link met).never_alike other (ours other other_met) alike).never (started link) (started other) starts other_starts at_180 other_at_180 refl refl now 1 (omega (arith, six)) (inl sure_there)
    (λ h. streams_differ (subst (λ (F : ℕ). SameIn (suc (suc (F / 16) + 1)) link other) (began (own_run link (started link)) itself now.F now.beginning) h))

-- both have made that report
both_made : (1 < length (own_run link (started link) 180 []).told) × (1 < length (own_run other (started other) 180 []).told)
both_made = (named.here, named.there)

-- Two reports say the same where their marks and their bytes are equal, whichever epochs they are of and whatever stands behind the bytes.

abbrev told : (e : Epoch) (mark : ℕ) (bytes : Bytes) (rest : List ℕ) → Told
told e mark bytes rest = record { epoch = e; mark = mark; bytes = bytes; rest = rest }

say_same : SaySame (told 1 3 (4 ∷ []) (5 ∷ [])) (told 2 3 (4 ∷ []) (6 ∷ []))
say_same = (refl, refl)

other_marks : SaySame (told 1 3 (4 ∷ []) []) (told 1 2 (4 ∷ []) []) → ⊥
other_marks h = let e = h.0 in absurd (omega arith)

other_bytes_lem : SaySame (told 1 3 (4 ∷ []) []) (told 1 3 (5 ∷ []) []) → ⊥
other_bytes_lem h = let e : ◌≡◌ {A = ℕ} 4 5 = ap (λ (l : List ℕ). get_or l 0 0) h.1 in absurd (omega arith)

named_differ : SaySame (report_at (own_run link (started link) 180 []) 1) (report_at (own_run other (started other) 180 []) 1) → ⊥
named_differ = named.differ
