-- A fixed group's reports (request 2026-12), on every state; and its reply.
use Rattle.std.specs.Prelude.{◌≡◌, refl, ◌≢◌, true, false, List, [], ◌∷◌, ℕ, ◌+◌, ◌*◌, ◌/◌, ◌%◌, ◌<◌, length}
use Rattle.std.proofs.Common.{sym, ◌∙◌, arith}
use Rattle.std.proofs.Math.Path.{ap, ap₂}
use Rattle.std.proofs.Math.ListN.{get_or}
use Rattle.ground.specs.Drawn.{fill_at}
use Rattle.ground.specs.Truth.{cond_by}
use Rattle.judge.specs.declared.seen.Seen.{Seen}
use Rattle.judge.specs.Marked.{AllFixed, Standing}
use Rattle.judge.specs.Numbers.{number_at}
use Rattle.judge.specs.Order.{active_in, port_of}
use Rattle.judge.specs.Theorems.Fixed.{fixed_else_held, fixed_judged, fixed_members, fixed_port, stands_sure, sure_stands}
use Rattle.judge.specs.Verdict.{HELD, SURE, fixed_verdict, judge_of}
use Rattle.packet.specs.declared.ruling.Ruling.{Ruling}
use Rattle.packet.specs.Kinds.{fixed_kind, frames}
use Rattle.packet.specs.Ruling.{refused}
use Rattle.packet.specs.Theorems.Fixed.{fixed_other}
use Rattle.packet.specs.Words.{FIXED}
use Rattle.phases.specs.Sizes.{known_kind, ports_in}
use Rattle.receiver.specs.Fetch.{due_in, fetch_of, lent_fits, report_if_due}
use Rattle.receiver.specs.Laws.Seen.{seen_at_lem}
use Rattle.receiver.specs.Laws.Sizes.{ports_are, size_is, sizes_of, some_sized}
use Rattle.receiver.specs.Report.{report_by, epoch_report, ruling_epoch, seen_all, seen_of}
use Rattle.receiver.specs.Shown.{reply_of}
use Rattle.receiver.specs.Starting.{group_with, start_as_answer}
use Rattle.rows.specs.declared.group.Group.{Group}
use Rattle.rows.specs.Group.{group_at}
use Rattle.rows.specs.Packets.{packets_at}
use Rattle.rows.specs.Port.{port_at}
use Rattle.step.specs.Arrival.{flag_of}
use Rattle.step.specs.OwnCount.{own_number, own_ruling, ruling_in}
use Rattle.step.specs.Theorems.FixedPackets.{own_fixed}
use Rattle.store.specs.Frames.{place_in}
use Rattle.invariant.specs.Calls.{Receiver, ReceiverCall, receiver_run, started_with}
use Rattle.invariant.specs.Kept.Group.{Kept}
use Rattle.invariant.specs.Proofs.Calls as Calls
use Rattle.invariant.specs.Proofs.Kept.Start.{started_kept, started_with_lem}
use Rattle.invariant.specs.Proofs.Reports.Bytes.{report_bytes_lem}
use Rattle.invariant.specs.Proofs.Sizes.{ports_at_most_64, run_sizes}
use Rattle.invariant.specs.Reports.{ByNumber, Refused}

module _ (s : List (List ℕ)) (fixed : (group_at s).kind ≡ fixed_kind) (due : due_in (group_at s) (ports_in (group_at s)) s ≡ true) where
  abbrev g : Group
  g = group_at s

  abbrev n : ℕ
  n = ports_in (group_at s)

  abbrev seen : List Seen
  seen = seen_all (group_at s) s (ports_in (group_at s))

  seen_fixed : (i : ℕ) → (seen_of g s i).word ≡ FIXED
  unfolding seen_of
  seen_fixed i =
      ap (λ (kind : ℕ). (own_ruling kind (ruling_epoch g) (get_or (packets_at s i) 1 [])).word) fixed ∙ own_fixed (ruling_epoch g) (get_or (packets_at s i) 1 [])

  all_fixed : AllFixed seen n
  all_fixed i b good = ap (λ (p : Seen). p.word) (seen_at_lem g s n i (ports_at_most_64 g) b) ∙ seen_fixed i

  mark_is : (report_if_due g n s).mark ≡ fixed_verdict seen n
  unfolding report_if_due epoch_report report_by
  mark_is = rw due (ap (λ (m : ℕ). judge_of g.kind seen m) (size_is n (ports_at_most_64 g)) ∙ ap (λ (kind : ℕ). judge_of kind seen n) fixed ∙ fixed_judged seen n)

  pub fixed_sure : Standing seen n → (report_if_due g n s).mark ≡ SURE
  fixed_sure o = mark_is ∙ stands_sure seen n all_fixed o

  pub sure_fixed : (report_if_due g n s).mark ≡ SURE → Standing seen n
  sure_fixed e = sure_stands seen n all_fixed (sym mark_is ∙ e)

  pub fixed_else : (report_if_due g n s).mark ≢ SURE → (report_if_due g n s).mark ≡ HELD
  fixed_else d = mark_is ∙ fixed_else_held seen n (λ e. d (mark_is ∙ e))

  pub fixed_order : (report_if_due g n s).mark ≡ SURE → (active_in seen n ≡ n) × ((r : ℕ) → r < n → (port_of seen n r < n) × (number_at seen (port_of seen n r) ≡ r))
  fixed_order e = (fixed_members seen n all_fixed (sure_fixed e), λ r b. fixed_port seen n all_fixed (sure_fixed e) r b)

  not_held : (report_if_due g n s).mark ≡ SURE → judge_of g.kind seen n ≢ HELD
  not_held e h = let clash : ◌≡◌ {A = ℕ} SURE HELD = sym e ∙ mark_is ∙ sym (fixed_judged seen n) ∙ sym (ap (λ (kind : ℕ). judge_of kind seen n) fixed) ∙ h in omega arith

  pub fixed_bytes : (store out report : List ℕ) → lent_fits s store out report ≡ true → (report_if_due g n s).mark ≡ SURE → ByNumber s store out (fetch_of s store out report).out
  unfolding seen_of port_at
  fixed_bytes store out report f e =
      let o = fixed_order e in
      record {
        port = port_of seen n;
        below = λ q b. (o.1 q b).0;
        carries = λ q b. ap (λ (p : Seen). p.number) (sym (seen_at_lem g s n (port_of seen n q) (ports_at_most_64 g) (o.1 q b).0)) ∙ (o.1 q b).1;
        bytes =
            report_bytes_lem s store out report f due (not_held e)
            ∙ ap₂
            (λ (kind X : ℕ). fill_at 0 (frames kind * (X * g.payload)) (λ b. get_or store (place_in g (port_of seen n (b % (X * g.payload) % X)) (b / (X * g.payload)) + b % (X * g.payload) / X) 0) out)
            fixed o.0;
      }

pub known_kind_lem : (g : Group) → 0 < ports_in g → known_kind g.kind ≡ true
known_kind_lem g some = (sizes_of g.kind g.count g.payload g.window (some_sized g some).0).known

-- 'a word other than FIXED is 6'
foreign_refused : (epoch : ℕ) (ns : List ℕ) → get_or ns 10 0 % 16 ≢ FIXED → (own_ruling fixed_kind epoch ns).good ≡ false
unfolding own_ruling ruling_in
foreign_refused epoch ns d =
    rw (fixed_other ns d) (cond_by (λ (r : Ruling). r.good ≡ false) (own_number epoch ns) refused refused (λ e. refl) (λ e. refl))

pub fixed_foreign : (s : List (List ℕ)) (i : ℕ) → (group_at s).kind ≡ fixed_kind → i < ports_in (group_at s) → flag_of (port_at s i).step.whole ≡ true
    → get_or (port_at s i).ruling 10 0 % 16 ≢ FIXED → Refused s i
fixed_foreign s i fixed b w d =
    record {
      port = b;
      whole = w;
      refused =
          ap (λ (kind : ℕ). (own_ruling kind (ruling_epoch (group_at s)) (port_at s i).ruling).good) fixed ∙ foreign_refused (ruling_epoch (group_at s)) (port_at s i).ruling d;
    }

-- the reply
pub fixed_reply : (s : List (List ℕ)) → (group_at s).kind ≡ fixed_kind → (e : ℕ) → reply_of s e ≡ 0 ∷ 0 ∷ []
unfolding reply_of
fixed_reply s fixed e = rw fixed refl

-- what the start set stays
module _ (count P W : ℕ) (hold restore : List ℕ) (rows : List (List ℕ)) (store : List ℕ) (zero : start_as_answer fixed_kind count P W (length store) hold restore (length rows) ≡ 0) (calls : List ReceiverCall) where
  abbrev first : Receiver
  first = started_with fixed_kind count P W hold restore rows store

  abbrev last : Group
  last = group_at (receiver_run first calls).rows

  first_kept : Kept first.rows
  first_kept = started_kept fixed_kind count P W (length store) hold restore rows zero

  first_is : group_at first.rows ≡ group_with fixed_kind count P W
  first_is = started_with_lem fixed_kind count P W (length store) hold restore rows zero

  kind_stays : last.kind ≡ fixed_kind
  kind_stays = (run_sizes first calls first_kept).kind ∙ ap (λ (g : Group). g.kind) first_is

  count_stays : last.count ≡ count
  count_stays = (run_sizes first calls first_kept).count ∙ ap (λ (g : Group). g.count) first_is

  pub fixed_stays : (last.kind ≡ fixed_kind) × (ports_in last ≡ count)
  fixed_stays = (kind_stays, ports_are last (Calls.kept fixed_kind count P W hold restore rows store zero calls).lasting.group.sizes ∙ count_stays)

  pub fixed_told : (e : ℕ) → reply_of (receiver_run first calls).rows e ≡ 0 ∷ 0 ∷ []
  fixed_told e = fixed_reply (receiver_run first calls).rows kind_stays e
