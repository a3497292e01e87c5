-- On a link whose packets all come as sent each report leaves every port OK under the number that its slot has sent in that epoch, or IDLE: so none is ever FAIL, whatever the times (`heard-last`).
-- The idea: all ports are readable and hear their slots, and the numbers of slots that are not IDLE are apart; so as long as no port waits to restore all are OK at once (`ok_at_once` of reply), and then none is FAIL at the next report.
use Rattle.std.specs.Prelude.{◌≡◌, ◌≢◌, Bool, true, cond, ◌&&◌, ◌||◌, ℕ, suc, ◌+◌, ◌-◌, ◌*◌, ◌/◌, ◌≤◌, ◌<◌, eqb, ltb, get_or, length}
use Rattle.std.proofs.Math.Path.{refl, sym, ap, subst}
use Rattle.std.proofs.Common.{◌∙◌, ⊎_elim, arith}
use Rattle.std.proofs.Math.Bool.{false, not}
use mathlib.Core.List.{List, [], ◌∷◌, ◌++◌}
use Rattle.std.proofs.Math.ListN.{length-append}
use borrow.Author.Tests.{eq-eqb, eqb-true, lt-ltb, ne_eqb, not-false}
use Rattle.ground.specs.Table.{length_tabulate}
use Rattle.ground.specs.Truth.{and_left, and_right, and-true, eq_or_ne, same_test}
use Rattle.ground.specs.Counting.Laws.Numbers.{count_le}
use Rattle.ground.specs.Counting.Laws.Tests.{some_at, some_one}
use Rattle.packet.specs.declared.ruling.Ruling.{Ruling}
use Rattle.packet.specs.Kinds.{epoch_of, fixed_kind, mst_fails}
use Rattle.packet.specs.Mst.{Spoken}
use Rattle.packet.specs.Symbols.{packet_row}
use Rattle.packet.specs.Theorems.Tags.{first_of}
use Rattle.packet.specs.Words.{IDLE}
use Rattle.phases.specs.Passing.{passed_of}
use Rattle.phases.specs.Sizes.{ports_in}
use Rattle.receiver.specs.Fetch.{due_in}
use Rattle.receiver.specs.Laws.Fresh.{started_port}
use Rattle.receiver.specs.Report.{reply_port, reply_ports}
use Rattle.receiver.specs.Shown.{reply_of}
use Rattle.receiver.specs.Frame.{frame_of}
use Rattle.receiver.specs.Starting.{fresh_ports, group_with, sized_fits, sized_rows, start_as_rows, start_fits, start_right}
use Rattle.reply.specs.Reports.{Undisputed}
use Rattle.reply.specs.Theorems.Undisputed.{ok_at_once}
use Rattle.reply.specs.declared.members.Port.{Port as ReplyPort}
use Rattle.reply.specs.declared.waiting.Standing.{Standing}
use Rattle.reply.specs.Members.{fail_state, idle_state, is_idle, ok_state}
use Rattle.reply.specs.Members as R
use Rattle.reply.specs.Waiting.{standing_at}
use Rattle.reply.specs.Theorems.Waiting.{idle_at_once}
use Rattle.rows.specs.declared.group.Group.{Group}
use Rattle.rows.specs.declared.member.Member.{Member}
use Rattle.rows.specs.Group.{group_at, put_group}
use Rattle.rows.specs.Laws.Port.{port_member}
use Rattle.rows.specs.Member.{member_at}
use Rattle.rows.specs.Packets.{marks_at, packets_at}
use Rattle.rows.specs.Port.{Port}
use Rattle.rows.specs.Rows.{rows_for}
use Rattle.rows.specs.Step.{step_at}
use Rattle.sender.specs.declared.table.State.{State}
use Rattle.sender.specs.declared.table.State.TheVariants.{Idle, Add, Active, Dnu}
use Rattle.sender.specs.declared.table.Table.{Table}
use Rattle.sender.specs.Board.{highest, word_of}
use Rattle.sender.specs.Laws.Kept.{Sound}
use Rattle.sender.specs.Laws.Sizes.{size_le}
use Rattle.sender.specs.Numbering.{number_in, slots_in, state_in}
use Rattle.sender.specs.Table.{is_member}
use Rattle.step.specs.Arrival.{readable}
use Rattle.step.specs.OwnCount.{own_ruling}
use Rattle.store.specs.Frames.{packet_in}
use Rattle.store.specs.Marks.{first_mark}
use Rattle.invariant.specs.Reports.{Given, passed_rows}
use Rattle.invariant.specs.Theorems.{frame_standing}
use Rattle.invariant.specs.Times.{standing_in}
use Rattle.link.specs.Assumed.{Assumed}
use Rattle.link.specs.Demand3.{Started, own_run}
use Rattle.link.specs.History.{History, sender_at}
use Rattle.link.specs.Link.{AssumedOver, Link, kind_of, road_of}
use Rattle.link.specs.Moments.{Beginning}
use Rattle.link.specs.Proofs.Alike.{one_beginning}
use Rattle.link.specs.Proofs.Contents.{number_of, packet_of, report_after}
use Rattle.link.specs.Proofs.Fair.{Fair, sizes_in}
use Rattle.link.specs.Proofs.Histories.Ours.{ours}
use Rattle.link.specs.Proofs.Histories.Reaching.{all_reached}
use Rattle.link.specs.Proofs.Histories.Senders.{sender_at_sound, size_at}
use Rattle.link.specs.Proofs.Histories.Tables.{number_at_lem, word_at}
use Rattle.link.specs.Proofs.Judged.Fairness.{fair}
use Rattle.link.specs.Proofs.Judged.Seen.{number_of_lem, packet_of_lem}
use Rattle.link.specs.Proofs.Standing.{Before, Later, Lined}
use Rattle.link.specs.Proofs.Transport.Call.{ports_are}
use Rattle.link.specs.Proofs.Transport.Due.{AllCome, all_read, brought_all, first_all}
use Rattle.link.specs.Proofs.Transport.EachCall.{calls_do}
use Rattle.link.specs.Proofs.Transport.Fetches.{fits_now}
use Rattle.link.specs.Proofs.Transport.Passed.{PassedTo, open_passed, passed_to, ruling_now}
use Rattle.link.specs.Proofs.Transport.Start.{start}
use Rattle.link.specs.Proofs.Transport.Times.{CallsDo, along}
use Rattle.link.specs.Road.{L, Road}
use Rattle.link.specs.Running.{Moment, fetched, framed, fresh, lent_at, output_at}
use Rattle.link.specs.Sending.{Reached, Sending, epoch_number}
use Rattle.sure_add.specs.AsSent.{AsSent, has_holder}
use Rattle.sure_add.specs.Proofs.Reported.{left_state, left_under, mst_in, ok_in, seen_number, seen_state, seen_word, sees}

pub empty : {A : Type 0} (l : List A) → length l ≡ 0 → l ≡ []
empty [] e = refl
empty (x ∷ l) e = absurd (omega arith)

-- A report that is fetched on a road where every port has brought the epoch, as it hears each port.
module _ (r : Road) (f : Fair r) (m : Moment) (coming : ℕ → ℕ) (from i : ℕ) (o : Later r m coming from i) (all : AllCome r coming (suc i)) where
  abbrev g : Group
  g = group_at m.rows

  abbrev passed : List (List ℕ)
  passed = passed_rows m.rows m.store

  ports_is : ports_in g ≡ r.ports
  ports_is = ports_are r f m o.open_at.lined

  few : ports_in g ≤ 64
  few = rw ports_is (sizes_in r f).few_ports

  enough : rows_for (ports_in g) ≤ length m.rows
  enough = rw ports_is (let l = o.open_at.lined.rows_long in omega arith)

  given : Given m.rows m.store (output_at r m) (lent_at r m)
  unfolding due_in
  given =
      record {
        fitting = fits_now r f m o.open_at.lined;
        due = rw (ports_is, brought_all r f m coming (suc i) o.open_at all, lt-ltb 0 r.ports (sizes_in r f).some_ports, o.open_at.begun, o.gathered) refl;
      }

  abbrev mid : Moment
  mid = record { rows = passed_of g m.store r.ports m.rows; store = m.store; answers = m.answers; told = m.told }

  to_mid : PassedTo r m mid
  to_mid = passed_to r m mid o.open_at.lined.rows_long refl refl

  rows_mid : passed ≡ mid.rows
  rows_mid = ap (λ (n : ℕ). passed_of g m.store n m.rows) ports_is

  whole : (p : ℕ) → p < r.ports → first_mark (marks_at m.rows p) ≡ true
  whole p b = first_all r f m coming (suc i) o.open_at all p b

  packet_is : (p : ℕ) → p < r.ports → packet_in g p m.store ≡ packet_of r (suc i) p
  packet_is p b =
      sym (to_mid.ruling p b ∙ ap (λ (c : Bool). cond c (packet_in g p m.store) (get_or (packets_at m.rows p) 1 [])) (whole p b))
      ∙ ruling_now r f m mid coming (suc i) o.open_at to_mid all p b

  oldest_is : g.oldest ≡ number_of r (suc i)
  unfolding number_of
  oldest_is = sym (first_of r.kind g.oldest o.open_at.oldest_small).0 ∙ ap (λ (t : ℕ). epoch_of r.kind t) o.open_at.oldest

  heard_is : (p : ℕ) → p < r.ports → own_ruling g.kind g.oldest (packet_in g p m.store) ≡ own_ruling r.kind (number_of r (suc i)) (packet_of r (suc i) p)
  heard_is p b =
      ap (λ (k : ℕ). own_ruling k g.oldest (packet_in g p m.store)) o.open_at.lined.kind_is
      ∙ ap (λ (n : ℕ). own_ruling r.kind n (packet_in g p m.store)) oldest_is
      ∙ ap (λ (l : List ℕ). own_ruling r.kind (number_of r (suc i)) l) (packet_is p b)

  seen_readable : (p : ℕ) → p < r.ports → (reply_port (group_at passed) passed p).readable ≡ true
  unfolding reply_port
  seen_readable p b =
      subst (λ (s : List (List ℕ)). readable (group_at s) (step_at s p) ≡ true) (sym rows_mid) (all_read r f mid coming (suc (suc i)) (open_passed r f m mid coming (suc i) o.open_at to_mid all) p b)

-- a slot is IDLE exactly if its word is
word_idle : (s : State) (last : Bool) → (eqb (word_of s last).0 255 || eqb (word_of s last).0 IDLE) ≡ not (is_member s)
word_idle Idle last = refl
word_idle Add last = refl
word_idle Active true = refl
word_idle Active false = refl
word_idle Dnu last = refl

module _ (k : Link) (a : Assumed k) (as_sent_lem : AsSent k) where
  abbrev h : History
  h = a.history

  abbrev r : Road
  r = road_of k

  abbrev ov : AssumedOver k
  ov = ours k a

  abbrev f : Fair (road_of k)
  f = fair k (ours k a)

  abbrev table : ℕ → Table
  table i = (sender_at h i).table

  abbrev slot_of : ℕ → ℕ
  slot_of p = k.pairing p

  sound : (i : ℕ) → Sound (table i)
  sound i = (sender_at_sound h i).table

  slot_below : (i p : ℕ) → p < k.ports → slot_of p < slots_in (table i)
  slot_below i p b = rw (size_at h a.allowed i) (a.paired.below p (subst (λ (n : ℕ). p < n) a.all b))

  -- what is read of a port's packet of an epoch: the state and the number that its slot has in that epoch's table
  read_is : (i p : ℕ) → p < k.ports → own_ruling (kind_of k) (number_of r i) (packet_of r i p)
      ≡ record { good = true; word = k.sending.word i (slot_of p); number = k.sending.number i (slot_of p); gid = k.sending.gid i (slot_of p) }
  read_is i p b =
      ap (λ (n : ℕ). own_ruling (kind_of k) n (packet_of r i p)) (number_of_lem k i)
      ∙ ap (λ (l : List ℕ). own_ruling (kind_of k) (epoch_number (kind_of k) k.sending.first i) l) (packet_of_lem k i p)
      ∙ ap (λ (l : List ℕ). own_ruling (kind_of k) (epoch_number (kind_of k) k.sending.first i) (packet_row (kind_of k) l)) (as_sent_lem i p b)
      ∙ ov.lawful.reads i (slot_of p) (ov.paired.below p b)

  word_is : (i p : ℕ) → p < k.ports → k.sending.word i (slot_of p) ≡ (word_of (state_in (table i) (slot_of p)) (highest (table i).slots (slots_in (table i)) (number_in (table i) (slot_of p)))).0
  word_is i p b = ap (λ (x : Sending). x.word i (slot_of p)) a.sends ∙ word_at h a.allowed i (slot_of p) (slot_below i p b)

  number_is : (i p : ℕ) → p < k.ports → k.sending.number i (slot_of p) ≡ number_in (table i) (slot_of p)
  number_is i p b = ap (λ (x : Sending). x.number i (slot_of p)) a.sends ∙ number_at_lem h a.allowed i (slot_of p) (slot_below i p b)

  low : (i p : ℕ) → p < k.ports → is_member (state_in (table i) (slot_of p)) ≡ true → number_in (table i) (slot_of p) < 64
  low i p b t =
      let l = (sound i).numbered.top (slot_of p) (slot_below i p b) t in
      let c = count_le (slots_in (table i)) (λ s. is_member (state_in (table i) s)) in
      let z = size_le (table i).count in
      omega arith

  -- every port's state is the one that its slot has in an epoch's table
  pub record AsTable (m : Moment) (i : ℕ) : Type 0 where
    pub ok : (p : ℕ) → p < k.ports → is_member (state_in (table i) (slot_of p)) ≡ true → (member_at m.rows p).state ≡ ok_state
    pub under : (p : ℕ) → p < k.ports → is_member (state_in (table i) (slot_of p)) ≡ true → (member_at m.rows p).state_number ≡ number_in (table i) (slot_of p)
    pub idle : (p : ℕ) → p < k.ports → is_member (state_in (table i) (slot_of p)) ≡ false → (member_at m.rows p).state ≡ idle_state

  -- one report
  module _ (m : Moment) (coming : ℕ → ℕ) (from i : ℕ) (o : Later r m coming from i) (all : AllCome r coming (suc i)) (unfailed : (p : ℕ) → p < k.ports → (member_at m.rows p).state ≢ fail_state) where
    abbrev n : ℕ
    n = ports_in (group_at m.rows)

    abbrev ports : List ReplyPort
    ports = reply_ports (group_at (passed_rows m.rows m.store)) (passed_rows m.rows m.store) n

    abbrev out : List ℕ
    out = output_at r m

    abbrev lent : List ℕ
    lent = lent_at r m

    abbrev heard : ℕ → Ruling
    heard p = own_ruling (group_at m.rows).kind (group_at m.rows).oldest (packet_in (group_at m.rows) p m.store)

    gv : Given m.rows m.store out lent
    gv = given r f m coming from i o all

    fw : n ≤ 64
    fw = few r f m coming from i o all

    en : rows_for n ≤ length m.rows
    en = enough r f m coming from i o all

    in_ports : (p : ℕ) → p < n → p < k.ports
    unfolding road_of
    in_ports p b = rw (ports_is r f m coming from i o all) at b

    in_n : (p : ℕ) → p < k.ports → p < n
    unfolding road_of
    in_n p b = rw (ports_is r f m coming from i o all) b

    hears : (p : ℕ) → p < k.ports → heard p ≡ record { good = true; word = k.sending.word (suc i) (slot_of p); number = k.sending.number (suc i) (slot_of p); gid = k.sending.gid (suc i) (slot_of p) }
    unfolding road_of
    hears p b = heard_is r f m coming from i o all p b ∙ read_is (suc i) p b

    word : (p : ℕ) → p < k.ports → (R.port_at ports p).word ≡ k.sending.word (suc i) (slot_of p)
    unfolding road_of
    word p b =
        seen_word m.rows m.store out lent gv fw en p (in_n p b) (whole r f m coming from i o all p b) (ap (λ (x : Ruling). x.good) (hears p b))
        ∙ ap (λ (x : Ruling). x.word) (hears p b)

    number : (p : ℕ) → p < k.ports → (R.port_at ports p).number ≡ number_in (table (suc i)) (slot_of p)
    unfolding road_of
    number p b =
        seen_number m.rows m.store out lent gv fw en p (in_n p b) (whole r f m coming from i o all p b) (ap (λ (x : Ruling). x.good) (hears p b))
        ∙ ap (λ (x : Ruling). x.number) (hears p b)
        ∙ number_is (suc i) p b

    is_readable : (p : ℕ) → p < k.ports → (R.port_at ports p).readable ≡ true
    unfolding road_of
    is_readable p b = ap (λ (x : ReplyPort). x.readable) (sees m.rows m.store out lent gv fw en p (in_n p b)) ∙ seen_readable r f m coming from i o all p b

    idle_as : (p : ℕ) → p < k.ports → is_idle (R.port_at ports p) ≡ not (is_member (state_in (table (suc i)) (slot_of p)))
    idle_as p b =
        ap (λ (w : ℕ). eqb w 255 || eqb w IDLE) (word p b ∙ word_is (suc i) p b)
        ∙ word_idle (state_in (table (suc i)) (slot_of p)) (highest (table (suc i)).slots (slots_in (table (suc i))) (number_in (table (suc i)) (slot_of p)))

    member_of_lem : (p : ℕ) → p < k.ports → is_idle (R.port_at ports p) ≡ false → is_member (state_in (table (suc i)) (slot_of p)) ≡ true
    member_of_lem p b e = not-false _ (sym (idle_as p b) ∙ e)

    live_of : (p : ℕ) → p < k.ports → is_member (state_in (table (suc i)) (slot_of p)) ≡ true → is_idle (R.port_at ports p) ≡ false
    live_of p b t = idle_as p b ∙ ap not t

    undisputed : Undisputed ports n
    undisputed =
        record {
          candidate = λ p b e.
              (let c = in_ports p b in
              let l : (R.port_at ports p).number < 64 = rw (number p c) (low (suc i) p c (member_of_lem p c e)) in
              rw (is_readable p c, lt-ltb (R.port_at ports p).number 64 l) (ap (λ (x : Bool). not x && true && true) e));
          rested = λ p b e.
              ap (λ (x : Bool). x && ltb (R.port_at ports p).elapsed (R.port_at ports p).restore)
              (ne_eqb (R.port_at ports p).state fail_state (λ z. unfailed p (in_ports p b) (sym (seen_state m.rows m.store out lent gv fw en p b) ∙ z)));
          own = λ p q hp hq ep eq e.
              (let bp = in_ports p hp in
              let bq = in_ports q hq in
              ov.paired.once p q bp bq
              ((sound (suc i)).numbered.once (slot_of p) (slot_of q) (slot_below (suc i) p bp) (slot_below (suc i) q bq) (member_of_lem p bp ep) (member_of_lem q bq eq) (sym (number p bp) ∙ e ∙ number q bq)));
        }

    ok_now : (p : ℕ) → p < k.ports → is_member (state_in (table (suc i)) (slot_of p)) ≡ true → standing_at ports n p ≡ record { state = ok_state; number = (R.port_at ports p).number; elapsed = 0 }
    ok_now p b t = ok_at_once ports n fw undisputed p (in_n p b) (live_of p b t)

    pub as_told : AsTable (fetched r m) (suc i)
    unfolding fetched
    as_told =
        record {
          ok = λ p b t. left_state m.rows m.store out lent gv fw en p (in_n p b) ∙ ap (λ (x : Standing). x.state) (ok_now p b t);
          under = λ p b t. left_under m.rows m.store out lent gv fw en p (in_n p b) ∙ ap (λ (x : Standing). x.number) (ok_now p b t) ∙ number p b;
          idle = λ p b t.
              left_state m.rows m.store out lent gv fw en p (in_n p b)
              ∙ ap (λ (x : Standing). x.state) (idle_at_once ports n p fw (in_n p b) (idle_as p b ∙ ap not t));
        }

  -- none is FAIL then
  none_fails : (m : Moment) (i : ℕ) → AsTable m i → (p : ℕ) → p < k.ports → (member_at m.rows p).state ≢ fail_state
  none_fails m i w p b z = go (is_member (state_in (table i) (slot_of p))) refl
    where
      go : (c : Bool) → is_member (state_in (table i) (slot_of p)) ≡ c → ⊥
      go true c = let e : ok_state ≡ fail_state = sym (w.ok p b c) ∙ z in omega arith
      go false c = let e : idle_state ≡ fail_state = sym (w.idle p b c) ∙ z in omega arith

  -- So it is at every moment.
  module _ (m₀ : Moment) (o : Started k m₀) where
    pub from_start : Before r m₀ r.first
    unfolding road_of
    from_start =
        subst (λ (m : Moment). Before r m k.first) (sym o.is) (start r f o.hold o.restore o.hold_times o.restore_times o.rows o.store o.rows_long o.store_long)

    -- no report yet, and all ports are IDLE; or as many as tell which epoch the last one was of
    record HeardSo (m : Moment) : Type 0 where
      none : m.told ≡ [] → (p : ℕ) → p < k.ports → (member_at m.rows p).state ≡ idle_state
      some : (F : ℕ) → Beginning r (own_run k m₀) F → 1 ≤ length m.told → AsTable m (suc (F / L r) + length m.told)

    pub s : CallsDo r
    s = calls_do r f

    fresh_rows : start_as_rows (kind_of k) k.ports k.payload k.window (length o.store) o.hold o.restore o.rows
        ≡ put_group (fresh_ports (kind_of k) o.hold o.restore k.ports o.rows) (group_with (kind_of k) k.ports k.payload k.window)
    unfolding start_as_rows start_right sized_rows sized_fits start_fits
    fresh_rows =
        rw (o.hold_times.within, o.restore_times.within, a.lines.sizes, o.hold_times.fits, o.restore_times.fits, eq-eqb (length o.rows) (rows_for k.ports) o.rows_long, eq-eqb (length o.store) (k.ports * k.window * (k.payload + 1)) o.store_long) refl

    fresh_idle : (p : ℕ) → p < k.ports → (member_at m₀.rows p).state ≡ idle_state
    unfolding fresh road_of
    fresh_idle p b =
        let l = o.rows_long in
        ap (λ (m : Moment). (member_at m.rows p).state) o.is
        ∙ ap (λ (t : List (List ℕ)). (member_at t p).state) fresh_rows
        ∙ sym (ap (λ (m : Member). m.state) (port_member (put_group (fresh_ports (kind_of k) o.hold o.restore k.ports o.rows) (group_with (kind_of k) k.ports k.payload k.window)) p))
        ∙ ap (λ (q : Port). q.member.state) (started_port (kind_of k) k.ports o.hold o.restore o.rows (group_with (kind_of k) k.ports k.payload k.window) p b (omega arith))

    at_first : HeardSo m₀
    at_first = record { none = λ e. fresh_idle; some = λ F b l. absurd (let z = ap length from_start.told in omega arith) }

    on_frame : (q x : ℕ) (m : Moment) → HeardSo m → HeardSo (framed r q x m)
    unfolding framed
    on_frame q x m w =
        record {
          none = λ e p b. state p ∙ w.none e p b;
          some = λ F b l.
              (let v = w.some F b l in
              record { ok = λ p c t. state p ∙ v.ok p c t; under = λ p c t. number p ∙ v.under p c t; idle = λ p c t. state p ∙ v.idle p c t });
        }
      where
        kept : (p : ℕ) → standing_in (frame_of m.rows q false (r.h4 q x) (r.bytes q x) m.store).rows p ≡ standing_in m.rows p
        kept p = frame_standing p m.rows q false (r.h4 q x) (r.bytes q x) m.store

        state : (p : ℕ) → (member_at (frame_of m.rows q false (r.h4 q x) (r.bytes q x) m.store).rows p).state ≡ (member_at m.rows p).state
        state p = ap (λ (l : List ℕ). get_or l 0 0) (kept p)

        number : (p : ℕ) → (member_at (frame_of m.rows q false (r.h4 q x) (r.bytes q x) m.store).rows p).state_number ≡ (member_at m.rows p).state_number
        number p = ap (λ (l : List ℕ). get_or l 1 0) (kept p)

    one_more : (m : Moment) → length (fetched r m).told ≡ length m.told + 1
    unfolding fetched
    one_more m = length-append m.told _

    on_report : (F i : ℕ) (m : Moment) (n : ℕ → ℕ) → Beginning r (own_run k m₀) F → Later r m n (suc (F / L r)) i → AllCome r n (suc i) → HeardSo m → HeardSo (fetched r m)
    on_report F i m n b c all w =
        record {
          none = λ e. absurd (let z = ap length e in let l = longer in omega arith);
          some = λ G d l. subst (λ (x : ℕ). AsTable (fetched r m) x) (index G (one_beginning k (own_run k m₀) F G b d)) (as_told m n (suc (F / L r)) i c all unfailed);
        }
      where
        many : length m.told ≡ i - suc (F / L r)
        many = ap length c.told ∙ length_tabulate (i - suc (F / L r)) (λ j. report_after r (suc (F / L r) + j) (r.output j))

        longer : length (fetched r m).told ≡ length m.told + 1
        longer = one_more m

        index : (G : ℕ) → F ≡ G → suc i ≡ suc (G / L r) + length (fetched r m).told
        index G e = let l = longer in let y = many in let z = c.come in rw (← e) (omega arith)

        unfailed : (p : ℕ) → p < k.ports → (member_at m.rows p).state ≢ fail_state
        unfailed p h z =
            ⊎_elim (λ (e : length m.told ≡ 0). let x : idle_state ≡ fail_state = sym (w.none (empty m.told e) p h) ∙ z in omega arith)
            (λ (d : length m.told ≢ 0). none_fails m (suc (F / L r) + length m.told) (w.some F b (omega arith)) p h z)
            (eq_or_ne (length m.told) 0)

    heard_so : (t : ℕ) (done rest : List ℕ) → r.order t ≡ done ++ rest → HeardSo (own_run k m₀ t done)
    heard_so t done rest e = along r m₀ f s HeardSo on_frame on_report from_start at_first t done rest e

    -- after each report: the last one was of this epoch
    pub heard_last : (t : ℕ) (done rest : List ℕ) → r.order t ≡ done ++ rest → (F : ℕ) → Beginning r (own_run k m₀) F → 1 ≤ length (own_run k m₀ t done).told
        → AsTable (own_run k m₀ t done) (suc (F / L r) + length (own_run k m₀ t done).told)
    heard_last t done rest e F b l = (heard_so t done rest e).some F b l

  -- what MST says then
  module _ (m : Moment) (lined : Lined r m) (i : ℕ) (w : AsTable m i) where
    count_is : ports_in (group_at m.rows) ≡ k.ports
    unfolding road_of
    count_is = ports_are r f m lined

    ports_few : ports_in (group_at m.rows) ≤ 64
    unfolding road_of
    ports_few = rw (ports_are r f m lined) (sizes_in r f).few_ports

    kind_is : (group_at m.rows).kind ≡ kind_of k
    unfolding road_of
    kind_is = lined.kind_is

    sends_kind : kind_of k ≡ h.kind
    sends_kind = ap (λ (x : Sending). x.kind) a.sends

    to_slot : (q : ℕ) → ok_in m.rows q ≡ true → has_holder h i q ≡ true
    to_slot q e =
        let x = some_one (ports_in (group_at m.rows)) (λ p. eqb (member_at m.rows p).state ok_state && eqb (member_at m.rows p).state_number q) e in
        let p : ℕ = x.at in
        let b : p < k.ports = subst (λ (z : ℕ). x.at < z) count_is x.below in
        let ok = eqb-true (member_at m.rows p).state ok_state (and_left (eqb (member_at m.rows p).state ok_state) (eqb (member_at m.rows p).state_number q) x.holds) in
        let same = eqb-true (member_at m.rows p).state_number q (and_right (eqb (member_at m.rows p).state ok_state) (eqb (member_at m.rows p).state_number q) x.holds) in
        go p b ok same (is_member (state_in (table i) (slot_of p))) refl
      where
        go : (p : ℕ) → p < k.ports → (member_at m.rows p).state ≡ ok_state → (member_at m.rows p).state_number ≡ q → (c : Bool) → is_member (state_in (table i) (slot_of p)) ≡ c → has_holder h i q ≡ true
        go p b ok same true c =
            some_at h.slots (λ x. is_member (state_in (table i) x) && eqb (number_in (table i) x) q) (slot_of p) (a.paired.below p (subst (λ (y : ℕ). p < y) a.all b))
            (and-true (is_member (state_in (table i) (slot_of p))) _ c (eq-eqb (number_in (table i) (slot_of p)) q (sym (w.under p b c) ∙ same)))
        go p b ok same false c = absurd (let z : idle_state ≡ ok_state = sym (w.idle p b c) ∙ ok in omega arith)

    from_slot : (q : ℕ) → has_holder h i q ≡ true → ok_in m.rows q ≡ true
    from_slot q e =
        let x = some_one h.slots (λ y. is_member (state_in (table i) y) && eqb (number_in (table i) y) q) e in
        let y : Reached h.slots k.pairing x.at = all_reached h.slots k.pairing a.paired x.at x.below in
        let p : ℕ = y.port in
        let b : p < k.ports = subst (λ (z : ℕ). y.port < z) (sym a.all) y.below in
        let t : is_member (state_in (table i) (slot_of p)) ≡ true = ap (λ (z : ℕ). is_member (state_in (table i) z)) y.is ∙ and_left (is_member (state_in (table i) x.at)) (eqb (number_in (table i) x.at) q) x.holds in
        let u : number_in (table i) (slot_of p) ≡ q = ap (λ (z : ℕ). number_in (table i) z) y.is ∙ eqb-true (number_in (table i) x.at) q (and_right (is_member (state_in (table i) x.at)) (eqb (number_in (table i) x.at) q) x.holds) in
        some_at (ports_in (group_at m.rows)) (λ z. eqb (member_at m.rows z).state ok_state && eqb (member_at m.rows z).state_number q) p (rw count_is b)
        (and-true (eqb (member_at m.rows p).state ok_state) _ (eq-eqb (member_at m.rows p).state ok_state (w.ok p b t)) (eq-eqb (member_at m.rows p).state_number q (w.under p b t ∙ u)))

    pub mst_table : (e q : ℕ) → Spoken (kind_of k) e q → mst_fails (get_or (reply_of m.rows e) 0 0) q ≡ not (has_holder h i q)
    mst_table e q o =
        mst_in m.rows ports_few (ap (λ (n : ℕ). eqb n fixed_kind) (kind_is ∙ sends_kind) ∙ a.allowed.lcas) e q (subst (λ (n : ℕ). Spoken n e q) (sym kind_is) o)
        ∙ ap not (same_test (ok_in m.rows q) (has_holder h i q) (to_slot q) (from_slot q))
