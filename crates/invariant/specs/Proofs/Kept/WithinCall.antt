-- What is kept by each thing that a call does: a frame, a stop, a beginning, the passing of an epoch.
-- The idea: `Lasting` is what does not go by whether something is still to be settled, so that it holds between the parts of one call; Settling.antt and Calls.antt put the parts together.
use Rattle.std.specs.Prelude.{◌≡◌, refl, ◌≢◌, Bool, true, false, cond, not, ◌&&◌, ◌||◌, List, ℕ, ◌≤◌, ◌<◌, eqb, length}
use Rattle.std.proofs.Common.{sym, ap, ◌∙◌, ⊎_elim, true≢false, arith}
use Rattle.std.proofs.lemmas.Bool.{false≢true}
use Rattle.invariant.specs.Proofs.Kept.Clearing.{begun_kept, stopped_kept}
use Rattle.invariant.specs.Kept.Group.{GroupKept, OkApart, PortIn, Lasting, known_word, lcas_word}
use Rattle.invariant.specs.Proofs.Kept.Passing.{passed_kept}
use Rattle.invariant.specs.Kept.Port.{Windowed}
use Rattle.invariant.specs.Proofs.Kept.Taken.{taken_kept, taken_whole}
use Rattle.ground.specs.Counting.Laws.Tests.{every_at}
use Rattle.ground.specs.Counting.Words.{every}
use Rattle.ground.specs.Truth.{and_right, clash, cond_by, eq_or_ne}
use Rattle.packet.specs.Kinds.{epoch_after, epoch_of, fixed_kind}
use Rattle.packet.specs.Laws.Reading.{good_word, rules_as_read}
use Rattle.packet.specs.Theorems.Fixed.{fixed_word}
use Rattle.packet.specs.Theorems.Tags.{epoch_after_lt, epochs_some, frames_two}
use Rattle.packet.specs.Words.{ADD, DNU, EOS, FIXED, IDLE, NORM}
use Rattle.phases.specs.Beginning.{begins, foremost, no_tag, ready, in_arc}
use Rattle.packet.specs.declared.ruling.Ruling.{Ruling}
use Rattle.phases.specs.Due.{brought, owes_nothing}
use Rattle.phases.specs.Laws.Cleared.{begun_group, begun_port, stopped_group, stopped_port}
use Rattle.phases.specs.Laws.Lengths.{length_begun, length_passed, length_stopped}
use Rattle.phases.specs.Laws.Passed.{passed_group_lem, passed_of_port}
use Rattle.phases.specs.Passing.{group_to, noted_by, passed_group, passed_of}
use Rattle.packet.specs.Ruling.{read_row, refused, ruling_by}
use Rattle.phases.specs.Settling.{begun_of, stopped_of}
use Rattle.receiver.specs.Frame.{odd_in, port_rows, taken_in}
use Rattle.receiver.specs.Laws.Frames.{frame_group, frame_other, frame_port, frame_on, length_frame}
use Rattle.receiver.specs.Laws.Passed.{cleared_whole, origin_within, passed_count, passed_gathered, passed_kind}
use Rattle.receiver.specs.Laws.Sizes.{sizes_of}
use Rattle.reply.specs.Members.{no_word}
use Rattle.rows.specs.declared.group.Group.{Group}
use Rattle.rows.specs.declared.member.Member.{Member}
use Rattle.rows.specs.declared.step.Step.{Step}
use Rattle.rows.specs.Group.{group_at}
use Rattle.rows.specs.Laws.Port.{port_marks, port_step}
use Rattle.rows.specs.Packets.{marks_at}
use Rattle.rows.specs.Port.{port_at}
use Rattle.rows.specs.Rows.{rows_for}
use Rattle.rows.specs.Step.{step_at}
use Rattle.step.specs.Arrival.{flag_of, in_step, taken_of}
use Rattle.step.specs.declared.arrival.Taken.{Taken}
use Rattle.packet.specs.Fixed.{fixed_ruling_of}
use Rattle.step.specs.OwnCount.{own_number, own_ruling, ruling_in, without_mfi2}
use Rattle.store.specs.Frames.{packet_in}
use Rattle.store.specs.Marks.{first_mark}

pub windowed : (g : Group) → GroupKept g → Windowed g
windowed g k =
    let z = sizes_of g.kind g.count g.payload g.window k.sizes in
    record { least = z.wide; most = (let r = z.round in omega arith) }

-- members whose states stay
ok_same : (n : ℕ) (m m' : ℕ → Member) → ((i : ℕ) → i < n → ((m' i).state ≡ (m i).state) × ((m' i).state_number ≡ (m i).state_number)) → OkApart n m → OkApart n m'
ok_same n m m' same k =
    record {
      below = λ i b o. rw (same i b).1 (k.below i b (sym (same i b).0 ∙ o));
      apart = λ i j bi bj oi oj e.
          k.apart i j bi bj (sym (same i bi).0 ∙ oi) (sym (same j bj).0 ∙ oj) (sym (same i bi).1 ∙ e ∙ (same j bj).1);
    }

begins_within : (g : Group) (s : List (List ℕ)) (n : ℕ) → begins g s n ≡ true → (i : ℕ) → i < n → in_arc g (foremost g s n) (step_at s i) ≡ true
unfolding begins
begins_within g s n e i b =
    every_at n (λ j. in_arc g (foremost g s n) (step_at s j))
    (and_right (every n (λ j. ready g (step_at s j)) && not (eqb (foremost g s n) (no_tag g))) (every n (λ j. in_arc g (foremost g s n) (step_at s j))) e) i b

-- what it says of each port that an epoch is due
pub brought_owes_nothing : (g : Group) (s : List (List ℕ)) (n : ℕ) → brought g s n ≡ true → (i : ℕ) → i < n → owes_nothing g (port_at s i).step (port_at s i).marks ≡ true
unfolding brought
brought_owes_nothing g s n e i b = rw (port_step s i, port_marks s i) (every_at n (λ j. owes_nothing g (step_at s j) (marks_at s j)) e i b)

noted_state : (m : Member) (whole : Bool) (r : Ruling) → ((noted_by m whole r).state ≡ m.state) × ((noted_by m whole r).state_number ≡ m.state_number)
unfolding noted_by
noted_state m whole r = (refl, refl)

-- the word of a packet that was read is one of five

or_else : (none a b c d e : Bool) → (a || b || c || d || e) ≡ true → (none || a || b || c || d || e) ≡ true
or_else true a b c d e h = refl
or_else false a b c d e h = h

read_known : (kind : ℕ) (row : List ℕ) → (ruling_by (read_row kind row)).good ≡ true → lcas_word (ruling_by (read_row kind row)).word ≡ true
read_known kind row e =
    let w : ℕ = (ruling_by (read_row kind row)).word in
    or_else (eqb w no_word) (eqb w ADD) (eqb w NORM) (eqb w EOS) (eqb w IDLE) (eqb w DNU) (good_word kind row e)

-- by the kind
known_in : (kind epoch : ℕ) (ns : List ℕ) → (ruling_in kind epoch ns).good ≡ true → known_word kind (ruling_in kind epoch ns).word ≡ true
unfolding ruling_in
known_in kind epoch ns = rw (rules_as_read kind epoch ns) (go (eqb kind fixed_kind))
  where
    go : (b : Bool) → (cond b (fixed_ruling_of ns) (ruling_by (read_row kind ns))).good ≡ true
        → cond b (eqb (cond b (fixed_ruling_of ns) (ruling_by (read_row kind ns))).word no_word || eqb (cond b (fixed_ruling_of ns) (ruling_by (read_row kind ns))).word FIXED)
        (lcas_word (cond b (fixed_ruling_of ns) (ruling_by (read_row kind ns))).word)
        ≡ true
    go true e = rw (fixed_word ns) refl
    go false e = read_known kind ns e

ruling_known : (kind epoch : ℕ) (ns : List ℕ) → (own_ruling kind epoch ns).good ≡ true → known_word kind (own_ruling kind epoch ns).word ≡ true
unfolding own_ruling
ruling_known kind epoch ns =
    cond_by (λ (r : Ruling). r.good ≡ true → known_word kind r.word ≡ true) (without_mfi2 kind || own_number epoch ns) (ruling_in kind epoch ns) refused (λ own. known_in kind epoch ns)
    (λ other e. absurd (false≢true e))

noted_word : (m : Member) (whole : Bool) (kind epoch : ℕ) (nibbles : List ℕ) → known_word kind m.word ≡ true → known_word kind (noted_by m whole (own_ruling kind epoch nibbles)).word ≡ true
unfolding noted_by
noted_word m true kind epoch nibbles k = go (own_ruling kind epoch nibbles).good refl
  where
    go : (b : Bool) → (own_ruling kind epoch nibbles).good ≡ b → known_word kind (cond b (own_ruling kind epoch nibbles).word m.word) ≡ true
    go true e = ruling_known kind epoch nibbles e
    go false e = k
noted_word m false kind epoch nibbles k = k

passed_in : (g : Group) → flag_of g.begun ≡ true → GroupKept g → GroupKept (passed_group g)
unfolding passed_group
passed_in g on k =
    let W = windowed g k in
    record {
      sizes = k.sizes;
      origin = origin_within g (let least = W.least in let some = frames_two g.kind in omega arith);
      oldest = epoch_after_lt g.kind g.oldest;
      begun = k.begun;
      gathered = omega arith;
      ack = k.ack;
      idle_gathered = λ b. clash (flag_of g.begun) on b;
      idle_oldest = λ b. clash (flag_of g.begun) on b;
    }

module _ (s : List (List ℕ)) (k : Lasting s) where
  abbrev g : Group
  g = group_at s

  abbrev n : ℕ
  n = (group_at s).count

  enough : rows_for n ≤ length s
  enough = let e = k.rows in omega arith

  -- the port's own rows after a frame
  pub lasting_frame : (i : ℕ) (failed : Bool) (h : ℕ) → i < n → Lasting (port_rows g.kind s i (taken_in s i failed h) h)
  lasting_frame i failed h b =
      record {
        rows = rw group (length_frame g.kind s i t h ∙ k.rows);
        group = rw group k.group;
        ports = λ j c.
            ⊎_elim (λ (e : j ≡ i). rw (e, group, port) here) (λ (d : j ≢ i). rw (group, frame_other g.kind s i t h j d) (k.ports j (rw group at c)))
            (eq_or_ne j i);
        members = rw group (ok_same n (λ j. (port_at s j).member) (λ j. (port_at (port_rows g.kind s i t h) j).member) same k.members);
      }
    where
      t : Taken
      t = taken_in s i failed h

      is : t ≡ taken_of g (port_at s i).step failed (odd_in s i h) h
      is = ap (λ (q : Step). taken_of g q failed (odd_in s i h) h) (sym (port_step s i))

      group : group_at (port_rows g.kind s i t h) ≡ g
      group = frame_group g.kind s i t h

      port : port_at (port_rows g.kind s i t h) i ≡ frame_on g.kind (port_at s i) t h
      port = frame_port g.kind s i t h n b enough

      o : PortIn g (port_at s i)
      o = k.ports i b

      here : PortIn g (frame_on g.kind (port_at s i) t h)
      here =
          record {
            kept = rw is (taken_kept g (port_at s i).step (port_at s i).marks failed (odd_in s i h) h (windowed g k.group) o.kept);
            unruled = λ f. rw is (taken_whole g (port_at s i).step failed (odd_in s i h) h ∙ o.unruled f);
            word = o.word;
          }

      same : (j : ℕ) → j < n → ((port_at (port_rows g.kind s i t h) j).member.state ≡ (port_at s j).member.state)
          × ((port_at (port_rows g.kind s i t h) j).member.state_number ≡ (port_at s j).member.state_number)
      same j c =
          ⊎_elim (λ (e : j ≡ i). rw (e, port) (refl, refl)) (λ (d : j ≢ i). rw (frame_other g.kind s i t h j d) (refl, refl)) (eq_or_ne j i)

  -- receiving stops
  pub lasting_stopped : Lasting (stopped_of g n s)
  lasting_stopped =
      record {
        rows = rw group (length_stopped g n s ∙ k.rows);
        group = rw group stopped;
        ports = λ i c.
            let b : i < n = rw group at c in
            let o = k.ports i b in
            rw (group, stopped_port g n s i b enough)
            (record { kept = stopped_kept g (port_at s i).step (port_at s i).marks o.kept g.origin g.rs_ack; unruled = λ f. cleared_whole (port_at s i).step false; word = o.word });
        members =
            rw group
            (ok_same n (λ i. (port_at s i).member) (λ i. (port_at (stopped_of g n s) i).member) (λ i b. rw (stopped_port g n s i b enough) (refl, refl)) k.members);
      }
    where
      group : group_at (stopped_of g n s) ≡ group_to g 0 0 0 g.origin g.rs_ack
      group = stopped_group g n s (let e = k.rows in omega arith)

      stopped : GroupKept (group_to g 0 0 0 g.origin g.rs_ack)
      stopped =
          record {
            sizes = k.group.sizes;
            origin = k.group.origin;
            oldest = epochs_some g.kind;
            begun = omega arith;
            gathered = omega arith;
            ack = k.group.ack;
            idle_gathered = λ b. refl;
            idle_oldest = λ b. refl;
          }

  -- receiving begins
  pub lasting_begun : begins g s n ≡ true → Lasting (begun_of g n s)
  lasting_begun starts =
      record {
        rows = rw group (length_begun g n s ∙ k.rows);
        group = rw group begun;
        ports = λ i c.
            let b : i < n = rw group at c in
            let o = k.ports i b in
            rw (group, begun_port g n s i b enough)
            (record {
              kept = begun_kept g (port_at s i).step (port_at s i).marks (windowed g k.group) o.kept (foremost g s n) g.origin g.rs_ack (arc i b);
              unruled = λ f. cleared_whole (port_at s i).step (in_step g (port_at s i).step);
              word = o.word;
            });
        members =
            rw group
            (ok_same n (λ i. (port_at s i).member) (λ i. (port_at (begun_of g n s) i).member) (λ i b. rw (begun_port g n s i b enough) (refl, refl)) k.members);
      }
    where
      group : group_at (begun_of g n s) ≡ group_to g 1 0 (epoch_after g.kind (epoch_of g.kind (foremost g s n))) g.origin g.rs_ack
      group = begun_group g n s (let e = k.rows in omega arith)

      arc : (i : ℕ) → i < n → in_arc g (foremost g s n) (port_at s i).step ≡ true
      arc i b = rw (port_step s i) (begins_within g s n starts i b)

      begun : GroupKept (group_to g 1 0 (epoch_after g.kind (epoch_of g.kind (foremost g s n))) g.origin g.rs_ack)
      begun =
          record {
            sizes = k.group.sizes;
            origin = k.group.origin;
            oldest = epoch_after_lt g.kind (epoch_of g.kind (foremost g s n));
            begun = omega arith;
            gathered = omega arith;
            ack = k.group.ack;
            idle_gathered = λ b. refl;
            idle_oldest = λ b. absurd (true≢false b);
          }

  -- an epoch that is due is passed
  pub lasting_passed : (store : List ℕ) → flag_of g.begun ≡ true → brought g s n ≡ true → Lasting (passed_of g store n s)
  lasting_passed store on due =
      record {
        rows = rw group (rw same_count (length_passed g store n s ∙ k.rows));
        group = rw group passed;
        ports = λ i c.
            let b : i < n = rw (group, same_count) at c in
            let o = k.ports i b in
            rw (group, passed_of_port g store n s i b enough)
            (record {
              kept = passed_kept g (port_at s i).step (port_at s i).marks o.kept on (brought_owes_nothing g s n due i b);
              unruled = λ f. clash (flag_of (passed_group g).gathered) (rw (passed_gathered g) refl) f;
              word = rw (passed_kind g) (noted_word (port_at s i).member (first_mark (port_at s i).marks) g.kind g.oldest (packet_in g i store) o.word);
            });
        members =
            rw (group, same_count)
            (ok_same n (λ i. (port_at s i).member) (λ i. (port_at (passed_of g store n s) i).member)
            (λ i b. rw (passed_of_port g store n s i b enough) (noted_state (port_at s i).member _ _)) k.members);
      }
    where
      group : group_at (passed_of g store n s) ≡ passed_group g
      group = passed_group_lem g store n s (let e = k.rows in omega arith)

      same_count : (passed_group g).count ≡ n
      same_count = passed_count g

      passed : GroupKept (passed_group g)
      passed = passed_in g on k.group
