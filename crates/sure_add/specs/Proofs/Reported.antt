-- A report on any state: what it sees of each port, what it leaves of it, and what MST then says.
use Rattle.std.specs.Prelude.{◌≡◌, Bool, true, false, ◌&&◌, List, [], ◌∷◌, ℕ, ◌+◌, ◌≤◌, ◌<◌, eqb, get_or, length}
use Rattle.std.proofs.Math.Path.{refl, ap}
use Rattle.std.proofs.Common.{sym, ◌∙◌}
use Rattle.std.proofs.Math.Bool.{not}
use Rattle.ground.specs.Counting.Laws.Tests.{some_ext}
use Rattle.ground.specs.Counting.Words.{some}
use Rattle.packet.specs.declared.ruling.Ruling.{Ruling}
use Rattle.packet.specs.Kinds.{fixed_kind, mst_fails, mst_first}
use Rattle.packet.specs.Mst.{Spoken}
use Rattle.packet.specs.Theorems.Tags.{mst_eight}
use Rattle.phases.specs.Laws.Passed.{passed_of_port}
use Rattle.phases.specs.Passing.{noted_by}
use Rattle.phases.specs.Sizes.{ports_in}
use Rattle.receiver.specs.Fetch.{fetch_of}
use Rattle.receiver.specs.Laws.Sizes.{size_is}
use Rattle.receiver.specs.Laws.Told.{reply_port_lem}
use Rattle.receiver.specs.Report.{reply_port, reply_ports}
use Rattle.receiver.specs.Shown.{reply_of}
use Rattle.reply.specs.declared.members.Port.{Port as ReplyPort}
use Rattle.reply.specs.Members.{ok_state}
use Rattle.reply.specs.Members as R
use Rattle.reply.specs.Telling.{ok_holds}
use Rattle.reply.specs.Theorems.Mst.{mst_says}
use Rattle.reply.specs.Waiting.{standing_at}
use Rattle.rows.specs.declared.group.Group.{Group}
use Rattle.rows.specs.declared.member.Member.{Member}
use Rattle.rows.specs.Group.{group_at}
use Rattle.rows.specs.Laws.Port.{port_marks, port_member}
use Rattle.rows.specs.Member.{member_at}
use Rattle.rows.specs.Packets.{marks_at}
use Rattle.rows.specs.Port.{Port}
use Rattle.rows.specs.Rows.{rows_for}
use Rattle.step.specs.OwnCount.{own_ruling}
use Rattle.store.specs.Frames.{packet_in}
use Rattle.store.specs.Marks.{first_mark}
use Rattle.invariant.specs.Reports.{Given, passed_rows}
use Rattle.invariant.specs.Theorems.{report_standing}
use Rattle.invariant.specs.Times.{standing_in}

-- an OK port holds q
abbrev pub ok_in : List (List ℕ) → ℕ → Bool
ok_in s q = some (ports_in (group_at s)) (λ p. eqb (member_at s p).state ok_state && eqb (member_at s p).state_number q)

module _ (s : List (List ℕ)) (few : ports_in (group_at s) ≤ 64) (lcas : eqb (group_at s).kind fixed_kind ≡ false) where
  abbrev now : List ReplyPort
  now = reply_ports (group_at s) s (ports_in (group_at s))

  holds_same : (q : ℕ) → ok_holds now (ports_in (group_at s)) q ≡ ok_in s q
  unfolding ok_holds reply_port
  holds_same q = some_ext (ports_in (group_at s)) _ _ (λ p b. rw (reply_port_lem (group_at s) s (ports_in (group_at s)) p few b) refl)

  -- MST says OK of q where it speaks of it exactly if an OK port holds q
  pub mst_in : (e q : ℕ) → Spoken (group_at s).kind e q → mst_fails (get_or (reply_of s e) 0 0) q ≡ not (ok_in s q)
  unfolding reply_of
  mst_in e q o = rw (lcas, size_is (ports_in (group_at s)) few, ← o.is) (mst_says (group_at s).kind now (ports_in (group_at s)) e o.place (rw (mst_eight (group_at s).kind) at o.below) ∙ ap not (holds_same (mst_first (group_at s).kind e + o.place)))

module _ (s : List (List ℕ)) (store out report : List ℕ) (given : Given s store out report) (few : ports_in (group_at s) ≤ 64) (enough : rows_for (ports_in (group_at s)) ≤ length s) where
  abbrev g : Group
  g = group_at s

  abbrev n : ℕ
  n = ports_in g

  abbrev passed : List (List ℕ)
  passed = passed_rows s store

  abbrev seen : List ReplyPort
  seen = reply_ports (group_at passed) passed n

  abbrev heard : ℕ → Ruling
  heard p = own_ruling g.kind g.oldest (packet_in g p store)

  pub sees : (p : ℕ) → p < n → R.port_at seen p ≡ reply_port (group_at passed) passed p
  sees p b = reply_port_lem (group_at passed) passed n p few b

  -- the member's row as the epoch has passed
  member_is : (p : ℕ) → p < n → member_at passed p ≡ noted_by (member_at s p) (first_mark (marks_at s p)) (heard p)
  member_is p b = sym (port_member passed p) ∙ ap (λ (q : Port). q.member) (passed_of_port g store n s p b enough) ∙ rw (port_member s p, port_marks s p) refl

  -- its state and what goes with it are those of the report before
  pub seen_state : (p : ℕ) → p < n → (R.port_at seen p).state ≡ (member_at s p).state
  unfolding reply_port noted_by
  seen_state p b = ap (λ (q : ReplyPort). q.state) (sees p b) ∙ ap (λ (m : Member). m.state) (member_is p b)

  pub seen_under : (p : ℕ) → p < n → (R.port_at seen p).state_number ≡ (member_at s p).state_number
  unfolding reply_port noted_by
  seen_under p b = ap (λ (q : ReplyPort). q.state_number) (sees p b) ∙ ap (λ (m : Member). m.state_number) (member_is p b)

  pub seen_elapsed : (p : ℕ) → p < n → (R.port_at seen p).elapsed ≡ (member_at s p).elapsed
  unfolding reply_port noted_by
  seen_elapsed p b = ap (λ (q : ReplyPort). q.elapsed) (sees p b) ∙ ap (λ (m : Member). m.elapsed) (member_is p b)

  -- of a packet that is whole and good its word and number are seen
  module _ (p : ℕ) (b : p < n) (whole : first_mark (marks_at s p) ≡ true) (good : (heard p).good ≡ true) where
    pub seen_word : (R.port_at seen p).word ≡ (heard p).word
    unfolding reply_port noted_by
    seen_word = ap (λ (q : ReplyPort). q.word) (sees p b) ∙ ap (λ (m : Member). m.word) (member_is p b) ∙ rw (whole, good) refl

    pub seen_number : (R.port_at seen p).number ≡ (heard p).number
    unfolding reply_port noted_by
    seen_number = ap (λ (q : ReplyPort). q.number) (sees p b) ∙ ap (λ (m : Member). m.number) (member_is p b) ∙ rw (whole, good) refl

  -- what is left of each port
  abbrev after : List (List ℕ)
  after = (fetch_of s store out report).rows

  left : (p : ℕ) → p < n → standing_in after p ≡ ((standing_at seen n p).state ∷ (standing_at seen n p).number ∷ (member_at s p).hold_off ∷ (member_at s p).restore ∷ (standing_at seen n p).elapsed ∷ [])
  left p b = report_standing p s store out report given b ∙ rw (size_is n few) refl

  pub left_state : (p : ℕ) → p < n → (member_at after p).state ≡ (standing_at seen n p).state
  left_state p b = ap (λ (l : List ℕ). get_or l 0 0) (left p b)

  pub left_under : (p : ℕ) → p < n → (member_at after p).state_number ≡ (standing_at seen n p).number
  left_under p b = ap (λ (l : List ℕ). get_or l 1 0) (left p b)

  pub left_elapsed : (p : ℕ) → p < n → (member_at after p).elapsed ≡ (standing_at seen n p).elapsed
  left_elapsed p b = ap (λ (l : List ℕ). get_or l 4 0) (left p b)
