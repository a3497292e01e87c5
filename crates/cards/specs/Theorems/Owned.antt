-- After any calls from a start: a slot that is not IDLE in a group's table is that group's, no slot is a member of both, and 'Demand 2 reads per group' (02, 2026-06).
use Rattle.std.specs.Prelude.{◌≡◌, refl, ◌≢◌, Bool, true, false, cond, ◌&&◌, ◌||◌, List, [], ◌∷◌, ◌++◌, ℕ, ◌<◌, eqb, ltb}
use Rattle.std.proofs.Common.{◌∙◌, sym, ap, ⊎_elim, true≢false, arith, eqb-true}
use Rattle.std.proofs.lemmas.Bool.{false≢true, eqb-false}
use Rattle.ground.specs.Table.{get_or_tabulate}
use Rattle.packet.specs.Words.{IDLE}
use Rattle.sender.specs.SenderRuns.{Demand2Kept}
use Rattle.sender.specs.Theorems.Epochs.{demand2_kept}
use Rattle.sender.specs.declared.board.Board.{Board as B}
use Rattle.sender.specs.declared.board.Row.{Row as R}
use Rattle.sender.specs.declared.epochs.Sender.{Sender}
use Rattle.sender.specs.Answers.{SenderOutcome}
use Rattle.sender.specs.Answers.{Answer as S}
use Rattle.sender.specs.declared.table.State.{State}
use Rattle.sender.specs.declared.table.State.TheVariants.{Idle, Add, Active, Dnu}
use Rattle.sender.specs.declared.table.Table.{Table}
use Rattle.sender.specs.Board.{board_of, highest, row_of, word_of}
use Rattle.sender.specs.Calls.{Call as C}
use Rattle.sender.specs.Commands as T
use Rattle.sender.specs.Epochs.{SenderCall, begin_of, fresh_sender, sender_outcome_of, sender_run, start_epoch_of, started_sender}
use Rattle.sender.specs.Epochs.{SenderCall as E}
use Rattle.sender.specs.Laws.Carrying.{board_row}
use Rattle.sender.specs.Laws.Kept.{group_call, start_idle}
use Rattle.sender.specs.Laws.Sizes.{size_le}
use Rattle.sender.specs.Numbering.{slots_in, state_in}
use Rattle.sender.specs.Ranks.{row_at}
use Rattle.sender.specs.Table.{is_member, slot_count, slot_at}
use Rattle.cards.specs.Views.{Asked, Made, View, bit_of, card_after, card_from, run, view_of}
use Rattle.cards.specs.Answers.{Answer as A}
use Rattle.cards.specs.declared.card.Card.{Card}
use Rattle.cards.specs.Alone.{Seen, outcome_seen, own_in, own_seen, seen, sent_seen, slot_in, view_after, with_own}
use Rattle.cards.specs.Calls.{Call}
use Rattle.cards.specs.Calls.Call.{Claim, Release, AddSlot, RemoveSlot, Report, Lapse, StartEpoch}
use Rattle.cards.specs.Commands.{start_of}
use Rattle.cards.specs.Laws.Members.{add_member, lapse_keeps, member_at, remove_member, report_keeps}
use Rattle.cards.specs.Laws.Seeing.{own_is}
use Rattle.cards.specs.Owners.{owner_in}
use Rattle.cards.specs.Parts.{owns, sender_of}
use Rattle.cards.specs.Theorems.Apart.{others_keep, own_view}
use Rattle.cards.specs.Views.Asked.{Do, Packet, Payload, Board, Outgoing, Ranks, Owned}

-- what holds of a group's view after any calls: every member is owned, the count is the start's, and the sender has come from its start by calls of its own
record Tidy (count : ℕ) (s : Sender) (v : View) : Type 0 where
  own : (j : ℕ) → j < slot_count count → j < 64 → member_at v.sender.table.slots j ≡ true → own_in v j ≡ true
  slots : v.sender.table.count ≡ count
  calls : List SenderCall
  is : v.sender ≡ sender_run s calls

one_more : (s : Sender) (cs : List SenderCall) (k : SenderCall) → (sender_outcome_of (sender_run s cs) k).sender ≡ sender_run s (cs ++ (k ∷ []))
one_more s [] k = refl
one_more s (c ∷ cs) k = one_more (sender_outcome_of s c).sender cs k

own_with : (v : View) (i j : ℕ) (b : Bool) → j < 64 → own_in (with_own v i b) j ≡ cond (eqb j i) b (own_in v j)
own_with v i j b h = get_or_tabulate 64 (λ k. cond (eqb k i) b (own_in v k)) j false h

started_table : (s : Sender) (gid mst ack : ℕ) → (start_epoch_of s gid mst ack).sender.table ≡ s.table
unfolding start_epoch_of started_sender
started_table s gid mst ack = go (ltb gid 2 && ltb ack 2)
  where
    go : (b : Bool) → (cond {A = SenderOutcome} b (record { sender = started_sender s gid mst ack; answer = S.Done }) (record { sender = s; answer = S.Field })).sender.table ≡ s.table
    go true = refl
    go false = refl

module _ (count : ℕ) (s : Sender) (v : View) (o : Tidy count s v) where
  tidy_cond : (b : Bool) (x y : Seen) → (b ≡ true → Tidy count s x.view) → (b ≡ false → Tidy count s y.view) → Tidy count s (cond b x y).view
  tidy_cond true x y p q = p refl
  tidy_cond false x y p q = q refl

  tidy_claim : (i : ℕ) → Tidy count s (with_own v i true)
  tidy_claim i =
      record {
        own = λ j l h m. own_with v i j true h ∙ at (eqb j i) (own_in v j) (o.own j l h m);
        slots = o.slots;
        calls = o.calls;
        is = o.is;
      }
    where
      at : (b w : Bool) → w ≡ true → cond b true w ≡ true
      at true w e = refl
      at false w e = e

  tidy_release : (i : ℕ) → member_at v.sender.table.slots i ≡ false → Tidy count s (with_own v i false)
  tidy_release i idle =
      record {
        own = λ j l h m. own_with v i j false h ∙ at j m (o.own j l h m) (eqb j i) refl;
        slots = o.slots;
        calls = o.calls;
        is = o.is;
      }
    where
      at : (j : ℕ) → member_at v.sender.table.slots j ≡ true → own_in v j ≡ true → (b : Bool) → eqb j i ≡ b → cond b false (own_in v j) ≡ true
      at j m e true same = absurd (true≢false (sym m ∙ ap (λ (k : ℕ). member_at v.sender.table.slots k) (eqb-true j i same) ∙ idle))
      at j m e false same = e

  tidy_sent : (k : SenderCall) → (sender_outcome_of v.sender k).sender.table.count ≡ v.sender.table.count
      → ((j : ℕ) → member_at (sender_outcome_of v.sender k).sender.table.slots j ≡ true → j < 64 → (member_at v.sender.table.slots j ≡ true → own_in v j ≡ true) → own_in v j ≡ true)
      → Tidy count s (sent_seen v k).view
  tidy_sent k still grown =
      record {
        own = λ j l h m. grown j m h (o.own j l h);
        slots = still ∙ o.slots;
        calls = o.calls ++ (k ∷ []);
        is = ap (λ (x : Sender). (sender_outcome_of x k).sender) o.is ∙ one_more s o.calls k;
      }

  tidy_own : (i : ℕ) (r : Seen) → (own_in v i ≡ true → Tidy count s r.view) → Tidy count s (own_seen v i r).view
  tidy_own i r t = tidy_cond (slot_in v i) _ (seen v A.NoSlot) (λ l. tidy_cond (own_in v i) r (seen v A.Owned) t (λ n. o)) (λ l. o)

  tidy_call : (k : Call) (taken : Bool) → Tidy count s (outcome_seen v k taken).view
  tidy_call (Claim i) taken =
      tidy_cond (slot_in v i) _ (seen v A.NoSlot) (λ l. tidy_cond (own_in v i || taken) (seen v A.Owned) (seen (with_own v i true) A.Done) (λ n. o) (λ n. tidy_claim i)) (λ l. o)
  tidy_call (Release i) taken =
      tidy_own i _ (λ n. tidy_cond (member_at v.sender.table.slots i) (seen v A.Used) (seen (with_own v i false) A.Done) (λ u. o) (λ u. tidy_release i u))
  tidy_call (AddSlot i) taken =
      tidy_own i _
      (λ mine.
      tidy_sent (E.OnTable (C.AddSlot i)) (group_call v.sender.table (C.AddSlot i)).count
      (λ j m h old.
      ⊎_elim (λ (w : member_at v.sender.table.slots j ≡ true). old w) (λ (e : j ≡ i). ap (λ (k : ℕ). own_in v k) e ∙ mine) (add_member v.sender.table i j m)))
  tidy_call (RemoveSlot i) taken =
      tidy_own i _
      (λ mine. tidy_sent (E.OnTable (C.RemoveSlot i)) (group_call v.sender.table (C.RemoveSlot i)).count (λ j m h old. old (remove_member v.sender.table i j m)))
  tidy_call (Report e mst ack) taken =
      tidy_sent (E.OnTable (C.Report e mst ack)) (group_call v.sender.table (C.Report e mst ack)).count (λ j m h old. old (report_keeps v.sender.table e mst ack j m))
  tidy_call Lapse taken = tidy_sent (E.OnTable C.Lapse) (group_call v.sender.table C.Lapse).count (λ j m h old. old (lapse_keeps v.sender.table j m))
  tidy_call (StartEpoch gid mst ack) taken =
      let same = started_table v.sender gid mst ack in
      tidy_sent (E.StartEpoch gid mst ack) (ap (λ (t : Table). t.count) same) (λ j m h old. old (sym (ap (λ (t : Table). member_at t.slots j) same) ∙ m))

  tidy_after : (k : Asked) (taken : Bool) → Tidy count s (view_after v k taken)
  tidy_after (Do k) taken = tidy_call k taken
  tidy_after (Packet i h4) taken = o
  tidy_after (Payload i p frame member) taken = o
  tidy_after Board taken = o
  tidy_after Outgoing taken = o
  tidy_after Ranks taken = o
  tidy_after Owned taken = o

tidy_run : (count : ℕ) (s : Sender) (g : ℕ) → g < 2 → (c : Card) (ms : List Made) → Tidy count s (view_of g c) → Tidy count s (view_of g (run c ms))
tidy_run count s g hg c [] o = o
tidy_run count s g hg c (m ∷ ms) o = tidy_run count s g hg (card_after c m.group m.asked) ms (next (eqb m.group g) refl)
  where
    next : (b : Bool) → eqb m.group g ≡ b → Tidy count s (view_of g (card_after c m.group m.asked))
    next true e =
        rw (eqb-true m.group g e, own_view c g hg m.asked) (tidy_after count s (view_of g c) o m.asked (bit_of c g m.asked))
    next false e = rw (others_keep c g m.group m.asked hg (eqb-false m.group g e)) o

-- the number of a group's first epoch
abbrev epoch_of : ℕ → ℕ → ℕ → ℕ
epoch_of g e₀ e₁ = cond (eqb g 0) e₀ e₁

started_sender_lem : (kind count e₀ e₁ g : ℕ) → sender_of (start_of kind count e₀ e₁).card g ≡ (begin_of kind count (epoch_of g e₀ e₁)).sender
unfolding sender_of start_of
started_sender_lem kind count e₀ e₁ g = go (eqb g 0)
  where
    go : (b : Bool) → cond b (begin_of kind count e₀).sender (begin_of kind count e₁).sender ≡ (begin_of kind count (cond b e₀ e₁)).sender
    go true = refl
    go false = refl

begun_table : (kind count e : ℕ) → (begin_of kind count e).sender.table ≡ (T.start_of kind count).table
unfolding begin_of fresh_sender
begun_table kind count e = refl

-- the count that a start leaves: 0 where it is refused
abbrev pub count_of : ℕ → ℕ → ℕ
count_of kind count = (T.start_of kind count).table.count

tidy_start : (kind count e₀ e₁ g : ℕ) → Tidy (count_of kind count) (begin_of kind count (epoch_of g e₀ e₁)).sender (view_of g (start_of kind count e₀ e₁).card)
unfolding view_of
tidy_start kind count e₀ e₁ g =
    let same : (sender_of (start_of kind count e₀ e₁).card g).table ≡ (T.start_of kind count).table =
    ap (λ (x : Sender). x.table) (started_sender_lem kind count e₀ e₁ g) ∙ begun_table kind count (epoch_of g e₀ e₁) in
    record {
      own = λ j l h m. absurd (false≢true (sym (ap (λ (t : Table). member_at t.slots j) same ∙ ap is_member (start_idle kind count j l)) ∙ m));
      slots = ap (λ (t : Table). t.count) same;
      calls = [];
      is = started_sender_lem kind count e₀ e₁ g;
    }

member_seen : (c : Card) (g i : ℕ) → is_member (state_in (sender_of c g).table i) ≡ true → member_at (view_of g c).sender.table.slots i ≡ true
unfolding view_of
member_seen c g i m = m

not_both : (c : Card) (i : ℕ) → owns c 0 i ≡ true → owns c 1 i ≡ true → ⊥
unfolding owns
not_both c i a b = let x = eqb-true (owner_in c.owners i) 1 a in let y = eqb-true (owner_in c.owners i) 2 b in omega arith

goes_out : (s : Sender) (gid mst ack : ℕ) → (ltb gid 2 && ltb ack 2) ≡ true → (start_epoch_of s gid mst ack).sender.outgoing ≡ board_of s.table
unfolding start_epoch_of started_sender
goes_out s gid mst ack h = ap (λ (b : Bool). (cond {A = SenderOutcome} b (record { sender = started_sender s gid mst ack; answer = S.Done }) (record { sender = s; answer = S.Field })).sender.outgoing) h

word_member : (s : State) (last : Bool) → (word_of s last).0 ≢ IDLE → is_member s ≡ true
word_member Idle last n = absurd (n refl)
word_member Add last n = refl
word_member Active last n = refl
word_member Dnu last n = refl

shown_member : (t : Table) (i : ℕ) → i < slots_in t → (row_at (board_of t).rows i).word.0 ≢ IDLE → is_member (state_in t i) ≡ true
unfolding row_of
shown_member t i l n =
    word_member (state_in t i) (highest t.slots (slots_in t) (slot_at t.slots i).number) (λ e. n (ap (λ (r : R). r.word.0) (board_row t i l) ∙ e))

module _ (kind count e₀ e₁ : ℕ) (ms : List Made) where
  abbrev c : Card
  c = card_from kind count e₀ e₁ ms

  tidy : (g : ℕ) → g < 2 → Tidy (count_of kind count) (begin_of kind count (epoch_of g e₀ e₁)).sender (view_of g c)
  tidy g hg = tidy_run (count_of kind count) (begin_of kind count (epoch_of g e₀ e₁)).sender g hg (start_of kind count e₀ e₁).card ms (tidy_start kind count e₀ e₁ g)

  -- both groups have the start's count of slots
  pub counts : (g : ℕ) → g < 2 → (sender_of c g).table.count ≡ count_of kind count
  unfolding view_of
  counts g hg = (tidy g hg).slots

  pub members_owned : (g i : ℕ) → g < 2 → i < slots_in (sender_of c g).table → is_member (state_in (sender_of c g).table i) ≡ true → owns c g i ≡ true
  members_owned g i hg l m = owned_of (sender_of c g).table.count (counts g hg) l
    where
      owned_of : (n : ℕ) → n ≡ count_of kind count → i < slot_count n → owns c g i ≡ true
      owned_of n e b =
          let low : i < 64 = omega (arith, size_le n) in
          own_is c g i low ∙ (tidy g hg).own i (rw (sym e) b) low (member_seen c g i m)

  pub in_one_group : (i : ℕ) → i < slots_in (sender_of c 0).table → i < slots_in (sender_of c 1).table → is_member (state_in (sender_of c 0).table i) ≡ true → is_member (state_in (sender_of c 1).table i) ≡ true → ⊥
  in_one_group i l₀ l₁ m₀ m₁ = not_both c i (members_owned 0 i (omega arith) l₀ m₀) (members_owned 1 i (omega arith) l₁ m₁)

  pub demand2_each : (g : ℕ) → g < 2 → Demand2Kept (sender_of c g)
  unfolding view_of
  demand2_each g hg = let o = tidy g hg in rw o.is (demand2_kept kind count (epoch_of g e₀ e₁) o.calls)

  -- at the start of an epoch, every slot that the board going out shows other than IDLE is the group's
  pub outgoing_owned : (g gid mst ack i : ℕ) → g < 2 → (ltb gid 2 && ltb ack 2) ≡ true → i < slots_in (sender_of c g).table
      → (row_at (start_epoch_of (sender_of c g) gid mst ack).sender.outgoing.rows i).word.0 ≢ IDLE → owns c g i ≡ true
  outgoing_owned g gid mst ack i hg fits l shown =
      members_owned g i hg l (shown_member (sender_of c g).table i l (λ e. shown (ap (λ (b : B). (row_at b.rows i).word.0) (goes_out (sender_of c g) gid mst ack fits) ∙ e)))
