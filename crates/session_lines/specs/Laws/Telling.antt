-- The table that lines leave by their answers, and that it is what they told.
use Rattle.std.specs.Prelude.{◌≡◌, refl, Bool, true, false, ◌&&◌, ◌||◌, leb, ltb, length, if◌then◌else◌}
use Rattle.std.proofs.Math.Path.{sym, ap}
use Rattle.std.proofs.Common.{◌∙◌, true≢false, arith, eq-eqb, ne_eqb, le-ltb, lt-ltb, leb-true, leb-false, ltb-true}
use Rattle.std.proofs.lemmas.Bool.{false≢true}
use mathlib.Core.List.{List, [], ◌∷◌, ◌++◌, append_assoc, append-nil}
use Prim.Native.Nat.{ℕ, ◌+◌, ◌≤◌}
use Rattle.std.proofs.Math.ListN.{take}
use Rattle.ground.specs.Finding.{index_of}
use Rattle.ground.specs.Truth.{and_left, and_right}
use Rattle.sender.specs.declared.table.Table.{Table}
use Rattle.sender.specs.Calls.{run}
use Rattle.sender.specs.Commands.{start_of}
use Rattle.sender.specs.Laws.Kept.{kind_run, start_kind}
use Rattle.sender.specs.Laws.Runs.{run_append}
use Rattle.session_lines.specs.declared.line.Line.{Line}
use Rattle.session_lines.specs.declared.line.Line.TheVariants.{Size, Add, Remove, Report, Lapse, Board, Malformed}
use Rattle.session_lines.specs.declared.session.Session.{Session}
use Rattle.session_lines.specs.Kept.{line_in}
use Rattle.session_lines.specs.Laws.Holding.{Holds, holds_more, holds_nothing, kept_line}
use Rattle.session_lines.specs.Line.{line_of}
use Rattle.session_lines.specs.Output.{ROOM}
use Rattle.session_lines.specs.Replies.{reply_of, size_reply}
use Rattle.session_lines.specs.Session.{beginning, fed_session, feed_of, has_end, kept_with, table_after, used_of}
use Rattle.session_lines.specs.Told.{Feed, call_of, calls_in, ended_from, ended_in, fed_by, has_size, is_size, last_size, meant, since_size, accepted_size, told_table, used_by}
use Rattle.text.specs.Laws.Lines.{Free, free_append, free_line, free_take, with_end_lem}
use Rattle.text.specs.Text.{LINE-END, lines_of}

-- the table that lines leave by their answers, one behind the other
abbrev pub table_behind : Table → List (List ℕ) → Table
table_behind t [] = t
table_behind t (l ∷ ls) = table_behind (table_after t l) ls

behind_append : (t : Table) (x y : List (List ℕ)) → table_behind t (x ++ y) ≡ table_behind (table_behind t x) y
behind_append t [] y = refl
behind_append t (l ∷ x) y = behind_append (table_after t l) x y

-- a size that is accepted starts afresh, whatever the table
accepted : (t : Table) (n : ℕ) → is_size (Size n) ≡ true → (size_reply t n).table ≡ (start_of t.kind n).table
unfolding size_reply start_of
accepted t n e =
    let a : 1 ≤ n = leb-true 1 n (and_left (leb 1 n) (leb n 64) e) in
    let b : n ≤ 64 = leb-true n 64 (and_right (leb 1 n) (leb n 64) e) in
    rw (ne_eqb n 0 (λ (z : n ≡ 0). omega arith), le-ltb 64 n b)

-- and one that is refused leaves it
refused : (t : Table) (n : ℕ) → is_size (Size n) ≡ false → (size_reply t n).table ≡ t
unfolding size_reply start_of
refused t n e = go (leb 1 n) (leb n 64) refl refl e
  where
    go : (a b : Bool) → leb 1 n ≡ a → leb n 64 ≡ b → (a && b) ≡ false → (size_reply t n).table ≡ t
    go false b p q f = let z : n ≡ 0 = (let h = leb-false 1 n p in omega arith) in rw (eq-eqb n 0 z)
    go true true p q f = absurd (true≢false f)
    go true false p q f =
        let h = leb-false n 64 q in
        rw (ne_eqb n 0 (λ (z : n ≡ 0). omega arith), lt-ltb 64 n (omega arith))

pub size_line : (t : Table) (l : Line) → is_size l ≡ true → t.kind ≡ 0 → (reply_of t l).table ≡ (start_of 0 (accepted_size l)).table
unfolding reply_of
size_line t (Size n) e k = accepted t n e ∙ rw (k, e)
size_line t (Add i) e k = absurd (false≢true e)
size_line t (Remove i) e k = absurd (false≢true e)
size_line t (Report epoch mst ack) e k = absurd (false≢true e)
size_line t Lapse e k = absurd (false≢true e)
size_line t Board e k = absurd (false≢true e)
size_line t Malformed e k = absurd (false≢true e)

pub call_line : (t : Table) (l : Line) → is_size l ≡ false → (reply_of t l).table ≡ run t (call_of l)
unfolding reply_of
call_line t (Size n) e = refused t n e
call_line t (Add i) e = refl
call_line t (Remove i) e = refl
call_line t (Report epoch mst ack) e = refl
call_line t Lapse e = refl
call_line t Board e = refl
call_line t Malformed e = refl

pub kind_line : (t : Table) (l : Line) → t.kind ≡ 0 → (reply_of t l).table.kind ≡ 0
kind_line t l k = go (is_size l) refl
  where
    go : (b : Bool) → is_size l ≡ b → (reply_of t l).table.kind ≡ 0
    go true e = ap (λ (u : Table). u.kind) (size_line t l e k) ∙ start_kind 0 (accepted_size l)
    go false e = ap (λ (u : Table). u.kind) (call_line t l e) ∙ kind_run t (call_of l) ∙ k

-- lines behind a table: what they told if there is a size among them, and else their calls on it
told_from_lem : (t : Table) (ls : List (List ℕ)) → t.kind ≡ 0 → table_behind t ls ≡ (if has_size (meant ls) then told_table ls else run t (calls_in (meant ls)))
unfolding told_table
told_from_lem t [] k = refl
told_from_lem t (l ∷ ls) k = go (is_size (line_of l)) (has_size (meant ls)) refl refl (told_from_lem (table_after t l) ls (kind_line t (line_of l) k))
  where
    go : (a b : Bool) → is_size (line_of l) ≡ a → has_size (meant ls) ≡ b
        → table_behind (table_after t l) ls ≡ (if has_size (meant ls) then told_table ls else run (table_after t l) (calls_in (meant ls)))
        → table_behind (table_after t l) ls ≡ (if is_size (line_of l) || has_size (meant ls) then told_table (l ∷ ls) else run t (call_of (line_of l) ++ calls_in (meant ls)))
    go true true p q h = rw (p, q) (rw q at h)
    go false true p q h = rw (p, q) (rw q at h)
    go true false p q h = rw (p, q) ((rw q at h) ∙ ap (λ (u : Table). run u (calls_in (meant ls))) (size_line t (line_of l) p k))
    go false false p q h =
        rw (p, q)
        ((rw q at h) ∙ ap (λ (u : Table). run u (calls_in (meant ls))) (call_line t (line_of l) p) ∙ sym (run_append t (call_of (line_of l)) (calls_in (meant ls))))

pub no_size : (ls : List Line) → has_size ls ≡ false → (last_size ls ≡ 0) × (since_size ls ≡ ls)
no_size [] e = (refl, refl)
no_size (l ∷ ls) e =
    let a = or_left (is_size l) (has_size ls) e in
    let b = or_right (is_size l) (has_size ls) e in
    (rw b (size_none l a), rw (a, b))
  where
    or_left : (a b : Bool) → (a || b) ≡ false → a ≡ false
    or_left true b e = absurd (true≢false e)
    or_left false b e = refl

    or_right : (a b : Bool) → (a || b) ≡ false → b ≡ false
    or_right true b e = absurd (true≢false e)
    or_right false b e = e

    size_none : (l : Line) → is_size l ≡ false → accepted_size l ≡ 0
    size_none (Size n) e = rw e
    size_none (Add i) e = refl
    size_none (Remove i) e = refl
    size_none (Report epoch mst ack) e = refl
    size_none Lapse e = refl
    size_none Board e = refl
    size_none Malformed e = refl

-- what lines leave by their answers is what they told
pub answers_tell : (ls : List (List ℕ)) → table_behind beginning.table ls ≡ told_table ls
unfolding beginning told_table
answers_tell ls = told_from_lem (start_of 0 0).table ls (start_kind 0 0) ∙ go (has_size (meant ls)) refl
  where
    go : (b : Bool) → has_size (meant ls) ≡ b → (if has_size (meant ls) then told_table ls else run (start_of 0 0).table (calls_in (meant ls))) ≡ told_table ls
    go true e = rw e
    go false e = let n = no_size (meant ls) e in rw (e, n.0, n.1)

ended_free : (line l rest : List ℕ) → Free l → ended_from line (l ++ rest) ≡ ended_from (line ++ l) rest
ended_free line [] rest f = rw append-nil
ended_free line (b ∷ l) rest f = rw f.0 (ended_free (line ++ (b ∷ [])) l rest f.1 ∙ rw append_assoc)

-- a session that has used so much input
pub record Stands (s : Session) (input : List ℕ) : Type 0 where
  pub line : List ℕ
  pub free : Free line
  pub holds : Holds line s.kept
  pub done : List (List ℕ)
  pub ended : (rest : List ℕ) → ended_in (input ++ rest) ≡ done ++ ended_from line rest
  pub lines : (rest : List ℕ) → lines_of (input ++ rest) ≡ done ++ lines_of (line ++ rest)
  pub table : s.table ≡ table_behind beginning.table done

-- a line answered behind those that were
pub one_more : (s : Session) (k : List ℕ) (L : List ℕ) (done : List (List ℕ)) → line_of k ≡ line_of L → s.table ≡ table_behind beginning.table done
    → table_after s.table k ≡ table_behind beginning.table (done ++ (L ∷ []))
one_more s k L done m e = ap (λ (l : Line). (reply_of s.table l).table) m ∙ ap (λ (u : Table). table_after u L) e ∙ sym (behind_append beginning.table done (L ∷ []))

module _ (s : Session) (input part : List ℕ) (o : Stands s input) where
  line_ended : has_end part ≡ true → Stands (fed_session s part) (input ++ take (used_of part) part)
  unfolding used_of fed_session
  line_ended e =
      let i : ℕ = index_of LINE-END part in
      let L : List ℕ = o.line ++ take i part in
      let k = holds_more o.line s.kept (take i part) o.holds in
      let c : (rest : List ℕ) → take (i + 1) part ++ rest ≡ take i part ++ (LINE-END ∷ rest) =
      (λ (rest : List ℕ). rw (with_end_lem part (ltb-true i (length part) e)) (append_assoc (take i part) (LINE-END ∷ []) rest)) in
      rw e
      (record {
        line = [];
        free = tt;
        holds = holds_nothing;
        done = o.done ++ (L ∷ []);
        ended = λ rest.
            ap ended_in (append_assoc input (take (i + 1) part) rest)
            ∙ o.ended (take (i + 1) part ++ rest)
            ∙ ap (λ (l : List ℕ). o.done ++ ended_from o.line l) (c rest)
            ∙ ap (λ (ls : List (List ℕ)). o.done ++ ls) (ended_free o.line (take i part) (LINE-END ∷ rest) (free_take part))
            ∙ sym (append_assoc o.done (L ∷ []) (ended_in rest));
        lines = λ rest.
            ap lines_of (append_assoc input (take (i + 1) part) rest)
            ∙ o.lines (take (i + 1) part ++ rest)
            ∙ ap (λ (l : List ℕ). o.done ++ lines_of l) (ap (λ (l : List ℕ). o.line ++ l) (c rest) ∙ sym (append_assoc o.line (take i part) (LINE-END ∷ rest)))
            ∙ ap (λ (ls : List (List ℕ)). o.done ++ ls) (free_line L rest (free_append o.line (take i part) o.free (free_take part)))
            ∙ sym (append_assoc o.done (L ∷ []) (lines_of rest));
        table = one_more s (line_in (kept_with s part)) L o.done (kept_line L (kept_with s part) k) o.table;
      })

  line_open : has_end part ≡ false → Stands (fed_session s part) (input ++ take (used_of part) part)
  unfolding used_of fed_session
  line_open e =
      let i : ℕ = index_of LINE-END part in
      rw e
      (record {
        line = o.line ++ take i part;
        free = free_append o.line (take i part) o.free (free_take part);
        holds = holds_more o.line s.kept (take i part) o.holds;
        done = o.done;
        ended = λ rest.
            ap ended_in (append_assoc input (take i part) rest)
            ∙ o.ended (take i part ++ rest)
            ∙ ap (λ (ls : List (List ℕ)). o.done ++ ls) (ended_free o.line (take i part) rest (free_take part));
        lines = λ rest.
            ap lines_of (append_assoc input (take i part) rest)
            ∙ o.lines (take i part ++ rest)
            ∙ ap (λ (l : List ℕ). o.done ++ lines_of l) (sym (append_assoc o.line (take i part) rest));
        table = o.table;
      })

  pub once : Stands (fed_session s part) (input ++ take (used_of part) part)
  once = go (has_end part) refl
    where
      go : (b : Bool) → has_end part ≡ b → Stands (fed_session s part) (input ++ take (used_of part) part)
      go true e = line_ended e
      go false e = line_open e

-- a call, refused or not
fed : (s : Session) (input : List ℕ) (f : Feed) → Stands s input → Stands (feed_of s f.part f.out).session (input ++ take (feed_of s f.part f.out).used f.part)
unfolding feed_of
fed s input f o = go (ltb (length f.out) ROOM) refl
  where
    go : (b : Bool) → ltb (length f.out) ROOM ≡ b → Stands (feed_of s f.part f.out).session (input ++ take (feed_of s f.part f.out).used f.part)
    go true e = rw (e, append-nil input) o
    go false e = rw e (once s input f.part o)

pub all_fed : (s : Session) (input : List ℕ) (fs : List Feed) → Stands s input → Stands (fed_by s fs) (input ++ used_by s fs)
all_fed s input [] o = rw append-nil o
all_fed s input (f ∷ fs) o =
    rw append_assoc at (all_fed (feed_of s f.part f.out).session (input ++ take (feed_of s f.part f.out).used f.part) fs (fed s input f o))

pub start : Stands beginning []
unfolding beginning
start = record { line = []; free = tt; holds = holds_nothing; done = []; ended = λ rest. refl; lines = λ rest. refl; table = refl }

pub told : (s : Session) (input : List ℕ) → Stands s input → s.table ≡ told_table (ended_in input)
told s input o =
    o.table ∙ answers_tell o.done ∙ ap told_table (sym (ap ended_in (sym (append-nil input)) ∙ o.ended [] ∙ append-nil o.done))
