-- At every moment of a session the table is what the lines that have ended told the sender, so demand 2 holds of it.
use Rattle.std.specs.Prelude.{◌≡◌, refl, List, [], ◌∷◌, ◌++◌, ℕ, ◌≤◌, ◌<◌, length}
use Rattle.std.proofs.Common.{sym, ap, ◌∙◌, append-nil, arith, le-ltb, lt-ltb}
use Rattle.sender.specs.Numbering.{Demand2}
use Rattle.sender.specs.Theorems.Demand2.{demand2}
use Rattle.session_lines.specs.declared.line.Line.{Line}
use Rattle.session_lines.specs.declared.session.Session.{Session}
use Rattle.session_lines.specs.Kept.{line_in}
use Rattle.session_lines.specs.Laws.Holding.{Holds, kept_line}
use Rattle.session_lines.specs.Laws.Telling.{Stands, all_fed, answers_tell, one_more, start, table_behind, told}
use Rattle.session_lines.specs.Output.{ROOM}
use Rattle.session_lines.specs.Session.{beginning, finish_of, last_session}
use Rattle.session_lines.specs.Told.{Feed, calls_in, ended_in, fed_by, last_size, meant, since_size, told_table, used_by}
use Rattle.text.specs.Laws.Lines.{Free, last_line}
use Rattle.text.specs.Text.{lines_of}

-- After any calls of feed, each lent any part and any buffer, the table is what the lines told that have ended in the input used so far.
pub table_told : (fs : List Feed) → (fed_by beginning fs).table ≡ told_table (ended_in (used_by beginning fs))
table_told fs = told (fed_by beginning fs) (used_by beginning fs) (all_fed beginning [] fs start)

-- And at the end of the input it is what all its lines told, the last one with or without its end.
pub ended_told : (s : Session) (input : List ℕ) → Stands s input → (last_session s).table ≡ told_table (lines_of input)
unfolding last_session lines_of
ended_told s input o = go o.line o.free o.holds refl ∙ answers_tell (lines_of input)
  where
    all : lines_of input ≡ o.done ++ lines_of o.line
    all = ap lines_of (sym (append-nil input)) ∙ o.lines [] ∙ ap (λ (x : List ℕ). o.done ++ lines_of x) (append-nil o.line)

    go : (line : List ℕ) → Free line → Holds line s.kept → o.line ≡ line → (last_session s).table ≡ table_behind beginning.table (lines_of input)
    go [] f k q =
        let c : s.kept.count ≤ 0 = (let n = k.count in omega arith) in
        let z : lines_of input ≡ o.done = all ∙ ap (λ (x : List ℕ). o.done ++ lines_of x) q ∙ append-nil o.done in
        rw (le-ltb 0 s.kept.count c) (o.table ∙ ap (table_behind beginning.table) (sym z))
    go (b ∷ l) f k q =
        let c : 0 < s.kept.count = (let n = k.count in omega arith) in
        let z : lines_of input ≡ o.done ++ ((b ∷ l) ∷ []) = all ∙ ap (λ (x : List ℕ). o.done ++ lines_of x) q ∙ ap (λ (ls : List (List ℕ)). o.done ++ ls) (last_line b l f) in
        rw (lt-ltb 0 s.kept.count c)
        (one_more s (line_in s.kept) (b ∷ l) o.done (kept_line (b ∷ l) s.kept k) o.table ∙ ap (table_behind beginning.table) (sym z))

pub finished_told : (fs : List Feed) (out : List ℕ) → ROOM ≤ length out → (finish_of (fed_by beginning fs) out).session.table ≡ told_table (lines_of (used_by beginning fs))
unfolding finish_of
finished_told fs out room = rw (le-ltb (length out) ROOM room) (ended_told (fed_by beginning fs) (used_by beginning fs) (all_fed beginning [] fs start))

-- So demand 2 holds of the board at every moment of a session.
pub board_demand2 : (fs : List Feed) → Demand2 (fed_by beginning fs).table
unfolding told_table
board_demand2 fs =
    let lines : List Line = meant (ended_in (used_by beginning fs)) in
    rw (table_told fs) (demand2 0 (last_size lines) (calls_in (since_size lines)))
