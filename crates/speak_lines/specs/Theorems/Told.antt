-- Whatever lines come: she is told exactly what goes out, and by that alone she holds the board going out.
use Rattle.std.specs.Prelude.{◌≡◌, refl, Bool, true, false, List, [], ◌∷◌, ◌++◌, ℕ, ◌<◌, eqb, length, take, if◌then◌else◌}
use Rattle.std.proofs.Common.{sym, ap, ◌∙◌, eq-eqb, le-leb}
use Rattle.ground.specs.Finite.{same_bytes_lem}
use Rattle.ground.specs.Truth.{and-true, clash, neither}
use Rattle.session_lines.specs.Laws.Telling.{call_line, kind_line, no_size, size_line}
use Rattle.session_lines.specs.Line.{line_of, word_line}
use Rattle.session_lines.specs.Replies.{reply_of}
use Rattle.session_lines.specs.Told.{call_of, has_size, is_size, last_size, meant, accepted_size}
use Rattle.sender.specs.Board.{board_of, highest, row_of, word_of}
use Rattle.sender.specs.Calls.{Call, run}
use Rattle.sender.specs.declared.board.Board.{Board}
use Rattle.sender.specs.declared.epochs.Sender.{Sender}
use Rattle.sender.specs.declared.table.State.{State}
use Rattle.sender.specs.declared.table.State.TheVariants.{Idle, Add, Active, Dnu}
use Rattle.sender.specs.declared.table.Table.{Table}
use Rattle.sender.specs.Epochs.{SenderCall, begin_of, fresh_sender, sender_outcome_of, sender_run, start_epoch_of, started_sender, sender_after}
use Rattle.sender.specs.Epochs.SenderCall.{OnTable}
use Rattle.sender.specs.Laws.Carrying.{board_row}
use Rattle.sender.specs.Laws.Kept.{start_kind}
use Rattle.sender.specs.Laws.Sizes.{size_le}
use Rattle.sender.specs.Numbering.{number_in, slots_in, state_in}
use Rattle.sender.specs.Ranks.{row_at}
use Rattle.sender.specs.Table as T
use Rattle.sender.specs.Theorems.Epochs.{sender_sound}
use Rattle.spoken.specs.Answers.{Applied}
use Rattle.spoken.specs.declared.lists.Change.{Change}
use Rattle.spoken.specs.declared.lists.Changes.{Changes}
use Rattle.spoken.specs.Changes.{answer_number, changes_in, changes_of, comparable, compared_of, list_of, spoken_to}
use Rattle.spoken.specs.Fitting.{spoken}
use Rattle.spoken.specs.Laws.Spoken.{take_list}
use Rattle.spoken.specs.Said.{Told}
use Rattle.spoken.specs.Listening.{known_after}
use Rattle.spoken.specs.Runs.{runs_of, spread}
use Rattle.spoken.specs.Speaking.{can_speak, is_shown}
use Rattle.spoken.specs.Taking.{taken_of}
use Rattle.spoken.specs.Theorems.Applied.{outright}
use Rattle.spoken.specs.Theorems.Exactly.{exactly}
use Rattle.spoken.specs.Theorems.Listener.{listener}
use Rattle.spoken.specs.Theorems.NoOther.{done_fits}
use Rattle.spoken.specs.Theorems.Runs.{spread_back}
use Rattle.spoken.specs.Theorems.Speakable.{speakable_back}
use Rattle.text.specs.Ascii.{ascii}
use Rattle.text.specs.Text.{fields_of}
use Rattle.speak_lines.specs.declared.listening.Listener.{Listener}
use Rattle.speak_lines.specs.Lines.{change_lines, lines_of}
use Rattle.speak_lines.specs.Listening.{after_line, beginning, heard_after, is_epoch, table_after, text_of}
use Rattle.speak_lines.specs.Told.{Follows, behind, calls_in, calls_of, on_table, since_size}

-- what a line does to the two
module _ (l : Listener) (line : List ℕ) where
  epoch_table : is_epoch line ≡ true → (after_line l line).table ≡ l.table
  unfolding after_line table_after
  epoch_table e = rw e

  epoch_heard : is_epoch line ≡ true → (after_line l line).heard ≡ board_of l.table
  unfolding after_line heard_after
  epoch_heard e = rw e

  line_table : is_epoch line ≡ false → (after_line l line).table ≡ (reply_of l.table (line_of line)).table
  unfolding after_line table_after
  line_table e = rw e

  line_heard : is_epoch line ≡ false → is_size (line_of line) ≡ false → (after_line l line).heard ≡ l.heard
  unfolding after_line heard_after
  line_heard e n = rw (e, n)

  size_heard : is_epoch line ≡ false → is_size (line_of line) ≡ true → (after_line l line).heard ≡ board_of (reply_of l.table (line_of line)).table
  unfolding after_line heard_after
  size_heard e n = rw (e, n)

epoch_size : (line : List ℕ) → is_epoch line ≡ true → is_size (line_of line) ≡ false
unfolding line_of word_line fields_of
epoch_size line e = rw (same_bytes_lem line (ascii "epoch") e)

started : (s : Sender) → ((start_epoch_of s 0 0xFF 0).sender.table ≡ s.table) × (taken_of (start_epoch_of s 0 0xFF 0).sender ≡ board_of s.table)
unfolding start_epoch_of started_sender
started s = (refl, refl)

on_table_lem : (s : Sender) (cs : List Call) → ((sender_run s (on_table cs)).table ≡ run s.table cs) × (taken_of (sender_run s (on_table cs)) ≡ taken_of s)
on_table_lem s [] = (refl, refl)
on_table_lem s (c ∷ cs) = on_table_lem (sender_outcome_of s (OnTable c)).sender cs

run_append : (s : Sender) (x y : List SenderCall) → sender_run s (x ++ y) ≡ sender_run (sender_run s x) y
run_append s [] y = refl
run_append s (c ∷ x) y = run_append (sender_outcome_of s c).sender x y

-- a line that is no accepted size
follow_line : (l : Listener) (s : Sender) (line : List ℕ) → is_size (line_of line) ≡ false → Follows l s → Follows (after_line l line) (sender_run s (calls_of line))
follow_line l s line n f = go (is_epoch line) refl
  where
    go : (b : Bool) → is_epoch line ≡ b → Follows (after_line l line) (sender_run s (calls_of line))
    go true e =
        let a = started s in
        rw e (record { table = epoch_table l line e ∙ f.table ∙ sym a.0; heard = epoch_heard l line e ∙ ap board_of f.table ∙ sym a.1 })
    go false e =
        let a = on_table_lem s (call_of (line_of line)) in
        rw e (record {
          table = line_table l line e ∙ call_line l.table (line_of line) n ∙ ap (λ (t : Table). run t (call_of (line_of line))) f.table ∙ sym a.0;
          heard = line_heard l line e n ∙ f.heard ∙ sym a.1;
        })

-- an accepted size
follow_size : (l : Listener) (line : List ℕ) → is_size (line_of line) ≡ true → l.table.kind ≡ 0 → Follows (after_line l line) (begin_of 0 (accepted_size (line_of line)) 0).sender
unfolding begin_of fresh_sender
follow_size l line n k = go (is_epoch line) refl
  where
    go : (b : Bool) → is_epoch line ≡ b → Follows (after_line l line) (begin_of 0 (accepted_size (line_of line)) 0).sender
    go true e = clash (is_size (line_of line)) n (epoch_size line e)
    go false e =
        let t = size_line l.table (line_of line) n k in
        record { table = line_table l line e ∙ t; heard = size_heard l line e n ∙ ap board_of t }

kind_after : (l : Listener) (line : List ℕ) → l.table.kind ≡ 0 → (after_line l line).table.kind ≡ 0
kind_after l line k = go (is_epoch line) refl
  where
    go : (b : Bool) → is_epoch line ≡ b → (after_line l line).table.kind ≡ 0
    go true e = ap (λ (t : Table). t.kind) (epoch_table l line e) ∙ k
    go false e = ap (λ (t : Table). t.kind) (line_table l line e) ∙ kind_line l.table (line_of line) k

-- the sender that lines have made: from the last accepted size on, or from where it stood
abbrev sender_behind : Sender → List (List ℕ) → Sender
sender_behind s lines = if has_size (meant lines) then sender_after 0 (last_size (meant lines)) 0 (calls_in (since_size lines)) else sender_run s (calls_in lines)

follow_all : (l : Listener) (s : Sender) (lines : List (List ℕ)) → l.table.kind ≡ 0 → Follows l s → Follows (behind l lines) (sender_behind s lines)
follow_all l s [] k f = f
follow_all l s (line ∷ lines) k f =
    go (is_size (line_of line)) (has_size (meant lines)) refl refl (λ r g. follow_all (after_line l line) r lines (kind_after l line k) g)
  where
    go : (a b : Bool) → is_size (line_of line) ≡ a → has_size (meant lines) ≡ b
        → ((r : Sender) → Follows (after_line l line) r → Follows (behind (after_line l line) lines) (sender_behind r lines))
        → Follows (behind l (line ∷ lines)) (sender_behind s (line ∷ lines))
    go true true p q rest = rw (p, q) (rw q at (rest (begin_of 0 (accepted_size (line_of line)) 0).sender (follow_size l line p k)))
    go true false p q rest = rw (p, q) (rw q at (rest (begin_of 0 (accepted_size (line_of line)) 0).sender (follow_size l line p k)))
    go false true p q rest = rw (p, q) (rw q at (rest (sender_run s (calls_of line)) (follow_line l s line p f)))
    go false false p q rest =
        rw (p, q, run_append s (calls_of line) (calls_in lines)) (rw q at (rest (sender_run s (calls_of line)) (follow_line l s line p f)))

since_none : (lines : List (List ℕ)) → has_size (meant lines) ≡ false → since_size lines ≡ lines
since_none [] e = refl
since_none (line ∷ lines) e = let n = neither (is_size (line_of line)) (has_size (meant lines)) e in rw (n.0, n.1)

begun : (runs : Bool) → Follows (beginning runs) (begin_of 0 0 0).sender
unfolding beginning begin_of fresh_sender
begun runs = record { table = refl; heard = refl }

begun_kind : (runs : Bool) → (beginning runs).table.kind ≡ 0
unfolding beginning
begun_kind runs = start_kind 0 0

-- Behind any lines her table and the board that she holds are those of a sender that was started with the last accepted size, and called since
-- then as the lines say, with an epoch started at each `epoch`.
pub follows : (runs : Bool) (lines : List (List ℕ)) → Follows (behind (beginning runs) lines) (sender_after 0 (last_size (meant lines)) 0 (calls_in (since_size lines)))
follows runs lines = go (has_size (meant lines)) refl (follow_all (beginning runs) (begin_of 0 0 0).sender lines (begun_kind runs) (begun runs))
  where
    go : (b : Bool) → has_size (meant lines) ≡ b → Follows (behind (beginning runs) lines) (sender_behind (begin_of 0 0 0).sender lines)
        → Follows (behind (beginning runs) lines) (sender_after 0 (last_size (meant lines)) 0 (calls_in (since_size lines)))
    go true e f = rw e at f
    go false e f = rw ((no_size (meant lines) e).0, since_none lines e) (rw e at f)

-- So who begins with that start's board and lays on it what is told at each `epoch` holds the board of her listener: the one going out.
pub holds : (runs : Bool) (lines : List (List ℕ))
    → known_after (taken_of (begin_of 0 (last_size (meant lines)) 0).sender) (begin_of 0 (last_size (meant lines)) 0).sender (calls_in (since_size lines)) ≡ (behind (beginning runs) lines).heard
holds runs lines = listener 0 (last_size (meant lines)) 0 (calls_in (since_size lines)) ∙ sym (follows runs lines).heard

-- a board shows words that can be said
shown_word : (s : State) (last : Bool) → is_shown (word_of s last) ≡ true
shown_word Idle last = refl
shown_word Add last = refl
shown_word Active true = refl
shown_word Active false = refl
shown_word Dnu last = refl

own_word : (t : Table) (i : ℕ) → is_shown (row_of t.slots (slots_in t) i).word ≡ true
unfolding row_of
own_word t i = shown_word (state_in t i) (highest t.slots (slots_in t) (number_in t i))

shown_row : (t : Table) (i : ℕ) → i < slots_in t → is_shown (row_at (board_of t).rows i).word ≡ true
shown_row t i h = rw (board_row t i h) (own_word t i)

-- and so do the changes between two boards of one sender
module _ (t u : Table) (k : t.kind ≡ u.kind) (c : t.count ≡ u.count) where
  one_count : comparable (board_of t) (board_of u) ≡ true
  unfolding board_of
  one_count =
      and-true (eqb (slots_in t) (slots_in u)) _ (eq-eqb (slots_in t) (slots_in u) (ap T.slot_count c)) (le-leb (slots_in t) 64 (size_le t.count))

  abbrev cs : Changes
  cs = (compared_of (board_of t) (board_of u)).changes

  told : (j : ℕ) → j < cs.count → Told (board_of t).rows (board_of u).rows (board_of t).count (spoken cs j)
  told j h = (exactly (board_of t) (board_of u) one_count).1.told j h

  below_old : (i : ℕ) → i < (board_of t).count → i < slots_in t
  unfolding board_of
  below_old i h = h

  below_new : (i : ℕ) → i < (board_of t).count → i < slots_in u
  unfolding board_of
  below_new i h = rw (← c) h

  speaks : can_speak cs ≡ true
  speaks =
      speakable_back cs
      (record {
        board = board_of t;
        fits = done_fits (board_of t) cs (ap (λ (a : Applied). answer_number a.answer) (outright t u k c));
        old = λ j h. ap (λ (x : Change). is_shown x.old.word) (told j h).is ∙ shown_row t (spoken cs j).slot (below_old (spoken cs j).slot (told j h).below);
        new = λ j h. ap (λ (x : Change). is_shown x.new.word) (told j h).is ∙ shown_row u (spoken cs j).slot (below_new (spoken cs j).slot (told j h).below);
      })

-- of boards of one count all changes are compared
all_changes : (old new : Board) → comparable old new ≡ true → (compared_of old new).changes ≡ changes_of old new
unfolding compared_of
all_changes old new e = rw e

lines_all : (runs : Bool) (changes : Changes) → can_speak changes ≡ true → change_lines runs changes ≡ lines_of runs changes
unfolding change_lines
lines_all runs changes e = rw e

runs_stay : (l : Listener) (lines : List (List ℕ)) → (behind l lines).runs ≡ l.runs
unfolding after_line
runs_stay l [] = refl
runs_stay l (line ∷ lines) = runs_stay (after_line l line) lines

epoch_text_lem : (l : Listener) (line : List ℕ) → is_epoch line ≡ true → text_of l line ≡ change_lines l.runs (compared_of l.heard (board_of l.table)).changes
unfolding text_of
epoch_text_lem l line e = rw e

begun_runs : (runs : Bool) → (beginning runs).runs ≡ runs
unfolding beginning
begun_runs runs = refl

told_by_lem : (q runs : Bool) (heard : Board) (now t u : Table) → q ≡ runs → heard ≡ board_of u → now ≡ t → u.kind ≡ t.kind → u.count ≡ t.count
    → change_lines q (compared_of heard (board_of now)).changes ≡ lines_of runs (changes_of heard (board_of now))
told_by_lem q runs heard now t u a b d k c =
    rw (a, b, d)
    (lines_all runs (compared_of (board_of u) (board_of t)).changes (speaks u t k c) ∙ ap (lines_of runs) (all_changes (board_of u) (board_of t) (one_count u t k c)))

-- Behind any lines `epoch` prints all changes from the board that she holds to the table's own now, which goes out from then on, and nothing else.
pub told_exactly : (runs : Bool) (lines : List (List ℕ)) (line : List ℕ) → is_epoch line ≡ true
    → text_of (behind (beginning runs) lines) line ≡ lines_of runs (changes_of (behind (beginning runs) lines).heard (board_of (behind (beginning runs) lines).table))
told_exactly runs lines line e =
    let l : Listener = behind (beginning runs) lines in
    let s : Sender = sender_after 0 (last_size (meant lines)) 0 (calls_in (since_size lines)) in
    let f = follows runs lines in
    let o = sender_sound 0 (last_size (meant lines)) 0 (calls_in (since_size lines)) in
    epoch_text_lem l line e
    ∙ told_by_lem l.runs runs l.heard l.table s.table o.outgoing.source (runs_stay (beginning runs) lines ∙ begun_runs runs) (f.heard ∙ o.outgoing.is) f.table o.kind
    o.outgoing.slots

-- The runs of these changes, spread out again, tell each changed slot once, in slot order, and no other.
pub runs_exactly : (old new : Board) → spread (runs_of (take (changes_of old new).count (changes_of old new).list)) ≡ spoken_to old.rows new.rows old.count
unfolding changes_of changes_in
runs_exactly old new =
    let l : List Change = spoken_to old.rows new.rows old.count in
    spread_back (take (length l) (list_of l)) ∙ take_list l
