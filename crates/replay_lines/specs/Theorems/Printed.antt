-- What is printed of a recording (2026-05): every report that a fetch gave, in order, none left out, and behind it each state that it changed, once; no other line but the
-- refusals.
use Rattle.std.specs.Prelude.{◌≡◌, ℕ, zero, suc, ◌+◌, ◌/◌, ◌%◌, ◌<◌, ◌≤◌, Bool, true, false, cond, not, ◌&&◌, ◌||◌, ltb, ◌≢◌, ◌⊎◌, List, [], ◌∷◌, ◌++◌, length, ◌==◌, nat_lt, slice_index}
use Rattle.std.proofs.Math.Path.{refl, sym, ap}
use Rattle.std.proofs.Common.{◌∙◌, append_assoc, append-nil, inl, inr, ⊎_elim, arith, eq-eqb, le-ltb, lt-ltb, ne_eqb}
use Rattle.std.proofs.lemmas.Bool.{not-true}
use Rattle.ground.specs.Truth.{and_left, and_right, cond_by, eq_or_ne, le_or_lt}
use Rattle.recording.specs.declared.opening.Opening.{Opening}
use Rattle.recording.specs.declared.opening.Opening.TheVariants as O
use Rattle.recording.specs.declared.record.Record.{Record}
use Rattle.recording.specs.declared.record.Record.TheVariants.{Frame, Malformed, Long, Unfinished, End}
use Rattle.recording.specs.Opening.{line_opening}
use Rattle.replay_lines.specs.declared.replay.Phase.{Phase}
use Rattle.replay_lines.specs.declared.replay.Phase.TheVariants.{Settings, Reading, Fetching, Skipping, Ended}
use Rattle.replay_lines.specs.Output.{answer_text, blamed_text, cause_text, change_text, changes_text, count_in, epoch_text, mark_text, place_text, port_text, report_text, state_line, state_text, why_text}
use Rattle.replay_lines.specs.Printing.{Event, all_lines, answer_line, blamed_line, change_lines, changed, epoch_line, events_by, events_from, events_of, fetches, given, lines_in, only, opening_events, place_line, port_line, port_lines, read_events, refusal_of, report_lines, times, why_line}
use Rattle.replay_lines.specs.Printing.Event.{Refused, Reported}
use Rattle.replay_lines.specs.Replay.{beginning, next_line}
use Rattle.replay_lines.specs.Runs.{Desk, desk_after, fetched, framed, line_in, opening_text, output_from, read_text, reports, said_to, text_by, whole_output}
use Rattle.replay_lines.specs.Turn.{is_due, report_printed, startable}
use Rattle.text.specs.Ascii.{ascii}
use Rattle.text.specs.Laws.Lines.{Free, free_append, free_line}
use Rattle.text.specs.Output.{decimal_text, digits_before, ended, number_text}
use Rattle.text.specs.Text.{LINE-END, TAB, lines_of}

-- the output as one text

abbrev text_in : Event → List ℕ
text_in (Refused number line) = answer_text number line
text_in (Reported rec blamed line ports before after) = report_text rec blamed line before after ports

abbrev all_text : List Event → List ℕ
all_text [] = []
all_text (e ∷ es) = text_in e ++ all_text es

text_append : (x y : List Event) → all_text (x ++ y) ≡ all_text x ++ all_text y
text_append [] y = refl
text_append (e ∷ x) y = ap (λ (t : List ℕ). text_in e ++ t) (text_append x y) ∙ sym (append_assoc (text_in e) (all_text x) (all_text y))

module _ (out : List ℕ) where
  fetches_text : (k : ℕ) (d : Desk) → reports out k d ≡ all_text (fetches out k d)
  unfolding report_printed
  fetches_text zero d = refl
  fetches_text (suc k) d = go (is_due d.replay d.rows d.store out) (fetches_text k (fetched out d))
    where
      go : (b : Bool) → reports out k (fetched out d) ≡ all_text (fetches out k (fetched out d))
          → cond b (report_printed d.replay d.rows d.store out ++ reports out k (fetched out d)) [] ≡ all_text (cond b (given out d ∷ fetches out k (fetched out d)) [])
      go true e = ap (λ (t : List ℕ). report_printed d.replay d.rows d.store out ++ t) e
      go false e = refl

  opening_text_lem : (d : Desk) (x : Opening) → opening_text out d x ≡ all_text (opening_events out d x)
  opening_text_lem d (O.Settings s next) = go (startable s (length d.store))
    where
      go : (b : Bool) → cond b [] (answer_text 4 (next_line d.replay.line)) ≡ all_text (cond b [] (refusal_of out d 4))
      go true = refl
      go false = sym (append-nil (answer_text 4 (next_line d.replay.line)))
  opening_text_lem d O.Malformed = sym (append-nil (answer_text 13 (next_line d.replay.line)))
  opening_text_lem d O.Unfinished = refl
  opening_text_lem d O.End = refl

  read_text_lem : (d : Desk) (l : List ℕ) (x : Record) → read_text out d l x ≡ all_text (read_events out d l x)
  read_text_lem d l (Frame port h4 flag place next) = fetches_text d.replay.window (framed out d l port h4 flag place)
  read_text_lem d l (Malformed next) = sym (append-nil (answer_text 13 (next_line d.replay.line)))
  read_text_lem d l Long = sym (append-nil (answer_text 13 (next_line d.replay.line)))
  read_text_lem d l Unfinished = refl
  read_text_lem d l End = refl

  phase_text : (phase : Phase) (d : Desk) (l : List ℕ) → text_by out phase d l ≡ all_text (events_by out phase d l)
  phase_text Settings d l = opening_text_lem d (line_opening 0 l)
  phase_text Reading d l = read_text_lem d l (line_in out d l)
  phase_text Fetching d l = refl
  phase_text Skipping d l = refl
  phase_text Ended d l = refl

  from_text : (d : Desk) (ls : List (List ℕ)) → output_from out d ls ≡ all_text (events_from out d ls)
  unfolding said_to
  from_text d [] = refl
  from_text d (l ∷ ls) =
      ap (λ (t : List ℕ). t ++ output_from out (desk_after out d l) ls) (phase_text d.replay.phase d l)
      ∙ (ap (λ (t : List ℕ). all_text (events_by out d.replay.phase d l) ++ t) (from_text (desk_after out d l) ls) ∙ sym (text_append (events_by out d.replay.phase d l) (events_from out (desk_after out d l) ls)))

-- no word and no number has a line end in it

freeb : List ℕ → Bool
freeb [] = true
freeb (b ∷ l) = not (b == LINE-END) && freeb l

free_by : (l : List ℕ) → freeb l ≡ true → Free l
unfolding freeb
free_by [] t = tt
free_by (b ∷ l) t = (not-true (b == LINE-END) (and_left (not (b == LINE-END)) (freeb l) t), free_by l (and_right (not (b == LINE-END)) (freeb l) t))

digit_free : (x : ℕ) → (48 + x == LINE-END) ≡ false
digit_free x = ne_eqb (48 + x) LINE-END (λ z. omega arith)

decimal_free : (n : ℕ) → Free (decimal_text n)
unfolding decimal_text
decimal_free n = go (nat_lt n 10) (nat_lt n 100)
  where
    go : (a b : Bool) → Free (cond a ((48 + n) ∷ []) (cond b ((48 + n / 10) ∷ (48 + n % 10) ∷ []) ((48 + n / 100) ∷ (48 + n / 10 % 10) ∷ (48 + n % 10) ∷ [])))
    go true b = (digit_free n, tt)
    go false true = (digit_free (n / 10), (digit_free (n % 10), tt))
    go false false = (digit_free (n / 100), (digit_free (n / 10 % 10), (digit_free (n % 10), tt)))

before_free : (most n : ℕ) (text : List ℕ) → Free text → Free (digits_before most n text)
before_free zero n text f = f
before_free (suc most) n text f =
    cond_by Free (nat_lt 0 n) (digits_before most (n / 10) ((48 + n % 10) ∷ text)) text (λ e. before_free most (n / 10) ((48 + n % 10) ∷ text) (digit_free (n % 10), f)) (λ e. f)

number_free : (n : ℕ) → Free (number_text n)
unfolding number_text
number_free n = before_free 19 (n / 10) ((48 + n % 10) ∷ []) (digit_free (n % 10), tt)

mark_free : (m : ℕ) → Free (mark_text m)
unfolding mark_text freeb
mark_free m = go (m == 1) (m == 2)
  where
    go : (a b : Bool) → Free (cond a (ascii "held") (cond b (ascii "doubtful") (ascii "sure")))
    go true b = free_by (ascii "held") refl
    go false true = free_by (ascii "doubtful") refl
    go false false = free_by (ascii "sure") refl

cause_free : (c : ℕ) → Free (cause_text c)
unfolding cause_text freeb
cause_free c = go (c == 1) (c == 2) (c == 3) (c == 4) (c == 5) (c == 6)
  where
    go : (a b d e f g : Bool)
        → Free
        (cond a (ascii "a ruling packet was refused")
        (cond b (ascii "an active port lacks a frame")
        (cond d (ascii "numbers of active and DNU ports repeat")
        (cond e (ascii "GID differs among ports that are not IDLE")
        (cond f (ascii "EOS is not on the highest active port alone") (cond g (ascii "a port has no whole ruling packet") (ascii "the numbers are not 0 to n - 1")))))))
    go true b d e f g = free_by (ascii "a ruling packet was refused") refl
    go false true d e f g = free_by (ascii "an active port lacks a frame") refl
    go false false true e f g = free_by (ascii "numbers of active and DNU ports repeat") refl
    go false false false true f g = free_by (ascii "GID differs among ports that are not IDLE") refl
    go false false false false true g = free_by (ascii "EOS is not on the highest active port alone") refl
    go false false false false false true = free_by (ascii "a port has no whole ruling packet") refl
    go false false false false false false = free_by (ascii "the numbers are not 0 to n - 1") refl

state_free : (s : ℕ) → Free (state_text s)
unfolding state_text freeb
state_free s = go (s == 0) (s == 1)
  where
    go : (a b : Bool) → Free (cond a (ascii "IDLE") (cond b (ascii "FAIL") (ascii "OK")))
    go true b = free_by (ascii "IDLE") refl
    go false true = free_by (ascii "FAIL") refl
    go false false = free_by (ascii "OK") refl

-- a field more
field_free : (x y : List ℕ) → Free x → Free y → Free (x ++ ended y TAB)
field_free x y f g = free_append x (ended y TAB) f (free_append y (TAB ∷ []) g (refl, tt))

first_free : (y : List ℕ) → Free y → Free (ended y TAB)
first_free y g = free_append y (TAB ∷ []) g (refl, tt)

-- a line with its end, and what follows
one_line : (x n rest : List ℕ) → Free x → Free n → lines_of (x ++ ended n LINE-END ++ rest) ≡ (x ++ n) ∷ lines_of rest
one_line x n rest f g =
    ap lines_of (append_assoc x (n ++ (LINE-END ∷ [])) rest ∙ (ap (λ (t : List ℕ). x ++ t) (append_assoc n (LINE-END ∷ []) rest) ∙ sym (append_assoc x n (LINE-END ∷ rest))))
    ∙ free_line (x ++ n) rest (free_append x n f g)

answer_lines : (number line : ℕ) (rest : List ℕ) → lines_of (answer_text number line ++ rest) ≡ answer_line number line ∷ lines_of rest
unfolding answer_text freeb
answer_lines number line rest =
    one_line (ended (ascii "answer") TAB ++ ended (decimal_text number) TAB ++ ended (ascii "line") TAB) (number_text line) rest
    (field_free (ended (ascii "answer") TAB ++ ended (decimal_text number) TAB) (ascii "line") (field_free (ended (ascii "answer") TAB) (decimal_text number) (free_by (ended (ascii "answer") TAB) refl) (decimal_free number)) (free_by (ascii "line") refl))
    (number_free line)

-- why a report is held or doubtful, without the line's end

blamed_free : (port : ℕ) → Free (blamed_line port)
unfolding freeb
blamed_free port = go (port == 255)
  where
    go : (b : Bool) → Free (cond b [] (ascii "\tport\t" ++ decimal_text port))
    go true = tt
    go false = free_append (ascii "\tport\t") (decimal_text port) (free_by (ascii "\tport\t") refl) (decimal_free port)

why_free : (cause port : ℕ) → Free (why_line cause port)
unfolding freeb
why_free cause port =
    let k = ended (ascii "cause") TAB in
    free_append (k ++ cause_text cause) (blamed_line port) (free_append k (cause_text cause) (free_by k refl) (cause_free cause)) (blamed_free port)

place_free : (mark line cause port : ℕ) → Free (place_line mark line cause port)
place_free mark line cause port = go (mark == 1 || mark == 2)
  where
    go : (b : Bool) → Free (cond b (ended (number_text line) TAB ++ why_line cause port) (number_text line))
    go true = free_append (ended (number_text line) TAB) (why_line cause port) (first_free (number_text line) (number_free line)) (why_free cause port)
    go false = number_free line

-- a text behind another, with the line's end
ends_behind : (x y z : List ℕ) → y ≡ ended z LINE-END → x ++ y ≡ ended (x ++ z) LINE-END
ends_behind x y z e = ap (λ (t : List ℕ). x ++ t) e ∙ sym (append_assoc x z (LINE-END ∷ []))

blamed_ended : (port : ℕ) → blamed_text port ≡ ended (blamed_line port) LINE-END
unfolding blamed_text
blamed_ended port = go (port == 255)
  where
    go : (b : Bool) → cond b (ascii "\n") (ascii "\tport\t" ++ ended (decimal_text port) LINE-END) ≡ ended (cond b [] (ascii "\tport\t" ++ decimal_text port)) LINE-END
    go true = refl
    go false = ends_behind (ascii "\tport\t") (ended (decimal_text port) LINE-END) (decimal_text port) refl

why_ended : (cause port : ℕ) → why_text cause port ≡ ended (why_line cause port) LINE-END
unfolding why_text
why_ended cause port = ends_behind (ended (ascii "cause") TAB ++ cause_text cause) (blamed_text port) (blamed_line port) (blamed_ended port)

place_ended : (mark line cause port : ℕ) → place_text mark line cause port ≡ ended (place_line mark line cause port) LINE-END
unfolding place_text
place_ended mark line cause port = go (mark == 1 || mark == 2)
  where
    go : (b : Bool)
        → cond b (ended (number_text line) TAB ++ why_text cause port) (ended (number_text line) LINE-END)
        ≡ ended (cond b (ended (number_text line) TAB ++ why_line cause port) (number_text line)) LINE-END
    go true = ends_behind (ended (number_text line) TAB) (why_text cause port) (why_line cause port) (why_ended cause port)
    go false = refl

epoch_lines : (rec : List ℕ) (blamed line : ℕ) (rest : List ℕ)
    → lines_of (epoch_text (slice_index rec 1) (slice_index rec 0) (count_in rec) line (slice_index rec 3) blamed ++ rest) ≡ epoch_line rec blamed line ∷ lines_of rest
unfolding epoch_text freeb
epoch_lines rec blamed line rest =
    let a = ended (ascii "epoch") TAB in
    let b = decimal_text (slice_index rec 1) in
    let c = mark_text (slice_index rec 0) in
    let d = ascii "bytes" in
    let e = number_text (count_in rec) in
    let f = ascii "line" in
    let ab = field_free a b (free_by a refl) (decimal_free (slice_index rec 1)) in
    let ac = field_free (a ++ ended b TAB) c ab (mark_free (slice_index rec 0)) in
    let ad = field_free (a ++ ended b TAB ++ ended c TAB) d ac (free_by d refl) in
    let ae = field_free (a ++ ended b TAB ++ ended c TAB ++ ended d TAB) e ad (number_free (count_in rec)) in
    let af = field_free (a ++ ended b TAB ++ ended c TAB ++ ended d TAB ++ ended e TAB) f ae (free_by f refl) in
    let x = a ++ ended b TAB ++ ended c TAB ++ ended d TAB ++ ended e TAB ++ ended f TAB in
    ap (λ (t : List ℕ). lines_of (x ++ t ++ rest)) (place_ended (slice_index rec 0) line (slice_index rec 3) blamed)
    ∙ one_line x (place_line (slice_index rec 0) line (slice_index rec 3) blamed) rest af (place_free (slice_index rec 0) line (slice_index rec 3) blamed)

port_lines_lem : (port state : ℕ) (rest : List ℕ) → lines_of (state_line port state ++ rest) ≡ port_line port state ∷ lines_of rest
unfolding state_line port_text freeb
port_lines_lem port state rest =
    let a = ended (ascii "port") TAB in
    let b = decimal_text port in
    let c = state_text (state / 256) in
    let ab = field_free a b (free_by a refl) (decimal_free port) in
    one_line (a ++ ended b TAB ++ ended c TAB) (decimal_text (state % 256)) rest (field_free (a ++ ended b TAB) c ab (state_free (state / 256))) (decimal_free (state % 256))

lines_append : (after x y : List ℕ) → port_lines after (x ++ y) ≡ port_lines after x ++ port_lines after y
lines_append after [] y = refl
lines_append after (i ∷ x) y = ap (λ (t : List (List ℕ)). port_line i (slice_index after i) ∷ t) (lines_append after x y)

changes_lines : (before after : List ℕ) (n : ℕ) (rest : List ℕ) → lines_of (changes_text before after n ++ rest) ≡ port_lines after (changed before after n) ++ lines_of rest
changes_lines before after zero rest = refl
changes_lines before after (suc n) rest =
    ap lines_of (append_assoc (changes_text before after n) (change_text n (slice_index before n) (slice_index after n)) rest)
    ∙ (changes_lines before after n (change_text n (slice_index before n) (slice_index after n) ++ rest) ∙ go (slice_index before n == slice_index after n))
  where
    go : (b : Bool) → port_lines after (changed before after n) ++ lines_of (cond b [] (state_line n (slice_index after n)) ++ rest) ≡ port_lines after (changed before after n ++ cond b [] (n ∷ [])) ++ lines_of rest
    go true = rw (append-nil (changed before after n)) refl
    go false =
        ap (λ (t : List (List ℕ)). port_lines after (changed before after n) ++ t) (port_lines_lem n (slice_index after n) rest)
        ∙ (sym (append_assoc (port_lines after (changed before after n)) (port_line n (slice_index after n) ∷ []) (lines_of rest)) ∙ ap (λ (t : List (List ℕ)). t ++ lines_of rest) (sym (lines_append after (changed before after n) (n ∷ []))))

event_lines : (e : Event) (rest : List ℕ) → lines_of (text_in e ++ rest) ≡ lines_in e ++ lines_of rest
unfolding report_text
event_lines (Refused number line) rest = answer_lines number line rest
event_lines (Reported rec blamed line ports before after) rest =
    ap lines_of (append_assoc (epoch_text (slice_index rec 1) (slice_index rec 0) (count_in rec) line (slice_index rec 3) blamed) (changes_text before after ports) rest)
    ∙ (epoch_lines rec blamed line (changes_text before after ports ++ rest) ∙ ap (λ (t : List (List ℕ)). epoch_line rec blamed line ∷ t) (changes_lines before after ports rest))

all_lines_lem : (es : List Event) → lines_of (all_text es) ≡ all_lines es
unfolding lines_of
all_lines_lem [] = refl
all_lines_lem (e ∷ es) = event_lines e (all_text es) ∙ ap (λ (t : List (List ℕ)). lines_in e ++ t) (all_lines_lem es)

-- The printed lines are those of the events, one behind the other: each report and each refusal has its own, and no other is printed.
pub printed : (out : List ℕ) (rows : List (List ℕ)) (store recording : List ℕ) → lines_of (whole_output out rows store recording) ≡ all_lines (events_of out rows store recording)
unfolding whole_output events_of
printed out rows store recording =
    let d : Desk = record { replay = beginning; rows = rows; store = store } in
    ap lines_of (from_text out d (lines_of recording)) ∙ all_lines_lem (events_from out d (lines_of recording))

only_append : (letter : ℕ) (x y : List (List ℕ)) → only letter (x ++ y) ≡ only letter x ++ only letter y
only_append letter [] y = refl
only_append letter (l ∷ x) y = go (slice_index l 0 == letter) (only_append letter x y)
  where
    go : (b : Bool) → only letter (x ++ y) ≡ only letter x ++ only letter y → cond b (l ∷ only letter (x ++ y)) (only letter (x ++ y)) ≡ cond b (l ∷ only letter x) (only letter x) ++ only letter y
    go true e = ap (λ (t : List (List ℕ)). l ∷ t) e
    go false e = e

no_epoch : (after ports : List ℕ) → only 101 (port_lines after ports) ≡ []
no_epoch after [] = refl
no_epoch after (i ∷ ports) = no_epoch after ports

all_ports : (after ports : List ℕ) → only 112 (port_lines after ports) ≡ port_lines after ports
all_ports after [] = refl
all_ports after (i ∷ ports) = ap (λ (t : List (List ℕ)). port_line i (slice_index after i) ∷ t) (all_ports after ports)

only_reports : (es : List Event) → only 101 (all_lines es) ≡ report_lines es
only_reports [] = refl
only_reports (Refused number line ∷ es) = only_reports es
only_reports (Reported rec blamed line ports before after ∷ es) =
    ap (λ (t : List (List ℕ)). epoch_line rec blamed line ∷ t) (only_append 101 (port_lines after (changed before after ports)) (all_lines es) ∙ (ap (λ (t : List (List ℕ)). t ++ only 101 (all_lines es)) (no_epoch after (changed before after ports)) ∙ only_reports es))

only_changes : (es : List Event) → only 112 (all_lines es) ≡ change_lines es
only_changes [] = refl
only_changes (Refused number line ∷ es) = only_changes es
only_changes (Reported rec blamed line ports before after ∷ es) =
    only_append 112 (port_lines after (changed before after ports)) (all_lines es)
    ∙ (ap (λ (t : List (List ℕ)). t ++ only 112 (all_lines es)) (all_ports after (changed before after ports)) ∙ ap (λ (t : List (List ℕ)). port_lines after (changed before after ports) ++ t) (only_changes es))

-- the lines that begin with an e are the reports that fetches gave, in order, none left out
pub reports_printed : (out : List ℕ) (rows : List (List ℕ)) (store recording : List ℕ) → only 101 (lines_of (whole_output out rows store recording)) ≡ report_lines (events_of out rows store recording)
reports_printed out rows store recording = ap (only 101) (printed out rows store recording) ∙ only_reports (events_of out rows store recording)

-- those that begin with a p are the changes of each report, in the order of ports
pub changes_printed : (out : List ℕ) (rows : List (List ℕ)) (store recording : List ℕ) → only 112 (lines_of (whole_output out rows store recording)) ≡ change_lines (events_of out rows store recording)
changes_printed out rows store recording = ap (only 112) (printed out rows store recording) ∙ only_changes (events_of out rows store recording)

times_append : (i : ℕ) (x y : List ℕ) → times i (x ++ y) ≡ times i x + times i y
times_append i [] y = omega arith
times_append i (j ∷ x) y = let e = times_append i x y in omega arith

past : (i n : ℕ) → n ≤ i → i ≢ n → suc n ≤ i
past i n h d = omega arith

swap : {i n : ℕ} → (n ≤ i) ⊎ (i < n) → (i < n) ⊎ (n ≤ i)
swap (inl h) = inr h
swap (inr h) = inl h

-- once where its state is another and it is a port of the group, and else not at all
pub changed_once : (before after : List ℕ) (n i : ℕ) → times i (changed before after n) ≡ cond (nat_lt i n && not (slice_index before i == slice_index after i)) 1 0
changed_once before after zero i = rw (le-ltb i 0 (omega arith)) refl
changed_once before after (suc n) i =
    times_append i (changed before after n) (cond (slice_index before n == slice_index after n) [] (n ∷ []))
    ∙ (ap (λ (k : ℕ). k + times i (cond (slice_index before n == slice_index after n) [] (n ∷ []))) (changed_once before after n i) ∙ ⊎_elim (λ (g : i ≡ n). same g) (λ (g : i ≢ n). other g) (eq_or_ne i n))
  where
    same : i ≡ n → cond (nat_lt i n && not (slice_index before i == slice_index after i)) 1 0 + times i (cond (slice_index before n == slice_index after n) [] (n ∷ [])) ≡ cond (nat_lt i (suc n) && not (slice_index before i == slice_index after i)) 1 0
    same g = rw (g, le-ltb n n (omega arith), lt-ltb n (suc n) (omega arith)) (go (slice_index before n == slice_index after n))
      where
        go : (b : Bool) → 0 + times n (cond b [] (n ∷ [])) ≡ cond (true && not b) 1 0
        go true = refl
        go false = rw (eq-eqb n n refl) refl

    other : i ≢ n → cond (nat_lt i n && not (slice_index before i == slice_index after i)) 1 0 + times i (cond (slice_index before n == slice_index after n) [] (n ∷ [])) ≡ cond (nat_lt i (suc n) && not (slice_index before i == slice_index after i)) 1 0
    other g =
        let z : times i (cond (slice_index before n == slice_index after n) [] (n ∷ [])) ≡ 0 = none (slice_index before n == slice_index after n) in
        let w : ltb i (suc n) ≡ ltb i n = ⊎_elim (λ (k : i < n). lt-ltb i (suc n) (omega arith) ∙ sym (lt-ltb i n k)) (λ (k : n ≤ i). le-ltb i (suc n) (past i n k g) ∙ sym (le-ltb i n k)) (swap (le_or_lt n i)) in
        rw (z, w) (omega arith)
      where
        none : (b : Bool) → times i (cond b [] (n ∷ [])) ≡ 0
        none true = refl
        none false = rw (ne_eqb n i (λ e. g (sym e))) refl
