-- A mended recording is replayed with no line answered 13 (requests 2026-11 and 2026-05).
-- Its first line is as it was and can be read; every other line is a frame under its settings, and a replay keeps these to its end.
use Rattle.std.specs.Prelude.{◌≡◌, Bool, ◌&&◌, ◌⊎◌, ℕ, zero, suc, length, take, if◌then◌else◌}
use Rattle.std.proofs.Math.Path.{refl, ap}
use Rattle.std.proofs.Common.{sym, ◌∙◌, arith}
use Rattle.std.proofs.Math.Bool.{true, false, and_assoc}
use Rattle.std.proofs.lemmas.Bool.{false≢true}
use mathlib.Core.List.{List, [], ◌∷◌, ◌++◌}
use Rattle.std.proofs.Math.Logic.{inl, inr}
use Rattle.ground.specs.Plain.{◌≤?◌}
use Rattle.mending.specs.Laws.Lines.{Frames, fits_followed, followed_left, frames_out}
use Rattle.mending.specs.Laws.Opened.{mended_lines_lem, mended_rest, counted_in, ports_in, size_in}
use Rattle.mending.specs.Laws.Texts.{bytes_with, bytes_of}
use Rattle.mending.specs.Lines.{Line, record_of}
use Rattle.mending.specs.Mending.{Opened, fitting, mended_of}
use Rattle.phases.specs.Sizes.{start_sized}
use Rattle.receiver.specs.Starting.{times_within}
use Rattle.recording.specs.Record.{is_frame, line_record}
use Rattle.recording.specs.declared.pairs.Settings.{Settings as GroupSettings}
use Rattle.recording.specs.declared.record.Record.{Record}
use Rattle.recording.specs.declared.record.Record.TheVariants.{Frame, Malformed, Long, Unfinished, End}
use Rattle.recording.specs.declared.opening.Opening.{Opening}
use Rattle.recording.specs.Opening.{line_opening}
use Rattle.recording.specs.declared.opening.Opening.TheVariants as O
use Rattle.replay_lines.specs.declared.replay.Phase.{Phase}
use Rattle.replay_lines.specs.declared.replay.Phase.TheVariants.{Settings, Reading, Fetching, Skipping, Ended}
use Rattle.replay_lines.specs.Replay.{beginning}
use Rattle.replay_lines.specs.Runs.{Desk, desk_after, desk_by, desk_through, fetched, framed, line_in, output_from, read_by, read_text, refusal, reported, reports, said_to, text_by, whole_output}
use Rattle.replay_lines.specs.Turn.{answered_turn, is_due, open_with_turn, startable, started_turn, store_in, times_fit}
use Rattle.text.specs.Text.{lines_of}

-- the answers agree: a replay starts where mending answers 0 and the store that is lent is large enough
pub startable_is : (s : GroupSettings) (store : ℕ) → startable s store ≡ (fitting s && store_in s ≤? store)
unfolding startable fitting times_fit
startable_is s store =
    ap (λ (b : Bool). b && store_in s ≤? store)
    (sym (and_assoc (start_sized s.kind s.ports s.size s.window) (times_within (take s.ports s.hold_off)) (times_within (take s.ports s.restore))))

abbrev can_read : Opening → Bool
can_read (O.Settings s next) = true
can_read O.Malformed = false
can_read O.Unfinished = false
can_read O.End = false

-- A replay that has no `answer 13` to print: each line says what it says else, the same reports and the same `answer 4`.
module _ (out : List ℕ) where
  abbrev quiet_opening : Desk → Opening → List ℕ
  quiet_opening d (O.Settings s next) = if startable s (length d.store) then [] else refusal out d 4
  quiet_opening d O.Malformed = []
  quiet_opening d O.Unfinished = []
  quiet_opening d O.End = []

  abbrev quiet_read : (d : Desk) (line : List ℕ) (read : Record) → List ℕ
  quiet_read d line (Frame port h4 flag place next) = reports out d.replay.window (framed out d line port h4 flag place)
  quiet_read d line (Malformed next) = []
  quiet_read d line Long = []
  quiet_read d line Unfinished = []
  quiet_read d line End = []

  abbrev quiet_by : (phase : Phase) (d : Desk) (line : List ℕ) → List ℕ
  quiet_by Settings d line = quiet_opening d (line_opening 0 line)
  quiet_by Reading d line = quiet_read d line (line_in out d line)
  quiet_by Fetching d line = []
  quiet_by Skipping d line = []
  quiet_by Ended d line = []

  unfoldable pub quiet_to : Desk → List ℕ → List ℕ
  quiet_to d line = quiet_by d.replay.phase d line

  abbrev pub quiet_from : Desk → List (List ℕ) → List ℕ
  quiet_from d [] = []
  quiet_from d (l ∷ ls) = quiet_to d l ++ quiet_from (desk_after out d l) ls

  unfoldable pub quiet_output : (rows : List (List ℕ)) (store recording : List ℕ) → List ℕ
  quiet_output rows store recording = quiet_from (record { replay = beginning; rows = rows; store = store }) (lines_of recording)

module _ (out : List ℕ) where
  -- not answered 13: the settings can be read, and a line that is to be a frame is one
  abbrev Taken : Desk → List ℕ → Type 0
  Taken d l = (d.replay.phase ≡ Settings → can_read (line_opening 0 l) ≡ true) × (d.replay.phase ≡ Reading → is_frame (line_in out d l) ≡ true)

  module _ (ports size : ℕ) where
    -- lines are read with these settings, or the run has ended
    abbrev On : Desk → Type 0
    On d = ((d.replay.phase ≡ Reading) × (d.replay.ports ≡ ports) × (d.replay.size ≡ size)) ⊎ (d.replay.phase ≡ Ended)

    abbrev AllFrames : List (List ℕ) → Type 0
    AllFrames [] = Unit {0}
    AllFrames (l ∷ ls) = (is_frame (line_record ports size 0 0 l) ≡ true) × AllFrames ls

    line_is : (d : Desk) (l : List ℕ) → d.replay.ports ≡ ports → d.replay.size ≡ size → line_in out d l ≡ line_record ports size 0 0 l
    line_is d l p s = rw (p, s)

    on_taken : (d : Desk) (l : List ℕ) → On d → is_frame (line_record ports size 0 0 l) ≡ true → Taken d l
    on_taken d l (inl h) f = ((λ e. let x = h.0 in let z : ◌≡◌ {A = ℕ} 0 1 = cc in absurd (omega arith)), (λ e. ap is_frame (line_is d l h.1 h.2) ∙ f))
    on_taken d l (inr h) f = ((λ e. let z : ◌≡◌ {A = ℕ} 0 1 = cc in absurd (omega arith)), (λ e. let z : ◌≡◌ {A = ℕ} 0 1 = cc in absurd (omega arith)))

    -- fetches leave the replay
    reported_same : (k : ℕ) (d : Desk) → (reported out k d).replay ≡ d.replay
    reported_same zero d = refl
    reported_same (suc k) d = go (is_due d.replay d.rows d.store out) (reported_same k (fetched out d))
      where
        go : (b : Bool) → (reported out k (fetched out d)).replay ≡ d.replay → (if b then reported out k (fetched out d) else fetched out d).replay ≡ d.replay
        go true e = e
        go false e = refl

    read_on : (d : Desk) (l : List ℕ) (r : Record) → d.replay.ports ≡ ports → d.replay.size ≡ size → is_frame r ≡ true → On (read_by out d l r)
    read_on d l (Frame port h4 flag place next) p s f =
        let e = reported_same d.replay.window (framed out d l port h4 flag place) in
        inl (ap (λ (x : _). x.phase) e, ap (λ (x : _). x.ports) e ∙ p, ap (λ (x : _). x.size) e ∙ s)
    read_on d l (Malformed next) p s f = absurd (false≢true f)
    read_on d l Long p s f = absurd (false≢true f)
    read_on d l Unfinished p s f = absurd (false≢true f)
    read_on d l End p s f = absurd (false≢true f)

    after_in : (d : Desk) (l : List ℕ) (p : Phase) → d.replay.phase ≡ p → desk_after out d l ≡ desk_by out p d l
    unfolding desk_after
    after_in d l p e = ap (λ (x : Phase). desk_by out x d l) e

    on_after : (d : Desk) (l : List ℕ) → On d → is_frame (line_record ports size 0 0 l) ≡ true → On (desk_after out d l)
    on_after d l (inl h) f = rw (after_in d l Reading h.0) (read_on d l (line_in out d l) h.1 h.2 (ap is_frame (line_is d l h.1 h.2) ∙ f))
    on_after d l (inr h) f = rw (after_in d l Ended h) (inr h)

    on_through : (ls : List (List ℕ)) (d : Desk) → On d → AllFrames ls → On (desk_through out d ls)
    on_through [] d h f = h
    on_through (l ∷ ls) d h f = on_through ls (desk_after out d l) (on_after d l h f.0) f.1

    -- the first line
    on_first : (d : Desk) (l : List ℕ) (s : GroupSettings) (next : ℕ) → d.replay.phase ≡ Settings → line_opening 0 l ≡ O.Settings s next → s.ports ≡ ports → s.size ≡ size → On (desk_after out d l)
    unfolding desk_after open_with_turn answered_turn
    on_first d l s next e k p q = rw (e, k) (go (startable s (length d.store)))
      where
        go : (b : Bool)
            → (let after = (if b then started_turn d.replay s next else answered_turn d.replay Ended 4 0).replay in
            ((after.phase ≡ Reading) × (after.ports ≡ ports) × (after.size ≡ size)) ⊎ (after.phase ≡ Ended))
        go true = inl (refl, p, q)
        go false = inr refl

    -- what is said to a line is what is said where no line is answered 13

    said_in : (d : Desk) (l : List ℕ) (p : Phase) → d.replay.phase ≡ p → (said_to out d l ≡ text_by out p d l) × (quiet_to out d l ≡ quiet_by out p d l)
    unfolding said_to quiet_to
    said_in d l p e = (ap (λ (x : Phase). text_by out x d l) e, ap (λ (x : Phase). quiet_by out x d l) e)

    quiet_frame : (d : Desk) (l : List ℕ) (r : Record) → is_frame r ≡ true → read_text out d l r ≡ quiet_read out d l r
    quiet_frame d l (Frame port h4 flag place next) f = refl
    quiet_frame d l (Malformed next) f = absurd (false≢true f)
    quiet_frame d l Long f = absurd (false≢true f)
    quiet_frame d l Unfinished f = absurd (false≢true f)
    quiet_frame d l End f = absurd (false≢true f)

    quiet_line : (d : Desk) (l : List ℕ) → On d → is_frame (line_record ports size 0 0 l) ≡ true → said_to out d l ≡ quiet_to out d l
    quiet_line d l (inl h) f =
        let e = said_in d l Reading h.0 in
        e.0 ∙ (quiet_frame d l (line_in out d l) (ap is_frame (line_is d l h.1 h.2) ∙ f) ∙ sym e.1)
    quiet_line d l (inr h) f = let e = said_in d l Ended h in e.0 ∙ sym e.1

    quiet_through : (ls : List (List ℕ)) (d : Desk) → On d → AllFrames ls → output_from out d ls ≡ quiet_from out d ls
    quiet_through [] d h f = refl
    quiet_through (l ∷ ls) d h f =
        ap (λ (x : List ℕ). x ++ output_from out (desk_after out d l) ls) (quiet_line d l h f.0)
        ∙ ap (λ (x : List ℕ). quiet_to out d l ++ x) (quiet_through ls (desk_after out d l) (on_after d l h f.0) f.1)

    frames_split : (xs ys zs : List (List ℕ)) → zs ≡ xs ++ ys → AllFrames zs → AllFrames xs × AllFrames ys
    frames_split [] ys zs e f = (tt, rw e at f)
    frames_split (x ∷ xs) ys zs e f = (let g : AllFrames (x ∷ (xs ++ ys)) = rw e at f in let r = frames_split xs ys (xs ++ ys) refl g.1 in ((g.0, r.0), r.1))

    bytes_frames : (ls : List Line) → Frames ports size ls → AllFrames (bytes_of ls)
    unfolding record_of
    bytes_frames [] f = tt
    bytes_frames (l ∷ ls) f = (f.0, bytes_frames ls f.1)

-- Of every recording that is answered 0, whatever a host lends: no line of it is answered 13, wherever in the replay it stands.
pub replays_on : (t : List ℕ) (o : Opened t) (out : List ℕ) (rows : List (List ℕ)) (store : List ℕ) (before : List (List ℕ)) (l : List ℕ) (after : List (List ℕ))
    → lines_of (mended_of t) ≡ before ++ (l ∷ after) → Taken out (desk_through out (record { replay = beginning; rows = rows; store = store }) before) l
replays_on t o out rows store before l after e = go before (sym lines ∙ e)
  where
    lines : lines_of (mended_of t) ≡ o.first.bytes ∷ bytes_of (mended_rest t o)
    lines = sym (bytes_with (mended_of t)) ∙ ap bytes_of (mended_lines_lem t o)

    frames : AllFrames out (ports_in t o) (size_in t o) (bytes_of (mended_rest t o))
    frames = bytes_frames out (ports_in t o) (size_in t o) (mended_rest t o) (frames_out (ports_in t o) (size_in t o) o.rest (followed_left (ports_in t o) (size_in t o) (counted_in t o) o.rest) (fits_followed (ports_in t o) (size_in t o) (counted_in t o) o.rest))

    go : (bs : List (List ℕ)) → o.first.bytes ∷ bytes_of (mended_rest t o) ≡ bs ++ (l ∷ after) → Taken out (desk_through out (record { replay = beginning; rows = rows; store = store }) bs) l
    go [] k =
        let x : o.first.bytes ≡ l = cc in
        ((λ p. ap (λ (q : List ℕ). can_read (line_opening 0 q)) (sym x) ∙ ap can_read o.opening), (λ p. let z : ◌≡◌ {A = ℕ} 0 1 = cc in absurd (omega arith)))
    go (b ∷ bs) k =
        let x : o.first.bytes ≡ b = cc in
        let y : bytes_of (mended_rest t o) ≡ bs ++ (l ∷ after) = cc in
        let f = frames_split out (ports_in t o) (size_in t o) bs (l ∷ after) (bytes_of (mended_rest t o)) y frames in
        let first : On out (ports_in t o) (size_in t o) (desk_after out (record { replay = beginning; rows = rows; store = store }) b) =
        on_first out (ports_in t o) (size_in t o) (record { replay = beginning; rows = rows; store = store }) b o.settings o.next refl (ap (line_opening 0) (sym x) ∙ o.opening) refl refl in
        on_taken out (ports_in t o) (size_in t o) (desk_through out (desk_after out (record { replay = beginning; rows = rows; store = store }) b) bs) l
        (on_through out (ports_in t o) (size_in t o) bs (desk_after out (record { replay = beginning; rows = rows; store = store }) b) first f.0) f.1.0

-- what is said to the first line, whose settings can be read
quiet_first : (out : List ℕ) (d : Desk) (l : List ℕ) (s : GroupSettings) (next : ℕ) → d.replay.phase ≡ Settings → line_opening 0 l ≡ O.Settings s next → said_to out d l ≡ quiet_to out d l
unfolding said_to quiet_to
quiet_first out d l s next e k = rw (e, k) refl

-- Of what is printed: the whole output of a mended recording is that of a replay which has no `answer 13` to print.
pub printed_on : (t : List ℕ) → Opened t → (out : List ℕ) (rows : List (List ℕ)) (store : List ℕ) → whole_output out rows store (mended_of t) ≡ quiet_output out rows store (mended_of t)
unfolding whole_output quiet_output
printed_on t o out rows store = rw lines (both (quiet_first out (record { replay = beginning; rows = rows; store = store }) o.first.bytes o.settings o.next refl o.opening) rest)
  where
    lines : lines_of (mended_of t) ≡ o.first.bytes ∷ bytes_of (mended_rest t o)
    lines = sym (bytes_with (mended_of t)) ∙ ap bytes_of (mended_lines_lem t o)

    rest : output_from out (desk_after out (record { replay = beginning; rows = rows; store = store }) o.first.bytes) (bytes_of (mended_rest t o)) ≡ quiet_from out (desk_after out (record { replay = beginning; rows = rows; store = store }) o.first.bytes) (bytes_of (mended_rest t o))
    rest =
        quiet_through out (ports_in t o) (size_in t o) (bytes_of (mended_rest t o)) (desk_after out (record { replay = beginning; rows = rows; store = store }) o.first.bytes)
        (on_first out (ports_in t o) (size_in t o) (record { replay = beginning; rows = rows; store = store }) o.first.bytes o.settings o.next refl o.opening refl refl)
        (bytes_frames out (ports_in t o) (size_in t o) (mended_rest t o) (frames_out (ports_in t o) (size_in t o) o.rest (followed_left (ports_in t o) (size_in t o) (counted_in t o) o.rest) (fits_followed (ports_in t o) (size_in t o) (counted_in t o) o.rest)))

    both : {a b c d : List ℕ} → a ≡ b → c ≡ d → a ++ c ≡ b ++ d
    both {a} {b} {c} {d} p q = ap (λ (x : List ℕ). x ++ c) p ∙ ap (λ (x : List ℕ). b ++ x) q
