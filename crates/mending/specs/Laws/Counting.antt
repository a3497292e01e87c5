-- The lengths call: arrays for what the ports have, and sums that stop at the largest number.
use Rattle.std.specs.Prelude.{◌≡◌, Bool, true, false, cond, List, [], ◌∷◌, leb, ltb, drop, get_or, length, replicate, set}
use Rattle.std.proofs.Math.Path.{refl}
use Rattle.std.proofs.Common.{sym, ap, ◌∙◌, add_comm, add-one, drop_of_length-le, length-append, le-leb, leb-false, leb-true}
use Rattle.std.proofs.lemmas.Bool.{false≢true, lt-leb}
use Prim.Native.Nat.{ℕ, zero, suc, ◌+◌, ◌-◌, ◌/◌, ◌%◌, ◌≤◌, ◌<◌}
use native.Mathlib.Omega.{arith}
use Rattle.std.proofs.lemmas.List.{length-replicate}
use Rattle.std.proofs.Math.ListN.{length-set}
use Rattle.mending.specs.declared.follow.Follow.{Follow}
use Rattle.mending.specs.declared.follow.Keys.{Keys}
use Rattle.mending.specs.declared.line.Read.{Read}
use Rattle.mending.specs.declared.measuring.Lengths.{Lengths}
use Rattle.mending.specs.Follow.{beginning, fed_if, restores_first, restores_last, restores_second, restores_third}
use Rattle.mending.specs.Laws.Copies.{lines_read, read_next, replicated, set_given}
use Rattle.mending.specs.Laws.Lengths.{note_length}
use Rattle.mending.specs.Laws.Sweeps.{Count, count_with, count_frame, count_start, dropped_length, kept_by, kept_length, length_by, length_end, no_keys, notes_length, restored_length, restored_lengths, with_key}
use Rattle.mending.specs.Laws.Reads.{line_lies, line_at, no_lines, read_at, read_by}
use Rattle.mending.specs.Lines.{Line, line_text, lines_with, record_of}
use Rattle.mending.specs.Told.{LARGEST, told}
use Rattle.recording.specs.declared.record.Record.{Record}
use Rattle.recording.specs.declared.record.Record.TheVariants.{Frame, Malformed, Long, Unfinished, End}
use Rattle.text.specs.Ascii.{ascii}
use Rattle.text.specs.Output.{digits_before, ended, number_text, put_next}
use Rattle.text.specs.Text.{TAB}

abbrev pub count_in : List Follow → List Keys → ℕ → Count
count_in follows keys number = record { follows = λ p. get_or follows p beginning; keys = λ p. get_or keys p no_keys; number = number }

-- the notes that a line brings
unfoldable pub noted_by : Read → Follow → Follow → Keys → ℕ → ℕ → ℕ
noted_by r f g k number at = cond r.kept (restored_lengths f g k) (told (dropped_length number (r.end - at)))

-- Sums.

pub told_more : (n m : ℕ) → told (told n + m) ≡ told (n + m)
told_more n m = go (leb n LARGEST) refl
  where
    go : (t : Bool) → leb n LARGEST ≡ t → told (cond t n LARGEST + m) ≡ told (n + m)
    go true t = refl
    go false t =
        let h = leb-false n LARGEST t in
        rw (lt-leb (n + m) LARGEST (omega arith)) (most (leb (LARGEST + m) LARGEST) refl)
      where
        most : (b : Bool) → leb (LARGEST + m) LARGEST ≡ b → cond b (LARGEST + m) LARGEST ≡ LARGEST
        most true e = let k = leb-true (LARGEST + m) LARGEST e in omega arith
        most false e = refl

pub told_right : (n m : ℕ) → told (n + told m) ≡ told (n + m)
told_right n m =
    let a : n + told m ≡ told m + n = add_comm n (told m) in
    let b : m + n ≡ n + m = add_comm m n in
    ap told a ∙ (told_more m n ∙ ap told b)

pub told_same : (n : ℕ) → n ≤ LARGEST → n ≡ told n
told_same n h = rw (le-leb n LARGEST h) refl

-- Numbers as text.

before_most : (most n : ℕ) (text : List ℕ) → length (digits_before most n text) ≤ most + length text
before_most zero n text = omega arith
before_most (suc most) n text = go (ltb 0 n) (before_most most (n / 10) ((48 + n % 10) ∷ text))
  where
    go : (t : Bool) → length (digits_before most (n / 10) ((48 + n % 10) ∷ text)) ≤ most + suc (length text) → length (cond t (digits_before most (n / 10) ((48 + n % 10) ∷ text)) text) ≤ suc most + length text
    go true h = omega arith
    go false h = omega arith

pub number_most : (n : ℕ) → length (ended (number_text n) TAB) ≤ 21
unfolding number_text
number_most n =
    let h = before_most 19 (n / 10) ((48 + n % 10) ∷ []) in
    let w = length-append (digits_before 19 (n / 10) ((48 + n % 10) ∷ [])) (TAB ∷ []) in
    omega arith

pub number_put : (n : ℕ) (room : List ℕ) → length room ≡ 21 → put_next (ended (number_text n) TAB) 0 room ≡ length (ended (number_text n) TAB)
unfolding put_next
number_put n room h =
    let m = number_most n in
    let z : 0 + length (ended (number_text n) TAB) ≡ length (ended (number_text n) TAB) = omega arith in
    rw (z, le-leb (length (ended (number_text n) TAB)) (length room) (omega arith)) refl

ended_one : (n : ℕ) → length (ended (number_text n) TAB) ≡ length (number_text n) + 1
ended_one n = length-append (number_text n) (TAB ∷ [])

pub dropped_by_lem : (n bytes : ℕ) → dropped_length n bytes ≡ length (ended (number_text n) TAB) + 7 + bytes
unfolding dropped_length
dropped_by_lem n bytes = let a = note_length n (ascii "line") [] [] in let b = ended_one n in omega arith

pub restored_by : (n : ℕ) → restored_length true n ≡ length (ended (number_text n) TAB) + 9
unfolding restored_length
restored_by n = let a = note_length n (ascii "H4") (0 ∷ 0 ∷ []) (0 ∷ 0 ∷ []) in let b = ended_one n in omega arith

pub restored_none : (n : ℕ) → restored_length false n ≡ 0
unfolding restored_length
restored_none n = refl

-- One line.

length_kept : (has : Bool) (size at : ℕ) (s : Count) (l : Line) (r : Record) → (read_by size at l r).kept ≡ true
    → length_by has s l r ≡ restored_lengths (s.follows (read_by size at l r).port) (fed_if has (s.follows (read_by size at l r).port) (read_by size at l r).count) (s.keys (read_by size at l r).port)
length_kept has size at s l (Frame p h4 flag place next) k = refl
length_kept has size at s l (Malformed next) k = absurd (false≢true k)
length_kept has size at s l Long k = absurd (false≢true k)
length_kept has size at s l Unfinished k = absurd (false≢true k)
length_kept has size at s l End k = absurd (false≢true k)

count_kept : (has : Bool) (size at : ℕ) (s : Count) (l : Line) (r : Record) → (read_by size at l r).kept ≡ true → count_with has s r ≡ count_frame has s (read_by size at l r).port (read_by size at l r).count
count_kept has size at s l (Frame p h4 flag place next) k = refl
count_kept has size at s l (Malformed next) k = absurd (false≢true k)
count_kept has size at s l Long k = absurd (false≢true k)
count_kept has size at s l Unfinished k = absurd (false≢true k)
count_kept has size at s l End k = absurd (false≢true k)

kept_kept : (size at : ℕ) (l : Line) (r : Record) → (read_by size at l r).kept ≡ true → kept_by l r ≡ length (line_text l)
kept_kept size at l (Frame p h4 flag place next) k = refl
kept_kept size at l (Malformed next) k = absurd (false≢true k)
kept_kept size at l Long k = absurd (false≢true k)
kept_kept size at l Unfinished k = absurd (false≢true k)
kept_kept size at l End k = absurd (false≢true k)

-- a line that is dropped
record Drops (has : Bool) (size at : ℕ) (s : Count) (l : Line) (r : Record) : Type 0 where
  length_is : length_by has s l r ≡ dropped_length s.number ((read_by size at l r).end - at)
  count_is : count_with has s r ≡ record { follows = s.follows; keys = s.keys; number = suc s.number }
  kept_is : kept_by l r ≡ 0

drops : (has : Bool) (size at : ℕ) (s : Count) (l : Line) (r : Record) → (read_by size at l r).kept ≡ false → Drops has size at s l r
drops has size at s l (Frame p h4 flag place next) k = absurd (false≢true (sym k))
drops has size at s l (Malformed next) k = let e : length l.bytes ≡ at + length l.bytes - at = omega arith in record { length_is = ap (dropped_length s.number) e; count_is = refl; kept_is = refl }
drops has size at s l Long k = let e : length l.bytes ≡ at + length l.bytes - at = omega arith in record { length_is = ap (dropped_length s.number) e; count_is = refl; kept_is = refl }
drops has size at s l Unfinished k = let e : length l.bytes ≡ at + length l.bytes - at = omega arith in record { length_is = ap (dropped_length s.number) e; count_is = refl; kept_is = refl }
drops has size at s l End k = let e : length l.bytes ≡ at + length l.bytes - at = omega arith in record { length_is = ap (dropped_length s.number) e; count_is = refl; kept_is = refl }

-- The loop.

pub record Counting (has : Bool) (ports size start : ℕ) (text : List ℕ) (follows : List Follow) (keys : List Keys) (at mended notes number : ℕ) : Type 0 where
  pub within : at ≤ length text
  pub behind : mended ≤ at
  pub few : number ≤ at + 2
  pub follows_long : length follows ≡ 64
  pub keys_long : length keys ≡ 64
  pub mended_is : mended + kept_length ports size (lines_with (drop at text)) ≡ start + kept_length ports size (lines_with (drop start text))
  pub notes_is : told (notes + notes_length has ports size (count_in follows keys number) (lines_with (drop at text))) ≡ told (notes_length has ports size count_start (lines_with (drop start text)))

module _ (has : Bool) (ports size start : ℕ) (text : List ℕ) (follows : List Follow) (keys : List Keys) (at mended notes number : ℕ) (c : Counting has ports size start text follows keys at mended notes number) (more : at < length text) where
  abbrev r : Read
  r = read_at ports size at text

  abbrev l : Line
  l = line_at at text

  abbrev state : Count
  state = count_in follows keys number

  abbrev rest : List Line
  rest = lines_with (drop r.next text)

  kept_step : mended + (kept_by l (record_of ports size l) + kept_length ports size rest) ≡ start + kept_length ports size (lines_with (drop start text))
  kept_step = ap (λ (ls : List Line). mended + kept_length ports size ls) (sym (lines_read ports size at text more)) ∙ c.mended_is

  notes_step : told (notes + (length_by has state l (record_of ports size l) + notes_length has ports size (count_with has state (record_of ports size l)) rest)) ≡ told (notes_length has ports size count_start (lines_with (drop start text)))
  notes_step = ap (λ (ls : List Line). told (notes + notes_length has ports size state ls)) (sym (lines_read ports size at text more)) ∙ c.notes_is

  -- a sum, and what comes behind it
  summed : (a b new : ℕ) → new ≡ told (notes + a) → told (new + b) ≡ told (notes + (a + b))
  summed a b new e = let z : notes + a + b ≡ notes + (a + b) = omega arith in rw e (told_more (notes + a) b ∙ ap told z)

  pub counting_dropped : r.kept ≡ false → (new next_number : ℕ) → new ≡ told (notes + told (dropped_length number (r.end - at))) → next_number ≡ number + 1
      → Counting has ports size start text follows keys r.next mended new next_number
  unfolding read_at
  counting_dropped k new next_number e m =
      let n = read_next ports size at text in
      let y = line_lies at text more in
      let a = y.least in
      let b = y.most in
      let q = c.behind in
      let d = drops has size at state l (record_of ports size l) k in
      let w = d.kept_is in
      let s = kept_step in
      let f = c.few in
      let z : next_number ≡ suc number = omega arith in
      record {
        within = omega arith;
        behind = omega arith;
        few = omega arith;
        follows_long = c.follows_long;
        keys_long = c.keys_long;
        mended_is = omega arith;
        notes_is =
            summed (dropped_length number (r.end - at)) (notes_length has ports size (count_in follows keys next_number) rest) new (e ∙ told_right notes (dropped_length number (r.end - at)))
            ∙ (rw (z, ← d.length_is, ← d.count_is) refl ∙ notes_step);
      }

  module _ (k : r.kept ≡ true) (port : r.port < 64) where
    abbrev p : ℕ
    p = r.port

    abbrev f : Follow
    f = get_or follows p beginning

    abbrev g : Follow
    g = fed_if has f r.count

    abbrev numbers : Keys
    numbers = get_or keys p no_keys

    frame_is : (next_number : ℕ) → next_number ≡ suc number → count_in (set follows p g) (set keys p (with_key numbers number)) next_number ≡ count_frame has state p r.count
    frame_is next_number e =
        let fl = set_given follows p g beginning (let q = c.follows_long in omega arith) in
        let kl = set_given keys p (with_key numbers number) no_keys (let q = c.keys_long in omega arith) in
        λ i. record { follows = fl i; keys = kl i; number = e i }

    pub counting_kept : (next-mended new next_number : ℕ) → next-mended ≡ mended + (r.next - at) → new ≡ told (notes + restored_lengths f g numbers) → next_number ≡ number + 1
        → Counting has ports size start text (set follows p g) (set keys p (with_key numbers number)) r.next next-mended new next_number
    unfolding read_at
    counting_kept next-mended new next_number e d m =
        let n = read_next ports size at text in
        let y = line_lies at text more in
        let a = y.least in
        let b = y.most in
        let q = c.behind in
        let w = kept_kept size at l (record_of ports size l) k in
        let s = kept_step in
        let h = c.few in
        let z : next_number ≡ suc number = omega arith in
        record {
          within = omega arith;
          behind = omega arith;
          few = omega arith;
          follows_long = length-set follows p g ∙ c.follows_long;
          keys_long = length-set keys p (with_key numbers number) ∙ c.keys_long;
          mended_is = omega arith;
          notes_is =
              summed (restored_lengths f g numbers) (notes_length has ports size (count_in (set follows p g) (set keys p (with_key numbers number)) next_number) rest) new d
              ∙ (rw (frame_is next_number z, ← count_kept has size at state l (record_of ports size l) k, ← length_kept has size at state l (record_of ports size l) k) refl ∙ notes_step);
        }

pub counting_starts : (has : Bool) (ports size start : ℕ) (text : List ℕ) → start ≤ length text → (follows : List Follow) (keys : List Keys)
    → follows ≡ replicate 64 beginning → keys ≡ replicate 64 no_keys → Counting has ports size start text follows keys start start 0 2
counting_starts has ports size start text h follows keys e d =
    let fl : ◌≡◌ {A = ℕ → Follow} (λ p. get_or follows p beginning) (λ p. beginning) = λ i p. (ap (λ (x : List Follow). get_or x p beginning) e ∙ replicated beginning 64 p) i in
    let kl : ◌≡◌ {A = ℕ → Keys} (λ p. get_or keys p no_keys) (λ p. no_keys) = λ i p. (ap (λ (x : List Keys). get_or x p no_keys) d ∙ replicated no_keys 64 p) i in
    let s : count_in follows keys 2 ≡ count_start = λ i. record { follows = fl i; keys = kl i; number = 2 } in
    let z : 0 + notes_length has ports size count_start (lines_with (drop start text)) ≡ notes_length has ports size count_start (lines_with (drop start text)) = omega arith in
    record {
      within = h;
      behind = omega arith;
      few = omega arith;
      follows_long = ap length e ∙ length-replicate 64 beginning;
      keys_long = ap length d ∙ length-replicate 64 no_keys;
      mended_is = refl;
      notes_is = rw (s, z) refl;
    }

pub record Counted (has : Bool) (ports size start : ℕ) (text : List ℕ) (follows : List Follow) (keys : List Keys) (mended notes : ℕ) : Type 0 where
  pub mended_is : mended ≡ start + kept_length ports size (lines_with (drop start text))
  pub notes_is : told (notes + length_end 64 (count_in follows keys 0)) ≡ told (notes_length has ports size count_start (lines_with (drop start text)))

-- the number of the next line is not looked at any more
end_number : (m : ℕ) (follows : List Follow) (keys : List Keys) (n : ℕ) → length_end m (count_in follows keys n) ≡ length_end m (count_in follows keys 0)
end_number zero follows keys n = refl
end_number (suc m) follows keys n = rw (end_number m follows keys n) refl

pub counting_ends : (has : Bool) (ports size start : ℕ) (text : List ℕ) (follows : List Follow) (keys : List Keys) (at mended notes number : ℕ) → Counting has ports size start text follows keys at mended notes number → length text ≤ at
    → Counted has ports size start text follows keys mended notes
counting_ends has ports size start text follows keys at mended notes number c h =
    let e : lines_with (drop at text) ≡ [] = ap lines_with (drop_of_length-le text {i = at} h) ∙ no_lines in
    let m : mended + 0 ≡ start + kept_length ports size (lines_with (drop start text)) = ap (λ (ls : List Line). mended + kept_length ports size ls) (sym e) ∙ c.mended_is in
    record {
      mended_is = omega arith;
      notes_is = ap (λ (x : ℕ). told (notes + x)) (sym (end_number 64 follows keys number)) ∙ (ap (λ (ls : List Line). told (notes + notes_length has ports size (count_in follows keys number) ls)) (sym e) ∙ c.notes_is);
    }

-- What the calls promise.

pub number_told : (n : ℕ) (room : List ℕ) → length room ≡ 21 → (r : ℕ) → r ≡ put_next (ended (number_text n) TAB) 0 room → (r ≡ length (ended (number_text n) TAB)) × (r ≤ 21)
number_told n room h r e = let z : r ≡ length (ended (number_text n) TAB) = e ∙ number_put n room h in let m = number_most n in (z, omega arith)

pub dropped_told : (n bytes size r : ℕ) → size ≡ length (ended (number_text n) TAB) → r ≡ told (size + 7 + bytes) → r ≡ told (dropped_length n bytes)
dropped_told n bytes size r e h = let z : size + 7 + bytes ≡ dropped_length n bytes = rw e (sym (dropped_by_lem n bytes)) in h ∙ ap told z

pub restored_told : (n size : ℕ) → size ≡ length (ended (number_text n) TAB) → size ≤ 21 → (size + 9 ≡ restored_length true n) × (size + 9 ≤ 30)
restored_told n size e h = (rw e (sym (restored_by n)), omega arith)

pub restored_untold : (n : ℕ) → (0 ≡ restored_length false n) × (0 ≤ 30)
restored_untold n = (sym (restored_none n), omega arith)

pub lengths_by_lem : (f g : Follow) (k : Keys) (x y z : ℕ) (a b c : Bool) → x ≡ restored_length a k.first → y ≡ restored_length b k.second → z ≡ restored_length c k.third
    → a ≡ restores_first f g → b ≡ restores_second f g → c ≡ restores_third f g → x + y + z ≡ restored_lengths f g k
unfolding restored_lengths
lengths_by_lem f g k x y z a b c ex ey ez ea eb ec = rw (ex, ey, ez, ea, eb, ec) refl

pub noted_kept : (r : Read) (f g : Follow) (k : Keys) (number at x : ℕ) → r.kept ≡ true → x ≡ restored_lengths f g k → x ≡ noted_by r f g k number at
unfolding noted_by
noted_kept r f g k number at x t e = rw t e

pub noted_dropped : (r : Read) (f g : Follow) (k : Keys) (number at x : ℕ) → r.kept ≡ false → x ≡ told (dropped_length number (r.end - at)) → x ≡ noted_by r f g k number at
unfolding noted_by
noted_dropped r f g k number at x t e = rw t e

-- a turn

module _ (has : Bool) (ports size start : ℕ) (text : List ℕ) (follows : List Follow) (keys : List Keys) (at mended notes number : ℕ) (c : Counting has ports size start text follows keys at mended notes number) (more : at < length text)
    (r : Read) (er : r ≡ read_at ports size at text) (g : Follow) (eg : g ≡ fed_if has (get_or follows r.port beginning) r.count)
    (x : ℕ) (ex : x ≡ noted_by r (get_or follows r.port beginning) g (get_or keys r.port no_keys) number at) (new : ℕ) (en : new ≡ told (notes + x)) where
  pub count_kept_turn : r.kept ≡ true → r.port < 64 → (shifted : Keys) → shifted ≡ with_key (get_or keys r.port no_keys) number
      → Counting has ports size start text (set follows r.port g) (set keys r.port shifted) r.next (mended + (r.next - at)) new (number + 1)
  unfolding noted_by
  count_kept_turn k port shifted es =
      let y : x ≡ restored_lengths (get_or follows r.port beginning) g (get_or keys r.port no_keys) = ex ∙ rw k refl in
      rw (es, en, y, eg, er)
      (counting_kept has ports size start text follows keys at mended notes number c more (rw er at k) (rw er at port) (mended + ((read_at ports size at text).next - at)) _ (number + 1) refl refl refl)

  pub count_dropped_turn : r.kept ≡ false → Counting has ports size start text follows keys r.next mended new (number + 1)
  unfolding noted_by
  count_dropped_turn k =
      let y : x ≡ told (dropped_length number (r.end - at)) = ex ∙ rw k refl in
      rw (en, y, er) (counting_dropped has ports size start text follows keys at mended notes number c more (rw er at k) _ (number + 1) refl refl)

-- and of the end

pub end_turn : (follows : List Follow) (keys : List Keys) (i before notes x new : ℕ) (is : Bool) → notes ≡ told (before + length_end i (count_in follows keys 0)) → is ≡ restores_last (get_or follows i beginning)
    → x ≡ restored_length is (get_or keys i no_keys).second → new ≡ told (notes + x) → new ≡ told (before + length_end (i + 1) (count_in follows keys 0))
end_turn follows keys i before notes x new is e a b d =
    let s = length_end i (count_in follows keys 0) in
    let y = restored_length (restores_last (get_or follows i beginning)) (get_or keys i no_keys).second in
    let z : before + s + y ≡ before + (s + y) = omega arith in
    rw (add-one, d, b, a, e) (told_more (before + s) y ∙ ap told z)

pub told_none : (n : ℕ) → n ≤ LARGEST → n ≡ told (n + 0)
told_none n h = let z : n + 0 ≡ n = omega arith in rw z (told_same n h)

pub whole_lengths : (has : Bool) (ports size start : ℕ) (text : List ℕ) (follows : List Follow) (keys : List Keys) (mended notes : ℕ) → Counted has ports size start text follows keys mended notes
    → (r : Lengths) → r ≡ record { mended = mended; notes = told (notes + length_end 64 (count_in follows keys 0)); answer = 0 }
    → r ≡ record { mended = start + kept_length ports size (lines_with (drop start text)); notes = told (notes_length has ports size count_start (lines_with (drop start text))); answer = 0 }
whole_lengths has ports size start text follows keys mended notes c r e = e ∙ (λ i. record { mended = c.mended_is i; notes = c.notes_is i; answer = 0 })
