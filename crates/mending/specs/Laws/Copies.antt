-- The first sweep over lent slices: arrays for what the ports have, and a buffer whose front is what is written.
use Rattle.std.specs.Prelude.{◌≡◌, refl, Bool, true, false, cond, List, [], ◌∷◌, ◌++◌, ◌≢◌, ℕ, zero, suc, ◌+◌, ◌-◌, ◌%◌, ◌≤◌, ◌<◌, leb, drop, get_or, replicate, set, take}
use Rattle.std.proofs.Math.Path.{sym, ap}
use Rattle.std.proofs.Common.{◌∙◌, ⊎_elim, drop_of_length-le, length-append, length-take, drop_at, ext_get_or, get_or-append-add, get_or-set_other, get_or-set_same, get_or-take, take-add, take_all, eq-eqb, le-leb, ne_eqb}
use Rattle.std.proofs.lemmas.Bool.{false≢true}
use native.Mathlib.Omega.{arith}
use Rattle.std.proofs.Math.ListN.{get_or-append, length, length-set}
use Rattle.std.proofs.lemmas.List.{length-replicate, take-set-le}
use Rattle.std.proofs.Math.Seq.{slice, length-take-le, set_out, take-set-lt}
use Rattle.ground.specs.Drawn.{fill_at, get_or_before, get_or_fill_at, length_fill_at}
use Rattle.ground.specs.Truth.{eq_or_ne, le_or_lt}
use Rattle.mending.specs.declared.follow.Follow.{Follow}
use Rattle.mending.specs.declared.follow.Keys.{Keys}
use Rattle.mending.specs.declared.line.Read.{Read}
use Rattle.mending.specs.Follow.{beginning, count_back, fed_if, restores_first, restores_second, restores_third}
use Rattle.mending.specs.Laws.Sweeps.{Sweep, given, kept_by, kept_length, no_keys, sweep_by, sweep_end, sweep_frame, sweep_start, swept, restored_in, set_if, with_key}
use Rattle.mending.specs.Laws.Restored.{length_set_if}
use Rattle.mending.specs.Laws.Reads.{line_lies, line_at, no_lines, read_at, read_by, slice_here}
use Rattle.mending.specs.Lines.{Line, capital, digit_place, line_text, lines_with, record_of}
use Rattle.payload.specs.Laying.{laid}
use Rattle.recording.specs.declared.record.Record.{Record}
use Rattle.recording.specs.declared.record.Record.TheVariants.{Frame, Malformed, Long, Unfinished, End}

abbrev pub sweep_in : List Follow → List Keys → List ℕ → Sweep
sweep_in follows keys written = record { follows = λ p. get_or follows p beginning; keys = λ p. get_or keys p no_keys; written = written }

-- Lists.

-- an element set is another one given
pub set_given : {A : Type 0} (l : List A) (p : ℕ) (x d : A) → p < length l → ◌≡◌ {A = ℕ → A} (λ q. get_or (set l p x) q d) (given (λ q. get_or l q d) p x)
set_given {A} l p x d h = λ i q. each q i
  where
    each : (q : ℕ) → get_or (set l p x) q d ≡ given (λ q. get_or l q d) p x q
    each q = ⊎_elim (λ (e : q ≡ p). rw (e, eq-eqb p p refl) (get_or-set_same l p x d h)) (λ (n : q ≢ p). rw (ne_eqb p q (λ (z : p ≡ q). n (sym z))) (get_or-set_other l p q x d n)) (eq_or_ne q p)

-- the front of a list, where one element of it is set
take_set : (n : ℕ) (l : List ℕ) (i v : ℕ) → take n (set l i v) ≡ set (take n l) i v
take_set n l i v =
    ⊎_elim
    (λ (h : n ≤ i). take-set-le n l i v h ∙ sym (set_out (take n l) i v (let w = length-take n l in omega arith)))
    (λ (h : i < n). take-set-lt n l i v h)
    (le_or_lt n i)

take_set_if : (b : Bool) (n : ℕ) (l : List ℕ) (i v : ℕ) → take n (set_if b i v l) ≡ set_if b i v (take n l)
take_set_if true n l i v = take_set n l i v
take_set_if false n l i v = refl

restored_take : (f g : Follow) (k : Keys) (n : ℕ) (l : List ℕ) → take n (restored_in f g k l) ≡ restored_in f g k (take n l)
unfolding restored_in
restored_take f g k n l =
    take_set_if (restores_third f g) n (set_if (restores_second f g) k.second (capital (count_back f g.v 2)) (set_if (restores_first f g) k.first (capital (count_back f g.v 3)) l)) k.third (capital (count_back f g.v 1))
    ∙ (ap (set_if (restores_third f g) k.third (capital (count_back f g.v 1)))
    (take_set_if (restores_second f g) n (set_if (restores_first f g) k.first (capital (count_back f g.v 3)) l) k.second (capital (count_back f g.v 2))
    ∙ ap (set_if (restores_second f g) k.second (capital (count_back f g.v 2))) (take_set_if (restores_first f g) n l k.first (capital (count_back f g.v 3)))))

pub restored_length_lem : (f g : Follow) (k : Keys) (l : List ℕ) → length (restored_in f g k l) ≡ length l
unfolding restored_in
restored_length_lem f g k l =
    length_set_if (restores_third f g) k.third (capital (count_back f g.v 1)) (set_if (restores_second f g) k.second (capital (count_back f g.v 2)) (set_if (restores_first f g) k.first (capital (count_back f g.v 3)) l))
    ∙ (length_set_if (restores_second f g) k.second (capital (count_back f g.v 2)) (set_if (restores_first f g) k.first (capital (count_back f g.v 3)) l)
    ∙ length_set_if (restores_first f g) k.first (capital (count_back f g.v 3)) l)

pub laid_length : (place : ℕ) (piece out : List ℕ) → length (laid place piece out) ≡ length out
laid_length place piece out = go (leb (place + length piece) (length out))
  where
    go : (b : Bool) → length (cond b (fill_at place (length piece) (λ j. get_or piece j 0) out) out) ≡ length out
    go true = length_fill_at place (length piece) (λ j. get_or piece j 0) out
    go false = refl

-- bytes laid behind the front

abbrev filled : ℕ → List ℕ → List ℕ → List ℕ
filled to piece out = fill_at to (length piece) (λ j. get_or piece j 0) out

module _ (to : ℕ) (piece out : List ℕ) (h : to + length piece ≤ length out) where
  front : length (take to out) ≡ to
  front = length-take-le to out (omega arith)

  filled_long : length (take (to + length piece) (filled to piece out)) ≡ to + length piece
  filled_long = length-take-le (to + length piece) (filled to piece out) (let w = length_fill_at to (length piece) (λ j. get_or piece j 0) out in omega arith)

  filled_same : length (take (to + length piece) (filled to piece out)) ≡ length (take to out ++ piece)
  filled_same = let a = filled_long in let b = front in let c = length-append (take to out) piece in omega arith

  filled_before : (i : ℕ) → i < to → get_or (take (to + length piece) (filled to piece out)) i 0 ≡ get_or (take to out ++ piece) i 0
  filled_before i k =
      get_or-take (to + length piece) (filled to piece out) i 0 (omega arith)
      ∙ (get_or_before to (length piece) (λ j. get_or piece j 0) out i 0 k
      ∙ sym (get_or-append (take to out) piece 0 i (let b = front in omega arith) ∙ get_or-take to out i 0 k))

  filled_behind : (i : ℕ) → to ≤ i → i < to + length piece → get_or (take (to + length piece) (filled to piece out)) i 0 ≡ get_or (take to out ++ piece) i 0
  filled_behind i k l =
      let e : to + (i - to) ≡ i = omega arith in
      let a : get_or (filled to piece out) (to + (i - to)) 0 ≡ get_or piece (i - to) 0 = get_or_fill_at to (length piece) (λ j. get_or piece j 0) out (i - to) 0 (omega arith) (omega arith) in
      let b : get_or (take to out ++ piece) (length (take to out) + (i - to)) 0 ≡ get_or piece (i - to) 0 = get_or-append-add (take to out) piece (i - to) 0 in
      let n : length (take to out) + (i - to) ≡ i = let w = front in omega arith in
      get_or-take (to + length piece) (filled to piece out) i 0 l ∙ (rw e at a ∙ sym (rw n at b))

  pub laid_take : take (to + length piece) (laid to piece out) ≡ take to out ++ piece
  laid_take =
      rw (le-leb (to + length piece) (length out) h)
      (ext_get_or 0 (take (to + length piece) (filled to piece out)) (take to out ++ piece) filled_same
      (λ i l. ⊎_elim (λ (k : to ≤ i). filled_behind i k (let w = filled_long in omega arith)) (λ (k : i < to). filled_before i k) (le_or_lt to i)))

-- a part of a slice, as it is lent
pub part_is : (at next : ℕ) (l : List ℕ) → at ≤ next → at ≤ length l → take (next - at) (drop at l) ≡ slice at next l
part_is at next l h k =
    let e : at + (next - at) ≡ next = omega arith in
    sym (rw e at (ap (drop at) (take-add at (next - at) l) ∙ drop_at (take at l) (take (next - at) (drop at l)) at (length-take-le at l k)))

-- What is written only grows.

frame_longer : (has : Bool) (size : ℕ) (s : Sweep) (l : Line) (p count : ℕ) → length s.written + length (line_text l) ≡ length (sweep_frame has size s l p count).written
frame_longer has size s l p count =
    let a = length-append (restored_in (s.follows p) (fed_if has (s.follows p) count) (s.keys p) s.written) (line_text l) in
    let b = restored_length_lem (s.follows p) (fed_if has (s.follows p) count) (s.keys p) s.written in
    omega arith

by_longer : (has : Bool) (size : ℕ) (s : Sweep) (l : Line) (r : Record) → length s.written ≤ length (sweep_by has size s l r).written
by_longer has size s l (Frame p h4 flag place next) = let a = frame_longer has size s l p (h4 % 16) in omega arith
by_longer has size s l (Malformed next) = omega arith
by_longer has size s l Long = omega arith
by_longer has size s l Unfinished = omega arith
by_longer has size s l End = omega arith

pub swept_longer : (has : Bool) (ports size : ℕ) (s : Sweep) (ls : List Line) → length s.written ≤ length (swept has ports size s ls).written
swept_longer has ports size s [] = omega arith
swept_longer has ports size s (l ∷ ls) =
    let a = by_longer has size s l (record_of ports size l) in
    let b = swept_longer has ports size (sweep_by has size s l (record_of ports size l)) ls in
    omega arith

-- by the lines that are kept

by_length : (has : Bool) (size : ℕ) (s : Sweep) (l : Line) (r : Record) → length (sweep_by has size s l r).written ≡ length s.written + kept_by l r
by_length has size s l (Frame p h4 flag place next) = sym (frame_longer has size s l p (h4 % 16))
by_length has size s l (Malformed next) = omega arith
by_length has size s l Long = omega arith
by_length has size s l Unfinished = omega arith
by_length has size s l End = omega arith

pub written_length : (has : Bool) (ports size : ℕ) (s : Sweep) (ls : List Line) → length (swept has ports size s ls).written ≡ length s.written + kept_length ports size ls
written_length has ports size s [] = omega arith
written_length has ports size s (l ∷ ls) =
    let a = by_length has size s l (record_of ports size l) in
    let b = written_length has ports size (sweep_by has size s l (record_of ports size l)) ls in
    omega arith

-- One line.

by_kept : (has : Bool) (size at : ℕ) (s : Sweep) (l : Line) (r : Record) → (read_by size at l r).kept ≡ true → sweep_by has size s l r ≡ sweep_frame has size s l (read_by size at l r).port (read_by size at l r).count
by_kept has size at s l (Frame p h4 flag place next) k = refl
by_kept has size at s l (Malformed next) k = absurd (false≢true k)
by_kept has size at s l Long k = absurd (false≢true k)
by_kept has size at s l Unfinished k = absurd (false≢true k)
by_kept has size at s l End k = absurd (false≢true k)

by_dropped : (has : Bool) (size at : ℕ) (s : Sweep) (l : Line) (r : Record) → (read_by size at l r).kept ≡ false → sweep_by has size s l r ≡ s
by_dropped has size at s l (Frame p h4 flag place next) k = absurd (false≢true (sym k))
by_dropped has size at s l (Malformed next) k = refl
by_dropped has size at s l Long k = refl
by_dropped has size at s l Unfinished k = refl
by_dropped has size at s l End k = refl

next_by : (size at : ℕ) (l : Line) (r : Record) → (read_by size at l r).next ≡ at + length (line_text l)
next_by size at l (Frame p h4 flag place next) = refl
next_by size at l (Malformed next) = refl
next_by size at l Long = refl
next_by size at l Unfinished = refl
next_by size at l End = refl

digit_by : (size at : ℕ) (l : Line) (r : Record) → (read_by size at l r).kept ≡ true → (read_by size at l r).digit ≡ at + digit_place size l
digit_by size at l (Frame p h4 flag place next) k = refl
digit_by size at l (Malformed next) k = absurd (false≢true k)
digit_by size at l Long k = absurd (false≢true k)
digit_by size at l Unfinished k = absurd (false≢true k)
digit_by size at l End k = absurd (false≢true k)

pub read_next : (ports size at : ℕ) (text : List ℕ) → (read_at ports size at text).next ≡ at + length (line_text (line_at at text))
unfolding read_at
read_next ports size at text = next_by size at (line_at at text) (record_of ports size (line_at at text))

-- the lines from a place on, of which the first is read
pub lines_read : (ports size at : ℕ) (text : List ℕ) → at < length text → lines_with (drop at text) ≡ line_at at text ∷ lines_with (drop (read_at ports size at text).next text)
lines_read ports size at text h = (line_lies at text h).lines ∙ rw (read_next ports size at text) refl

pub slice_read : (ports size at : ℕ) (text : List ℕ) → at < length text → slice at (read_at ports size at text).next text ≡ line_text (line_at at text)
slice_read ports size at text h =
    rw (read_next ports size at text) (slice_here at text (line_text (line_at at text)) (drop (at + length (line_text (line_at at text))) text) (omega arith) (line_lies at text h).here)

pub replicated : {A : Type 0} (x : A) (n p : ℕ) → get_or (replicate n x) p x ≡ x
replicated x zero p = refl
replicated x (suc n) zero = refl
replicated x (suc n) (suc p) = replicated x n p

-- The loop.

pub record Copying (has : Bool) (ports size start : ℕ) (text out₀ : List ℕ) (follows : List Follow) (keys : List Keys) (at to : ℕ) (out : List ℕ) : Type 0 where
  pub within : at ≤ length text
  pub behind : to ≤ at
  pub inside : to ≤ length out
  pub follows_long : length follows ≡ 64
  pub keys_long : length keys ≡ 64
  pub long : length out ≡ length out₀
  pub goes : swept has ports size (sweep_in follows keys (take to out)) (lines_with (drop at text)) ≡ swept has ports size (sweep_start (take start out₀)) (lines_with (drop start text))

module _ (has : Bool) (ports size start : ℕ) (text out₀ : List ℕ) (room : length out₀ ≡ length (swept has ports size (sweep_start (take start out₀)) (lines_with (drop start text))).written)
    (follows : List Follow) (keys : List Keys) (at to : ℕ) (out : List ℕ) (c : Copying has ports size start text out₀ follows keys at to out) (more : at < length text) where
  abbrev r : Read
  r = read_at ports size at text

  abbrev state : Sweep
  state = sweep_in follows keys (take to out)

  abbrev l : Line
  l = line_at at text

  stepped : swept has ports size (sweep_by has size state l (record_of ports size l)) (lines_with (drop r.next text)) ≡ swept has ports size (sweep_start (take start out₀)) (lines_with (drop start text))
  stepped = sym (ap (swept has ports size state) (lines_read ports size at text more)) ∙ c.goes

  pub copying_dropped : r.kept ≡ false → Copying has ports size start text out₀ follows keys r.next to out
  unfolding read_at
  copying_dropped k =
      let n = read_next ports size at text in
      let y = (line_lies at text more).most in
      let a = c.behind in
      record {
        within = omega arith;
        behind = omega arith;
        inside = c.inside;
        follows_long = c.follows_long;
        keys_long = c.keys_long;
        long = c.long;
        goes = ap (λ (s : Sweep). swept has ports size s (lines_with (drop r.next text))) (sym (by_dropped has size at state l (record_of ports size l) k)) ∙ stepped;
      }

  module _ (k : r.kept ≡ true) (few : r.port < 64) where
    abbrev p : ℕ
    p = r.port

    abbrev f : Follow
    f = get_or follows p beginning

    abbrev g : Follow
    g = fed_if has f r.count

    abbrev places : Keys
    places = get_or keys p no_keys

    abbrev piece : List ℕ
    piece = slice at r.next text

    abbrev new : List ℕ
    new = laid to piece (restored_in f g places out)

    piece_is : piece ≡ line_text l
    piece_is = slice_read ports size at text more

    -- there is room for the line
    fits : to + length piece ≤ length out
    unfolding read_at
    fits =
        let a = frame_longer has size state l p r.count in
        let b = swept_longer has ports size (sweep_frame has size state l p r.count) (lines_with (drop r.next text)) in
        let e : length (swept has ports size (sweep_frame has size state l p r.count) (lines_with (drop r.next text))).written ≡ length out₀ =
        ap (λ (s : Sweep). length (swept has ports size s (lines_with (drop r.next text))).written) (sym (by_kept has size at state l (record_of ports size l) k)) ∙ (ap (λ (s : Sweep). length s.written) stepped ∙ sym room) in
        let w = length-take-le to out c.inside in
        let z = ap length piece_is in
        let q = c.long in
        omega arith

    frame_is : (key : ℕ) → key ≡ to + digit_place size l → sweep_in (set follows p g) (set keys p (with_key places key)) (take (to + length piece) new) ≡ sweep_frame has size state l p r.count
    frame_is key e =
        let w : length (take to out) ≡ to = length-take-le to out c.inside in
        let wr : take (to + length piece) new ≡ restored_in f g places (take to out) ++ line_text l =
        laid_take to piece (restored_in f g places out) (let a = restored_length_lem f g places out in let b = fits in omega arith)
        ∙ (ap (λ (x : List ℕ). x ++ piece) (restored_take f g places to out) ∙ ap (λ (x : List ℕ). restored_in f g places (take to out) ++ x) piece_is) in
        let fl = set_given follows p g beginning (let q = c.follows_long in omega arith) in
        let kl = set_given keys p (with_key places key) no_keys (let q = c.keys_long in omega arith) in
        let kk : key ≡ length (take to out) + digit_place size l = omega arith in
        (λ i. record { follows = fl i; keys = kl i; written = wr i })
        ∙ ap (λ (x : ℕ). record { follows = given (λ q. get_or follows q beginning) p g; keys = given (λ q. get_or keys q no_keys) p (with_key places x); written = restored_in f g places (take to out) ++ line_text l }) kk

    pub copying_kept : (key next-to : ℕ) → key ≡ to + (r.digit - at) → next-to ≡ to + (r.next - at)
        → Copying has ports size start text out₀ (set follows p g) (set keys p (with_key places key)) r.next next-to new
    unfolding read_at
    copying_kept key next-to e m =
        let n = read_next ports size at text in
        let y = (line_lies at text more).most in
        let a = c.behind in
        let z = ap length piece_is in
        let b = fits in
        let d = digit_by size at l (record_of ports size l) k in
        let x : next-to ≡ to + length piece = omega arith in
        let w : key ≡ to + digit_place size l = omega arith in
        let nl : length new ≡ length out = laid_length to piece (restored_in f g places out) ∙ restored_length_lem f g places out in
        record {
          within = omega arith;
          behind = omega arith;
          inside = omega arith;
          follows_long = length-set follows p g ∙ c.follows_long;
          keys_long = length-set keys p (with_key places key) ∙ c.keys_long;
          long = nl ∙ c.long;
          goes =
              rw x
              (ap (λ (s : Sweep). swept has ports size s (lines_with (drop r.next text))) (frame_is key w ∙ sym (by_kept has size at state l (record_of ports size l) k)) ∙ stepped);
        }

pub copying_starts : (has : Bool) (ports size start : ℕ) (text out : List ℕ) → start ≤ length text → start ≤ length out → (follows : List Follow) (keys : List Keys)
    → follows ≡ replicate 64 beginning → keys ≡ replicate 64 no_keys → Copying has ports size start text out follows keys start start out
copying_starts has ports size start text out h k follows keys e d =
    let fl : ◌≡◌ {A = ℕ → Follow} (λ p. get_or follows p beginning) (λ p. beginning) = λ i p. (ap (λ (x : List Follow). get_or x p beginning) e ∙ replicated beginning 64 p) i in
    let kl : ◌≡◌ {A = ℕ → Keys} (λ p. get_or keys p no_keys) (λ p. no_keys) = λ i p. (ap (λ (x : List Keys). get_or x p no_keys) d ∙ replicated no_keys 64 p) i in
    record {
      within = h;
      behind = omega arith;
      inside = k;
      follows_long = ap length e ∙ length-replicate 64 beginning;
      keys_long = ap length d ∙ length-replicate 64 no_keys;
      long = refl;
      goes = ap (λ (s : Sweep). swept has ports size s (lines_with (drop start text))) (λ i. record { follows = fl i; keys = kl i; written = take start out });
    }

pub copying_ends : (has : Bool) (ports size start : ℕ) (text out₀ : List ℕ) → length out₀ ≡ length (swept has ports size (sweep_start (take start out₀)) (lines_with (drop start text))).written
    → (follows : List Follow) (keys : List Keys) (at to : ℕ) (out : List ℕ) → Copying has ports size start text out₀ follows keys at to out → length text ≤ at
    → sweep_in follows keys out ≡ swept has ports size (sweep_start (take start out₀)) (lines_with (drop start text))
copying_ends has ports size start text out₀ room follows keys at to out c h =
    let e : sweep_in follows keys (take to out) ≡ swept has ports size (sweep_start (take start out₀)) (lines_with (drop start text)) =
    sym (ap (swept has ports size (sweep_in follows keys (take to out))) (ap lines_with (drop_of_length-le text {i = at} h) ∙ no_lines)) ∙ c.goes in
    let w : length (take to out) ≡ length out = ap (λ (s : Sweep). length s.written) e ∙ (sym room ∙ sym c.long) in
    let l = length-take to out in
    ap (sweep_in follows keys) (sym (take_all to out (omega arith))) ∙ e

-- The first line is written before the others.

pub first_laid : (start : ℕ) (text out : List ℕ) → start ≤ length text → start ≤ length out → take start (laid 0 (take start text) out) ≡ take start text
first_laid start text out h k =
    let n = length-take-le start text h in
    let z : start ≡ 0 + length (take start text) = omega arith in
    ap (λ (m : ℕ). take m (laid 0 (take start text) out)) z ∙ laid_take 0 (take start text) out (omega arith)

pub first_fits : (has : Bool) (ports size start : ℕ) (text : List ℕ) (ls : List Line) → start ≤ length text → start ≤ length (swept has ports size (sweep_start (take start text)) ls).written
first_fits has ports size start text ls h = let n = length-take-le start text h in let m = swept_longer has ports size (sweep_start (take start text)) ls in omega arith

-- what the sweep asks, and what it leaves

module _ (has : Bool) (ports size start : ℕ) (text out new : List ℕ) (h : start ≤ length text) (e : new ≡ laid 0 (take start text) out)
    (room : length out ≡ length (swept has ports size (sweep_start (take start text)) (lines_with (drop start text))).written) where
  laid_front : take start new ≡ take start text
  laid_front = rw e (first_laid start text out h (let m = first_fits has ports size start text (lines_with (drop start text)) h in omega arith))

  pub lines_asked : ports ≤ 64
      → (start ≤ length text) × (ports ≤ 64) × (start ≤ length new) × (length new ≡ length (swept has ports size (sweep_start (take start new)) (lines_with (drop start text))).written)
  lines_asked few =
      let m = first_fits has ports size start text (lines_with (drop start text)) h in
      let l : length new ≡ length out = ap length e ∙ laid_length 0 (take start text) out in
      (h, few, omega arith, rw laid_front (l ∙ room))

  pub lines_left : (last : List ℕ) → last ≡ sweep_end 64 (swept has ports size (sweep_start (take start new)) (lines_with (drop start text)))
      → last ≡ sweep_end 64 (swept has ports size (sweep_start (take start text)) (lines_with (drop start text)))
  lines_left last a = a ∙ ap (λ (x : List ℕ). sweep_end 64 (swept has ports size (sweep_start x) (lines_with (drop start text)))) laid_front
