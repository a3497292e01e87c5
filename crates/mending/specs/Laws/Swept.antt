-- The first sweep gives the mended recording: what it has written is the text of the lines that it has seen, with counts that each port's following gives.
use Rattle.std.specs.Prelude.{◌≡◌, refl, Bool, true, false, cond, eqb, drop, length}
use Rattle.std.proofs.Common.{sym, ◌∙◌, ⊎_elim, arith, eq-eqb, eqb-true, ne_eqb}
use Rattle.std.proofs.Math.Path.{ap}
use mathlib.Core.List.{List, [], ◌∷◌, ◌++◌, append_assoc, append-nil}
use Prim.Native.Nat.{ℕ, zero, suc, ◌+◌, ◌%◌, ◌≤◌, ◌<◌}
use Rattle.std.proofs.lemmas.Bool.{lt-leb}
use Rattle.ground.specs.Truth.{le_or_lt}
use Rattle.mending.specs.Follow.{beginning, count_back, fed_if, finished, following_if, restores_last}
use Rattle.mending.specs.Following.{followed_if}
use Rattle.mending.specs.Laws.Automaton.{following_if_lem}
use Rattle.mending.specs.Laws.Counts.{Counts}
use Rattle.mending.specs.Laws.Layout.{frame_layout}
use Rattle.mending.specs.Laws.Sweeps.{Sweep, sweep_by, sweep_end, sweep_start, swept}
use Rattle.mending.specs.Laws.Restored.{Sound, counts_in, ended_news, ended_counts, ended_later, ended_length, line_now, news_counts, news_length, news_other, news_text, place_key, restored_news, text_length, text_set_if, text_in}
use Rattle.mending.specs.Laws.Seen.{Seen, altered_last, follow_in, keyed, keys_in, known, many_in}
use Rattle.mending.specs.Lines.{Judged, Line, capital, count_by, counts_of, digit_in, digit_place, fate_by, fate_to, judged, judged_by, left_by, line_text, mended_lines, out_by, record_of, text_of, with_digit}
use Rattle.mending.specs.Lines.{Fate as F}
use Rattle.recording.specs.declared.record.Record.{Record}
use Rattle.recording.specs.declared.record.Record.TheVariants.{Frame, Malformed, Long, Unfinished, End}

-- a line more
abbrev pub seen_by : ℕ → List Seen → Line → Record → List Seen
seen_by n es l (Frame p h4 flag place next) = record { port = p; line = l; old = h4 % 16; number = n } ∷ es
seen_by n es l (Malformed next) = es
seen_by n es l Long = es
seen_by n es l Unfinished = es
seen_by n es l End = es

abbrev pub news_by : Bool → List Seen → List ℕ → Record → List ℕ
news_by has es ns (Frame p h4 flag place next) = h4 % 16 ∷ restored_news p (follow_in has p es) (fed_if has (follow_in has p es) (h4 % 16)) es ns
news_by has es ns (Malformed next) = ns
news_by has es ns Long = ns
news_by has es ns Unfinished = ns
news_by has es ns End = ns

module _ (ports size : ℕ) where
  abbrev pub seen_from : ℕ → List Seen → List Line → List Seen
  seen_from n es [] = es
  seen_from n es (l ∷ ls) = seen_from (suc n) (seen_by n es l (record_of ports size l)) ls

module _ (has : Bool) (ports size : ℕ) where
  abbrev pub news_from : ℕ → List Seen → List ℕ → List Line → List ℕ
  news_from n es ns [] = ns
  news_from n es ns (l ∷ ls) = news_from (suc n) (seen_by n es l (record_of ports size l)) (news_by has es ns (record_of ports size l)) ls

-- a count for each line, and each line a frame's
pub record Good (size : ℕ) (es : List Seen) (ns : List ℕ) : Type 0 where
  pub long : length ns ≡ length es
  pub sound : Sound size es

pub fed_small : (has : Bool) (p : ℕ) (l : Line) (n c : ℕ) (es : List Seen) → (fed_if has (follow_in has p es) c).v < 16
fed_small has p l n c es = rw (eq-eqb p p refl) at (known has p (record { port = p; line = l; old = c; number = n } ∷ es)).v_small

pub good_by : (has : Bool) (ports size n : ℕ) (es : List Seen) (ns : List ℕ) (l : Line) (r : Record) → ports ≤ 64 → record_of ports size l ≡ r → Good size es ns → Good size (seen_by n es l r) (news_by has es ns r)
unfolding record_of digit_place
good_by has ports size n es ns l (Frame p h4 flag place next) few e g =
    let f = frame_layout ports size 0 0 p h4 flag place next l.bytes e in
    let w = f.layout.whole in
    let b = f.layout.below in
    let m = news_length has p es ns g.long (fed_if has (follow_in has p es) (h4 % 16)) (fed_small has p l n (h4 % 16) es) in
    record { long = ap suc m; sound = (omega arith, omega arith, g.sound) }
good_by has ports size n es ns l (Malformed next) few e g = g
good_by has ports size n es ns l Long few e g = g
good_by has ports size n es ns l Unfinished few e g = g
good_by has ports size n es ns l End few e g = g

pub good_from : (has : Bool) (ports size n : ℕ) (es : List Seen) (ns : List ℕ) (ls : List Line) → ports ≤ 64 → Good size es ns → Good size (seen_from ports size n es ls) (news_from has ports size n es ns ls)
good_from has ports size n es ns [] few g = g
good_from has ports size n es ns (l ∷ ls) few g =
    good_from has ports size (suc n) (seen_by n es l (record_of ports size l)) (news_by has es ns (record_of ports size l)) ls few (good_by has ports size n es ns l (record_of ports size l) few refl g)

-- The sweep, by what it has seen.

abbrev sweep_seen : Bool → ℕ → List ℕ → List Seen → List ℕ → Sweep
sweep_seen has size base es ns = record { follows = λ p. follow_in has p es; keys = λ p. keys_in (place_key size base) p es; written = text_in size base es ns }

sweep_by_lem : (has : Bool) (size : ℕ) (base : List ℕ) (n : ℕ) (es : List Seen) (ns : List ℕ) (l : Line) (r : Record) → Good size es ns → sweep_by has size (sweep_seen has size base es ns) l r ≡ sweep_seen has size base (seen_by n es l r) (news_by has es ns r)
sweep_by_lem has size base n es ns l (Frame p h4 flag place next) g =
    rw (text_length size base es ns g.long, news_text has p es ns g.long (fed_if has (follow_in has p es) (h4 % 16)) (fed_small has p l n (h4 % 16) es) size base g.sound, eq-eqb (h4 % 16) (h4 % 16) refl) refl
sweep_by_lem has size base n es ns l (Malformed next) g = refl
sweep_by_lem has size base n es ns l Long g = refl
sweep_by_lem has size base n es ns l Unfinished g = refl
sweep_by_lem has size base n es ns l End g = refl

sweep_from : (has : Bool) (ports size : ℕ) (base : List ℕ) (n : ℕ) (es : List Seen) (ns : List ℕ) (ls : List Line) → ports ≤ 64 → Good size es ns
    → swept has ports size (sweep_seen has size base es ns) ls ≡ sweep_seen has size base (seen_from ports size n es ls) (news_from has ports size n es ns ls)
sweep_from has ports size base n es ns [] few g = refl
sweep_from has ports size base n es ns (l ∷ ls) few g =
    ap (λ (s : Sweep). swept has ports size s ls) (sweep_by_lem has size base n es ns l (record_of ports size l) g)
    ∙ sweep_from has ports size base (suc n) (seen_by n es l (record_of ports size l)) (news_by has es ns (record_of ports size l)) ls few (good_by has ports size n es ns l (record_of ports size l) few refl g)

sweep_end_lem : (has : Bool) (size : ℕ) (base : List ℕ) (m : ℕ) (es : List Seen) (ns : List ℕ) → Good size es ns → sweep_end m (sweep_seen has size base es ns) ≡ text_in size base es (ended_news has m es ns)
sweep_end_lem has size base zero es ns g = refl
sweep_end_lem has size base (suc m) es ns g =
    rw (sweep_end_lem has size base m es ns g)
    (text_set_if size base (restores_last (follow_in has m es)) m es (ended_news has m es ns) 1 (count_back (follow_in has m es) (follow_in has m es).first 2) (keys_in (place_key size base) m es).second
    (ended_length has m es ns ∙ g.long) g.sound (keyed (place_key size base) m es).second_is (altered_last m es (follow_in has m es) (known has m es)))

-- The counts of each port go as its following does.

counts_by_lem : (has : Bool) (size q n : ℕ) (es : List Seen) (ns : List ℕ) (l : Line) (r : Record) (cs : List ℕ) → Good size es ns
    → following_if has (follow_in has q es) (counts_in q es ns) (count_by q r cs) ≡ following_if has (follow_in has q (seen_by n es l r)) (counts_in q (seen_by n es l r) (news_by has es ns r)) cs
counts_by_lem has size q n es ns l (Frame p h4 flag place next) cs g = go (eqb p q) refl
  where
    go : (t : Bool) → eqb p q ≡ t
        → following_if has (follow_in has q es) (counts_in q es ns) (cond (eqb p q) (h4 % 16 ∷ cs) cs)
        ≡ following_if has (cond (eqb p q) (fed_if has (follow_in has p es) (h4 % 16)) (follow_in has q es))
        (cond (eqb p q) (counts_in p es (restored_news p (follow_in has p es) (fed_if has (follow_in has p es) (h4 % 16)) es ns) ++ (h4 % 16 ∷ [])) (counts_in q es (restored_news p (follow_in has p es) (fed_if has (follow_in has p es) (h4 % 16)) es ns))) cs
    go true t =
        let z = eqb-true p q t in
        let e : eqb p p ≡ true = eq-eqb p p refl in
        rw (← z, e, news_counts has p es ns g.long (fed_if has (follow_in has p es) (h4 % 16)) (fed_small has p l n (h4 % 16) es)) refl
    go false t = rw (t, news_other q p es ns (follow_in has p es) (fed_if has (follow_in has p es) (h4 % 16)) t) refl
counts_by_lem has size q n es ns l (Malformed next) cs g = refl
counts_by_lem has size q n es ns l Long cs g = refl
counts_by_lem has size q n es ns l Unfinished cs g = refl
counts_by_lem has size q n es ns l End cs g = refl

counts_from : (has : Bool) (ports size q n : ℕ) (es : List Seen) (ns : List ℕ) (ls : List Line) → ports ≤ 64 → Good size es ns
    → following_if has (follow_in has q es) (counts_in q es ns) (counts_of ports size q ls) ≡ finished (follow_in has q (seen_from ports size n es ls)) (counts_in q (seen_from ports size n es ls) (news_from has ports size n es ns ls))
counts_from has ports size q n es ns [] few g = refl
counts_from has ports size q n es ns (l ∷ ls) few g =
    counts_by_lem has size q n es ns l (record_of ports size l) (counts_of ports size q ls) g
    ∙ counts_from has ports size q (suc n) (seen_by n es l (record_of ports size l)) (news_by has es ns (record_of ports size l)) ls few (good_by has ports size n es ns l (record_of ports size l) few refl g)

counts_one : (q : ℕ) (r : Record) (cs : List ℕ) → Counts cs → Counts (count_by q r cs)
counts_one q (Frame p h4 flag place next) cs h = go (eqb p q)
  where
    go : (t : Bool) → Counts (cond t (h4 % 16 ∷ cs) cs)
    go true = (omega arith, h)
    go false = h
counts_one q (Malformed next) cs h = h
counts_one q Long cs h = h
counts_one q Unfinished cs h = h
counts_one q End cs h = h

pub counts_small : (ports size q : ℕ) (ls : List Line) → Counts (counts_of ports size q ls)
counts_small ports size q [] = tt
counts_small ports size q (l ∷ ls) = counts_one q (record_of ports size l) (counts_of ports size q ls) (counts_small ports size q ls)

none_in : (size q : ℕ) (es : List Seen) → Sound size es → 64 ≤ q → many_in q es ≡ 0
none_in size q [] s h = refl
none_in size q (e ∷ es) s h = rw (ne_eqb e.port q (λ (z : e.port ≡ q). let b = s.0 in omega arith)) (none_in size q es s.2 h)

finished_none : (has : Bool) (size q : ℕ) (es : List Seen) (cs : List ℕ) → Sound size es → 64 ≤ q → finished (follow_in has q es) cs ≡ cs
unfolding finished restores_last
finished_none has size q es cs s h =
    let a = (known has q es).pending_in in
    let b = none_in size q es s h in
    rw (lt-leb 3 (follow_in has q es).pending (omega arith)) refl

module _ (has : Bool) (ports size : ℕ) (ls : List Line) (few : ports ≤ 64) where
  abbrev pub seen : List Seen
  seen = seen_from ports size 2 [] ls

  abbrev pub news : List ℕ
  news = ended_news has 64 seen (news_from has ports size 2 [] [] ls)

  pub all_good : Good size seen (news_from has ports size 2 [] [] ls)
  all_good = good_from has ports size 2 [] [] ls few (record { long = refl; sound = tt })

  pub seen_counts : (q : ℕ) → counts_in q seen news ≡ followed_if has (counts_of ports size q ls)
  seen_counts q =
      let f : following_if has beginning [] (counts_of ports size q ls) ≡ finished (follow_in has q seen) (counts_in q seen (news_from has ports size 2 [] [] ls)) =
      counts_from has ports size q 2 [] [] ls few (record { long = refl; sound = tt }) in
      ⊎_elim
      (λ (h : 64 ≤ q). ended_later has 64 q seen (news_from has ports size 2 [] [] ls) h
      ∙ (sym (finished_none has size q seen (counts_in q seen (news_from has ports size 2 [] [] ls)) all_good.sound h) ∙ (sym f ∙ following_if_lem has (counts_of ports size q ls) (counts_small ports size q ls))))
      (λ (h : q < 64). ended_counts has 64 q seen (news_from has ports size 2 [] [] ls) all_good.long h ∙ (sym f ∙ following_if_lem has (counts_of ports size q ls) (counts_small ports size q ls)))
      (le_or_lt 64 q)

-- From the front: the counts in the order of the lines.

abbrev pub onto : List ℕ → List ℕ → List ℕ
onto [] ns = ns
onto (m ∷ ms) ns = onto ms (m ∷ ns)

onto_onto : (xs ys zs : List ℕ) → onto (onto xs ys) zs ≡ onto ys (xs ++ zs)
onto_onto [] ys zs = refl
onto_onto (x ∷ xs) ys zs = onto_onto xs (x ∷ ys) zs

onto_length : (xs ys : List ℕ) → length (onto xs ys) ≡ length xs + length ys
onto_length [] ys = omega arith
onto_length (x ∷ xs) ys = let h = onto_length xs (x ∷ ys) in omega arith

-- how many frames there are
abbrev pub frames_by : Record → ℕ → ℕ
frames_by (Frame p h4 flag place next) n = suc n
frames_by (Malformed next) n = n
frames_by Long n = n
frames_by Unfinished n = n
frames_by End n = n

-- the counts of a port, of those that the lines have
abbrev pub left_in : Record → List ℕ → (List ℕ → List ℕ) → ℕ → List ℕ
left_in (Frame p h4 flag place next) [] more q = []
left_in (Frame p h4 flag place next) (m ∷ ms) more q = cond (eqb p q) (m ∷ more ms) (more ms)
left_in (Malformed next) ms more q = more ms
left_in Long ms more q = more ms
left_in Unfinished ms more q = more ms
left_in End ms more q = more ms

module _ (ports size : ℕ) where
  abbrev pub frames_in : List Line → ℕ
  frames_in [] = 0
  frames_in (l ∷ ls) = frames_by (record_of ports size l) (frames_in ls)

  abbrev pub left : List Line → List ℕ → ℕ → List ℕ
  left [] ms q = []
  left (l ∷ ls) ms q = left_in (record_of ports size l) ms (λ rest. left ls rest q) q

  seen_length : (n : ℕ) (es : List Seen) (ls : List Line) → length (seen_from ports size n es ls) ≡ length es + frames_in ls
  seen_length n es [] = omega arith
  seen_length n es (l ∷ ls) = go (record_of ports size l) (seen_length (suc n) (seen_by n es l (record_of ports size l)) ls)
    where
      go : (r : Record) → length (seen_from ports size (suc n) (seen_by n es l r) ls) ≡ length (seen_by n es l r) + frames_in ls
          → length (seen_from ports size (suc n) (seen_by n es l r) ls) ≡ length es + frames_by r (frames_in ls)
      go (Frame p h4 flag place next) h = omega arith
      go (Malformed next) h = h
      go Long h = h
      go Unfinished h = h
      go End h = h

  left_counts : (q n : ℕ) (es : List Seen) (ns : List ℕ) (ls : List Line) (ms : List ℕ) → frames_in ls ≡ length ms
      → counts_in q (seen_from ports size n es ls) (onto ms ns) ≡ counts_in q es ns ++ left ls ms q
  left_counts q n es ns [] [] h = sym (append-nil (counts_in q es ns))
  left_counts q n es ns [] (m ∷ ms) h = absurd (omega arith)
  left_counts q n es ns (l ∷ ls) ms h = go (record_of ports size l) ms h (λ es ns ms k. left_counts q (suc n) es ns ls ms k)
    where
      go : (r : Record) (ms : List ℕ) → frames_by r (frames_in ls) ≡ length ms
          → ((es : List Seen) (ns ms : List ℕ) → frames_in ls ≡ length ms → counts_in q (seen_from ports size (suc n) es ls) (onto ms ns) ≡ counts_in q es ns ++ left ls ms q)
          → counts_in q (seen_from ports size (suc n) (seen_by n es l r) ls) (onto ms ns) ≡ counts_in q es ns ++ left_in r ms (λ rest. left ls rest q) q
      go (Frame p h4 flag place next) [] h rest = absurd (omega arith)
      go (Frame p h4 flag place next) (m ∷ ms) h rest = rest (record { port = p; line = l; old = h4 % 16; number = n } ∷ es) (m ∷ ns) ms (omega arith) ∙ one (eqb p q) refl
        where
          one : (t : Bool) → eqb p q ≡ t → cond (eqb p q) (counts_in p es ns ++ (m ∷ [])) (counts_in q es ns) ++ left ls ms q ≡ counts_in q es ns ++ cond (eqb p q) (m ∷ left ls ms q) (left ls ms q)
          one true t = rw (t, eqb-true p q t) (append_assoc (counts_in q es ns) (m ∷ []) (left ls ms q))
          one false t = rw t refl
      go (Malformed next) ms h rest = rest es ns ms h
      go Long ms h rest = rest es ns ms h
      go Unfinished ms h rest = rest es ns ms h
      go End ms h rest = rest es ns ms h

  -- a line with another count is what its fate lets come out
  out_now : (e : Seen) (m : ℕ) → out_by size e.line (fate_to size e.line e.old m) ≡ line_now size e m ∷ []
  out_now e m = go (eqb e.old m)
    where
      go : (t : Bool) → out_by size e.line (cond t F.Kept (F.Restored (digit_in size e.line) (capital m))) ≡ cond t e.line (with_digit size e.line (capital m)) ∷ []
      go true = refl
      go false = refl

  -- behind a frame's line its port has one count less
  pub left_behind : (p m : ℕ) (f : ℕ → List ℕ) → ◌≡◌ {A = ℕ → List ℕ} (λ q. cond (eqb p q) (drop 1 (cond (eqb p q) (m ∷ f q) (f q))) (cond (eqb p q) (m ∷ f q) (f q))) f
  left_behind p m f = λ i q. each q (eqb p q) i
    where
      each : (q : ℕ) (t : Bool) → cond t (drop 1 (cond t (m ∷ f q) (f q))) (cond t (m ∷ f q) (f q)) ≡ f q
      each q true = refl
      each q false = refl

  left_text : (base : List ℕ) (n : ℕ) (es : List Seen) (ns : List ℕ) (ls : List Line) (ms : List ℕ) → frames_in ls ≡ length ms
      → text_in size base (seen_from ports size n es ls) (onto ms ns) ≡ text_in size base es ns ++ text_of (mended_lines size (judged_by ports size (left ls ms) ls))
  left_text base n es ns [] [] h = sym (append-nil (text_in size base es ns))
  left_text base n es ns [] (m ∷ ms) h = absurd (omega arith)
  left_text base n es ns (l ∷ ls) ms h = go (record_of ports size l) ms h (λ es ns ms k. left_text base (suc n) es ns ls ms k)
    where
      go : (r : Record) (ms : List ℕ) → frames_by r (frames_in ls) ≡ length ms
          → ((es : List Seen) (ns ms : List ℕ) → frames_in ls ≡ length ms
          → text_in size base (seen_from ports size (suc n) es ls) (onto ms ns) ≡ text_in size base es ns ++ text_of (mended_lines size (judged_by ports size (left ls ms) ls)))
          → text_in size base (seen_from ports size (suc n) (seen_by n es l r) ls) (onto ms ns)
          ≡ text_in size base es ns ++ text_of (out_by size l (fate_by size (λ q. left_in r ms (λ rest. left ls rest q) q) l r) ++ mended_lines size (judged_by ports size (left_by (λ q. left_in r ms (λ rest. left ls rest q) q) r) ls))
      go (Frame p h4 flag place next) [] h rest = absurd (omega arith)
      go (Frame p h4 flag place next) (m ∷ ms) h rest =
          let e : Seen = record { port = p; line = l; old = h4 % 16; number = n } in
          rest (e ∷ es) (m ∷ ns) ms (omega arith)
          ∙ (append_assoc (text_in size base es ns) (line_text (line_now size e m)) (text_of (mended_lines size (judged_by ports size (left ls ms) ls)))
          ∙ sym (rw (eq-eqb p p refl, left_behind p m (left ls ms), out_now e m) refl))
      go (Malformed next) ms h rest = rest es ns ms h
      go Long ms h rest = rest es ns ms h
      go Unfinished ms h rest = rest es ns ms h
      go End ms h rest = rest es ns ms h

-- All lines.

module _ (has : Bool) (ports size : ℕ) (ls : List Line) (few : ports ≤ 64) where
  -- the counts in the order of the lines
  abbrev pub in_order : List ℕ
  in_order = onto (news has ports size ls few) []

  pub in_order_lem : onto in_order [] ≡ news has ports size ls few
  in_order_lem = onto_onto (news has ports size ls few) [] [] ∙ append-nil (news has ports size ls few)

  pub enough : frames_in ports size ls ≡ length in_order
  enough =
      let a = onto_length (news has ports size ls few) [] in
      let b = ended_length has 64 (seen has ports size ls few) (news_from has ports size 2 [] [] ls) in
      let c = (all_good has ports size ls few).long in
      let d = seen_length ports size 2 [] ls in
      omega arith

  left_is : (q : ℕ) → left ports size ls in_order q ≡ followed_if has (counts_of ports size q ls)
  left_is q =
      let a : counts_in q (seen has ports size ls few) (onto in_order []) ≡ left ports size ls in_order q = left_counts ports size q 2 [] [] ls in_order enough in
      sym a ∙ (ap (counts_in q (seen has ports size ls few)) in_order_lem ∙ seen_counts has ports size ls few q)

  pub judged_is : judged_by ports size (left ports size ls in_order) ls ≡ judged has ports size ls
  unfolding judged
  judged_is = ap (λ (f : ℕ → List ℕ). judged_by ports size f ls) (λ i q. left_is q i)

  pub sweep_is : (first : List ℕ) → sweep_end 64 (swept has ports size (sweep_start first) ls) ≡ first ++ text_of (mended_lines size (judged has ports size ls))
  sweep_is first =
      ap (sweep_end 64) (sweep_from has ports size first 2 [] [] ls few (record { long = refl; sound = tt }))
      ∙ (sweep_end_lem has size first 64 (seen has ports size ls few) (news_from has ports size 2 [] [] ls) (all_good has ports size ls few)
      ∙ (ap (text_in size first (seen has ports size ls few)) (sym in_order_lem)
      ∙ (left_text ports size first 2 [] [] ls in_order enough
      ∙ ap (λ (js : List Judged). first ++ text_of (mended_lines size js)) judged_is)))
