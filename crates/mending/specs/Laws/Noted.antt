-- The notes written beside the mended recording are those of the definitions: a digit that was restored is another one than stood there.
use Rattle.std.specs.Prelude.{◌≡◌, Bool, cond, ℕ, suc, ◌+◌, ◌%◌, ◌<◌, eqb, drop, get_or, set}
use Rattle.std.proofs.Math.Path.{refl, sym, ap}
use Rattle.std.proofs.Common.{◌∙◌, arith, length-set, get_or-append-add, get_or-set_same, eq-eqb, ne_eqb}
use Rattle.std.proofs.Math.Bool.{true, false}
use mathlib.Core.List.{List, [], ◌∷◌, ◌++◌, append_assoc}
use Rattle.std.proofs.Math.ListN.{get_or-append, length, length-append}
use Rattle.std.proofs.lemmas.Bool.{eqb-false}
use Rattle.mending.specs.Following.{followed_if}
use Rattle.mending.specs.Laws.Counts.{Counts, if_counts}
use Rattle.mending.specs.Laws.Digits.{capital_digit, digit_count, digit_within}
use Rattle.mending.specs.Laws.Swept.{counts_small}
use Rattle.mending.specs.Laws.Sweeps.{note_swept, note_frame, notes_swept, to_swept}
use Rattle.mending.specs.Lines.{Line, capital, counts_of, digit_in, digit_place, fate_by, judged, judged_by, left_by, line_text, mended_lines, out_by, record_of, text_of, with_digit}
use Rattle.mending.specs.Lines.{Fate as F}
use Rattle.mending.specs.Mending.{h4_with, note_by, note_text, notes_from}
use Rattle.recording.specs.declared.record.Record.{Record}
use Rattle.recording.specs.declared.record.Record.TheVariants.{Frame, Malformed, Long, Unfinished, End}
use Rattle.text.specs.Ascii.{ascii}
use Rattle.text.specs.Fields.{digit_of}

-- a byte of the line that lies behind a text
byte_behind : (pre rest : List ℕ) (o : Line) (i : ℕ) → i < length o.bytes → get_or (pre ++ (line_text o ++ rest)) (length pre + i) 0 ≡ get_or o.bytes i 0
byte_behind pre rest o i h =
    let w = length-append o.bytes o.end in
    get_or-append-add pre (line_text o ++ rest) i 0 ∙ (get_or-append (line_text o) rest 0 i (omega arith) ∙ get_or-append o.bytes o.end 0 i h)

small_first : (cs : List ℕ) → Counts cs → get_or cs 0 0 < 16
small_first [] h = omega arith
small_first (c ∷ cs) h = h.0

small_rest : (cs : List ℕ) → Counts cs → Counts (drop 1 cs)
small_rest [] h = tt
small_rest (c ∷ cs) h = h.1

small_left : (lf : ℕ → List ℕ) (r : Record) → ((q : ℕ) → Counts (lf q)) → (q : ℕ) → Counts (left_by lf r q)
small_left lf (Frame p h4 flag place next) c q = go (eqb p q)
  where
    go : (t : Bool) → Counts (cond t (drop 1 (lf q)) (lf q))
    go true = small_rest (lf q) (c q)
    go false = c q
small_left lf (Malformed next) c q = c q
small_left lf Long c q = c q
small_left lf Unfinished c q = c q
small_left lf End c q = c q

with_length : (size : ℕ) (l : Line) (d : ℕ) → length (line_text (with_digit size l d)) ≡ length (line_text l)
with_length size l d =
    let a = length-append (set l.bytes (digit_place size l) d) l.end in
    let b = length-set l.bytes (digit_place size l) d in
    let c = length-append l.bytes l.end in
    omega arith

module _ (ports size : ℕ) (mended : List ℕ) (l : Line) (p h4 : ℕ) (flag : Bool) (place next : ℕ) (e : record_of ports size l ≡ Frame p h4 flag place next) where
  -- what lies behind a line is not looked at
  frame_kept : (n : ℕ) (pre rest : List ℕ) → mended ≡ pre ++ (line_text l ++ rest) → note_frame ports size mended n l (get_or mended (length pre + digit_place size l) 0) ≡ []
  frame_kept n pre rest m =
      let d : get_or mended (length pre + digit_place size l) 0 ≡ digit_in size l =
      ap (λ (x : List ℕ). get_or x (length pre + digit_place size l) 0) m ∙ byte_behind pre rest l (digit_place size l) (digit_within ports size l p h4 flag place next e) in
      rw (d, eq-eqb (digit_in size l) (digit_in size l) refl) refl

  frame_restored : (n new : ℕ) (pre rest : List ℕ) → new < 16 → eqb (h4 % 16) new ≡ false → mended ≡ pre ++ (line_text (with_digit size l (capital new)) ++ rest)
      → note_frame ports size mended n l (get_or mended (length pre + digit_place size l) 0) ≡ note_text n (ascii "H4") (h4_with size l (digit_in size l)) (h4_with size l (capital new))
  frame_restored n new pre rest small other m =
      let w = digit_within ports size l p h4 flag place next e in
      let k = length-set l.bytes (digit_place size l) (capital new) in
      let d : get_or mended (length pre + digit_place size l) 0 ≡ capital new =
      ap (λ (x : List ℕ). get_or x (length pre + digit_place size l) 0) m
      ∙ (byte_behind pre rest (with_digit size l (capital new)) (digit_place size l) (omega arith) ∙ get_or-set_same l.bytes (digit_place size l) (capital new) 0 w) in
      let x : eqb (digit_in size l) (capital new) ≡ false =
      ne_eqb (digit_in size l) (capital new)
      (λ (z : digit_in size l ≡ capital new).
      eqb-false (h4 % 16) new other (sym (digit_count ports size l p h4 flag place next e) ∙ (ap digit_of z ∙ capital_digit new small))) in
      rw (d, x) refl

-- the rest of the lines, whatever comes before them
Rest : ℕ → ℕ → List ℕ → List Line → Type 0
Rest ports size mended ls =
    (n : ℕ) (pre : List ℕ) (lf : ℕ → List ℕ) → ((q : ℕ) → Counts (lf q)) → mended ≡ pre ++ text_of (mended_lines size (judged_by ports size lf ls))
    → notes_swept ports size mended n (length pre) ls ≡ notes_from size n (judged_by ports size lf ls)

module _ (ports size : ℕ) (mended : List ℕ) (l : Line) (ls : List Line) (rest : Rest ports size mended ls) (n : ℕ) (pre : List ℕ) (lf : ℕ → List ℕ) (c : (q : ℕ) → Counts (lf q)) where
  frame_beside : (p h4 : ℕ) (flag : Bool) (place next : ℕ) → record_of ports size l ≡ Frame p h4 flag place next → (t : Bool) → eqb (h4 % 16) (get_or (lf p) 0 0) ≡ t
      → mended ≡ pre ++ text_of (out_by size l (cond t F.Kept (F.Restored (digit_in size l) (capital (get_or (lf p) 0 0)))) ++ mended_lines size (judged_by ports size (left_by lf (Frame p h4 flag place next)) ls))
      → note_frame ports size mended n l (get_or mended (length pre + digit_place size l) 0) ++ notes_swept ports size mended (suc n) (length pre + length (line_text l)) ls
      ≡ note_by size n l (cond t F.Kept (F.Restored (digit_in size l) (capital (get_or (lf p) 0 0)))) ++ notes_from size (suc n) (judged_by ports size (left_by lf (Frame p h4 flag place next)) ls)
  unfolding Rest
  frame_beside p h4 flag place next e true t m =
      let more = text_of (mended_lines size (judged_by ports size (left_by lf (Frame p h4 flag place next)) ls)) in
      let w : length (pre ++ line_text l) ≡ length pre + length (line_text l) = length-append pre (line_text l) in
      rw (frame_kept ports size mended l p h4 flag place next e n pre more m, ← w)
      (rest (suc n) (pre ++ line_text l) (left_by lf (Frame p h4 flag place next)) (small_left lf (Frame p h4 flag place next) c) (m ∙ sym (append_assoc pre (line_text l) more)))
  frame_beside p h4 flag place next e false t m =
      let o = with_digit size l (capital (get_or (lf p) 0 0)) in
      let more = text_of (mended_lines size (judged_by ports size (left_by lf (Frame p h4 flag place next)) ls)) in
      let v = with_length size l (capital (get_or (lf p) 0 0)) in
      let w : length (pre ++ line_text o) ≡ length pre + length (line_text l) = length-append pre (line_text o) ∙ ap (λ (x : ℕ). length pre + x) v in
      rw (frame_restored ports size mended l p h4 flag place next e n (get_or (lf p) 0 0) pre more (small_first (lf p) (c p)) t m, ← w)
      (ap (λ (x : List ℕ). note_text n (ascii "H4") (h4_with size l (digit_in size l)) (h4_with size l (capital (get_or (lf p) 0 0))) ++ x)
      (rest (suc n) (pre ++ line_text o) (left_by lf (Frame p h4 flag place next)) (small_left lf (Frame p h4 flag place next) c) (m ∙ sym (append_assoc pre (line_text o) more))))

  line_beside : (r : Record) → record_of ports size l ≡ r → mended ≡ pre ++ text_of (out_by size l (fate_by size lf l r) ++ mended_lines size (judged_by ports size (left_by lf r) ls))
      → note_swept ports size mended n (length pre) l r ++ notes_swept ports size mended (suc n) (to_swept ports size mended (length pre) l r) ls
      ≡ note_by size n l (fate_by size lf l r) ++ notes_from size (suc n) (judged_by ports size (left_by lf r) ls)
  unfolding Rest
  line_beside (Frame p h4 flag place next) e m = frame_beside p h4 flag place next e (eqb (h4 % 16) (get_or (lf p) 0 0)) refl m
  line_beside (Malformed next) e m = ap (λ (x : List ℕ). note_text n (ascii "line") l.bytes [] ++ x) (rest (suc n) pre lf c m)
  line_beside Long e m = ap (λ (x : List ℕ). note_text n (ascii "line") l.bytes [] ++ x) (rest (suc n) pre lf c m)
  line_beside Unfinished e m = ap (λ (x : List ℕ). note_text n (ascii "line") l.bytes [] ++ x) (rest (suc n) pre lf c m)
  line_beside End e m = ap (λ (x : List ℕ). note_text n (ascii "line") l.bytes [] ++ x) (rest (suc n) pre lf c m)

all_beside : (ports size : ℕ) (mended : List ℕ) (ls : List Line) → Rest ports size mended ls
unfolding Rest
all_beside ports size mended [] n pre lf c m = refl
all_beside ports size mended (l ∷ ls) n pre lf c m = line_beside ports size mended l ls (all_beside ports size mended ls) n pre lf c (record_of ports size l) refl m

pub noted_is : (has : Bool) (ports size : ℕ) (first : List ℕ) (ls : List Line)
    → notes_swept ports size (first ++ text_of (mended_lines size (judged has ports size ls))) 2 (length first) ls ≡ notes_from size 2 (judged has ports size ls)
unfolding judged Rest
noted_is has ports size first ls =
    all_beside ports size (first ++ text_of (mended_lines size (judged_by ports size (λ q. followed_if has (counts_of ports size q ls)) ls))) ls 2 first (λ q. followed_if has (counts_of ports size q ls))
    (λ q. if_counts has (counts_of ports size q ls) (counts_small ports size q ls)) refl
