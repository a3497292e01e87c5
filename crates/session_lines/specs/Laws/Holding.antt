-- What is kept of a line: its first 81 bytes, which mean what the line means.
use Rattle.std.specs.Prelude.{◌≡◌, refl, List, [], ◌∷◌, ◌++◌, length, take}
use Rattle.std.proofs.Common.{ap, ◌∙◌, ⊎_elim, append_assoc, append-nil, add-one, arith, length-append, length-set, length-take, length-take-le, take_all, take-suc-set, le-ltb, lt-ltb}
use Prim.Native.Nat.{ℕ, ◌≤◌, ◌<◌}
use Rattle.std.proofs.lemmas.List.{take-append-le}
use Rattle.std.proofs.lemmas.Bool.{lt-leb}
use Rattle.ground.specs.Truth.{le_or_lt}
use Rattle.session_lines.specs.declared.kept.Kept.{Kept}
use Rattle.session_lines.specs.Kept.{keep_all, keep_of, line_in, nothing_kept}
use Rattle.session_lines.specs.Line.{line_of}

pub record Holds (line : List ℕ) (k : Kept) : Type 0 where
  pub room : length k.bytes ≡ 81
  pub count : k.count ≡ length (take 81 line)
  pub bytes : take k.count k.bytes ≡ take 81 line

pub holds_nothing : Holds [] nothing_kept
unfolding nothing_kept
holds_nothing = record { room = refl; count = refl; bytes = refl }

holds_byte : (line : List ℕ) (k : Kept) (b : ℕ) → Holds line k → Holds (line ++ (b ∷ [])) (keep_of k b)
unfolding keep_of
holds_byte line k b h =
    let n : length (take 81 line) ≡ Prim.Native.Nat.min 81 (length line) = length-take 81 line in
    let c = h.count in
    let r = h.room in
    let m = length-append line (b ∷ []) in
    ⊎_elim
    (λ (g : 81 ≤ length line).
    let e : 81 ≤ k.count = omega arith in
    rw (le-ltb k.count 81 e)
    (record { room = h.room; count = h.count ∙ rw (take-append-le 81 line (b ∷ []) g); bytes = h.bytes ∙ rw (take-append-le 81 line (b ∷ []) g) }))
    (λ (g : length line < 81).
    let e : k.count < 81 = omega arith in
    let i : k.count < length k.bytes = omega arith in
    let a : take 81 (line ++ (b ∷ [])) ≡ line ++ (b ∷ []) = take_all 81 (line ++ (b ∷ [])) (omega arith) in
    let d : take 81 line ≡ line = take_all 81 line (omega arith) in
    rw (lt-ltb k.count 81 e)
    (record {
      room = length-set k.bytes k.count b ∙ h.room;
      count = rw a (let q = ap length d in omega arith);
      bytes = rw (add-one, take-suc-set k.bytes k.count b i, a, h.bytes, d);
    }))
    (le_or_lt 81 (length line))

pub holds_more : (line : List ℕ) (k : Kept) (l : List ℕ) → Holds line k → Holds (line ++ l) (keep_all k l)
holds_more line k [] h = rw append-nil h
holds_more line k (b ∷ l) h = rw append_assoc at (holds_more (line ++ (b ∷ [])) (keep_of k b) l (holds_byte line k b h))

-- a line of more than 80 bytes is malformed, and so are its first 81
pub same_meaning : (line : List ℕ) → line_of (take 81 line) ≡ line_of line
unfolding line_of
same_meaning line =
    ⊎_elim
    (λ (g : 81 ≤ length line).
    let n : 80 < length (take 81 line) = rw (length-take-le 81 line g) (omega arith) in
    let m : 80 < length line = omega arith in
    rw (lt-leb (length (take 81 line)) 80 n, lt-leb (length line) 80 m))
    (λ (g : length line < 81). rw (take_all 81 line (omega arith)))
    (le_or_lt 81 (length line))

pub kept_line : (line : List ℕ) (k : Kept) → Holds line k → line_of (line_in k) ≡ line_of line
unfolding line_in
kept_line line k h = rw h.bytes (same_meaning line)
