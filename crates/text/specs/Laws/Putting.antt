-- Texts put one behind the other.
use Rattle.std.specs.Prelude.{◌≡◌, List, [], ◌∷◌, ◌++◌, ℕ, suc, ◌+◌, ◌≤◌, length, set}
use Rattle.std.proofs.Common.{sym, ◌∙◌, arith, length-append, le-leb}
use Rattle.std.proofs.lemmas.List.Edits.{sets}
use Rattle.std.proofs.Math.Seq.{length-sets}
use Rattle.text.specs.Output.{Put, put_bytes, put_next}

pub sets_append : (xs ys l : List ℕ) (i : ℕ) → sets l i (xs ++ ys) ≡ sets (sets l i xs) (i + length xs) ys
sets_append [] ys l i = let e : i + 0 ≡ i = omega arith in rw e
sets_append (x ∷ xs) ys l i =
    let e : i + suc (length xs) ≡ suc i + length xs = omega arith in
    rw e (sets_append xs ys (set l i x) (suc i))

-- a text that fits
pub is_put : {text out new : List ℕ} {at next : ℕ} → at + length text ≤ length out → (next ≡ put_next text at out) × (new ≡ put_bytes text at out) → Put text at out next new
unfolding put_next put_bytes
is_put {text} {out} {new} {at} {next} h e =
    let t = le-leb (at + length text) (length out) h in
    let b : new ≡ sets out at text = rw t at e.1 in
    record { behind = rw t at e.0; bytes = b; kept = rw b (length-sets out at text) }

-- one text behind another, and the room that they need
pub put_then : {x y out mid new : List ℕ} {at next last : ℕ} → Put x at out next mid → Put y next mid last new → Put (x ++ y) at out last new
put_then {x} {y} {out} {mid} {new} {at} {next} {last} p q =
    record {
      behind = q.behind ∙ rw (p.behind, length-append) (omega arith);
      bytes = q.bytes ∙ rw (p.bytes, p.behind) (sym (sets_append x y out at));
      kept = q.kept ∙ p.kept;
    }

pub room : {x out mid : List ℕ} {at next : ℕ} → Put x at out next mid → (y : List ℕ) → at + length (x ++ y) ≤ length out → next + length y ≤ length mid
room {x} p y h = let n = length-append x y in let b = p.behind in let k = p.kept in omega arith

pub shorter : (x y : List ℕ) (at n : ℕ) → at + length (x ++ y) ≤ n → at + length x ≤ n
shorter x y at n h = let m = length-append x y in omega arith
