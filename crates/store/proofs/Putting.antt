-- The payload laid and then its H4 stored is the frame in its place.
use mathlib.Core.Path.{◌≡◌, sym, ap, ◌∙◌}
use mathlib.Core.Bool.{true}
use mathlib.Core.List.{List}
use Prim.Native.Nat.{ℕ, ◌+◌, ◌≤◌, ◌<◌}
use native.Mathlib.Omega.{arith}
use lib.Dec.{leb}
use lib.ListN.{length, get_or, set, get_or-eq_default}
use borrow.Author.Tests.{lt-ltb, le-ltb, le-leb}
use Rattle.ground.specs.Drawn.{fill_at, fill_at_ext, fill_at_put}
use Rattle.payload.specs.Laying.{laid}
use Rattle.rows.specs.Laws.Rows.{get_or_within}
use Rattle.store.specs.Frames.{stored_at}

pub put_frame : (s payload after : List ℕ) (place h : ℕ) → place + length payload < length s → after ≡ laid place payload s
    → set after (place + length payload) h ≡ stored_at s place payload h
unfolding stored_at
put_frame s payload after place h b e =
    let n : ℕ = length payload in
    let last : h ≡ get_or payload n h = sym (get_or-eq_default payload h {n = n} (omega arith)) in
    let room : leb (place + n) (length s) ≡ true = le-leb (place + n) (length s) (omega arith) in
    ap (λ (l : List ℕ). set l (place + n) h) ((rw room at e) ∙ fill_at_ext place n (λ j. get_or payload j 0) (λ j. get_or payload j h) s (λ j m. get_or_within payload j 0 h m))
    ∙ ap (λ (v : ℕ). set (fill_at place n (λ j. get_or payload j h) s) (place + n) v) last
    ∙ fill_at_put place n (λ j. get_or payload j h) s
    ∙ rw (lt-ltb (place + n) (length s) b)

pub put_none : (s payload : List ℕ) (place h : ℕ) → length s ≤ place + length payload → s ≡ stored_at s place payload h
unfolding stored_at
put_none s payload place h b = rw (le-ltb (place + length payload) (length s) b)
