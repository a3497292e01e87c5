-- A part of the input fed with room for the output: what a host's loop goes by.
use Rattle.std.specs.Prelude.{◌≡◌, Bool, true, false, cond, List, ℕ, ◌<◌, ◌≤◌, length, nat_lt, Result, Ok, Err}
use Rattle.std.proofs.Common.{arith, drop, length-append}
use Rattle.session_lines.specs.Consoles.{fed_by, fed_bytes_by, finished_by, finished_bytes_by, left_at_end, left_by_part, said_at_end, said_to_part}
use Rattle.session_lines.specs.declared.console.Fed.{Fed}
use Rattle.session_lines.specs.declared.console.Refusal.{Refusal}
use Rattle.session_lines.specs.declared.console.Refusal.TheVariants.{Length}
use Rattle.session_lines.specs.declared.kept.Kept.{Kept}
use Rattle.session_lines.specs.Laws.Feeding.{used_le, used_some}
use Rattle.session_lines.specs.Session.{over, used_of}

over_le : (text out : List ℕ) → length text ≤ length (over text out)
over_le text out = let n = length-append text (drop (length text) out) in omega arith

module _ {C : Type 0} (room : ℕ) (kept_of : C → Kept) (keeping : C → Kept → C) (left_by : C → List ℕ → C) (said_by : C → List ℕ → List ℕ) (c : C) (out : List ℕ)
    (f : Fed C) where
  -- the output lies in the buffer
  pub ended_within : Ok f ≡ finished_by room kept_of left_by said_by c out → f.written ≤ length (finished_bytes_by room kept_of said_by c out)
  unfolding finished_by finished_bytes_by
  ended_within e = go (nat_lt (length out) room) e
    where
      said : List ℕ
      said = said_at_end room kept_of said_by c

      go : (b : Bool) → Ok f ≡ cond {A = Result (Fed C) Refusal} b (Err Length) (Ok (record { console = left_at_end room kept_of left_by said_by c; used = 0; written = length said }))
          → f.written ≤ length (cond b out (over said out))
      go true h = cc
      go false h = let n : f.written ≡ length said = cc in let m = over_le said out in omega arith

  module _ (input : List ℕ) (e : Ok f ≡ fed_by room kept_of keeping left_by said_by c input out) where
    abbrev said : List ℕ
    said = said_to_part room kept_of said_by c input

    abbrev left : C
    left = left_by_part room kept_of keeping left_by said_by c input

    pub fed_within : f.written ≤ length (fed_bytes_by room kept_of said_by c input out)
    unfolding fed_by fed_bytes_by
    fed_within = go (nat_lt (length out) room) e
      where
        go : (b : Bool) → Ok f ≡ cond {A = Result (Fed C) Refusal} b (Err Length) (Ok (record { console = left; used = used_of input; written = length said }))
            → f.written ≤ length (cond b out (over said out))
        go true h = cc
        go false h = let n : f.written ≡ length said = cc in let m = over_le said out in omega arith

    -- a part with a byte in it is not left as it was, and no more is used than there is
    pub fed_on : 0 < length input → (0 < f.used) × (f.used ≤ length input)
    unfolding fed_by
    fed_on h = go (nat_lt (length out) room) e
      where
        go : (b : Bool) → Ok f ≡ cond {A = Result (Fed C) Refusal} b (Err Length) (Ok (record { console = left; used = used_of input; written = length said }))
            → (0 < f.used) × (f.used ≤ length input)
        go true r = cc
        go false r =
            let n : f.used ≡ used_of input = cc in
            let some = used_some input h in
            let few = used_le input in
            (omega arith, omega arith)
