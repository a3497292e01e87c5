-- A part fed whole goes on behind what is used of it, and so does a run behind a part.
use Rattle.std.specs.Prelude.{◌≡◌, refl, Bool, true, false, cond, List, [], ◌∷◌, ◌++◌, ℕ, zero, suc, ◌<◌, ◌≤◌, drop, length, nat_lt, Option, None, Some, Result, Ok, Err, OnErr}
use Rattle.std.specs.Io.KnownBytes.{Consumes, Keeps}
use Rattle.std.proofs.Common.{◌∙◌, ap, append_assoc, append-nil, arith, le-ltb, length-drop, ltb-true, sym}
use Rattle.ground.specs.Types.{Bytes}
use Rattle.session_lines.specs.Consoles.{fed_by, finished_by, left_at_end, left_by_part, said_at_end, said_to_part}
use Rattle.session_lines.specs.declared.console.Fed.{Fed}
use Rattle.session_lines.specs.declared.console.Refusal.{Refusal}
use Rattle.session_lines.specs.declared.console.Refusal.TheVariants.{Length}
use Rattle.session_lines.specs.declared.kept.Kept.{Kept}
use Rattle.session_lines.specs.Laws.Feeding.{used_some}
use Rattle.session_lines.specs.Running.{FedParts, Ran, ended_by, left_by_parts, left_by_whole, left_up_to}
use Rattle.session_lines.specs.Running.FedParts.{ByParts}
use Rattle.session_lines.specs.Running.Ran.{Ended}
use Rattle.session_lines.specs.Runs.{joined}
use Rattle.session_lines.specs.Session.{used_of}

consumes_none : (more : Option Bytes) → Consumes more more []
consumes_none None = tt
consumes_none (Some xs) = refl

-- a read that fails gives nothing
pub keeps_none : (more rest : Option Bytes) → Keeps more rest → Consumes more rest []
keeps_none None rest h = tt
keeps_none (Some xs) None h = absurd h
keeps_none (Some xs) (Some ys) h = sym h

consumes_on : (more rest less : Option Bytes) (x y : Bytes) → Consumes more rest x → Consumes rest less y → Consumes more less (x ++ y)
consumes_on None rest less x y h k = tt
consumes_on (Some xs) None less x y h k = absurd h
consumes_on (Some xs) (Some ys) None x y h k = absurd k
consumes_on (Some xs) (Some ys) (Some zs) x y h k = h ∙ ap (λ (l : Bytes). x ++ l) k ∙ sym (append_assoc x y zs)

joined_append : (parts : List Bytes) (part : Bytes) → joined (parts ++ (part ∷ [])) ≡ joined parts ++ part
joined_append [] part = append-nil part
joined_append (p ∷ parts) part = ap (λ (l : Bytes). p ++ l) (joined_append parts part) ∙ sym (append_assoc p (joined parts) part)

module _ {C : Type 0} (room : ℕ) (kept_of : C → Kept) (keeping : C → Kept → C) (left_by : C → Bytes → C) (said_by : C → Bytes → Bytes) where
  -- however many lines more there might be
  enough : (n m : ℕ) (c : C) (input : Bytes) → length input ≤ n → length input ≤ m
      → left_up_to room kept_of keeping left_by said_by n c input ≡ left_up_to room kept_of keeping left_by said_by m c input
  enough zero zero c input h k = refl
  enough zero (suc m) c [] h k = refl
  enough (suc n) zero c [] h k = refl
  enough (suc n) (suc m) c [] h k = refl
  enough zero (suc m) c (b ∷ input) h k = absurd (omega arith)
  enough (suc n) zero c (b ∷ input) h k = absurd (omega arith)
  enough (suc n) (suc m) c (b ∷ input) h k =
      let some = used_some (b ∷ input) (omega arith) in
      let few = length-drop (used_of (b ∷ input)) (b ∷ input) in
      enough n m (left_by_part room kept_of keeping left_by said_by c (b ∷ input)) (drop (used_of (b ∷ input)) (b ∷ input)) (omega arith) (omega arith)

  -- its first line is that of one call
  whole_first : (c : C) (input : Bytes) → 0 < length input
      → left_by_whole room kept_of keeping left_by said_by c input
      ≡ left_by_whole room kept_of keeping left_by said_by (left_by_part room kept_of keeping left_by said_by c input) (drop (used_of input) input)
  unfolding left_by_whole
  whole_first c [] h = absurd (omega arith)
  whole_first c (b ∷ input) h =
      let some = used_some (b ∷ input) (omega arith) in
      let few = length-drop (used_of (b ∷ input)) (b ∷ input) in
      enough (length input) (length (drop (used_of (b ∷ input)) (b ∷ input))) (left_by_part room kept_of keeping left_by said_by c (b ∷ input))
      (drop (used_of (b ∷ input)) (b ∷ input)) (omega arith) (omega arith)

  -- so behind a call there is no more to do than what is behind what it has used
  pub whole_on : (whole c : C) (input out rest : Bytes) (f : Fed C) → whole ≡ left_by_whole room kept_of keeping left_by said_by c input
      → Ok f ≡ fed_by room kept_of keeping left_by said_by c input out → 0 < length input → rest ≡ drop f.used input
      → whole ≡ left_by_whole room kept_of keeping left_by said_by f.console rest
  unfolding fed_by
  whole_on whole c input out rest f w e h d = go (nat_lt (length out) room) e
    where
      left : C
      left = left_by_part room kept_of keeping left_by said_by c input

      go : (b : Bool)
          → Ok f ≡ cond {A = Result (Fed C) Refusal} b (Err Length) (Ok (record { console = left; used = used_of input; written = length (said_to_part room kept_of said_by c input) }))
          → whole ≡ left_by_whole room kept_of keeping left_by said_by f.console rest
      go true r = cc
      go false r =
          let n : f.used ≡ used_of input = cc in
          let m : f.console ≡ left = cc in
          w ∙ whole_first c input h ∙ rw (d, n, m)

  -- and where nothing is left it is done
  pub whole_done : (whole c : C) (input : Bytes) → whole ≡ left_by_whole room kept_of keeping left_by said_by c input → length input ≤ 0 → c ≡ whole
  unfolding left_by_whole
  whole_done whole c [] w h = sym w
  whole_done whole c (b ∷ input) w h = absurd (omega arith)

  -- a call is refused for want of room alone
  pub feed_refused : (c : C) (input out : Bytes) (refusal : Refusal) → Err refusal ≡ fed_by room kept_of keeping left_by said_by c input out → length out < room
  unfolding fed_by
  feed_refused c input out refusal e = go (nat_lt (length out) room) refl e
    where
      fed : Fed C
      fed =
          record {
            console = left_by_part room kept_of keeping left_by said_by c input;
            used = used_of input;
            written = length (said_to_part room kept_of said_by c input);
          }

      go : (b : Bool) → nat_lt (length out) room ≡ b → Err refusal ≡ cond {A = Result (Fed C) Refusal} b (Err Length) (Ok fed) → length out < room
      go true h r = ltb-true (length out) room h
      go false h r = cc

  -- the end of a run is that of one call
  pub end_done : (c : C) (out : Bytes) (f : Fed C) → Ok f ≡ finished_by room kept_of left_by said_by c out
      → Ok f.console ≡ ended_by room kept_of keeping left_by said_by c out
  unfolding finished_by ended_by
  end_done c out f e = go (nat_lt (length out) room) e
    where
      left : C
      left = left_at_end room kept_of left_by said_by c

      go : (b : Bool) → Ok f ≡ cond {A = Result (Fed C) Refusal} b (Err Length) (Ok (record { console = left; used = 0; written = length (said_at_end room kept_of said_by c) }))
          → Ok f.console ≡ cond {A = Result C Refusal} b (Err Length) (Ok left)
      go true r = cc
      go false r = let m : f.console ≡ left = cc in rw m

  pub end_refused : (c : C) (out : Bytes) (refusal : Refusal) → Err refusal ≡ finished_by room kept_of left_by said_by c out
      → Err refusal ≡ ended_by room kept_of keeping left_by said_by c out
  unfolding finished_by ended_by
  end_refused c out refusal e = go (nat_lt (length out) room) e
    where
      left : C
      left = left_at_end room kept_of left_by said_by c

      go : (b : Bool) → Err refusal ≡ cond {A = Result (Fed C) Refusal} b (Err Length) (Ok (record { console = left; used = 0; written = length (said_at_end room kept_of said_by c) }))
          → Err refusal ≡ cond {A = Result C Refusal} b (Err Length) (Ok left)
      go true r = cc
      go false r = cc

  parts_append : (c : C) (parts more : List Bytes)
      → left_by_parts room kept_of keeping left_by said_by c (parts ++ more)
      ≡ left_by_parts room kept_of keeping left_by said_by (left_by_parts room kept_of keeping left_by said_by c parts) more
  parts_append c [] more = refl
  parts_append c (p ∷ parts) more = parts_append (left_by_whole room kept_of keeping left_by said_by c p) parts more

  pub fed_none : (c : C) (more : Option Bytes) → FedParts room kept_of keeping left_by said_by c c more more
  fed_none c more = ByParts [] (consumes_none more)

  -- nothing more of the input
  pub fed_same : (from c : C) (more rest less : Option Bytes) → FedParts room kept_of keeping left_by said_by from c more rest → Consumes rest less []
      → FedParts room kept_of keeping left_by said_by from c more less
  fed_same from c more rest less (ByParts parts h) k =
      ByParts parts (rw append-nil at (consumes_on more rest less (joined parts) [] h k))

  -- one part more
  pub fed_more : (from c d : C) (part : Bytes) (more rest less : Option Bytes) → FedParts room kept_of keeping left_by said_by from c more rest
      → Consumes rest less part → d ≡ left_by_whole room kept_of keeping left_by said_by c part → FedParts room kept_of keeping left_by said_by from d more less
  fed_more from c d part more rest less (ByParts parts h) k e =
      rw (e, ← parts_append from parts (part ∷ []))
      (ByParts {more = more} {rest = less} (parts ++ (part ∷ [])) (rw (joined_append parts part) (consumes_on more rest less (joined parts) part h k)))

  -- and the end
  pub ran : (from c : C) (out over : Bytes) (more rest : Option Bytes) (r : Result C Refusal) → room ≤ length out → length over ≡ length out
      → FedParts room kept_of keeping left_by said_by from c more rest → r ≡ ended_by room kept_of keeping left_by said_by c over
      → Ran room kept_of keeping left_by said_by from out more rest r
  unfolding ended_by
  ran from c out over more rest r h l (ByParts parts k) e = rw (e, l, le-ltb (length out) room h) (Ended h parts k)

  -- which is refused for want of room alone
  pub ended : (c : C) (out over : Bytes) (r : Result C Refusal) (P : Type 0) → room ≤ length out → length over ≡ length out
      → r ≡ ended_by room kept_of keeping left_by said_by c over → OnErr r P
  unfolding ended_by
  ended c out over r P h l e = rw (e, l, le-ltb (length out) room h) tt
