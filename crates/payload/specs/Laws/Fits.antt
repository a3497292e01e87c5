-- What the answer 0 says of sizes and lengths, and that these are enough for it: what a caller and the work under 0 go by.
use Rattle.std.specs.Prelude.{◌≡◌, refl, Bool, true, false, ◌&&◌, List, ℕ, zero, suc, ◌+◌, ◌*◌, ◌≤◌, ◌<◌, eqb, leb, length, get_or}
use Rattle.std.proofs.Common.{mul-le-mul, arith, eqb-true, eq-eqb, leb-true, le-leb}
use Rattle.ground.specs.Drawn.{fill_at}
use Rattle.ground.specs.Finite.{below_at}
use Rattle.ground.specs.Truth.{and-true, and_left, and_right}
use Rattle.payload.specs.declared.answer.Answer.{Answer}
use Rattle.payload.specs.declared.answer.Answer.TheVariants.{Done, Range, Length}
use Rattle.payload.specs.Answers.{PAYLOAD-MOST, Sizes, answer_by, number_of, sized}
use Rattle.payload.specs.Joining.{whole_answer, ranked_byte, joined, started_byte, starts_fit, from_answer, joined_from}
use Rattle.payload.specs.Order.{group_byte, group_frame, member_frame}
use Rattle.payload.specs.Spreading.{all_members, spread_all, one_answer, spread_one}

pub sizes : (X P : ℕ) → sized X P ≡ true → Sizes X P
sizes X P h =
    let front = and_left (leb X 64 && leb 1 P) (leb P PAYLOAD-MOST) h in
    record {
      ranks = leb-true X 64 (and_left (leb X 64) (leb 1 P) front);
      least = leb-true 1 P (and_right (leb X 64) (leb 1 P) front);
      most = leb-true P PAYLOAD-MOST (and_right (leb X 64 && leb 1 P) (leb P PAYLOAD-MOST) h);
    }

pub are_sized : (X P : ℕ) → Sizes X P → sized X P ≡ true
are_sized X P s =
    and-true (leb X 64 && leb 1 P) (leb P PAYLOAD-MOST) (and-true (leb X 64) (leb 1 P) (le-leb X 64 s.ranks) (le-leb 1 P s.least)) (le-leb P PAYLOAD-MOST s.most)

-- a group frame has at most 64 x 2,340 bytes
pub frame_most : (X P : ℕ) → Sizes X P → X * P ≤ 149760
frame_most X P s = mul-le-mul s.ranks s.most

number_done : (a : Answer) → a ≡ Done → number_of a ≡ 0
number_done a e = rw e

by_sizes : (s l : Bool) → answer_by s l ≡ Done → s ≡ true
by_sizes true l e = refl
by_sizes false l e = absurd (let n = number_done Range e in omega arith)

by_lengths : (s l : Bool) → answer_by s l ≡ Done → l ≡ true
by_lengths true true e = refl
by_lengths true false e = absurd (let n = number_done Length e in omega arith)
by_lengths false l e = absurd (let n = number_done Range e in omega arith)

by_both : (s l : Bool) → s ≡ true → l ≡ true → answer_by s l ≡ Done
by_both s l hs hl = rw (hs, hl)

pub record WholeFits (X P from to : ℕ) : Type 0 where
  pub size : Sizes X P
  pub from_is : from ≡ X * P
  pub to_is : to ≡ X * P

module _ (X P from to : ℕ) where
  pub whole_fits : whole_answer X P from to ≡ Done → WholeFits X P from to
  whole_fits e =
      let l = by_lengths (sized X P) (eqb from (X * P) && eqb to (X * P)) e in
      record {
        size = sizes X P (by_sizes (sized X P) (eqb from (X * P) && eqb to (X * P)) e);
        from_is = eqb-true from (X * P) (and_left (eqb from (X * P)) (eqb to (X * P)) l);
        to_is = eqb-true to (X * P) (and_right (eqb from (X * P)) (eqb to (X * P)) l);
      }

  pub whole_done : WholeFits X P from to → whole_answer X P from to ≡ Done
  whole_done f =
      by_both (sized X P) (eqb from (X * P) && eqb to (X * P)) (are_sized X P f.size)
      (and-true (eqb from (X * P)) (eqb to (X * P)) (eq-eqb from (X * P) f.from_is) (eq-eqb to (X * P) f.to_is))

pub record OneFits (X P frame member : ℕ) : Type 0 where
  pub size : Sizes X P
  pub frame_is : frame ≡ X * P
  pub member_is : member ≡ P

module _ (X P frame member : ℕ) where
  pub one_fits : one_answer X P frame member ≡ Done → OneFits X P frame member
  one_fits e =
      let l = by_lengths (sized X P) (eqb frame (X * P) && eqb member P) e in
      record {
        size = sizes X P (by_sizes (sized X P) (eqb frame (X * P) && eqb member P) e);
        frame_is = eqb-true frame (X * P) (and_left (eqb frame (X * P)) (eqb member P) l);
        member_is = eqb-true member P (and_right (eqb frame (X * P)) (eqb member P) l);
      }

  pub one_done : OneFits X P frame member → one_answer X P frame member ≡ Done
  one_done f =
      by_both (sized X P) (eqb frame (X * P) && eqb member P) (are_sized X P f.size)
      (and-true (eqb frame (X * P)) (eqb member P) (eq-eqb frame (X * P) f.frame_is) (eq-eqb member P f.member_is))

pub record FromFits (X P : ℕ) (starts : List ℕ) (store place out : ℕ) : Type 0 where
  pub size : Sizes X P
  pub frame_in : place + X * P ≤ out
  pub members_in : (r : ℕ) → r < X → get_or starts r 0 + P ≤ store

starts_fit_lem : (X P : ℕ) (starts : List ℕ) (store : ℕ) → ((r : ℕ) → r < X → get_or starts r 0 + P ≤ store) → starts_fit X P starts store ≡ true
starts_fit_lem zero P starts store h = refl
starts_fit_lem (suc X) P starts store h =
    and-true (leb (get_or starts X 0 + P) store) (starts_fit X P starts store) (le-leb (get_or starts X 0 + P) store (h X (omega arith)))
    (starts_fit_lem X P starts store (λ r b. h r (omega arith)))

module _ (X P : ℕ) (starts : List ℕ) (store place out : ℕ) where
  pub from_fits : from_answer X P starts store place out ≡ Done → FromFits X P starts store place out
  from_fits e =
      let l = by_lengths (sized X P) (leb (place + X * P) out && starts_fit X P starts store) e in
      let m = and_right (leb (place + X * P) out) (starts_fit X P starts store) l in
      record {
        size = sizes X P (by_sizes (sized X P) (leb (place + X * P) out && starts_fit X P starts store) e);
        frame_in = leb-true (place + X * P) out (and_left (leb (place + X * P) out) (starts_fit X P starts store) l);
        members_in = λ r b. leb-true (get_or starts r 0 + P) store (below_at X (λ i. leb (get_or starts i 0 + P) store) m r b);
      }

  pub from_done : FromFits X P starts store place out → from_answer X P starts store place out ≡ Done
  from_done f =
      by_both (sized X P) (leb (place + X * P) out && starts_fit X P starts store) (are_sized X P f.size)
      (and-true (leb (place + X * P) out) (starts_fit X P starts store) (le-leb (place + X * P) out f.frame_in) (starts_fit_lem X P starts store f.members_in))

-- what is done under 0
pub spread_done : (X P : ℕ) (frame members : List ℕ) → Sizes X P → length frame ≡ X * P → length members ≡ X * P → spread_all X P frame members ≡ all_members X P frame
spread_done X P frame members s lf lm = rw (whole_done X P (length frame) (length members) (record { size = s; from_is = lf; to_is = lm })) refl

pub joined_done : (X P : ℕ) (members frame : List ℕ) → Sizes X P → length members ≡ X * P → length frame ≡ X * P
    → joined X P members frame ≡ group_frame X P (ranked_byte P members)
joined_done X P members frame s lm lf = rw (whole_done X P (length members) (length frame) (record { size = s; from_is = lm; to_is = lf })) refl

pub spread_one_done : (X P r : ℕ) (frame member : List ℕ) → Sizes X P → length frame ≡ X * P → length member ≡ P → spread_one X P r frame member ≡ member_frame X P frame r
spread_one_done X P r frame member s lf lm = rw (one_done X P (length frame) (length member) (record { size = s; frame_is = lf; member_is = lm })) refl

pub joined_from_done : (X P : ℕ) (starts store : List ℕ) (place : ℕ) (out : List ℕ) → FromFits X P starts (length store) place (length out)
    → joined_from X P starts store place out ≡ fill_at place (X * P) (group_byte X (started_byte starts store)) out
joined_from_done X P starts store place out f = rw (from_done X P starts (length store) place (length out) f) refl
