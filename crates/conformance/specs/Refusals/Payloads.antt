-- The refusals of spreading and joining: '4 (X above 64, or P), 9; a group frame has X x P bytes'.
use Rattle.std.specs.Prelude.{refl, Bool, ◌&&◌, List, [], ◌∷◌, ℕ, ◌+◌, ◌*◌, get_or, length, ◌==◌}
use Rattle.c_face.specs.Payloads.{join_answer_c, join_frame_c, spread_answer_c, spread_members_c}
use Rattle.ground.specs.Finite.{below}
use Rattle.ground.specs.Plain.{◌≤?◌}
use Rattle.payload.specs.Answers.{answer_by, number_of, under_done}
use Rattle.payload.specs.Joining.{from_answer, joined, joined_from, whole_answer}
use Rattle.payload.specs.Spreading.{one_answer, spread_all, spread_one}
use Rattle.conformance.specs.Refusals.Entries.{Call, Copes, Refusal, Unless, answers_alone, copes, stateless}

-- X is at most 64 and P 1 to 2,340
abbrev pub ranged : ℕ → ℕ → Bool
ranged x p = x ≤? 64 && 1 ≤? p && p ≤? 2340

abbrev pub refusals : (x p : ℕ) (lengths : Bool) → List Refusal
refusals x p lengths = Unless 4 (ranged x p) ∷ Unless 9 lengths ∷ []

spreads : (x p : ℕ) (lengths : Bool) (new old : List ℕ) → Copes (stateless (refusals x p lengths) (number_of (answer_by (ranged x p) lengths)) (old ∷ []) (under_done (answer_by (ranged x p) lengths) new old ∷ []))
spreads x p lengths new old = copes _ (λ s. (λ l. rw (s, l), λ l. rw (s, l) (refl, refl, refl)), λ s. rw s (refl, refl, refl))

abbrev pub spread : ℕ × ℕ × List ℕ × List ℕ → Call
spread (x, p, frame, members) =
    stateless (refusals x p (length frame == x * p && length members == x * p))
    (number_of (whole_answer x p (length frame) (length members))) (members ∷ []) (spread_all x p frame members ∷ [])

pub spread_copes : (x : ℕ × ℕ × List ℕ × List ℕ) → Copes (spread x)
spread_copes (x, p, frame, members) = spreads x p (length frame == x * p && length members == x * p) _ members

abbrev pub join : ℕ × ℕ × List ℕ × List ℕ → Call
join (x, p, members, frame) =
    stateless (refusals x p (length members == x * p && length frame == x * p))
    (number_of (whole_answer x p (length members) (length frame))) (frame ∷ []) (joined x p members frame ∷ [])

pub join_copes : (x : ℕ × ℕ × List ℕ × List ℕ) → Copes (join x)
join_copes (x, p, members, frame) = spreads x p (length members == x * p && length frame == x * p) _ frame

abbrev pub spread_c : ℕ × ℕ × List ℕ × List ℕ → Call
spread_c (x, p, frame, members) =
    stateless (refusals x p (length frame == x * p && length members == x * p))
    (spread_answer_c x p frame members) (members ∷ []) (spread_members_c x p frame members ∷ [])

abbrev pub join_c : ℕ × ℕ × List ℕ × List ℕ → Call
join_c (x, p, members, frame) =
    stateless (refusals x p (length members == x * p && length frame == x * p))
    (join_answer_c x p members frame) (frame ∷ []) (join_frame_c x p members frame ∷ [])

abbrev pub spread_one_member : ℕ × ℕ × ℕ × List ℕ × List ℕ → Call
spread_one_member (x, p, r, frame, member) =
    stateless (refusals x p (length frame == x * p && length member == p))
    (number_of (one_answer x p (length frame) (length member))) (member ∷ []) (spread_one x p r frame member ∷ [])

pub spread_one_copes : (x : ℕ × ℕ × ℕ × List ℕ × List ℕ) → Copes (spread_one_member x)
spread_one_copes (x, p, r, frame, member) = spreads x p (length frame == x * p && length member == p) _ member

-- each ranked member ends within the store, and the group frame from its place on within the output
abbrev pub join_from : ℕ × ℕ × List ℕ × List ℕ × ℕ × List ℕ → Call
join_from (x, p, starts, store, place, out) =
    stateless (refusals x p (place + x * p ≤? length out && below x (λ r. get_or starts r 0 + p ≤? length store)))
    (number_of (from_answer x p starts (length store) place (length out))) (out ∷ []) (joined_from x p starts store place out ∷ [])

pub join_from_copes : (x : ℕ × ℕ × List ℕ × List ℕ × ℕ × List ℕ) → Copes (join_from x)
join_from_copes (x, p, starts, store, place, out) = spreads x p (place + x * p ≤? length out && below x (λ r. get_or starts r 0 + p ≤? length store)) _ out

-- what payload::spread_one answers, from the lengths alone
abbrev pub one_answer_call : ℕ × ℕ × ℕ × ℕ → Call
one_answer_call (x, p, frame, member) = stateless (refusals x p (frame == x * p && member == p)) (number_of (one_answer x p frame member)) [] []

pub one_answer_copes : (x : ℕ × ℕ × ℕ × ℕ) → Copes (one_answer_call x)
one_answer_copes (x, p, frame, member) = answers_alone _ _ (spreads x p (frame == x * p && member == p) [] []).answers
