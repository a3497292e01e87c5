-- The refusals of the planner and of the check (request 2026-09): 4, 'before any search', then 9 of the result's buffer.
use Rattle.std.specs.Prelude.{◌≡◌, refl, Bool, true, false, ◌&&◌, List, [], ◌∷◌, ℕ, get_or, length, replicate, if◌then◌else◌, ◌==◌}
use Rattle.ground.specs.Plain.{◌≤?◌}
use Rattle.c_cards.specs.Plans.{check_answer_c, check_byte_c, lent_answer, lent_bytes, plan_answer_c, plan_bytes_c}
use Rattle.ground.specs.Counting.Words.{every}
use Rattle.paths.specs.Answers.{Done, Range, answer_of, are_short, number_of}
use Rattle.paths.specs.Checking.{checked_of}
use Rattle.paths.specs.declared.planning.Proposal.{Proposal}
use Rattle.paths.specs.Planning.{nothing, plan_of, proposal_in, set_of}
use Rattle.conformance.specs.Refusals.Entries.{Call, Copes, Unless, copes, stateful, stateless}

-- 'k of 0 or above the number of candidates, more than 64 candidates, a delay above 4,095, or W outside 16 to 2,048 is 4'
abbrev pub ranged : (delays : List ℕ) (k W : ℕ) → Bool
ranged delays k W =
    length delays ≤? 64 && 1 ≤? k && k ≤? length delays && 16 ≤? W && W ≤? 2048 && every (length delays) (λ i. get_or delays i 0 ≤? 4095)

number_is : (delays : List ℕ) (k W : ℕ) → number_of (answer_of delays k W) ≡ (if ranged delays k W then 0 else 4)
unfolding answer_of are_short
number_is delays k W = go (ranged delays k W)
  where
    go : (b : Bool) → number_of (if b then Done else Range) ≡ (if b then 0 else 4)
    go true = refl
    go false = refl

-- The library's own calls lend no buffer for a result. Under 4 no path is proposed, and no set accepted.
abbrev no_paths : List ℕ
no_paths = replicate 64 255

abbrev no_plan : Proposal
no_plan = record { paths = no_paths; count = 0 }

abbrev pub plan : List ℕ × ℕ × ℕ → Call
plan (delays, k, W) = stateful (Unless 4 (ranged delays k W) ∷ []) (number_of (plan_of delays k W).answer) [] [] (proposal_in (nothing Range)) (proposal_in (plan_of delays k W)) no_plan

pub plan_copes : (x : List ℕ × ℕ × ℕ) → Copes (plan x)
unfolding plan_of set_of answer_of are_short
plan_copes (delays, k, W) = copes _ (λ s. rw s, λ s. rw s (refl, refl, refl))

abbrev pub check : List ℕ × ℕ × ℕ × List ℕ → Call
check (delays, k, W, set) = stateful (Unless 4 (ranged delays k W) ∷ []) (number_of (checked_of delays k W set).answer) [] [] false (checked_of delays k W set).accepted false

pub check_copes : (x : List ℕ × ℕ × ℕ × List ℕ) → Copes (check x)
unfolding checked_of answer_of are_short
check_copes (delays, k, W, set) = copes _ (λ s. rw s, λ s. rw s (refl, refl, refl))

lends : (b : Bool) (number size : ℕ) (new out : List ℕ) → number ≡ (if b then 0 else 4)
    → Copes (stateless (Unless 4 b ∷ Unless 9 (length out == size) ∷ []) (lent_answer number size out) (out ∷ []) (lent_bytes number size new out ∷ []))
unfolding lent_answer lent_bytes
lends b number size new out e = copes _ (λ s. (λ l. rw (e, s, l), λ l. rw (e, s, l) (refl, refl, refl)), λ s. rw (e, s) (refl, refl, refl))

abbrev pub plan_c : List ℕ × ℕ × ℕ × List ℕ → Call
plan_c (delays, k, W, out) =
    stateless (Unless 4 (ranged delays k W) ∷ Unless 9 (length out == 65) ∷ []) (plan_answer_c delays k W out) (out ∷ []) (plan_bytes_c delays k W out ∷ [])

pub plan_c_copes : (x : List ℕ × ℕ × ℕ × List ℕ) → Copes (plan_c x)
plan_c_copes (delays, k, W, out) = lends (ranged delays k W) (number_of (answer_of delays k W)) 65 _ out (number_is delays k W)

abbrev pub check_c : List ℕ × ℕ × ℕ × List ℕ × List ℕ → Call
check_c (delays, k, W, set, out) =
    stateless (Unless 4 (ranged delays k W) ∷ Unless 9 (length out == 1) ∷ []) (check_answer_c delays k W out) (out ∷ []) (check_byte_c delays k W set out ∷ [])

pub check_c_copes : (x : List ℕ × ℕ × ℕ × List ℕ × List ℕ) → Copes (check_c x)
check_c_copes (delays, k, W, set, out) = lends (ranged delays k W) (number_of (answer_of delays k W)) 1 _ out (number_is delays k W)
