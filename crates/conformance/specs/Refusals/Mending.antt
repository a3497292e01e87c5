-- The refusals of mending (02, 2026-11): 'an unreadable first line is 13 and no lines are written'; settings out of range are 4, as in 2026-05, and a length that is not the one told 9.
use Rattle.std.specs.Prelude.{◌≡◌, refl, Bool, true, false, ◌&&◌, List, [], ◌∷◌, ℕ, length, take, if◌then◌else◌, ◌==◌}
use Rattle.c_recordings.specs.Mends.{lengths_answer_c, mend_answer_c, mended_c, mended_length_c, notes_c, notes_length_c}
use Rattle.conformance.specs.Refusals.Entries.{Call, Copes, Refusal, Unless, copes, stateful, stateless}
use Rattle.conformance.specs.Refusals.Receivers.{start_ranged, times_in_range}
use Rattle.mending.specs.Lines.{lines_with}
use Rattle.mending.specs.Mending.{answer_by, fitting, mend_answer, mended_of, notes_of, opening_of, read_answer}
use Rattle.mending.specs.Told.{lengths_of, mended_left, notes_left}
use Rattle.packet.specs.Kinds.{frames, payload_right, tags}
use Rattle.phases.specs.Sizes.{known_kind, sized, start_sized}
use Rattle.receiver.specs.Starting.{times_within}
use Rattle.recording.specs.declared.opening.Opening.{Opening}
use Rattle.recording.specs.declared.opening.Opening.TheVariants as O

-- the first line can be read
abbrev reads : Opening → Bool
reads (O.Settings s next) = true
reads O.Malformed = false
reads O.Unfinished = false
reads O.End = false

-- and its settings are in range, as of a receiver's start; times are asked of as many ports as there are
abbrev settings_ranged : Opening → Bool
settings_ranged (O.Settings s next) =
    start_ranged s.kind s.ports s.size s.window && times_in_range (take s.ports s.hold_off) && times_in_range (take s.ports s.restore)
settings_ranged O.Malformed = false
settings_ranged O.Unfinished = false
settings_ranged O.End = false

abbrev opening : List ℕ → Opening
opening recording = opening_of (lines_with recording)

answer_is : (recording : List ℕ) → read_answer recording ≡ (if reads (opening recording) then (if settings_ranged (opening recording) then 0 else 4) else 13)
unfolding read_answer fitting times_within known_kind payload_right sized start_sized frames tags
answer_is recording = go (opening recording)
  where
    go : (o : Opening) → answer_by o ≡ (if reads o then (if settings_ranged o then 0 else 4) else 13)
    go (O.Settings s next) = refl
    go O.Malformed = refl
    go O.Unfinished = refl
    go O.End = refl

abbrev first_refusals : List ℕ → List Refusal
first_refusals recording = Unless 13 (reads (opening recording)) ∷ Unless 4 (settings_ranged (opening recording)) ∷ []

abbrev mend_refusals : (recording mended notes : List ℕ) → List Refusal
mend_refusals recording mended notes =
    Unless 13 (reads (opening recording)) ∷ Unless 4 (settings_ranged (opening recording))
    ∷ Unless 9 (length mended == length (mended_of recording) && length notes == length (notes_of recording)) ∷ []

-- There are no lengths before the call, so noughts stand for what is given.
abbrev pub lengths : List ℕ → Call
lengths recording = stateful {S = ℕ × ℕ} (first_refusals recording) (lengths_of recording).answer [] [] (0, 0) ((lengths_of recording).mended, (lengths_of recording).notes) (0, 0)

pub lengths_copes : (recording : List ℕ) → Copes (lengths recording)
unfolding lengths_of
lengths_copes recording =
    let e = answer_is recording in
    copes _ (λ s. (λ t. rw (e, s, t), λ t. rw (e, s, t) (refl, refl, refl)), λ s. rw (e, s) (refl, refl, refl))

abbrev pub mend : List ℕ × List ℕ × List ℕ → Call
mend (recording, mended, notes) =
    stateless (mend_refusals recording mended notes) (mend_answer recording (length mended) (length notes)) (mended ∷ notes ∷ []) (mended_left recording mended notes ∷ notes_left recording mended notes ∷ [])

pub mend_copes : (x : List ℕ × List ℕ × List ℕ) → Copes (mend x)
unfolding mend_answer mended_left notes_left
mend_copes (recording, mended, notes) =
    let e = answer_is recording in
    copes _ (λ s. (λ t. (λ l. rw (e, s, t, l), λ l. rw (e, s, t, l) (refl, refl, refl)), λ t. rw (e, s, t) (refl, refl, refl)), λ s. rw (e, s) (refl, refl, refl))

abbrev pub lengths_c : List ℕ × ℕ × ℕ → Call
lengths_c (recording, mended, notes) =
    stateful {S = ℕ × ℕ} (first_refusals recording) (lengths_answer_c recording) [] [] (mended, notes) (mended_length_c recording mended, notes_length_c recording notes) (mended, notes)

pub lengths_c_copes : (x : List ℕ × ℕ × ℕ) → Copes (lengths_c x)
unfolding mended_length_c notes_length_c
lengths_c_copes (recording, mended, notes) =
    let e = answer_is recording in
    copes _ (λ s. (λ t. rw (e, s, t), λ t. rw (e, s, t) (refl, refl, refl)), λ s. rw (e, s) (refl, refl, refl))

abbrev pub mend_c : List ℕ × List ℕ × List ℕ → Call
mend_c (recording, mended, notes) =
    stateless (mend_refusals recording mended notes) (mend_answer_c recording mended notes) (mended ∷ notes ∷ []) (mended_c recording mended notes ∷ notes_c recording mended notes ∷ [])
