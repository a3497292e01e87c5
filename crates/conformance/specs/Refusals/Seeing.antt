-- The refusals of what the host reads of a receiver beside ports and reply, of receiving begun anew, and of the packet that a port is ruled by, read by its kind.
use Rattle.std.specs.Prelude.{refl, ◌&&◌, List, [], ◌∷◌, ℕ, length, ◌==◌}
use Rattle.c_face.specs.Boards.{shown_answer_c}
use Rattle.c_face.specs.Settings.{settings_bytes_c}
use Rattle.conformance.specs.Refusals.Entries.{Call, Copes, Unless, copes, stateful, stateless}
use Rattle.conformance.specs.Refusals.Receivers.{ports_of, rows_of, store_of}
use Rattle.conformance.specs.Refusals.Senders.{is_whole, shows}
use Rattle.packet.specs.Kinds.{frames, tags}
use Rattle.phases.specs.Sizes.{known_kind, ports_in, sized, store_for}
use Rattle.receiver.specs.Anew.{anew_answer, anew_fits, anew_rows}
use Rattle.receiver.specs.Behind.{behind_answer, behind_out}
use Rattle.receiver.specs.Cause.{cause_answer, cause_fit, cause_out}
use Rattle.receiver.specs.Heard.{heard_answer, heard_fit, heard_out}
use Rattle.receiver.specs.Lengths.{rows_fit}
use Rattle.receiver.specs.Seen.{seen_answer, seen_out}
use Rattle.receiver.specs.Settings.{settings_answer, settings_fit, settings_out}
use Rattle.receiver.specs.Shown.{shown_fit}
use Rattle.rows.specs.Group.{group_at}

-- each port's ten bytes a lent slice
abbrev pub seen : List (List ℕ) × List (List ℕ) → Call
seen (state, out) =
    stateless (Unless 9 (rows_of (ports_of (group_at state)) (length state) && length out == ports_of (group_at state)) ∷ [])
    (seen_answer state (length out)) out (seen_out state out)

pub seen_copes : (x : List (List ℕ) × List (List ℕ)) → Copes (seen x)
unfolding seen_answer seen_out shown_fit rows_fit ports_in known_kind sized frames tags
seen_copes (state, out) = copes _ (λ l. rw l, λ l. rw l (refl, refl, refl))

abbrev pub cause : List (List ℕ) × List ℕ → Call
cause (state, out) =
    stateless (Unless 9 (rows_of (ports_of (group_at state)) (length state) && length out == 2) ∷ [])
    (cause_answer state (length out)) (out ∷ []) (cause_out state out ∷ [])

pub cause_copes : (x : List (List ℕ) × List ℕ) → Copes (cause x)
unfolding cause_answer cause_out cause_fit rows_fit ports_in known_kind sized frames tags
cause_copes (state, out) = copes _ (λ l. rw l, λ l. rw l (refl, refl, refl))

abbrev pub heard : List (List ℕ) × List ℕ → Call
heard (state, out) =
    stateless (Unless 9 (rows_of (ports_of (group_at state)) (length state) && length out == 4) ∷ [])
    (heard_answer state (length out)) (out ∷ []) (heard_out state out ∷ [])

pub heard_copes : (x : List (List ℕ) × List ℕ) → Copes (heard x)
unfolding heard_answer heard_out heard_fit rows_fit ports_in known_kind sized frames tags
heard_copes (state, out) = copes _ (λ l. rw l, λ l. rw l (refl, refl, refl))

abbrev pub behind : List (List ℕ) × List ℕ → Call
behind (state, out) =
    stateless (Unless 9 (rows_of (ports_of (group_at state)) (length state) && length out == ports_of (group_at state)) ∷ [])
    (behind_answer state (length out)) (out ∷ []) (behind_out state out ∷ [])

pub behind_copes : (x : List (List ℕ) × List ℕ) → Copes (behind x)
unfolding behind_answer behind_out shown_fit rows_fit ports_in known_kind sized frames tags
behind_copes (state, out) = copes _ (λ l. rw l, λ l. rw l (refl, refl, refl))

abbrev pub anew : List (List ℕ) × List ℕ → Call
anew (state, store) =
    stateful (Unless 9 (rows_of (ports_of (group_at state)) (length state) && length store == store_of (group_at state)) ∷ [])
    (anew_answer state (length store)) [] [] state (anew_rows state store) state

pub anew_copes : (x : List (List ℕ) × List ℕ) → Copes (anew x)
unfolding anew_answer anew_rows anew_fits rows_fit store_for ports_in known_kind sized frames tags
anew_copes (state, store) = copes _ (λ l. rw l, λ l. rw l (refl, refl, refl))

abbrev pub settings : List (List ℕ) × List ℕ → Call
settings (state, out) =
    stateless (Unless 9 (rows_of (ports_of (group_at state)) (length state) && length out == 4) ∷ [])
    (settings_answer state (length out)) (out ∷ []) (settings_out state out ∷ [])

pub settings_copes : (x : List (List ℕ) × List ℕ) → Copes (settings x)
unfolding settings_answer settings_out settings_fit rows_fit ports_in known_kind sized frames tags
settings_copes (state, out) = copes _ (λ l. rw l, λ l. rw l (refl, refl, refl))

-- the sender's, for C
abbrev pub sender_settings : List ℕ × List ℕ → Call
sender_settings (state, settings) = stateless (Unless 9 (is_whole state && length settings == 5) ∷ []) (shown_answer_c 5 state settings) (settings ∷ []) (settings_bytes_c state settings ∷ [])

pub sender_settings_copes : (x : List ℕ × List ℕ) → Copes (sender_settings x)
sender_settings_copes (state, settings) = shows 5 state _ settings
