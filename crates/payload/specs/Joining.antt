-- Members joined into a group frame (01, 'Payload order').
use Rattle.std.specs.Prelude.{Bool, ◌&&◌, List, ℕ, ◌+◌, ◌*◌, length, get_or, ◌==◌}
use Rattle.ground.specs.Drawn.{fill_at}
use Rattle.ground.specs.Finite.{below}
use Rattle.ground.specs.Plain.{◌≤?◌}
use Rattle.ground.specs.Types.{Bytes}
use Rattle.payload.specs.declared.answer.Answer.{Answer}
use Rattle.payload.specs.Answers.{sized, answer_by, under_done}
use Rattle.payload.specs.Order.{group_byte, group_frame}

-- The group frame and the members have exactly X x P bytes each.
abbrev pub whole_answer : (X P from to : ℕ) → Answer
whole_answer X P from to = answer_by (sized X P) (from == X * P && to == X * P)

-- the member ranked r lies at r x P
abbrev pub ranked_byte : (P : ℕ) (members : Bytes) (r j : ℕ) → ℕ
ranked_byte P members r j = get_or members (r * P + j) 0

abbrev pub joined : (X P : ℕ) (members frame : Bytes) → Bytes
joined X P members frame = under_done (whole_answer X P (length members) (length frame)) (group_frame X P (ranked_byte P members)) frame

-- the member ranked r lies in the store from its start on
abbrev pub started_byte : (starts : List ℕ) (store : Bytes) (r j : ℕ) → ℕ
started_byte starts store r j = get_or store (get_or starts r 0 + j) 0

-- Each ranked member ends within the store, and the group frame from its place on within the output.
abbrev pub starts_fit : (X P : ℕ) (starts : List ℕ) (store : ℕ) → Bool
starts_fit X P starts store = below X (λ r. get_or starts r 0 + P ≤? store)

abbrev pub from_answer : (X P : ℕ) (starts : List ℕ) (store place out : ℕ) → Answer
from_answer X P starts store place out = answer_by (sized X P) (place + X * P ≤? out && starts_fit X P starts store)

-- What lies outside the group frame stays.
abbrev pub joined_from : (X P : ℕ) (starts : List ℕ) (store : Bytes) (place : ℕ) (out : Bytes) → Bytes
joined_from X P starts store place out =
    under_done (from_answer X P starts (length store) place (length out)) (fill_at place (X * P) (group_byte X (started_byte starts store)) out) out
