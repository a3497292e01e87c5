-- Hold-off and wait-to-restore over the receiver's runs (02, 2026-03): what the reports of some calls saw.
use Rattle.std.specs.Prelude.{◌≡◌, false, List, [], ◌∷◌, ℕ, zero, suc, get_or, if◌then◌else◌}
use Rattle.reply.specs.Reports.{Claim}
use Rattle.reply.specs.declared.members.Port.{Port}
use Rattle.reply.specs.Members.{is_idle, port_at}
use Rattle.invariant.specs.Calls.{Fetch, Frame, Receiver, ReceiverCall, receiver_after}
use Rattle.invariant.specs.Reports.{gives, report_ports}

-- The ports as each report saw them, the latest first: after one call more, and after some calls.

abbrev pub saw_with : (x : Receiver) (call : ReceiverCall) (saw : List (List Port)) → List (List Port)
saw_with x (Frame i failed h payload) saw = saw
saw_with x (Fetch out report) saw = if gives x out report then report_ports x.rows x.store ∷ saw else saw

abbrev pub saw_of : (x : Receiver) (calls : List ReceiverCall) (saw : List (List Port)) → List (List Port)
saw_of x [] saw = saw
saw_of x (c ∷ calls) saw = saw_of (receiver_after x c) calls (saw_with x c saw)

-- so many of the latest in a row, and no more
abbrev pub InARow : (P : List Port → Type 0) (m : ℕ) (saw : List (List Port)) → Type 0
InARow P zero [] = Unit {0}
InARow P zero (ports ∷ saw) = P ports → ⊥
InARow P (suc m) [] = ⊥
InARow P (suc m) (ports ∷ saw) = P ports × InARow P m saw

-- port i of n is without its claim: it is not IDLE, and is no candidate or another port is OK under its number
abbrev pub Unclaimed : (count port : ℕ) (ports : List Port) → Type 0
Unclaimed n i ports = (is_idle (port_at ports i) ≡ false) × (Claim ports n i → ⊥)

-- it has its claim
abbrev pub Claimant : (count port : ℕ) (ports : List Port) → Type 0
Claimant n i ports = Claim ports n i

-- an empty list, or one of zeros
abbrev pub Zeros : List ℕ → Type 0
Zeros counts = (i : ℕ) → get_or counts i 0 ≡ 0
