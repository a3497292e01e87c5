-- One frame of spread more than demand 3 lets be: port 0 is late by W - 15, and all else is as in the sample. Then it depends on the order of the ports whether all goes well.
use Rattle.std.specs.Prelude.{◌≡◌, refl, Bool, false, [], ◌∷◌, ℕ, ◌%◌, drop, length, ◌==◌}
use Rattle.std.proofs.Common.{arith}
use Rattle.ground.specs.Types.{Bytes, Epoch}
use Rattle.judge.specs.Verdict.{DOUBTFUL}
use Rattle.packet.specs.Kinds.{frames}
use Rattle.link.specs.Assumed.{Assumed}
use Rattle.link.specs.Link.{Link}
use Rattle.link.specs.Told.{Told}
use Rattle.link.specs.Samples.Computing.{outcome}
use Rattle.link.specs.Samples.Members.{link_with, output}
use Rattle.link.specs.Samples.Reports.{held}
use Rattle.link.specs.Samples.Tracing.{course, outcome_by_lem}

-- Of what demand 3 lets be so the spread alone lacks: Met's `met_but` has all else.
too_wide : (late_first : ℕ → Bool) → Assumed (link_with 5 late_first) → ⊥
unfolding frames
too_wide late_first a = let h = a.lines.spread 0 1 (omega arith) (omega arith) in absurd (omega arith)

-- Where the late port always comes last, the latest tags are W - 15 or W - 14 apart after every frame. Receiving does not begin, though 69 frames have come since the last port's first.
abbrev late_last : Link
late_last = link_with 5 (λ t. false)

never_begins : outcome late_last 90 ≡ record { begun = 0; told = []; strange = [] }
unfolding outcome course
never_begins = outcome_by_lem late_last 90 _ refl

-- Where the late port comes first in every other frame time, receiving begins in the midst of one. Then a frame of the other port lies outside the window and is answered 11, and is lost with its epoch: of the
-- first two epochs, which are to be sure with 16 and with 32 bytes, one is held and one doubtful with half its bytes.
abbrev late_in_turn : Link
late_in_turn = link_with 5 (λ t. t % 2 == 1)

abbrev doubtful : Epoch → Bytes → Told
doubtful e bytes = record { epoch = e; mark = DOUBTFUL; bytes = bytes; rest = drop (length bytes) output }

goes_wrong : outcome late_in_turn 120 ≡ record { begun = 1; told = held 254 ∷ doubtful 255 (193 ∷ 195 ∷ 197 ∷ 199 ∷ 201 ∷ 203 ∷ 205 ∷ 207 ∷ 209 ∷ 211 ∷ 213 ∷ 215 ∷ 217 ∷ 219 ∷ 221 ∷ 223 ∷ []) ∷ []; strange = 11 ∷ [] }
unfolding outcome course
goes_wrong = outcome_by_lem late_in_turn 120 _ refl
