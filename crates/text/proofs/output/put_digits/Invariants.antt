-- `put_digits` meets its contract. Written from the end: what stands from the place on, with the digits of the rest before it, is the whole text.
-- The rest has no more digits than there are places, so that the last place is behind the last digit.
use Rattle.std.proofs.Common.{◌≡◌, ◌∷◌, ◌+◌, ◌-◌, ◌/◌, ◌%◌, ◌^◌, ◌<◌, drop, length, get_or}
use Rattle.text.specs.Output.{digits_before, ended, number_text}
use Rattle.text.proofs.output.put_digits.Given as goal

abbrev pub invariant-loop-place : goal.invariant-loop-place
invariant-loop-place l =
    (length l.bytes ≡ 21) × (0 < l.place) × (l.rest < 10 ^ l.place)
    × (digits_before (l.place - 1) (l.rest / 10) ((48 + l.rest % 10) ∷ drop l.place l.bytes) ≡ ended (number_text l.n) (get_or l.initial.bytes 20 0))
