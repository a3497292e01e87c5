-- Hold-off and wait-to-restore (request 2026-03): who keeps a number, until when, and who gets one.
use Rattle.std.specs.Prelude.{true, false, List, [], ◌∷◌, ℕ, length, take}
use Rattle.tables.specs.Waits.{seen_port}
use Rattle.reply.specs.declared.members.Port.{Port}
use Rattle.reply.specs.declared.waiting.Standing.{Standing}
use Rattle.reply.specs.Waiting.{standing, standings_of}
use Rattle.pinned.specs.Opened.{all_open}
use Rattle.tables.specs.Rows.{Pinned, pins, row, same}

abbrev left : List Port → List Standing
left ports = take (length ports) (standings_of ports (length ports))

-- a port that sends NORM under a number and was OK under another, with a hold-off of 3
abbrev moved : ℕ → ℕ → Port
moved number was = seen_port 2 number true (standing 2 was 0) 3 0

-- not readable any more
abbrev lost : ℕ → ℕ → Port
lost number elapsed = seen_port 2 number false (standing 2 number elapsed) 3 0

-- a newcomer
abbrev added : ℕ → Port
added number = seen_port 1 number true (standing 0 255 0) 0 0

-- FAIL under a number, with a wait-to-restore of 2
abbrev failed : ℕ → ℕ → Port
failed number elapsed = seen_port 2 number true (standing 1 number elapsed) 0 2

holding : Pinned
unfolding all_open
holding =
    pins "Port 0 was OK under 4 and now sends 5, which port 1 has: it keeps 4 while it waits. So it does where the holder of 5 is lost and keeps 5 too. Of two ports that would keep one number the first does. At the third report without its claim a port is OK for the last time; at the fourth it is FAIL. A port that waits to restore takes its number from nobody, and is OK when it has waited (request 2026-03)."
    (row "one whose new number is another's keeps the old one" (left (moved 5 4 ∷ moved 5 5 ∷ [])) (standing 2 4 1 ∷ standing 2 5 0 ∷ []) same
    ∷ row "one whose new number is another's keeps the old one, also where that other is lost" (left (moved 5 4 ∷ lost 5 0 ∷ [])) (standing 2 4 1 ∷ standing 2 5 1 ∷ []) same
    ∷ row "of two that would keep one number the first does" (left (lost 4 0 ∷ lost 4 0 ∷ [])) (standing 2 4 1 ∷ standing 1 4 0 ∷ []) same
    ∷ row "the third report without its claim" (left (lost 4 2 ∷ [])) (standing 2 4 3 ∷ []) same
    ∷ row "the fourth" (left (lost 4 3 ∷ [])) (standing 1 4 0 ∷ []) same
    ∷ row "one that waits to restore takes its number from nobody" (left (failed 4 0 ∷ moved 4 4 ∷ [])) (standing 1 4 0 ∷ standing 2 4 0 ∷ []) same
    ∷ row "one that waits to restore, at its last report of waiting" (left (failed 4 1 ∷ [])) (standing 1 4 2 ∷ []) same
    ∷ row "one that has waited is OK" (left (failed 4 2 ∷ [])) (standing 2 4 0 ∷ []) same
    ∷ [])

each_keeps : Pinned
unfolding all_open
each_keeps =
    pins "'During hold-off the port keeps its number against others', each port its own (request 2026-03)."
    (row "three ports are lost" (left (lost 4 0 ∷ lost 5 1 ∷ lost 6 2 ∷ [])) (standing 2 4 1 ∷ standing 2 5 2 ∷ standing 2 6 3 ∷ []) same
    ∷ row "two are lost, one has its claim" (left (moved 4 4 ∷ lost 5 1 ∷ lost 6 2 ∷ [])) (standing 2 4 0 ∷ standing 2 5 2 ∷ standing 2 6 3 ∷ []) same
    ∷ row "one now sends the number that a lost one keeps" (left (moved 4 4 ∷ moved 6 5 ∷ lost 6 0 ∷ [])) (standing 2 4 0 ∷ standing 2 5 1 ∷ standing 2 6 1 ∷ []) same
    ∷ row "a newcomer gets the number that another has left" (left (lost 4 0 ∷ moved 5 6 ∷ added 6 ∷ [])) (standing 2 4 1 ∷ standing 2 5 0 ∷ standing 2 6 0 ∷ []) same
    ∷ row "a newcomer does not get the number that one keeps" (left (moved 4 4 ∷ moved 5 5 ∷ moved 5 7 ∷ added 7 ∷ [])) (standing 2 4 0 ∷ standing 2 5 0 ∷ standing 2 7 1 ∷ standing 1 7 0 ∷ []) same
    ∷ [])
