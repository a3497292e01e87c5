-- The following of one port as an automaton, a line a step. Count less place, modulo 16, stays the same from line to line where the count goes on: a
-- line is good where it is that of the last good line, and a restored line gets it. Broken lines that wait for a good one are the port's last ones.
use Rattle.std.specs.Prelude.{Bool, true, false, not, ◌&&◌, List, [], ◌∷◌, ◌++◌, ℕ, ◌+◌, ◌-◌, ◌%◌, length, set, if◌then◌else◌, ◌==◌}
use Rattle.ground.specs.Plain.{◌<?◌, ◌≤?◌}
use Rattle.mending.specs.declared.follow.Follow.{Follow}

-- before a port's first line
abbrev pub beginning : Follow
beginning = record { begun = false; v = 0; place = 0; pending = 0; first = 0; second = 0; third = 0 }

abbrev pub less_place : ℕ → ℕ → ℕ
less_place count place = (count % 16 + 16 - place % 16) % 16

-- the count that a line gets, so many lines before the one to come
unfoldable pub count_back : (f : Follow) (v back : ℕ) → ℕ
count_back f v back = (v % 16 + 16 + f.place % 16 - back) % 16

-- a line more
abbrev pub going : (f : Follow) (v pending o : ℕ) → Follow
going f v pending o =
    record { begun = true; v = v; place = (f.place % 16 + 1) % 16; pending = pending; first = f.second; second = f.third; third = o }

-- afresh at the first of four broken lines: how many of them are still pending, which is those behind the last one that is good by the first
abbrev pub afresh : Follow → ℕ → ℕ
afresh f o = if o == f.first then 0 else if f.third == f.first then 1 else if f.second == f.first then 2 else 3

abbrev pub fed_by : Follow → ℕ → Follow
fed_by f o =
    if f.begun
    then (if o == f.v then going f f.v 0 o
    else if f.pending <? 3 then going f f.v (f.pending + 1) o
    else going f f.first (afresh f o) o)
    else going f o 0 o

-- the next line of the port
unfoldable pub fed : Follow → ℕ → Follow
fed f count = fed_by f (less_place count f.place)

-- A line that was pending and is no more is restored, unless it has what it would get: so many lines back (1 to 3), with this count less place.
abbrev pub restores : (before after : Follow) (back o : ℕ) → Bool
restores before after back o = back ≤? before.pending && after.pending ≤? back && not (o == after.v)

unfoldable pub restores_first : Follow → Follow → Bool
restores_first before after = restores before after 3 before.first

unfoldable pub restores_second : Follow → Follow → Bool
restores_second before after = restores before after 2 before.second

unfoldable pub restores_third : Follow → Follow → Bool
restores_third before after = restores before after 1 before.third

-- at the end, afresh again and again: of at most three pending lines only the second can be restored, where the third is good by the first
unfoldable pub restores_last : Follow → Bool
restores_last f = 3 ≤? f.pending && f.third == f.first && not (f.second == f.first)

-- the port's counts so far, one of them set where it is restored
abbrev pub set_back : (restored : Bool) (back count : ℕ) (counts : List ℕ) → List ℕ
set_back b back count counts = if b then set counts (length counts - back) count else counts

unfoldable pub restored_back : (before after : Follow) (counts : List ℕ) → List ℕ
restored_back f g counts =
    set_back (restores_third f g) 1 (count_back f g.v 1)
    (set_back (restores_second f g) 2 (count_back f g.v 2) (set_back (restores_first f g) 3 (count_back f g.v 3) counts))

unfoldable pub finished : Follow → List ℕ → List ℕ
finished f counts = set_back (restores_last f) 2 (count_back f f.first 2) counts

-- the port's counts, behind those so far
abbrev pub following : (f : Follow) (counts rest : List ℕ) → List ℕ
following f counts [] = finished f counts
following f counts (c ∷ cs) = following (fed f c) (restored_back f (fed f c) counts ++ (c ∷ [])) cs

-- Where lines have no count each is taken as a port's first: none is broken, and none waits.
abbrev pub fed_if : (has : Bool) (f : Follow) (count : ℕ) → Follow
fed_if has f count = if has then fed f count else going f (less_place count f.place) 0 (less_place count f.place)

abbrev pub following_if : (has : Bool) (f : Follow) (counts rest : List ℕ) → List ℕ
following_if has f counts [] = finished f counts
following_if has f counts (c ∷ cs) = following_if has (fed_if has f c) (restored_back f (fed_if has f c) counts ++ (c ∷ [])) cs
