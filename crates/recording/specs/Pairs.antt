-- Behind the three numbers of a first line stand pairs, each a name and what it says (2026-05), in any order, each at most once: `kind` with the group's
-- kind (2026-12, 2026-01), `hold-off` and `wait-to-restore` (2026-03) with a number for each port. The fields are taken one after the other.
use Rattle.std.specs.Prelude.{◌&&◌, List, [], ◌∷◌, ℕ, ◌+◌, replicate, set, if◌then◌else◌, Option, Some, None, is_none, unwrap_or}
use Rattle.ground.specs.Plain.{◌<?◌}
use Rattle.ground.specs.Types.{Bytes}
use Rattle.recording.specs.declared.pairs.Awaited.{Awaited}
use Rattle.recording.specs.declared.pairs.Awaited.TheVariants.{Name, Kind, Time, Nothing}
use Rattle.recording.specs.declared.pairs.Pairs.{Pairs}
use Rattle.recording.specs.declared.pairs.Settings.{Settings}
use Rattle.recording.specs.declared.pairs.Timer.{Timer}
use Rattle.recording.specs.declared.pairs.Timer.TheVariants.{HoldOff, Restore}
use Rattle.packet.specs.Kinds.{fixed_kind, vc12_kind}
use Rattle.text.specs.Ascii.{ascii}
use Rattle.text.specs.Fields.{number_of, same_bytes}

abbrev pub first_pairs : (ports size window : ℕ) → Pairs
first_pairs ports size window = record { ports = ports; size = size; window = window; kind = None; hold_off = None; restore = None; awaited = Name }

abbrev pub no_times : List ℕ
no_times = replicate 64 0

-- a pair that is not there: H4, and no time for any port
abbrev pub settings_of : Pairs → Settings
settings_of p =
    record {
      hold_off = unwrap_or p.hold_off no_times;
      restore = unwrap_or p.restore no_times;
      kind = unwrap_or p.kind 0;
      ports = p.ports;
      size = p.size;
      window = p.window;
    }

-- another field is awaited
abbrev pub awaiting : Awaited → Pairs → Pairs
awaiting a p = record p { awaited = a }

-- a field that may not stand here; what follows it is not looked at
abbrev pub wrong_field : Pairs → Pairs
wrong_field p = awaiting Nothing p

-- a list has as many numbers as there are ports: the one of a port, or the next name
abbrev pub time_from : (timer : Timer) (ports port : ℕ) → Awaited
time_from t ports i = if i <? ports then Time t i else Name

-- a name

abbrev pub time_named : Pairs → Timer → Pairs
time_named p HoldOff = record p { hold_off = Some no_times; awaited = time_from HoldOff p.ports 0 }
time_named p Restore = record p { restore = Some no_times; awaited = time_from Restore p.ports 0 }

unfoldable pub named : Pairs → Bytes → Pairs
named p field =
    if same_bytes field (ascii "kind") && is_none p.kind then awaiting Kind p
    else if same_bytes field (ascii "hold-off") && is_none p.hold_off then time_named p HoldOff
    else if same_bytes field (ascii "wait-to-restore") && is_none p.restore then time_named p Restore
    else wrong_field p

-- what it says

abbrev pub kind_to : Pairs → ℕ → Pairs
kind_to p kind = record p { kind = Some kind; awaited = Name }

unfoldable pub kind_read : Pairs → Bytes → Pairs
kind_read p field =
    if same_bytes field (ascii "H4") then kind_to p 0
    else if same_bytes field (ascii "FIXED") then kind_to p fixed_kind
    else if same_bytes field (ascii "VC12") then kind_to p vc12_kind
    else wrong_field p

-- the number of a port put into its list; of a group with more than 64 ports, which no receiver has, the numbers of the first 64 are kept
abbrev pub count_put : (counts : Option (List ℕ)) (port n : ℕ) → Option (List ℕ)
count_put (Some counts) i n = Some (if i <? 64 then set counts i n else counts)
count_put None i n = None

abbrev pub with_time : (p : Pairs) (timer : Timer) (port n : ℕ) → Pairs
with_time p HoldOff i n = record p { hold_off = count_put p.hold_off i n }
with_time p Restore i n = record p { restore = count_put p.restore i n }

unfoldable pub time_read : (p : Pairs) (timer : Timer) (port : ℕ) (number : Option ℕ) → Pairs
time_read p t i (Some n) = awaiting (time_from t p.ports (i + 1)) (with_time p t i n)
time_read p t i None = wrong_field p

-- one field
abbrev pub field_by : (awaited : Awaited) (p : Pairs) (field : Bytes) → Pairs
field_by Name p field = named p field
field_by Kind p field = kind_read p field
field_by (Time t i) p field = time_read p t i (number_of 9 field)
field_by Nothing p field = p

unfoldable pub field_in : Pairs → Bytes → Pairs
field_in p field = field_by p.awaited p field

-- one after the other
abbrev pub pairs_from : Pairs → List (List ℕ) → Pairs
pairs_from p [] = p
pairs_from p (field ∷ fields) = pairs_from (field_in p field) fields
