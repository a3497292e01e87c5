-- A first line's settings have 64 times of each kind, whatever its pairs.
use Rattle.std.specs.Prelude.{◌≡◌, refl, Bool, true, false, cond, ◌&&◌, List, [], ◌∷◌, ℕ, leb, ltb, length, set, Option, Some, None, is_none, unwrap_or}
use Rattle.std.proofs.Common.{◌∙◌, length-set}
use Rattle.packet.specs.Kinds.{fixed_kind, vc12_kind}
use Rattle.recording.specs.declared.pairs.Awaited.{Awaited}
use Rattle.recording.specs.declared.pairs.Awaited.TheVariants as A
use Rattle.recording.specs.declared.pairs.Pairs.{Pairs}
use Rattle.recording.specs.declared.pairs.Settings.{Settings}
use Rattle.recording.specs.declared.pairs.Timer.{Timer}
use Rattle.recording.specs.declared.pairs.Timer.TheVariants.{HoldOff, Restore}
use Rattle.recording.specs.Line.{MOST}
use Rattle.recording.specs.declared.opening.Opening.{Opening}
use Rattle.recording.specs.Opening.{line_opening, opened, opened_by, opening_by, settings_by}
use Rattle.recording.specs.declared.opening.Opening.TheVariants as O
use Rattle.recording.specs.Pairs.{awaiting, count_put, field_by, field_in, first_pairs, kind_read, kind_to, named, no_times, pairs_from, settings_of, time_named, time_read, wrong_field}
use Rattle.text.specs.Ascii.{ascii}
use Rattle.text.specs.Fields.{number_of, same_bytes}
use Rattle.text.specs.Text.{fields_of}

pub record Timed (s : Settings) : Type 0 where
  pub hold : length s.hold_off ≡ 64
  pub restores : length s.restore ≡ 64

-- a list that is there has 64
abbrev Long : Option (List ℕ) → Type 0
Long (Some counts) = length counts ≡ 64
Long None = Unit {0}

record Held (p : Pairs) : Type 0 where
  hold : Long p.hold_off
  restores : Long p.restore

put_long : (counts : Option (List ℕ)) (i n : ℕ) → Long counts → Long (count_put counts i n)
put_long (Some counts) i n e = go (ltb i 64)
  where
    go : (b : Bool) → length (cond b (set counts i n) counts) ≡ 64
    go true = length-set counts i n ∙ e
    go false = e
put_long None i n e = tt

told_long : (counts : Option (List ℕ)) → Long counts → length (unwrap_or counts no_times) ≡ 64
told_long (Some counts) e = e
told_long None e = refl

field_held : (p : Pairs) (field : List ℕ) → Held p → Held (field_in p field)
unfolding field_in named kind_read time_read
field_held p field t = go p.awaited
  where
    name : (a b c : Bool) → Held (cond a (awaiting A.Kind p) (cond b (time_named p HoldOff) (cond c (time_named p Restore) (wrong_field p))))
    name true b c = record { hold = t.hold; restores = t.restores }
    name false true c = record { hold = refl; restores = t.restores }
    name false false true = record { hold = t.hold; restores = refl }
    name false false false = record { hold = t.hold; restores = t.restores }

    kind : (a b c : Bool) → Held (cond a (kind_to p 0) (cond b (kind_to p fixed_kind) (cond c (kind_to p vc12_kind) (wrong_field p))))
    kind true b c = record { hold = t.hold; restores = t.restores }
    kind false true c = record { hold = t.hold; restores = t.restores }
    kind false false true = record { hold = t.hold; restores = t.restores }
    kind false false false = record { hold = t.hold; restores = t.restores }

    timed : (timer : Timer) (i : ℕ) (n : Option ℕ) → Held (time_read p timer i n)
    timed HoldOff i (Some n) = record { hold = put_long p.hold_off i n t.hold; restores = t.restores }
    timed Restore i (Some n) = record { hold = t.hold; restores = put_long p.restore i n t.restores }
    timed timer i None = record { hold = t.hold; restores = t.restores }

    go : (a : Awaited) → Held (field_by a p field)
    go A.Name = name (same_bytes field (ascii "kind") && is_none p.kind) (same_bytes field (ascii "hold-off") && is_none p.hold_off) (same_bytes field (ascii "wait-to-restore") && is_none p.restore)
    go A.Kind = kind (same_bytes field (ascii "H4")) (same_bytes field (ascii "FIXED")) (same_bytes field (ascii "VC12"))
    go (A.Time timer i) = timed timer i (number_of 9 field)
    go A.Nothing = t

pairs_held : (p : Pairs) (fields : List (List ℕ)) → Held p → Held (pairs_from p fields)
pairs_held p [] t = t
pairs_held p (field ∷ fields) t = pairs_held (field_in p field) fields (field_held p field t)

-- of an opening, where it has settings
abbrev pub TimedIn : Opening → Type 0
TimedIn (O.Settings s next) = Timed s
TimedIn O.Malformed = Unit {0}
TimedIn O.Unfinished = Unit {0}
TimedIn O.End = Unit {0}

opened_timed : (p : Pairs) (n : ℕ) → Held p → TimedIn (opened p n)
unfolding opened
opened_timed p n t = go p.awaited
  where
    go : (a : Awaited) → TimedIn (opened_by a (settings_of p) n)
    go A.Name = record { hold = told_long p.hold_off t.hold; restores = told_long p.restore t.restores }
    go A.Kind = tt
    go (A.Time timer i) = tt
    go A.Nothing = tt

settings_timed : (a b c : Option ℕ) (pairs : List (List ℕ)) (n : ℕ) → TimedIn (settings_by a b c pairs n)
unfolding settings_by
settings_timed (Some x) (Some y) (Some z) pairs n = opened_timed (pairs_from (first_pairs x y z) pairs) n (pairs_held (first_pairs x y z) pairs (record { hold = tt; restores = tt }))
settings_timed (Some x) (Some y) None pairs n = tt
settings_timed (Some x) None c pairs n = tt
settings_timed None b c pairs n = tt

fields_timed : (n : ℕ) (fs : List (List ℕ)) → TimedIn (opening_by n fs)
fields_timed n [] = tt
fields_timed n (a ∷ []) = tt
fields_timed n (a ∷ b ∷ []) = tt
fields_timed n (a ∷ b ∷ c ∷ pairs) = settings_timed (number_of 9 a) (number_of 9 b) (number_of 9 c) pairs n

pub opening_timed : (n : ℕ) (line : List ℕ) → TimedIn (line_opening n line)
unfolding line_opening
opening_timed n line = go (leb (length line) MOST)
  where
    go : (b : Bool) → TimedIn (cond b (opening_by n (fields_of line)) O.Malformed)
    go true = fields_timed n (fields_of line)
    go false = tt
