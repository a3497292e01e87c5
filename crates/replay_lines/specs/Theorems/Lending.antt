-- What a first line asks to be lent is what its replay wants, no less and no more: with the store that is told the group starts, with a smaller one it does not, and with the output that is
-- told, rows for 64 ports and room for what is printed no later turn of the group is answered 9 for want of room.
use Rattle.std.specs.Prelude.{◌≡◌, ℕ, ◌≤◌, Bool, true, false, cond, ◌&&◌, List, length, nat_le, nat_lt, refl, ◌==◌}
use Rattle.std.proofs.Common.{sym, ap, true≢false, arith}
use Rattle.ground.specs.Finding.{index_of}
use Rattle.ground.specs.Plain.{◌≤?◌}
use Rattle.ground.specs.Truth.{and_left}
use Rattle.recording.specs.Line.{MOST, found_of}
use Rattle.recording.specs.declared.opening.Opening.{Opening}
use Rattle.recording.specs.Opening.{opening_in}
use Rattle.recording.specs.declared.opening.Opening.TheVariants as O
use Rattle.recording.specs.declared.pairs.Settings.{Settings}
use Rattle.replay_lines.specs.declared.replay.Replay.{Replay}
use Rattle.replay_lines.specs.Laws.Lent.{lent_is}
use Rattle.replay_lines.specs.Laws.Starts.{small, start_sized_lem, start_stored}
use Rattle.replay_lines.specs.Lengths.{in_range, lengths_by, lengths_in, lengths_of, lengths_with, no_lengths}
use Rattle.replay_lines.specs.Output.{ROOM}
use Rattle.replay_lines.specs.Turn.{is_lent, is_sized, startable, started_turn, store_in, times_fit}
use Rattle.text.specs.Text.{LINE-END}

-- a group starts exactly with a store as long as is told
pub starts_exactly : (s : Settings) (store : ℕ) → startable s store ≡ ((lengths_in s).answer == 0 && (lengths_in s).store ≤? store)
unfolding startable lengths_in in_range
starts_exactly s store = go (is_sized s && times_fit s)
  where
    go : (b : Bool) → (b && nat_le (store_in s) store) ≡ ((cond b (lengths_with s) (no_lengths 4)).answer == 0 && nat_le (cond b (lengths_with s) (no_lengths 4)).store store)
    go true = refl
    go false = refl

-- and then as much is lent as each later turn asks for
pub enough : (s : Settings) (r : Replay) (next rows store out said : ℕ) → startable s store ≡ true → (lengths_in s).out ≤ out → 321 ≤ rows → ROOM ≤ said
    → is_lent (started_turn r s next).replay rows store out said ≡ true
unfolding lengths_in startable in_range
enough s r next rows store out said t o h k =
    let z = small s (start_sized_lem s store t) in
    let p = z.ports_most in
    lent_is (started_turn r s next).replay rows store out said
    (record { room = k; ports_most = p; size_most = z.size_most; rows_there = omega arith; store_there = start_stored s store t; out_there = rw (ranged t) at o })
  where
    ranged : startable s store ≡ true → in_range s ≡ true
    ranged t = and_left (is_sized s && times_fit s) (nat_le (store_in s) store) t

-- what is told of a text is told of the settings with which a turn on it starts, whether more of it is to come or not
pub told : (text : List ℕ) (last : Bool) (s : Settings) (next : ℕ) → opening_in 0 last text ≡ O.Settings s next → lengths_of text ≡ lengths_in s
unfolding lengths_of opening_in found_of
told text true s next e = ap lengths_by e
told text false s next e = ap lengths_by (ended e)
  where
    is_set : Opening → Bool
    is_set (O.Settings s n) = true
    is_set O.Malformed = false
    is_set O.Unfinished = false
    is_set O.End = false

    ended : opening_in 0 false text ≡ O.Settings s next → opening_in 0 true text ≡ O.Settings s next
    ended e = go (length text == 0) (nat_lt (index_of LINE-END text) (length text)) (nat_lt MOST (length text)) refl refl refl
      where
        go : (a b c : Bool) → (length text == 0) ≡ a → nat_lt (index_of LINE-END text) (length text) ≡ b → nat_lt MOST (length text) ≡ c → opening_in 0 true text ≡ O.Settings s next
        go true b c ea eb ec = rw ea (rw ea at e)
        go false true c ea eb ec = rw (ea, eb) (rw (ea, eb) at e)
        go false false true ea eb ec = rw (ea, eb, ec) (rw (ea, eb, ec) at e)
        go false false false ea eb ec = absurd (true≢false (sym (ap is_set (rw (ea, eb, ec) at e))))
