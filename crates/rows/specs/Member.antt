-- The row of a port's member.
use Rattle.std.specs.Prelude.{◌∷◌, ℕ, ◌+◌, ◌*◌, ◌/◌, ◌%◌, drop, get_or}
use Rattle.ground.specs.Types.{Bytes, Rows}
use Rattle.rows.specs.declared.member.Member.{Member}
use Rattle.rows.specs.Rows.{PORT-ROWS, row_in, put_row}

unfoldable pub member_of : Bytes → Member
member_of row =
    record {
      spare = drop 12 row;
      word = get_or row 0 0;
      number = get_or row 1 0;
      state = get_or row 2 0;
      state_number = get_or row 3 0;
      told_word = get_or row 4 0;
      told_number = get_or row 5 0;
      hold_off = get_or row 6 0 * 256 + get_or row 7 0;
      restore = get_or row 8 0 * 256 + get_or row 9 0;
      elapsed = get_or row 10 0 * 256 + get_or row 11 0;
    }

unfoldable pub member_row : Member → Bytes
member_row m =
    m.word
    ∷ m.number
    ∷ m.state
    ∷ m.state_number
    ∷ m.told_word
    ∷ m.told_number
    ∷ m.hold_off / 256
    ∷ m.hold_off % 256
    ∷ m.restore / 256
    ∷ m.restore % 256
    ∷ m.elapsed / 256
    ∷ m.elapsed % 256
    ∷ m.spare

unfoldable pub member_at : Rows → ℕ → Member
member_at s i = member_of (row_in s (i * PORT-ROWS + 2))

unfoldable pub put_member : (s : Rows) (port : ℕ) (m : Member) → Rows
put_member s i m = put_row s (i * PORT-ROWS + 2) (member_row m)
