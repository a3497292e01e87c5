-- The group's row.
use Rattle.std.specs.Prelude.{◌∷◌, ◌+◌, ◌*◌, ◌/◌, ◌%◌, drop, get_or}
use Rattle.ground.specs.Types.{Bytes, Rows}
use Rattle.rows.specs.declared.group.Group.{Group}
use Rattle.rows.specs.Rows.{row_in, put_row}

unfoldable pub group_of : Bytes → Group
group_of row =
    record {
      spare = drop 12 row;
      kind = get_or row 0 0;
      count = get_or row 1 0;
      payload = get_or row 2 0 * 256 + get_or row 3 0;
      window = get_or row 4 0 * 256 + get_or row 5 0;
      begun = get_or row 6 0;
      gathered = get_or row 7 0;
      oldest = get_or row 8 0;
      origin = get_or row 9 0 * 256 + get_or row 10 0;
      rs_ack = get_or row 11 0;
    }

unfoldable pub group_row : Group → Bytes
group_row g =
    g.kind
    ∷ g.count
    ∷ (g.payload / 256)
    ∷ (g.payload % 256)
    ∷ (g.window / 256)
    ∷ (g.window % 256)
    ∷ g.begun
    ∷ g.gathered
    ∷ g.oldest
    ∷ (g.origin / 256)
    ∷ (g.origin % 256)
    ∷ g.rs_ack
    ∷ g.spare

unfoldable pub group_at : Rows → Group
group_at s = group_of (row_in s 0)

unfoldable pub put_group : Rows → Group → Rows
put_group s g = put_row s 0 (group_row g)
