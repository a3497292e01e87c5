-- How large a group may be (01, 'Numbers that bound the work'; request 2026-12): rows out of range are an empty group.
use Rattle.std.specs.Prelude.{[], ◌∷◌, ℕ}
use Rattle.ground.specs.Sizes.{size_of}
use Rattle.phases.specs.Sizes.{ports_in, store_for}
use Rattle.rows.specs.declared.group.Group.{Group}
use Rattle.pinned.specs.Opened.{all_open}
use Rattle.tables.specs.Rows.{Pinned, pins, row, same}

abbrev group : (kind count payload window : ℕ) → Group
group kind count payload window =
    record {
      spare = 61 ∷ 62 ∷ 63 ∷ 64 ∷ [];
      kind = kind;
      count = count;
      payload = payload;
      window = window;
      begun = 0;
      gathered = 0;
      oldest = 57;
      origin = 30;
      rs_ack = 1;
    }

sizes : Pinned
unfolding all_open
sizes =
    pins "'1 to 64 ports', 'P from 1 to 2,340', 'W is 16 to 2,048', of VC-12, whose kind is 1, '32 to 512'; 'ports x W x (P+1)' is 3 x 40 x 101 (01, 'Numbers that bound the work'; request 2026-12)"
    (row "H4" (ports_in (group 0 3 100 40)) 3 same
    ∷ row "VC-12" (ports_in (group 1 3 100 40)) 3 same
    ∷ row "a fixed group" (ports_in (group 2 3 100 40)) 3 same
    ∷ row "kind 3" (ports_in (group 3 3 100 40)) 0 same
    ∷ row "the smallest" (ports_in (group 0 1 1 16)) 1 same
    ∷ row "the largest" (ports_in (group 0 64 2340 2048)) 64 same
    ∷ row "65 ports" (ports_in (group 0 65 100 40)) 0 same
    ∷ row "P 0" (ports_in (group 0 3 0 40)) 0 same
    ∷ row "P 2,341" (ports_in (group 0 3 2341 40)) 0 same
    ∷ row "W 15" (ports_in (group 0 3 100 15)) 0 same
    ∷ row "W 2,049" (ports_in (group 0 3 100 2049)) 0 same
    ∷ row "VC-12 with W 31" (ports_in (group 1 3 100 31)) 0 same
    ∷ row "VC-12 with W 32" (ports_in (group 1 3 100 32)) 3 same
    ∷ row "the largest of VC-12" (ports_in (group 1 64 2340 512)) 64 same
    ∷ row "VC-12 with W 513" (ports_in (group 1 3 100 513)) 0 same
    ∷ row "a fixed group with W 16" (ports_in (group 2 3 100 16)) 3 same
    ∷ row "kind 4" (ports_in (group 4 3 100 40)) 0 same
    ∷ row "the store" (store_for (group 0 3 100 40) 3) 12120 same
    ∷ [])

members : Pinned
members =
    pins "'1 to 64 slots': a count above, which no call returns, is taken as 64 (01, 'Numbers that bound the work'; request 2026-12)"
    (row "63" (size_of 63) 63 same
    ∷ row "64" (size_of 64) 64 same
    ∷ row "65" (size_of 65) 64 same
    ∷ row "255" (size_of 255) 64 same
    ∷ [])
