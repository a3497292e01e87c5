-- A packet as a row of sixteen entries, read by symbols (01, 'The control packet'; 'sixteen nibbles of the packet being gathered'). A symbol is what one frame carries of the packet. By the kind of packet, as in Kinds: H4 has a frame's nibble in each entry, VC-12 two frames' bits, the earlier one's twice as high.
-- What stands above packet reads and writes a row by its symbols alone.
use Rattle.std.specs.Prelude.{ℕ, ◌+◌, ◌*◌, ◌/◌, ◌%◌, List, slice_index, slice_set, if◌then◌else◌, ◌==◌}
use Rattle.ground.specs.Table.{tabulate}
use Rattle.packet.specs.Kinds.{vc12_kind}

-- the symbol that a frame's byte carries: of H4 bits 1 to 4, of VC-12 the lowest bit
unfoldable pub symbol_of : ℕ → ℕ → ℕ
symbol_of kind h = if kind == vc12_kind then h % 2 else h / 16

-- the entry that has the symbol of the frame at a place of the packet
unfoldable pub entry_at : ℕ → ℕ → ℕ
entry_at kind place = if kind == vc12_kind then place / 2 else place

-- that entry with the symbol of a frame put in. VC-12's keeps the other bit.
unfoldable pub entry_with : (kind entry place h4 : ℕ) → ℕ
entry_with kind entry place h =
    if kind == vc12_kind then (if place % 2 == 0 then h % 2 * 2 + entry % 2 else entry / 2 * 2 + h % 2) else h / 16

-- the symbol at a place, of the entry that has it
unfoldable pub symbol_in : (kind entry place : ℕ) → ℕ
symbol_in kind entry place = if kind == vc12_kind then (if place % 2 == 0 then entry / 2 else entry % 2) else entry

-- the k-th entry, of frames by their places
unfoldable pub entry_from : (kind : ℕ) (f : ℕ → ℕ) (k : ℕ) → ℕ
entry_from kind f k = if kind == vc12_kind then f (2 * k) % 2 * 2 + f (2 * k + 1) % 2 else f k / 16

-- a row with the symbol of a frame put at its place
unfoldable pub with_symbol : (kind : ℕ) (row : List ℕ) (place h4 : ℕ) → List ℕ
with_symbol kind row place h = slice_set row (entry_at kind place) (entry_with kind (slice_index row (entry_at kind place)) place h)

unfoldable pub symbol_at : (kind : ℕ) (row : List ℕ) (place : ℕ) → ℕ
symbol_at kind row place = symbol_in kind (slice_index row (entry_at kind place)) place

-- the row of a packet, of its frames' bytes by their places
unfoldable pub row_from : ℕ → (ℕ → ℕ) → List ℕ
row_from kind f = tabulate 16 (entry_from kind f)

-- the same of a list of bytes, one a frame
abbrev pub packet_row : ℕ → List ℕ → List ℕ
packet_row kind bytes = row_from kind (λ k. slice_index bytes k)
