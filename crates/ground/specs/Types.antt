-- Numbers and lists by what they stand for. A name here says what is meant and promises nothing: any number is an `Epoch`.
use Rattle.std.specs.Prelude.{List, ℕ}

-- bytes one after the other: a row, the store, a packet's H4 bytes, a text
abbrev pub Bytes : Type 0
Bytes = List ℕ

-- the receiver's state, as the host lends it
abbrev pub Rows : Type 0
Rows = List Bytes

-- the number of an epoch
abbrev pub Epoch : Type 0
Epoch = ℕ

-- the tag of a frame (crates/packet, Kinds)
abbrev pub Tag : Type 0
Tag = ℕ
