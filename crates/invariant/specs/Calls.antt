-- Calls of a host, one after the other, from a start on.
use Rattle.std.specs.Prelude.{Bool, List, [], ◌∷◌, ℕ, length}
use Rattle.ground.specs.Types.{Bytes, Rows}
use Rattle.receiver.specs.Fetch.{fetch_of}
use Rattle.receiver.specs.Frame.{frame_of, port_rows, store_by, taken_in}
use Rattle.receiver.specs.Starting.{start_as_rows}
use Rattle.rows.specs.Group.{group_at}

-- a frame of a port with its flag, its H4 and its payload; a fetch with an output and a record. Any numbers and any lengths
pub data ReceiverCall : Type 0 where
  Frame : (port : ℕ) (failed : Bool) (h4 : ℕ) (payload : Bytes) → ReceiverCall
  Fetch : (out report : Bytes) → ReceiverCall

-- what is lent with every call
pub record Receiver : Type 0 where
  pub rows : Rows
  pub store : Bytes

abbrev pub receiver_after : Receiver → ReceiverCall → Receiver
receiver_after x (Frame port failed h payload) =
    record { rows = (frame_of x.rows port failed h payload x.store).rows; store = (frame_of x.rows port failed h payload x.store).store }
receiver_after x (Fetch out report) = record { rows = (fetch_of x.rows x.store out report).rows; store = x.store }

abbrev pub receiver_run : Receiver → List ReceiverCall → Receiver
receiver_run x [] = x
receiver_run x (c ∷ calls) = receiver_run (receiver_after x c) calls

-- a receiver started with any times
abbrev pub started_with : (kind count P W : ℕ) (hold restore : List ℕ) (rows : Rows) (store : Bytes) → Receiver
started_with kind count P W hold restore rows store = record { rows = start_as_rows kind count P W (length store) hold restore rows; store = store }

-- the port's rows changed by its frame
abbrev pub port_after : (s : Rows) (port : ℕ) (failed : Bool) (h4 : ℕ) → Rows
port_after s i failed h = port_rows (group_at s).kind s i (taken_in s i failed h) h

-- and the store
abbrev pub store_after : (s : Rows) (port : ℕ) (failed : Bool) (h4 : ℕ) (payload store : Bytes) → Bytes
store_after s i failed h payload store = store_by (group_at s) i (taken_in s i failed h) h payload store
