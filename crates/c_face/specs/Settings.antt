-- A sender's settings for C: what a host that was handed its state needs. A state or a buffer of another length is refused with 9.
use Rattle.std.specs.Prelude.{[], ◌∷◌, ℕ}
use Rattle.ground.specs.Flags.{one_if}
use Rattle.ground.specs.Types.{Bytes}
use Rattle.sender.specs.declared.epochs.Sender.{Sender}
use Rattle.sender.specs.Epochs.{started_epoch}
use Rattle.sender.specs.Table.{slot_count}
use Rattle.c_face.specs.Boards.{shown_bytes}
use Rattle.c_face.specs.Keeping.{sender_of}

abbrev pub settings_bytes : ℕ
settings_bytes = 5

-- the kind of its packets, its slots, the number of the next epoch to start, whether a wait is open, and the RS-Ack that it remembers
unfoldable pub sender_settings : (s : Sender) → Bytes
sender_settings s = s.table.kind ∷ slot_count s.table.count ∷ started_epoch s ∷ one_if s.table.wait ∷ s.table.remembered ∷ []

abbrev pub settings_bytes_c : (state : Bytes) (settings : Bytes) → Bytes
settings_bytes_c state settings = shown_bytes settings_bytes state (sender_settings (sender_of state)) settings
