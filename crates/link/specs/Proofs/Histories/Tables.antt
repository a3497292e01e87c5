-- The tables of a history: each is made of the one before by the calls before its epoch's start, and its board goes out in that epoch's packets.
use Rattle.std.specs.Prelude.{◌≡◌, List, [], ◌∷◌, replicate, Ok}
use Rattle.std.proofs.Math.Path.{refl, ap}
use Rattle.std.proofs.Common.{◌∙◌}
use Prim.Native.Nat.{ℕ, zero, suc, ◌<◌}
use Rattle.packet.specs.Theorems.Sent.{sent_as}
use Rattle.packet.specs.Kinds.{frames}
use Rattle.packet.specs.Ruling.{read_row}
use Rattle.packet.specs.Symbols.{packet_row}
use Rattle.sender.specs.Epochs.{begin_of, on_table, packet_fields, sender_outcome_of, sender_run, started_sender}
use Rattle.sender.specs.declared.board.Board.{Board}
use Rattle.sender.specs.declared.board.Row.{Row}
use Rattle.sender.specs.declared.epochs.Sender.{Sender}
use Rattle.sender.specs.Board.{board_of, highest, row_of, word_of}
use Rattle.sender.specs.Calls.{Call, run}
use Rattle.sender.specs.Epochs.SenderCall.{OnTable}
use Rattle.sender.specs.Laws.Carrying.{board_row, row_number}
use Rattle.sender.specs.Numbering.{number_in, slots_in, state_in}
use Rattle.sender.specs.Ranks.{row_at}
use Rattle.link.specs.History.{Allowed, History, fields_sent, number_sent, packet_sent, sender_at, started_on, word_sent}
use Rattle.link.specs.Proofs.Histories.Packets.{packet_is, packet_wrote}
use Rattle.link.specs.Proofs.Histories.Senders.{sender_in, started_is}

-- calls on the table alone
table_run : (s : Sender) (cs : List Call) → (sender_run s (on_table cs)).table ≡ run s.table cs
table_run s [] = refl
table_run s (c ∷ cs) = table_run (sender_outcome_of s (OnTable c)).sender cs

module _ (h : History) (al : Allowed h) where
  started_table : (i : ℕ) (s : Sender) → (started_on h i s).table ≡ run s.table (h.before i)
  unfolding started_sender
  started_table i s = ap (λ (x : Sender). x.table) (started_is h al i s) ∙ table_run s (h.before i)

  pub table_next : (i : ℕ) → (sender_at h (suc i)).table ≡ run (sender_at h i).table (h.before (suc i))
  unfolding sender_at
  table_next i = started_table (suc i) (sender_at h i)

  started_board : (i : ℕ) (s : Sender) → (started_on h i s).outgoing ≡ board_of (started_on h i s).table
  unfolding started_sender
  started_board i s = rw (started_is h al i s) refl

  pub board_at_lem : (i : ℕ) → (sender_at h i).outgoing ≡ board_of (sender_at h i).table
  unfolding sender_at
  board_at_lem zero = started_board zero (begin_of h.kind h.slots h.first).sender
  board_at_lem (suc i) = started_board (suc i) (sender_at h i)

  -- the word and the number that a slot sends are its own
  pub word_at : (i slot : ℕ) → slot < slots_in (sender_at h i).table
      → word_sent h i slot ≡ (word_of (state_in (sender_at h i).table slot) (highest (sender_at h i).table.slots (slots_in (sender_at h i).table) (number_in (sender_at h i).table slot))).0
  unfolding packet_fields row_of
  word_at i slot b = ap (λ (d : Board). (row_at d.rows slot).word.0) (board_at_lem i) ∙ ap (λ (w : Row). w.word.0) (board_row (sender_at h i).table slot b)

  pub number_at_lem : (i slot : ℕ) → slot < slots_in (sender_at h i).table → number_sent h i slot ≡ number_in (sender_at h i).table slot
  unfolding packet_fields
  number_at_lem i slot b = ap (λ (d : Board). (row_at d.rows slot).number) (board_at_lem i) ∙ row_number (sender_at h i).table slot b

  -- a packet is read as it was written, with the MST and the RS-Ack lent to its epoch
  pub packet_read : (i slot : ℕ) → slot < h.slots → read_row h.kind (packet_row h.kind (packet_sent h i slot)) ≡ Ok (fields_sent h i slot)
  packet_read i slot b = ap (λ (s : List ℕ). read_row h.kind (packet_row h.kind s)) (packet_is h al i slot b) ∙ (sent_as h.kind (fields_sent h i slot) (replicate (frames h.kind) 0) (packet_wrote h al i slot b)).reads

  pub mst_at : (i slot : ℕ) → (fields_sent h i slot).mst ≡ h.mst i
  unfolding packet_fields
  mst_at i slot = (sender_in h al i).mst

  pub ack_at : (i slot : ℕ) → (fields_sent h i slot).rs_ack ≡ h.ack i
  unfolding packet_fields
  ack_at i slot = (sender_in h al i).ack
