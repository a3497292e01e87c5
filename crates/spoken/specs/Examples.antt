-- `one_table` used at a corner, so that a statement that lost a part would be seen: what she holds amid a change is no half of it.
use Rattle.std.specs.Prelude.{◌≡◌, refl, true, false, List, [], ◌∷◌, ◌++◌, ℕ, ◌<◌, replicate}
use Rattle.std.proofs.Common.{sym, ap, ◌∙◌, arith}
use Rattle.packet.specs.Words.{EOS, IDLE, NORM}
use Rattle.sender.specs.Board.{board_of, row_of, word}
use Rattle.sender.specs.Calls.Call.{AddSlot, Lapse, Report}
use Rattle.sender.specs.Epochs.SenderCall.{OnTable, StartEpoch}
use Rattle.sender.specs.Laws.Carrying.{board_row}
use Rattle.sender.specs.Numbering.{slots_in}
use Rattle.sender.specs.Ranks.{row_at}
use Rattle.sender.specs.declared.board.Board.{Board}
use Rattle.sender.specs.declared.board.Row.{Row}
use Rattle.spoken.specs.Listening.{Moment}
use Rattle.spoken.specs.Opened.{spoken_open}
use Rattle.spoken.specs.Said.{OneTable}
use Rattle.spoken.specs.Theorems.Listener.{one_table}

-- of a board of one table no two slots send EOS
one_eos : (b : Board) → OneTable b → (i j : ℕ) → i < b.count → j < b.count → (row_at b.rows i).word.0 ≡ EOS → (row_at b.rows j).word.0 ≡ EOS → i ≡ j
unfolding board_of
one_eos b o i j hi hj ei ej = o.demand2.one_eos i j (below i hi) (below j hj) (sent i hi ei) (sent j hj ej)
  where
    below : (k : ℕ) → k < b.count → k < slots_in o.source
    below k h = rw o.is at h

    sent : (k : ℕ) → k < b.count → (row_at b.rows k).word.0 ≡ EOS → (row_of o.source.slots (slots_in o.source) k).word.0 ≡ EOS
    sent k h e = sym (ap (λ (r : Row). r.word.0) (board_row o.source k (below k h))) ∙ sym (ap (λ (c : Board). (row_at c.rows k).word.0) o.is) ∙ e

abbrev row : ℕ → ℕ → Row
row w q = record { word = word w; number = q }

-- a second member becomes active: EOS on slot 0 before, NORM on slot 0 and EOS on slot 1 after
abbrev board_with : Row → Row → Board
board_with a b = record { rows = a ∷ b ∷ replicate 62 (row IDLE 255); count = 2; wait = false }

-- half of it
half_old : OneTable (board_with (row EOS 0) (row EOS 1)) → ⊥
half_old o = let z : ◌≡◌ {A = ℕ} 0 1 = one_eos _ o 0 1 (omega arith) (omega arith) refl refl in absurd (omega arith)

abbrev active : ℕ → List Moment
active slot =
    record { call = OnTable (AddSlot slot); hears = false }
    ∷ record { call = OnTable (Report 0 0x00 0); hears = false }
    ∷ record { call = OnTable Lapse; hears = false }
    ∷ record { call = StartEpoch 0 0x00 0; hears = true }
    ∷ []

-- what she holds before and after it, and that each is of one table
before_used : OneTable (board_with (row EOS 0) (row IDLE 255))
unfolding spoken_open
before_used = one_table 0 2 0 (active 0)

after_used : OneTable (board_with (row NORM 0) (row EOS 1))
unfolding spoken_open
after_used = one_table 0 2 0 (active 0 ++ active 1)
