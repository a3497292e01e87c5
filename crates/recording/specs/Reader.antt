-- 'a reader that stays on the lent text and knows how far it has come' (2026-05)
use Rattle.std.specs.Prelude.{List, ℕ}
use Rattle.std.specs.Borrow.{Bor}
use Rattle.recording.specs.declared.reader.Reader.{Reader}

abbrev pub reader_at : Bor (List ℕ) → ℕ → Reader
reader_at text at = record { text = text; at = at }
