-- A frame that carries its tag as sent, and one of which what lines never change came as sent.
use Rattle.std.specs.Prelude.{◌≡◌, true, ℕ}
use Rattle.packet.specs.Changes.{kept_part}
use Rattle.packet.specs.Counts.{counts}
use Rattle.packet.specs.Kinds.{place_of, tag_of}

-- a byte as sent in the x-th frame after one with tag 0
abbrev pub SentWith : ℕ → ℕ → ℕ → Type 0
SentWith kind x h = counts kind (tag_of kind x) h ≡ true

-- one with the kept part of such a byte
pub record KeptAs (kind x h : ℕ) : Type 0 where
  pub byte : ℕ
  pub sent : SentWith kind x byte
  pub same : kept_part kind (place_of kind (tag_of kind x)) h ≡ kept_part kind (place_of kind (tag_of kind x)) byte
