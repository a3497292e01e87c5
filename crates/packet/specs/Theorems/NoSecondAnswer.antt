-- No second answer, and no second byte, meets what writing and reading promise.
use Rattle.std.specs.Prelude.{◌≡◌, ℕ, List}
use Rattle.std.proofs.Common.{◌∙◌, sym}
use Rattle.packet.specs.declared.layout.Fields.{Fields}
use Rattle.packet.specs.Reading.{read_answer, read_nibbles, Reading}
use Rattle.packet.specs.Writing.{write_answer, write_bytes, Writing}

-- what write promises of its answer r and the H4 bytes t that it leaves
pub record Writes (f : Fields) (h4 : List ℕ) (r : Writing) (t : List ℕ) : Type 0 where
  pub answer : r ≡ write_answer f h4
  pub bytes : t ≡ write_bytes f h4

pub one_writing : (f : Fields) (h4 : List ℕ) (r q : Writing) (t u : List ℕ) → Writes f h4 r t → Writes f h4 q u → (r ≡ q) × (t ≡ u)
one_writing f h4 r q t u a b = (a.answer ∙ sym b.answer, a.bytes ∙ sym b.bytes)

pub one_reading : (h4 : List ℕ) (r q : Reading) → r ≡ read_answer h4 → q ≡ read_answer h4 → r ≡ q
one_reading h4 r q a b = a ∙ sym b

pub one_reading_of_nibbles : (ns : List ℕ) (r q : Reading) → r ≡ read_nibbles ns → q ≡ read_nibbles ns → r ≡ q
one_reading_of_nibbles ns r q a b = a ∙ sym b
