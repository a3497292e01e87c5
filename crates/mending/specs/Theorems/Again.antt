-- 'Mending a mended recording changes nothing.'
use Rattle.std.specs.Prelude.{◌≡◌, List, [], ◌∷◌, ℕ}
use Rattle.std.proofs.Common.{sym, ap, ◌∙◌}
use Rattle.mending.specs.Laws.Lines.{lines_again}
use Rattle.mending.specs.Laws.Opened.{mended_is, mended_opened, notes_are, opened, opened_answer, counted_in, ports_in, size_in}
use Rattle.mending.specs.Lines.{Line, text_of}
use Rattle.mending.specs.Mending.{mended_of, notes_of, read_answer}

-- of every text that is answered 0
pub mended_again : (t : List ℕ) → read_answer t ≡ 0 → (mended_of (mended_of t) ≡ mended_of t) × (read_answer (mended_of t) ≡ 0) × (notes_of (mended_of t) ≡ [])
mended_again t e =
    let o = opened t e in
    let m = mended_opened t o in
    let again = lines_again (ports_in t o) (size_in t o) (counted_in t o) o.rest 2 in (
      mended_is (mended_of t) m ∙ (ap (λ (ls : List Line). text_of (o.first ∷ ls)) again.0 ∙ sym (mended_is t o)),
      opened_answer (mended_of t) m,
      notes_are (mended_of t) m ∙ again.1,
    )
