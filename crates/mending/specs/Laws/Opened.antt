-- A recording that is answered 0: its first line, the settings in it, and the other lines.
use Rattle.std.specs.Prelude.{◌≡◌, refl, Bool, true, false, cond, List, [], ◌∷◌, ◌++◌, ◌⊎◌, ℕ, ◌<◌, length}
use Rattle.std.proofs.Math.Path.{ap}
use Rattle.std.proofs.Common.{◌∙◌, inl, inr, arith}
use Rattle.mending.specs.Following.{has_count}
use Rattle.mending.specs.Laws.Lines.{ended_out, fits_followed, followed_left, out_of}
use Rattle.mending.specs.Laws.Texts.{Ended, lines_text, with_ended}
use Rattle.mending.specs.Lines.{Line, judged, judged_by, line_text, lines_with, text_of}
pub use Rattle.mending.specs.Mending.{Opened}
use Rattle.mending.specs.Mending.{answer_by, fitting, mended_by, mended_in, mended_of, notes_by, notes_from, notes_in, notes_of, opening_of, read_answer}
use Rattle.recording.specs.declared.opening.Opening.{Opening}
use Rattle.recording.specs.Opening.{line_opening}
use Rattle.recording.specs.declared.opening.Opening.TheVariants as O
use Rattle.text.specs.Text.{LINE-END}

answer_fits : (b : Bool) → cond {A = ℕ} b 0 4 ≡ 0 → b ≡ true
answer_fits true e = refl
answer_fits false e = absurd (omega arith)

pub opened : (t : List ℕ) → read_answer t ≡ 0 → Opened t
unfolding read_answer
opened t e = go (lines_with t) refl e
  where
    by : (first : Line) (rest : List Line) → lines_with t ≡ first ∷ rest → (o : Opening) → line_opening 0 first.bytes ≡ o → answer_by o ≡ 0 → Opened t
    by first rest l (O.Settings s next) k a = record { first = first; rest = rest; settings = s; next = next; lines = l; opening = k; fits = answer_fits (fitting s) a }
    by first rest l O.Malformed k a = absurd (omega arith)
    by first rest l O.Unfinished k a = absurd (omega arith)
    by first rest l O.End k a = absurd (omega arith)

    go : (ls : List Line) → lines_with t ≡ ls → answer_by (opening_of ls) ≡ 0 → Opened t
    go [] l a = absurd (omega arith)
    go (first ∷ rest) l a = by first rest l (line_opening 0 first.bytes) refl a

-- what its other lines become
module _ (t : List ℕ) (o : Opened t) where
  abbrev pub ports_in : ℕ
  ports_in = o.settings.ports

  abbrev pub size_in : ℕ
  size_in = o.settings.size

  abbrev pub counted_in : Bool
  counted_in = has_count o.settings.kind

  abbrev pub mended_rest : List Line
  mended_rest = out_of ports_in size_in (followed_left ports_in size_in counted_in o.rest) o.rest

  pub mended_is : mended_of t ≡ text_of (o.first ∷ mended_rest)
  unfolding mended_of judged
  mended_is = ap mended_in o.lines ∙ ap (λ (x : Opening). line_text o.first ++ mended_by x o.rest) o.opening

  pub notes_are : notes_of t ≡ notes_from size_in 2 (judged_by ports_in size_in (followed_left ports_in size_in counted_in o.rest) o.rest)
  unfolding notes_of judged
  notes_are = ap notes_in o.lines ∙ ap (λ (x : Opening). notes_by x o.rest) o.opening

  pub lines_ended : Ended (o.first ∷ o.rest)
  lines_ended = rw o.lines at (with_ended t)

  mended_ended : Ended (o.first ∷ mended_rest)
  mended_ended =
      ((lines_ended.0.0, go lines_ended.0.1), ended_out ports_in size_in o.rest (followed_left ports_in size_in counted_in o.rest) (fits_followed ports_in size_in counted_in o.rest) lines_ended.1)
    where
      go : (o.first.end ≡ LINE-END ∷ []) ⊎ ((o.first.end ≡ []) × (0 < length o.first.bytes) × (o.rest ≡ []))
          → (o.first.end ≡ LINE-END ∷ []) ⊎ ((o.first.end ≡ []) × (0 < length o.first.bytes) × (mended_rest ≡ []))
      go (inl x) = inl x
      go (inr x) = inr (x.0, x.1, ap (λ (ls : List Line). out_of ports_in size_in (followed_left ports_in size_in counted_in o.rest) ls) x.2)

  -- the lines of the mended recording
  pub mended_lines_lem : lines_with (mended_of t) ≡ o.first ∷ mended_rest
  mended_lines_lem = ap lines_with mended_is ∙ lines_text (o.first ∷ mended_rest) mended_ended

  -- which is answered 0 by the same settings
  abbrev pub mended_opened : Opened (mended_of t)
  mended_opened = record { first = o.first; rest = mended_rest; settings = o.settings; next = o.next; lines = mended_lines_lem; opening = o.opening; fits = o.fits }

pub opened_answer : (t : List ℕ) → Opened t → read_answer t ≡ 0
unfolding read_answer
opened_answer t o = ap (λ (ls : List Line). answer_by (opening_of ls)) o.lines ∙ (ap answer_by o.opening ∙ ap (λ (b : Bool). cond {A = ℕ} b 0 4) o.fits)
