-- Equations that the calls of the first sweep promise, put together.
use mathlib.Core.Path.{◌≡◌, refl, ap, ◌∙◌}
use mathlib.Core.Bool.{Bool, true, false}
use mathlib.Core.List.{List}
use Prim.Native.Nat.{ℕ, ◌+◌, ◌-◌, ◌<◌}
use native.Mathlib.Numerals.{add-one}
use lib.ListN.{drop, get_or, length, set, take}
use lib.Seq.{slice}
use Rattle.mending.specs.declared.follow.Follow.{Follow}
use Rattle.mending.specs.declared.follow.Keys.{Keys}
use Rattle.mending.specs.declared.line.Read.{Read}
use Rattle.mending.specs.Follow.{beginning, count_back, fed_if, restores_first, restores_last, restores_second, restores_third}
use Rattle.mending.specs.Laws.Copies.{Copying, copying_dropped, copying_kept, sweep_in}
use Rattle.mending.specs.Laws.Restored.{length_set_if}
use Rattle.mending.specs.Laws.Sweeps.{no_keys, sweep_end, sweep_start, swept, restored_in, set_if, with_key}
use Rattle.mending.specs.Laws.Reads.{read_at}
use Rattle.mending.specs.Lines.{capital, lines_with}
use Rattle.payload.specs.Laying.{laid}

pub restored_by : (f g : Follow) (k : Keys) (out : List ℕ) {first second third : Bool} {x y z : ℕ} {out₁ out₂ out₃ : List ℕ} → first ≡ restores_first f g → second ≡ restores_second f g → third ≡ restores_third f g
    → x ≡ count_back f g.v 3 → y ≡ count_back f g.v 2 → z ≡ count_back f g.v 1
    → out₁ ≡ set_if first k.first (capital x) out → out₂ ≡ set_if second k.second (capital y) out₁ → out₃ ≡ set_if third k.third (capital z) out₂ → out₃ ≡ restored_in f g k out
unfolding restored_in
restored_by f g k out a b c d e h p q r = rw (r, q, p, a, b, c, d, e, h) refl

-- a turn of the first sweep

module _ (has : Bool) (ports size start : ℕ) (text out₀ : List ℕ) (room : length out₀ ≡ length (swept has ports size (sweep_start (take start out₀)) (lines_with (drop start text))).written)
    (follows : List Follow) (keys : List Keys) (at to : ℕ) (out : List ℕ) (c : Copying has ports size start text out₀ follows keys at to out) (more : at < length text)
    (r : Read) (er : r ≡ read_at ports size at text) where
  pub copy_kept : r.kept ≡ true → r.port < 64 → (after : Follow) → after ≡ fed_if has (get_or follows r.port beginning) r.count
      → (out₁ : List ℕ) → out₁ ≡ restored_in (get_or follows r.port beginning) after (get_or keys r.port no_keys) out
      → (piece : List ℕ) → piece ≡ slice at r.next text → (out₂ : List ℕ) → out₂ ≡ laid to piece out₁
      → (shifted : Keys) → shifted ≡ with_key (get_or keys r.port no_keys) (to + (r.digit - at))
      → Copying has ports size start text out₀ (set follows r.port after) (set keys r.port shifted) r.next (to + (r.next - at)) out₂
  copy_kept k few after ea out₁ e₁ piece ep out₂ e₂ shifted es =
      rw (e₂, ep, e₁, es, ea, er)
      (copying_kept has ports size start text out₀ room follows keys at to out c more (rw er at k) (rw er at few) (to + ((read_at ports size at text).digit - at)) (to + ((read_at ports size at text).next - at)) refl refl)

  pub copy_dropped : r.kept ≡ false → Copying has ports size start text out₀ follows keys r.next to out
  copy_dropped k = rw er (copying_dropped has ports size start text out₀ room follows keys at to out c more (rw er at k))

-- and of its end

pub ended_by : (follows : List Follow) (keys : List Keys) (i : ℕ) (out₀ out new : List ℕ) (is : Bool) (count : ℕ) → out ≡ sweep_end i (sweep_in follows keys out₀) → is ≡ restores_last (get_or follows i beginning)
    → count ≡ count_back (get_or follows i beginning) (get_or follows i beginning).first 2 → new ≡ set_if is (get_or keys i no_keys).second (capital count) out
    → (new ≡ sweep_end (i + 1) (sweep_in follows keys out₀)) × (length new ≡ length out)
ended_by follows keys i out₀ out new is count e a b d = (rw (add-one, d, a, b, e) refl, ap length d ∙ length_set_if is (get_or keys i no_keys).second (capital count) out)
