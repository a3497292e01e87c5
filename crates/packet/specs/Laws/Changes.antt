-- A frame with its kept part as sent, over the kind of packet: it counts as what was sent, but where it brings another nibble of MFI2.
use Rattle.std.specs.Prelude.{◌≡◌, ℕ, ◌+◌, ◌*◌, ◌/◌, ◌%◌, ◌<◌, Bool, true, false, cond, not, ◌||◌, ◌≢◌, ◌==◌, nat_eq, nat_lt, refl}
use Rattle.std.proofs.Common.{◌∙◌, ap, arith, eq-eqb, lt-ltb, ne_eqb}
use Rattle.std.proofs.Math.Bool.{and-false}
use Rattle.ground.specs.Truth.{or_left, or_right}
use Rattle.packet.specs.Changes.{brings_mfi2, kept_part, most_changes}
use Rattle.packet.specs.Counts.{counts, says_start, vc12_counts}
use Rattle.packet.specs.Kinds.{fixed_kind, frames, lead, place_of, vc12_kind}
use Rattle.packet.specs.Laws.Clock.{by_kind}
use Rattle.packet.specs.Laws.Counting.{counts_as, counts_as_vc12, counts_bit, counts_h4, counts_start, counts_vc12}
use Rattle.packet.specs.Symbols.{symbol_of}

-- VC-12: what is kept has the start, and at places 0 to 4 the bit
kept_said : (place h g : ℕ) → kept_part vc12_kind place h ≡ kept_part vc12_kind place g → h / 2 % 2 ≡ g / 2 % 2
unfolding kept_part
kept_said place h g e = go (nat_lt place 5) e
  where
    go : (b : Bool) → cond b (h % 4) (h / 2 % 2 * 2) ≡ cond b (g % 4) (g / 2 % 2 * 2) → h / 2 % 2 ≡ g / 2 % 2
    go true s = omega arith
    go false s = omega arith

kept_bit : (place h g : ℕ) → place < 5 → kept_part vc12_kind place h ≡ kept_part vc12_kind place g → h % 2 ≡ g % 2
unfolding kept_part
kept_bit place h g l e = let s : h % 4 ≡ g % 4 = rw (lt-ltb place 5 l) at e in omega arith

place_vc12 : (t : ℕ) → place_of vc12_kind t ≡ t % 32
unfolding place_of frames lead
place_vc12 t = omega arith

kept_vc12 : (t h g : ℕ) → vc12_counts t g ≡ true → kept_part vc12_kind (t % 32) h ≡ kept_part vc12_kind (t % 32) g → vc12_counts t h ≡ true
unfolding says_start
kept_vc12 t h g e kept =
    counts_as_vc12 t h (ap (λ (n : ℕ). nat_eq n 1) (kept_said (t % 32) h g kept) ∙ counts_start t g e) (λ l. kept_bit (t % 32) h g l kept ∙ counts_bit t g e l)

abbrev Keeps : ℕ → Type 0
Keeps kind =
    (t h g : ℕ) → counts kind t g ≡ true → kept_part kind (place_of kind t) h ≡ kept_part kind (place_of kind t) g
    → (brings_mfi2 kind (place_of kind t) ≡ true → symbol_of kind h ≡ symbol_of kind g) → counts kind t h ≡ true

of_vc12_lem : Keeps vc12_kind
of_vc12_lem t h g e kept same = rw (counts_vc12 t h) (kept_vc12 t h g (rw (counts_vc12 t g) at e) (rw (place_vc12 t) at kept))

of_h4 : (kind : ℕ) → (kind == vc12_kind) ≡ false → Keeps kind
unfolding kept_part brings_mfi2 symbol_of
of_h4 kind clock t h g e kept same =
    let sent = rw (counts_h4 kind t g clock) at e in
    let low : h % 16 ≡ g % 16 = rw clock at kept in
    let nibble : (place_of kind t == lead kind || place_of kind t == lead kind + 1) ≡ true → h / 16 ≡ g / 16 = rw clock at same in
    rw (counts_h4 kind t h clock)
    (counts_as kind t h g clock sent low
    (λ (z : place_of kind t ≡ lead kind). nibble (or_left (place_of kind t == lead kind) (place_of kind t == lead kind + 1) (eq-eqb (place_of kind t) (lead kind) z)))
    (λ (z : place_of kind t ≡ lead kind + 1). nibble (or_right (place_of kind t == lead kind) (place_of kind t == lead kind + 1) (eq-eqb (place_of kind t) (lead kind + 1) z))))

-- the frames that bring no nibble of MFI2
pub brings_not : (kind place : ℕ) → place ≢ lead kind → place ≢ lead kind + 1 → brings_mfi2 kind place ≡ false
unfolding brings_mfi2
brings_not kind place d e = rw (ne_eqb place (lead kind) d, ne_eqb place (lead kind + 1) e) (and-false (not (kind == vc12_kind)))

pub vc12_brings : (place : ℕ) → brings_mfi2 vc12_kind place ≡ false
unfolding brings_mfi2
vc12_brings place = refl

-- of a fixed group's packet no bit may change
pub fixed_unchanged : most_changes fixed_kind ≡ 0
unfolding most_changes
fixed_unchanged = refl

pub counts_kept : (kind : ℕ) → Keeps kind
counts_kept kind = by_kind Keeps of_vc12_lem of_h4 kind
