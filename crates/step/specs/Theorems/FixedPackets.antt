-- Of a fixed group's packets (request 2026-12): the word that rules by the own count is FIXED, and so it is where nothing rules. A neighbour's packet reads as said, whatever the nibbles that are not looked at.
use Rattle.std.specs.Prelude.{◌≡◌, refl, true, List, ℕ, ◌<◌}
use Rattle.std.proofs.Common.{eq-eqb}
use Rattle.ground.specs.Truth.{cond_by}
use Rattle.packet.specs.Fixed.{fixed_nibbles_with, fixed_ruling_of}
use Rattle.packet.specs.Kinds.{fixed_kind}
use Rattle.packet.specs.Layout.{h4_of}
use Rattle.packet.specs.Ruling.{refused}
use Rattle.packet.specs.Symbols.{packet_row}
use Rattle.packet.specs.Theorems.Fixed.{fixed_epoch, fixed_rules, fixed_word}
use Rattle.packet.specs.Words.{FIXED}
use Rattle.packet.specs.declared.ruling.Ruling.{Ruling}
use Rattle.step.specs.OwnCount.{own_number, own_ruling, ruling_in}

pub own_fixed : (epoch : ℕ) (ns : List ℕ) → (own_ruling fixed_kind epoch ns).word ≡ FIXED
unfolding own_ruling ruling_in
own_fixed epoch ns = cond_by (λ (r : Ruling). r.word ≡ FIXED) (own_number epoch ns) (fixed_ruling_of ns) refused (λ e. fixed_word ns) (λ e. refl)

pub fixed_reads_lem : (unread : ℕ → ℕ) (e q : ℕ) → e < 256 → q < 256
    → own_ruling fixed_kind e (packet_row fixed_kind (h4_of (fixed_nibbles_with unread e q))) ≡ record { good = true; word = FIXED; number = q; gid = 0 }
unfolding own_ruling own_number ruling_in
fixed_reads_lem unread e q he hq = rw (fixed_epoch unread e q he, eq-eqb e e refl) (fixed_rules unread e q hq)
