-- How large a group may be (01, 'Numbers that bound the work').
use Rattle.std.specs.Prelude.{Bool, ◌&&◌, ℕ, ◌+◌, ◌*◌, ◌/◌, if◌then◌else◌}
use Rattle.ground.specs.Plain.{◌≤?◌}
use Rattle.packet.specs.Kinds.{frames, payload_right, tags}
unfoldable pub use Rattle.packet.specs.Kinds.{known_kind}
use Rattle.payload.specs.Answers.{PAYLOAD-MOST}
use Rattle.rows.specs.declared.group.Group.{Group}

-- '1 to 64 ports', 'P from 1 to 2,340', 'The window W is 16 to 2,048 frames', of VC-12 '32 to 512': from an epoch's frames to half the tags
abbrev pub sized_as : (known : Bool) (kind count P W : ℕ) → Bool
sized_as known kind count P W = known && 1 ≤? count && count ≤? 64 && 1 ≤? P && P ≤? PAYLOAD-MOST && frames kind ≤? W && W ≤? tags kind / 2

unfoldable pub sized : (kind count P W : ℕ) → Bool
sized kind count P W = sized_as (known_kind kind) kind count P W

-- What a start takes: of VC-12 'P is 136' (02, 2026-01). A group in rows that no call returned may have another P, and is no empty one for it.
unfoldable pub start_sized : (kind count P W : ℕ) → Bool
start_sized kind count P W = sized kind count P W && payload_right kind P

-- how many ports a group has; a group out of range, or of no kind that is known, is an empty one
unfoldable pub ports_in : Group → ℕ
ports_in g = if sized g.kind g.count g.payload g.window then g.count else 0

-- 'The lent store is exactly ports x W x (P+1) bytes'
unfoldable pub store_for : Group → ℕ → ℕ
store_for g n = n * g.window * (g.payload + 1)
