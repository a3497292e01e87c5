-- A link of demand 3 on which 'all packets undamaged' (02, 2026-13) come, and the numbers that a history's slots have.
use Rattle.std.specs.Prelude.{◌≡◌, Bool, ◌&&◌, ℕ, ◌<◌, ◌==◌}
use Rattle.ground.specs.Counting.Words.{some}
use Rattle.sender.specs.Numbering.{number_in, state_in}
use Rattle.sender.specs.Table.{is_member}
use Rattle.link.specs.History.{History, sender_at}
use Rattle.link.specs.Link.{Link, sent_to}

abbrev pub AsSent : Link → Type 0
AsSent k = (i p : ℕ) → p < k.ports → k.came i p ≡ sent_to k i p

-- a slot that is not IDLE in the i-th epoch holds the number q
abbrev pub has_holder : (h : History) (i number : ℕ) → Bool
has_holder h i q = some h.slots (λ slot. is_member (state_in (sender_at h i).table slot) && number_in (sender_at h i).table slot == q)
