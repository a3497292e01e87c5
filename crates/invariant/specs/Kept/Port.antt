-- What holds of a port's step and its marks after any calls.
use Rattle.std.specs.Prelude.{◌≡◌, ◌≢◌, true, false, ℕ, ◌+◌, ◌*◌, ◌≤◌, ◌<◌}
use Rattle.ground.specs.Plain.{◌≤?◌}
use Rattle.ground.specs.Types.{Bytes}
use Rattle.packet.specs.Kinds.{distance_of, first_tag, frames, tags}
use Rattle.rows.specs.declared.group.Group.{Group}
use Rattle.rows.specs.declared.step.Step.{Step}
use Rattle.step.specs.Arrival.{distance_in, flag_of, in_step, run_of}
use Rattle.store.specs.Marks.{Sixteen, mark_in}
use Rattle.invariant.specs.Kept.Run.{RunKept}

-- 'The window W is 16 to 2,048 frames'
pub record Windowed (g : Group) : Type 0 where
  pub least : frames g.kind ≤ g.window
  pub most : g.window + g.window ≤ tags g.kind

-- how far the tag to come lies after the window's first frame
abbrev pub offset : Group → Step → ℕ
offset g s = distance_in g s.next

-- and how far it lies before it
abbrev pub short_of : Group → Step → ℕ
short_of g s = distance_of g.kind (first_tag g.kind g.oldest) s.next

-- where epoch i of the window ends
abbrev pub end_of : Group → ℕ → ℕ
end_of g i = frames g.kind * i + frames g.kind

abbrev pub NoMark : Bytes → Type 0
NoMark marks = (i : ℕ) → mark_in marks i ≡ false

-- before the beginning nobody has joined, nothing is stored and nothing rules
pub record Idle (s : Step) (marks : Bytes) : Type 0 where
  pub joined : s.joined ≡ 0
  pub ever_since : s.ever_since ≡ 0
  pub joined_at : s.joined_at ≡ 0
  pub whole : s.whole ≡ 0
  pub empty : NoMark marks

-- of a port that has joined
pub record Joined (g : Group) (s : Step) (marks : Bytes) : Type 0 where
  pub reach : offset g s ≤ g.window
  pub within : frames g.kind * s.joined_at < g.window
  pub passed : s.joined_at ≢ 0 → frames g.kind * s.joined_at < offset g s
  -- from the epoch joined at on, the epochs that are marked are those that the port has gone through
  pub marked : (i : ℕ) → s.joined_at ≤ i → mark_in marks i ≡ (end_of g i ≤? offset g s)

-- of a port in step ever since the beginning that has not joined yet: the window's first frame is less than W frames ahead of it
pub record Waiting (g : Group) (s : Step) (marks : Bytes) : Type 0 where
  pub gathered : g.gathered ≡ 0
  pub short : short_of g s < g.window
  pub empty : NoMark marks

pub record PortKept (g : Group) (s : Step) (marks : Bytes) : Type 0 where
  pub row : Sixteen marks
  pub run : RunKept g.kind (run_of s)
  -- flags are 0 or 1
  pub heard : s.heard ≤ 1
  pub failed : s.failed ≤ 1
  pub joined : s.joined ≤ 1
  pub ever_since : s.ever_since ≤ 1
  pub whole : s.whole ≤ 1
  pub joined_step : flag_of s.joined ≡ true → in_step g s ≡ true
  pub since_step : flag_of s.ever_since ≡ true → in_step g s ≡ true
  pub failed_none : flag_of s.failed ≡ true → s.count ≡ 0
  pub failed_had : flag_of s.failed ≡ true → s.heard ≡ 1
  pub count_had : 0 < s.count → s.heard ≡ 1
  pub idle : flag_of g.begun ≡ false → Idle s marks
  pub goes : flag_of s.joined ≡ true → Joined g s marks
  -- what is marked lies in the window
  pub inside : (i : ℕ) → mark_in marks i ≡ true → end_of g i ≤ g.window
  pub at_once : flag_of s.joined ≡ false → s.joined_at ≡ 0
  pub waits : flag_of s.ever_since ≡ true → flag_of s.joined ≡ false → Waiting g s marks
  pub early : flag_of s.ever_since ≡ true → s.joined_at ≡ 0
