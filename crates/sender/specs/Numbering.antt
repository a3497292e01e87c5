-- Demand 2 of the sender's table: 'active and do-not-use members hold the numbers 0 to n-1, each once; end-of-sequence is on the highest active member and nowhere else.'
use Rattle.std.specs.Prelude.{◌≡◌, Bool, true, false, ◌&&◌, ℕ, ◌≤◌, ◌<◌, ◌==◌}
use Rattle.packet.specs.Kinds.{idle_number}
use Rattle.packet.specs.Words.{EOS}
use Rattle.ground.specs.Counting.Words.{Apart, One, count, some}
use Rattle.sender.specs.declared.table.State.{State}
use Rattle.sender.specs.declared.table.State.TheVariants.{Idle, Add, Active, Dnu}
use Rattle.sender.specs.declared.table.Table.{Table}
use Rattle.sender.specs.Board.{row_of}
use Rattle.sender.specs.Table.{is_active, is_add, is_member, slot_count, slot_at}

-- active or DNU
abbrev pub is_placed : State → Bool
is_placed Idle = false
is_placed Add = false
is_placed Active = true
is_placed Dnu = true

-- how many of the first n
abbrev pub placed : (ℕ → State) → ℕ → ℕ
placed st n = count n (λ i. is_placed (st i))

abbrev pub members : (ℕ → State) → ℕ → ℕ
members st n = count n (λ i. is_member (st i))

-- the word of the slot i
abbrev pub sends : Table → ℕ → ℕ
sends t i = (row_of t.slots (slot_count t.count) i).word.0

-- the table's states and numbers, and how many slots there are
abbrev pub state_in : Table → ℕ → State
state_in t i = (slot_at t.slots i).state

abbrev pub number_in : Table → ℕ → ℕ
number_in t i = (slot_at t.slots i).number

abbrev pub slots_in : Table → ℕ
slots_in t = slot_count t.count

pub record Demand2 (t : Table) : Type 0 where
  -- no two members hold one number
  pub once : Apart (slots_in t) (λ i. is_member (state_in t i)) (number_in t)
  -- active and DNU members hold 0 to n-1
  pub low : (i : ℕ) → i < slots_in t → is_placed (state_in t i) ≡ true → number_in t i < placed (state_in t) (slots_in t)
  pub each : (q : ℕ) → q < placed (state_in t) (slots_in t) → One (slots_in t) (λ i. is_placed (state_in t i) && number_in t i == q)
  -- ADD members follow: n to m-1
  pub follow : (i : ℕ) → i < slots_in t → is_add (state_in t i) ≡ true → placed (state_in t) (slots_in t) ≤ number_in t i
  pub last : (i : ℕ) → i < slots_in t → is_add (state_in t i) ≡ true → number_in t i < members (state_in t) (slots_in t)
  pub each_add : (q : ℕ) → placed (state_in t) (slots_in t) ≤ q → q < members (state_in t) (slots_in t) → One (slots_in t) (λ i. is_add (state_in t i) && number_in t i == q)
  -- IDLE is 255
  pub idle : (i : ℕ) → i < slots_in t → is_member (state_in t i) ≡ false → number_in t i ≡ idle_number t.kind
  -- EOS is on the highest active member
  pub eos : (i : ℕ) → i < slots_in t → sends t i ≡ EOS → (is_active (state_in t i) ≡ true) × ((j : ℕ) → j < slots_in t → is_active (state_in t j) ≡ true → number_in t j ≤ number_in t i)
  pub highest_eos : (i : ℕ) → i < slots_in t → is_active (state_in t i) ≡ true → ((j : ℕ) → j < slots_in t → is_active (state_in t j) ≡ true → number_in t j ≤ number_in t i) → sends t i ≡ EOS
  -- where some member is active there is one, and nowhere else a second
  pub some_eos : some (slots_in t) (λ i. is_active (state_in t i)) ≡ true → One (slots_in t) (λ i. sends t i == EOS)
  pub one_eos : (i j : ℕ) → i < slots_in t → j < slots_in t → sends t i ≡ EOS → sends t j ≡ EOS → i ≡ j
  -- with none active, nowhere
  pub no_eos : some (slots_in t) (λ i. is_active (state_in t i)) ≡ false → (i : ℕ) → i < slots_in t → sends t i ≡ EOS → ⊥
