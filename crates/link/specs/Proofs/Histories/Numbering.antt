-- Demand 2 as the packets of one epoch show it: their words and numbers, slot by slot.
use Rattle.std.specs.Prelude.{◌≡◌, refl, Bool, true, false, ◌&&◌, ◌||◌, ℕ, ◌≤◌, ◌<◌, eqb}
use Rattle.std.proofs.Common.{◌∙◌, sym, eq-eqb, eqb-true}
use Rattle.std.proofs.Math.Path.{ap}
use Rattle.ground.specs.Counting.Laws.Numbers.{count_ext}
use Rattle.ground.specs.Counting.Words.{Apart, One, count}
use Rattle.ground.specs.Truth.{and_left, and_right, and-true}
use Rattle.packet.specs.Words.{DNU, EOS, FIXED, NORM}
use Rattle.sender.specs.Board.{highest, row_of, word_of}
use Rattle.sender.specs.declared.board.Board.{Board}
use Rattle.sender.specs.declared.board.Row.{Row}
use Rattle.sender.specs.declared.table.State.{State}
use Rattle.sender.specs.declared.table.State.TheVariants.{Active, Add, Dnu, Idle}
use Rattle.sender.specs.declared.table.Table.{Table}
use Rattle.sender.specs.Epochs.{packet_fields}
use Rattle.sender.specs.Laws.Carrying.{board_row, row_number}
use Rattle.sender.specs.Laws.Numbered.{placed_member}
use Rattle.sender.specs.Numbering.{Demand2, is_placed, number_in, placed, sends, slots_in, state_in}
use Rattle.sender.specs.Ranks.{row_at}
use Rattle.sender.specs.Table.{is_active, slot_count}
use Rattle.sender.specs.Theorems.Demand2.{sound_demand2}
use Rattle.link.specs.History.{Allowed, History, number_sent, word_sent}
use Rattle.link.specs.Proofs.Histories.Ruling.{active_word}
use Rattle.link.specs.Proofs.Histories.Senders.{sender_at_sound, size_at}

-- active or DNU
abbrev pub numbered_word : ℕ → Bool
numbered_word w = eqb w NORM || eqb w EOS || eqb w DNU

pub record Numbered (n : ℕ) (word number : ℕ → ℕ) : Type 0 where
  -- active and DNU slots have different numbers
  pub once : Apart n (λ s. numbered_word (word s)) number
  -- these are 0 to m-1 for the m of them
  pub low : (s : ℕ) → s < n → numbered_word (word s) ≡ true → number s < count n (λ j. numbered_word (word j))
  pub each : (q : ℕ) → q < count n (λ j. numbered_word (word j)) → One n (λ s. numbered_word (word s) && eqb (number s) q)
  -- EOS is on the highest active one
  pub eos : (s : ℕ) → s < n → word s ≡ EOS → (j : ℕ) → j < n → active_word (word j) ≡ true → number j ≤ number s
  pub highest_eos : (s : ℕ) → s < n → active_word (word s) ≡ true → ((j : ℕ) → j < n → active_word (word j) ≡ true → number j ≤ number s) → word s ≡ EOS

word_numbered : (s : State) (last : Bool) → numbered_word (word_of s last).0 ≡ is_placed s
word_numbered Idle last = refl
word_numbered Add last = refl
word_numbered Active true = refl
word_numbered Active false = refl
word_numbered Dnu last = refl

word_active : (s : State) (last : Bool) → active_word (word_of s last).0 ≡ is_active s
word_active Idle last = refl
word_active Add last = refl
word_active Active true = refl
word_active Active false = refl
word_active Dnu last = refl

-- our sender sends no FIXED
word_unfixed : (s : State) (last : Bool) → eqb (word_of s last).0 FIXED ≡ false
word_unfixed Idle last = refl
word_unfixed Add last = refl
word_unfixed Active true = refl
word_unfixed Active false = refl
word_unfixed Dnu last = refl

sends_unfixed : (t : Table) (s : ℕ) → eqb (sends t s) FIXED ≡ false
unfolding row_of
sends_unfixed t s = word_unfixed (state_in t s) (highest t.slots (slots_in t) (number_in t s))

sends_numbered : (t : Table) (s : ℕ) → numbered_word (sends t s) ≡ is_placed (state_in t s)
unfolding row_of
sends_numbered t s = word_numbered (state_in t s) (highest t.slots (slots_in t) (number_in t s))

sends_active : (t : Table) (s : ℕ) → active_word (sends t s) ≡ is_active (state_in t s)
unfolding row_of
sends_active t s = word_active (state_in t s) (highest t.slots (slots_in t) (number_in t s))

module _ (t : Table) (d : Demand2 t) (word number : ℕ → ℕ) (words : (s : ℕ) → s < slots_in t → word s ≡ sends t s) (numbers : (s : ℕ) → s < slots_in t → number s ≡ number_in t s) where
  numbered_at_lem : (s : ℕ) → s < slots_in t → numbered_word (word s) ≡ is_placed (state_in t s)
  numbered_at_lem s b = ap numbered_word (words s b) ∙ sends_numbered t s

  active_at_lem : (s : ℕ) → s < slots_in t → active_word (word s) ≡ is_active (state_in t s)
  active_at_lem s b = ap active_word (words s b) ∙ sends_active t s

  many : count (slots_in t) (λ s. numbered_word (word s)) ≡ placed (state_in t) (slots_in t)
  many = count_ext (slots_in t) (λ s. numbered_word (word s)) (λ s. is_placed (state_in t s)) numbered_at_lem

  table_numbered : Numbered (slots_in t) word number
  table_numbered = record { once = once; low = low; each = each; eos = eos; highest_eos = highest_eos }
    where
      once : Apart (slots_in t) (λ s. numbered_word (word s)) number
      once i j hi hj ti tj e =
          d.once i j hi hj (placed_member (state_in t i) (sym (numbered_at_lem i hi) ∙ ti)) (placed_member (state_in t j) (sym (numbered_at_lem j hj) ∙ tj))
          (sym (numbers i hi) ∙ e ∙ numbers j hj)

      low : (s : ℕ) → s < slots_in t → numbered_word (word s) ≡ true → number s < count (slots_in t) (λ j. numbered_word (word j))
      low s b p = rw (numbers s b, many) (d.low s b (sym (numbered_at_lem s b) ∙ p))

      each : (q : ℕ) → q < count (slots_in t) (λ j. numbered_word (word j)) → One (slots_in t) (λ s. numbered_word (word s) && eqb (number s) q)
      each q b =
          let w = d.each q (rw many at b) in
          let s : ℕ = w.at in
          let p : is_placed (state_in t s) ≡ true = and_left (is_placed (state_in t s)) (eqb (number_in t s) q) w.holds in
          let k : number_in t s ≡ q = eqb-true (number_in t s) q (and_right (is_placed (state_in t s)) (eqb (number_in t s) q) w.holds) in
          record {
            at = s;
            below = w.below;
            holds = and-true (numbered_word (word s)) (eqb (number s) q) (numbered_at_lem s w.below ∙ p) (eq-eqb (number s) q (numbers s w.below ∙ k));
          }

      eos : (s : ℕ) → s < slots_in t → word s ≡ EOS → (j : ℕ) → j < slots_in t → active_word (word j) ≡ true → number j ≤ number s
      eos s b e j hj aj = rw (numbers s b, numbers j hj) ((d.eos s b (sym (words s b) ∙ e)).1 j hj (sym (active_at_lem j hj) ∙ aj))

      highest_eos : (s : ℕ) → s < slots_in t → active_word (word s) ≡ true → ((j : ℕ) → j < slots_in t → active_word (word j) ≡ true → number j ≤ number s) → word s ≡ EOS
      highest_eos s b p l =
          words s b
          ∙ d.highest_eos s b (sym (active_at_lem s b) ∙ p)
          (λ j hj aj. rw (← numbers s b, ← numbers j hj) (l j hj (active_at_lem j hj ∙ aj)))

module _ (h : History) (a : Allowed h) (i : ℕ) where
  abbrev source : Table
  source = (sender_at_sound h i).outgoing.source

  source_size : slots_in source ≡ h.slots
  source_size = ap slot_count (sender_at_sound h i).outgoing.slots ∙ size_at h a i

  word_shown : (s : ℕ) → s < slots_in source → word_sent h i s ≡ sends source s
  unfolding packet_fields
  word_shown s b =
      ap (λ (d : Board). (row_at d.rows s).word.0) (sender_at_sound h i).outgoing.is ∙ ap (λ (r : Row). r.word.0) (board_row source s b)

  number_shown : (s : ℕ) → s < slots_in source → number_sent h i s ≡ number_in source s
  unfolding packet_fields
  number_shown s b = ap (λ (d : Board). (row_at d.rows s).number) (sender_at_sound h i).outgoing.is ∙ row_number source s b

  pub unfixed : (s : ℕ) → s < h.slots → eqb (word_sent h i s) FIXED ≡ false
  unfixed s b = ap (λ (w : ℕ). eqb w FIXED) (word_shown s (rw source_size b)) ∙ sends_unfixed source s

  pub numbered : Numbered h.slots (word_sent h i) (number_sent h i)
  numbered = rw source_size at (table_numbered source (sound_demand2 source (sender_at_sound h i).outgoing.sound) (word_sent h i) (number_sent h i) word_shown number_shown)
