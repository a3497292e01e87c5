-- Demand 2: after any calls from a start, each given the table that the last one returned.
use Rattle.std.specs.Prelude.{◌≡◌, refl, Bool, ◌&&◌, List, eqb, ltb}
use Rattle.std.proofs.Common.{◌∙◌, sym, ⊎_elim, true≢false, arith}
use Rattle.std.proofs.Math.Path.{ap}
use Rattle.std.proofs.Math.Bool.{true, false, not}
use Rattle.std.proofs.lemmas.Bool.{false≢true}
use Prim.Native.Nat.{ℕ, ◌≤◌, ◌<◌}
use borrow.Author.Tests.{eq-eqb, eqb-true, ltb-true, ltb-false, not-true}
use Rattle.ground.specs.Truth.{and-true, and_left, and_right, fails}
use Rattle.ground.specs.Counting.Laws.Ranks.{all_taken, some_top}
use Rattle.ground.specs.Counting.Laws.Tests.{none_at, some_at, some_one}
use Rattle.ground.specs.Counting.Words.{One, count, some}
use Rattle.packet.specs.Words.{EOS}
use Rattle.sender.specs.declared.table.State.{State}
use Rattle.sender.specs.declared.table.State.TheVariants.{Idle, Add, Active, Dnu}
use Rattle.sender.specs.declared.table.Table.{Table}
use Rattle.sender.specs.Board.{highest, row_of, word_of}
use Rattle.sender.specs.Calls.{Call, run}
use Rattle.sender.specs.Commands.{start_of}
use Rattle.sender.specs.Laws.Kept.{Sound, sound_run, sound_start}
use Rattle.sender.specs.Laws.Numbered.{placed_member, add_member, member_cases}
use Rattle.sender.specs.Numbering.{Demand2, is_placed, members, number_in, placed, sends, slots_in, state_in}
use Rattle.sender.specs.Table.{is_active, is_add, is_member}

-- the word of an active member is EOS or NORM, and that of any other neither
word_eos : (s : State) (last : Bool) → (word_of s last).0 ≡ EOS → (is_active s ≡ true) × (last ≡ true)
word_eos Idle last e = absurd (omega arith)
word_eos Add last e = absurd (omega arith)
word_eos Active true e = (refl, refl)
word_eos Active false e = absurd (omega arith)
word_eos Dnu last e = absurd (omega arith)

active_eos : (s : State) (last : Bool) → is_active s ≡ true → last ≡ true → (word_of s last).0 ≡ EOS
active_eos Idle last a e = absurd (false≢true a)
active_eos Add last a e = absurd (false≢true a)
active_eos Active last a e = rw e
active_eos Dnu last a e = absurd (false≢true a)

pub active_member : (s : State) → is_active s ≡ true → is_member s ≡ true
active_member Idle a = a
active_member Add a = refl
active_member Active a = refl
active_member Dnu a = refl

module _ (t : Table) where
  abbrev active : ℕ → Bool
  active j = is_active (state_in t j)

  abbrev above : ℕ → ℕ → Bool
  above q j = active j && ltb q (number_in t j)

  highest_said : (q : ℕ) → highest t.slots (slots_in t) q ≡ true → (j : ℕ) → j < slots_in t → active j ≡ true → number_in t j ≤ q
  unfolding highest
  highest_said q e j h a = ltb-false q (number_in t j) (rest (active j) (ltb q (number_in t j)) a (none_at (slots_in t) (above q) (not-true _ e) j h))
    where
      rest : (b c : Bool) → b ≡ true → (b && c) ≡ false → c ≡ false
      rest true c x y = y
      rest false c x y = absurd (false≢true x)

  highest_true : (q : ℕ) → ((j : ℕ) → j < slots_in t → active j ≡ true → number_in t j ≤ q) → highest t.slots (slots_in t) q ≡ true
  unfolding highest
  highest_true q l =
      ap not (fails (some (slots_in t) (above q)) (λ (e : some (slots_in t) (above q) ≡ true).
      let o = some_one (slots_in t) (above q) e in
      let j : ℕ = o.at in
      let w : q < number_in t j = ltb-true q (number_in t j) (and_right (active j) (ltb q (number_in t j)) o.holds) in
      let v : number_in t j ≤ q = l j o.below (and_left (active j) (ltb q (number_in t j)) o.holds) in
      omega arith))

  module _ (s : Sound t) where
    eos : (i : ℕ) → i < slots_in t → sends t i ≡ EOS → (active i ≡ true) × ((j : ℕ) → j < slots_in t → active j ≡ true → number_in t j ≤ number_in t i)
    unfolding row_of
    eos i h e =
        let w = word_eos (state_in t i) (highest t.slots (slots_in t) (number_in t i)) e in
        (w.0, highest_said (number_in t i) w.1)

    highest_eos : (i : ℕ) → i < slots_in t → active i ≡ true → ((j : ℕ) → j < slots_in t → active j ≡ true → number_in t j ≤ number_in t i) → sends t i ≡ EOS
    unfolding row_of
    highest_eos i h a l = active_eos (state_in t i) (highest t.slots (slots_in t) (number_in t i)) a (highest_true (number_in t i) l)

    each : (q : ℕ) → q < placed (state_in t) (slots_in t) → One (slots_in t) (λ i. is_placed (state_in t i) && eqb (number_in t i) q)
    each q h =
        all_taken (slots_in t) (placed (state_in t) (slots_in t)) (λ i. is_placed (state_in t i)) (number_in t)
        (λ i j hi hj pi pj e. s.numbered.once i j hi hj (placed_member (state_in t i) pi) (placed_member (state_in t j) pj) e) s.numbered.low refl q h

    each_add : (q : ℕ) → placed (state_in t) (slots_in t) ≤ q → q < members (state_in t) (slots_in t) → One (slots_in t) (λ i. is_add (state_in t i) && eqb (number_in t i) q)
    each_add q l h =
        let w = all_taken (slots_in t) (members (state_in t) (slots_in t)) (λ i. is_member (state_in t i)) (number_in t) s.numbered.once s.numbered.top refl q h in
        let i : ℕ = w.at in
        let m : is_member (state_in t i) ≡ true = and_left (is_member (state_in t i)) (eqb (number_in t i) q) w.holds in
        let e : eqb (number_in t i) q ≡ true = and_right (is_member (state_in t i)) (eqb (number_in t i) q) w.holds in
        let a : is_add (state_in t i) ≡ true =
        ⊎_elim
        (λ (p : is_placed (state_in t i) ≡ true).
        absurd (let k = s.numbered.low i w.below p in let g = eqb-true (number_in t i) q e in omega arith))
        (λ (p : is_add (state_in t i) ≡ true). p) (member_cases (state_in t i) m) in
        record { at = i; below = w.below; holds = and-true (is_add (state_in t i)) _ a e }

    one_eos : (i j : ℕ) → i < slots_in t → j < slots_in t → sends t i ≡ EOS → sends t j ≡ EOS → i ≡ j
    one_eos i j hi hj ei ej =
        let wi = eos i hi ei in
        let wj = eos j hj ej in
        let a = wi.1 j hj wj.0 in
        let b = wj.1 i hi wi.0 in
        s.numbered.once i j hi hj (active_member (state_in t i) wi.0) (active_member (state_in t j) wj.0) (omega arith)

    some_eos : some (slots_in t) active ≡ true → One (slots_in t) (λ i. eqb (sends t i) EOS)
    some_eos e =
        let w = some_top (slots_in t) active (number_in t) e in
        record { at = w.at; below = w.below; holds = eq-eqb (sends t w.at) EOS (highest_eos w.at w.below w.holds w.above) }

    no_eos : some (slots_in t) active ≡ false → (i : ℕ) → i < slots_in t → sends t i ≡ EOS → ⊥
    no_eos e i h x = true≢false (sym (some_at (slots_in t) active i h (eos i h x).0) ∙ e)

    pub sound_demand2 : Demand2 t
    sound_demand2 =
        record {
          once = s.numbered.once;
          low = s.numbered.low;
          each = each;
          follow = s.numbered.follow;
          last = λ i h a. s.numbered.top i h (add_member (state_in t i) a);
          each_add = each_add;
          idle = s.numbered.idles;
          eos = eos;
          highest_eos = highest_eos;
          some_eos = some_eos;
          one_eos = one_eos;
          no_eos = no_eos;
        }

-- for every list of calls from every start
pub demand2 : (kind count : ℕ) (calls : List Call) → Demand2 (run (start_of kind count).table calls)
demand2 kind count calls = sound_demand2 (run (start_of kind count).table calls) (sound_run (start_of kind count).table calls (sound_start kind count))
