-- What the choosing of candidates does to the table of holders.
use Rattle.std.specs.Prelude.{◌≡◌, ◌⊎◌, ◌≢◌, Bool, not, ◌&&◌, List, ℕ, ◌≤◌, ◌<◌, length}
use Rattle.std.proofs.Math.Path.{refl, sym}
use Rattle.std.proofs.Common.{◌∙◌, arith}
use Rattle.std.proofs.Math.Logic.{inl, inr, ⊎_elim}
use Rattle.std.proofs.Math.Bool.{true, false}
use Rattle.std.specs.Bool.{beq}
use Rattle.std.proofs.lemmas.Bool.{not-true}
use Rattle.ground.specs.Finite.{same_bit}
use Rattle.ground.specs.Truth.{and-true, and_left, and_right}
use Rattle.reply.specs.declared.members.Port.{Port}
use Rattle.reply.specs.Choosing.{FREE, chooses, claims, holder_of, holders}
use Rattle.reply.specs.Laws.Granting.{Granted, granted_after, granted_first, granted_from, granted_kept, granted_same, length_granted}
use Rattle.reply.specs.Laws.Members.{candidate_lt}
use Rattle.reply.specs.Members.{is_candidate, is_restoring, port_at, was_ok}

-- a port that chooses is a candidate, and does not wait to restore
module _ (first : Bool) (p : Port) (e : chooses first p ≡ true) where
  pub chooses_candidate : is_candidate p ≡ true
  chooses_candidate = and_left (is_candidate p) (not (is_restoring p)) (and_left (is_candidate p && not (is_restoring p)) (beq (was_ok p) first) e)

  pub chooses_rested : is_restoring p ≡ false
  chooses_rested =
      not-true (is_restoring p)
      (and_right (is_candidate p) (not (is_restoring p)) (and_left (is_candidate p && not (is_restoring p)) (beq (was_ok p) first) e))

  pub chooses_lt : p.number < 64
  chooses_lt = candidate_lt p chooses_candidate

  pub chooses_was : was_ok p ≡ first
  chooses_was = same_bit (was_ok p) first (and_right (is_candidate p && not (is_restoring p)) (beq (was_ok p) first) e)

pub choosing : (p : Port) (first : Bool) → is_candidate p ≡ true → is_restoring p ≡ false → was_ok p ≡ first → chooses first p ≡ true
choosing p true c r e = and-true (is_candidate p && not (is_restoring p)) _ (and-true (is_candidate p) _ c (rw r)) (rw e)
choosing p false c r e = and-true (is_candidate p && not (is_restoring p)) _ (and-true (is_candidate p) _ c (rw r)) (rw e)

-- port i has chosen q
pub record Chosen (ports : List Port) (n q i : ℕ) : Type 0 where
  pub below : i < n
  pub candidate : is_candidate (port_at ports i) ≡ true
  pub rested : is_restoring (port_at ports i) ≡ false
  pub same : (port_at ports i).number ≡ q

module _ (ports : List Port) (n : ℕ) where
  abbrev asks : Bool → ℕ → Bool
  asks first i = chooses first (port_at ports i)

  abbrev number : ℕ → ℕ
  number i = (port_at ports i).number

  low : (first : Bool) (i : ℕ) → asks first i ≡ true → number i < 64
  low first i e = chooses_lt first (port_at ports i) e

  length_claims : (first : Bool) (h : List ℕ) → length (claims first ports n h) ≡ length h
  unfolding claims
  length_claims first h = length_granted (asks first) number n h

  pub length_holders : (h : List ℕ) → length (holders ports n h) ≡ length h
  unfolding holders
  length_holders h = length_claims false (claims true ports n h) ∙ length_claims true h

  -- a number that is kept stays its holder's
  pub holders_kept : (h : List ℕ) (q : ℕ) → holder_of h q ≢ FREE → holder_of (holders ports n h) q ≡ holder_of h q
  unfolding holders claims
  holders_kept h q taken =
      let first : holder_of (claims true ports n h) q ≡ holder_of h q = granted_kept (asks true) number n h q taken in
      granted_kept (asks false) number n (claims true ports n h) q (λ (e : holder_of (claims true ports n h) q ≡ FREE). taken (sym first ∙ e)) ∙ first

  -- who has a number had it before, or has chosen it
  pub holders_from : (h : List ℕ) (q x : ℕ) → length h ≡ 64 → holder_of (holders ports n h) q ≡ x → (holder_of h q ≡ x) ⊎ Chosen ports n q x
  unfolding holders claims
  holders_from h q x len is =
      ⊎_elim
      (λ (o : holder_of (claims true ports n h) q ≡ x).
      ⊎_elim (λ (z : holder_of h q ≡ x). inl z) (λ (c : Granted (asks true) number n q x). inr (chosen true c)) (granted_from (asks true) number (low true) n h q x len o))
      (λ (c : Granted (asks false) number n q x). inr (chosen false c))
      (granted_from (asks false) number (low false) n (claims true ports n h) q x (length_claims true h ∙ len) is)
    where
      chosen : (first : Bool) → Granted (asks first) number n q x → Chosen ports n q x
      chosen first c =
          record {
            below = c.below;
            candidate = chooses_candidate first (port_at ports x) c.asked;
            rested = chooses_rested first (port_at ports x) c.asked;
            same = c.same;
          }

  -- no number of a candidate that chooses is free afterwards
  pub holders_after : (h : List ℕ) (i : ℕ) → length h ≡ 64 → n ≤ 64 → i < n → is_candidate (port_at ports i) ≡ true → is_restoring (port_at ports i) ≡ false
      → holder_of (holders ports n h) (number i) ≢ FREE
  unfolding holders claims
  holders_after h i len small b c r = go (was_ok (port_at ports i)) refl
    where
      go : (t : Bool) → was_ok (port_at ports i) ≡ t → holder_of (holders ports n h) (number i) ≢ FREE
      go false e =
          granted_after (asks false) number (low false) n (claims true ports n h) i (length_claims true h ∙ len) small b (choosing (port_at ports i) false c r e)
      go true e =
          let first : holder_of (claims true ports n h) (number i) ≢ FREE =
          granted_after (asks true) number (low true) n h i len small b (choosing (port_at ports i) true c r e) in
          λ (z : holder_of (holders ports n h) (number i) ≡ FREE).
          first (sym (granted_kept (asks false) number n (claims true ports n h) (number i) first) ∙ z)

  -- the first of those that were OK under a number gets it, unless it is kept
  pub holders_first : (h : List ℕ) (i : ℕ) → length h ≡ 64 → n ≤ 64 → i < n → chooses true (port_at ports i) ≡ true → holder_of h (number i) ≡ FREE
      → ((j : ℕ) → j < i → was_ok (port_at ports j) ≡ true → number j ≢ number i)
      → holder_of (holders ports n h) (number i) ≡ i
  unfolding holders claims
  holders_first h i len small b c free none =
      let is : holder_of (claims true ports n h) (number i) ≡ i =
      granted_first (asks true) number (low true) n h i len small b c free (λ j d k. none j d (chooses_was true (port_at ports j) k)) in
      granted_kept (asks false) number n (claims true ports n h) (number i)
      (λ (z : holder_of (claims true ports n h) (number i) ≡ FREE). let w : i ≡ FREE = sym is ∙ z in omega arith)
      ∙ is

  -- who gets a number hangs on whether it is kept, and not on what else is
  pub holders_same : (h g : List ℕ) (q : ℕ) → length h ≡ 64 → length g ≡ 64 → holder_of h q ≡ holder_of g q
      → holder_of (holders ports n h) q ≡ holder_of (holders ports n g) q
  unfolding holders claims
  holders_same h g q lh lg e =
      granted_same (asks false) number (low false) n (claims true ports n h) (claims true ports n g) q (length_claims true h ∙ lh) (length_claims true g ∙ lg)
      (granted_same (asks true) number (low true) n h g q lh lg e)
