-- When RS-Ack turns over.
use Rattle.std.specs.Prelude.{◌≡◌, refl, Bool, true, false, cond, not, ◌&&◌, ◌||◌, List, [], ◌∷◌, ℕ, ◌-◌, ◌≤◌, ◌<◌, eqb, get_or}
use Rattle.std.proofs.Common.{sym, ap, ◌∙◌, true≢false, arith, eq-eqb, eqb-true}
use Rattle.std.specs.Bool.{beq}
use Rattle.std.proofs.Math.Option.{Option, none, some, some-injective, none-ne-some, some-ne-none}
use Rattle.std.proofs.lemmas.Bool.{eqb-false}
use Rattle.ground.specs.Counting.Laws.Tests.{none_at, some_none}
use Rattle.ground.specs.Table.{get_or_tabulate, tabulate_ext}
use Rattle.ground.specs.Truth.{and_left, and_right, and-true, clash, fails, neither}
use Rattle.reply.specs.Lists.{Left, entry, list_now, list_told}
use Rattle.reply.specs.declared.members.Port.{Port}
use Rattle.reply.specs.Members.{no_word, port_at}
use Rattle.reply.specs.Telling.{ack_of, has_changed, has_left, is_listed, turns_over}

pub ack_kept : (ports : List Port) (n bit : ℕ) → turns_over ports n ≡ false → ack_of ports n bit ≡ bit
unfolding ack_of
ack_kept ports n bit e = rw e

-- one report turns it once, however many ports have changed
pub ack_turned : (ports : List Port) (n bit : ℕ) → turns_over ports n ≡ true → bit ≤ 1 → ack_of ports n bit ≡ 1 - bit
unfolding ack_of
ack_turned ports n bit e h = rw e (go (eqb bit 0) refl)
  where
    go : (b : Bool) → eqb bit 0 ≡ b → cond b 1 0 ≡ 1 - bit
    go true z = let w = eqb-true bit 0 z in omega arith
    go false z = let w : bit ≡ 0 → ⊥ = eqb-false bit 0 z in omega arith

-- no port, no turn
none_turns : (ports : List Port) (n : ℕ) → ((i : ℕ) → i < n → (has_changed (port_at ports i) || has_left (port_at ports i)) ≡ false) → turns_over ports n ≡ false
unfolding turns_over
none_turns ports n each = some_none n (λ i. has_changed (port_at ports i) || has_left (port_at ports i)) each

-- a fresh group, with no good packet yet and none at the last report, does not turn it
pub fresh_kept : (ports : List Port) (n : ℕ) → ((i : ℕ) → i < n → ((port_at ports i).word ≡ no_word) × ((port_at ports i).told_word ≡ no_word)) → turns_over ports n ≡ false
fresh_kept ports n fresh = none_turns ports n (λ i b. rw ((fresh i b).0, (fresh i b).1))

unchanged : (p : Port) → has_changed p ≡ false → entry p.word p.number ≡ entry p.told_word p.told_number
unchanged p = go (is_listed p.word) (is_listed p.told_word) (eqb p.number p.told_number) refl
  where
    go : (a b c : Bool) → eqb p.number p.told_number ≡ c → (not (beq a b) || a && not c) ≡ false
        → ◌≡◌ {A = Option ℕ} (cond a (some p.number) none) (cond b (some p.told_number) none)
    go true true true e h = ap {B = Option ℕ} some (eqb-true p.number p.told_number e)
    go true true false e h = absurd (true≢false h)
    go true false c e h = absurd (true≢false h)
    go false true c e h = absurd (true≢false h)
    go false false c e h = refl

changed : (p : Port) → entry p.word p.number ≡ entry p.told_word p.told_number → has_changed p ≡ false
changed p = go (is_listed p.word) (is_listed p.told_word)
  where
    go : (a b : Bool) → ◌≡◌ {A = Option ℕ} (cond a (some p.number) none) (cond b (some p.told_number) none)
        → (not (beq a b) || a && not (eqb p.number p.told_number)) ≡ false
    go true true h = rw (eq-eqb p.number p.told_number (some-injective p.number p.told_number h))
    go true false h = absurd (some-ne-none p.number h)
    go false true h = absurd (none-ne-some p.told_number h)
    go false false h = refl

unleft : (p : Port) → has_left p ≡ false → Left p → ⊥
unleft p e l = clash (has_left p) (and-true (eqb p.told_word 1) (eqb p.word 5) (eq-eqb p.told_word 1 l.0) (eq-eqb p.word 5 l.1)) e

stayed : (p : Port) → (Left p → ⊥) → has_left p ≡ false
stayed p d =
    fails (eqb p.told_word 1 && eqb p.word 5)
    (λ e. d (eqb-true p.told_word 1 (and_left (eqb p.told_word 1) (eqb p.word 5) e), eqb-true p.word 5 (and_right (eqb p.told_word 1) (eqb p.word 5) e)))

-- The bit is kept exactly where the list is as it was and no port whose word was ADD at the last report is IDLE now.

pub kept_says : (ports : List Port) (n : ℕ) → turns_over ports n ≡ false
    → (list_now ports n ≡ list_told ports n) × ((i : ℕ) → i < n → Left (port_at ports i) → ⊥)
unfolding turns_over
kept_says ports n e = (
  tabulate_ext n (λ i. entry (port_at ports i).word (port_at ports i).number) (λ i. entry (port_at ports i).told_word (port_at ports i).told_number)
      (λ i b. unchanged (port_at ports i) (neither (has_changed (port_at ports i)) (has_left (port_at ports i)) (each i b)).0),
  λ i b. unleft (port_at ports i) (neither (has_changed (port_at ports i)) (has_left (port_at ports i)) (each i b)).1,
)
  where
    each : (i : ℕ) → i < n → (has_changed (port_at ports i) || has_left (port_at ports i)) ≡ false
    each i b = none_at n (λ k. has_changed (port_at ports k) || has_left (port_at ports k)) e i b

pub says_kept : (ports : List Port) (n : ℕ) → list_now ports n ≡ list_told ports n → ((i : ℕ) → i < n → Left (port_at ports i) → ⊥) → turns_over ports n ≡ false
says_kept ports n same left = none_turns ports n (λ i b. rw (changed (port_at ports i) (at i b)) (stayed (port_at ports i) (left i b)))
  where
    now : ℕ → Option ℕ
    now i = entry (port_at ports i).word (port_at ports i).number

    told : ℕ → Option ℕ
    told i = entry (port_at ports i).told_word (port_at ports i).told_number

    at : (i : ℕ) → i < n → now i ≡ told i
    at i b =
        sym (get_or_tabulate n now i none b) ∙ ap (λ (l : List (Option ℕ)). get_or l i none) same ∙ get_or_tabulate n told i none b

-- Runs of one port from the word and number of the last report to those of this one, and the bit from 0.

abbrev from : ℕ → ℕ → ℕ → ℕ → ℕ
from told_word told_number word number =
    ack_of
    (record {
      word = word;
      number = number;
      state = 0;
      state_number = 0;
      told_word = told_word;
      told_number = told_number;
      readable = true;
      hold_off = 0;
      restore = 0;
      elapsed = 0;
    }
    ∷ [])
    1 0

-- It turns from ADD to IDLE, and as the port enters the list, leaves it or has another number in it.
pub turned : (from 1 7 5 255 ≡ 1) × (from 1 7 3 7 ≡ 1) × (from 3 0 5 255 ≡ 1) × (from 2 1 2 0 ≡ 1) × (from 15 1 15 0 ≡ 1)
unfolding ack_of turns_over
turned = (refl, refl, refl, refl, refl)

-- It does not from ADD to ADD, also under another number, from IDLE to ADD, with no good packet yet, or among NORM, EOS and DNU under one number.
pub kept : (from 1 7 1 7 ≡ 0) × (from 1 7 1 6 ≡ 0) × (from 5 255 1 7 ≡ 0) × (from 255 255 5 255 ≡ 0) × (from 2 1 15 1 ≡ 0) × (from 15 1 3 1 ≡ 0)
unfolding ack_of turns_over
kept = (refl, refl, refl, refl, refl, refl)
