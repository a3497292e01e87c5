-- A replay for C is the crate's own (2026-05): what is kept in the 17 bytes is read back as it was, so a host in C that makes turn after turn has the replay, the rows, the store, the output
-- and the printed lines of a host that calls the crate itself. What is proved of that one (crates/replay_lines/specs/Theorems) holds of it.
use Rattle.std.specs.Prelude.{◌≡◌, List, ℕ, ◌+◌, ◌*◌, ◌/◌, ◌%◌, ◌≤◌, drop, length}
use Rattle.std.proofs.Math.Path.{refl}
use Rattle.std.proofs.Common.{sym, arith, drop-drop}
use borrow.Author.Tests.{eq-eqb, le-leb}
use Rattle.replay_lines.specs.declared.replay.Phase.{Phase}
use Rattle.replay_lines.specs.declared.replay.Phase.TheVariants.{Settings, Reading, Fetching, Skipping, Ended}
use Rattle.replay_lines.specs.declared.replay.Replay.{Replay}
use Rattle.replay_lines.specs.Runs.{Host, answer, called}
use Rattle.c_recordings.specs.Replays.{SameDone, SameLeft, bytes_of, four_of, last_c, line_in, phase_code, phase_of, replay_of, turn_answer_c, turn_at_c, turn_out_c, turn_rows_c, turn_said_c, turn_state_c, turn_store_c, turn_written_c, two_of}

phase_back : (p : Phase) → phase_of (phase_code p) ≡ p
phase_back Settings = refl
phase_back Reading = refl
phase_back Fetching = refl
phase_back Skipping = refl
phase_back Ended = refl

two_back : (n : ℕ) → two_of (n / 256) (n % 256) ≡ n
two_back n = omega arith

-- one byte more
digit_7 : (n : ℕ) → n / 72057594037927936 * 256 + n / 281474976710656 % 256 ≡ n / 281474976710656
digit_7 n = omega arith

digit_6 : (n : ℕ) → n / 281474976710656 * 256 + n / 1099511627776 % 256 ≡ n / 1099511627776
digit_6 n = omega arith

digit_5 : (n : ℕ) → n / 1099511627776 * 256 + n / 4294967296 % 256 ≡ n / 4294967296
digit_5 n = omega arith

digit_4 : (n : ℕ) → n / 4294967296 * 256 + n / 16777216 % 256 ≡ n / 16777216
digit_4 n = omega arith

digit_3 : (n : ℕ) → n / 16777216 * 256 + n / 65536 % 256 ≡ n / 65536
digit_3 n = omega arith

digit_2 : (n : ℕ) → n / 65536 * 256 + n / 256 % 256 ≡ n / 256
digit_2 n = omega arith

digit_1 : (n : ℕ) → n / 256 * 256 + n % 256 ≡ n
digit_1 n = omega arith

line_back : (n : ℕ)
    → four_of (n / 72057594037927936) (n / 281474976710656 % 256) (n / 1099511627776 % 256) (n / 4294967296 % 256) * 4294967296
    + four_of (n / 16777216 % 256) (n / 65536 % 256) (n / 256 % 256) (n % 256)
    ≡ n
line_back n =
    from (n / 72057594037927936) (n / 281474976710656) (n / 1099511627776) (n / 4294967296) (n / 16777216) (n / 65536) (n / 256) n
    (n / 281474976710656 % 256) (n / 1099511627776 % 256) (n / 4294967296 % 256) (n / 16777216 % 256) (n / 65536 % 256) (n / 256 % 256) (n % 256)
    (digit_7 n) (digit_6 n) (digit_5 n) (digit_4 n) (digit_3 n) (digit_2 n) (digit_1 n)
  where
    from : (a b c d e f g n p q r s t u v : ℕ) → a * 256 + p ≡ b → b * 256 + q ≡ c → c * 256 + r ≡ d → d * 256 + s ≡ e → e * 256 + t ≡ f → f * 256 + u ≡ g → g * 256 + v ≡ n
        → four_of a p q r * 4294967296 + four_of s t u v ≡ n
    from a b c d e f g n p q r s t u v x₁ x₂ x₃ x₄ x₅ x₆ x₇ = omega arith

pub replay_back : (r : Replay) → replay_of (bytes_of r) ≡ r
unfolding replay_of bytes_of line_in
replay_back r = rw (phase_back r.phase, line_back r.line, two_back r.left, two_back r.size, two_back r.window) refl

-- A host of the crate's turns, and the C call on the bytes of its replay, on a text of which it has come to a place.
module _ (last : ℕ) (h : Host) (text : List ℕ) (at : ℕ) (there : at ≤ length text) (here : h.text ≡ drop at text) where
  own_length : length (bytes_of h.replay) ≡ 17
  unfolding bytes_of
  own_length = refl

  -- the answer is the turn's own, and all that is lent is left as by it
  pub same_left : SameLeft last h text at
  unfolding turn_answer_c turn_rows_c turn_store_c turn_out_c turn_said_c called
  same_left =
      let l = eq-eqb (length (bytes_of h.replay)) 17 own_length in
      let p = le-leb at (length text) there in
      let b = replay_back h.replay in
      record {
        answers = rw (l, p, b, here) refl;
        rows = rw (l, p, b, here) refl;
        store = rw (l, p, b, here) refl;
        out = rw (l, p, b) refl;
        buffer = rw (l, p, b, here) refl;
      }

  -- and where it is 0, the state, the place and what is printed are its own too
  pub same_done : (answer (last_c last) h).answer ≡ 0 → SameDone last h text at
  unfolding turn_answer_c turn_state_c turn_at_c turn_written_c turn_said_c called
  same_done z =
      let l = eq-eqb (length (bytes_of h.replay)) 17 own_length in
      let p = le-leb at (length text) there in
      let b = replay_back h.replay in
      let y = rw here at z in
      record {
        state = rw (l, p, b, y, here) refl;
        text_left = rw (l, p, b, y, here) (sym (drop-drop _ at text));
        printed = λ given. rw (l, p, b, y, here) refl;
      }
