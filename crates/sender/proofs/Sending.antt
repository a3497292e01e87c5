-- The payload of a slot, as the definitions have it.
use Rattle.std.specs.Prelude.{◌≡◌, refl, true, false, List, ℕ, ◌<◌, length, Result, Err}
use Rattle.std.proofs.Common.{◌∙◌, ap, lt-ltb}
use Rattle.packet.specs.Kinds.{payload_right}
use Rattle.payload.specs.declared.answer.Answer as P
use Rattle.payload.specs.Spreading.{one_answer, spread_one}
use Rattle.sender.specs.declared.epochs.Sender.{Sender}
use Rattle.sender.specs.declared.refusals.Refusal.{Refusal}
use Rattle.sender.specs.Answers.{only_told}
use Rattle.sender.specs.Epochs.{payload_answer, payload_bytes, rank_in, x_of}
use Rattle.sender.specs.Outcomes.{spread_early, spread_told}
use Rattle.sender.specs.Ranks.{carriers_in, rank_at}
use Rattle.sender.specs.Table.{slot_count}

module _ (s : Sender) (i p : ℕ) (frame member : List ℕ) {n : ℕ} (e : n ≡ slot_count s.table.count) (h : i < n) (own : payload_right s.table.kind p ≡ true) {x : ℕ} (ex : x ≡ x_of s) {a : P.Answer} (ea : a ≡ one_answer x p (length frame) (length member)) where
  pub payload_early : {r : Refusal} → s.begun ≡ false → Err r ≡ only_told (spread_early a)
      → (Err r ≡ only_told (payload_answer s i p (length frame) (length member))) × (member ≡ payload_bytes s i p frame member)
  unfolding payload_answer payload_bytes
  payload_early b er = rw (← e, lt-ltb i n h, own, b) (er ∙ ap (λ (y : P.Answer). only_told (spread_early y)) (ea ∙ ap (λ (y : ℕ). one_answer y p (length frame) (length member)) ex), refl)

  pub payload_sent_lem : {rank : ℕ} {r : Result (Unit {0}) Refusal} {out : List ℕ} → s.begun ≡ true → rank ≡ rank_in s i → out ≡ spread_one x p rank frame member → r ≡ only_told (spread_told a)
      → (r ≡ only_told (payload_answer s i p (length frame) (length member))) × (out ≡ payload_bytes s i p frame member)
  unfolding payload_answer payload_bytes
  payload_sent_lem b k eo er =
      rw (← e, lt-ltb i n h, own, b) (er ∙ ap (λ (y : P.Answer). only_told (spread_told y)) (ea ∙ ap (λ (y : ℕ). one_answer y p (length frame) (length member)) ex), eo ∙ rw (ex, k) refl)

pub x_is : (s : Sender) {n x : ℕ} → n ≡ slot_count s.ruling.count → x ≡ carriers_in s.ruling.rows n → x ≡ x_of s
x_is s e h = h ∙ rw e refl

pub rank_is : (s : Sender) (i : ℕ) {n r : ℕ} → n ≡ slot_count s.ruling.count → r ≡ rank_at s.ruling.rows n i → r ≡ rank_in s i
rank_is s i e h = h ∙ rw e refl
