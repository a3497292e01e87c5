-- A link of H4 computed start by start: what stands at each start, and the reply that is read then, to go back with the epochs from some number on.
use Rattle.std.specs.Prelude.{◌≡◌, ◌≢◌}
use Rattle.std.proofs.Math.Path.{refl, ap}
use Rattle.std.proofs.Common.{sym, ◌∙◌}
use Rattle.std.proofs.Math.Logic.{⊎_elim}
use mathlib.Core.List.{List, [], ◌∷◌}
use Prim.Native.Nat.{ℕ, zero, suc, ◌+◌, ◌-◌, ◌*◌, ◌%◌, ◌≤◌}
use native.Mathlib.Omega.{arith}
use Rattle.std.proofs.Math.ListN.{get_or}
use Rattle.ground.specs.Truth.{eq_or_ne}
use Rattle.packet.specs.Kinds.{epochs, frames}
use Rattle.receiver.specs.Shown.{reply_of}
use Rattle.link.specs.Link.{Link, kind_of, road_of}
use Rattle.link.specs.Road.{Road}
use Rattle.link.specs.Running.{Moment, has_begun, through, turns}
use Rattle.link.specs.Samples.Tracing.{turns_by_lem, turns_by}
use Rattle.link.specs.Sending.{epoch_number}
use Rattle.sure_add.specs.Joined.{at_start, reply_at}

-- sixteen frame times
abbrev frames16 : Road → ℕ → ℕ → Moment → Moment
frames16 r t zero m = m
frames16 r t (suc n) m = let x = frames16 r t n m in turns_by r (t + n) (r.order (t + n)) x

more : (r : Road) (m : Moment) (k : ℕ) → turns r k (r.order k) (through r k m) ≡ through r (suc k) m
unfolding through
more r m k = refl

frames_are : (r : Road) (m : Moment) (t n : ℕ) → frames16 r t n (through r t m) ≡ through r (t + n) m
frames_are r m t zero = ap (λ (k : ℕ). through r k m) (omega arith)
frames_are r m t (suc n) =
    ap (λ (x : Moment). turns_by r (t + n) (r.order (t + n)) x) (frames_are r m t n)
    ∙ sym (turns_by_lem r (t + n) (r.order (t + n)) (through r (t + n) m))
    ∙ more r m (t + n)
    ∙ ap (λ (k : ℕ). through r k m) (omega arith)

next_sixteen : (t : ℕ) → t * 16 + 16 ≡ suc t * 16
next_sixteen t = omega arith

-- the replies, the last one first
pub record Seen : Type 0 where
  pub moment : Moment
  pub replies : List (List ℕ)

module _ (k : Link) (m₀ : Moment) (first : ℕ) where
  unfoldable pub starts : ℕ → Seen
  starts zero = record { moment = m₀; replies = reply_of m₀.rows ((first + 0) % 256) ∷ [] }
  starts (suc t) = let s = starts t in let n = frames16 (road_of k) (t * 16) 16 s.moment in record { moment = n; replies = reply_of n.rows ((first + suc t) % 256) ∷ s.replies }

  starts_are : (t : ℕ) → (starts t).moment ≡ through (road_of k) (t * 16) m₀
  unfolding starts through
  starts_are zero = refl
  starts_are (suc t) =
      ap (λ (x : Moment). frames16 (road_of k) (t * 16) 16 x) (starts_are t)
      ∙ frames_are (road_of k) m₀ (t * 16) 16
      ∙ ap (λ (n : ℕ). through (road_of k) n m₀) (next_sixteen t)

  reply_of_lem : (n t : ℕ) → t ≤ n → get_or (starts n).replies (n - t) [] ≡ reply_of (starts t).moment.rows ((first + t) % 256)
  unfolding starts
  reply_of_lem zero t h = let e : t ≡ 0 = omega arith in rw e refl
  reply_of_lem (suc n) t h =
      ⊎_elim (λ (e : t ≡ suc n). (let z : suc n - suc n ≡ 0 = omega arith in rw (e, z) refl))
      (λ (d : t ≢ suc n). (let z : suc n - t ≡ suc (n - t) = omega arith in rw z (reply_of_lem n t (omega arith))))
      (eq_or_ne t (suc n))

  -- The run that is computed is the link's own.
  module _ (h4 : kind_of k ≡ 0) where
    at_start_is : (t : ℕ) → (starts t).moment ≡ at_start k m₀ t
    unfolding frames turns
    at_start_is t = starts_are t ∙ ap (λ (n : ℕ). through (road_of k) (t * frames n) m₀) (sym h4)

    pub begun_at_lem : (t : ℕ) → has_begun (starts t).moment ≡ has_begun (at_start k m₀ t)
    begun_at_lem t = ap has_begun (at_start_is t)

    pub reply_at_lem : (n : ℕ) (said : List (List ℕ)) → (starts n).replies ≡ said → (t : ℕ) → t ≤ n → get_or said (n - t) [] ≡ reply_at k m₀ t (epoch_number 0 first t)
    unfolding epoch_number epochs
    reply_at_lem n said e t h =
        ap (λ (l : List (List ℕ)). get_or l (n - t) []) (sym e)
        ∙ reply_of_lem n t h
        ∙ ap (λ (m : Moment). reply_of m.rows ((first + t) % 256)) (at_start_is t)
