-- 'client streams that differ in an epoch reported sure never come out alike': the bytes of a sure report determine the client's group frames.
use Rattle.std.specs.Prelude.{◌≡◌, refl, ◌⊎◌, ◌≢◌, Bool, true, false, cond, List, [], ◌∷◌, ℕ, zero, suc, ◌+◌, ◌*◌, ◌≤◌, ◌<◌, length}
use Rattle.std.proofs.Common.{◌∙◌, sym, ap, ⊎_elim, suc-mul, zero-mul, arith, length-append, ne_eqb}
use Rattle.ground.specs.Truth.{eq_or_ne}
use Rattle.judge.specs.Verdict.{HELD, SURE}
use Rattle.packet.specs.Kinds.{frames}
use Rattle.packet.specs.Laws.Epochs.{epoch_in, frames_cancel}
use Rattle.link.specs.Proofs.Laws.Lists.{append_apart, not_apart}
use Rattle.link.specs.Link.{Alike, AssumedOver, Link, SameIn, all_as_sent, client_bytes, epoch_frames, expected, frames_of, kind_of}
use Rattle.link.specs.Road.{Below, times}
use Rattle.link.specs.Sending.{Client}
use Rattle.link.specs.Told.{SaySame}

-- every one of n group frames from position x on has w bytes
abbrev Wide : Client → ℕ → ℕ → ℕ → Type 0
Wide client x n w = (m : ℕ) → m < n → length (client (x + m)) ≡ w

length_frames : (client : Client) (x n w : ℕ) → Wide client x n w → length (frames_of client x n) ≡ n * w
unfolding frames_of
length_frames client x zero w l = sym (zero-mul w)
length_frames client x (suc n) w l =
    let front = length_frames client x n w (λ m b. l m (omega arith)) in
    let last = l n (omega arith) in
    let sum : suc n * w ≡ n * w + w = suc-mul n w in
    length-append (frames_of client x n) (client (x + n)) ∙ (omega arith)

frames_apart : (c d : Client) (x n w : ℕ) → Wide c x n w → Wide d x n w → frames_of c x n ≡ frames_of d x n → (m : ℕ) → m < n → c (x + m) ≡ d (x + m)
unfolding frames_of
frames_apart c d x zero w lc ld e m b = absurd (omega arith)
frames_apart c d x (suc n) w lc ld e m b =
    let rest = frames_apart c d x n w (λ q l. lc q (omega arith)) (λ q l. ld q (omega arith)) in
    let same =
    append_apart (frames_of c x n) (frames_of d x n) (c (x + n)) (d (x + n))
    (length_frames c x n w (λ q l. lc q (omega arith)) ∙ sym (length_frames d x n w (λ q l. ld q (omega arith)))) e in
    ⊎_elim (λ (z : m ≡ n). rw z same.1) (λ (z : m ≢ n). rest same.0 m (omega arith)) (eq_or_ne m n)

sure_sent : (b : Bool) → ◌≡◌ {A = ℕ} (cond b SURE HELD) SURE → b ≡ true
sure_sent true e = refl
sure_sent false e = absurd (omega arith)

-- what a sure report to come brings
sure_bytes : (k : Link) (i : ℕ) (out : List ℕ) → (expected k i out).mark ≡ SURE → (expected k i out).bytes ≡ client_bytes k (suc i)
unfolding expected
sure_bytes k i out e = rw (sure_sent (all_as_sent k i) e) refl

-- a group frame's bytes, at the places of an epoch
wide_in : (k : Link) → AssumedOver k → (i kind : ℕ) → kind_of k ≡ kind → Wide k.client (i * frames kind) (frames kind) (k.sending.x i * k.payload)
wide_in k a i kind e m b =
    a.lines.client (i * frames kind + m)
    ∙ ap (λ (q : ℕ). k.sending.x q * k.payload) (rw e (epoch_in kind i m b))

module _ (k j : Link) (ak : AssumedOver k) (aj : AssumedOver j) (l : Alike k j) where
  bytes_apart : (i : ℕ) → client_bytes k i ≡ client_bytes j i → SameIn i k j
  bytes_apart i e =
      let kind : ℕ = kind_of k in
      let there : client_bytes j i ≡ frames_of j.client (i * epoch_frames k) (epoch_frames k) = ap (λ (q : ℕ). frames_of j.client (i * frames q) (frames q)) (sym l.kind) in
      let wk = wide_in k ak i kind refl in
      let wj = wide_in j aj i kind (sym l.kind) in
      let lk = length_frames k.client (i * epoch_frames k) (epoch_frames k) (k.sending.x i * k.payload) wk in
      let lj = length_frames j.client (i * epoch_frames k) (epoch_frames k) (j.sending.x i * j.payload) wj in
      let w : k.sending.x i * k.payload ≡ j.sending.x i * j.payload = frames_cancel kind _ _ (sym lk ∙ ap length (e ∙ there) ∙ lj) in
      frames_apart k.client j.client (i * epoch_frames k) (epoch_frames k) (k.sending.x i * k.payload) wk (λ m b. wj m b ∙ sym w) (e ∙ there)

  -- where the report of epoch i + 1 is sure on one link or on the other and both say the same, the client's frames of that epoch are the same
  pub apart : (i : ℕ) (out other : List ℕ) → ((expected k i out).mark ≡ SURE) ⊎ ((expected j i other).mark ≡ SURE) → SaySame (expected k i out) (expected j i other) → SameIn (suc i) k j
  apart i out other s same =
      let sure : (expected k i out).mark ≡ SURE = ⊎_elim (λ (o : (expected k i out).mark ≡ SURE). o) (λ (o : (expected j i other).mark ≡ SURE). same.0 ∙ o) s in
      bytes_apart (suc i) (sym (sure_bytes k i out sure) ∙ same.1 ∙ sure_bytes j i other (sym same.0 ∙ sure))

-- Port orders tell how many ports there are.
times_none : (n p : ℕ) (ps : List ℕ) → n ≤ p → Below n ps → times p ps ≡ 0
times_none n p [] h b = refl
times_none n p (q ∷ ps) h b = let l = b.0 in rw (ne_eqb p q (λ (e : p ≡ q). omega arith), times_none n p ps h b.1) refl

fewer_not : (k j : Link) → AssumedOver k → AssumedOver j → k.order 0 ≡ j.order 0 → k.ports < j.ports → ⊥
fewer_not k j ak aj e h =
    let none = times_none k.ports k.ports (k.order 0) (omega arith) (ak.lines.only 0) in
    let one = aj.lines.once 0 k.ports h in
    let same : times k.ports (k.order 0) ≡ times k.ports (j.order 0) = ap (times k.ports) e in
    omega arith

pub same_ports : (k j : Link) → AssumedOver k → AssumedOver j → Alike k j → k.ports ≡ j.ports
same_ports k j ak aj l =
    not_apart k.ports j.ports (fewer_not k j ak aj (l.order 0)) (fewer_not j k aj ak (sym (l.order 0)))
