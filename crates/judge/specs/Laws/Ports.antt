-- What is seen of one port, as facts.
use Rattle.std.specs.Prelude.{◌≡◌, refl, Bool, true, false, not, ◌&&◌, ◌||◌, eqb}
use Rattle.std.specs.Bool.{beq}
use Rattle.std.proofs.Math.Bool.{and-false}
use Rattle.std.proofs.lemmas.Bool.{not-false}
use Rattle.ground.specs.Truth.{and-true, and_left, and_right, or_left, or_right}
use Rattle.packet.specs.Words.{NORM, EOS, FIXED, DNU}
use Rattle.judge.specs.declared.seen.Seen.{Seen}
use Rattle.judge.specs.Seen.{active_seen, eos_seen, lacking_seen, numbered_seen, refused_seen}

pub active_numbered : (p : Seen) → active_seen p ≡ true → numbered_seen p ≡ true
active_numbered p e =
    and-true (p.whole && p.good) _ (and_left (p.whole && p.good) (eqb p.word NORM || eqb p.word EOS || eqb p.word FIXED) e)
    (or_left (eqb p.word NORM || eqb p.word EOS || eqb p.word FIXED) (eqb p.word DNU) (and_right (p.whole && p.good) (eqb p.word NORM || eqb p.word EOS || eqb p.word FIXED) e))

pub eos_active : (p : Seen) → eos_seen p ≡ true → active_seen p ≡ true
eos_active p e =
    and-true (p.whole && p.good) _ (and_left (p.whole && p.good) (eqb p.word EOS) e)
    (or_left (eqb p.word NORM || eqb p.word EOS) (eqb p.word FIXED)
    (or_right (eqb p.word NORM) (eqb p.word EOS) (and_right (p.whole && p.good) (eqb p.word EOS) e)))

pub good_accepted : (p : Seen) → p.good ≡ true → refused_seen p ≡ false
good_accepted p e = rw e (and-false p.whole)

pub accepted_good : (p : Seen) → p.whole ≡ true → refused_seen p ≡ false → p.good ≡ true
accepted_good p w e = not-false p.good (rw w at e)

pub here_lacks : (p : Seen) → (active_seen p ≡ true → p.here ≡ true) → lacking_seen p ≡ false
here_lacks p h = go (active_seen p) refl
  where
    go : (b : Bool) → active_seen p ≡ b → (b && not p.here) ≡ false
    go true e = rw (h e)
    go false e = refl

pub lacks_here : (p : Seen) → lacking_seen p ≡ false → active_seen p ≡ true → p.here ≡ true
lacks_here p e a = not-false p.here (rw a at e)

pub same_true : (b c : Bool) → b ≡ c → beq b c ≡ true
same_true true c e = rw (← e)
same_true false c e = rw (← e)
