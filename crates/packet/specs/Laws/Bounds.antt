-- What it says that fields fit a packet.
use Rattle.std.specs.Prelude.{◌≡◌, ℕ, ◌^◌, ◌<◌, ◌≤◌, Bool, true, false, cond, not, ◌&&◌, ◌==◌, nat_lt, refl}
use Rattle.std.proofs.Common.{◌∙◌, sym, ⊎_elim, arith, ltb-true, ne_eqb}
use Rattle.std.proofs.lemmas.Bool.{false≢true, not-true}
use Rattle.ground.specs.Truth.{and_left, and_right, le_or_lt}
use Rattle.packet.specs.Bounds.{Bounds, Vc12Bounds, Within}
use Rattle.packet.specs.declared.layout.Fields.{Fields}
use Rattle.packet.specs.declared.words.Word.{Word}
use Rattle.packet.specs.Kinds.{vc12_kind}
use Rattle.packet.specs.Sent.{sent_fits}
use Rattle.packet.specs.Vc12.{vc12_fits}
use Rattle.packet.specs.Words.{FIXED, assigned}
use Rattle.packet.specs.Writing.{fits_within, fitting}

large_unassigned : (w : Word) → 16 ≤ w.0 → assigned w ≡ false
unfolding assigned
large_unassigned w h =
    rw (
      ne_eqb w.0 0 (omega arith),
      ne_eqb w.0 1 (omega arith),
      ne_eqb w.0 2 (omega arith),
      ne_eqb w.0 3 (omega arith),
      ne_eqb w.0 5 (omega arith),
      ne_eqb w.0 15 (omega arith),
    ) refl

-- a word that is assigned is a nibble
pub small_word : (w : Word) → assigned w ≡ true → w.0 < 16
small_word w a =
    ⊎_elim (λ (h : 16 ≤ w.0). absurd (false≢true (sym (large_unassigned w h) ∙ a))) (λ (h : w.0 < 16). h) (le_or_lt 16 w.0)

-- The test of the definitions is eight tests joined by `and`, from the left: each is taken off in turn.
within : (epochs numbers values : ℕ) (f : Fields) → fits_within epochs numbers values f ≡ true → Within epochs numbers values f
within epochs numbers values f t =
    let t7 = and_left (M && E && S && G && A && R && N) W t in
    let t6 = and_left (M && E && S && G && A && R) N t7 in
    let t5 = and_left (M && E && S && G && A) R t6 in
    let t4 = and_left (M && E && S && G) A t5 in
    let t3 = and_left (M && E && S) G t4 in
    let t2 = and_left (M && E) S t3 in
    record {
      epoch = ltb-true f.epoch epochs (and_right M E t2);
      mst = ltb-true f.mst 256 (and_left M E t2);
      sq = ltb-true f.sq numbers (and_right (M && E) S t3);
      gid = ltb-true f.gid 2 (and_right (M && E && S) G t4);
      ack = ltb-true f.rs_ack 2 (and_right (M && E && S && G) A t5);
      reserved = ltb-true f.reserved values (and_right (M && E && S && G && A) R t6);
      nibble = small_word f.word (and_right (M && E && S && G && A && R && N) W t);
      word = and_right (M && E && S && G && A && R && N) W t;
      not_fixed = not-true (f.word.0 == FIXED) (and_right (M && E && S && G && A && R) N t7);
    }
  where
    E : Bool
    E = nat_lt f.epoch epochs

    M : Bool
    M = nat_lt f.mst 256

    S : Bool
    S = nat_lt f.sq numbers

    G : Bool
    G = nat_lt f.gid 2

    A : Bool
    A = nat_lt f.rs_ack 2

    R : Bool
    R = nat_lt f.reserved values

    N : Bool
    N = not (f.word.0 == FIXED)

    W : Bool
    W = assigned f.word

pub bounds : (f : Fields) → fitting f ≡ true → Bounds f
unfolding fitting
bounds f t = within 256 256 (2 ^ 26) f t

pub vc12_bounds : (f : Fields) → vc12_fits f ≡ true → Vc12Bounds f
unfolding vc12_fits
vc12_bounds f t = within 32 64 16 f t

-- what fits a packet of any kind fits H4's
pub sent_bounds : (kind : ℕ) (f : Fields) → sent_fits kind f ≡ true → Bounds f
unfolding sent_fits
sent_bounds kind f = go (kind == vc12_kind)
  where
    go : (b : Bool) → cond b (vc12_fits f) (fitting f) ≡ true → Bounds f
    go true t =
        let w : Vc12Bounds f = vc12_bounds f t in
        record { epoch = omega arith; mst = w.mst; sq = omega arith; gid = w.gid; ack = w.ack; reserved = omega arith; nibble = w.nibble; word = w.word; not_fixed = w.not_fixed }
    go false t = bounds f t
