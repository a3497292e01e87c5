-- What the answers of a frame and of a fetch say of ports and lengths.
use Rattle.std.specs.Prelude.{◌≡◌, refl, Bool, true, false, cond, ◌&&◌, ℕ, ◌≤◌, ◌<◌, eqb, leb, ltb}
use Rattle.std.proofs.Common.{⊎_elim, arith, eq-eqb, eqb-true, leb-true, lt-ltb, ltb-true}
use Rattle.std.proofs.Math.Bool.{or-true}
use Rattle.ground.specs.Truth.{and_left, and_right, or_cases}
use Rattle.phases.specs.Sizes.{store_for}
use Rattle.receiver.specs.Frame.{refusal_by}
use Rattle.receiver.specs.Lengths.{fetch_fits, frame_fits, output_for, report_bytes, rows_fit}
use Rattle.rows.specs.declared.group.Group.{Group}
use Rattle.rows.specs.Rows.{rows_for}

-- a frame that is neither 1 nor 9
pub record Fitting (g : Group) (n i rows payload store : ℕ) : Type 0 where
  pub port : i < n
  pub whole : rows ≡ rows_for n
  pub bytes : payload ≡ g.payload
  pub stored : store ≡ store_for g n

pub fit_rows : (n rows : ℕ) → 0 < n → rows_fit n rows ≡ true → rows ≡ rows_for n
unfolding rows_fit
fit_rows n rows b e =
    ⊎_elim (λ (z : eqb n 0 ≡ true). absurd (let w = eqb-true n 0 z in omega arith)) (λ (z : eqb rows (rows_for n) ≡ true). eqb-true rows (rows_for n) z)
    (or_cases (eqb n 0) (eqb rows (rows_for n)) e)

pub unrefused : (g : Group) (n i rows payload store : ℕ) → refusal_by g n i rows payload store ≡ 0 → Fitting g n i rows payload store
unfolding refusal_by frame_fits
unrefused g n i rows payload store e = go (ltb i n) (frame_fits g n rows payload store) refl refl e
  where
    go : (a b : Bool) → ltb i n ≡ a → frame_fits g n rows payload store ≡ b → ◌≡◌ {A = ℕ} (cond a (cond b 0 9) 1) 0 → Fitting g n i rows payload store
    go true true ea eb z =
        let f = and_left (rows_fit n rows && eqb payload g.payload) (eqb store (store_for g n)) eb in
        record {
          port = ltb-true i n ea;
          whole = fit_rows n rows (let b = ltb-true i n ea in omega arith) (and_left (rows_fit n rows) (eqb payload g.payload) f);
          bytes = eqb-true payload g.payload (and_right (rows_fit n rows) (eqb payload g.payload) f);
          stored = eqb-true store (store_for g n) (and_right (rows_fit n rows && eqb payload g.payload) (eqb store (store_for g n)) eb);
        }
    go true false ea eb z = absurd (omega arith)
    go false b ea eb z = absurd (omega arith)

pub fitting_none : (g : Group) (n i rows payload store : ℕ) → Fitting g n i rows payload store → refusal_by g n i rows payload store ≡ 0
unfolding refusal_by frame_fits rows_fit
fitting_none g n i rows payload store f =
    rw (lt-ltb i n f.port, eq-eqb rows (rows_for n) f.whole, eq-eqb payload g.payload f.bytes, eq-eqb store (store_for g n) f.stored, or-true (eqb n 0)) refl

-- a fetch that is not 9
pub record Lent (g : Group) (n rows store out : ℕ) : Type 0 where
  pub whole : 0 < n → rows ≡ rows_for n
  pub stored : store ≡ store_for g n
  pub room : output_for g n ≤ out

pub lent : (g : Group) (n rows store out report : ℕ) → fetch_fits g n rows store out report ≡ true → Lent g n rows store out
unfolding fetch_fits
lent g n rows store out report e =
    let a : Bool = rows_fit n rows in
    let b : Bool = eqb store (store_for g n) in
    let c : Bool = leb (output_for g n) out in
    let f = and_left (a && b && c) (eqb report report_bytes) e in
    record {
      whole = λ some. fit_rows n rows some (and_left a b (and_left (a && b) c f));
      stored = eqb-true store (store_for g n) (and_right a b (and_left (a && b) c f));
      room = leb-true (output_for g n) out (and_right (a && b) c f);
    }
