-- A flagged frame on every port: what each does where no frame is refused, and that none is.
use Rattle.std.specs.Prelude.{◌≡◌, Bool, not, ◌&&◌, eqb, replicate}
use Rattle.std.proofs.Math.Path.{refl, ap}
use Rattle.std.proofs.Common.{sym, ◌∙◌, arith, eq-eqb, eqb-true}
use Rattle.std.proofs.Math.Bool.{true, false}
use mathlib.Core.List.{List}
use Prim.Native.Nat.{ℕ, zero, suc, ◌≤◌, ◌<◌}
use Rattle.std.proofs.Math.ListN.{length}
use Rattle.std.proofs.lemmas.List.{length-replicate}
use Rattle.ground.specs.Truth.{and_left, and_right, cond_by}
use Rattle.phases.specs.Due.{brought}
use Rattle.phases.specs.Laws.Lengths.{length_begin, length_passed, length_stop}
use Rattle.phases.specs.Laws.Sizes.{SameSizes, settled_sizes, sizes_stay, sizes_then}
use Rattle.phases.specs.Passing.{passed_of}
use Rattle.phases.specs.Settling.{begin_by, gather_by, settled_of, stop_by}
use Rattle.phases.specs.Sizes.{ports_in, store_for}
use Rattle.receiver.specs.Anew.{anew_fits, flagged_rows}
use Rattle.receiver.specs.Frame.{frame_of, frame_refusal, gathered_by, port_rows, settled_by, store_by, taken_frame}
use Rattle.receiver.specs.Laws.Answers.{fit_rows, fitting_none}
use Rattle.receiver.specs.Laws.Frames.{frame_group, length_frame}
use Rattle.receiver.specs.Lengths.{rows_fit}
use Rattle.rows.specs.declared.group.Group.{Group}
use Rattle.rows.specs.Group.{group_at}
use Rattle.rows.specs.Rows.{rows_for}
use Rattle.rows.specs.Step.{step_at}
use Rattle.step.specs.Arrival.{flagged, flag_of, taken_of}

-- the rows after a flagged frame that is not refused
unfoldable pub flagged_port : (store : List ℕ) (i : ℕ) (s : List (List ℕ)) → List (List ℕ)
flagged_port store i s =
    let t = taken_of (group_at s) (step_at s i) true false 0 in
    settled_by t.settles (ports_in (group_at s)) store (port_rows (group_at s).kind s i t 0)

unfoldable pub flagged_ports : (store : List ℕ) (n : ℕ) (s : List (List ℕ)) → List (List ℕ)
flagged_ports store zero s = s
flagged_ports store (suc n) s = flagged_port store n (flagged_ports store n s)

length_settled : (n : ℕ) (store : List ℕ) (s : List (List ℕ)) → length (settled_of n store s) ≡ length s
unfolding settled_of gather_by
length_settled n store s =
    let a = stop_by (group_at s) n s in
    let b = begin_by (group_at a) n a in
    cond_by (λ t. length t ≡ length b) (flag_of (group_at b).begun && not (flag_of (group_at b).gathered) && brought (group_at b) b n) (passed_of (group_at b) store n b) b (λ e. length_passed (group_at b) store n b) (λ e. refl)
    ∙ length_begin (group_at a) n a
    ∙ length_stop (group_at s) n s

module _ (store : List ℕ) where
  pub length_flagged_port : (i : ℕ) (s : List (List ℕ)) → length (flagged_port store i s) ≡ length s
  unfolding flagged_port settled_by
  length_flagged_port i s =
      let t = taken_of (group_at s) (step_at s i) true false 0 in
      let r = port_rows (group_at s).kind s i t 0 in
      let l : length r ≡ length s = length_frame (group_at s).kind s i t 0 in
      cond_by (λ q. length q ≡ length s) t.settles (settled_of (ports_in (group_at s)) store r) r (λ e. length_settled (ports_in (group_at s)) store r ∙ l) (λ e. l)

  pub length_flagged_ports : (n : ℕ) (s : List (List ℕ)) → length (flagged_ports store n s) ≡ length s
  unfolding flagged_ports
  length_flagged_ports zero s = refl
  length_flagged_ports (suc n) s = length_flagged_port n (flagged_ports store n s) ∙ length_flagged_ports n s

  flagged_sizes : (i : ℕ) (s : List (List ℕ)) → 0 < length s → SameSizes (group_at (flagged_port store i s)) (group_at s)
  unfolding flagged_port settled_by
  flagged_sizes i s h =
      let t = taken_of (group_at s) (step_at s i) true false 0 in
      let r = port_rows (group_at s).kind s i t 0 in
      let l : length r ≡ length s = length_frame (group_at s).kind s i t 0 in
      let e : group_at r ≡ group_at s = frame_group (group_at s).kind s i t 0 in
      cond_by (λ q. SameSizes (group_at q) (group_at s)) t.settles (settled_of (ports_in (group_at s)) store r) r
      (λ w. rw e at (settled_sizes (ports_in (group_at s)) store r (rw l h)))
      (λ w. rw e (sizes_stay (group_at s)))

  pub ports_sizes : (n : ℕ) (s : List (List ℕ)) → 0 < length s → SameSizes (group_at (flagged_ports store n s)) (group_at s)
  unfolding flagged_ports
  ports_sizes zero s h = sizes_stay (group_at s)
  ports_sizes (suc n) s h =
      let t = flagged_ports store n s in
      sizes_then (group_at (flagged_port store n t)) (group_at t) (group_at s) (flagged_sizes n t (rw (length_flagged_ports n s) h)) (ports_sizes n s h)

-- A flagged frame that is not refused, whatever its H4 byte and its payload.
pub flagged_frame : (s : List (List ℕ)) (i h : ℕ) (payload store : List ℕ) → frame_refusal s i (length payload) (length store) ≡ 0
    → (frame_of s i true h payload store).rows ≡ flagged_port store i s
unfolding frame_of taken_frame store_by taken_of flagged flagged_port port_rows gathered_by
flagged_frame s i h payload store e = rw (eq-eqb (frame_refusal s i (length payload) (length store)) 0 e) refl

pub same_ports : (g h : Group) → SameSizes g h → ports_in g ≡ ports_in h
unfolding ports_in
same_ports g h z = rw (z.kind, z.count, z.payload, z.window) refl

same_store : (g h : Group) (n : ℕ) → SameSizes g h → store_for g n ≡ store_for h n
unfolding store_for
same_store g h n z = rw (z.payload, z.window) refl

-- what fits
pub record AnewFits (s : List (List ℕ)) (store : List ℕ) : Type 0 where
  pub whole : 0 < ports_in (group_at s) → length s ≡ rows_for (ports_in (group_at s))
  pub stored : length store ≡ store_for (group_at s) (ports_in (group_at s))

pub anew_fits_lem : (s : List (List ℕ)) (store : List ℕ) → anew_fits (group_at s) (ports_in (group_at s)) (length s) (length store) ≡ true → AnewFits s store
unfolding anew_fits
anew_fits_lem s store e =
    let n = ports_in (group_at s) in
    let a : Bool = rows_fit n (length s) in
    let b : Bool = eqb (length store) (store_for (group_at s) n) in
    record {
      whole = λ some. fit_rows n (length s) some (and_left a b e);
      stored = eqb-true (length store) (store_for (group_at s) n) (and_right a b e);
    }

-- no flagged frame of them is refused
module _ (s : List (List ℕ)) (store : List ℕ) (o : AnewFits s store) where
  abbrev n : ℕ
  n = ports_in (group_at s)

  some_rows : (k : ℕ) → suc k ≤ n → 0 < length s
  some_rows k b = let w = o.whole (omega arith) in omega arith

  unrefused : (k : ℕ) (payload : List ℕ) → suc k ≤ n → length payload ≡ (group_at s).payload → frame_refusal (flagged_ports store k s) k (length payload) (length store) ≡ 0
  unrefused k payload b p =
      let t = flagged_ports store k s in
      let z = ports_sizes store k s (some_rows k b) in
      let l : length t ≡ length s = length_flagged_ports store k s in
      let same : ports_in (group_at t) ≡ n = same_ports (group_at t) (group_at s) z in
      rw same
      (fitting_none (group_at t) n k (length t) (length payload) (length store)
      (record {
        port = b;
        whole = l ∙ o.whole (omega arith);
        bytes = p ∙ sym z.payload;
        stored = o.stored ∙ sym (same_store (group_at t) (group_at s) n z);
      }))

  -- so they are the flagged ports
  pub flagged_rows_lem : (k : ℕ) → k ≤ n → flagged_rows (group_at s).payload store k s ≡ flagged_ports store k s
  unfolding flagged_rows flagged_ports
  flagged_rows_lem zero b = refl
  flagged_rows_lem (suc k) b =
      ap (λ (t : List (List ℕ)). (frame_of t k true 0 (replicate (group_at s).payload 0) store).rows) (flagged_rows_lem k (omega arith))
      ∙ flagged_frame (flagged_ports store k s) k 0 (replicate (group_at s).payload 0) store
      (unrefused k (replicate (group_at s).payload 0) b (length-replicate {A = ℕ} (group_at s).payload 0))
