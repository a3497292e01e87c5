-- Ports and the group after a port's rows were changed by a frame.
use Rattle.std.specs.Prelude.{◌≡◌, ◌≢◌, Bool, true, false, cond, ℕ, ◌≤◌, ◌<◌, get_or}
use Rattle.std.proofs.Math.Path.{refl, ap}
use Rattle.std.proofs.Common.{◌∙◌, ⊎_elim}
use mathlib.Core.List.{List, [], ◌∷◌}
use Rattle.std.proofs.Math.ListN.{length}
use Rattle.ground.specs.Truth.{eq_or_ne}
use Rattle.packet.specs.Kinds.{place_of}
use Rattle.packet.specs.Symbols.{with_symbol}
use Rattle.receiver.specs.Frame.{gathered_by, marks_by, own_tag, port_rows}
use Rattle.rows.specs.Group.{group_at}
use Rattle.rows.specs.Laws.Port.{group_put, length_put, port_put, port_put_other}
use Rattle.rows.specs.Packets.{marks_at, packets_at, put_packets}
use Rattle.rows.specs.Part.{TheMarks, ThePackets, TheStep}
use Rattle.rows.specs.Port.{Port, port_at, with_marks, with_packets}
use Rattle.rows.specs.Rows.{rows_for}
use Rattle.rows.specs.Step.{put_step, step_at}
use Rattle.step.specs.declared.arrival.Taken.{Taken}

-- a port after a frame of its own
abbrev pub frame_on : ℕ → Port → Taken → ℕ → Port
frame_on kind p t h =
    record {
      step = t.step;
      member = p.member;
      gathering = get_or (gathered_by kind (p.gathering ∷ p.ruling ∷ []) t.counted (own_tag kind t) h) 0 [];
      ruling = p.ruling;
      marks = marks_by kind p.marks t;
    }

ruling_stays : (kind : ℕ) (a b : List ℕ) (counted : Bool) (tag h : ℕ) → get_or (gathered_by kind (a ∷ b ∷ []) counted tag h) 1 [] ≡ b
unfolding gathered_by
ruling_stays kind a b true tag h = refl
ruling_stays kind a b false tag h = refl

-- a counted frame's symbol goes to the place of its own tag
gathers : (kind : ℕ) (a b : List ℕ) (counted : Bool) (tag h : ℕ) → get_or (gathered_by kind (a ∷ b ∷ []) counted tag h) 0 [] ≡ cond counted (with_symbol kind a (place_of kind tag) h) a
unfolding gathered_by
gathers kind a b true tag h = refl
gathers kind a b false tag h = refl

module _ (kind : ℕ) (s : List (List ℕ)) (i : ℕ) (t : Taken) (h : ℕ) where
  pub length_frame : length (port_rows kind s i t h) ≡ length s
  unfolding port_rows
  length_frame = length_put _ i (TheMarks _) ∙ length_put _ i (ThePackets _) ∙ length_put s i (TheStep t.step)

  pub frame_group : group_at (port_rows kind s i t h) ≡ group_at s
  unfolding port_rows
  frame_group = group_put _ i (TheMarks _) ∙ group_put _ i (ThePackets _) ∙ group_put s i (TheStep t.step)

  pub frame_port : (n : ℕ) → i < n → rows_for n ≤ length s → port_at (port_rows kind s i t h) i ≡ frame_on kind (port_at s i) t h
  unfolding port_rows port_at packets_at
  frame_port n b l =
      let pair : List (List ℕ) = gathered_by kind (packets_at s i) t.counted (own_tag kind t) h in
      let a : List (List ℕ) = put_step s i t.step in
      let la : length a ≡ length s = length_put s i (TheStep t.step) in
      let c : List (List ℕ) = put_packets a i pair in
      let lc : length c ≡ length s = length_put a i (ThePackets pair) ∙ la in
      port_put c i (TheMarks (marks_by kind (marks_at s i) t)) n b (rw lc l)
      ∙ ap (λ (p : Port). with_marks p (marks_by kind (marks_at s i) t)) (port_put a i (ThePackets pair) n b (rw la l))
      ∙ ap (λ (p : Port). with_marks (with_packets p pair) (marks_by kind (marks_at s i) t)) (port_put s i (TheStep t.step) n b l)
      ∙ rw (ruling_stays kind _ _ t.counted (own_tag kind t) h) refl

  pub frame_other : (j : ℕ) → j ≢ i → port_at (port_rows kind s i t h) j ≡ port_at s j
  unfolding port_rows
  frame_other j d = port_put_other _ i (TheMarks _) j d ∙ port_put_other _ i (ThePackets _) j d ∙ port_put_other s i (TheStep t.step) j d

  -- the same of single rows
  pub frame_step : (n : ℕ) → i < n → rows_for n ≤ length s → step_at (port_rows kind s i t h) i ≡ t.step
  unfolding port_at
  frame_step n b l = ap (λ (p : Port). p.step) (frame_port n b l)

  pub frame_step_other : (j : ℕ) → j ≢ i → step_at (port_rows kind s i t h) j ≡ step_at s j
  unfolding port_at
  frame_step_other j d = ap (λ (p : Port). p.step) (frame_other j d)

  pub frame_marks : (n : ℕ) → i < n → rows_for n ≤ length s → marks_at (port_rows kind s i t h) i ≡ marks_by kind (marks_at s i) t
  unfolding port_at
  frame_marks n b l = ap (λ (p : Port). p.marks) (frame_port n b l)

  pub frame_marks_other : (j : ℕ) → j ≢ i → marks_at (port_rows kind s i t h) j ≡ marks_at s j
  unfolding port_at
  frame_marks_other j d = ap (λ (p : Port). p.marks) (frame_other j d)

  -- the packet being gathered
  pub frame_gathering : (n : ℕ) → i < n → rows_for n ≤ length s
      → (port_at (port_rows kind s i t h) i).gathering ≡ cond t.counted (with_symbol kind (port_at s i).gathering (place_of kind (own_tag kind t)) h) (port_at s i).gathering
  frame_gathering n b l = ap (λ (p : Port). p.gathering) (frame_port n b l) ∙ gathers kind (port_at s i).gathering (port_at s i).ruling t.counted (own_tag kind t) h

  -- no frame changes which packet rules
  pub frame_ruling : (n : ℕ) → i < n → rows_for n ≤ length s → (j : ℕ) → (port_at (port_rows kind s i t h) j).ruling ≡ (port_at s j).ruling
  frame_ruling n b l j =
      ⊎_elim (λ (e : j ≡ i). rw (e, frame_port n b l) refl) (λ (d : j ≢ i). rw (frame_other j d) refl) (eq_or_ne j i)
