-- A port after all of its rows, or its step and its marks, were put.
use Rattle.std.specs.Prelude.{◌≡◌, ◌≢◌, List, [], ℕ, ◌≤◌, ◌<◌, get_or, length}
use Rattle.std.proofs.Common.{◌∙◌, ap}
use Rattle.rows.specs.declared.member.Member.{Member}
use Rattle.rows.specs.declared.step.Step.{Step}
use Rattle.rows.specs.Laws.Port.{length_put, port_put, port_put_other}
use Rattle.rows.specs.Member.{put_member}
use Rattle.rows.specs.Packets.{put_marks, put_packets}
use Rattle.rows.specs.Part.{TheMarks, TheMember, ThePackets, TheStep}
use Rattle.rows.specs.Port.{Port, port_at, with_marks, with_packets, with_step}
use Rattle.rows.specs.Rows.{rows_for}
use Rattle.rows.specs.Step.{put_step}

module _ (s : List (List ℕ)) (i : ℕ) (m : Member) (pair : List (List ℕ)) (q : Step) (row : List ℕ) where
  abbrev pub put_all : List (List ℕ)
  put_all = put_marks (put_step (put_packets (put_member s i m) i pair) i q) i row

  pub port_put_all : (n : ℕ) → i < n → rows_for n ≤ length s
      → port_at put_all i ≡ record { step = q; member = m; gathering = get_or pair 0 []; ruling = get_or pair 1 []; marks = row }
  port_put_all n b h =
      let a = put_member s i m in
      let la : length a ≡ length s = length_put s i (TheMember m) in
      let c = put_packets a i pair in
      let lc : length c ≡ length s = length_put a i (ThePackets pair) ∙ la in
      let d = put_step c i q in
      let ld : length d ≡ length s = length_put c i (TheStep q) ∙ lc in
      port_put d i (TheMarks row) n b (rw ld h)
      ∙ ap (λ (p : Port). with_marks p row) (port_put c i (TheStep q) n b (rw lc h))
      ∙ ap (λ (p : Port). with_marks (with_step p q) row) (port_put a i (ThePackets pair) n b (rw la h))
      ∙ ap (λ (p : Port). with_marks (with_step (with_packets p pair) q) row) (port_put s i (TheMember m) n b h)

  pub port_put_all_other : (j : ℕ) → j ≢ i → port_at put_all j ≡ port_at s j
  port_put_all_other j d =
      port_put_other (put_step (put_packets (put_member s i m) i pair) i q) i (TheMarks row) j d
      ∙ port_put_other (put_packets (put_member s i m) i pair) i (TheStep q) j d
      ∙ port_put_other (put_member s i m) i (ThePackets pair) j d
      ∙ port_put_other s i (TheMember m) j d

module _ (s : List (List ℕ)) (i : ℕ) (q : Step) (row : List ℕ) where
  abbrev pub put_two : List (List ℕ)
  put_two = put_marks (put_step s i q) i row

  pub port_put_two : (n : ℕ) → i < n → rows_for n ≤ length s → port_at put_two i ≡ with_marks (with_step (port_at s i) q) row
  port_put_two n b h =
      port_put (put_step s i q) i (TheMarks row) n b (rw (length_put s i (TheStep q)) h) ∙ ap (λ (p : Port). with_marks p row) (port_put s i (TheStep q) n b h)

  pub port_put_two_other : (j : ℕ) → j ≢ i → port_at put_two j ≡ port_at s j
  port_put_two_other j d = port_put_other (put_step s i q) i (TheMarks row) j d ∙ port_put_other s i (TheStep q) j d
