-- By the table of shares (request 2026-02) an epoch is passed as 01 says.
use Rattle.std.specs.Prelude.{◌≡◌, length}
use Rattle.std.proofs.Math.Path.{refl, ap}
use Rattle.std.proofs.Common.{◌∙◌, arith}
use mathlib.Core.List.{List}
use Prim.Native.Nat.{ℕ, zero, suc, ◌≤◌}
use Rattle.packet.specs.Shares.{shares_of}
use Rattle.packet.specs.Theorems.Symbols.{length_row}
use Rattle.packet.specs.declared.ruling.Ruling.{Ruling}
use Rattle.rows.specs.Group.{put_group}
use Rattle.rows.specs.Laws.Port.{length_put}
use Rattle.rows.specs.Part.{TheMarks, TheMember, ThePackets, TheStep}
use Rattle.rows.specs.declared.group.Group.{Group}
use Rattle.step.specs.Theorems.ByTable.{own_ruling_with_lem}
use Rattle.store.specs.Frames.{packet_in}
use Rattle.phases.specs.ByTable.{passed_port_with, passed_ports_with, passed_with}
use Rattle.phases.specs.Passing.{passed_group, passed_of, passed_port, passed_port_by, passed_ports}

pub length_passed_ports_with : (table : List (List ℕ)) (g : Group) (store : List ℕ) (n : ℕ) (s : List (List ℕ)) → length (passed_ports_with table g store n s) ≡ length s
unfolding passed_ports_with passed_port_with
length_passed_ports_with table g store zero s = refl
length_passed_ports_with table g store (suc n) s =
    length_put _ n (TheMarks _)
    ∙ length_put _ n (TheStep _)
    ∙ length_put _ n (ThePackets _)
    ∙ length_put (passed_ports_with table g store n s) n (TheMember _)
    ∙ length_passed_ports_with table g store n s

whole_packet : (g : Group) (i : ℕ) (store : List ℕ) → 14 ≤ length (packet_in g i store)
unfolding packet_in
whole_packet g i store = let l : length (packet_in g i store) ≡ 16 = length_row g.kind _ in omega arith

module _ {table : List (List ℕ)} (right : table ≡ shares_of) (g : Group) (store : List ℕ) where
  port_with : (i : ℕ) (s : List (List ℕ)) → passed_port_with table g store i s ≡ passed_port g store i s
  unfolding passed_port_with passed_port
  port_with i s = ap (λ (r : Ruling). passed_port_by r g store i s) (own_ruling_with_lem right g.kind g.oldest (packet_in g i store) (whole_packet g i store))

  ports_with_lem : (n : ℕ) (s : List (List ℕ)) → passed_ports_with table g store n s ≡ passed_ports g store n s
  unfolding passed_ports_with passed_ports
  ports_with_lem zero s = refl
  ports_with_lem (suc n) s = port_with n (passed_ports_with table g store n s) ∙ ap (λ (t : List (List ℕ)). passed_port g store n t) (ports_with_lem n s)

  pub passed_with_lem : (n : ℕ) (s : List (List ℕ)) → passed_with table g store n s ≡ passed_of g store n s
  unfolding passed_with passed_of
  passed_with_lem n s = ap (λ (t : List (List ℕ)). put_group t (passed_group g)) (ports_with_lem n s)
