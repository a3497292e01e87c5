-- The OK is the port's own: the reply that makes the slot active speaks of a holder of the number, and no other port is one.
use Rattle.std.specs.Prelude.{◌≡◌, ◌≢◌, false, ℕ, suc, ◌+◌, ◌-◌, ◌≤◌, ◌<◌, eqb}
use Rattle.std.proofs.Common.{sym, ap, subst, ◌∙◌, ⊎_elim, true≢false, arith}
use Rattle.std.proofs.lemmas.Bool.{not-false}
use Rattle.ground.specs.Truth.{eq_or_ne, le_or_lt}
use Rattle.packet.specs.Kinds.{fixed_kind, mst_fails}
use Rattle.packet.specs.Mst.{Spoken}
use Rattle.reply.specs.Members.{ok_state}
use Rattle.reply.specs.Theorems.States.{Holder}
use Rattle.reply.specs.Waiting.{standing_at}
use Rattle.sender.specs.Table.{is_active}
use Rattle.sure_add.specs.Own.{OwnOk, NumberFree, own}
use Rattle.sure_add.specs.Proofs.Over.{Come, come, holder_ok, kind_of_lem, mst_then}
use Rattle.sure_add.specs.Rounds.{Asked, Path, Rounds, number_of, ports, seen}
use Rattle.sure_add.specs.Within.{bound}

module _ (r : Rounds) (a b slot port restore : ℕ) (lcas : eqb r.kind fixed_kind ≡ false) (path : Path r a b slot port (bound r.kind a b restore)) (asked : Asked r a slot port restore (bound r.kind a b restore))
    (o : NumberFree r a b slot port (bound r.kind a b restore)) where
  abbrev most : ℕ
  most = bound r.kind a b restore

  c : Come r a b slot port restore lcas path asked (bound r.kind a b restore)
  c = come r a b slot port restore lcas path asked

  spoken : Spoken r.kind (number_of r c.last) (own r a b slot port most)
  spoken = subst (λ (n : ℕ). Spoken n (number_of r c.last) (own r a b slot port most)) (kind_of_lem r a b slot port restore lcas path asked c.last) c.comes.spoken

  -- it was none that was under way
  late : a + 2 + b ≤ c.last
  late =
      ⊎_elim (λ (h : a + 2 + b ≤ c.last). h) (λ (h : c.last < a + 2 + b). absurd (true≢false (sym (o.none_under_way c.last h c.given spoken) ∙ c.comes.ok))) (le_or_lt (a + 2 + b) c.last)

  abbrev k : ℕ
  k = c.last - b

  from : a + 2 ≤ k
  from = let l = late in omega arith

  to : k ≤ most
  to = let l = c.by in omega arith

  holder : Holder (seen r k) (ports r k) (own r a b slot port most)
  holder =
      let l = late in
      let y = c.by in
      let is : c.last - b + b ≡ c.last = omega arith in
      holder_ok r a b slot port restore lcas path asked k from to (own r a b slot port most)
      (not-false _
      (sym (mst_then r a b slot port restore lcas path asked k from to (omega arith) (number_of r c.last) (own r a b slot port most) (ap (number_of r) is) spoken)
      ∙ ap (λ (n : ℕ). mst_fails (r.mst n) (own r a b slot port most)) is
      ∙ c.comes.ok))

  its_own : holder.at ≡ port
  its_own = ⊎_elim (λ (e : holder.at ≡ port). e) (λ (d : holder.at ≢ port). absurd (o.alone k holder.at from to holder.below d holder.ok holder.same)) (eq_or_ne holder.at port)

  pub owns : OwnOk r a b slot port most
  owns =
      record {
        at = suc c.last;
        within = c.by;
        active = ap is_active c.comes.active;
        not_before = λ j h. ap is_active (c.pending j (omega arith)).add;
        report = k;
        is = let l = late in omega arith;
        from = from;
        ok = subst (λ (p : ℕ). (standing_at (seen r k) (ports r k) p).state ≡ ok_state) its_own holder.ok;
        under = subst (λ (p : ℕ). (standing_at (seen r k) (ports r k) p).number ≡ own r a b slot port most) its_own holder.same;
      }
