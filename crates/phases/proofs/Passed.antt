-- A port that an epoch passes: each call's result put together.
use mathlib.Core.Path.{◌≡◌, refl, sym}
use mathlib.Core.Bool.{Bool, true, false, cond, ◌&&◌, true≢false}
use mathlib.Core.List.{List}
use Prim.Native.Nat.{ℕ}
use Rattle.packet.specs.declared.ruling.Ruling.{Ruling}
use Rattle.phases.specs.ByTable.{passed_port_with}
use Rattle.phases.specs.Passing.{noted_by, passed_step, ruled_by}
use Rattle.step.specs.ByTable.{own_ruling_with}
use Rattle.rows.specs.declared.group.Group.{Group}
use Rattle.rows.specs.declared.member.Member.{Member}
use Rattle.rows.specs.declared.step.Step.{Step}
use Rattle.rows.specs.Member.{member_at, put_member}
use Rattle.rows.specs.Packets.{marks_at, packets_at, put_marks, put_packets}
use Rattle.rows.specs.Step.{put_step, step_at}
use Rattle.store.specs.Frames.{packet_in}
use Rattle.store.specs.Marks.{first_mark, passed_marks}

pub both : (a b : Bool) (x y : ℕ) → (a && b) ≡ true → x ≡ cond a (cond b x y) y
both true true x y e = refl
both true false x y e = absurd (true≢false (sym e))
both false b x y e = absurd (true≢false (sym e))

pub not_both : (a b : Bool) (x y : ℕ) → (a && b) ≡ false → y ≡ cond a (cond b x y) y
not_both true true x y e = absurd (true≢false e)
not_both true false x y e = refl
not_both false b x y e = refl

pub passed_is : (table : List (List ℕ)) (g : Group) (store : List ℕ) (i : ℕ) (s : List (List ℕ))
    (row : List ℕ) (whole : Bool) (nibbles : List ℕ) (ruling : Ruling) (member noted : Member) (packets pair : List (List ℕ)) (step passed : Step) (left : List ℕ)
    (t u v w : List (List ℕ))
    → row ≡ marks_at s i
    → whole ≡ first_mark row
    → nibbles ≡ packet_in g i store
    → ruling ≡ own_ruling_with table g.kind g.oldest nibbles
    → member ≡ member_at s i
    → packets ≡ packets_at s i
    → step ≡ step_at s i
    → noted ≡ noted_by member whole ruling
    → pair ≡ ruled_by packets whole nibbles
    → passed ≡ passed_step step whole
    → left ≡ passed_marks row
    → t ≡ put_member s i noted
    → u ≡ put_packets t i pair
    → v ≡ put_step u i passed
    → w ≡ put_marks v i left
    → w ≡ passed_port_with table g store i s
unfolding passed_port_with
passed_is table g store i s row whole nibbles ruling member noted packets pair step passed left t u v w e-row e-whole e-nibbles e-ruling e-member e-packets e-step e-noted e-pair e-passed e-left e-t e-u e-v e-w =
    rw (e-w, e-v, e-u, e-t, e-left, e-passed, e-pair, e-noted, e-step, e-packets, e-member, e-ruling, e-nibbles, e-whole, e-row) refl
