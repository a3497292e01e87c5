-- What the host reads of a ruling packet is what a fetch judges by; and a good one that is read carries its epoch's number where the fields in its row do.
use Rattle.std.specs.Prelude.{◌≡◌, refl, Bool, true, false, cond, not, ◌&&◌, eqb, Ok, Err}
use Rattle.std.proofs.Common.{sym, ◌∙◌, arith, eqb-true}
use Rattle.std.proofs.Math.Path.{ap}
use Rattle.std.proofs.lemmas.Bool.{false≢true}
use mathlib.Core.List.{List, []}
use Prim.Native.Nat.{ℕ}
use Rattle.std.proofs.Math.ListN.{get_or}
use Rattle.ground.specs.Truth.{and_right}
use Rattle.packet.specs.declared.layout.Fields.{Fields}
use Rattle.packet.specs.declared.reader.Unread.TheVariants.{Length, Crc, Fixed, Unassigned}
use Rattle.packet.specs.declared.ruling.Ruling.{Ruling}
use Rattle.packet.specs.Reading.{read_fields, Reading}
use Rattle.packet.specs.Ruling.{fields_in, refused, ruling_by}
use Rattle.packet.specs.Words.{FIXED, assigned}
use Rattle.receiver.specs.declared.seeing.Carried.{Carried}
use Rattle.receiver.specs.Report.{ruling_epoch, seen_of}
use Rattle.receiver.specs.Seen.{carried_at, carried_by, other_at}
use Rattle.rows.specs.declared.group.Group.{Group}
use Rattle.rows.specs.Packets.{packets_at}
use Rattle.step.specs.Carried.{other_number, reading_in}
use Rattle.step.specs.Theorems.Carried.{read_as, ruled_as_read}
use Rattle.step.specs.OwnCount.{own_ruling}

abbrev judged : Bool → Reading → Ruling
judged other r = cond other refused (ruling_by r)

judged_good : (other : Bool) (r : Reading) → (judged other r).good ≡ (not other && eqb (carried_by r).answer 0)
judged_good true r = refl
judged_good false (Ok f) = refl
judged_good false (Err Length) = refl
judged_good false (Err Crc) = refl
judged_good false (Err Fixed) = refl
judged_good false (Err Unassigned) = refl

-- of a good one: word, number and GID
record Same (q : Ruling) (c : Carried) : Type 0 where
  word : q.word ≡ c.word
  number : q.number ≡ c.number
  gid : q.gid ≡ c.gid

judged_same : (other : Bool) (r : Reading) → (judged other r).good ≡ true → Same (judged other r) (carried_by r)
judged_same true r e = absurd (false≢true e)
judged_same false (Ok f) e = record { word = refl; number = refl; gid = refl }
judged_same false (Err u) e = absurd (false≢true e)

-- a packet that rules was read with 0
pub read_good : (kind epoch : ℕ) (row : List ℕ) → (own_ruling kind epoch row).good ≡ true → (carried_by (reading_in kind row)).answer ≡ 0
read_good kind epoch row e =
    let other : Bool = other_number kind epoch row in
    let good : (not other && eqb (carried_by (reading_in kind row)).answer 0) ≡ true =
    sym (judged_good other (reading_in kind row)) ∙ (rw (ruled_as_read kind epoch row) at e) in
    eqb-true (carried_by (reading_in kind row)).answer 0 (and_right (not other) (eqb (carried_by (reading_in kind row)).answer 0) good)

module _ (g : Group) (s : List (List ℕ)) (i : ℕ) where
  -- A packet is good exactly if it was read with 0 and carries no other number.
  pub seen_good : (seen_of g s i).good ≡ (not (other_at g s i) && eqb (carried_at g s i).answer 0)
  unfolding seen_of carried_at
  seen_good =
      let row : List ℕ = get_or (packets_at s i) 1 [] in
      ap (λ (q : Ruling). q.good) (ruled_as_read g.kind (ruling_epoch g) row) ∙ judged_good (other_at g s i) (reading_in g.kind row)

  same_seen : (seen_of g s i).good ≡ true → Same (judged (other_at g s i) (reading_in g.kind (get_or (packets_at s i) 1 []))) (carried_at g s i)
  unfolding seen_of carried_at
  same_seen e =
      let row : List ℕ = get_or (packets_at s i) 1 [] in
      judged_same (other_at g s i) (reading_in g.kind row) (rw (ruled_as_read g.kind (ruling_epoch g) row) at e)

  -- and then what a fetch judges by is what it carries
  pub seen_word : (seen_of g s i).good ≡ true → (seen_of g s i).word ≡ (carried_at g s i).word
  unfolding seen_of
  seen_word e = ap (λ (q : Ruling). q.word) (ruled_as_read g.kind (ruling_epoch g) (get_or (packets_at s i) 1 [])) ∙ (same_seen e).word

  pub seen_number : (seen_of g s i).good ≡ true → (seen_of g s i).number ≡ (carried_at g s i).number
  unfolding seen_of
  seen_number e = ap (λ (q : Ruling). q.number) (ruled_as_read g.kind (ruling_epoch g) (get_or (packets_at s i) 1 [])) ∙ (same_seen e).number

  pub seen_gid : (seen_of g s i).good ≡ true → (seen_of g s i).gid ≡ (carried_at g s i).gid
  unfolding seen_of
  seen_gid e = ap (λ (q : Ruling). q.gid) (ruled_as_read g.kind (ruling_epoch g) (get_or (packets_at s i) 1 [])) ∙ (same_seen e).gid

-- The number that a packet carries.

abbrev Numbered : ℕ → Reading → Type 0
Numbered epoch r = (carried_by r).answer ≡ 0 → (carried_by r).epoch ≡ epoch

fields_numbered : (f : Fields) → Numbered f.epoch (read_fields f)
fields_numbered f = go (eqb f.word.0 FIXED) (assigned f.word)
  where
    go : (a b : Bool) → Numbered f.epoch (cond a (Err Fixed) (cond b (Ok f) (Err Unassigned)))
    go true b e = absurd (omega arith)
    go false true e = refl
    go false false e = absurd (omega arith)

crc_numbered : (epoch : ℕ) → Numbered epoch (Err Crc)
crc_numbered epoch e = absurd (omega arith)

pub carried_epoch : (kind : ℕ) (row : List ℕ) → (carried_by (reading_in kind row)).answer ≡ 0 → (carried_by (reading_in kind row)).epoch ≡ (fields_in kind row).epoch
carried_epoch kind row = read_as Numbered crc_numbered (λ epoch e. absurd (omega arith)) fields_numbered (λ epoch sq e. refl) kind row
