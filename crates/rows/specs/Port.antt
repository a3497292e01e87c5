-- What the five rows of a port say.
use Rattle.std.specs.Prelude.{List, [], ℕ, get_or}
use Rattle.ground.specs.Types.{Bytes, Rows}
use Rattle.rows.specs.declared.member.Member.{Member}
use Rattle.rows.specs.declared.step.Step.{Step}
use Rattle.rows.specs.Member.{member_at}
use Rattle.rows.specs.Packets.{packets_at, marks_at}
use Rattle.rows.specs.Step.{step_at}

pub record Port : Type 0 where
  pub step : Step
  pub member : Member
  pub gathering : List ℕ
  pub ruling : List ℕ
  pub marks : List ℕ

unfoldable pub port_at : Rows → ℕ → Port
port_at s i =
    record {
      step = step_at s i;
      member = member_at s i;
      gathering = get_or (packets_at s i) 0 [];
      ruling = get_or (packets_at s i) 1 [];
      marks = marks_at s i;
    }

abbrev pub with_step : Port → Step → Port
with_step p q = record { step = q; member = p.member; gathering = p.gathering; ruling = p.ruling; marks = p.marks }

abbrev pub with_member : Port → Member → Port
with_member p m = record { step = p.step; member = m; gathering = p.gathering; ruling = p.ruling; marks = p.marks }

abbrev pub with_packets : Port → List (List ℕ) → Port
with_packets p pair =
    record { step = p.step; member = p.member; gathering = get_or pair 0 []; ruling = get_or pair 1 []; marks = p.marks }

abbrev pub with_marks : Port → Bytes → Port
with_marks p row = record { step = p.step; member = p.member; gathering = p.gathering; ruling = p.ruling; marks = row }
