-- A line of more fields than a frame has.
use Rattle.std.proofs.Common.{refl}
use Rattle.text.specs.Laws.Parted.{fields_some}
use Rattle.recording.proofs.record.short_record.Goals as goal

pub returns-in-Some-parted-3 : goal.returns-in-Some-parted-3
returns-in-Some-parted-3 c =
    let f = fields_some c.in-Some-parted-3.field-0.1.now in
    rw (c.in-Some.ensures.fields.0, c.in-Some-parted.ensures.fields.0, c.in-Some-parted-2.ensures.fields.0, c.in-Some-parted-3.ensures.fields.0, f.2) refl
