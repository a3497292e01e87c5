-- Five exits, one for each way through the length, the kind with the count, and the first epoch; under 4 with a right length an empty group is written. Each cites its law of SenderCalls.
use mathlib.Core.Path.{◌∙◌, ap, sym}
use Rattle.c_face.specs.Keeping.{bytes_of}
use Rattle.c_face.proofs.SenderCalls.{epoch_byte, kind_byte, start_none, start_length, start_outside, start_unfit, start_done}
use Rattle.c_face.proofs.senders.start_by.Goals as goal

pub returns-then-is_no_start : goal.returns-then-is_no_start
returns-then-is_no_start c =
    start_none c.args.kind c.args.count c.args.«first_epoch» _ c.if-state-ne-SENDER_BYTES.true (sym c.is_no_start.ensures ∙ c.if-is_no_start.true)

pub returns-else-is_no_start : goal.returns-else-is_no_start
returns-else-is_no_start c =
    start_length c.args.kind c.args.count c.args.«first_epoch» _ c.if-state-ne-SENDER_BYTES.true (sym c.is_no_start.ensures ∙ c.if-is_no_start.false)

pub returns-then-is_no_start-2 : goal.returns-then-is_no_start-2
returns-then-is_no_start-2 c =
    start_outside c.args.kind c.args.count c.args.«first_epoch» _ _ c.if-state-ne-SENDER_BYTES.false (sym c.is_no_start-2.ensures ∙ c.if-is_no_start-2.true) (c.put_sender.ensures ∙ ap bytes_of c.empty.ensures)

pub overflow_cast-kind : goal.overflow_cast-kind
overflow_cast-kind c = record { fits = kind_byte _ c.args.count (sym c.is_no_start-2.ensures ∙ c.if-is_no_start-2.false) }

pub returns-then-not-is_epoch : goal.returns-then-not-is_epoch
returns-then-not-is_epoch c =
    start_unfit c.args.kind c.args.count c.args.«first_epoch» _ c.if-state-ne-SENDER_BYTES.false (sym c.is_no_start-2.ensures ∙ c.if-is_no_start-2.false) (sym c.is_epoch.ensures ∙ c.if-not-is_epoch.true)

pub overflow_cast-kind-2 : goal.overflow_cast-kind-2
overflow_cast-kind-2 c =
    record { fits = kind_byte _ c.args.count (sym c.is_no_start-2.ensures ∙ c.if-is_no_start-2.false) }

pub overflow_cast-first_epoch : goal.overflow_cast-first_epoch
overflow_cast-first_epoch c =
    record { fits = epoch_byte c.args.kind c.args.«first_epoch» (sym c.is_epoch.ensures ∙ c.if-not-is_epoch.false) }

pub returns : goal.returns
returns c =
    start_done c.args.kind c.args.count c.args.«first_epoch» _ _ _ c.if-state-ne-SENDER_BYTES.false (sym c.is_no_start-2.ensures ∙ c.if-is_no_start-2.false) (sym c.is_epoch.ensures ∙ c.if-not-is_epoch.false) c.start.ensures.told c.keep.ensures
