use Rattle.std.proofs.Common.{◌++◌, length}
use Rattle.text.specs.Ascii.{ascii}
use Rattle.text.specs.Laws.Putting.{is_put, put_then, room, shorter}
use Rattle.text.specs.Output.{decimal_text, ended, number_text}
use Rattle.text.specs.Text.{TAB}
use Rattle.replay_lines.specs.Output.{epoch_text, mark_text, place_text}
use Rattle.replay_lines.proofs.Printing.{put_more}
use Rattle.replay_lines.proofs.output.put_epoch.Goals as goal

pub put_place-requires : goal.put_place-requires
unfolding epoch_text
put_place-requires c =
    let a = ended (ascii "epoch") TAB in
    let b = ended (decimal_text c.args.epoch) TAB in
    let d = ended (mark_text c.args.mark) TAB in
    let e = ended (ascii "bytes") TAB in
    let f = ended (number_text c.args.bytes) TAB in
    let g = ended (ascii "line") TAB in
    let h = place_text c.args.mark c.args.line c.args.cause c.args.port in
    let n = length c.args.said.now in
    let five = shorter (a ++ b ++ d ++ e ++ f ++ g) h 0 n c.requires in
    let four = shorter (a ++ b ++ d ++ e ++ f) g 0 n five in
    let three = shorter (a ++ b ++ d ++ e) f 0 n four in
    let two = shorter (a ++ b ++ d) e 0 n three in
    let one = shorter (a ++ b) d 0 n two in
    let p = is_put (shorter a b 0 n one) c.put-second.ensures in
    let q = put_more b p one c.put_number-third.ensures in
    let r = put_more d q two c.put_mark-fourth.ensures in
    let t = put_more e r three c.put-fifth.ensures in
    let u = put_more f t four c.put_decimal-sixth.ensures in
    let v = put_more g u five c.put-seventh.ensures in
    room v h c.requires

pub returns : goal.returns
unfolding epoch_text
returns c =
    let a = ended (ascii "epoch") TAB in
    let b = ended (decimal_text c.args.epoch) TAB in
    let d = ended (mark_text c.args.mark) TAB in
    let e = ended (ascii "bytes") TAB in
    let f = ended (number_text c.args.bytes) TAB in
    let g = ended (ascii "line") TAB in
    let h = place_text c.args.mark c.args.line c.args.cause c.args.port in
    let n = length c.args.said.now in
    let five = shorter (a ++ b ++ d ++ e ++ f ++ g) h 0 n c.requires in
    let four = shorter (a ++ b ++ d ++ e ++ f) g 0 n five in
    let three = shorter (a ++ b ++ d ++ e) f 0 n four in
    let two = shorter (a ++ b ++ d) e 0 n three in
    let one = shorter (a ++ b) d 0 n two in
    let p = is_put (shorter a b 0 n one) c.put-second.ensures in
    let q = put_more b p one c.put_number-third.ensures in
    let r = put_more d q two c.put_mark-fourth.ensures in
    let t = put_more e r three c.put-fifth.ensures in
    let u = put_more f t four c.put_decimal-sixth.ensures in
    let v = put_more g u five c.put-seventh.ensures in
    put_then v c.put_place.ensures
