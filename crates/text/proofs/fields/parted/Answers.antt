use Rattle.std.proofs.Common.{◌+◌, ◌-◌, ◌∙◌, arith, drop, length, length-drop, length-take, sym, take_all}
use Rattle.text.proofs.Reading.{field_alone, field_found}
use Rattle.text.proofs.fields.parted.Goals as goal

pub returns-in_err-tab : goal.returns-in_err-tab
returns-in_err-tab c =
    let f = field_alone c.args.line.now (sym c.first.ensures ∙ c.in_err-tab.was) in
    rw c.from_residual.ensures (record { parts = sym f.0; fields = f.1 })

pub returns : goal.returns
returns c =
    let f = field_found c.args.line.now c.in_ok-tab.tab (sym c.first.ensures ∙ c.in_ok-tab.was) in
    let n = length-drop (c.in_ok-tab.tab + 1) c.args.line.now in
    let m = length-take c.in_ok-tab.tab c.args.line.now in
    rw (take_all (length c.args.line.now - (c.in_ok-tab.tab + 1)) (drop (c.in_ok-tab.tab + 1) c.args.line.now) (omega arith)) (record { parts = sym f.1; fields = (f.2, omega arith) })
