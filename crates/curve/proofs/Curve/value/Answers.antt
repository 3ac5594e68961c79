-- F(x) is 0 at 0, the table's value within it, and past it a value of the table's last period and so many periods' packets. Assumes nothing.
use Rattle.std.proofs.Common.{◌≡◌, suc, ◌-◌, sym, ap, ◌∙◌, arith}
use Rattle.curve.specs.Curve.{at}
use Rattle.curve.proofs.CurveLaws.{at_zero, at_table}
use Rattle.curve.specs.Drawn.{drawn}
use Rattle.curve.proofs.LookupLaws.{back, at_back}
use Rattle.curve.proofs.Curve.value.Goals as goal

pub returns-then-slots-eq0 : goal.returns-then-slots-eq0
returns-then-slots-eq0 c =
    let P = c.args.period.0 in
    let F = drawn c.args.self.now in
    sym (ap (at P F) c.if-slots-eq0.true ∙ at_zero P F)

pub returns-then-slots-n : goal.returns-then-slots-n
returns-then-slots-n c =
    let P = c.args.period.0 in
    let F = drawn c.args.self.now in
    let x = c.args.x.0 in
    let e : x ≡ suc (x - 1) = omega arith in
    c.entry.ensures.value
    ∙ sym (ap (at P F) e ∙ at_table P F (x - 1) (omega (arith, c.len-n.ensures)))

pub returns : goal.returns
returns c =
    let P = c.args.period.0 in
    let F = drawn c.args.self.now in
    rw c.entry-2.ensures.value
    (sym (at_back P F c.args.x.0 _ c.requires.0.period
    (rw (← c.len-n.ensures) (back c.len-n.result P c.args.x.0 c.requires.0.period (omega (arith, c.len-n.ensures, c.requires.0.long)) c.if-slots-n.false))))
