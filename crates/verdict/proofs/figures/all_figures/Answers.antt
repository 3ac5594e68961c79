-- One session after the other, as `Done` says; past the last the figures are all. Assumes nothing.
use Rattle.std.proofs.Common.{ap, ◌∙◌, arith}
use Rattle.curve.specs.Curve.{Curve}
use Rattle.curve.specs.Drawn.{drawn}
use Rattle.sheet.specs.Sheet.{session}
use Rattle.sheet.specs.Bytes.{sheet_of}
use Rattle.verdict.specs.Figure.{figure}
use Rattle.verdict.proofs.ReadyLaws.{rest_drawn}
use Rattle.verdict.proofs.FiguredLaws.{done_none, done_next, done_all}
use Rattle.verdict.proofs.figures.all_figures.Goals as goal

pub loop-i-init : goal.loop-i-init
loop-i-init c = done_none c.args.sheet.now.bytes.now

pub figure-requires : goal.figure-requires
figure-requires c =
    rw c.period.ensures.is (rest_drawn _ _ _ _ _ c.args.sheet.now.ready c.loop-i.i (omega (arith, c.count-i-end.ensures.is)) _ c.session.ensures)

pub loop-i-preserved : goal.loop-i-preserved
loop-i-preserved c =
    let P = c.args.sheet.now.reading.period.0 in
    let s = session (sheet_of c.args.sheet.now.bytes.now) c.loop-i.i in
    let e = rw c.period.ensures.is at c.figure.ensures in
    done_next _ _ _ _ _ c.args.sheet.now.ready c.loop-i.i (omega (arith, c.count-i-end.ensures.is)) _ _ c.loop-i.invariant
    (e ∙ ap (λ (F : Curve). figure P F (drawn c.session.result.service)) c.session.ensures.envelope ∙ ap (λ (F : Curve). figure P s.envelope F) c.session.ensures.service)

pub returns : goal.returns
returns c =
    let r = c.args.sheet.now.ready in
    done_all _ _ _ r.reads c.loop-i.invariant (omega (arith, c.count-i-end.ensures.is, r.count-is))
