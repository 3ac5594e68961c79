-- The largest of the delays over the envelope's positions, kept as `Figured` says. Assumes nothing.
use Rattle.std.proofs.Common.{arith}
use Rattle.verdict.proofs.FiguredLaws.{figured_none, figured_next, figured_all, service-curve, service-promises, answered, asked-little}
use Rattle.verdict.proofs.figures.figure.Goals as goal

pub loop-x-init : goal.loop-x-init
loop-x-init c = figured_none _ _ _

pub delay-due-requires-clause-le_rate : goal.delay-due-requires-clause-le_rate
delay-due-requires-clause-le_rate c =
    let little = asked-little _ _ c.requires _ _ c.loop-x.invariant.from (omega (arith, c.len-n.ensures)) c.value-q.ensures in
    (service-promises _ _ c.requires, omega arith)

pub loop-x-preserved : goal.loop-x-preserved
loop-x-preserved c =
    figured_next _ _ _ (service-curve _ _ c.requires) (service-promises _ _ c.requires) _ _ _ _ c.loop-x.invariant (omega (arith, c.len-n.ensures))
    (answered _ _ c.requires _ _ _ c.value-q.ensures c.delay-due.ensures) (omega (arith, c.max-largest.ensures, c.saturating_sub.ensures))

pub returns : goal.returns
returns c = figured_all _ _ _ _ _ c.loop-x.invariant (omega (arith, c.len-n.ensures))
