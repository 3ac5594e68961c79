-- D(q) is found in the table, or in the table's last period after as many periods as take its last value to q. Assumes nothing.
use Rattle.std.proofs.Common.{arith}
use Rattle.curve.proofs.DelayLaws.{delay-is}
use Rattle.curve.proofs.LookupLaws.{first_in, first_past}
use Rattle.curve.proofs.delay_from.Goals as goal

pub returns-then-want-entry-clause-delay : goal.returns-then-want-entry-clause-delay
returns-then-want-entry-clause-delay g c =
    delay-is c.args.period.0 _ c.requires.curve c.args.q.0 _
    (first_in c.args.period.0 _ c.args.q.0 c.table.i (omega (arith, c.len-n.ensures)) (omega (arith, c.entry.ensures.value)) c.table.invariant)

pub returns-then-rest-entry-clause-delay : goal.returns-then-rest-entry-clause-delay
returns-then-rest-entry-clause-delay g c =
    delay-is c.args.period.0 _ c.requires.curve c.args.q.0 _
    (first_past c.args.period.0 _ c.requires.curve c.args.q.0 _ c.period.k c.period.invariant.0 (omega (arith, c.len-n.ensures)) (omega (arith, c.len-n.ensures))
    (omega (arith, c.entry-in-period.ensures.value, c.saturating_sub-rest.ensures)) (λ i l h. omega (arith, c.period.invariant.1 i l h, c.saturating_sub-rest.ensures)))
