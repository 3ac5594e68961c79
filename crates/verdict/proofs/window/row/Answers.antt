-- A row value by value: those looked up, then those a period apart from one that stands already. Assumes nothing.
use Rattle.std.proofs.Common.{◌≡◌, ◌+◌, ◌-◌, get_or, arith}
use Rattle.curve.specs.Curve.{at}
use Rattle.curve.specs.Drawn.{drawn}
use Rattle.verdict.proofs.WindowLaws.{rowed_more, rowed_back}
use Rattle.verdict.proofs.window.row.Goals as goal

-- past the tables: the value a period later
later-is : (c : goal.After-values-1) → get_or c.far.values (c.args.place + c.far.j - c.args.period.0) 0
    ≡ at c.args.period.0 (drawn c.args.curve.now) (c.args.end - c.far.j + (c.far.j - c.args.end)) + c.args.curve.now.rate.0
later-is c =
    rowed_back _ _ _ _ _ _ _ c.requires.0 c.far.invariant (omega arith) c.far-test.true (c.looked-near.ensures.2 (omega arith))

pub overflow_sub-values-in-far : goal.overflow_sub-values-in-far
overflow_sub-values-in-far c = omega (arith, later-is c)

pub far-preserved : goal.far-preserved
far-preserved c = rowed_more _ _ _ _ _ c.far.j _ c.far.values c.far-test.true c.requires.2 c.far.invariant (omega (arith, later-is c))
