-- One session's two rows after another's, as `Window` says. Assumes nothing.
use Rattle.std.proofs.Common.{arith}
use Rattle.verdict.specs.Ready.{Drawn}
use Rattle.verdict.proofs.ReadyLaws.{rest_drawn, service-sized, envelope-sized}
use Rattle.verdict.proofs.WindowLaws.{rowed_as, window_more}
use Rattle.verdict.proofs.window.window.Goals as goal
use Rattle.verdict.proofs.window.window.Goals.{After-session-session}

-- the session taken apart
drawn : (c : After-session-session) → Drawn c.period-period.result.0 c.session-session.result
drawn c =
    rw c.period-period.ensures.is (rest_drawn _ _ _ _ _ c.args.sheet.now.ready c.loop-i.i (omega (arith, c.count-i-end.ensures.is)) _ c.session-session.ensures)

pub row-requires : goal.row-requires
row-requires c =
    (envelope-sized _ _ (drawn (goal.at.row-requires c).After-session-session), c.requires.0, omega (arith, c.count-i-end.ensures.range), c.loop-i.invariant.places)

pub row-requires-in-loop-i : goal.row-requires-in-loop-i
row-requires-in-loop-i c =
    (service-sized _ _ (drawn (goal.at.row-requires-in-loop-i c).After-session-session), c.requires.0, omega (arith, c.count-i-end.ensures.range), c.row.ensures.places)

pub loop-i-preserved : goal.loop-i-preserved
loop-i-preserved c =
    window_more _ _ _ c.loop-i.i _ _ _ c.loop-i.invariant (rowed_as _ _ _ _ _ _ _ _ c.session-session.ensures.envelope c.row.ensures)
    (rowed_as _ _ _ _ _ _ _ _ c.session-session.ensures.service c.row-in-loop-i.ensures)
