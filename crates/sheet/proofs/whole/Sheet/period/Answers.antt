-- A sheet that reads is within the limits. Assumes nothing.
use Rattle.sheet.proofs.ReadyLaws.{some-period, few-slots}
use Rattle.sheet.proofs.whole.Sheet.period.Goals as goal

pub returns-clause-range : goal.returns-clause-range
returns-clause-range c = (some-period _ _ _ _ _ c.args.self.now.ready, few-slots _ _ _ _ _ c.args.self.now.ready)
