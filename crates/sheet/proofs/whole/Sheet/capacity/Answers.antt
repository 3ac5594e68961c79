-- A sheet that reads is within the limits. Assumes nothing.
use Rattle.sheet.proofs.ReadyLaws.{some-packets, few-packets}
use Rattle.sheet.proofs.whole.Sheet.capacity.Goals as goal

pub returns-clause-range : goal.returns-clause-range
returns-clause-range c = (some-packets _ _ _ _ _ c.args.self.now.ready, few-packets _ _ _ _ _ c.args.self.now.ready)
