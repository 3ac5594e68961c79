-- A sheet that reads is within the limits. Assumes nothing.
use Rattle.sheet.proofs.ReadyLaws.{some-sessions, few-sessions}
use Rattle.sheet.proofs.whole.Sheet.count.Goals as goal

pub returns-clause-range : goal.returns-clause-range
returns-clause-range c = (some-sessions _ _ _ _ _ c.args.self.now.ready, few-sessions _ _ _ _ _ c.args.self.now.ready)
