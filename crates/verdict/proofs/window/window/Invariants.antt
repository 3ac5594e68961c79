-- One session's two rows after another's, as `Window` says. Assumes nothing.
use Rattle.std.proofs.Common.{◌*◌}
use Rattle.verdict.specs.Window.{Window}
use Rattle.verdict.proofs.window.window.Given as goal

abbrev pub invariant-loop-i : goal.invariant-loop-i
invariant-loop-i l = Window l.sheet.bytes.now l.period.0 l.end (256 * l.i) l.values
