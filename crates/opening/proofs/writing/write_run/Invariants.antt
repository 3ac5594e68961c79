-- The head is written over zeros, and each block after it, as `blocks_over` has them. Assumes nothing.
use Rattle.std.proofs.Common.{◌≡◌}
use Rattle.sheet.specs.Bytes.{sheet_of}
use Rattle.history.specs.Image.{blocks_over}
use Rattle.opening.specs.Opens.{moving}
use Rattle.opening.proofs.writing.write_run.Given as goal

abbrev pub invariant-loop-i : goal.invariant-loop-i
invariant-loop-i l = l.run ≡ blocks_over l.initial.run (sheet_of l.sheet.bytes.now) (moving (sheet_of l.sheet.bytes.now)) l.i
