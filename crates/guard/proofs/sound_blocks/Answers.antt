-- Block after block, each is sound so far. Assumes nothing.
use Rattle.std.proofs.Common.{below_more}
use Rattle.guard.proofs.sound_blocks.Goals as goal

pub loop-session-preserved : goal.loop-session-preserved
loop-session-preserved c = below_more _ _ c.loop-session.invariant (rw c.block.ensures.value at (c.sound.ensures.0 c.if-not-sound.false))
