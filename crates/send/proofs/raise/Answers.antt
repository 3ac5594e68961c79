-- One more of those taken in, so the number fits. Assumes nothing.
use Rattle.std.proofs.Common.{refl}
use Rattle.send.specs.Send.{raised}
use Rattle.send.proofs.raise.Goals as goal

pub returns : goal.returns
unfolding raised
returns c = rw c.block_range.ensures (refl, refl)
