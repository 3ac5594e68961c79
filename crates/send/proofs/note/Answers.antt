-- Three numbers, one after the other. Assumes nothing.
use mathlib.Core.Path.{refl}
use Rattle.send.specs.Send.{note}
use Rattle.send.proofs.note.Goals as goal

pub returns : goal.returns
unfolding note
returns c = refl
