-- Seven numbers one after the other are the list of them written from the first place on. Assumes nothing.
use Rattle.std.proofs.Common.{refl}
use Rattle.layout.specs.Over.{over, puts}
use Rattle.opening.proofs.writing.write_fields.Goals as goal

pub returns : goal.returns
unfolding over puts
returns c = refl
