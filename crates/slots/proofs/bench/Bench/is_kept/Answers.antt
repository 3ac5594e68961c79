-- The parts from the place on are compared. Assumes nothing.
use Rattle.std.proofs.Common.{rules}
use Rattle.std.proofs.lemmas.Bool.Decides.{Decides-eqb}
use Rattle.std.proofs.lemmas.Slice.Eq.{slice_eq-Decides}
use Rattle.slots.proofs.Kept.{kept_told}
use Rattle.slots.proofs.bench.Bench.is_kept.Goals as goal

pub returns-else-from-ge-RUN_ROOM : goal.returns-else-from-ge-RUN_ROOM
returns-else-from-ge-RUN_ROOM c = kept_told c.args.self.now.run c.args.self.now.before c.args.from 12296 c.eq.result (search rules) (search rules) (slice_eq-Decides Decides-eqb _ _ c.eq.result c.eq.ensures)
