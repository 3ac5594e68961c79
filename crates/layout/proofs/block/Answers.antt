-- The part that is lent is the block. Assumes nothing.
use Rattle.layout.specs.Layout.{block_numbers, block_at}
use Rattle.layout.specs.Part.{part_lent}
use Rattle.layout.proofs.block.Goals as goal

pub returns-clause-value : goal.returns-clause-value
returns-clause-value c = rw c.block_range.ensures (part_lent c.args.run.now (block_at c.args.session) block_numbers)
