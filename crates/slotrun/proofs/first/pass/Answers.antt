-- The verdict is that the sheet passes; its head has the number of sessions. Assumes nothing.
use Rattle.std.proofs.Common.{arith, rules}
use Rattle.slotrun.specs.Laws.{head-reads}
use Rattle.slotrun.proofs.first.pass.Goals as goal

pub byte-count-requires : goal.byte-count-requires
byte-count-requires g c =
    let says = rw c.in-Passed.is at c.requires.0.says in
    omega (arith, (head-reads c.args.bytes.now says.0).long)

pub put_passed-requires : goal.put_passed-requires
put_passed-requires g c =
    let says = rw c.in-Passed.is at c.requires.0.says in
    (search rules, (omega (arith, (head-reads c.args.bytes.now says.0).few, c.byte-count.ensures.0), omega (arith, c.requires.2)))
