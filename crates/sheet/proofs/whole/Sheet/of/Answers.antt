-- What the reader answers makes the sheet ready. Assumes nothing.
use Rattle.std.proofs.Common.{arith}
use Rattle.sheet.specs.Makes.{AllBytes}
use Rattle.sheet.proofs.ReadyLaws.{ready_from}
use Rattle.sheet.proofs.whole.Sheet.of.Goals as goal

pub invariant_of-result : goal.invariant_of-result
invariant_of-result c =
    let all : AllBytes c.args.bytes.now = λ i. omega (arith, c.type_inv.bytes i) in
    record { ready = ready_from c.args.bytes.now c.in_ok-reading.reading all (rw c.in_ok-reading.was at c.read.ensures) }
