-- As many numbers of each slice stay lent. Assumes nothing.
use Rattle.slots.specs.Sets.{SameLengths}
use Rattle.slots.proofs.bench.Bench.slots.Given as goal

abbrev pub invariant-loop : goal.invariant-loop
invariant-loop l = SameLengths l.fn.self.set l.self.set
