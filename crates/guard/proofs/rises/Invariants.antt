-- The flag tells whether a number so far is below the one before it. Assumes nothing.
use Rattle.std.proofs.Common.{◌≡◌, ◌+◌, ◌-◌, ◌≤◌, min, length, drop}
use Rattle.guard.specs.Tells.{Tells}
use Rattle.guard.specs.Test.{Steps}
use Rattle.guard.proofs.rises.Given as goal

abbrev pub invariant-loop-pair : goal.invariant-loop-pair
invariant-loop-pair l =
    let rest = l.pair-iterator.rest.now in
    (l.pair-iterator.size ≡ 2)
    × (length rest ≤ length l.numbers)
    × (min 1 (length l.numbers) ≤ length rest)
    × (rest ≡ drop (length l.numbers - length rest) l.numbers)
    × Tells l.all (Steps l.numbers (length l.numbers - length rest + 1))
