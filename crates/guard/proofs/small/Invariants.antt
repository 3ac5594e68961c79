-- The flag tells, number after number, whether each is at most the limit so far. Assumes nothing.
use Rattle.std.specs.Prelude.{ℕ, ◌≤◌, ◌<◌, slice_index}
use Rattle.guard.specs.Tells.{Tells}
use Rattle.guard.proofs.small.Given as goal

abbrev pub invariant-loop-number : goal.invariant-loop-number
invariant-loop-number l = Tells l.all ((i : ℕ) → i < l.number-index → slice_index l.numbers i ≤ l.most)
