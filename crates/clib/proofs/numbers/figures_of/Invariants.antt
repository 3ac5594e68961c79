-- The first i figures have given their numbers. Assumes nothing.
use Rattle.std.proofs.Common.{◌≡◌, ℕ, ◌<◌, get_or, length}
use Rattle.clib.proofs.numbers.figures_of.Given as goal

abbrev pub invariant-loop-i : goal.invariant-loop-i
invariant-loop-i l = (length l.numbers ≡ 16) × ((k : ℕ) → k < l.i → get_or l.numbers k 0 ≡ (get_or l.figures k (record { 0 = 0 })).0)
