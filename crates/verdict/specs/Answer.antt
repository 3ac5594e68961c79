-- How a walk over slot counts may come out: passed so far, or failed. Assumes nothing.
use Rattle.std.specs.Prelude.{ℕ, ◌+◌, ◌≤◌}
use Rattle.verdict.specs.Passes.{Fails}
use Rattle.verdict.specs.Walk.{Lead}

-- how a walk over 1..T may come out: with a slack, or with a failing slot count
pub data Walked (L C : ℕ → ℕ) (T : ℕ) : Type 0 where
  passes : (m w : ℕ) → Lead L C (T + 1) m w → Walked L C T
  fails : (w : ℕ) → w ≤ T → Fails L C w → Walked L C T
