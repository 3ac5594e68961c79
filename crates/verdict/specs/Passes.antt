-- What the verdict means, over any load L and any C, what the link can send in t slots: the slack and its first slot count, or the first
-- failing slot count, among all t ≥ 1. There is no horizon. Assumes nothing.
use Rattle.std.specs.Prelude.{◌≡◌, ℕ, ◌+◌, ◌≤◌, ◌<◌}

-- Passed: m, the slack, is the least of C(t) - L(t) over t ≥ 1, and w is the least t that gives it
pub record Passes (L C : ℕ → ℕ) (m w : ℕ) : Type 0 where
  pub from : 1 ≤ w
  pub gives : L w + m ≡ C w
  pub least : (t : ℕ) → 1 ≤ t → L t + m ≤ C t
  pub first : (t : ℕ) → 1 ≤ t → t < w → L t + m < C t

-- Failed: w is the least t ≥ 1 at which L(t) is more than C(t)
pub record Fails (L C : ℕ → ℕ) (w : ℕ) : Type 0 where
  pub from : 1 ≤ w
  pub over : C w < L w
  pub first : (t : ℕ) → 1 ≤ t → t < w → L t ≤ C t
