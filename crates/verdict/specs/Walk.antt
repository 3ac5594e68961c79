-- What a walk over the slot counts 1, 2, 3, .. knows before it tries t: the least slack so far, how many slot counts in a row were
-- steady, and the last 16 loads in a ring. Assumes nothing.
use Rattle.std.specs.Prelude.{◌≡◌, List, ℕ, suc, ◌+◌, ◌-◌, ◌%◌, ◌≤◌, ◌<◌, length, get_or}
use Rattle.verdict.specs.Stop.{Steady}

-- m is the least slack of 1..t-1 and w the first that gives it; before the first, m is above any slack of 1
pub record Lead (L C : ℕ → ℕ) (t m w : ℕ) : Type 0 where
  pub within : w < t
  pub least : (u : ℕ) → 1 ≤ u → u < t → L u + m ≤ C u
  pub first : (u : ℕ) → 1 ≤ u → u < w → L u + m < C u
  pub gives : 2 ≤ t → (1 ≤ w) × (L w + m ≡ C w)
  pub start : t ≡ 1 → C 1 < m

-- the last `run` slot counts before t are steady, and past T0
pub record Row (L : ℕ → ℕ) (R P T0 t run : ℕ) : Type 0 where
  pub steady : (u : ℕ) → t ≤ u + P + run → u + P < t → Steady L R P u
  pub late : run ≤ t - suc T0

-- the last 16 loads, each at its slot count's rest by 16
pub record Kept (L : ℕ → ℕ) (t : ℕ) (past : List ℕ) : Type 0 where
  pub places : length past ≡ 16
  pub loads : (u : ℕ) → 1 ≤ u → u < t → t ≤ u + 16 → get_or past (u % 16) 0 ≡ L u
