-- Functions that never fall. Assumes nothing.
use Rattle.std.specs.Prelude.{ℕ, ◌≤◌}

-- f never falls
abbrev pub Rises : (ℕ → ℕ) → Type 0
Rises f = (x y : ℕ) → x ≤ y → f x ≤ f y
