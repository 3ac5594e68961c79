-- What it is for a load to bend down along a period: it grows by no more in the next period than in the last. Assumes nothing.
use Rattle.std.specs.Prelude.{ℕ, ◌+◌, ◌≤◌, ◌<◌}

-- f bends down along P slots, past T0
abbrev pub Bends : (ℕ → ℕ) → ℕ → ℕ → Type 0
Bends f P T0 = (t : ℕ) → T0 < t + P → f (t + P + P) + f t ≤ f (t + P) + f (t + P)
