-- Sums f(0) + .. + f(n-1): of sessions for a sheet's load, of slots for packets taken in. Assumes nothing.
use Rattle.std.specs.Prelude.{ℕ, zero, suc, ◌+◌}

-- f 0 + .. + f (n-1)
unfoldable pub total : (ℕ → ℕ) → ℕ → ℕ
total f zero = 0
total f (suc n) = total f n + f n
