-- The least of f(0)..f(t), which 01 takes for (b*S), for headroom and for what is promised. Assumes nothing.
use Rattle.std.specs.Prelude.{◌≡◌, ℕ, zero, suc, ◌≤◌, min}

-- the least of f 0 .. f t
unfoldable pub least : (ℕ → ℕ) → ℕ → ℕ
least f zero = f zero
least f (suc t) = min (least f t) (f (suc t))

-- it is one of them
pub record Attained (f : ℕ → ℕ) (t v : ℕ) : Type 0 where
  pub place : ℕ
  pub within : place ≤ t
  pub value : v ≡ f place
