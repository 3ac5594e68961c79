-- (b*S)(t), the convolution of the verdict, over any two functions of slots. Assumes nothing.
use Rattle.std.specs.Prelude.{ℕ, ◌+◌, ◌-◌}
use Rattle.curve.specs.Least.{least}

-- (b*S)(t) is the least of b(s) + S(t-s) over s = 0..t
unfoldable pub conv : (ℕ → ℕ) → (ℕ → ℕ) → ℕ → ℕ
conv b S t = least (λ s. b s + S (t - s)) t
