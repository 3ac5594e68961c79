-- (b*S)(t) as the program evaluates it: the better of two ways to share t slots at each position, and the least of these. Assumes nothing.
use Rattle.std.specs.Prelude.{ℕ, ◌+◌, ◌-◌, min}
use Rattle.curve.specs.Curve.{Curve, at}

-- x slots for the envelope and the rest for the service, or the other way round: the lesser
unfoldable pub better : ℕ → Curve → Curve → ℕ → ℕ → ℕ
better P b S t x = min (at P b x + at P S (t - x)) (at P b (t - x) + at P S x)
