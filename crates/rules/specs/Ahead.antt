-- What lies ahead of a curve after t slots, and what it is for n numbers to hold it. Over any A, with A(s) the packets taken in by slot s; services
-- and envelopes have one form of table. Assumes nothing.
use Rattle.std.specs.Prelude.{◌≡◌, List, ℕ, suc, ◌+◌, ◌-◌, ◌<◌, length, get_or}
use Rattle.curve.specs.Least.{least}
use Rattle.curve.specs.Curve.{Curve, at}

-- ahead_t(x): the least of A(s) + F(t+x-s) over s = 0..t, for x ≥ 1
unfoldable pub ahead : (ℕ → ℕ) → (ℕ → ℕ) → ℕ → ℕ → ℕ
ahead F A t x = least (λ s. A s + F (t + x - s)) t

-- THE TABLE: n numbers, ahead_t(1)..ahead_t(n)
pub record Holds (P : ℕ) (F : Curve) (A : ℕ → ℕ) (t : ℕ) (l : List ℕ) : Type 0 where
  pub size : length l ≡ length F.table
  pub entry : (j : ℕ) → j < length F.table → get_or l j 0 ≡ ahead (at P F) A t (suc j)
