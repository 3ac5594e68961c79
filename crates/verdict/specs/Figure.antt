-- A session's delay figure: the largest, over the envelope's table positions x = 1..n, of the least Δ ≥ 0 with b(x) ≤ S(x+Δ). Assumes nothing.
use Rattle.std.specs.Prelude.{ℕ, zero, suc, ◌+◌, ◌*◌, ◌≤◌, ◌<◌, max, length}
use Rattle.curve.specs.Curve.{Curve, at}
use Rattle.curve.specs.Delay.{Due, slot, never, find}

-- the slots of an answer; a service has a rate, so never does not come up
unfoldable pub slots : Due → ℕ
slots (slot d) = d
slots never = 0

-- the least Δ ≥ 0 with q ≤ S(x+Δ). With a rate, S has reached q by n + P·q (`grows`), so no larger Δ is tried
unfoldable pub lag : ℕ → Curve → ℕ → ℕ → ℕ
lag P S q x = slots (find (λ d. at P S (x + d)) q (suc (length S.table + q * P)) 0)

-- the largest of f 0 .. f (n-1), 0 for none
unfoldable pub largest : (ℕ → ℕ) → ℕ → ℕ
largest f zero = 0
largest f (suc n) = max (largest f n) (f n)

-- the delay figure of an envelope b and a service S
unfoldable pub figure : ℕ → Curve → Curve → ℕ
figure P b S = largest (λ i. lag P S (at P b (suc i)) (suc i)) (length b.table)

-- d is the least Δ ≥ 0 with q ≤ f(x+Δ)
pub record Lag (f : ℕ → ℕ) (q x d : ℕ) : Type 0 where
  pub reaches : q ≤ f (x + d)
  pub before : (e : ℕ) → e < d → f (x + e) < q
