-- Laws of specs/Rises.antt. What makes a table and a rate a curve of document 01: it never falls. Then its values never fall at any slot count. Assumes nothing.
use Rattle.std.specs.Prelude.{◌≡◌, ◌⊎◌, ℕ, zero, suc, ◌+◌, ◌-◌, ◌*◌, ◌≤◌, ◌<◌, length}
use Rattle.std.proofs.Common.{inl, inr, mul-le-mul_left, arith}
use Rattle.curve.specs.Order.{Rises}
use Rattle.curve.proofs.OrderLaws.{le_or_lt, rises-by-steps}
use Rattle.curve.specs.Curve.{Curve, at}
use Rattle.curve.proofs.CurveLaws.{at_entry, at_tail, at-past, at-periods}
use Rattle.curve.specs.Rises.{IsCurve}

module _ (P : ℕ) (F : Curve) (good : IsCurve P F) where
  -- F(n) ≤ F(n+1)
  at_join : at P F (length F.table) ≤ at P F (suc (length F.table))
  at_join =
      let n = length F.table in
      let y = n + 1 - P in
      let p : 1 ≤ P = good.period in
      let l : P ≤ n = good.long in
      let e : suc n ≡ y + P = omega arith in
      rw (e, at_tail P F p y (omega arith), at_entry P F n (omega arith), at_entry P F y (omega arith)) good.join

  -- F(x) ≤ F(x+1): past n + 1 both are a period back, and r more
  step : (k x : ℕ) → x < k → at P F x ≤ at P F (suc x)
  step zero x h = absurd (omega arith)
  step (suc k) x h = go (step k (x - P)) (le_or_lt (suc x) (length F.table)) (le_or_lt x (length F.table))
    where
      go : (x - P < k → at P F (x - P) ≤ at P F (suc (x - P)))
          → (suc x ≤ length F.table) ⊎ (length F.table < suc x)
          → (x ≤ length F.table) ⊎ (length F.table < x)
          → at P F x ≤ at P F (suc x)
      go ih (inl a) b = rw (at_entry P F x (omega arith), at_entry P F (suc x) a) (good.steps x a)
      go ih (inr a) (inl b) =
          let e : x ≡ length F.table = omega arith in
          rw e at_join
      go ih (inr a) (inr b) =
          let p : 1 ≤ P = good.period in
          let l : P ≤ length F.table = good.long in
          let e : suc x - P ≡ suc (x - P) = omega arith in
          rw (at-past P F p l x b, at-past P F p l (suc x) (omega arith), e) (omega (arith, ih (omega arith)))

  -- NEVER FALLS
  pub at-rises : Rises (at P F)
  at-rises = rises-by-steps (at P F) (λ x. step (suc x) x (omega arith))

  -- with a rate, a curve passes every number of packets
  pub grows : 1 ≤ F.rate → (k : ℕ) → k ≤ at P F (length F.table + k * P)
  grows r k =
      let p : 1 ≤ P = good.period in
      let more : k * 1 ≤ k * F.rate = mul-le-mul_left k r in
      omega (arith, at-periods P F p k (length F.table) (omega arith))

  -- with none, it stays at its table's last value
  stays : F.rate ≡ 0 → (k x : ℕ) → x < k → at P F x ≤ at P F (length F.table)
  stays r zero x h = absurd (omega arith)
  stays r (suc k) x h = go (stays r k (x - P)) (le_or_lt x (length F.table))
    where
      go : (x - P < k → at P F (x - P) ≤ at P F (length F.table)) → (x ≤ length F.table) ⊎ (length F.table < x) → at P F x ≤ at P F (length F.table)
      go ih (inl a) = at-rises x (length F.table) a
      go ih (inr a) =
          let p : 1 ≤ P = good.period in
          omega (arith, at-past P F p good.long x a, ih (omega arith))

  -- what it ever gives it gives within n + P·q slots
  pub at-within : (q x : ℕ) → q ≤ at P F x → q ≤ at P F (length F.table + q * P)
  at-within q x h = go (le_or_lt 1 F.rate)
    where
      go : (1 ≤ F.rate) ⊎ (F.rate < 1) → q ≤ at P F (length F.table + q * P)
      go (inl r) = grows r q
      go (inr r) =
          omega
          (arith, stays (omega arith) (suc x) x (omega arith), at-rises (length F.table) (length F.table + q * P) (omega arith))
