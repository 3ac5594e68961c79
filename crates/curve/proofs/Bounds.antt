-- A curve lies below a straight line: with values up to v and a rate up to r, F(x) is at most v + r·x. It keeps a program's sums within their words. Assumes nothing.
use Rattle.std.specs.Prelude.{◌≡◌, ◌⊎◌, ℕ, zero, suc, ◌+◌, ◌-◌, ◌*◌, ◌≤◌, ◌<◌, length, get_or}
use Rattle.std.proofs.Common.{inl, inr, mul-le-mul_left, arith}
use Rattle.curve.proofs.OrderLaws.{le_or_lt}
use Rattle.curve.specs.Curve.{Curve, at}
use Rattle.curve.proofs.CurveLaws.{at_zero, at_table, at-past}

module _ (P : ℕ) (F : Curve) (v r : ℕ) (p : 1 ≤ P) (long : P ≤ length F.table)
    (values : (i : ℕ) → i < length F.table → get_or F.table i 0 ≤ v)
    (rate : F.rate ≤ r)
  where
    within : (x : ℕ) → x ≤ length F.table → at P F x ≤ v + r * x
    within zero h = omega (arith, at_zero P F)
    within (suc i) h = omega (arith, at_table P F i h, values i h)

    up_to : (k x : ℕ) → x ≤ k → at P F x ≤ v + r * x
    up_to zero x h = within x (omega arith)
    up_to (suc k) x h = go (up_to k (x - P)) (le_or_lt x (length F.table))
      where
        go : (x - P ≤ k → at P F (x - P) ≤ v + r * (x - P)) → (x ≤ length F.table) ⊎ (length F.table < x) → at P F x ≤ v + r * x
        go ih (inl a) = within x a
        go ih (inr a) =
            let y = x - P in
            let more : r * (y + 1) ≤ r * x = mul-le-mul_left r (omega arith) in
            let e : r * (y + 1) ≡ r * y + r = omega arith in
            omega (arith, at-past P F p long x a, ih (omega arith))

    pub at_most : (x : ℕ) → at P F x ≤ v + r * x
    at_most x = up_to x x (omega arith)
