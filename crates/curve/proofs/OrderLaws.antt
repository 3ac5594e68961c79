-- Laws of specs/Order.antt. Two numbers in order, one way or the other, and functions that never fall. Assumes nothing.
use Rattle.std.specs.Prelude.{◌≡◌, ◌⊎◌, ℕ, zero, suc, ◌≤◌, ◌<◌}
use Rattle.std.proofs.Common.{inl, inr, arith}
use Rattle.std.proofs.Math.Decide.{dec_le}
use Rattle.curve.specs.Order.{Rises}

pub le_or_lt : (s t : ℕ) → (s ≤ t) ⊎ (t < s)
le_or_lt s t = go (dec_le s t)
  where
    go : Dec (s ≤ t) → (s ≤ t) ⊎ (t < s)
    go (yes k) = inl k
    go (no k) = inr (omega arith)

-- a number up to suc t is up to t or is suc t
pub le_suc_cases : (s t : ℕ) → s ≤ suc t → (s ≤ t) ⊎ (s ≡ suc t)
le_suc_cases s t h = go (le_or_lt s t)
  where
    go : (s ≤ t) ⊎ (t < s) → (s ≤ t) ⊎ (s ≡ suc t)
    go (inl k) = inl k
    go (inr k) = inr (omega arith)

pub rises-by-steps : (f : ℕ → ℕ) → ((x : ℕ) → f x ≤ f (suc x)) → Rises f
rises-by-steps f h x zero l =
    let e : x ≡ 0 = omega arith in
    rw e (omega arith)
rises-by-steps f h x (suc y) l = go (le_suc_cases x y l) (rises-by-steps f h x y)
  where
    go : (x ≤ y) ⊎ (x ≡ suc y) → (x ≤ y → f x ≤ f y) → f x ≤ f (suc y)
    go (inl k) ih = omega (arith, h y, ih k)
    go (inr e) ih = rw e (omega arith)
