-- Laws of specs/Least.antt. The least of f(0)..f(t), which 01 takes for (b*S), for headroom and for what is promised. Assumes nothing.
use Rattle.std.specs.Prelude.{◌≡◌, refl, ◌⊎◌, ℕ, zero, suc, ◌+◌, ◌-◌, ◌≤◌, ◌<◌, min}
use Rattle.std.proofs.Common.{inl, inr, arith}
use Rattle.curve.proofs.OrderLaws.{le_or_lt, le_suc_cases}
use Rattle.curve.specs.Least.{least, Attained}

pub least_zero : (f : ℕ → ℕ) → least f 0 ≡ f 0
unfolding least
least_zero f = refl

pub least-suc : (f : ℕ → ℕ) (t : ℕ) → least f (suc t) ≡ min (least f t) (f (suc t))
unfolding least
least-suc f t = refl

-- it is at most each of them
pub least-le : (f : ℕ → ℕ) (t s : ℕ) → s ≤ t → least f t ≤ f s
unfolding least
least-le f zero s h =
    let e : s ≡ 0 = omega arith in
    rw e (omega arith)
least-le f (suc t) s h = go (least-le f t s) (le_suc_cases s t h)
  where
    go : (s ≤ t → least f t ≤ f s) → (s ≤ t) ⊎ (s ≡ suc t) → min (least f t) (f (suc t)) ≤ f s
    go ih (inl k) = omega (arith, ih k)
    go ih (inr e) = rw e (omega arith)

-- and whatever is at most each of them is at most the least
pub le-least : (f : ℕ → ℕ) (t k : ℕ) → ((s : ℕ) → s ≤ t → k ≤ f s) → k ≤ least f t
unfolding least
le-least f zero k h = h zero (omega arith)
le-least f (suc t) k h = omega (arith, le-least f t k (λ s l. h s (omega arith)), h (suc t) (omega arith))

pub least_attained : (f : ℕ → ℕ) (t : ℕ) → Attained f t (least f t)
unfolding least
least_attained f zero = record { place = 0; within = omega arith; value = refl }
least_attained f (suc t) = go (least_attained f t) (le_or_lt (least f t) (f (suc t)))
  where
    go : Attained f t (least f t) → (least f t ≤ f (suc t)) ⊎ (f (suc t) < least f t) → Attained f (suc t) (min (least f t) (f (suc t)))
    go m (inl k) = record { place = m.place; within = omega (arith, m.within); value = omega (arith, m.value) }
    go m (inr k) = record { place = suc t; within = omega arith; value = omega arith }

pub least_cong : (f g : ℕ → ℕ) (t : ℕ) → ((s : ℕ) → s ≤ t → f s ≡ g s) → least f t ≡ least g t
unfolding least
least_cong f g zero h = h zero (omega arith)
least_cong f g (suc t) h = rw (least_cong f g t (λ s l. h s (omega arith)), h (suc t) (omega arith))

-- the least of values that all have k more, or k fewer
pub least-add : (f : ℕ → ℕ) (k t : ℕ) → least (λ s. f s + k) t ≡ least f t + k
unfolding least
least-add f k zero = refl
least-add f k (suc t) = omega (arith, least-add f k t)

pub least-sub : (f : ℕ → ℕ) (k t : ℕ) → least (λ s. f s - k) t ≡ least f t - k
unfolding least
least-sub f k zero = refl
least-sub f k (suc t) = omega (arith, least-sub f k t)
