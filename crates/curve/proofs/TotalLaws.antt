-- Laws of specs/Total.antt. Sums f(0) + .. + f(n-1): of sessions for a sheet's load, of slots for packets taken in. Assumes nothing.
use Rattle.std.specs.Prelude.{◌≡◌, refl, ◌⊎◌, ◌≢◌, ℕ, zero, suc, ◌+◌, ◌*◌, ◌≤◌, ◌<◌}
use Rattle.std.proofs.Common.{sym, inl, inr, arith}
use Rattle.std.proofs.Math.Decide.{ℕ_discrete}
use Rattle.curve.specs.Order.{Rises}
use Rattle.curve.proofs.OrderLaws.{le_or_lt, rises-by-steps}
use Rattle.curve.specs.Total.{total}

pub total-zero : (f : ℕ → ℕ) → total f 0 ≡ 0
unfolding total
total-zero f = refl

pub total-suc : (f : ℕ → ℕ) (n : ℕ) → total f (suc n) ≡ total f n + f n
unfolding total
total-suc f n = refl

-- the first term apart
pub total-front : (f : ℕ → ℕ) (n : ℕ) → total f (suc n) ≡ f 0 + total (λ i. f (suc i)) n
unfolding total
total-front f zero = omega arith
total-front f (suc n) = omega (arith, total-front f n)

pub total_cong : (f g : ℕ → ℕ) (n : ℕ) → ((i : ℕ) → i < n → f i ≡ g i) → total f n ≡ total g n
unfolding total
total_cong f g zero h = refl
total_cong f g (suc n) h = rw (total_cong f g n (λ i l. h i (omega arith)), h n (omega arith))

pub total-le : (f g : ℕ → ℕ) (n : ℕ) → ((i : ℕ) → i < n → f i ≤ g i) → total f n ≤ total g n
unfolding total
total-le f g zero h = omega arith
total-le f g (suc n) h = omega (arith, total-le f g n (λ i l. h i (omega arith)), h n (omega arith))

-- more terms, no smaller sum
pub total_mono : (f : ℕ → ℕ) → Rises (total f)
unfolding total
total_mono f = rises-by-steps (total f) (λ n. omega arith)

pub total-add : (f g : ℕ → ℕ) (n : ℕ) → total (λ i. f i + g i) n ≡ total f n + total g n
unfolding total
total-add f g zero = refl
total-add f g (suc n) = omega (arith, total-add f g n)

-- n terms of at most v each
pub total-most : (f : ℕ → ℕ) (n v : ℕ) → ((i : ℕ) → i < n → f i ≤ v) → total f n ≤ n * v
unfolding total
total-most f zero v h = omega arith
total-most f (suc n) v h =
    let e : suc n * v ≡ n * v + v = omega arith in
    omega (arith, total-most f n v (λ i l. h i (omega arith)), h n (omega arith))

-- where each term is at most two others together, so is the sum
pub total-le-add : (f g h : ℕ → ℕ) (n : ℕ) → ((i : ℕ) → i < n → f i ≤ g i + h i) → total f n ≤ total g n + total h n
total-le-add f g h n k = omega (arith, total-le f (λ i. g i + h i) n k, total-add g h n)

-- terms that are all 0
pub total-none : (f : ℕ → ℕ) (n : ℕ) → ((i : ℕ) → i < n → f i ≡ 0) → total f n ≡ 0
unfolding total
total-none f zero h = refl
total-none f (suc n) h = omega (arith, total-none f n (λ i l. h i (omega arith)), h n (omega arith))

-- by rows and by columns
pub total_swap : (f : ℕ → ℕ → ℕ) (m t : ℕ) → total (λ u. total (λ i. f i u) m) t ≡ total (λ i. total (f i) t) m
unfolding total
total_swap f m zero = sym (total-none (λ i. 0) m (λ i l. refl))
total_swap f m (suc t) = omega (arith, total_swap f m t, total-add (λ i. total (f i) t) (λ i. f i t) m)

-- no term is more than the sum
pub le_total : (f : ℕ → ℕ) (n i : ℕ) → i < n → f i ≤ total f n
unfolding total
le_total f zero i h = absurd (omega arith)
le_total f (suc n) i h = go (le_or_lt n i) (le_total f n i)
  where
    go : (n ≤ i) ⊎ (i < n) → (i < n → f i ≤ total f n) → f i ≤ total f n + f n
    go (inl k) ih =
        let e : i ≡ n = omega arith in
        rw e (omega arith)
    go (inr k) ih = omega (arith, ih k)

-- and where all terms but one are 0, the sum is no more than that one
pub total_only : (f : ℕ → ℕ) (n i : ℕ) → ((j : ℕ) → j < n → j ≢ i → f j ≡ 0) → total f n ≤ f i
unfolding total
total_only f zero i h = omega arith
total_only f (suc n) i h = go (ℕ_discrete n i) (total_only f n i (λ j l. h j (omega arith)))
  where
    go : Dec (n ≡ i) → total f n ≤ f i → total f n + f n ≤ f i
    go (yes e) ih = rw (← e) (omega (arith, total-none f n (λ j l. h j (omega arith) (omega arith))))
    go (no k) ih = omega (arith, h n (omega arith) k)
