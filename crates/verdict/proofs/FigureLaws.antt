-- Laws of specs/Figure.antt. A session's delay figure: the largest, over the envelope's table positions x = 1..n, of the least Δ ≥ 0 with b(x) ≤ S(x+Δ).
-- It comes from the delay look-up, D(b(x)) - x. Assumes nothing.
use Rattle.std.specs.Prelude.{◌≡◌, refl, ◌⊎◌, ℕ, zero, suc, ◌+◌, ◌-◌, ◌*◌, ◌≤◌, ◌<◌, max, T, leb, length}
use Rattle.std.proofs.Math.Path.{ap}
use Rattle.std.proofs.Common.{inl, inr, mul-le-mul, arith, leb→le, le→leb}
use Rattle.curve.proofs.OrderLaws.{le_or_lt}
use Rattle.curve.specs.Curve.{Curve, at}
use Rattle.curve.specs.Rises.{IsCurve}
use Rattle.curve.proofs.RisesLaws.{at-rises, grows}
use Rattle.curve.specs.Delay.{slot, come, find, Found, delay}
use Rattle.curve.proofs.DelayLaws.{find-found, delay-law}
use Rattle.verdict.specs.Figure.{slots, lag, largest, figure, Lag}

pub largest-zero : (f : ℕ → ℕ) → largest f 0 ≡ 0
unfolding largest
largest-zero f = refl

pub largest-suc : (f : ℕ → ℕ) (n : ℕ) → largest f (suc n) ≡ max (largest f n) (f n)
unfolding largest
largest-suc f n = refl

-- each is at most the largest
pub le-largest : (f : ℕ → ℕ) (n i : ℕ) → i < n → f i ≤ largest f n
unfolding largest
le-largest f zero i h = absurd (omega arith)
le-largest f (suc n) i h = go (le-largest f n i) (le_or_lt n i)
  where
    go : (i < n → f i ≤ largest f n) → (n ≤ i) ⊎ (i < n) → f i ≤ max (largest f n) (f n)
    go ih (inl k) =
        let e : i ≡ n = omega arith in
        rw e (omega arith)
    go ih (inr k) = omega (arith, ih k)

-- and whatever is at least each of them is at least the largest
pub largest-le : (f : ℕ → ℕ) (n v : ℕ) → ((i : ℕ) → i < n → f i ≤ v) → largest f n ≤ v
unfolding largest
largest-le f zero v h = omega arith
largest-le f (suc n) v h = omega (arith, largest-le f n v (λ i l. h i (omega arith)), h n (omega arith))

pub largest_cong : (f g : ℕ → ℕ) (n : ℕ) → ((i : ℕ) → i < n → f i ≡ g i) → largest f n ≡ largest g n
unfolding largest
largest_cong f g zero h = refl
largest_cong f g (suc n) h = rw (largest_cong f g n (λ i l. h i (omega arith)), h n (omega arith))

-- there is only one
pub lag-one : (f : ℕ → ℕ) (q x d e : ℕ) → Lag f q x d → Lag f q x e → d ≡ e
lag-one f q x d e g h = go (le_or_lt d e) (le_or_lt e d)
  where
    go : (d ≤ e) ⊎ (e < d) → (e ≤ d) ⊎ (d < e) → d ≡ e
    go (inl a) (inl b) = omega arith
    go (inr a) k = absurd (omega (arith, h.reaches, g.before e a))
    go (inl a) (inr b) = absurd (omega (arith, g.reaches, h.before d b))

module _ (P : ℕ) (S : Curve) (good : IsCurve P S) (rate : 1 ≤ S.rate) (q x : ℕ) where
  reached : q ≤ at P S (x + (length S.table + q * P))
  reached =
      let n = length S.table + q * P in
      omega (arith, grows P S good rate q, at-rises P S good n (x + n) (omega arith))

  found : Found (λ d. at P S (x + d)) q 0 (find (λ d. at P S (x + d)) q (suc (length S.table + q * P)) 0)
  found = find-found (λ d. at P S (x + d)) q (suc (length S.table + q * P)) 0 (length S.table + q * P) (omega arith) (omega arith) reached

  place : lag P S q x ≡ found.place
  unfolding lag slots
  place = ap slots found.is

  -- LAG is the least
  pub lag-least : Lag (at P S) q x (lag P S q x)
  lag-least = rw place (record { reaches = found.reaches; before = λ e h. found.before e (omega arith) h })

  -- as far as the search goes
  pub lag-most : lag P S q x ≤ length S.table + q * P
  lag-most = go (le_or_lt (lag P S q x) (length S.table + q * P))
    where
      go : (lag P S q x ≤ length S.table + q * P) ⊎ (length S.table + q * P < lag P S q x) → lag P S q x ≤ length S.table + q * P
      go (inl a) = a
      go (inr a) = absurd (omega (arith, reached, lag-least.before (length S.table + q * P) a))

  -- by the delay look-up
  pub lag-delay : (m : ℕ) → 1 ≤ x → delay P S q ≡ slot m → lag P S q x ≡ m - x
  unfolding come
  lag-delay m h e = lag-one (at P S) q x (lag P S q x) (m - x) lag-least (record { reaches = there; before = back })
    where
      there : q ≤ at P S (x + (m - x))
      there =
          let t = x + (m - x) in
          (delay-law P S good q t (omega arith)).0 (rw e (le→leb m t (omega arith)))

      back : (d : ℕ) → d < m - x → at P S (x + d) < q
      back d l = go (le_or_lt q (at P S (x + d)))
        where
          go : (q ≤ at P S (x + d)) ⊎ (at P S (x + d) < q) → at P S (x + d) < q
          go (inl a) =
              let c : T (leb m (x + d)) = rw e at ((delay-law P S good q (x + d) (omega arith)).1 a) in
              absurd (omega (arith, leb→le m (x + d) c))
          go (inr a) = a

-- what keeps figures small, for a service of a sheet and an envelope up to 500 in its table
module _ (P : ℕ) (b S : Curve) (good : IsCurve P S) (rate : 1 ≤ S.rate) (few : P ≤ 16) (short : length S.table ≤ 64) where
  pub lag-small : (x : ℕ) → at P b x ≤ 500 → lag P S (at P b x) x ≤ 8064
  lag-small x h =
      let far : at P b x * P ≤ 500 * 16 = mul-le-mul {n₁ = at P b x} {n₂ = 500} h few in
      omega (arith, lag-most P S good rate (at P b x) x)

  pub figure-small : ((x : ℕ) → x ≤ length b.table → at P b x ≤ 500) → figure P b S ≤ 8064
  unfolding figure
  figure-small h =
      largest-le (λ i. lag P S (at P b (suc i)) (suc i)) (length b.table) 8064 (λ i l. lag-small (suc i) (h (suc i) l))
