-- Laws of specs/Passes.antt. What the verdict means, over any load L and any C, what the link can send in t slots: the slack and its first slot count, or the first
-- failing slot count, among all t ≥ 1. There is no horizon, and there is only one answer. Assumes nothing.
use Rattle.std.specs.Prelude.{◌≡◌, ◌⊎◌, ℕ, ◌≤◌, ◌<◌}
use Rattle.std.proofs.Common.{inl, inr, arith}
use Rattle.curve.proofs.OrderLaws.{le_or_lt}
use Rattle.verdict.specs.Passes.{Passes, Fails}

module _ (L C : ℕ → ℕ) where
  pub passed-one : (m w n v : ℕ) → Passes L C m w → Passes L C n v → (m ≡ n) × (w ≡ v)
  passed-one m w n v f g = (e, go (le_or_lt w v) (le_or_lt v w))
    where
      e : m ≡ n
      e = omega (arith, f.gives, g.gives, f.least v g.from, g.least w f.from)

      go : (w ≤ v) ⊎ (v < w) → (v ≤ w) ⊎ (w < v) → w ≡ v
      go h (inr k) = absurd (omega (arith, e, f.gives, g.first w f.from k))
      go (inr h) (inl k) = absurd (omega (arith, e, g.gives, f.first v g.from h))
      go (inl h) (inl k) = omega arith

  pub failed-one : (w v : ℕ) → Fails L C w → Fails L C v → w ≡ v
  failed-one w v f g = go (le_or_lt w v) (le_or_lt v w)
    where
      go : (w ≤ v) ⊎ (v < w) → (v ≤ w) ⊎ (w < v) → w ≡ v
      go h (inr k) = absurd (omega (arith, f.over, g.first w f.from k))
      go (inr h) (inl k) = absurd (omega (arith, g.over, f.first v g.from h))
      go (inl h) (inl k) = omega arith

  pub not_both : (m w v : ℕ) → Passes L C m w → Fails L C v → ⊥
  not_both m w v f g = omega (arith, f.least v g.from, g.over)

  -- already t = 1 keeps the slack down
  pub slack-most : (m w : ℕ) → Passes L C m w → m ≤ C 1
  slack-most m w g = omega (arith, g.least 1 (omega arith))
