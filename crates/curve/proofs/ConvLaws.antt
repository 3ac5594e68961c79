-- Laws of specs/Conv.antt. (b*S)(t), the convolution of the verdict, over any two functions of slots. Assumes nothing.
use Rattle.std.specs.Prelude.{◌≡◌, ℕ, ◌+◌, ◌-◌, ◌≤◌}
use native.Mathlib.Omega.{arith}
use Rattle.curve.proofs.LeastLaws.{least-le, least_attained, least_zero}
use Rattle.curve.specs.Conv.{conv}

-- over no slots
pub conv-none : (b S : ℕ → ℕ) → conv b S 0 ≡ b 0 + S 0
unfolding conv
conv-none b S = least_zero _

module _ (b S : ℕ → ℕ) (t : ℕ) where
  -- at most each way to share t slots between b and S
  pub conv-le : (s u : ℕ) → s + u ≡ t → conv b S t ≤ b s + S u
  unfolding conv
  conv-le s u e =
      let d : t - s ≡ u = omega arith in
      rw d at (least-le (λ s. b s + S (t - s)) t s (omega arith))

  -- and one of them
  pub record Best : Type 0 where
    pub s : ℕ
    pub u : ℕ
    pub sum : s + u ≡ t
    pub value : conv b S t ≡ b s + S u

  pub conv_best : Best
  unfolding conv
  conv_best =
      let m = least_attained (λ s. b s + S (t - s)) t in
      record { s = m.place; u = t - m.place; sum = omega (arith, m.within); value = m.value }
