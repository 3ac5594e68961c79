-- Laws of specs/Steps.antt. One step after the other over a list, and the same as a sequence: a history may be read either way. Assumes nothing.
use Rattle.std.specs.Prelude.{◌≡◌, get_or, take}
use Rattle.std.proofs.Math.Path.{refl}
use mathlib.Core.List.{List, [], ◌∷◌, ◌++◌}
use Prim.Native.Nat.{ℕ, suc, ◌+◌, ◌≤◌, ◌<◌}
use Rattle.std.proofs.Math.Nat.{add-zero}
use native.Mathlib.Omega.{arith}
use Rattle.std.proofs.Math.ListN.{length}
use Rattle.std.proofs.Common.{get_or-take, length-take-le}
use Rattle.rules.specs.Steps.{steps}

module _ {X Y : Type 0} (step : X → Y → X) where
  -- one step more
  pub steps_snoc : (x : X) (h : List Y) (y : Y) → steps step x (h ++ (y ∷ [])) ≡ step (steps step x h) y
  unfolding steps
  steps_snoc x [] y = refl
  steps_snoc x (z ∷ h) y = steps_snoc (step x z) h y

  steps_seq : (none : Y) (q : ℕ → X) (h : List Y) (k : ℕ) → ((u : ℕ) → u < length h → q (suc (k + u)) ≡ step (q (k + u)) (get_or h u none))
      → steps step (q k) h ≡ q (k + length h)
  unfolding steps
  steps_seq none q [] k e = rw add-zero
  steps_seq none q (y ∷ h) k e =
      let f : q (suc k) ≡ step (q k) y = rw add-zero at (e 0 (omega arith)) in
      let n : k + suc (length h) ≡ suc k + length h = omega arith in
      rw (n, ← f)
      (steps_seq none q h (suc k)
      (λ u l.
      let m : suc k + u ≡ k + suc u = omega arith in
      rw m (e (suc u) (omega arith))))

  -- after the first u of a list
  pub steps-take : (none : Y) (q : ℕ → X) (h : List Y) → ((u : ℕ) → q (suc u) ≡ step (q u) (get_or h u none))
      → (u : ℕ) → u ≤ length h → steps step (q 0) (take u h) ≡ q u
  steps-take none q h e u l =
      let n : 0 + length (take u h) ≡ u = omega (arith, length-take-le u h l) in
      rw n at
      (steps_seq none q (take u h) 0
      (λ v k.
      let m : 0 + v ≡ v = omega arith in
      rw (m, get_or-take u h v none (omega (arith, length-take-le u h l))) (e v)))
