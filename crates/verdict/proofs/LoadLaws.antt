-- Laws of specs/Load.antt. The load of a sheet: the sum of (b*S)(t) over its sessions, which the verdict holds against c·t. Assumes nothing.
use Rattle.std.specs.Prelude.{◌≡◌, ℕ, suc, ◌+◌, ◌*◌, ◌≤◌, ◌<◌, length, get_or}
use Rattle.std.proofs.Common.{arith}
use Rattle.curve.proofs.TotalLaws.{total-zero, total-suc, total-most}
use Rattle.curve.specs.Curve.{Curve, at}
use Rattle.curve.proofs.CurveLaws.{at_zero}
use Rattle.curve.proofs.Bounds.{at_most}
use Rattle.curve.specs.Conv.{conv}
use Rattle.curve.proofs.ConvLaws.{conv-le}
use Rattle.verdict.specs.Load.{load}

module _ (P : ℕ) (b S : ℕ → Curve) where
  pub load-none : (t : ℕ) → load P b S 0 t ≡ 0
  unfolding load
  load-none t = total-zero (λ i. conv (at P (b i)) (at P (S i)) t)

  -- one more session
  pub load-more : (m t : ℕ) → load P b S (suc m) t ≡ load P b S m t + conv (at P (b m)) (at P (S m)) t
  unfolding load
  load-more m t = total-suc (λ i. conv (at P (b i)) (at P (S i)) t) m

  -- the load is small: already the share that gives all t slots to S, with b(0) = 0, is
  pub load-most : (m : ℕ) → 1 ≤ P → ((i : ℕ) → i < m → P ≤ length (S i).table)
      → ((i j : ℕ) → i < m → j < length (S i).table → get_or (S i).table j 0 ≤ 500)
      → ((i : ℕ) → i < m → (S i).rate ≤ 256)
      → (t : ℕ) → load P b S m t ≤ m * (500 + 256 * t)
  unfolding load
  load-most m p long values rate t = total-most (λ i. conv (at P (b i)) (at P (S i)) t) m (500 + 256 * t) each
    where
      each : (i : ℕ) → i < m → conv (at P (b i)) (at P (S i)) t ≤ 500 + 256 * t
      each i h =
          omega
          (arith, conv-le (at P (b i)) (at P (S i)) t 0 t (omega arith), at_zero P (b i), at_most P (S i) 500 256 p (long i h) (λ j l. values i j h l) (rate i h) t)
