-- Laws of specs/Share.antt. (b*S)(t) as the program evaluates it: the better of two ways to share t slots at each position, and the least of these. Assumes nothing.
use Rattle.std.specs.Prelude.{◌≡◌, ℕ, zero, suc, ◌+◌, ◌-◌, ◌≤◌, min, length}
use Rattle.std.proofs.Math.Path.{refl}
use Rattle.std.proofs.Common.{sym, arith}
use Rattle.curve.specs.Least.{least}
use Rattle.curve.proofs.LeastLaws.{least-suc, least-le, le-least}
use Rattle.curve.specs.Curve.{Curve, at}
use Rattle.curve.specs.Conv.{conv}
use Rattle.curve.proofs.ConvLaws.{conv-le}
use Rattle.verdict.proofs.Candidates.{conv-tried}
use Rattle.verdict.specs.Share.{better}

module _ (P : ℕ) (b S : Curve) (t : ℕ) where
  better-is : (x : ℕ) → better P b S t x ≡ min (at P b x + at P S (t - x)) (at P b (t - x) + at P S x)
  unfolding better
  better-is x = refl

  -- it is never less than (b*S)(t)
  better-low : (x : ℕ) → x ≤ t → conv (at P b) (at P S) t ≤ better P b S t x
  better-low x h = omega (arith, better-is x, conv-le (at P b) (at P S) t x (t - x) (omega arith), conv-le (at P b) (at P S) t (t - x) x (omega arith))

  -- SHARE: the least of positions 0..64, up to t, is (b*S)(t)
  pub share_is : 1 ≤ P → P ≤ length b.table → P ≤ length S.table → length b.table ≤ 64 → length S.table ≤ 64
      → least (better P b S t) (min t 64) ≡ conv (at P b) (at P S) t
  share_is p lb lS sb sS =
      conv-tried P b S p lb lS sb sS t _ (le-least (better P b S t) (min t 64) _ (λ x h. better-low x (omega arith)))
      (λ x h k. omega (arith, tried x h k, better-is x))
      (λ x h k. omega (arith, tried x h k, better-is x))
    where
      tried : (x : ℕ) → x ≤ t → x ≤ 64 → least (better P b S t) (min t 64) ≤ better P b S t x
      tried x h k = least-le (better P b S t) (min t 64) x (omega arith)

-- one number more: the least of i numbers, and the one after them
pub least-next : (f : ℕ → ℕ) (i m : ℕ) → 1 ≤ i → m ≡ least f (i - 1) → min m (f i) ≡ least f (i + 1 - 1)
least-next f zero m h e = absurd (omega arith)
least-next f (suc i) m h e =
    let a : suc i - 1 ≡ i = omega arith in
    let z : suc i + 1 - 1 ≡ suc i = omega arith in
    rw (z, e, a) (sym (least-suc f i))
