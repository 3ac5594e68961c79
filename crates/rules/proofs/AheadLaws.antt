-- Laws of specs/Ahead.antt. A fixed amount of history is exact: of a curve and of all slots so far it is enough to keep n numbers, which one rule brings forward from slot to slot.
-- Over any A, with A(s) the packets taken in by slot s; services and envelopes have one form of table. Assumes nothing.
use Rattle.std.specs.Prelude.{◌≡◌, ℕ, suc, ◌+◌, ◌-◌, ◌<◌, min, length}
use Rattle.std.proofs.Common.{ap, ◌∙◌}
use native.Mathlib.Omega.{arith}
use Rattle.curve.specs.Order.{Rises}
use Rattle.curve.specs.Least.{least}
use Rattle.curve.proofs.LeastLaws.{least_cong, least-le, le-least, least-add, least-sub}
use Rattle.curve.specs.Total.{total}
use Rattle.curve.specs.Curve.{Curve, at}
use Rattle.curve.proofs.CurveLaws.{at_tail}
use Rattle.curve.specs.Rises.{IsCurve}
use Rattle.rules.specs.Model.{headroom}
use Rattle.rules.specs.Ahead.{ahead}

pub ahead-zero : (F A : ℕ → ℕ) (x : ℕ) → ahead F A 0 x ≡ A 0 + F x
unfolding ahead least
ahead-zero F A x =
    let e : 0 + x - 0 ≡ x = omega arith in
    rw e (omega arith)

-- a slot later, every older slot is read one further on, and the new one joins
pub ahead-suc : (F A : ℕ → ℕ) (t x : ℕ) → ahead F A (suc t) x ≡ min (ahead F A t (suc x)) (A (suc t) + F x)
unfolding ahead least
ahead-suc F A t x =
    let e : suc t + x - suc t ≡ x = omega arith in
    rw (
      least_cong (λ s. A s + F (suc t + x - s)) (λ s. A s + F (t + suc x - s)) t
          (λ s l.
          let f : suc t + x - s ≡ t + suc x - s = omega arith in
          rw f),
      e,
    )

pub ahead-rises : (F A : ℕ → ℕ) → Rises F → (t : ℕ) → Rises (ahead F A t)
unfolding ahead
ahead-rises F A rises t x y h =
    le-least (λ s. A s + F (t + y - s)) t (least (λ s. A s + F (t + x - s)) t)
    (λ s l. omega (arith, least-le (λ s. A s + F (t + x - s)) t s l, rises (t + x - s) (t + y - s) (omega arith)))

-- HEADROOM of slot u + 1 from the envelope's table
pub headroom-ahead : (b a : ℕ → ℕ) (u : ℕ) → headroom b a u ≡ ahead b (total a) u 1 - total a u
unfolding headroom ahead
headroom-ahead b a u =
    least-sub (λ s. total a s + b (suc u - s)) (total a u) u
    ∙ ap (λ z. z - total a u)
    (least_cong (λ s. total a s + b (suc u - s)) (λ s. total a s + b (u + 1 - s)) u
    (λ s l.
    let e : suc u - s ≡ u + 1 - s = omega arith in
    rw e))

module _ (P : ℕ) (F : Curve) (good : IsCurve P F) (A : ℕ → ℕ) (t : ℕ) where
  -- TAIL LAW: old slots bind through the tail
  pub ahead_tail : (x : ℕ) → length F.table < x + P → ahead (at P F) A t (x + P) ≡ ahead (at P F) A t x + F.rate
  unfolding ahead
  ahead_tail x h =
      least_cong (λ s. A s + at P F (t + (x + P) - s)) (λ s. A s + at P F (t + x - s) + F.rate) t
      (λ s l.
      let e : t + (x + P) - s ≡ t + x - s + P = omega arith in
      rw e (omega (arith, at_tail P F good.period (t + x - s) (omega arith))))
      ∙ least-add (λ s. A s + at P F (t + x - s)) F.rate t
