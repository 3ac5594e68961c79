-- Each pair is a number and the next. Assumes nothing.
use Rattle.std.proofs.Common.{◌≡◌, ◌+◌, ◌-◌, ◌≤◌, ◌<◌, ℕ, List, Bool, ◌&&◌, length, get_or, add-zero, arith}
use Rattle.std.proofs.Math.Dec.{leb}
use Rattle.std.proofs.Math.Decide.{ℕ_discrete}
use Rattle.std.proofs.lemmas.Iterator.{window_more}
use Rattle.guard.specs.Tells.{Tells, tells_map, tells_both, tells_le}
use Rattle.guard.specs.Test.{Steps}
use Rattle.guard.proofs.rises.Goals as goal

-- one more pair
steps_more : (b : List ℕ) (p q x y : ℕ) (all : Bool) → q ≡ p + 1 → x ≡ get_or b (p + 0) 0 → y ≡ get_or b (p + 1) 0
    → Tells all (Steps b (p + 1)) → Tells (all && leb x y) (Steps b (q + 1))
steps_more b p q x y all n e f t =
    tells_map (all && leb x y) {A = Steps b (p + 1) × (x ≤ y)} (λ s i h. more s i h (ℕ_discrete i p))
    (λ s. (λ i h. s i (omega arith), omega (arith, first, f, s p (omega arith)))) (tells_both all (leb x y) t (tells_le x y))
  where
    first : x ≡ get_or b p 0
    first = rw add-zero at e

    more : Steps b (p + 1) × (x ≤ y) → (i : ℕ) → i + 1 < q + 1 → Dec (i ≡ p) → get_or b i 0 ≤ get_or b (i + 1) 0
    more s i h (yes k) = rw k (omega (arith, first, f, s.1))
    more s i h (no k) = s.0 i (omega arith)

pub loop-pair-preserved : goal.loop-pair-preserved
loop-pair-preserved c =
    let l = c.loop-pair in
    let numbers = c.args.numbers.now in
    let m = window_more numbers l.pair-iterator c.next.new.self c.next.result c.in-Some.pair c.in-Some.is c.next.ensures.steps (omega arith) l.invariant.1 l.invariant.3 in (
      omega (arith, c.next.ensures.steps.0),
      omega (arith, m.0),
      omega (arith, m.0, m.2),
      m.1,
      steps_more numbers (length numbers - length l.pair-iterator.rest.now) (length numbers - length c.next.new.self.rest.now) _ _ l.all (omega (arith, m.0)) (m.3 0 0 (omega arith)) (m.3 1 0 (omega arith)) l.invariant.4,
    )

pub returns : goal.returns
returns c =
    let few = c.in-None.ensures.steps.1.0 in
    tells_map c.loop-pair.all (λ s i h. s i (omega (arith, few))) (λ s i h. s i (omega arith)) c.loop-pair.invariant.4
