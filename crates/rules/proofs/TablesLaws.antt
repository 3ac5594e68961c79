-- Laws of specs/Tables.antt. A kept table is itself a curve of the same period and rate, and a deadline is a delay look-up in it: what serves curves serves the history too. Assumes nothing.
use Rattle.std.specs.Prelude.{◌≡◌, ◌⊎◌, ◌↔◌, List, ℕ, zero, suc, ◌+◌, ◌-◌, ◌≤◌, ◌<◌, length}
use Rattle.std.proofs.Math.Path.{refl}
use Rattle.std.proofs.Common.{ap, ◌∙◌, inl, inr}
use native.Mathlib.Omega.{arith}
use Rattle.std.proofs.Math.Dec.{T}
use Rattle.curve.proofs.OrderLaws.{le_or_lt}
use Rattle.curve.specs.Least.{least}
use Rattle.curve.proofs.LeastLaws.{least-le, le-least}
use Rattle.curve.specs.Total.{total}
use Rattle.curve.specs.Curve.{Curve, entry, at}
use Rattle.curve.proofs.CurveLaws.{at_table, at-past}
use Rattle.curve.specs.Rises.{IsCurve}
use Rattle.curve.proofs.RisesLaws.{at-rises}
use Rattle.curve.specs.Delay.{Due, come, delay}
use Rattle.curve.proofs.DelayLaws.{delay-law, delay-from, due_ext}
use Rattle.rules.specs.Deadline.{shift, deadline}
use Rattle.rules.proofs.DeadlineLaws.{deadline-from, due-sound, due-complete, come-shift, shift_from}
use Rattle.rules.specs.Ahead.{ahead, Holds}
use Rattle.rules.proofs.AheadLaws.{ahead-rises, ahead_tail}
use Rattle.rules.specs.Tables.{kept_curve}

module _ (P : ℕ) (F : Curve) (good : IsCurve P F) (A : ℕ → ℕ) (t : ℕ) (l : List ℕ) (holds : Holds P F A t l) where
  entry-is : (x : ℕ) → x < length F.table → entry l (suc x) ≡ ahead (at P F) A t (suc x)
  unfolding entry
  entry-is x h = holds.entry x h

  entry-none : entry l 0 ≡ 0
  unfolding entry
  entry-none = refl

  steps : (x : ℕ) → x < length l → entry l x ≤ entry l (suc x)
  steps zero h = omega (arith, entry-none)
  steps (suc x) h =
      let n : length l ≡ length F.table = holds.size in
      omega (
        arith,
        entry-is x (omega arith),
        entry-is (suc x) (omega arith),
        ahead-rises (at P F) A (at-rises P F good) t (suc x) (suc (suc x)) (omega arith),
      )

  join : entry l (length l) ≤ entry l (length l + 1 - P) + F.rate
  join =
      let n : length l ≡ length F.table = holds.size in
      let p : 1 ≤ P = good.period in
      let long : P ≤ length F.table = good.long in
      let x = length F.table - 1 in
      let y = length F.table - P in
      let ex : length l ≡ suc x = omega arith in
      let ey : length l + 1 - P ≡ suc y = omega arith in
      let ez : suc y + P ≡ suc (suc x) = omega arith in
      let z : ahead (at P F) A t (suc (suc x)) ≡ ahead (at P F) A t (suc y) + F.rate = rw ez at (ahead_tail P F good A t (suc y) (omega arith)) in
      omega (
        arith,
        ap (entry l) ex,
        ap (entry l) ey,
        entry-is x (omega arith),
        entry-is y (omega arith),
        ahead-rises (at P F) A (at-rises P F good) t (suc x) (suc (suc x)) (omega arith),
      )

  -- IT IS A CURVE
  pub kept-curve : IsCurve P (kept_curve F l)
  kept-curve =
      let n : length l ≡ length F.table = holds.size in
      record { period = good.period; long = omega (arith, good.long); steps = steps; join = join }

  up_to : (k x : ℕ) → x ≤ k → 1 ≤ x → at P (kept_curve F l) x ≡ ahead (at P F) A t x
  up_to zero x h s = absurd (omega arith)
  up_to (suc k) zero h s = absurd (omega arith)
  up_to (suc k) (suc x) h s = go (le_or_lt (suc x) (length F.table)) (up_to k (suc x - P))
    where
      go : (suc x ≤ length F.table) ⊎ (length F.table < suc x)
          → (suc x - P ≤ k → 1 ≤ suc x - P → at P (kept_curve F l) (suc x - P) ≡ ahead (at P F) A t (suc x - P))
          → at P (kept_curve F l) (suc x) ≡ ahead (at P F) A t (suc x)
      go (inl m) ih = at_table P (kept_curve F l) x (omega (arith, holds.size)) ∙ holds.entry x m
      go (inr m) ih =
          let n : length l ≡ length F.table = holds.size in
          let p : 1 ≤ P = good.period in
          let long : P ≤ length F.table = good.long in
          let e : suc x - P + P ≡ suc x = omega arith in
          omega (
            arith,
            at-past P (kept_curve F l) p (omega arith) (suc x) (omega arith),
            ih (omega arith) (omega arith),
            rw e at (ahead_tail P F good A t (suc x - P) (omega arith)),
          )

  -- and its values are ahead_t, past the table too
  pub kept_at : (x : ℕ) → 1 ≤ x → at P (kept_curve F l) x ≡ ahead (at P F) A t x
  kept_at x = up_to x x (omega arith)

-- DEADLINE of packet N taken in slot u + 1: u + the least m ≥ 1 with ahead_u(m) ≥ N, however that least is found
module _ (P : ℕ) (S : Curve) (good : IsCurve P S) (a : ℕ → ℕ) (N u : ℕ) (taken : 1 ≤ a u) where
  by : (e : Due) → ((m : ℕ) → 1 ≤ m → T (come e m) ↔ (N ≤ ahead (at P S) (total a) u m)) → ((m : ℕ) → T (come e m) → 1 ≤ m)
      → deadline (delay P S) a N (suc u) ≡ shift u e
  unfolding ahead
  by e law some = due_ext (deadline (delay P S) a N (suc u)) (shift u e) (λ t. (there t, back t))
    where
      there : (t : ℕ) → T (come (deadline (delay P S) a N (suc u)) t) → T (come (shift u e) t)
      there t h =
          let l : u < t = deadline-from (delay P S) (delay-from P S) a N u t taken h in
          let n : u + (t - u) ≡ t = omega arith in
          (come-shift u e t (omega arith)).1
          ((law (t - u) (omega arith)).1
          (rw n
          (le-least (λ s. total a s + at P S (t - s)) u N
          (due-sound (delay P S) (at P S) (delay-law P S good) a N t (at-rises P S good) u l taken h))))

      back : (t : ℕ) → T (come (shift u e) t) → T (come (deadline (delay P S) a N (suc u)) t)
      back t h =
          let l : u ≤ t = shift_from u e t h in
          let k : T (come e (t - u)) = (come-shift u e t l).0 h in
          let m : 1 ≤ t - u = some (t - u) k in
          let n : u + (t - u) ≡ t = omega arith in
          let z : N ≤ least (λ s. total a s + at P S (t - s)) u = rw n at ((law (t - u) m).0 k) in
          due-complete (delay P S) (at P S) (delay-law P S good) a N t u (omega arith)
          (λ r i. omega (arith, least-le (λ s. total a s + at P S (t - s)) u r i))

  -- by the delay look-up of the service's table
  pub deadline-table : (l : List ℕ) → Holds P S (total a) u l → deadline (delay P S) a N (suc u) ≡ shift u (delay P (kept_curve S l) N)
  deadline-table l holds = by (delay P (kept_curve S l) N) law (delay-from P (kept_curve S l) N)
    where
      law : (m : ℕ) → 1 ≤ m → T (come (delay P (kept_curve S l) N) m) ↔ (N ≤ ahead (at P S) (total a) u m)
      law m h = rw (kept_at P S good (total a) u l holds m h) at (delay-law P (kept_curve S l) (kept-curve P S good (total a) u l holds) N m h)
