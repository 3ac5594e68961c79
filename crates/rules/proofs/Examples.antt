-- That the theorem's two hypotheses can be met: K1's sheet has curves and stays within its capacity, so the theorem speaks of it. Assumes nothing.
use Rattle.std.specs.Prelude.{◌≡◌, List, [], ◌∷◌, ℕ, zero, suc, ◌-◌, ◌≤◌, ◌<◌, length, take}
use Rattle.std.proofs.Common.{arith}
use Rattle.curve.specs.Total.{total}
use Rattle.curve.specs.Curve.{entry, at}
use Rattle.curve.proofs.CurveLaws.{at_zero, at_table, at-past}
use Rattle.curve.specs.Rises.{IsCurve}
use Rattle.curve.proofs.ConvLaws.{conv-le}
use Rattle.sheet.specs.Sheet.{session}
use Rattle.verdict.specs.Load.{load}
use Rattle.rules.specs.Model.{after, service, envelope, K2}
use Rattle.rules.specs.Curves.{Curves, WithinCapacity}
use Rattle.rules.specs.Main.{Kept}
use Rattle.rules.specs.Base.{offers_of}
use Rattle.rules.proofs.BaseLaws.{kept-within}

-- its curves never fall
service_ok : IsCurve 1 service
unfolding entry
service_ok = record { period = omega arith; long = omega arith; steps = step; join = omega arith }
  where
    step : (x : ℕ) → x < 1 → entry (1 ∷ []) x ≤ entry (1 ∷ []) (suc x)
    step zero h = omega arith
    step (suc x) h = absurd (omega arith)

envelope_ok : IsCurve 1 envelope
unfolding entry
envelope_ok = record { period = omega arith; long = omega arith; steps = step; join = omega arith }
  where
    step : (x : ℕ) → x < 1 → entry (3 ∷ []) x ≤ entry (3 ∷ []) (suc x)
    step zero h = omega arith
    step (suc x) h = absurd (omega arith)

k2-curves : Curves K2
unfolding session
k2-curves = record { services = s; envelopes = e }
  where
    s : (i : ℕ) → i < 1 → IsCurve 1 (session K2 i).service
    s zero h = service_ok
    s (suc i) h = absurd (omega arith)

    e : (i : ℕ) → i < 1 → IsCurve 1 (session K2 i).envelope
    e zero h = envelope_ok
    e (suc i) h = absurd (omega arith)

serves : (x : ℕ) → at 1 service x ≡ x
serves zero = at_zero 1 service
serves (suc zero) = at_table 1 service 0 (omega arith)
serves (suc (suc x)) =
    let e : suc (suc x) - 1 ≡ suc x = omega arith in
    omega (arith, rw e at (at-past 1 service (omega arith) (omega arith) (suc (suc x)) (omega arith)), serves (suc x))

k2-within : WithinCapacity K2
unfolding session load total
k2-within t h = omega (arith, conv-le (at 1 envelope) (at 1 service) t 0 t (omega arith), at_zero 1 envelope, serves t)

k2-kept : (history : List (List ℕ)) → Kept K2 (offers_of history) (λ u. after K2 (take u history)) (length history)
k2-kept = kept-within K2 k2-curves k2-within
