-- Laws of specs/Curves.antt. What the theorems about a run ask of a sheet: that its services and envelopes are curves, and that its load stays within c·t. Both follow from what a
-- reader and the verdict make sure of. Assumes nothing.
use Rattle.std.specs.Prelude.{◌≡◌, T}
use Prim.Native.Nat.{ℕ, zero, suc, ◌*◌, ◌≤◌, ◌<◌}
use native.Mathlib.Omega.{arith}
use Rattle.curve.specs.Order.{Rises}
use Rattle.curve.specs.Total.{total}
use Rattle.curve.proofs.TotalLaws.{total-none}
use Rattle.curve.proofs.CurveLaws.{at_zero}
use Rattle.curve.proofs.RisesLaws.{at-rises}
use Rattle.curve.specs.Conv.{conv}
use Rattle.curve.proofs.ConvLaws.{conv-none}
use Rattle.curve.specs.Delay.{come, Delays}
use Rattle.curve.proofs.DelayLaws.{delay-law, delay-from}
use Rattle.sheet.specs.Sheet.{Sheet, WellMade, session, session_count}
use Rattle.verdict.specs.Load.{load}
use Rattle.verdict.specs.Passes.{Passes}
use Rattle.verdict.specs.Verdict.{load_of, can_send}
use Rattle.rules.specs.Model.{envelope_of, service_of, delay_of}
use Rattle.rules.specs.Curves.{Curves, WithinCapacity}

-- a sheet within 01's limits has them
pub made-curves : (sheet : Sheet) → WellMade sheet → Curves sheet
made-curves sheet made =
    record { services = λ i h. (made.each i h).service.curve; envelopes = λ i h. (made.each i h).envelope.curve }

-- it is what the verdict "passed" says, whatever the slack
pub passes-within : (sheet : Sheet) (slack w : ℕ) → Passes (load_of sheet) (can_send sheet.capacity) slack w → WithinCapacity sheet
passes-within sheet slack w passes t h = omega (arith, passes.least t h)

module _ (sheet : Sheet) where
  pub envelope-none : (i : ℕ) → envelope_of sheet i 0 ≡ 0
  unfolding envelope_of
  envelope-none i = at_zero sheet.period (session sheet i).envelope

  pub service-none : (i : ℕ) → service_of sheet i 0 ≡ 0
  unfolding service_of
  service-none i = at_zero sheet.period (session sheet i).service

  -- no D(q) is below 1
  pub delay-some : (i q t : ℕ) → T (come (delay_of sheet i q) t) → 1 ≤ t
  unfolding delay_of
  delay-some i = delay-from sheet.period (session sheet i).service

  none : (i : ℕ) → conv (envelope_of sheet i) (service_of sheet i) 0 ≡ 0
  none i = omega (arith, conv-none (envelope_of sheet i) (service_of sheet i), envelope-none i, service-none i)

  -- the inequality holds at t = 0 too
  pub load-within : WithinCapacity sheet → (t : ℕ) → total (λ i. conv (envelope_of sheet i) (service_of sheet i) t) (session_count sheet) ≤ sheet.capacity * t
  unfolding load envelope_of service_of
  load-within within zero =
      omega (
        arith,
        total-none (λ i. conv (envelope_of sheet i) (service_of sheet i) 0) (session_count sheet)
            (λ i h. none i),
      )
  load-within within (suc t) = within (suc t) (omega arith)

module _ (sheet : Sheet) (curves : Curves sheet) (i : ℕ) (h : i < session_count sheet) where
  pub envelope-rises : Rises (envelope_of sheet i)
  unfolding envelope_of
  envelope-rises = at-rises sheet.period (session sheet i).envelope (curves.envelopes i h)

  pub service-rises : Rises (service_of sheet i)
  unfolding service_of
  service-rises = at-rises sheet.period (session sheet i).service (curves.services i h)

  pub delays : Delays (delay_of sheet i) (service_of sheet i)
  unfolding delay_of service_of
  delays = delay-law sheet.period (session sheet i).service (curves.services i h)
