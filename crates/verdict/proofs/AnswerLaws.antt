-- Laws of specs/Answer.antt. Every load of a sheet has an answer, passed or failed, against any link that the stop rule takes, and a walk finds it. Assumes nothing.
use Rattle.std.specs.Prelude.{◌≡◌, ◌⊎◌, ℕ, zero, suc, ◌+◌, ◌-◌, ◌≤◌, ◌<◌}
use Rattle.std.proofs.Common.{inl, inr, add-one, arith}
use Rattle.curve.proofs.OrderLaws.{le_or_lt}
use Rattle.curve.specs.Curve.{Curve}
use Rattle.verdict.specs.Load.{load, Tables}
use Rattle.verdict.proofs.BendsLaws.{load-bends}
use Rattle.verdict.specs.Passes.{Passes, Fails}
use Rattle.verdict.proofs.PassesLaws.{passed-one, failed-one, not_both}
use Rattle.verdict.proofs.StopLaws.{stop, settles}
use Rattle.verdict.specs.Walk.{Lead, Row}
use Rattle.verdict.proofs.WalkLaws.{lead-none, lead-new, lead-keep, lead-done, row_settled}
use Rattle.verdict.specs.Link.{Link}
use Rattle.verdict.specs.Answer.{Walked, passes, fails}

pub walk : (L C : ℕ → ℕ) (T : ℕ) → Walked L C T
walk L C zero = passes (suc (C 1)) 0 (lead-none L C (suc (C 1)) (omega arith))
walk L C (suc T) = go (walk L C T) (le_or_lt (L (suc T)) (C (suc T)))
  where
    go : Walked L C T → (L (suc T) ≤ C (suc T)) ⊎ (C (suc T) < L (suc T)) → Walked L C (suc T)
    go (fails w l f) d = fails w (omega arith) f
    go (passes m w g) (inr d) = fails (suc T) (omega arith) (record { from = omega arith; over = d; first = λ t a b. omega (arith, g.least t a (omega arith)) })
    go (passes m w g) (inl d) = next (le_or_lt m (C (suc T) - L (suc T)))
      where
        e : T + 1 ≡ suc T
        e = add-one T

        next : (m ≤ C (suc T) - L (suc T)) ⊎ (C (suc T) - L (suc T) < m) → Walked L C (suc T)
        next (inl k) = passes m w (lead-keep L C (suc T) m w (C (suc T) - L (suc T)) (omega arith) (rw e at g) (omega arith) k)
        next (inr k) = passes (C (suc T) - L (suc T)) (suc T) (lead-new L C (suc T) m w (C (suc T) - L (suc T)) (omega arith) (rw e at g) (omega arith) k)

module _ (C : ℕ → ℕ) (R P end : ℕ) (link : Link C R P end) (b S : ℕ → Curve) (m : ℕ) (p1 : 1 ≤ P) (p16 : P ≤ 16) (g : Tables P b S m) where
  -- the walk may stop after T, with P steady slot counts in a row past 128
  pub stops : (T slack w : ℕ) → Lead (load P b S m) C (T + 1) slack w → Row (load P b S m) R P 128 (T + 1) P → Passes (load P b S m) C slack w
  stops T slack w l r =
      let late : 128 + P ≤ T = omega (arith, r.late) in
      stop (load P b S m) C R P 128 p1 (omega arith) (load-bends P b S m p1 g) link.gains T late (row_settled (load P b S m) R P 128 T r) slack w
      (lead-done (load P b S m) C T slack w (omega arith) l)

  -- and it may stop after `end`, whatever its row
  pub stops-there : (slack w : ℕ) → Lead (load P b S m) C (end + 1) slack w → Passes (load P b S m) C slack w
  stops-there slack w l =
      let late : 128 + P ≤ end = omega (arith, link.far) in
      let bends = load-bends P b S m p1 g in
      let h = lead-done (load P b S m) C end slack w (omega arith) l in
      let settled = settles (load P b S m) C R P 128 p1 (omega arith) bends link.gains link.most link.below end link.far (λ t i j. omega (arith, h.least t i j)) in
      stop (load P b S m) C R P 128 p1 (omega arith) bends link.gains end late settled slack w h

  -- SOME ANSWER ALWAYS EXISTS
  pub some-answer : ((slack : ℕ) × (w : ℕ) × Passes (load P b S m) C slack w) ⊎ ((w : ℕ) × Fails (load P b S m) C w)
  some-answer = go (walk (load P b S m) C end)
    where
      go : Walked (load P b S m) C end → ((slack : ℕ) × (w : ℕ) × Passes (load P b S m) C slack w) ⊎ ((w : ℕ) × Fails (load P b S m) C w)
      go (passes slack w l) = inl (slack, w, stops-there slack w l)
      go (fails w l f) = inr (w, f)

  -- and its slot count is at most `end`
  pub passes-by : (slack w : ℕ) → Passes (load P b S m) C slack w → w ≤ end
  passes-by slack w h = go (walk (load P b S m) C end)
    where
      go : Walked (load P b S m) C end → w ≤ end
      go (passes n v l) = omega (arith, l.within, (passed-one (load P b S m) C slack w n v h (stops-there n v l)).1)
      go (fails v l f) = absurd (not_both (load P b S m) C slack w v h f)

  pub fails_by : (w : ℕ) → Fails (load P b S m) C w → w ≤ end
  fails_by w h = go (walk (load P b S m) C end)
    where
      go : Walked (load P b S m) C end → w ≤ end
      go (passes n v l) = absurd (not_both (load P b S m) C n v w (stops-there n v l) h)
      go (fails v l f) = omega (arith, failed-one (load P b S m) C w v h f)
