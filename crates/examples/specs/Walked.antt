-- The verdict on a load as a walk that computes: slot count by slot count it keeps the least slack, and it stops at the first failing one. For a load
-- that bends past T0, and a link that gains the same in every period, a walk over 1..T0 + P + C(T0)·P gives the verdict, which has no horizon. Assumes nothing.
use Rattle.std.specs.Prelude.{◌≡◌, refl, Bool, true, false, ℕ, zero, suc, ◌+◌, ◌-◌, ◌*◌, ◌≤◌, ltb}
use Rattle.std.proofs.Common.{arith, ltb-true, ltb-false}
use Rattle.verdict.specs.Bends.{Bends}
use Rattle.verdict.specs.Passes.{Passes, Fails}
use Rattle.verdict.specs.Stop.{Gains}
use Rattle.verdict.proofs.StopLaws.{settles, stop}
use Rattle.verdict.specs.Walk.{Lead}
use Rattle.verdict.proofs.WalkLaws.{lead-none, lead-new, lead-keep, lead-done}
use Rattle.verdict.specs.Verdict.{Case, passed, failed, unreadable}

-- k slot counts from t on, where m is the least slack before t and w the first slot count that gives it
unfoldable pub walk : (ℕ → ℕ) → (ℕ → ℕ) → ℕ → ℕ → ℕ → ℕ → Case
walk L C zero t m w = passed m w
walk L C (suc k) t m w =
    elim (ltb (C t) (L t)) [
      | true ↦ failed t
      | false ↦ elim (ltb (C t - L t) m) [ true ↦ walk L C k (t + 1) (C t - L t) t | false ↦ walk L C k (t + 1) m w ]
    ]

-- what is known before slot count t
abbrev Known : (ℕ → ℕ) → (ℕ → ℕ) → ℕ → Case → Type 0
Known L C t (passed m w) = Lead L C t m w
Known L C t (failed w) = Fails L C w
Known L C t (unreadable number place) = ⊥

-- what a walk comes to
walk_known : (L C : ℕ → ℕ) (k t m w : ℕ) → 1 ≤ t → Lead L C t m w → Known L C (t + k) (walk L C k t m w)
unfolding walk
walk_known L C zero t m w p g =
    let e : t + 0 ≡ t = omega arith in
    rw e g
walk_known L C (suc k) t m w p g =
    go (ltb (C t) (L t)) refl
    (λ n v l. walk_known L C k (t + 1) n v (omega arith) l)
  where
    e : t + suc k ≡ t + 1 + k
    e = omega arith

    go : (b : Bool) → ltb (C t) (L t) ≡ b
        → ((n v : ℕ) → Lead L C (t + 1) n v → Known L C (t + 1 + k) (walk L C k (t + 1) n v))
        → Known L C (t + suc k) (elim b [ true ↦ failed t | false ↦ elim (ltb (C t - L t) m) [ true ↦ walk L C k (t + 1) (C t - L t) t | false ↦ walk L C k (t + 1) m w ] ])
    go true h ih = record { from = p; over = ltb-true (C t) (L t) h; first = λ u a b. omega (arith, g.least u a b) }
    go false h ih = rw e (next (ltb (C t - L t) m) refl)
      where
        next : (b : Bool) → ltb (C t - L t) m ≡ b → Known L C (t + 1 + k) (elim b [ true ↦ walk L C k (t + 1) (C t - L t) t | false ↦ walk L C k (t + 1) m w ])
        next true d = ih (C t - L t) t (lead-new L C t m w (C t - L t) p g (omega (arith, ltb-false (C t) (L t) h)) (ltb-true (C t - L t) m d))
        next false d = ih m w (lead-keep L C t m w (C t - L t) p g (omega (arith, ltb-false (C t) (L t) h)) (ltb-false (C t - L t) m d))

-- what a verdict says of a load
abbrev pub Tells : (ℕ → ℕ) → (ℕ → ℕ) → Case → Type 0
Tells L C (passed m w) = Passes L C m w
Tells L C (failed w) = Fails L C w
Tells L C (unreadable number place) = ⊥

-- a walk this long settles everything
abbrev pub walked : (ℕ → ℕ) → (ℕ → ℕ) → ℕ → ℕ → Case
walked L C P T0 = walk L C (T0 + P + C T0 * P) 1 (suc (C 1)) 0

-- WALKED: what the walk comes to is the verdict
pub walked_tells : (L C : ℕ → ℕ) (R P T0 : ℕ) → 1 ≤ P → P ≤ T0 → Bends L P T0 → Gains C R P T0 → ((s : ℕ) → s ≤ T0 → C s ≤ C T0) → Tells L C (walked L C P T0)
walked_tells L C R P T0 p few bends gains most = go (walked L C P T0) (walk_known L C T 1 (suc (C 1)) 0 (omega arith) (lead-none L C (suc (C 1)) (omega arith)))
  where
    T : ℕ
    T = T0 + P + C T0 * P

    go : (v : Case) → Known L C (1 + T) v → Tells L C v
    go (failed w) f = f
    go (passed m w) g =
        let e : 1 + T ≡ T + 1 = omega arith in
        let h = lead-done L C T m w (omega arith) (rw e at g) in
        stop L C R P T0 p few bends gains T (omega arith) (settles L C R P T0 p few bends gains (C T0) most T (omega arith) (λ t i j. omega (arith, h.least t i j))) m w h
    go (unreadable number place) f = f
