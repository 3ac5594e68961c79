-- Laws of specs/Stop.antt. The stop rule, over any load that bends and any link that gains the same in every period: once the last P slot counts have no less slack
-- than a period before, the slack seen so far is the slack of all; and a walk that finds no failing slot count comes to such a place. Assumes nothing.
use Rattle.std.specs.Prelude.{◌≡◌, ◌⊎◌, ℕ, zero, suc, ◌+◌, ◌-◌, ◌*◌, ◌≤◌, ◌<◌}
use Rattle.std.proofs.Common.{inl, inr, mul-le-mul_right, arith}
use Rattle.curve.proofs.OrderLaws.{le_or_lt}
use Rattle.verdict.specs.Bends.{Bends}
use Rattle.verdict.specs.Passes.{Passes}
use Rattle.verdict.specs.Stop.{PassesTo, Gains, Steady, Settled}

module _ (L C : ℕ → ℕ) (R P T0 : ℕ) (p : 1 ≤ P) (few : P ≤ T0) (bends : Bends L P T0) (gains : Gains C R P T0) where
  -- once steady, steady a period later
  steady-next : (u : ℕ) → T0 < u + P → Steady L R P u → Steady L R P (u + P)
  steady-next u h s = omega (arith, bends u h)

  module _ (T : ℕ) (late : T0 + P ≤ T) where
    steady_on : Settled L R P T → (k u : ℕ) → u ≤ k → T < u + P + P → Steady L R P u
    steady_on s zero u h a = s u a (omega arith)
    steady_on s (suc k) u h a = go (steady_on s k (u - P)) (le_or_lt (u + P) T)
      where
        go : (u - P ≤ k → T < u - P + P + P → Steady L R P (u - P)) → (u + P ≤ T) ⊎ (T < u + P) → Steady L R P u
        go ih (inl b) = s u a b
        go ih (inr b) =
            let e : u - P + P ≡ u = omega arith in
            rw e at (steady-next (u - P) (omega arith) (ih (omega arith) (omega arith)))

    -- a later slot count has no less slack than one of the last P
    record Seen (t : ℕ) : Type 0 where
      v : ℕ
      recent : T < v + P
      seen : v ≤ T
      no_less : L t + C v ≤ L v + C t

    look_back : Settled L R P T → (k t : ℕ) → t ≤ k → T < t → Seen t
    look_back s zero t h a = absurd (omega arith)
    look_back s (suc k) t h a = go (look_back s k (t - P)) (le_or_lt (t - P) T)
      where
        e : t - P + P ≡ t
        e = omega arith

        f : L t ≤ L (t - P) + R
        f = rw e at (steady_on s (t - P) (t - P) (omega arith) (omega arith))

        g : C t ≡ C (t - P) + R
        g = rw e at (gains (t - P) (omega arith))

        go : (t - P ≤ k → T < t - P → Seen (t - P)) → (t - P ≤ T) ⊎ (T < t - P) → Seen t
        go ih (inl b) = record { v = t - P; recent = omega arith; seen = b; no_less = omega (arith, f, g) }
        go ih (inr b) =
            let m = ih (omega arith) b in
            record { v = m.v; recent = m.recent; seen = m.seen; no_less = omega (arith, f, g, m.no_less) }

    -- THE STOP RULE
    pub stop : Settled L R P T → (m w : ℕ) → PassesTo L C T m w → Passes L C m w
    stop s m w g = record { from = g.from; gives = g.gives; least = λ t a. all t a (le_or_lt t T); first = g.first }
      where
        all : (t : ℕ) → 1 ≤ t → (t ≤ T) ⊎ (T < t) → L t + m ≤ C t
        all t a (inl b) = g.least t a b
        all t a (inr b) =
            let e = look_back s t t (omega arith) b in
            omega (arith, e.no_less, g.least e.v (omega (arith, e.recent)) e.seen)

  -- u is not steady: then its slack has fallen by at least 1 in each period since T0
  record Sunk (u : ℕ) : Type 0 where
    start : ℕ
    turns : ℕ
    early : start ≤ T0
    place : start + turns * P ≡ u + P
    deep : L start + C (u + P) + turns ≤ C start + L (u + P)

  deeper : (y u : ℕ) → y + P ≡ u → T0 < u + P → L u + R < L (u + P) → Sunk y → Sunk u
  deeper y u e a f m =
      let d : L m.start + C u + m.turns ≤ C m.start + L u = rw e at m.deep in
      record { start = m.start; turns = suc m.turns; early = m.early; place = omega (arith, m.place); deep = omega (arith, gains u a) }

  sink : (k u : ℕ) → u ≤ k → T0 < u + P → L u + R < L (u + P) → Sunk u
  sink zero u h a f = record { start = u; turns = 1; early = omega arith; place = omega arith; deep = omega (arith, gains u a) }
  sink (suc k) u h a f = go (sink k (u - P)) (le_or_lt u T0)
    where
      go : (u - P ≤ k → T0 < u - P + P → L (u - P) + R < L (u - P + P) → Sunk (u - P)) → (u ≤ T0) ⊎ (T0 < u) → Sunk u
      go ih (inl b) = record { start = u; turns = 1; early = b; place = omega arith; deep = omega (arith, gains u a) }
      go ih (inr b) =
          let e : u - P + P ≡ u = omega arith in
          let bend : L (u + P) + L (u - P) ≤ L u + L u = rw e at (bends (u - P) (omega arith)) in
          deeper (u - P) u e a f (ih (omega arith) (omega arith) (rw e (omega arith)))

  -- THE END: a walk with no failure settles. A slack that falls in each period since T0 has at most K to lose
  pub settles : (K : ℕ) → ((s : ℕ) → s ≤ T0 → C s ≤ K)
      → (T : ℕ) → T0 + P + K * P ≤ T → ((t : ℕ) → 1 ≤ t → t ≤ T → L t ≤ C t) → Settled L R P T
  settles K most T h ok u a b = go (le_or_lt (L (u + P)) (L u + R))
    where
      go : (L (u + P) ≤ L u + R) ⊎ (L u + R < L (u + P)) → L (u + P) ≤ L u + R
      go (inl d) = d
      go (inr d) =
          let s = sink u u (omega arith) (omega arith) d in
          let f : L (u + P) ≤ C (u + P) = ok (u + P) (omega arith) b in
          let turns : s.turns ≤ K = omega (arith, s.deep, most s.start s.early) in
          absurd (omega (arith, s.place, s.early, mul-le-mul_right P turns))
