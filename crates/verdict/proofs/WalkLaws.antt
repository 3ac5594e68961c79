-- Laws of specs/Walk.antt. What a walk over the slot counts 1, 2, 3, .. knows before it tries t: the least slack so far, how many slot counts in a row were
-- steady, and the last 16 loads in a ring. Each step is a lemma of its own, for the program's loop to cite. Assumes nothing.
use Rattle.std.specs.Prelude.{◌≡◌, List, ◌⊎◌, ℕ, ◌+◌, ◌-◌, ◌%◌, ◌≤◌, ◌<◌, length, get_or, set}
use Rattle.std.proofs.Common.{ap, ◌∙◌, inl, inr, arith, length-set, get_or-set_same, get_or-set_other}
use Rattle.curve.proofs.OrderLaws.{le_or_lt}
use Rattle.verdict.specs.Stop.{PassesTo, Steady, Settled}
use Rattle.verdict.specs.Walk.{Lead, Row, Kept}

module _ (L C : ℕ → ℕ) where
  pub lead-none : (m : ℕ) → C 1 < m → Lead L C 1 m 0
  lead-none m h =
      record {
        within = omega arith;
        least = λ u a b. absurd (omega arith);
        first = λ u a b. absurd (omega arith);
        gives = λ a. absurd (omega arith);
        start = λ e. h;
      }

  -- one more slot count, whose slack is no smaller than n
  one_more : (t n : ℕ) → ((u : ℕ) → 1 ≤ u → u < t → L u + n ≤ C u) → L t + n ≤ C t → (u : ℕ) → 1 ≤ u → u < t + 1 → L u + n ≤ C u
  one_more t n old new u a b = go (le_or_lt t u)
    where
      go : (t ≤ u) ⊎ (u < t) → L u + n ≤ C u
      go (inl k) =
          let e : u ≡ t = omega arith in
          rw e new
      go (inr k) = old u a k

  -- t has a smaller slack d
  pub lead-new : (t m w d : ℕ) → 1 ≤ t → Lead L C t m w → L t + d ≡ C t → d < m → Lead L C (t + 1) d t
  lead-new t m w d p g e h =
      record {
        within = omega arith;
        least = one_more t d (λ u a b. omega (arith, g.least u a b)) (omega arith);
        first = λ u a b. omega (arith, g.least u a b);
        gives = λ a. (p, e);
        start = λ q. absurd (omega arith);
      }

  -- t has no smaller slack
  pub lead-keep : (t m w d : ℕ) → 1 ≤ t → Lead L C t m w → L t + d ≡ C t → m ≤ d → Lead L C (t + 1) m w
  lead-keep t m w d p g e h =
      record {
        within = omega (arith, g.within);
        least = one_more t m g.least (omega arith);
        first = g.first;
        gives = λ a. had (le_or_lt 2 t);
        start = λ q. absurd (omega arith);
      }
    where
      had : (2 ≤ t) ⊎ (t < 2) → (1 ≤ w) × (L w + m ≡ C w)
      had (inl k) = g.gives k
      had (inr k) =
          let q : t ≡ 1 = omega arith in
          absurd (omega (arith, g.start q, ap C q))

  -- after T
  pub lead-done : (T m w : ℕ) → 1 ≤ T → Lead L C (T + 1) m w → PassesTo L C T m w
  lead-done T m w p g =
      let z = g.gives (omega arith) in
      record {
        from = z.0;
        to = omega (arith, g.within);
        gives = z.1;
        least = λ u a b. g.least u a (omega arith);
        first = g.first;
      }

module _ (L : ℕ → ℕ) (R P T0 : ℕ) where
  pub row-none : (t : ℕ) → Row L R P T0 t 0
  row-none t = record { steady = λ u a b. absurd (omega arith); late = omega arith }

  pub row_more : (t run : ℕ) → T0 < t → P ≤ t → Row L R P T0 t run → L t ≤ L (t - P) + R → Row L R P T0 (t + 1) (run + 1)
  row_more t run h k g s = record { steady = λ u a b. go u a b (le_or_lt t (u + P)); late = omega (arith, g.late) }
    where
      go : (u : ℕ) → t + 1 ≤ u + P + (run + 1) → u + P < t + 1 → (t ≤ u + P) ⊎ (u + P < t) → Steady L R P u
      go u a b (inr d) = g.steady u (omega arith) d
      go u a b (inl d) =
          let e : u ≡ t - P = omega arith in
          let f : t - P + P ≡ t = omega arith in
          rw (e, f) s

  -- P in a row, up to T
  pub row_settled : (T : ℕ) → Row L R P T0 (T + 1) P → Settled L R P T
  row_settled T g u a b = g.steady u (omega arith) (omega arith)

pub kept-none : (L : ℕ → ℕ) (past : List ℕ) → length past ≡ 16 → Kept L 1 past
kept-none L past e = record { places = e; loads = λ u a b d. absurd (omega arith) }

pub kept_more : (L : ℕ → ℕ) (t : ℕ) (past : List ℕ) → Kept L t past → Kept L (t + 1) (set past (t % 16) (L t))
kept_more L t past g = record { places = length-set past (t % 16) (L t) ∙ g.places; loads = λ u a b d. go u a b d (le_or_lt t u) }
  where
    go : (u : ℕ) → 1 ≤ u → u < t + 1 → t + 1 ≤ u + 16 → (t ≤ u) ⊎ (u < t) → get_or (set past (t % 16) (L t)) (u % 16) 0 ≡ L u
    go u a b d (inr k) = get_or-set_other past (t % 16) (u % 16) (L t) 0 (λ e. omega arith) ∙ g.loads u a k (omega arith)
    go u a b d (inl k) =
        let e : u ≡ t = omega arith in
        rw e (get_or-set_same past (t % 16) (L t) 0 (omega (arith, g.places)))
