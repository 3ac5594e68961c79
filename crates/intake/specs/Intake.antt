-- What a slot's intake makes of a session's block, step by step: the deadlines, the number taken in, and what lies ahead of both curves. Assumes nothing.
use Rattle.std.specs.Prelude.{◌≢◌, ◌⊎◌, ◌≡◌, ℕ, ◌+◌, ◌≤◌, ◌<◌, get_or}
use Rattle.std.proofs.Math.Logic.{inl, inr}
use Rattle.std.proofs.Math.Path.{ap}
use Rattle.std.proofs.Common.{ap₂, ◌∙◌, arith}
use mathlib.Core.List.{List}
use Rattle.std.proofs.Math.ListN.{length, set, length-set}
use Rattle.std.proofs.Math.Seq.{get_or-set_other}
use Rattle.layout.specs.Layout.{service_length_at, envelope_length_at, service_rate_at, envelope_rate_at, taken_at, service_at, envelope_at, service_ahead_at, envelope_ahead_at, deadlines_at, part, service, envelope, service_ahead, envelope_ahead}
use Rattle.curve.specs.Curve.{Curve}
use Rattle.sheet.specs.Limits.{largest_value, largest_rate}
use Rattle.layout.specs.Sound.{Sound, Below, most_slots, most_ahead}
use Rattle.layout.specs.Part.{part_length, part_at, part_same}
use Rattle.curve.specs.Lookup.{curve_with}
use Rattle.layout.specs.Over.{over, length_over, over_out}
use Rattle.intake.specs.Advance.{advanced, length-advanced, Advances}
use Rattle.intake.specs.Share.{share_of, free_of}
use Rattle.intake.specs.Append.{appended, length-appended, appended_out}

-- k more packets, A + k of them in all: their deadlines, and their number
unfoldable pub counted : List ℕ → ℕ → ℕ → ℕ → List ℕ
counted b P done k = set (appended b P done k) taken_at (get_or b taken_at 0 + k)

-- then what lies ahead of the service
unfoldable pub served : List ℕ → ℕ → ℕ → ℕ → List ℕ
served b P done k = over (counted b P done k) service_ahead_at (advanced P (service_ahead b) (get_or b taken_at 0 + k) (service b).table)

-- and what lies ahead of the envelope
unfoldable pub took_in : List ℕ → ℕ → ℕ → ℕ → List ℕ
took_in b P done k = over (served b P done k) envelope_ahead_at (advanced P (envelope_ahead b) (get_or b taken_at 0 + k) (envelope b).table)

-- the block after the slot's intake
abbrev pub intake_of : List ℕ → ℕ → ℕ → ℕ → List ℕ
intake_of b P done offered = took_in b P done (share_of b offered).taken

-- no more are taken in than the room has free
pub taken-fits : (b : List ℕ) (offered : ℕ) → (share_of b offered).taken ≤ free_of b
taken-fits b offered = omega arith

-- a list that still has the two tables of a curve as b has them: its own n numbers at cur, and as many ahead of it at a
record Keeps (b z : List ℕ) (cur a n : ℕ) : Type 0 where
  size : length z ≡ length b
  apart : cur + n ≤ a
  fits : a + n ≤ length b
  own : (i : ℕ) → i < n → get_or z (cur + i) 0 ≡ get_or b (cur + i) 0
  ahead : (i : ℕ) → i < n → get_or z (a + i) 0 ≡ get_or b (a + i) 0

-- as many new numbers as the table has
step_length : (b : List ℕ) (cur n P : ℕ) (F : Curve) (A : ℕ) → cur + n ≤ length b → length (advanced P F A (part cur n b)) ≡ n
step_length b cur n P F A h = length-advanced P F A (part cur n b) ∙ part_length b cur n h

-- a step of either curve over such a list: the tables that it reads are those of b, and what it asks
module _ (b z : List ℕ) (cur a n P rate A : ℕ) (keeps : Keeps b z cur a n) where
  step_by : (x y : List ℕ) → x ≡ z → y ≡ advanced P (curve_with (part a n x) rate) A (part cur n x) → over x a y ≡ over z a (advanced P (curve_with (part a n b) rate) A (part cur n b))
  step_by x y e f =
      let l = keeps.apart in
      let m = keeps.fits in
      ap₂ (λ (u v : List ℕ). over u a v) e
      (f
      ∙ ap (λ (u : List ℕ). advanced P (curve_with (part a n u) rate) A (part cur n u)) e
      ∙ ap₂ (λ (u v : List ℕ). advanced P (curve_with u rate) A v) (part_same b z a n keeps.size m keeps.ahead) (part_same b z cur n keeps.size (omega arith) keeps.own))

  step_asks : 1 ≤ P → P ≤ n → rate ≤ largest_rate → A ≤ most_ahead → Below largest_value (curve_with (part cur n b) rate) → Below most_ahead (curve_with (part a n b) rate)
      → Advances (part cur n z) (part a n z) P rate A
  step_asks p long small most own ahead =
      let l = keeps.apart in
      let m = keeps.fits in
      let lc = part_length b cur n (omega arith) in
      let la = part_length b a n m in
      let zc = part_length z cur n (omega (arith, keeps.size)) in
      let za = part_length z a n (omega (arith, keeps.size)) in
      record {
        period = p;
        long = omega arith;
        alike = omega arith;
        rate-small = small;
        total-small = most;
        own-small = λ j h. let i : j < n = omega arith in omega (arith, part_at z cur n j i, keeps.own j i, part_at b cur n j i, own j (omega arith));
        ahead_small = λ j h. let i : j < n = omega arith in omega (arith, part_at z a n j i, keeps.ahead j i, part_at b a n j i, ahead j (omega arith));
      }

module _ (b : List ℕ) (P done k : ℕ) where
  pub length-counted : length (counted b P done k) ≡ length b
  unfolding counted
  length-counted = length-set (appended b P done k) taken_at (get_or b taken_at 0 + k) ∙ length-appended b P done k

  pub length-served : length (served b P done k) ≡ length b
  unfolding served
  length-served = length_over (counted b P done k) service_ahead_at _ ∙ length-counted

  pub length-took_in : length (took_in b P done k) ≡ length b
  unfolding took_in
  length-took_in = length_over (served b P done k) envelope_ahead_at _ ∙ length-served

  pub counted_out : (i : ℕ) → i < deadlines_at → i ≢ taken_at → get_or (counted b P done k) i 0 ≡ get_or b i 0
  unfolding counted
  counted_out i h n = get_or-set_other (appended b P done k) taken_at i (get_or b taken_at 0 + k) 0 n ∙ appended_out b P done k i h

  -- the first step of the code after the deadlines
  pub counted-by : (z : List ℕ) → z ≡ appended b P done k → set z taken_at (get_or b taken_at 0 + k) ≡ counted b P done k
  unfolding counted
  counted-by z e = ap (λ (y : List ℕ). set y taken_at (get_or b taken_at 0 + k)) e

  module _ (ok : Sound b P done) where
    pub service-count : length (advanced P (service_ahead b) (get_or b taken_at 0 + k) (service b).table) ≡ get_or b service_length_at 0
    service-count = step_length b service_at (get_or b service_length_at 0) P (service_ahead b) (get_or b taken_at 0 + k) (omega (arith, ok.numbers.service-short, ok.size))

    pub envelope-count : length (advanced P (envelope_ahead b) (get_or b taken_at 0 + k) (envelope b).table) ≡ get_or b envelope_length_at 0
    envelope-count = step_length b envelope_at (get_or b envelope_length_at 0) P (envelope_ahead b) (get_or b taken_at 0 + k) (omega (arith, ok.numbers.envelope-short, ok.size))

    -- neither what lies ahead of the service, nor the number taken in, nor the ring
    pub served_out : (i : ℕ) → i < deadlines_at → i ≢ taken_at → (i < service_ahead_at) ⊎ (envelope_ahead_at ≤ i) → get_or (served b P done k) i 0 ≡ get_or b i 0
    unfolding served
    served_out i h n d = over_out (counted b P done k) service_ahead_at _ i (go d) ∙ counted_out i h n
      where
        go : (i < service_ahead_at) ⊎ (envelope_ahead_at ≤ i)
            → (i < service_ahead_at) ⊎ (service_ahead_at + length (advanced P (service_ahead b) (get_or b taken_at 0 + k) (service b).table) ≤ i)
        go (inl a) = inl a
        go (inr a) = inr (omega (arith, service-count, ok.numbers.service-short))

    -- both steps find their tables as they were at first
    service-keeps : Keeps b (counted b P done k) service_at service_ahead_at (get_or b service_length_at 0)
    service-keeps =
        let n : get_or b service_length_at 0 ≤ 64 = ok.numbers.service-short in
        record {
          size = length-counted;
          apart = omega arith;
          fits = omega (arith, ok.size);
          own = λ i h. counted_out (service_at + i) (omega arith) (omega arith);
          ahead = λ i h. counted_out (service_ahead_at + i) (omega arith) (omega arith);
        }

    envelope-keeps : Keeps b (served b P done k) envelope_at envelope_ahead_at (get_or b envelope_length_at 0)
    envelope-keeps =
        let n : get_or b envelope_length_at 0 ≤ 64 = ok.numbers.envelope-short in
        record {
          size = length-served;
          apart = omega arith;
          fits = omega (arith, ok.size);
          own = λ i h. served_out (envelope_at + i) (omega arith) (omega arith) (inl (omega arith));
          ahead = λ i h. served_out (envelope_ahead_at + i) (omega arith) (omega arith) (inr (omega arith));
        }

    -- the second step of the code, and the third
    pub served-by : (z y : List ℕ) → z ≡ counted b P done k
        → y ≡ advanced P (curve_with (part service_ahead_at (get_or b service_length_at 0) z) (get_or b service_rate_at 0)) (get_or b taken_at 0 + k) (part service_at (get_or b service_length_at 0) z)
        → over z service_ahead_at y ≡ served b P done k
    unfolding served
    served-by = step_by b (counted b P done k) service_at service_ahead_at (get_or b service_length_at 0) P (get_or b service_rate_at 0) (get_or b taken_at 0 + k) service-keeps

    pub took_in-by : (z y : List ℕ) → z ≡ served b P done k
        → y ≡ advanced P (curve_with (part envelope_ahead_at (get_or b envelope_length_at 0) z) (get_or b envelope_rate_at 0)) (get_or b taken_at 0 + k) (part envelope_at (get_or b envelope_length_at 0) z)
        → over z envelope_ahead_at y ≡ took_in b P done k
    unfolding took_in
    took_in-by = step_by b (served b P done k) envelope_at envelope_ahead_at (get_or b envelope_length_at 0) P (get_or b envelope_rate_at 0) (get_or b taken_at 0 + k) envelope-keeps

    module _ (more : done < most_slots) (fits : k ≤ free_of b) where
      total-most : get_or b taken_at 0 + k ≤ most_ahead
      total-most = omega (arith, ok.numbers.room, ok.numbers.in_order, ok.numbers.sent-few, ok.numbers.waiting)

      -- what the two steps ask
      pub service_advances : Advances (part service_at (get_or b service_length_at 0) (counted b P done k)) (part service_ahead_at (get_or b service_length_at 0) (counted b P done k)) P (get_or b service_rate_at 0) (get_or b taken_at 0 + k)
      service_advances =
          step_asks b (counted b P done k) service_at service_ahead_at (get_or b service_length_at 0) P (get_or b service_rate_at 0) (get_or b taken_at 0 + k) service-keeps
          ok.period ok.numbers.service-long ok.numbers.service-rate total-most ok.service-small ok.service-ahead-small

      pub envelope_advances : Advances (part envelope_at (get_or b envelope_length_at 0) (served b P done k)) (part envelope_ahead_at (get_or b envelope_length_at 0) (served b P done k)) P (get_or b envelope_rate_at 0) (get_or b taken_at 0 + k)
      envelope_advances =
          step_asks b (served b P done k) envelope_at envelope_ahead_at (get_or b envelope_length_at 0) P (get_or b envelope_rate_at 0) (get_or b taken_at 0 + k) envelope-keeps
          ok.period ok.numbers.envelope-long ok.numbers.envelope-rate total-most ok.envelope-small ok.envelope-ahead-small
