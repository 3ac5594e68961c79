-- What the parts of the test of refusal 14 look at, number by number, and that together they are a sound block, both ways. Assumes nothing.
use Rattle.std.specs.Prelude.{◌≡◌, Bool, List, ℕ, zero, suc, ◌+◌, ◌-◌, ◌≤◌, ◌<◌, length, get_or}
use Rattle.std.proofs.Math.Path.{refl}
use Rattle.std.proofs.Common.{ap, arith, zero-add}
use Rattle.std.proofs.Math.Seq.{take-length}
use Rattle.curve.specs.Curve.{Curve, entry}
use Rattle.curve.specs.Rises.{IsCurve}
use Rattle.sheet.specs.Limits.{longest_period, longest_table, largest_value, largest_rate, largest_room}
use Rattle.layout.specs.Layout.{block_numbers, service_length_at, envelope_length_at, room_at, service_rate_at, envelope_rate_at, service_at, envelope_at, service_ahead_at, envelope_ahead_at, part}
use Rattle.layout.specs.Sound.{most_ahead, Below, Numbers, Sound}
use Rattle.layout.specs.Part.{part_length, part_at}
use Rattle.guard.specs.Tells.{Tells, tells_map}

-- the n numbers from a on are at most v
abbrev pub Small : List ℕ → ℕ → ℕ → ℕ → Type 0
Small b a n v = (i : ℕ) → i < n → get_or b (a + i) 0 ≤ v

-- they never fall, nor where the table begins its last period again, and the last is at most v
pub record Climbs (b : List ℕ) (a n P rate v : ℕ) : Type 0 where
  pub steps : (i : ℕ) → i + 1 < n → get_or b (a + i) 0 ≤ get_or b (a + (i + 1)) 0
  pub join : get_or b (a + (n - 1)) 0 ≤ get_or b (a + (n - P)) 0 + rate
  pub last : get_or b (a + (n - 1)) 0 ≤ v

-- the first n of a table's values never fall
abbrev pub Steps : List ℕ → ℕ → Type 0
Steps table n = (i : ℕ) → i + 1 < n → get_or table i 0 ≤ get_or table (i + 1) 0

-- a table with a rate is a curve, and none of its values is above v
abbrev pub Climbing : List ℕ → ℕ → ℕ → ℕ → Type 0
Climbing table P rate v = IsCurve P (record { table = table; rate = rate }) × Below v (record { table = table; rate = rate })

-- the plain numbers that a run keeps from its opening on
pub record Fixed (b : List ℕ) (P : ℕ) : Type 0 where
  pub service-long : P ≤ get_or b service_length_at 0
  pub service-short : get_or b service_length_at 0 ≤ longest_table
  pub envelope-long : P ≤ get_or b envelope_length_at 0
  pub envelope-short : get_or b envelope_length_at 0 ≤ longest_table
  pub room : get_or b room_at 0 ≤ largest_room
  pub promises : 1 ≤ get_or b service_rate_at 0
  pub service-rate : get_or b service_rate_at 0 ≤ largest_rate
  pub envelope-rate : get_or b envelope_rate_at 0 ≤ largest_rate

pub record Passes (b : List ℕ) (P done : ℕ) : Type 0 where
  pub numbers : Numbers b P done
  pub service : Small b service_at (get_or b service_length_at 0) largest_value
  pub envelope : Small b envelope_at (get_or b envelope_length_at 0) largest_value
  pub service-ahead : Climbs b service_ahead_at (get_or b service_length_at 0) P (get_or b service_rate_at 0) most_ahead
  pub envelope-ahead : Climbs b envelope_ahead_at (get_or b envelope_length_at 0) P (get_or b envelope_rate_at 0) most_ahead

-- the table from a on, with its rate
abbrev pub table_at : List ℕ → ℕ → ℕ → ℕ → Curve
table_at b a n rate = record { table = part a n b; rate = rate }

module _ (b : List ℕ) (a n : ℕ) (fits : a + n ≤ length b) where
  pub small-below : (rate v : ℕ) → Small b a n v → Below v (table_at b a n rate)
  small-below rate v s i h =
      let len = part_length b a n fits in
      rw (part_at b a n i (omega arith)) (s i (omega arith))

  pub below-small : (rate v : ℕ) → Below v (table_at b a n rate) → Small b a n v
  below-small rate v s i h =
      let len = part_length b a n fits in
      rw (part_at b a n i h) at (s i (omega arith))

  -- F(x) for x from 1 to n
  entry_at : (i : ℕ) → i < n → entry (part a n b) (suc i) ≡ get_or b (a + i) 0
  unfolding entry
  entry_at i h = part_at b a n i h

  entry_zero : entry (part a n b) 0 ≡ 0
  unfolding entry
  entry_zero = refl

  module _ (P rate v : ℕ) (p : 1 ≤ P) (long : P ≤ n) where
    climb : Climbs b a n P rate v → (d i : ℕ) → i + d < n → get_or b (a + i) 0 ≤ get_or b (a + (i + d)) 0
    climb c zero i h =
        let e : i + 0 ≡ i = omega arith in
        rw e (omega arith)
    climb c (suc d) i h =
        let e : i + suc d ≡ i + d + 1 = omega arith in
        rw e (omega (arith, climb c d i (omega arith), c.steps (i + d) (omega arith)))

    pub climbs_small : Climbs b a n P rate v → Small b a n v
    climbs_small c i h =
        let e : i + (n - 1 - i) ≡ n - 1 = omega arith in
        omega (arith, rw e at (climb c (n - 1 - i) i (omega arith)), c.last)

    pub climbs_curve : Climbs b a n P rate v → IsCurve P (table_at b a n rate)
    climbs_curve c =
        let len = part_length b a n fits in
        let last : n ≡ suc (n - 1) = omega arith in
        let back : n + 1 - P ≡ suc (n - P) = omega arith in
        record {
          period = p;
          long = omega arith;
          steps = λ x h. steps x (omega arith);
          join = rw len (rw back (omega (arith, ap (entry (part a n b)) last, entry_at (n - 1) (omega arith), entry_at (n - P) (omega arith), c.join)));
        }
      where
        steps : (x : ℕ) → x < n → entry (part a n b) x ≤ entry (part a n b) (suc x)
        steps zero h = omega (arith, entry_zero)
        steps (suc x) h =
            let e : suc x ≡ x + 1 = omega arith in
            omega (arith, entry_at x (omega arith), entry_at (suc x) h, c.steps x (omega arith), ap (λ (y : ℕ). get_or b (a + y) 0) e)

    pub curve_climbs : IsCurve P (table_at b a n rate) → Below v (table_at b a n rate) → Climbs b a n P rate v
    curve_climbs g s =
        let len = part_length b a n fits in
        let last : n ≡ suc (n - 1) = omega arith in
        let back : n + 1 - P ≡ suc (n - P) = omega arith in
        record {
          steps = λ i h.
              let e : i + 1 ≡ suc i = omega arith in
              omega (arith, entry_at i (omega arith), entry_at (suc i) (omega arith), g.steps (suc i) (omega arith), ap (λ (y : ℕ). get_or b (a + y) 0) e);
          join = omega (arith, ap (entry (part a n b)) last, entry_at (n - 1) (omega arith), entry_at (n - P) (omega arith), rw back at (rw len at g.join));
          last = below-small rate v s (n - 1) (omega arith);
        }

-- a table that is looked at by itself
module _ (table : List ℕ) (P rate v : ℕ) (p : 1 ≤ P) (long : P ≤ length table) where
  whole : part 0 (length table) table ≡ table
  whole = take-length table

  -- its last value is at most v, the step at its join is at most the rate, and it never falls
  abbrev Climbed : Type 0
  Climbed = ((get_or table (length table - 1) 0 ≤ v) × (get_or table (length table - 1) 0 - get_or table (length table - P) 0 ≤ rate)) × Steps table (length table)

  fits : 0 + length table ≤ length table
  fits = omega arith

  climbed-climbing : Climbed → Climbing table P rate v
  climbed-climbing s =
      let c : Climbs table 0 (length table) P rate v = record { steps = λ i h. simp zero-add (s.1 i h); join = simp zero-add (omega (arith, s.0.1)); last = simp zero-add s.0.0 } in (
        rw whole at (climbs_curve table 0 (length table) fits P rate v p long c),
        rw whole at (small-below table 0 (length table) fits rate v (climbs_small table 0 (length table) fits P rate v p long c)),
      )

  climbing-climbed : Climbing table P rate v → Climbed
  climbing-climbed t =
      let c : Climbs table 0 (length table) P rate v = curve_climbs table 0 (length table) fits P rate v p long (rw whole t.0) (rw whole t.1) in
      ((simp zero-add at c.last, omega (arith, simp zero-add at c.join)), λ i h. simp zero-add at (c.steps i h))

  pub tells_climbing : (r : Bool) → Tells r Climbed → Tells r (Climbing table P rate v)
  tells_climbing r t = tells_map r climbed-climbing climbing-climbed t

-- the parts are the whole
module _ (b : List ℕ) (P done : ℕ) (size : length b ≡ block_numbers) (p : 1 ≤ P) (few : P ≤ longest_period) where
  pub passes-sound : Passes b P done → Sound b P done
  passes-sound t =
      let n = t.numbers in
      let s : get_or b service_length_at 0 ≤ longest_table = n.service-short in
      let e : get_or b envelope_length_at 0 ≤ longest_table = n.envelope-short in
      let sa = service_ahead_at in
      let ns = get_or b service_length_at 0 in
      let rs = get_or b service_rate_at 0 in
      let ea = envelope_ahead_at in
      let ne = get_or b envelope_length_at 0 in
      let re = get_or b envelope_rate_at 0 in
      record {
        size = size;
        period = p;
        few = few;
        numbers = n;
        service-small = small-below b service_at ns (omega arith) rs largest_value t.service;
        envelope-small = small-below b envelope_at ne (omega arith) re largest_value t.envelope;
        service-ahead = climbs_curve b sa ns (omega arith) P rs most_ahead p n.service-long t.service-ahead;
        service-ahead-small = small-below b sa ns (omega arith) rs most_ahead (climbs_small b sa ns (omega arith) P rs most_ahead p n.service-long t.service-ahead);
        envelope-ahead = climbs_curve b ea ne (omega arith) P re most_ahead p n.envelope-long t.envelope-ahead;
        envelope-ahead-small = small-below b ea ne (omega arith) re most_ahead (climbs_small b ea ne (omega arith) P re most_ahead p n.envelope-long t.envelope-ahead);
      }

  pub sound-passes : Sound b P done → Passes b P done
  sound-passes t =
      let s : get_or b service_length_at 0 ≤ longest_table = t.numbers.service-short in
      let e : get_or b envelope_length_at 0 ≤ longest_table = t.numbers.envelope-short in
      let ns = get_or b service_length_at 0 in
      let rs = get_or b service_rate_at 0 in
      let ne = get_or b envelope_length_at 0 in
      let re = get_or b envelope_rate_at 0 in
      record {
        numbers = t.numbers;
        service = below-small b service_at ns (omega arith) rs largest_value t.service-small;
        envelope = below-small b envelope_at ne (omega arith) re largest_value t.envelope-small;
        service-ahead = curve_climbs b service_ahead_at ns (omega arith) P rs most_ahead p t.numbers.service-long t.service-ahead t.service-ahead-small;
        envelope-ahead = curve_climbs b envelope_ahead_at ne (omega arith) P re most_ahead p t.numbers.envelope-long t.envelope-ahead t.envelope-ahead-small;
      }
