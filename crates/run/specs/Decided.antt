-- That the test of refusal 14 has an answer for every slice, so that of the refusals 13 to 17 and 0 exactly one applies to every slot. Assumes nothing.
use Rattle.std.specs.Prelude.{◌≡◌, List, ◌⊎◌, ℕ, zero, suc, ◌+◌, ◌-◌, ◌*◌, ◌≤◌, ◌<◌, length, get_or}
use Rattle.std.proofs.Common.{inl, inr, arith}
use Rattle.std.proofs.Math.Decide.{dec_le, dec_lt, ℕ_discrete}
use Rattle.curve.proofs.OrderLaws.{le_or_lt}
use Rattle.sheet.specs.Limits.{most_capacity, longest_period, longest_table, largest_value, largest_rate, largest_room, most_sessions}
use Rattle.layout.specs.Layout.{run_numbers, mark, mark_at, service_length_at, envelope_length_at, room_at, service_rate_at, envelope_rate_at, taken_at, sent_at, service_at, envelope_at, service_ahead_at, envelope_ahead_at, block}
use Rattle.layout.specs.Sound.{most_slots, most_ahead, Numbers, Sound}
use Rattle.layout.specs.Part.{block-length}
use Rattle.guard.specs.Opened.{Opened}
use Rattle.guard.specs.Test.{Small, Climbs, Passes, passes-sound, sound-passes}
use Rattle.send.specs.Send.{note_numbers}
use Rattle.intake.specs.Intakes.{outcome_numbers}
use Rattle.run.specs.Why.{capacity_of, period_of, count_of, done_of, Why}

-- what is decided stays so under and, under all below a bound, and under what means the same
both : {A B : Type 0} → Dec A → Dec B → Dec (A × B)
both (yes a) (yes b) = yes (a, b)
both (yes a) (no n) = no (λ x. n x.1)
both (no n) d = no (λ x. n x.0)

means : {A B : Type 0} → (A → B) → (B → A) → Dec A → Dec B
means f g (yes a) = yes (f a)
means f g (no n) = no (λ b. n (g b))

all-below : (Q : ℕ → Type 0) → ((i : ℕ) → Dec (Q i)) → (n : ℕ) → Dec ((i : ℕ) → i < n → Q i)
all-below Q d zero = yes (λ i h. absurd (omega arith))
all-below Q d (suc n) = go (all-below Q d n) (d n)
  where
    go : Dec ((i : ℕ) → i < n → Q i) → Dec (Q n) → Dec ((i : ℕ) → i < suc n → Q i)
    go (no k) e = no (λ f. k (λ i h. f i (omega arith)))
    go (yes f) (no k) = no (λ g. k (g n (omega arith)))
    go (yes f) (yes q) = yes (λ i h. elim (dec_lt i n) [ yes x ↦ f i x | no x ↦ let e : i ≡ n = omega arith in rw e q ])

module _ (b : List ℕ) where
  small? : (a n v : ℕ) → Dec (Small b a n v)
  small? a n v = all-below (λ i. get_or b (a + i) 0 ≤ v) (λ i. dec_le (get_or b (a + i) 0) v) n

  climbs? : (a n P rate v : ℕ) → Dec (Climbs b a n P rate v)
  climbs? a n P rate v =
      means (λ x. record { steps = λ i h. x.0 i (omega arith); join = x.1.0; last = x.1.1 })
      (λ c. (λ i h. c.steps i (omega arith), (c.join, c.last)))
      (both (all-below (λ i. get_or b (a + i) 0 ≤ get_or b (a + (i + 1)) 0) (λ i. dec_le (get_or b (a + i) 0) (get_or b (a + (i + 1)) 0)) (n - 1))
      (both (dec_le (get_or b (a + (n - 1)) 0) (get_or b (a + (n - P)) 0 + rate)) (dec_le (get_or b (a + (n - 1)) 0) v)))

  numbers? : (P done : ℕ) → Dec (Numbers b P done)
  numbers? P done =
      means
      (λ x. record {
        service-long = x.0;
        service-short = x.1.0;
        envelope-long = x.1.1.0;
        envelope-short = x.1.1.1.0;
        room = x.1.1.1.1.0;
        promises = x.1.1.1.1.1.0;
        service-rate = x.1.1.1.1.1.1.0;
        envelope-rate = x.1.1.1.1.1.1.1.0;
        in_order = x.1.1.1.1.1.1.1.1.0;
        sent-few = x.1.1.1.1.1.1.1.1.1.0;
        waiting = x.1.1.1.1.1.1.1.1.1.1.0;
        headed = x.1.1.1.1.1.1.1.1.1.1.1;
      })
      (λ n. (n.service-long, (n.service-short, (n.envelope-long, (n.envelope-short, (n.room, (n.promises, (n.service-rate, (n.envelope-rate, (n.in_order, (n.sent-few, (n.waiting, n.headed))))))))))))
      (both (dec_le P (get_or b service_length_at 0))
      (both (dec_le (get_or b service_length_at 0) longest_table)
      (both (dec_le P (get_or b envelope_length_at 0))
      (both (dec_le (get_or b envelope_length_at 0) longest_table)
      (both (dec_le (get_or b room_at 0) largest_room)
      (both (dec_le 1 (get_or b service_rate_at 0))
      (both (dec_le (get_or b service_rate_at 0) largest_rate)
      (both (dec_le (get_or b envelope_rate_at 0) largest_rate)
      (both (dec_le (get_or b sent_at 0) (get_or b taken_at 0))
      (both (dec_le (get_or b sent_at 0) (most_capacity * done))
      (both (dec_le (get_or b taken_at 0) (get_or b sent_at 0 + get_or b room_at 0)) (dec_le (get_or b taken_at 0) (get_or b envelope_ahead_at 0)))))))))))))

  passes? : (P done : ℕ) → Dec (Passes b P done)
  passes? P done =
      means (λ x. record { numbers = x.0; service = x.1.0; envelope = x.1.1.0; service-ahead = x.1.1.1.0; envelope-ahead = x.1.1.1.1 })
      (λ p. (p.numbers, (p.service, (p.envelope, (p.service-ahead, p.envelope-ahead)))))
      (both (numbers? P done)
      (both (small? service_at (get_or b service_length_at 0) largest_value)
      (both (small? envelope_at (get_or b envelope_length_at 0) largest_value)
      (both (climbs? service_ahead_at (get_or b service_length_at 0) P (get_or b service_rate_at 0) most_ahead)
      (climbs? envelope_ahead_at (get_or b envelope_length_at 0) P (get_or b envelope_rate_at 0) most_ahead)))))

-- the head's part of the test
record Head (run : List ℕ) : Type 0 where
  marked : get_or run mark_at 0 ≡ mark
  some-capacity : 1 ≤ capacity_of run
  capacity : capacity_of run ≤ most_capacity
  some-period : 1 ≤ period_of run
  period : period_of run ≤ longest_period
  some-session : 1 ≤ count_of run
  few : count_of run ≤ most_sessions
  done : done_of run ≤ most_slots

module _ (run : List ℕ) where
  head? : Dec (Head run)
  head? =
      means (λ x. record { marked = x.0; some-capacity = x.1.0; capacity = x.1.1.0; some-period = x.1.1.1.0; period = x.1.1.1.1.0; some-session = x.1.1.1.1.1.0; few = x.1.1.1.1.1.1.0; done = x.1.1.1.1.1.1.1 })
      (λ h. (h.marked, (h.some-capacity, (h.capacity, (h.some-period, (h.period, (h.some-session, (h.few, h.done))))))))
      (both (ℕ_discrete (get_or run mark_at 0) mark)
      (both (dec_le 1 (capacity_of run))
      (both (dec_le (capacity_of run) most_capacity)
      (both (dec_le 1 (period_of run))
      (both (dec_le (period_of run) longest_period)
      (both (dec_le 1 (count_of run))
      (both (dec_le (count_of run) most_sessions) (dec_le (done_of run) most_slots))))))))

  -- DECIDED: an opened run, or none
  pub opened? : run_numbers ≤ length run → Dec (Opened run)
  opened? size = go head?
    where
      sound? : Head run → (i : ℕ) → i < count_of run → Dec (Sound (block run i) (period_of run) (done_of run))
      sound? h i b =
          let len = block-length run i size (omega (arith, h.few)) in
          means (passes-sound (block run i) (period_of run) (done_of run) len h.some-period h.period) (sound-passes (block run i) (period_of run) (done_of run) len h.some-period h.period)
          (passes? (block run i) (period_of run) (done_of run))

      blocks? : (h : Head run) → Dec ((i : ℕ) → i < count_of run → i < count_of run → Sound (block run i) (period_of run) (done_of run))
      blocks? h =
          all-below (λ i. i < count_of run → Sound (block run i) (period_of run) (done_of run))
          (λ i. elim (dec_lt i (count_of run)) [ yes b ↦ means (λ s _. s) (λ f. f b) (sound? h i b) | no n ↦ yes (λ b. absurd (n b)) ]) (count_of run)

      go : Dec (Head run) → Dec (Opened run)
      go (no n) =
          no
          (λ o. n (record { marked = o.marked; some-capacity = o.some-capacity; capacity = o.capacity; some-period = o.some-period; period = o.period; some-session = o.some-session; few = o.few; done = o.done }))
      go (yes h) =
          means
          (λ f. record {
            marked = h.marked;
            some-capacity = h.some-capacity;
            capacity = h.capacity;
            some-period = h.some-period;
            period = h.period;
            some-session = h.some-session;
            few = h.few;
            done = h.done;
            blocks = λ i b. f i b b;
          })
          (λ o i b _. o.blocks i b) (blocks? h)

-- SOME NUMBER: with `one-why`, exactly one
pub some-why : (run offers : List ℕ) (outs sents : ℕ) → (r : ℕ) × Why run offers outs sents r
some-why run offers outs sents = start (le_or_lt run_numbers (length run))
  where
    finish : run_numbers ≤ length run → Opened run → length offers ≡ count_of run → outcome_numbers * count_of run ≤ outs → note_numbers * capacity_of run ≤ sents → Dec (done_of run < most_slots)
        → (r : ℕ) × Why run offers outs sents r
    finish s o e a b (yes h) = (0, Why.none (record { size = s; opened = o; offered = e; outs_fit = a; sents_fit = b; left = h }))
    finish s o e a b (no n) = (17, Why.spent s o e a b (omega (arith, o.done)))

    room : run_numbers ≤ length run → Opened run → length offers ≡ count_of run → Dec (outcome_numbers * count_of run ≤ outs) → Dec (note_numbers * capacity_of run ≤ sents)
        → (r : ℕ) × Why run offers outs sents r
    room s o e (no n) d = (16, Why.scant s o e (inl (omega arith)))
    room s o e (yes a) (no n) = (16, Why.scant s o e (inr (omega arith)))
    room s o e (yes a) (yes b) = finish s o e a b (dec_lt (done_of run) most_slots)

    test : run_numbers ≤ length run → Dec (Opened run) → Dec (length offers ≡ count_of run) → (r : ℕ) × Why run offers outs sents r
    test s (no n) d = (14, Why.closed s n)
    test s (yes o) (no n) = (15, Why.amiss s o n)
    test s (yes o) (yes e) = room s o e (dec_le (outcome_numbers * count_of run) outs) (dec_le (note_numbers * capacity_of run) sents)

    start : (run_numbers ≤ length run) ⊎ (length run < run_numbers) → (r : ℕ) × Why run offers outs sents r
    start (inr h) = (13, Why.short h)
    start (inl s) = test s (opened? run s) (ℕ_discrete (length offers) (count_of run))
