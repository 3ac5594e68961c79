-- A slot's intake makes of a session's block after t slots the block after t + 1: the tables ahead, the ring of deadlines and the number taken in are exact. Assumes nothing.
use Rattle.std.specs.Prelude.{◌≡◌, refl, ◌⊎◌, List, ℕ, zero, suc, ◌+◌, ◌%◌, ◌≤◌, ◌<◌, min, length, set}
use Rattle.std.proofs.Math.Path.{sym, ap}
use Rattle.std.proofs.Common.{ap₂, ◌∙◌, inl, inr, arith, get_or-set_same, get_or-set_other}
use Rattle.std.proofs.Math.Decide.{ℕ_discrete}
use Rattle.std.proofs.Math.ListN.{get_or, get_or-eq_default}
use Rattle.curve.proofs.OrderLaws.{le_or_lt}
use Rattle.curve.specs.Total.{total}
use Rattle.curve.proofs.TotalLaws.{total-suc}
use Rattle.curve.specs.Curve.{Curve, at}
use Rattle.curve.proofs.CurveLaws.{at_table}
use Rattle.curve.specs.Rises.{IsCurve}
use Rattle.curve.specs.Delay.{Due, slot, never, slots_of, delay}
use Rattle.curve.proofs.DelayLaws.{delay-slot}
use Rattle.sheet.specs.Limits.{longest_table}
use Rattle.sheet.specs.Sheet.{Session, WellMadeSession}
use Rattle.rules.specs.Deadline.{shift}
use Rattle.rules.specs.Ahead.{ahead}
use Rattle.rules.proofs.AheadLaws.{ahead-suc}
use Rattle.rules.specs.Tables.{kept_curve}
use Rattle.rules.proofs.TablesLaws.{kept_at, deadline-table}
use Rattle.layout.specs.Layout.{block_numbers, service_length_at, envelope_length_at, taken_at, service_at, envelope_at, service_ahead_at, envelope_ahead_at, deadlines_at, ring, part, service_ahead}
use Rattle.layout.specs.Part.{part_at}
use Rattle.layout.specs.Over.{puts, length-puts}
use Rattle.layout.specs.Sound.{Sound}
use Rattle.intake.specs.Advance.{advanced, advanced-at}
use Rattle.intake.specs.Append.{place_of, packet, deadline_of, appended}
use Rattle.intake.specs.Intake.{took_in, length-took_in}
use Rattle.intake.specs.Taken.{took_in-front, took_in-kept, took_in-taken, took_in-other, new-service, new-envelope, as_appended}
use Rattle.history.specs.Image.{fields_of, block_of}
use Rattle.history.specs.Block.{after_tables, Reads, block_reads, reads-block, service-is, envelope-is, service-ahead-is, envelope-ahead-is}
use Rattle.history.specs.After.{ahead_table, due_of, last_at, ring_of, moving_at}
use Rattle.history.specs.Tables.{length-ahead, ahead-at, table-holds, length-ring, ring-at, fitting, last-here, last-other, last-most, due-old, due-new}

-- past its end a table reads 0
default : (l : List ℕ) (j : ℕ) → length l ≤ j → get_or l j 0 ≡ 0
default l j h = get_or-eq_default l 0 {n = j} h

-- THE RING: k deadlines more, each in its packet's place. g N is the deadline of packet N
ring-puts : (b : List ℕ) (A : ℕ) (f g : ℕ → ℕ) → length b ≡ block_numbers → (k j : ℕ) → j < ring → get_or b (deadlines_at + j) 0 ≡ g (last_at A j)
    → ((q : ℕ) → q < k → f q ≡ g (suc (A + q)))
    → get_or (puts b (λ q. place_of (A + (q + 1))) f k) (deadlines_at + j) 0 ≡ g (last_at (A + k) j)
unfolding puts
ring-puts b A f g size zero j h old new =
    let e : A ≡ A + 0 = omega arith in
    old ∙ ap (λ x. g (last_at x j)) e
ring-puts b A f g size (suc k) j h old new = go (ring-puts b A f g size k j h old (λ q l. new q (omega arith))) (ℕ_discrete ((A + k) % ring) j)
  where
    p : ℕ → ℕ
    p q = place_of (A + (q + 1))

    up : suc (A + k) ≡ A + suc k
    up = omega arith

    go : get_or (puts b p f k) (deadlines_at + j) 0 ≡ g (last_at (A + k) j) → Dec ((A + k) % ring ≡ j) → get_or (set (puts b p f k) (p k) (f k)) (deadlines_at + j) 0 ≡ g (last_at (A + suc k) j)
    go ih (yes e) =
        let place : p k ≡ deadlines_at + j = omega arith in
        ap (λ x. get_or (set (puts b p f k) (p k) (f k)) x 0) (sym place)
        ∙ get_or-set_same (puts b p f k) (p k) (f k) 0 (omega (arith, length-puts b p f k))
        ∙ new k (omega arith)
        ∙ ap g (sym (last-here (A + k) j e))
        ∙ ap (λ x. g (last_at x j)) up
    go ih (no n) =
        get_or-set_other (puts b p f k) (p k) (deadlines_at + j) (f k) 0 (λ e. n (omega arith))
        ∙ ih
        ∙ ap g (sym (last-other (A + k) j n))
        ∙ ap (λ x. g (last_at x j)) up

-- a look-up that tells a slot, so many slots on
shifted : (u : ℕ) (d : Due) → d ≡ slot (slots_of d) → slots_of (shift u d) ≡ u + slots_of d
unfolding slots_of shift
shifted u (slot m) e = refl
shifted u never e = absurd (apart e)
  where
    is-slot : Due → ℕ
    is-slot (slot m) = 1
    is-slot never = 0

    apart : never ≡ slot 0 → ⊥
    apart e = omega (arith, ap is-slot e)

module _ (P : ℕ) (s : Session) (made : WellMadeSession P s) (a : ℕ → ℕ) (sent t : ℕ) where
  -- the block after t slots
  abbrev before : List ℕ
  before = block_of s (moving_at P s a sent t)

  pub before-reads : Reads s (moving_at P s a sent t) before
  before-reads = block_reads s (moving_at P s a sent t) (fitting P s made a sent t)

  -- THE TABLE AHEAD of either curve, one slot further
  ahead-next : (F : Curve) → IsCurve P F → (j : ℕ) → j < length F.table
      → get_or (advanced P (kept_curve F (ahead_table P F (total a) t)) (total a t + a t) F.table) j 0 ≡ get_or (ahead_table P F (total a) (suc t)) j 0
  ahead-next F good j h =
      let e : j + 2 ≡ suc (suc j) = omega arith in
      advanced-at P (kept_curve F (ahead_table P F (total a) t)) (total a t + a t) F.table j h
      ∙ ap₂ min (ap (at P (kept_curve F (ahead_table P F (total a) t))) e ∙ kept_at P F good (total a) t (ahead_table P F (total a) t) (table-holds P F (total a) t) (suc (suc j)) (omega arith))
      (ap₂ ◌+◌ (sym (total-suc a t)) (sym (at_table P F j h)))
      ∙ sym (ahead-suc (at P F) (total a) t (suc j))
      ∙ sym (ahead-at P F (total a) (suc t) j h)

  module _ (ok : Sound before P t) where
    abbrev D : ℕ → Due
    D = delay P s.service

    taken_is : get_or before taken_at 0 ≡ total a t
    taken_is = before-reads.fields taken_at (omega arith)

    -- THE DEADLINE of a packet of this slot
    new-due : (N : ℕ) → total a t < N → 1 ≤ a t → deadline_of before P t N ≡ due_of D a N (suc t)
    unfolding deadline_of
    new-due N l some =
        let S = s.service in
        let kept = kept_curve S (ahead_table P S (total a) t) in
        let is : service_ahead before ≡ kept = service-ahead-is s (moving_at P s a sent t) before (fitting P s made a sent t) before-reads in
        sym (due-new D a N t l
        ∙ ap slots_of (deadline-table P S made.service.curve a N t some (ahead_table P S (total a) t) (table-holds P S (total a) t))
        ∙ ap (λ (F : Curve). slots_of (shift t (delay P F N))) (sym is)
        ∙ shifted t (delay P (service_ahead before) N) (delay-slot P (service_ahead before) ok.service-ahead ok.numbers.promises N))

    -- the ring after the slot
    ring-next : (k : ℕ) → k ≡ a t → (j : ℕ) → j < ring → get_or (took_in before P t k) (deadlines_at + j) 0 ≡ get_or (ring_of D a (suc t)) j 0
    unfolding appended
    ring-next k e j h =
        as_appended before P t ok k (deadlines_at + j) (omega arith)
        ∙ ring-puts before (get_or before taken_at 0) (λ q. deadline_of before P t (packet before q)) (λ N. due_of D a N (suc t)) before-reads.size k j h old new
        ∙ ap (λ A. due_of D a (last_at A j) (suc t)) all
        ∙ sym (ring-at D a (suc t) j h)
      where
        all : get_or before taken_at 0 + k ≡ total a (suc t)
        all = omega (arith, taken_is, total-suc a t)

        old : get_or before (deadlines_at + j) 0 ≡ due_of D a (last_at (get_or before taken_at 0) j) (suc t)
        old =
            before-reads.deadlines j (omega arith)
            ∙ ring-at D a t j h
            ∙ sym (due-old D a (last_at (total a t) j) t (last-most (total a t) j))
            ∙ ap (λ A. due_of D a (last_at A j) (suc t)) (sym taken_is)

        new : (q : ℕ) → q < k → deadline_of before P t (packet before q) ≡ due_of D a (suc (get_or before taken_at 0 + q)) (suc t)
        new q l =
            let n : packet before q ≡ suc (get_or before taken_at 0 + q) = omega arith in
            ap (deadline_of before P t) n ∙ new-due (suc (get_or before taken_at 0 + q)) (omega (arith, taken_is)) (omega arith)

    module _ (k : ℕ) (e : k ≡ a t) where
      fields : (i : ℕ) → i < service_at → get_or (took_in before P t k) i 0 ≡ get_or (fields_of s (moving_at P s a sent (suc t))) i 0
      fields i h = go (ℕ_discrete i taken_at)
        where
          go : Dec (i ≡ taken_at) → get_or (took_in before P t k) i 0 ≡ get_or (fields_of s (moving_at P s a sent (suc t))) i 0
          go (yes f) = rw f (took_in-taken before P t ok k ∙ omega (arith, taken_is, total-suc a t))
          go (no n) =
              took_in-front before P t ok k i (omega arith) n ∙ before-reads.fields i h
              ∙ sym (get_or-set_other (fields_of s (moving_at P s a sent t)) taken_at i (total a (suc t)) 0 n)

      -- a table ahead in its place: the numbers of the step, and zeros past them
      table-next : (place n : ℕ) (F : Curve) → IsCurve P F → n ≡ length F.table
          → ((j : ℕ) → j < longest_table → get_or before (place + j) 0 ≡ get_or (ahead_table P F (total a) t) j 0)
          → ((j : ℕ) → j < longest_table → n ≤ j → get_or (took_in before P t k) (place + j) 0 ≡ get_or before (place + j) 0)
          → part place n (took_in before P t k) ≡ advanced P (kept_curve F (ahead_table P F (total a) t)) (total a t + a t) F.table
          → (j : ℕ) → j < longest_table → get_or (took_in before P t k) (place + j) 0 ≡ get_or (ahead_table P F (total a) (suc t)) j 0
      table-next place n F good size old kept new j h = go (le_or_lt n j)
        where
          go : (n ≤ j) ⊎ (j < n) → get_or (took_in before P t k) (place + j) 0 ≡ get_or (ahead_table P F (total a) (suc t)) j 0
          go (inl l) =
              kept j h l
              ∙ old j h
              ∙ default (ahead_table P F (total a) t) j (omega (arith, length-ahead P F (total a) t))
              ∙ sym (default (ahead_table P F (total a) (suc t)) j (omega (arith, length-ahead P F (total a) (suc t))))
          go (inr l) =
              sym (part_at (took_in before P t k) place n j l) ∙ ap (λ (z : List ℕ). get_or z j 0) new ∙ ahead-next F good j (omega arith)

      -- the step over the curves of the block is the step over those of the session
      step_is : (F G : Curve) (ahead own : Curve) → ahead ≡ F → own ≡ G
          → advanced P ahead (get_or before taken_at 0 + k) own.table ≡ advanced P F (total a t + a t) G.table
      step_is F G ahead own f g =
          ap₂ (λ (x : Curve) (y : Curve). advanced P x (get_or before taken_at 0 + k) y.table) f g ∙ ap (λ A. advanced P F A G.table) (ap₂ ◌+◌ taken_is e)

      service-next : (j : ℕ) → j < longest_table → get_or (took_in before P t k) (service_ahead_at + j) 0 ≡ get_or (ahead_table P s.service (total a) (suc t)) j 0
      service-next =
          let fit = fitting P s made a sent t in
          table-next service_ahead_at (get_or before service_length_at 0) s.service made.service.curve (before-reads.fields service_length_at (omega arith)) before-reads.service_aheads
          (λ j h l. took_in-kept before P t ok k (service_ahead_at + j) (omega arith) (omega arith) (inr (omega arith)) (inl (omega arith)))
          (new-service before P t ok k ∙ step_is _ s.service _ _ (service-ahead-is s _ before fit before-reads) (service-is s _ before fit before-reads))

      envelope-next : (j : ℕ) → j < longest_table → get_or (took_in before P t k) (envelope_ahead_at + j) 0 ≡ get_or (ahead_table P s.envelope (total a) (suc t)) j 0
      envelope-next =
          let fit = fitting P s made a sent t in
          table-next envelope_ahead_at (get_or before envelope_length_at 0) s.envelope made.envelope.curve (before-reads.fields envelope_length_at (omega arith)) before-reads.envelope_aheads
          (λ j h l. took_in-kept before P t ok k (envelope_ahead_at + j) (omega arith) (omega arith) (inr (omega (arith, ok.numbers.service-short))) (inr (omega arith)))
          (new-envelope before P t ok k ∙ step_is _ s.envelope _ _ (envelope-ahead-is s _ before fit before-reads) (envelope-is s _ before fit before-reads))

      -- INTAKE IS EXACT
      pub intake_block : took_in before P t k ≡ block_of s (moving_at P s a sent (suc t))
      intake_block =
          reads-block s (moving_at P s a sent (suc t)) (took_in before P t k) (fitting P s made a sent (suc t))
          (record {
            size = length-took_in before P t k ∙ before-reads.size;
            fields = fields;
            services = λ j h. took_in-front before P t ok k (service_at + j) (omega arith) (omega arith) ∙ before-reads.services j h;
            envelopes = λ j h. took_in-front before P t ok k (envelope_at + j) (omega arith) (omega arith) ∙ before-reads.envelopes j h;
            service_aheads = service-next;
            envelope_aheads = envelope-next;
            deadlines = λ j h. ring_or_past j h (le_or_lt ring j);
          })
        where
          ring_or_past : (j : ℕ) → j < after_tables → (ring ≤ j) ⊎ (j < ring) → get_or (took_in before P t k) (deadlines_at + j) 0 ≡ get_or (ring_of D a (suc t)) j 0
          ring_or_past j h (inr l) = ring-next k e j l
          ring_or_past j h (inl l) =
              took_in-other before P t ok k (deadlines_at + j) (omega arith) (λ q i f. omega arith)
              ∙ before-reads.deadlines j h
              ∙ default (ring_of D a t) j (omega (arith, length-ring D a t))
              ∙ sym (default (ring_of D a (suc t)) j (omega (arith, length-ring D a (suc t))))
