-- How a session's block reads, place by place: its plain numbers, four tables and the deadlines, with zeros between. A list that reads so is the block. Assumes nothing.
use Rattle.std.specs.Prelude.{◌≡◌, ◌⊎◌, ◌≢◌, List, length, get_or, set, replicate}
use Rattle.std.proofs.Common.{sym, ap₂, ◌∙◌, inl, inr, length-set, ext_get_or, get_or-set_same, get_or-set_other}
use Prim.Native.Nat.{ℕ, zero, ◌+◌, ◌-◌, ◌≤◌, ◌<◌}
use native.Mathlib.Omega.{arith}
use Rattle.std.proofs.Math.Decide.{ℕ_discrete}
use Rattle.std.proofs.Math.ListN.{length-replicate, get_or-eq_default}
use Rattle.curve.proofs.OrderLaws.{le_or_lt}
use Rattle.curve.specs.Curve.{Curve}
use Rattle.sheet.specs.Limits.{longest_table}
use Rattle.sheet.specs.Sheet.{Session}
use Rattle.layout.specs.Layout.{block_numbers, service_length_at, envelope_length_at, service_rate_at, envelope_rate_at, sent_at, service_at, envelope_at, service_ahead_at, envelope_ahead_at, deadlines_at, ring, part, service, envelope, service_ahead, envelope_ahead}
use Rattle.layout.specs.Part.{part_length, part_at}
use Rattle.layout.specs.Over.{over, length_over, over_out, over_inside}
use Rattle.layout.specs.Splice.{zeros-at}
use Rattle.history.specs.Image.{Moving, fields_of, ShortTables, block_of}

-- the numbers past the four tables: the ring, and zeros to the block's end
abbrev pub after_tables : ℕ
after_tables = block_numbers - deadlines_at

pub record Reads (s : Session) (m : Moving) (b : List ℕ) : Type 0 where
  pub size : length b ≡ block_numbers
  pub fields : (i : ℕ) → i < service_at → get_or b i 0 ≡ get_or (fields_of s m) i 0
  pub services : (j : ℕ) → j < longest_table → get_or b (service_at + j) 0 ≡ get_or s.service.table j 0
  pub envelopes : (j : ℕ) → j < longest_table → get_or b (envelope_at + j) 0 ≡ get_or s.envelope.table j 0
  pub service_aheads : (j : ℕ) → j < longest_table → get_or b (service_ahead_at + j) 0 ≡ get_or m.service-ahead j 0
  pub envelope_aheads : (j : ℕ) → j < longest_table → get_or b (envelope_ahead_at + j) 0 ≡ get_or m.envelope-ahead j 0
  pub deadlines : (j : ℕ) → j < after_tables → get_or b (deadlines_at + j) 0 ≡ get_or m.deadlines j 0

-- what changes has its tables in full
pub record Fitting (s : Session) (m : Moving) : Type 0 where
  pub short : ShortTables s
  pub service-ahead : length m.service-ahead ≡ length s.service.table
  pub envelope-ahead : length m.envelope-ahead ≡ length s.envelope.table
  pub deadlines : length m.deadlines ≡ ring

-- numbers written over zeros: past them there are zeros still
over_zero : (l : List ℕ) (a w : ℕ) (new : List ℕ) → length new ≤ w → a + w ≤ length l → ((j : ℕ) → j < w → get_or l (a + j) 0 ≡ 0)
    → (j : ℕ) → j < w → get_or (over l a new) (a + j) 0 ≡ get_or new j 0
over_zero l a w new n f z j h = go (le_or_lt (length new) j)
  where
    go : (length new ≤ j) ⊎ (j < length new) → get_or (over l a new) (a + j) 0 ≡ get_or new j 0
    go (inl k) = over_out l a new (a + j) (inr (omega arith)) ∙ z j h ∙ sym (get_or-eq_default new 0 {n = j} k)
    go (inr k) = over_inside l a new (omega arith) j k

pub length-block : (s : Session) (m : Moving) → length (block_of s m) ≡ block_numbers
unfolding block_of
length-block s m =
    length_over _ deadlines_at _
    ∙ length_over _ envelope_ahead_at _
    ∙ length_over _ service_ahead_at _
    ∙ length_over _ envelope_at _
    ∙ length_over _ service_at _
    ∙ length_over (replicate block_numbers 0) 0 (fields_of s m)
    ∙ length-replicate block_numbers zero

-- THE BLOCK READS SO
module _ (s : Session) (m : Moving) (fit : Fitting s m) where
  unfoldable one : List ℕ
  one = over (replicate block_numbers 0) 0 (fields_of s m)

  unfoldable two : List ℕ
  two = over one service_at s.service.table

  unfoldable three : List ℕ
  three = over two envelope_at s.envelope.table

  unfoldable four : List ℕ
  four = over three service_ahead_at m.service-ahead

  unfoldable five : List ℕ
  five = over four envelope_ahead_at m.envelope-ahead

  n-one : length one ≡ block_numbers
  unfolding one
  n-one = length_over (replicate block_numbers 0) 0 (fields_of s m) ∙ length-replicate block_numbers zero

  n-two : length two ≡ block_numbers
  unfolding two
  n-two = length_over one service_at _ ∙ n-one

  n-three : length three ≡ block_numbers
  unfolding three
  n-three = length_over two envelope_at _ ∙ n-two

  n-four : length four ≡ block_numbers
  unfolding four
  n-four = length_over three service_ahead_at _ ∙ n-three

  n-five : length five ≡ block_numbers
  unfolding five
  n-five = length_over four envelope_ahead_at _ ∙ n-four

  -- past what is written so far there are zeros
  zero_one : (x : ℕ) → service_at ≤ x → get_or one x 0 ≡ 0
  unfolding one
  zero_one x h = over_out (replicate block_numbers 0) 0 (fields_of s m) x (inr (omega arith)) ∙ zeros-at block_numbers x

  zero-two : (x : ℕ) → envelope_at ≤ x → get_or two x 0 ≡ 0
  unfolding two
  zero-two x h = over_out one service_at _ x (inr (omega (arith, fit.short.service))) ∙ zero_one x (omega arith)

  zero-three : (x : ℕ) → service_ahead_at ≤ x → get_or three x 0 ≡ 0
  unfolding three
  zero-three x h = over_out two envelope_at _ x (inr (omega (arith, fit.short.envelope))) ∙ zero-two x (omega arith)

  zero-four : (x : ℕ) → envelope_ahead_at ≤ x → get_or four x 0 ≡ 0
  unfolding four
  zero-four x h = over_out three service_ahead_at _ x (inr (omega (arith, fit.service-ahead, fit.short.service))) ∙ zero-three x (omega arith)

  zero-five : (x : ℕ) → deadlines_at ≤ x → get_or five x 0 ≡ 0
  unfolding five
  zero-five x h = over_out four envelope_ahead_at _ x (inr (omega (arith, fit.envelope-ahead, fit.short.envelope))) ∙ zero-four x (omega arith)

  -- what is written later lies further on
  later-five : (x : ℕ) → x < deadlines_at → get_or (block_of s m) x 0 ≡ get_or five x 0
  unfolding block_of one two three four five
  later-five x h = over_out five deadlines_at m.deadlines x (inl h)

  later-four : (x : ℕ) → x < envelope_ahead_at → get_or (block_of s m) x 0 ≡ get_or four x 0
  unfolding five
  later-four x h = later-five x (omega arith) ∙ over_out four envelope_ahead_at _ x (inl h)

  later-three : (x : ℕ) → x < service_ahead_at → get_or (block_of s m) x 0 ≡ get_or three x 0
  unfolding four
  later-three x h = later-four x (omega arith) ∙ over_out three service_ahead_at _ x (inl h)

  later-two : (x : ℕ) → x < envelope_at → get_or (block_of s m) x 0 ≡ get_or two x 0
  unfolding three
  later-two x h = later-three x (omega arith) ∙ over_out two envelope_at _ x (inl h)

  later-one : (x : ℕ) → x < service_at → get_or (block_of s m) x 0 ≡ get_or one x 0
  unfolding two
  later-one x h = later-two x (omega arith) ∙ over_out one service_at _ x (inl h)

  pub block_reads : Reads s m (block_of s m)
  unfolding block_of one two three four five
  block_reads =
      let n = length-replicate block_numbers zero in
      record {
        size = length-block s m;
        fields = λ i h.
            let e : 0 + i ≡ i = omega arith in
            later-one i h ∙ (rw e at (over_zero (replicate block_numbers 0) 0 service_at (fields_of s m) (omega arith) (omega arith) (λ j k. zeros-at block_numbers (0 + j)) i h));
        services = λ j h.
            later-two (service_at + j) (omega arith)
            ∙ over_zero one service_at longest_table s.service.table fit.short.service (omega (arith, n-one)) (λ k l. zero_one (service_at + k) (omega arith)) j h;
        envelopes = λ j h.
            later-three (envelope_at + j) (omega arith)
            ∙ over_zero two envelope_at longest_table s.envelope.table fit.short.envelope (omega (arith, n-two)) (λ k l. zero-two (envelope_at + k) (omega arith)) j h;
        service_aheads = λ j h.
            later-four (service_ahead_at + j) (omega arith)
            ∙ over_zero three service_ahead_at longest_table m.service-ahead (omega (arith, fit.service-ahead, fit.short.service)) (omega (arith, n-three)) (λ k l. zero-three (service_ahead_at + k) (omega arith)) j h;
        envelope_aheads = λ j h.
            later-five (envelope_ahead_at + j) (omega arith)
            ∙ over_zero four envelope_ahead_at longest_table m.envelope-ahead (omega (arith, fit.envelope-ahead, fit.short.envelope)) (omega (arith, n-four)) (λ k l. zero-four (envelope_ahead_at + k) (omega arith)) j h;
        deadlines = over_zero five deadlines_at after_tables m.deadlines (omega (arith, fit.deadlines)) (omega (arith, n-five)) (λ k l. zero-five (deadlines_at + k) (omega arith));
      }

-- ONE BLOCK: two lists that read so are one
pub reads-one : (s : Session) (m : Moving) (b c : List ℕ) → Reads s m b → Reads s m c → b ≡ c
reads-one s m b c x y =
    ext_get_or 0 b c (x.size ∙ sym y.size)
    (λ i h. go i (omega (arith, x.size)) (le_or_lt service_at i) (le_or_lt envelope_at i) (le_or_lt service_ahead_at i) (le_or_lt envelope_ahead_at i) (le_or_lt deadlines_at i))
  where
    there : (a i : ℕ) (l : List ℕ) → a ≤ i → get_or b (a + (i - a)) 0 ≡ get_or l (i - a) 0 → get_or c (a + (i - a)) 0 ≡ get_or l (i - a) 0 → get_or b i 0 ≡ get_or c i 0
    there a i l h p q =
        let e : a + (i - a) ≡ i = omega arith in
        rw e at (p ∙ sym q)

    go : (i : ℕ) → i < block_numbers → (service_at ≤ i) ⊎ (i < service_at) → (envelope_at ≤ i) ⊎ (i < envelope_at) → (service_ahead_at ≤ i) ⊎ (i < service_ahead_at)
        → (envelope_ahead_at ≤ i) ⊎ (i < envelope_ahead_at) → (deadlines_at ≤ i) ⊎ (i < deadlines_at) → get_or b i 0 ≡ get_or c i 0
    go i h (inr p) q r u v = x.fields i p ∙ sym (y.fields i p)
    go i h (inl p) (inr q) r u v = there service_at i s.service.table p (x.services (i - service_at) (omega arith)) (y.services (i - service_at) (omega arith))
    go i h (inl p) (inl q) (inr r) u v = there envelope_at i s.envelope.table q (x.envelopes (i - envelope_at) (omega arith)) (y.envelopes (i - envelope_at) (omega arith))
    go i h (inl p) (inl q) (inl r) (inr u) v =
        there service_ahead_at i m.service-ahead r (x.service_aheads (i - service_ahead_at) (omega arith)) (y.service_aheads (i - service_ahead_at) (omega arith))
    go i h (inl p) (inl q) (inl r) (inl u) (inr v) =
        there envelope_ahead_at i m.envelope-ahead u (x.envelope_aheads (i - envelope_ahead_at) (omega arith)) (y.envelope_aheads (i - envelope_ahead_at) (omega arith))
    go i h (inl p) (inl q) (inl r) (inl u) (inl v) =
        there deadlines_at i m.deadlines v (x.deadlines (i - deadlines_at) (omega arith)) (y.deadlines (i - deadlines_at) (omega arith))

pub reads-block : (s : Session) (m : Moving) (b : List ℕ) → Fitting s m → Reads s m b → b ≡ block_of s m
reads-block s m b fit r = reads-one s m b (block_of s m) r (block_reads s m fit)

-- another number of packets sent
abbrev pub with_sent : Moving → ℕ → Moving
with_sent m n = record { taken = m.taken; sent = n; service-ahead = m.service-ahead; envelope-ahead = m.envelope-ahead; deadlines = m.deadlines }

pub block-sent : (s : Session) (m : Moving) → Fitting s m → (n : ℕ) → set (block_of s m) sent_at n ≡ block_of s (with_sent m n)
block-sent s m fit n =
    reads-block s (with_sent m n) (set (block_of s m) sent_at n) (record { short = fit.short; service-ahead = fit.service-ahead; envelope-ahead = fit.envelope-ahead; deadlines = fit.deadlines })
    (record {
      size = length-set (block_of s m) sent_at n ∙ r.size;
      fields = λ i h. go i h (ℕ_discrete i sent_at);
      services = λ j h. other (service_at + j) (omega arith) ∙ r.services j h;
      envelopes = λ j h. other (envelope_at + j) (omega arith) ∙ r.envelopes j h;
      service_aheads = λ j h. other (service_ahead_at + j) (omega arith) ∙ r.service_aheads j h;
      envelope_aheads = λ j h. other (envelope_ahead_at + j) (omega arith) ∙ r.envelope_aheads j h;
      deadlines = λ j h. other (deadlines_at + j) (omega arith) ∙ r.deadlines j h;
    })
  where
    r : Reads s m (block_of s m)
    r = block_reads s m fit

    other : (x : ℕ) → x ≢ sent_at → get_or (set (block_of s m) sent_at n) x 0 ≡ get_or (block_of s m) x 0
    other x d = get_or-set_other (block_of s m) sent_at x n 0 d

    go : (i : ℕ) → i < service_at → Dec (i ≡ sent_at) → get_or (set (block_of s m) sent_at n) i 0 ≡ get_or (fields_of s (with_sent m n)) i 0
    go i h (yes e) = rw e (get_or-set_same (block_of s m) sent_at n 0 (omega (arith, r.size)))
    go i h (no d) = other i d ∙ r.fields i h ∙ sym (get_or-set_other (fields_of s m) sent_at i n 0 d)

-- its four curves
module _ (s : Session) (m : Moving) (b : List ℕ) (fit : Fitting s m) (r : Reads s m b) where
  table_is : (a n : ℕ) (l : List ℕ) → n ≡ length l → length l ≤ longest_table → a + longest_table ≤ block_numbers
      → ((j : ℕ) → j < longest_table → get_or b (a + j) 0 ≡ get_or l j 0) → part a n b ≡ l
  table_is a n l e h f g =
      let k : length (part a n b) ≡ n = part_length b a n (omega (arith, r.size)) in
      ext_get_or 0 (part a n b) l (k ∙ e) (λ i q. part_at b a n i (omega arith) ∙ g i (omega arith))

  service-count : get_or b service_length_at 0 ≡ length s.service.table
  service-count = r.fields service_length_at (omega arith)

  envelope-count : get_or b envelope_length_at 0 ≡ length s.envelope.table
  envelope-count = r.fields envelope_length_at (omega arith)

  curve-is : (t l : List ℕ) (q v : ℕ) → t ≡ l → q ≡ v → ◌≡◌ {A = Curve} (record { table = t; rate = q }) (record { table = l; rate = v })
  curve-is t l q v e f = ap₂ (λ (x : List ℕ) (y : ℕ). record { table = x; rate = y }) e f

  pub service-is : service b ≡ s.service
  service-is =
      curve-is _ s.service.table _ s.service.rate (table_is service_at _ s.service.table service-count fit.short.service (omega arith) r.services) (r.fields service_rate_at (omega arith))

  pub envelope-is : envelope b ≡ s.envelope
  envelope-is =
      curve-is _ s.envelope.table _ s.envelope.rate (table_is envelope_at _ s.envelope.table envelope-count fit.short.envelope (omega arith) r.envelopes) (r.fields envelope_rate_at (omega arith))

  pub service-ahead-is : service_ahead b ≡ record { table = m.service-ahead; rate = s.service.rate }
  service-ahead-is =
      let n = fit.service-ahead in
      curve-is _ m.service-ahead _ s.service.rate
      (table_is service_ahead_at _ m.service-ahead (service-count ∙ sym n) (omega (arith, fit.short.service)) (omega arith) r.service_aheads) (r.fields service_rate_at (omega arith))

  pub envelope-ahead-is : envelope_ahead b ≡ record { table = m.envelope-ahead; rate = s.envelope.rate }
  envelope-ahead-is =
      let n = fit.envelope-ahead in
      curve-is _ m.envelope-ahead _ s.envelope.rate
      (table_is envelope_ahead_at _ m.envelope-ahead (envelope-count ∙ sym n) (omega (arith, fit.short.envelope)) (omega arith) r.envelope_aheads) (r.fields envelope_rate_at (omega arith))
