-- The block after a slot's intake, number by number: what it leaves alone, and what each new number is. Assumes nothing.
use Rattle.std.specs.Prelude.{◌≢◌, ◌⊎◌, ◌≡◌, List, ℕ, ◌+◌, ◌≤◌, ◌<◌}
use Rattle.std.proofs.Math.Logic.{inl, inr}
use Rattle.std.proofs.Common.{sym, ◌∙◌, arith}
use Rattle.std.proofs.Math.Path.{ap}
use Rattle.std.proofs.Math.ListN.{length, get_or}
use Rattle.std.proofs.Math.Seq.{get_or-set_same, get_or-set_other}
use Rattle.layout.specs.Layout.{service_length_at, envelope_length_at, taken_at, service_ahead_at, envelope_ahead_at, deadlines_at, part, service, envelope, service_ahead, envelope_ahead}
use Rattle.layout.specs.Sound.{Sound}
use Rattle.layout.specs.Part.{part_same}
use Rattle.layout.specs.Over.{puts_out, length_over, over_out, over-part}
use Rattle.intake.specs.Advance.{advanced}
use Rattle.intake.specs.Append.{place_of, packet, deadline_of, appended, length-appended}
use Rattle.intake.specs.Intake.{counted, served, took_in, length-counted, length-served, counted_out, service-count, envelope-count}

module _ (b : List ℕ) (P done : ℕ) (ok : Sound b P done) (k : ℕ) where
  -- outside what lies ahead of the two curves, it is as counted
  as_counted : (i : ℕ) → (i < service_ahead_at) ⊎ (service_ahead_at + get_or b service_length_at 0 ≤ i) → (i < envelope_ahead_at) ⊎ (envelope_ahead_at + get_or b envelope_length_at 0 ≤ i)
      → get_or (took_in b P done k) i 0 ≡ get_or (counted b P done k) i 0
  unfolding took_in served
  as_counted i d e = over_out (served b P done k) envelope_ahead_at _ i (two e) ∙ over_out (counted b P done k) service_ahead_at _ i (one d)
    where
      one : (i < service_ahead_at) ⊎ (service_ahead_at + get_or b service_length_at 0 ≤ i)
          → (i < service_ahead_at) ⊎ (service_ahead_at + length (advanced P (service_ahead b) (get_or b taken_at 0 + k) (service b).table) ≤ i)
      one (inl a) = inl a
      one (inr a) = inr (omega (arith, service-count b P done k ok))

      two : (i < envelope_ahead_at) ⊎ (envelope_ahead_at + get_or b envelope_length_at 0 ≤ i)
          → (i < envelope_ahead_at) ⊎ (envelope_ahead_at + length (advanced P (envelope_ahead b) (get_or b taken_at 0 + k) (envelope b).table) ≤ i)
      two (inl a) = inl a
      two (inr a) = inr (omega (arith, envelope-count b P done k ok))

  -- before the ring, all but the number taken in and what lies ahead is left alone
  pub took_in-kept : (i : ℕ) → i < deadlines_at → i ≢ taken_at
      → (i < service_ahead_at) ⊎ (service_ahead_at + get_or b service_length_at 0 ≤ i)
      → (i < envelope_ahead_at) ⊎ (envelope_ahead_at + get_or b envelope_length_at 0 ≤ i)
      → get_or (took_in b P done k) i 0 ≡ get_or b i 0
  took_in-kept i h n d e = as_counted i d e ∙ counted_out b P done k i h n

  -- so are the lengths, the room, the rates, the number sent and both curves' own tables
  pub took_in-front : (i : ℕ) → i < service_ahead_at → i ≢ taken_at → get_or (took_in b P done k) i 0 ≡ get_or b i 0
  took_in-front i h n = took_in-kept i (omega arith) n (inl h) (inl (omega arith))

  -- the number taken in
  pub took_in-taken : get_or (took_in b P done k) taken_at 0 ≡ get_or b taken_at 0 + k
  unfolding counted
  took_in-taken =
      as_counted taken_at (inl (omega arith)) (inl (omega arith))
      ∙ get_or-set_same (appended b P done k) taken_at (get_or b taken_at 0 + k) 0 (omega (arith, length-appended b P done k, ok.size))

  -- what lies ahead of the service
  pub new-service : part service_ahead_at (get_or b service_length_at 0) (took_in b P done k) ≡ advanced P (service_ahead b) (get_or b taken_at 0 + k) (service b).table
  unfolding took_in served
  new-service =
      let s : length b ≡ 752 = ok.size in
      let n : get_or b service_length_at 0 ≤ 64 = ok.numbers.service-short in
      let e = service-count b P done k ok in
      part_same (served b P done k) (took_in b P done k) service_ahead_at (get_or b service_length_at 0) (length_over (served b P done k) envelope_ahead_at _) (omega (arith, length-served b P done k))
      (λ i q. over_out (served b P done k) envelope_ahead_at _ (service_ahead_at + i) (inl (omega arith)))
      ∙ ap (λ v. part service_ahead_at v (served b P done k)) (sym e)
      ∙ over-part (counted b P done k) service_ahead_at _ (omega (arith, length-counted b P done k))

  -- and of the envelope
  pub new-envelope : part envelope_ahead_at (get_or b envelope_length_at 0) (took_in b P done k) ≡ advanced P (envelope_ahead b) (get_or b taken_at 0 + k) (envelope b).table
  unfolding took_in
  new-envelope =
      let s : length b ≡ 752 = ok.size in
      let n : get_or b envelope_length_at 0 ≤ 64 = ok.numbers.envelope-short in
      let e = envelope-count b P done k ok in
      ap (λ v. part envelope_ahead_at v (took_in b P done k)) (sym e)
      ∙ over-part (served b P done k) envelope_ahead_at _ (omega (arith, length-served b P done k))

  -- the ring is as the deadlines left it
  pub as_appended : (i : ℕ) → deadlines_at ≤ i → get_or (took_in b P done k) i 0 ≡ get_or (appended b P done k) i 0
  unfolding counted
  as_appended i h =
      as_counted i (inr (omega (arith, ok.numbers.service-short))) (inr (omega (arith, ok.numbers.envelope-short)))
      ∙ get_or-set_other (appended b P done k) taken_at i (get_or b taken_at 0 + k) 0 (omega arith)

  -- a place of the ring that is no new packet's keeps its number
  pub took_in-other : (i : ℕ) → deadlines_at ≤ i → ((q : ℕ) → q < k → place_of (packet b q) ≡ i → ⊥) → get_or (took_in b P done k) i 0 ≡ get_or b i 0
  unfolding appended
  took_in-other i h n = as_appended i h ∙ puts_out b (λ q. place_of (packet b q)) (λ q. deadline_of b P done (packet b q)) k i n
