-- The deadlines of the packets that a slot takes in, written into the ring. Packet N is due after the slots done and as many more as what lies ahead takes to give N packets. Assumes nothing.
use Rattle.std.specs.Prelude.{◌≡◌, ℕ, ◌+◌, ◌-◌, ◌%◌, ◌≤◌, ◌<◌, length, get_or, take, drop}
use Rattle.std.proofs.Common.{sym, ap, ◌∙◌, arith}
use Rattle.std.proofs.Math.Path.{ap₂}
use mathlib.Core.List.{List}
use Rattle.std.proofs.Math.ListN.{set}
use Rattle.curve.specs.Delay.{slot, slots_of, delay}
use Rattle.layout.specs.Layout.{ring, deadlines_at, service_length_at, taken_at, service_ahead_at, part, service_ahead}
use Rattle.layout.specs.Sound.{Sound, most_slots}
use Rattle.intake.specs.Share.{free_of}
use Rattle.layout.specs.Part.{part_length, part_same, part_lent}
use Rattle.intake.specs.Due.{Seeks}
use Rattle.layout.specs.Over.{puts, puts_none, puts-more, puts_out, length-puts}

-- where the deadline of packet N stands
abbrev pub place_of : ℕ → ℕ
place_of N = deadlines_at + (N - 1) % ring

-- the deadline of packet N, taken in when `done` slots are done. With a rate of at least 1 the look-up never tells never
unfoldable pub deadline_of : List ℕ → ℕ → ℕ → ℕ → ℕ
deadline_of b P done N = done + slots_of (delay P (service_ahead b) N)

pub deadline-is : (b : List ℕ) (P done N m : ℕ) → delay P (service_ahead b) N ≡ slot m → deadline_of b P done N ≡ done + m
unfolding deadline_of slots_of
deadline-is b P done N m e = ap (λ d. done + slots_of d) e

-- the number of the q-th packet taken in, from 0
abbrev pub packet : List ℕ → ℕ → ℕ
packet b q = get_or b taken_at 0 + (q + 1)

-- the block with the deadlines of the next packets, `taken` of them
unfoldable pub appended : List ℕ → ℕ → ℕ → ℕ → List ℕ
appended b P done taken = puts b (λ q. place_of (packet b q)) (λ q. deadline_of b P done (packet b q)) taken

module _ (b : List ℕ) (P done : ℕ) where
  pub appended-none : appended b P done 0 ≡ b
  unfolding appended
  appended-none = puts_none b _ _

  pub length-appended : (k : ℕ) → length (appended b P done k) ≡ length b
  unfolding appended
  length-appended k = length-puts b _ _ k

  -- no number before the ring is written
  pub appended_out : (k i : ℕ) → i < deadlines_at → get_or (appended b P done k) i 0 ≡ get_or b i 0
  unfolding appended
  appended_out k i h = puts_out b _ _ k i (λ j s e. omega arith)

  -- the next deadline: what the look-up tells is what the definition names
  pub appended-more : (z : List ℕ) (q m : ℕ) → z ≡ appended b P done q → delay P (service_ahead b) (packet b q) ≡ slot m
      → set z (place_of (packet b q)) (done + m) ≡ appended b P done (q + 1)
  unfolding appended
  appended-more z q m e f =
      ap₂ (λ (y : List ℕ) (v : ℕ). set y (place_of (packet b q)) v) e (sym (deadline-is b P done (packet b q) m f))
      ∙ puts-more b (λ q. place_of (packet b q)) (λ q. deadline_of b P done (packet b q)) q

  module _ (ok : Sound b P done) where
    -- the part that is lent to the look-up: no deadline is written there
    pub ahead_lent : (z : List ℕ) (k : ℕ) → z ≡ appended b P done k
        → take (service_ahead_at + get_or b service_length_at 0 - service_ahead_at) (drop service_ahead_at z) ≡ part service_ahead_at (get_or b service_length_at 0) b
    ahead_lent z k e =
        let n : get_or b service_length_at 0 ≤ 64 = ok.numbers.service-short in
        let s : length b ≡ 752 = ok.size in
        ap (λ (y : List ℕ). take (service_ahead_at + get_or b service_length_at 0 - service_ahead_at) (drop service_ahead_at y)) e
        ∙ part_lent (appended b P done k) service_ahead_at (get_or b service_length_at 0)
        ∙ part_same b (appended b P done k) service_ahead_at (get_or b service_length_at 0) (length-appended k) (omega arith) (λ i l. appended_out k (service_ahead_at + i) (omega arith))

    -- what the look-up asks
    pub seeks : done < most_slots → (q : ℕ) → q < free_of b → Seeks P (service_ahead b) (packet b q)
    seeks h q l =
        let n : get_or b service_length_at 0 ≤ 64 = ok.numbers.service-short in
        let s : length b ≡ 752 = ok.size in
        record {
          curve = ok.service-ahead;
          few = ok.few;
          short = omega (arith, part_length b service_ahead_at (get_or b service_length_at 0) (omega arith));
          promises = ok.numbers.promises;
          rate = ok.numbers.service-rate;
          small = ok.service-ahead-small;
          wanted = omega (arith, ok.numbers.room, ok.numbers.in_order, ok.numbers.sent-few, ok.numbers.waiting);
        }
